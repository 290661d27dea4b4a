-- Document 02, §4 (RULES 2): the text of a row of the triangle.
use Rattle.std.specs.Prelude.{ℕ, zero, suc, List, [], ◌∷◌, ◌++◌}
use Rattle.code.specs.Count.{choose}
use Rattle.code.specs.Listing.{decimal}

-- the first numbers of row n, so many, each behind a space
unfoldable pub entries_text : ℕ → ℕ → List ℕ
entries_text n zero = []
entries_text n (suc k) = entries_text n k ++ (32 ∷ decimal (choose n k))

-- the row's number and a colon, C(n, 0) to C(n, n), a line feed
unfoldable pub row_text : ℕ → List ℕ
row_text n = (decimal n ++ (58 ∷ [])) ++ (entries_text n (suc n) ++ (10 ∷ []))

-- the most bytes of these, for rows up to 60
abbrev pub entries_most : ℕ
entries_most = 1281

abbrev pub row_most : ℕ
row_most = 1303
