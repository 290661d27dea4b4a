-- Document 01, "Dealing numbers to patterns" (RULES 4). A pattern is the list of its places' values, leftmost first; a place is written where its value is not 0.
use Rattle.std.specs.Prelude.{ℕ, zero, suc, ◌+◌, ◌*◌, ◌-◌, ◌^◌, ◌/◌, ◌%◌, cond, List, [], ◌∷◌, leb, ltb, length}
use Rattle.code.specs.Count.{choose, fewer, least}

-- "A pattern has k written places"
unfoldable pub written : List ℕ → ℕ
written [] = 0
written (zero ∷ xs) = written xs
written (suc x ∷ xs) = suc (written xs)

-- 003, equation (3); RULES 4: "chosen labels i_1 > .. > i_k give C(i_1, k) + C(i_2, k − 1) + .. + C(i_k, 1)"; a place's label is the number of places to its
-- right
unfoldable pub rank : List ℕ → ℕ
rank [] = 0
rank (zero ∷ xs) = rank xs
rank (suc x ∷ xs) = choose (length xs) (suc (written xs)) + rank xs

-- "the written values less 1 read as k digits in base b, leftmost digit most significant"
unfoldable pub digits : ℕ → List ℕ → ℕ
digits b [] = 0
digits b (zero ∷ xs) = digits b xs
digits b (suc x ∷ xs) = x * b ^ written xs + digits b xs

-- "the count of patterns with fewer written places, plus rank·b^k, plus the written values less 1", counted from patterns with `first` written places on
unfoldable pub number : ℕ → ℕ → List ℕ → ℕ
number b first xs = fewer b (length xs) first (written xs) + (rank xs * b ^ written xs + digits b xs)

-- "The way back goes group by group, from the highest label down": s places of which k are written, of rank r and digits d
unfoldable pub laid : ℕ → ℕ → ℕ → ℕ → ℕ → List ℕ
laid b zero k r d = []
laid b (suc s) zero r d = 0 ∷ laid b s zero r d
laid b (suc s) (suc k) r d =
    cond (leb (choose s (suc k)) r)
    (suc (d / b ^ k) ∷ laid b s k (r - choose s (suc k)) (d % b ^ k))
    (0 ∷ laid b s (suc k) r d)

-- "the count of patterns with fewer written places", backwards: the first k whose patterns reach past x
unfoldable pub places : ℕ → ℕ → ℕ → ℕ → ℕ
places b first s x = least (λ k. ltb x (fewer b s first (suc k))) 0 s

-- "Its number is", backwards: the pattern of s places that has number x
unfoldable pub deal : ℕ → ℕ → ℕ → ℕ → List ℕ
deal b first s x =
    let k = places b first s x in
    let rest = x - fewer b s first k in
    laid b s k (rest / b ^ k) (rest % b ^ k)

-- "Generation t: the h_t unerased groups, left to right, are the digits in base 2^m − 1": the number that digits make
unfoldable pub plain : ℕ → List ℕ → ℕ
plain b [] = 0
plain b (x ∷ xs) = x * b ^ length xs + plain b xs

-- the same sentence: the s digits of a number
unfoldable pub plainly : ℕ → ℕ → ℕ → List ℕ
plainly b zero x = []
plainly b (suc s) x = x / b ^ s ∷ plainly b s (x % b ^ s)
