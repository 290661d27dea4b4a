-- Document 01, "Refusal numbers", and document 02 (RULES 12, 13): a refusal by its name as its number and what it carries, and an answer as a reply.
use Rattle.std.specs.Prelude.{ℕ, List, [], ◌∷◌, get_or, Result, Ok, Err}
use Rattle.code.specs.declared.Refusal.{Refusal}
use Rattle.code.specs.declared.Refusal.TheVariants.{Bounds, NoRoom, Cells, Spent, Number, Malformed, TooLong, Output, Serial, Blank, Form}
use Rattle.code.specs.declared.Refusal.TheVariants.{Layouts, Numbers, Miscounted, Beyond, Readable, Unequal, Line, Sum, Address, NoEnd, RecordType}

-- 01, Refusal numbers; 02, §1 to §10; RULES 12: the table, and what 7, 15 and 16 carry
abbrev pub refusal_reply : Refusal → List ℕ
refusal_reply Bounds = 1 ∷ []
refusal_reply NoRoom = 2 ∷ []
refusal_reply Cells = 3 ∷ []
refusal_reply Spent = 5 ∷ []
refusal_reply Number = 6 ∷ []
refusal_reply (Malformed offset) = 7 ∷ offset ∷ []
refusal_reply TooLong = 8 ∷ []
refusal_reply Output = 9 ∷ []
refusal_reply Serial = 10 ∷ []
refusal_reply Blank = 11 ∷ []
refusal_reply Form = 12 ∷ []
refusal_reply Layouts = 13 ∷ []
refusal_reply Numbers = 14 ∷ []
refusal_reply (Miscounted generation unerased) = 15 ∷ generation ∷ unerased ∷ []
refusal_reply (Beyond generation) = 16 ∷ generation ∷ []
refusal_reply Readable = 17 ∷ []
refusal_reply Unequal = 18 ∷ []
refusal_reply Line = 20 ∷ []
refusal_reply Sum = 21 ∷ []
refusal_reply Address = 22 ∷ []
refusal_reply NoEnd = 23 ∷ []
refusal_reply RecordType = 24 ∷ []

-- RULES 12: its number
abbrev pub number_of : Refusal → ℕ
number_of k = get_or (refusal_reply k) 0 0

-- 01, Where each language form belongs; RULES 13: a result as a reply: 0 and the values, or the refusal
abbrev pub reply_of : {A : Type 0} → (A → List ℕ) → Result A Refusal → List ℕ
reply_of values (Ok a) = 0 ∷ values a
reply_of values (Err k) = refusal_reply k
