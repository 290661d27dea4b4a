-- Documents 01 and 02 (RULES 13): the answer of a call that stores into a lent output, as a reply: 0 and the length, or the refusal.
use Rattle.std.specs.Prelude.{ℕ, List, [], ◌∷◌, Result}
use Rattle.code.specs.Refusals.{reply_of}
use Rattle.code.specs.declared.Refusal.{Refusal}

abbrev pub made_of : Result ℕ Refusal → List ℕ
made_of = reply_of (λ n. n ∷ [])
