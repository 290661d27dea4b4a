-- Document 02, §3 (RULES 13): the answer of a move as a reply: 0 and the length, or the refusal's number and what it carries.
use Rattle.std.specs.Prelude.{ℕ, List, [], ◌∷◌, Result}
use Rattle.code.specs.Refusals.{reply_of}
use Rattle.code.specs.declared.Refusal.{Refusal}

abbrev pub moved_of : Result ℕ Refusal → List ℕ
moved_of = reply_of (λ n. n ∷ [])
