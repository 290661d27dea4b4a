-- Document 02, §5 (RULES 13): the answer of a write of many numbers as a reply.
use Rattle.std.specs.Prelude.{ℕ, List, [], ◌∷◌, take, drop, Option, Some, None, Result, Ok, Err}
use Rattle.code.specs.Calls.{refusal_in, generation_in, unerased_in}
use Rattle.code.specs.Refusals.{refusal_reply}
use Rattle.many.specs.declared.Stop.{Stop}
use Rattle.many.specs.declared.Many.{Many}

-- 02, §5; RULES 13: "saying which field it was": the numbers of a refusal, with the field that was refused
abbrev pub stopped_at : List ℕ → Option ℕ → List ℕ
stopped_at refused None = refusal_in refused ∷ 0 ∷ 0 ∷ 0 ∷ generation_in refused ∷ unerased_in refused ∷ []
stopped_at refused (Some j) = refusal_in refused ∷ 1 ∷ j ∷ j ∷ generation_in refused ∷ unerased_in refused ∷ []

-- RULES 13: the six numbers of the answer to n numbers
abbrev pub end_of : ℕ → Result Unit Stop → List ℕ
end_of n (Ok all) = 0 ∷ 0 ∷ 0 ∷ n ∷ 0 ∷ 0 ∷ []
end_of n (Err stop) = stopped_at (refusal_reply stop.refusal) stop.field

abbrev pub many_of : Many → List (List ℕ)
many_of r = (r.refusal ∷ r.stopped ∷ r.field ∷ r.written ∷ r.reached ∷ r.unerased ∷ []) ∷ take 64 r.rows ∷ drop 64 r.rows ∷ []
