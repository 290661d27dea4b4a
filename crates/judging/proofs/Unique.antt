-- The promise of `judge` leaves no choice: two answers that it allows are equal.
use Prim.Native.Nat.{ℕ}
use mathlib.Core.Path.{◌≡◌, refl, sym, ◌∙◌}
use mathlib.Core.List.{List}
use Rattle.std.specs.Prelude.{Option, Some, None, Result}
use Rattle.code.specs.declared.Shape.{Shape}
use Rattle.code.specs.declared.Refusal.{Refusal}
use Rattle.code.specs.JudgeCall.{judge_reply}
use Rattle.code.proofs.Tests.{clash}
use Rattle.code.proofs.Refused.{reply-alike}
use Rattle.judging.specs.Answers.{verdict_values, judged_of}

same-verdict : (a a' : Option ℕ) → verdict_values a ≡ verdict_values a' → a ≡ a'
same-verdict (Some x) (Some x') q = let e : x ≡ x' = cc in rw e
same-verdict (Some x) None q = clash (cc)
same-verdict None (Some x) q = clash (cc)
same-verdict None None q = refl

pub same-judged : (r r' : Result (Option ℕ) Refusal) → judged_of r ≡ judged_of r' → r ≡ r'
same-judged = reply-alike verdict_values same-verdict

pub unique-judged : (s : Shape) (before after : List ℕ) (r r' : Result (Option ℕ) Refusal) →
    judged_of r ≡ judge_reply s before after → judged_of r' ≡ judge_reply s before after → r ≡ r'
unique-judged s before after r r' p q = same-judged r r' (p ∙ sym q)
