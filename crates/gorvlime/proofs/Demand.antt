-- Document 02, §8, of the calls together: "What our writer makes is always accepted".
use Prim.Native.Nat.{ℕ}
use mathlib.Core.Path.{◌≡◌, ◌∙◌}
use mathlib.Core.List.{List}
use Rattle.code.specs.declared.Shape.{Shape}
use Rattle.code.specs.Calls.{write_reply, write_leaves}
use Rattle.code.specs.JudgeCall.{judge_reply}
use Rattle.code.proofs.JudgeCall.{write-yes}
use Rattle.std.specs.Prelude.{Option, Some, Result, Ok}
use Rattle.code.specs.declared.Refusal.{Refusal}
use Rattle.writing.specs.declared.Written.{Written}
use Rattle.writing.specs.Answers.{writing_of}
use Rattle.writing.proofs.Accepted.{granted-first, made-with-none}
use Rattle.judging.specs.Answers.{judged_of}
use Rattle.judging.proofs.Unique.{same-judged}

-- Over any answers that the contracts allow: cells before and after a write that was made are judged right, of its number.
pub written-right : (s : Shape) (x i n : ℕ) (before after : List ℕ) (a : Result (Option ℕ) Refusal) →
    writing_of (Ok (record { generation = i; turned = n })) ≡ write_reply s x before → after ≡ write_leaves s x before →
    judged_of a ≡ judge_reply s before after → a ≡ Ok (Some x)
written-right s x i n before after a q l p =
    same-judged a (Ok (Some x)) (p ∙ rw l (write-yes s (granted-first s x i n before q) x before (made-with-none s x i n before q)))
