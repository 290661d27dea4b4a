-- Document 02, §8, of the call, over all answers that its promise allows: yes exactly where some choice of spare groups makes a right write, and of that number.
use Prim.Native.Nat.{ℕ, ◌≤◌}
use mathlib.Core.Path.{◌≡◌, sym, ◌∙◌}
use mathlib.Core.List.{List, []}
use Rattle.code.specs.declared.Shape.{Shape}
use Rattle.code.specs.Shape.{order_of, code_of}
use Rattle.code.specs.Cells.{wit}
use Rattle.code.specs.Calls.{layout_refusal}
use Rattle.code.specs.JudgeCall.{RightCells, judge_reply}
use Rattle.code.proofs.Wits.{Bytes}
use Rattle.code.proofs.JudgeCall as Code
use Rattle.reading.specs.Answers.{SoundCells}
use Rattle.std.specs.Prelude.{Option, Some, None, Result, Ok}
use Rattle.code.specs.declared.Refusal.{Refusal}
use Rattle.judging.specs.Answers.{judged_of}
use Rattle.judging.proofs.Unique.{same-judged}

module _ (s : Shape) (ok : layout_refusal s 256 ≡ []) (before after : List ℕ) where
  -- yes with x, then the before cells are sound and some choice makes the after cells a right write of x on them
  pub yes-right : (x : ℕ) → Bytes after → judged_of (Ok (Some x)) ≡ judge_reply s before after → SoundCells s before × RightCells (code_of s) before x after
  yes-right x B p = Code.yes-right s ok before after x B (sym p)

  -- and the other way: such cells get yes with that number, which is so the only one
  pub right-yes : (a : Result (Option ℕ) Refusal) (x : ℕ) → judged_of a ≡ judge_reply s before after → SoundCells s before → RightCells (code_of s) before x after → a ≡ Ok (Some x)
  right-yes a x p f r = same-judged a (Ok (Some x)) (p ∙ Code.right-yes s ok before after x f r)

  -- no, then no choice makes them a right write of any number
  pub no_none : (x : ℕ) → judged_of (Ok None) ≡ judge_reply s before after → RightCells (code_of s) before x after → ⊥
  no_none x p r = Code.no_none s ok before after x (sym p) r

  -- no 1 became 0 where the answer is yes
  pub yes-rises : (x : ℕ) → Bytes before → Bytes after → judged_of (Ok (Some x)) ≡ judge_reply s before after →
      (w : ℕ) → wit (order_of s) before w ≤ wit (order_of s) after w
  yes-rises x A B p w = Code.yes-rises s ok before after x A B (sym p) w
