use Rattle.std.proofs.Common.{ℕ, List, ◌∷◌}
use mathlib.Core.Path.{ap₂}
use Rattle.code.specs.Calls.{filled}
use Rattle.code.specs.Resume.{resume_fields}
use Rattle.resuming.proofs.tell.Goals as goal

pub returns : goal.returns
unfolding resume_fields filled
returns c =
    ap₂ (λ (count : ℕ) (bits : List ℕ). 0 ∷ c.args.generation ∷ c.args.turned ∷ count ∷ bits) c.report.ensures.value c.report.ensures.bits_after
