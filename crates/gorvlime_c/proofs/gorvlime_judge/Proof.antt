-- `gorvlime_c::gorvlime_judge` meets its contract: the judge's reply in its fields. Assumes nothing.
use mathlib.Core.Path.{ap, ◌∙◌}
use borrow.Author.Rules.{rules}
use Rattle.code.specs.JudgeCall.{judge_fields}
use Rattle.gorvlime_c.proofs.gorvlime_judge.Statement.{statement}
use Rattle.gorvlime_c.proofs.gorvlime_judge.Tie as tie

pub gorvlime_judge_spec : {M : Type 1} → statement M
gorvlime_judge_spec =
    tie.close
    (tie.spec
    (λ c κs. search rules)
    (λ c κs. search rules)
    (λ c. c.flat.ensures ∙ ap judge_fields c.judge.ensures.0))
