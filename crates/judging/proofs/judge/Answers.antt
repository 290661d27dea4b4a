use Rattle.std.proofs.Common.{sym, ◌∙◌}
use Rattle.std.proofs.lemmas.Result.{err_from_is_err_and}
use Rattle.code.specs.declared.Refusal.TheVariants.{Bounds}
use Rattle.layout.proofs.Planning.{laid-granted, outline-refused}
use Rattle.judging.proofs.Verdicts.{says, judges-no-layout}
use Rattle.judging.proofs.judge.Goals as goal

pub returns-then-outline_outside-clause-result_value : goal.returns-then-outline_outside-clause-result_value
returns-then-outline_outside-clause-result_value c =
    let wrong = outline-refused c.outline_of-f.result c.args.s.v (sym c.outline_outside.ensures ∙ c.if-outline_outside.true) in
    judges-no-layout _ _ _ Bounds (rw c.outline_of-f.ensures at wrong)

pub returns-in_err-lay_outlined-clause-result_value : goal.returns-in_err-lay_outlined-clause-result_value
returns-in_err-lay_outlined-clause-result_value c =
    let p = err_from_is_err_and c.from_residual.result c.from_residual.ensures.1 in
    rw (p.1, p.2) (judges-no-layout _ _ _ _ (rw c.outline_of-f.ensures at c.in_err-lay_outlined.ensures))

pub judge_granted-requires : goal.judge_granted-requires
judge_granted-requires c = laid-granted _ c.in_ok-lay_outlined.ensures

pub returns-clause-says : goal.returns-clause-says
returns-clause-says c = says _ _ _ c.judge_granted.result (rw c.outline_of-f.ensures at c.judge_granted.ensures)
