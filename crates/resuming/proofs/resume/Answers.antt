use Rattle.std.proofs.Common.{sym, ◌∙◌, refl}
use Rattle.std.proofs.lemmas.Result.{err_from_is_err_and}
use Rattle.code.specs.declared.Refusal.TheVariants.{Bounds}
use Rattle.layout.proofs.Planning.{laid-granted, outline-refused}
use Rattle.resuming.proofs.Resuming.{resumes-refused}
use Rattle.resuming.proofs.resume.Goals as goal

pub returns-then-outline_outside : goal.returns-then-outline_outside
returns-then-outline_outside c =
    let wrong = outline-refused c.outline_of-outline.result c.args.s.v (sym c.outline_outside.ensures ∙ c.if-outline_outside.true) in
    resumes-refused _ _ _ Bounds refl (rw c.outline_of-outline.ensures at wrong)

pub returns-in_err-lay_outlined : goal.returns-in_err-lay_outlined
returns-in_err-lay_outlined c =
    let e = err_from_is_err_and c.from_residual.result c.from_residual.ensures.1 in
    rw (e.1, e.2) (resumes-refused _ _ _ _ refl (rw c.outline_of-outline.ensures at c.in_err-lay_outlined.ensures))

pub invariant_of-field : goal.invariant_of-field
invariant_of-field c = record { granted = laid-granted _ c.in_ok-lay_outlined.ensures }
