use Rattle.std.proofs.Common.{sym, ◌∙◌}
use Rattle.std.proofs.lemmas.Result.{err_from_is_err_and}
use Rattle.code.specs.declared.Refusal.TheVariants.{Bounds}
use Rattle.layout.proofs.Planning.{laid-granted, outline-refused}
use Rattle.writing.proofs.Rewriting.{writes-refused}
use Rattle.writing.proofs.write.Goals as goal

pub returns-then-outline_outside : goal.returns-then-outline_outside
returns-then-outline_outside c =
    let wrong = outline-refused c.outline_of-f.result c.args.s.v (sym c.outline_outside.ensures ∙ c.if-outline_outside.true) in
    writes-refused _ _ _ Bounds (rw c.outline_of-f.ensures at wrong)

pub returns-in_err-lay_outlined : goal.returns-in_err-lay_outlined
returns-in_err-lay_outlined c =
    let e = err_from_is_err_and c.from_residual.result c.from_residual.ensures.1 in
    rw (e.1, e.2) (writes-refused _ _ _ _ (rw c.outline_of-f.ensures at c.in_err-lay_outlined.ensures))

pub write_granted-requires : goal.write_granted-requires
write_granted-requires c = laid-granted _ c.in_ok-lay_outlined.ensures
