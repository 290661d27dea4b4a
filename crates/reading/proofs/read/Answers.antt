use Rattle.std.proofs.Common.{sym, ◌∙◌}
use Rattle.std.proofs.lemmas.Result.{err_from_is_err_and}
use Rattle.code.specs.declared.Refusal.TheVariants.{Bounds}
use Rattle.layout.proofs.Planning.{laid-granted, outline-refused}
use Rattle.reading.proofs.Looking.{reads-refused}
use Rattle.reading.proofs.read.Goals as goal

pub returns-then-outline_outside : goal.returns-then-outline_outside
returns-then-outline_outside c =
    let wrong = outline-refused c.outline_of-f.result c.args.s.v (sym c.outline_outside.ensures ∙ c.if-outline_outside.true) in
    reads-refused _ _ Bounds (rw c.outline_of-f.ensures at wrong)

pub returns-in_err-lay_outlined : goal.returns-in_err-lay_outlined
returns-in_err-lay_outlined c =
    let p = err_from_is_err_and c.from_residual.result c.from_residual.ensures.1 in
    rw (p.1, p.2) (reads-refused _ _ _ (rw c.outline_of-f.ensures at c.in_err-lay_outlined.ensures))

pub read_granted-requires : goal.read_granted-requires
read_granted-requires c = laid-granted _ c.in_ok-lay_outlined.ensures
