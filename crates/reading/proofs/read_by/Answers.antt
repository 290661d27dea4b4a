use Rattle.std.proofs.lemmas.Result.{err_from_is_err_and}
use Rattle.layout.proofs.Planning.{laid-granted}
use Rattle.reading.proofs.Looking.{reads-refused}
use Rattle.reading.proofs.read_by.Goals as goal

pub returns-in_err-plan : goal.returns-in_err-plan
returns-in_err-plan c =
    let p = err_from_is_err_and c.from_residual.result c.from_residual.ensures.1 in
    rw (p.1, p.2) (reads-refused _ _ _ (rw c.in_err-plan.was at c.requires.right))

pub read_granted-requires : goal.read_granted-requires
read_granted-requires c = laid-granted _ (rw c.in_ok-plan.was at c.requires.right)
