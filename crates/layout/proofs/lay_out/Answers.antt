use Rattle.std.proofs.lemmas.Result.{err_from_is_err_and}
use Rattle.layout.proofs.Planning.{laid-bare}
use Rattle.layout.proofs.lay_out.Goals as goal

pub returns-in_err-lay_into : goal.returns-in_err-lay_into
returns-in_err-lay_into c =
    let p = err_from_is_err_and c.from_residual.result c.from_residual.ensures.1 in
    rw (p.1, p.2) (laid-bare c.args.s c.args.g _ (rw c.outline_of.ensures at c.in_err-lay_into.ensures))
