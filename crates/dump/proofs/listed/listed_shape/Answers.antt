use Rattle.std.proofs.Common.{◌∙◌}
use Rattle.std.proofs.lemmas.Result.{err_from_is_err_and}
use Rattle.dump.proofs.Naming.{listed-opened, listed-barred}
use Rattle.dump.proofs.listed.listed_shape.Goals as goal

pub returns-in_err-opened : goal.returns-in_err-opened
returns-in_err-opened c =
    let p = err_from_is_err_and c.from_residual.result c.from_residual.ensures.1 in
    rw (p.1, p.2) (listed-barred _ c.«open».ensures c.in_err-opened.was)

pub returns : goal.returns
returns c = c.listed_in.ensures ∙ listed-opened _ c.«open».ensures _ c.in_ok-opened.was
