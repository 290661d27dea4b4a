use Rattle.std.proofs.Common.{◌∙◌, sym}
use Rattle.std.proofs.lemmas.Result.{err_from_is_err_and}
use Rattle.dump.proofs.Walking.{ready-ended, ready-inside}
use Rattle.dump.proofs.locate.Goals as goal

pub returns-then-dump-at : goal.returns-then-dump-at
returns-then-dump-at c = sym (ready-ended c.requires _ c.if-dump-at.true)

pub returns-in_err-head : goal.returns-in_err-head
returns-in_err-head c =
    let p = err_from_is_err_and c.from_residual.result c.from_residual.ensures.1 in
    rw (p.1, p.2) (c.in_err-head.ensures ∙ sym (ready-inside c.requires _ c.if-dump-at.false))

pub returns : goal.returns
returns c = c.in_ok-head.ensures ∙ sym (ready-inside c.requires _ c.if-dump-at.false)
