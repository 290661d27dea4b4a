use Rattle.code.specs.Calls.{filled}
use Rattle.code.proofs.Refused.{refused-alone}
use Rattle.code.proofs.Refusal.fields.Goals as goal

pub returns-in_default : goal.returns-in_default
unfolding filled
returns-in_default c =
    let d = c.in_default in
    rw (c.number-number.ensures, refused-alone c.args.self d.not-Malformed d.not-Miscounted d.not-Beyond)
