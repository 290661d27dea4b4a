use Rattle.std.proofs.Common.{append_assoc, arith}
use borrow.Author.Tests.{ne_eqb}
use Rattle.code.specs.Lists.{ascii}
use Rattle.code.specs.Listing.{record_line}
use Rattle.code.specs.Refusals.{number_of}
use Rattle.code.proofs.Refused.{refused-some}
use Rattle.text.proofs.Laws.{exactly, within-then}
use Rattle.text.proofs.put_refusal_line.Goals as goal

pub returns : goal.returns
unfolding ascii record_line
returns c =
    let p = within-then (within-then c.put_decimal-first.ensures c.put_labelled-second.ensures) (exactly c.put_byte.ensures) in
    let some = refused-some c.args.refusal in
    rw (ne_eqb (number_of c.args.refusal) 0 (λ e. absurd (omega (arith, some))), ← c.number.ensures) (simp append_assoc at p)
