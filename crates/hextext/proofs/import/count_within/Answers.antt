use native.Mathlib.Omega.{arith}
use Rattle.code.proofs.HexLines.{count-is, shaped-count}
use Rattle.hextext.proofs.Inward.{shaped-room}
use Rattle.hextext.proofs.import.count_within.Goals as goal

pub returns-then-line-lt12 : goal.returns-then-line-lt12
returns-then-line-lt12 c s r = omega (arith, shaped-room _ s)

pub returns-in_err-byte_at : goal.returns-in_err-byte_at
returns-in_err-byte_at c =
    let line = c.args.line.now in
    rw c.from_residual.ensures (λ s r. omega (arith, shaped-count line s, count-is line, c.in_err-byte_at.ensures))

pub returns-then-line-count : goal.returns-then-line-count
returns-then-line-count c s r = omega (arith, shaped-room _ s, count-is c.args.line.now, c.in_ok-byte_at.ensures)

pub returns-then-room-count : goal.returns-then-room-count
returns-then-room-count c s r = omega (arith, count-is c.args.line.now, c.in_ok-byte_at.ensures)

pub returns : goal.returns
returns c = (omega arith, omega arith, λ s r. omega (arith, count-is c.args.line.now, c.in_ok-byte_at.ensures))
