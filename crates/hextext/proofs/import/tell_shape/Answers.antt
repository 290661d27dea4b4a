use mathlib.Core.Path.{◌≡◌, ◌∙◌}
use Prim.Native.Nat.{◌+◌, ◌*◌}
use native.Mathlib.Omega.{arith}
use lib.ListN.{drop}
use Rattle.code.specs.Hex.{spelled_bytes, line_bytes, data_count, line_end}
use Rattle.code.proofs.Tests.{clash}
use Rattle.code.proofs.HexLines.{count-is, bytes-are, type-is, address_is}
use Rattle.hextext.proofs.Inward.{shaped-room, shaped-byte}
use Rattle.hextext.proofs.import.tell_shape.Goals as goal

pub returns-then-line-lt12 : goal.returns-then-line-lt12
returns-then-line-lt12 c s = omega (arith, shaped-room _ s)

pub returns-in_err-byte_at : goal.returns-in_err-byte_at
returns-in_err-byte_at c = rw c.from_residual.ensures (λ s. omega (arith, shaped-byte c.args.line.now s 0 (omega arith), c.in_err-byte_at.ensures))

pub returns-in_err-byte_at-2 : goal.returns-in_err-byte_at-2
returns-in_err-byte_at-2 c =
    rw c.from_residual-in_err-byte_at-2.ensures (λ s. omega (arith, shaped-byte c.args.line.now s 1 (omega arith), c.in_err-byte_at-2.ensures))

pub returns-in_err-byte_at-3 : goal.returns-in_err-byte_at-3
returns-in_err-byte_at-3 c =
    rw c.from_residual-in_err-byte_at-3.ensures (λ s. omega (arith, shaped-byte c.args.line.now s 2 (omega arith), c.in_err-byte_at-3.ensures))

pub returns-in_err-kind : goal.returns-in_err-kind
returns-in_err-kind c = rw c.from_residual-in_err-kind.ensures (λ s. omega (arith, shaped-byte c.args.line.now s 3 (omega arith), c.in_err-kind.ensures))

pub returns-then-line-behind : goal.returns-then-line-behind
returns-then-line-behind c s = omega (arith, shaped-room _ s, count-is c.args.line.now, c.in_ok-byte_at.ensures)

pub returns-in_err-end : goal.returns-in_err-end
returns-in_err-end c =
    let line = c.args.line.now in
    let count : data_count line ≡ c.from-count.result = omega (arith, count-is line, c.in_ok-byte_at.ensures) in
    rw c.from_residual-in_err-end.ensures (λ s. omega (arith, rw count at s.finish, c.in_err-end.ensures))

pub returns-in_err-sum : goal.returns-in_err-sum
returns-in_err-sum c =
    let line = c.args.line.now in
    let count : data_count line ≡ c.from-count.result = omega (arith, count-is line, c.in_ok-byte_at.ensures) in
    let bytes : line_bytes line ≡ spelled_bytes (5 + c.from-count.result) (drop 1 line) = rw count at (bytes-are line) in
    rw c.from_residual-in_err-sum.ensures (λ s. clash (cc (s.bytes, c.in_err-sum.ensures)))

pub returns : goal.returns
returns c =
    let line = c.args.line.now in
    let count : data_count line ≡ c.from-count.result = omega (arith, count-is line, c.in_ok-byte_at.ensures) in
    let bytes : line_bytes line ≡ spelled_bytes (5 + c.from-count.result) (drop 1 line) = rw count at (bytes-are line) in
    let end : line_end (drop (11 + 2 * data_count line) line) ≡ c.in_ok-end.end = rw count (c.in_ok-end.ensures.0) in
    record {
      shaped = record { colon = c.if-line-ne58.false; bytes = rw bytes c.in_ok-sum.ensures.0; finish = omega (arith, c.in_ok-end.ensures) };
      count-told = count;
      address-told = omega (arith, address_is line, c.in_ok-byte_at-2.ensures, c.in_ok-byte_at-3.ensures);
      type-told = type-is line ∙ c.in_ok-kind.ensures.0;
      sum_told = rw bytes c.in_ok-sum.ensures.1;
      size-told = omega arith;
    }
