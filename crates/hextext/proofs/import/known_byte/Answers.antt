use Prim.Native.Nat.{◌+◌, ◌*◌}
use native.Mathlib.Omega.{arith}
use lib.ListN.{get_or}
use Rattle.code.proofs.HexLines.{spelled-digits}
use Rattle.hextext.proofs.import.known_byte.Goals as goal

pub returns : goal.returns
returns c h =
    let a = c.args in
    let digits = spelled-digits (get_or a.line.now (2 * a.i + 1) 0) (get_or a.line.now (2 * a.i + 2) 0) h in
    omega (arith, c.known_digit-high.ensures.0 digits.0, c.known_digit-low.ensures.0 digits.1, digits.0, digits.1, digits.2)
