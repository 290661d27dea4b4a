use native.Mathlib.Omega.{arith}
use lib.ListN.{take, length-take}
use lib.Seq.{take_all}
use Rattle.code.specs.Hex.{hex_digits}
use Rattle.code.proofs.HexText.{digits-length}
use Rattle.storing.proofs.Put.{put-none, put_then, put-length}
use Rattle.hextext.proofs.Outward.{digits-next}
use Rattle.hextext.proofs.export.put_all_digits.Goals as goal

pub loop-byte-init : goal.loop-byte-init
unfolding hex_digits
loop-byte-init c = put-none _ _

pub put_digits-next-requires : goal.put_digits-next-requires
put_digits-next-requires c =
    let s = c.loop-byte in
    let bytes = c.args.bytes.now in
    omega (arith, s.invariant.ends, put-length s.invariant, digits-length (take s.byte-index bytes), length-take s.byte-index bytes)

pub loop-byte-preserved : goal.loop-byte-preserved
loop-byte-preserved c =
    let s = c.loop-byte in
    rw (digits-next c.args.bytes.now s.byte-index (omega arith)) (put_then s.invariant c.put_digits-next.ensures)

pub returns : goal.returns
returns c =
    let bytes = c.args.bytes.now in
    let p = rw (take_all c.loop-byte.byte-index bytes (omega arith)) at c.loop-byte.invariant in
    (p, omega (arith, p.ends, digits-length bytes))
