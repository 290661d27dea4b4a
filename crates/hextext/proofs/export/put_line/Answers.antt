use Prim.Native.Nat.{ℕ, ◌+◌, ◌-◌, ◌%◌}
use native.Mathlib.Omega.{arith}
use Rattle.code.specs.Hex.{hex_digits}
use Rattle.storing.proofs.Put.{put_then}
use Rattle.hextext.proofs.Outward.{line-splits}
use Rattle.hextext.proofs.export.put_line.Goals as goal

pub returns : goal.returns
unfolding hex_digits
returns c =
    let a = c.args in
    let front = put_then (put_then c.put_byte-first.ensures c.put_all_digits-second.ensures.0) c.put_all_digits-third.ensures.0 in
    let all = put_then (put_then front c.put_digits-fourth.ensures) c.put_byte.ensures in
    let sum : ℕ = (256 - (c.byte_sum.result + c.byte_sum-2.result) % 256) % 256 in
    rw (line-splits a.address a.bytes.now sum (omega (arith, c.byte_sum.ensures.0, c.byte_sum-2.ensures.0))) all

pub put_byte-requires : goal.put_byte-requires
unfolding hex_digits
put_byte-requires c =
    omega (arith, c.put_byte-first.ensures.ends, c.put_all_digits-second.ensures.1, c.put_all_digits-third.ensures.1, c.put_digits-fourth.ensures.ends)
