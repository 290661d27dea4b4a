use mathlib.Core.Path.{refl}
use native.Mathlib.Omega.{arith}
use lib.ListN.{drop}
use lib.Seq.{take_all}
use Rattle.code.specs.Hex.{spelled_bytes, all_spelled}
use Rattle.code.specs.Lists.{list_sum}
use Rattle.code.proofs.HexLines.{spelled-length, behind-colon}
use Rattle.hextext.proofs.Outward.{sum-next}
use Rattle.hextext.proofs.Inward.{spelled-next, not-spelled}
use Rattle.hextext.proofs.import.sum_spelled.Goals as goal

pub loop-i-init : goal.loop-i-init
unfolding all_spelled list_sum
loop-i-init c = (omega arith, refl, refl)

pub returns-in_err-byte_at : goal.returns-in_err-byte_at
returns-in_err-byte_at c =
    let a = c.args in
    let i = c.loop-i.i in
    let told = behind-colon a.line.now a.n i c.loop-i-test.true in
    let all = spelled-length a.n (drop 1 a.line.now) in
    rw c.from_residual.ensures (not-spelled (spelled_bytes a.n (drop 1 a.line.now)) i (omega arith) (omega (arith, told, c.in_err-byte_at.ensures)))

pub loop-i-preserved : goal.loop-i-preserved
loop-i-preserved c =
    let a = c.args in
    let s = c.loop-i in
    let bytes = spelled_bytes a.n (drop 1 a.line.now) in
    let told = behind-colon a.line.now a.n s.i c.loop-i-test.true in
    let all = spelled-length a.n (drop 1 a.line.now) in
    let byte = c.in_ok-byte_at.ensures in
    let sum = sum-next bytes s.i (omega arith) in
    (omega arith, spelled-next bytes s.i (omega arith) s.invariant.1 (omega arith), omega arith)

pub returns : goal.returns
returns c =
    let a = c.args in
    let s = c.loop-i in
    let all = spelled-length a.n (drop 1 a.line.now) in
    let whole = take_all s.i (spelled_bytes a.n (drop 1 a.line.now)) (omega arith) in
    (rw whole at s.invariant.1, rw whole at s.invariant.2)
