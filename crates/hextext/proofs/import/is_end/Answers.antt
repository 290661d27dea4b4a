use mathlib.Core.Path.{◌≡◌, sym}
use native.Mathlib.Omega.{arith}
use Rattle.code.specs.Lists.{ascii}
use Rattle.code.specs.Hex.{end_record}
use Rattle.code.proofs.HexLines.{byte_at, end_is, not_end}
use Rattle.hextext.proofs.Inward.{one_more, end-small, alike, unlike}
use Rattle.hextext.proofs.import.is_end.Goals as goal

pub loop-i-init : goal.loop-i-init
loop-i-init c k l = absurd (omega arith)

pub returns-then-ne : goal.returns-then-ne
unfolding end_record ascii
returns-then-ne c =
    let line = c.args.line.now in
    let s = c.loop-i in
    let small = end-small s.i c.loop-i-test.true in
    sym (not_end line s.i c.loop-i-test.true (λ e. unlike _ _ c.byte_at.ensures c.byte_at-in-loop-i.ensures small c.if-ne.ensures e))

pub loop-i-preserved : goal.loop-i-preserved
unfolding end_record ascii
loop-i-preserved c =
    let line = c.args.line.now in
    let s = c.loop-i in
    let small = end-small s.i c.loop-i-test.true in
    one_more (λ k. byte_at line k ≡ byte_at end_record k) s.i s.invariant (alike _ _ c.byte_at.ensures c.byte_at-in-loop-i.ensures small c.if-ne.ensures)

pub returns : goal.returns
returns c = let s = c.loop-i in sym (end_is c.args.line.now (λ k l. s.invariant k (omega (arith, c.loop-i-test.false))))
