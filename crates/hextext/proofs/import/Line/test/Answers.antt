use mathlib.Core.Path.{sym, ◌∙◌}
use Prim.Native.Nat.{◌≤◌}
use native.Mathlib.Omega.{arith}
use borrow.Author.Tests.{ne_eqb}
use Rattle.code.proofs.HexLines.{refuse-laden, refuse-sum, refuse-place, refuse-type, end-type}
use Rattle.hextext.proofs.Inward.{shaped-room, laden-is, sum_is, displaced-is, measured-passes, measured-spans}
use Rattle.hextext.proofs.import.Line.test.Goals as goal

pub returns-then-is_laden_end : goal.returns-then-is_laden_end
returns-then-is_laden_end c =
    let m = c.requires.0 in
    refuse-laden _ _ m.shaped (laden-is m ∙ sym c.if-is_laden_end.ensures)

pub returns-then-self-ne0 : goal.returns-then-self-ne0
returns-then-self-ne0 c =
    let m = c.requires.0 in
    refuse-sum _ _ m.shaped (laden-is m ∙ sym c.if-is_laden_end.ensures) (sum_is m ∙ rw (ne_eqb _ 0 c.if-self-ne0.true))

pub returns-then-is_displaced : goal.returns-then-is_displaced
returns-then-is_displaced c =
    let m = c.requires.0 in
    let bare = laden-is m ∙ sym c.if-is_laden_end.ensures in
    refuse-place _ _ m.shaped bare (sum_is m ∙ rw c.if-self-ne0.false) (displaced-is m _ ∙ sym c.if-is_displaced.ensures)

pub is_end-requires : goal.is_end-requires
is_end-requires c = let m = c.requires.0 in omega (arith, shaped-room _ m.shaped)

-- a line that passes the first three tests and is of a known type passes them all
pub returns-then-is_end : goal.returns-then-is_end
returns-then-is_end c =
    let m = c.requires.0 in
    let known : c.args.self.kind ≤ 1 = omega (arith, end-type _ (sym c.if-is_end.ensures), m.type-told) in
    let passes = measured-passes m _ c.if-is_laden_end.ensures c.if-self-ne0.false c.if-is_displaced.ensures known in
    (passes, sym c.if-is_end.ensures, measured-spans m)

pub returns-in-0 : goal.returns-in-0
returns-in-0 c =
    let m = c.requires.0 in
    let passes = measured-passes m _ c.if-is_laden_end.ensures c.if-self-ne0.false c.if-is_displaced.ensures (omega arith) in
    (passes, sym c.if-is_end.ensures, m.count-told, measured-spans m)

pub returns-in_default : goal.returns-in_default
returns-in_default c =
    let m = c.requires.0 in
    let bare = laden-is m ∙ sym c.if-is_laden_end.ensures in
    let placed = displaced-is m _ ∙ sym c.if-is_displaced.ensures in
    refuse-type _ _ m.shaped bare (sum_is m ∙ rw c.if-self-ne0.false) placed (omega (arith, m.type-told))
