use mathlib.Core.Path.{◌≡◌, refl, sym, ◌∙◌}
use mathlib.Core.List.{◌∷◌}
use Prim.Native.Nat.{suc, ◌<◌}
use native.Mathlib.Omega.{arith}
use native.Mathlib.Nat.{add-zero, add_assoc}
use native.Mathlib.Numerals.{add-one}
use lib.ListN.{length, get_or, drop, drop_of_length-le}
use lib.Seq.{drop-cons}
use Rattle.code.specs.Hex.{line_data}
use Rattle.code.proofs.HexLines.{data-at, data-length, data-small}
use Rattle.storing.proofs.Put.{storing-begin, storing-first, storing-end}
use Rattle.hextext.proofs.import.put_data.Goals as goal

pub loop-i-init : goal.loop-i-init
loop-i-init c d = rw add-zero (storing-begin _ _ _)

-- one byte more is stored
pub loop-i-preserved : goal.loop-i-preserved
loop-i-preserved c d =
    let s = c.loop-i in
    let line = c.args.line.now in
    let l : s.i < length (line_data line) = omega (arith, c.loop-i-test.true, d.0, data-length line) in
    let left : drop s.i (line_data line) ≡ get_or (line_data line) s.i 0 ∷ drop (suc s.i) (line_data line) = drop-cons (line_data line) s.i 0 l in
    let there = data-at line s.i (omega (arith, l, data-length line)) in
    let spelled = data-small line s.i d.1 (omega (arith, c.loop-i-test.true, d.0)) in
    let byte : c.known_byte.result ≡ get_or (line_data line) s.i 0 = c.known_byte.ensures spelled ∙ sym there in
    rw (← add_assoc, add-one s.i) (storing-first (rw left at (s.invariant d)) refl byte)

pub returns : goal.returns
returns c = (
  refl,
  λ d.
      let s = c.loop-i in
      let line = c.args.line.now in
      let none = drop_of_length-le (line_data line) {i = s.i} (omega (arith, c.loop-i-test.false, d.0, data-length line)) in
      let whole = storing-end (rw none at (s.invariant d)) in
      record { stored = whole.stored; ends = omega (arith, d.0, data-length line) },
)
