use mathlib.Core.Path.{◌≡◌, sym}
use native.Mathlib.Omega.{arith}
use lib.ListN.{drop, length-drop}
use Rattle.code.proofs.HexLines.{line_size}
use Rattle.hextext.proofs.Checking.{part-is, loaded-begin, loaded-shaped, loaded-room, loaded-next, loaded-end}
use Rattle.hextext.proofs.import.put_all_data.Goals as goal

pub loop-done-init : goal.loop-done-init
loop-done-init c = (omega arith, omega arith, λ w. loaded-begin _ _ _ w)

pub slice_bounds-line-count : goal.slice_bounds-line-count
slice_bounds-line-count c = c.loop-done.invariant.0

pub returns-in_default : goal.returns-in_default
returns-in_default c w =
    let stored = c.loop-done.invariant.2 w in
    let h = c.loop-done-test.true in
    let none = rw (part-is c.args.text.now c.loop-done.at) at c.in_default.ensures in
    absurd (none (loaded-shaped stored h) (omega (arith, loaded-room stored h)))

pub loop-done-smaller : goal.loop-done-smaller
loop-done-smaller c =
    let size = rw (part-is c.args.text.now c.loop-done.at) at c.line_size-at.ensures in
    omega (arith, size, length-drop c.loop-done.at c.args.text.now)

pub loop-done-preserved : goal.loop-done-preserved
loop-done-preserved c =
    let text = c.args.text.now in
    let at = c.loop-done.at in
    let h = c.loop-done-test.true in
    let count = rw (part-is text at) at c.in-Some.ensures in
    let size = rw (part-is text at) at c.line_size-at.ensures in
    let put = rw (part-is text at) at c.put_data-done.ensures in (
      omega (arith, size, length-drop at text),
      omega (arith, put, count),
      λ w.
          let stored = c.loop-done.invariant.2 w in
          let shaped = loaded-shaped stored h in
          let own = count.2 shaped (omega (arith, loaded-room stored h)) in
          let whole : c.line_size-at.result ≡ line_size (drop at text) = rw own at size.0 in
          rw whole (loaded-next stored h _ _ (put.1 (sym own, shaped.bytes))),
    )

pub returns : goal.returns
returns c w = loaded-end (c.loop-done.invariant.2 w) c.loop-done-test.false
