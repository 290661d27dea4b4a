-- `cells::few_bytes` meets its contract. Assumes nothing.
use Prim.Native.Nat.{◌+◌, ◌-◌, ◌<◌}
use mathlib.Core.Path.{◌≡◌, ap, ◌∙◌}
use lib.ListN.{drop, length-take}
use Rattle.std.proofs.lemmas.List.{get_or-take, get_or-drop}
use Rattle.cells.specs.Cells.{octet}
use native.Mathlib.Omega.{arith}
use Rattle.cells.proofs.Values.{reading-first, reading-fits, reading-more, reading-all}
use Rattle.cells.proofs.few_bytes.Goals as goal

pub loop-cell-init : goal.loop-cell-init
loop-cell-init c =
    let e : c.args.at + 1 + 0 ≡ c.args.at + 1 = omega arith in
    (c.bytes_ahead.ensures, rw e (reading-first _ _ _ _ (cc)))

pub overflow_mul-x : goal.overflow_mul-x
overflow_mul-x c =
    let E = c.loop-cell.invariant.0 in
    omega (arith, reading-fits _ _ c.loop-cell.invariant.1 (omega (arith, E.near, E.inside, E.some)))

pub overflow_add-x : goal.overflow_add-x
overflow_add-x c =
    let E = c.loop-cell.invariant.0 in
    record { fits = omega (arith, reading-fits _ _ c.loop-cell.invariant.1 (omega (arith, E.near, E.inside, E.some))) }

pub loop-cell-preserved : goal.loop-cell-preserved
loop-cell-preserved c =
    let a = c.args in
    let i = c.loop-cell.cell-index in
    let n = a.at + c.bytes_ahead.result - (a.at + 1) in
    let h : i < n = omega (arith, length-take n (drop (a.at + 1) a.cells.now)) in
    let item = c.wide-in-loop-cell.ensures.0 ∙ get_or-take n (drop (a.at + 1) a.cells.now) i 0 h ∙ get_or-drop (a.at + 1) a.cells.now i 0 in
    let j : a.at + 1 + (i + 1) ≡ a.at + 1 + i + 1 = omega arith in
    (c.loop-cell.invariant.0, rw j (reading-more _ _ c.loop-cell.invariant.1 _ (c.octet.ensures.0 ∙ ap (octet a.order) item)))

pub returns : goal.returns
returns c =
    let E = c.loop-cell.invariant.0 in
    reading-all _ _ c.loop-cell.invariant.1 _ (omega arith) E.some E.near E.last
