-- `dealing::read_on` meets its contract. Assumes nothing.
use Prim.Native.Nat.{ℕ, ◌+◌, ◌-◌, ◌*◌, ◌^◌, ◌≤◌}
use mathlib.Core.Path.{◌≡◌, ap}
use mathlib.Core.List.{List}
use lib.ListN.{length, get_or, take}
use Rattle.code.specs.Deal.{plain}
use Rattle.counting.specs.Cap.{sat}
use native.Mathlib.Omega.{arith}
use Rattle.dealing.proofs.Telling.{Reading, read_one, read-two, read-over, read-end}
use Rattle.dealing.proofs.read_on.Goals as goal

pub returns-then-x-ge-CAP : goal.returns-then-x-ge-CAP
returns-then-x-ge-CAP c =
    let a = c.args in
    let s = c.loop-i in
    let x = ap (λ (y : ℕ). s.x * (a.b * a.b) + y) c.two.ensures.0 in
    let R = read-two a.b a.k a.d a.values.now (omega arith) (2 * s.i) s.x _ s.invariant.1 (omega arith) x in
    omega (arith, read-over a.b a.k a.d a.values.now (omega arith) _ _ R (omega arith))

pub loop-i-preserved : goal.loop-i-preserved
loop-i-preserved c =
    let a = c.args in
    let s = c.loop-i in
    let x = ap (λ (y : ℕ). s.x * (a.b * a.b) + y) c.two.ensures.0 in
    let R = read-two a.b a.k a.d a.values.now (omega arith) (2 * s.i) s.x _ s.invariant.1 (omega arith) x in
    let j : 2 * (s.i + 1) ≡ 2 * s.i + 2 = omega arith in
    (omega arith, rw j R)

-- the last digit, behind pairs
last-one : (b k d : ℕ) (l : List ℕ) (i x w r : ℕ) → k ≤ length l → Reading b k d l i x → i + 1 ≡ k → w ≡ get_or l (k - 1) 0 → r ≡ sat (x * b + w)
    → r ≡ sat (d * b ^ k + plain b (take k l))
last-one b k d l i x w r long R e is told =
    let j : k - 1 ≡ i = omega arith in
    let end = read-end b k d l long _ _ (read_one b k d l long i x R (omega arith)) (omega arith) in
    rw (← end, ← rw j at is) told

pub returns-then-k-eq1 : goal.returns-then-k-eq1
returns-then-k-eq1 c =
    let a = c.args in
    let s = c.loop-i in
    last-one a.b a.k a.d a.values.now (2 * s.i) s.x _ _ (omega arith) s.invariant.1 (omega arith) c.wide.ensures.0 c.clip.ensures

pub returns : goal.returns
returns c =
    let a = c.args in
    let s = c.loop-i in
    omega (arith, read-end a.b a.k a.d a.values.now (omega arith) (2 * s.i) s.x s.invariant.1 (omega arith))
