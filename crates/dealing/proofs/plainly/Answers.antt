-- `dealing::plainly` meets its contract. Assumes nothing.
use Prim.Native.Nat.{ℕ, ◌+◌, ◌*◌, ◌-◌, ◌/◌, ◌%◌, ◌^◌, ◌≤◌, ◌<◌}
use mathlib.Core.Path.{◌≡◌}
use mathlib.Core.List.{List}
use Rattle.code.specs.Deal.{plainly}
use native.Mathlib.Omega.{arith}
use lib.ListN.{length, take, set, length-set}
use lib.Seq.{length-take-le}
use Rattle.code.proofs.Chosen.{pattern_most}
use Rattle.dealing.proofs.Drawing.{Spelled, place-begin, fill-two, fill_one, fill_end}
use Rattle.dealing.proofs.plainly.Goals as goal

pub loop-i-init : goal.loop-i-init
loop-i-init c =
    let a = c.args in
    let n : a.s % 2 + 2 * (a.s / 2) ≡ length (take a.s a.values.now) = omega (arith, length-take-le a.s a.values.now (omega arith)) in
    (c.requires.0, rw n (place-begin a.e a.x (take a.s a.values.now)))

pub loop-i-preserved : goal.loop-i-preserved
loop-i-preserved c =
    let a = c.args in
    let s = c.loop-i in
    let F = fill-two a.e a.x a.s s.values (omega arith) (omega arith) (a.s % 2 + 2 * s.i) s.x (omega arith) s.invariant.1 in
    let p : a.s % 2 + 2 * (s.i - 1) ≡ a.s % 2 + 2 * s.i - 2 = omega arith in
    (rw c.put_two.ensures (simp length-set s.invariant.0), rw (c.put_two.ensures, p) F)

-- the first digit is what is left, where it is not there already
module _ (e x s : ℕ) (v : List ℕ) (y : ℕ) (pos : 0 < e) (few : s ≤ pattern_most) (long : length v ≡ pattern_most) (small : x < e ^ s) where
  one-left : Spelled e x (take s v) 1 y → (take s (set v 0 (y % e)) ≡ plainly e s x) × (length (set v 0 (y % e)) ≡ pattern_most)
  one-left P = (fill_end e x s (set v 0 (y % e)) pos (simp length-set (omega arith)) (y / e) small (fill_one e x s v pos (omega arith) y P), simp length-set long)

  none-left : Spelled e x (take s v) 0 y → (take s v ≡ plainly e s x) × (length v ≡ pattern_most)
  none-left P = (fill_end e x s v pos (omega arith) y small P, long)

pub returns-then-s-eq1 : goal.returns-then-s-eq1
returns-then-s-eq1 c =
    let a = c.args in
    let s = c.loop-i in
    let i : a.s % 2 + 2 * s.i ≡ 1 = omega arith in
    one-left a.e a.x a.s s.values s.x (omega arith) (omega arith) s.invariant.0 c.requires.4 (rw i at s.invariant.1)

pub returns-else-s-eq1 : goal.returns-else-s-eq1
returns-else-s-eq1 c =
    let a = c.args in
    let s = c.loop-i in
    let i : a.s % 2 + 2 * s.i ≡ 0 = omega arith in
    none-left a.e a.x a.s s.values s.x (omega arith) (omega arith) s.invariant.0 c.requires.4 (rw i at s.invariant.1)
