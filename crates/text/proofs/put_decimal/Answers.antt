use Rattle.std.proofs.Common.{◌≡◌, ℕ, ◌+◌, ◌-◌, ◌/◌, ◌%◌, ◌^◌, ◌<◌, ◌≤◌, refl, ap, List, [], arith}
use mathlib.Core.Logic.{inl, inr}
use lib.ListN.{length, set}
use borrow.Author.Tests.{lt-ltb, le-ltb}
use Rattle.code.specs.Listing.{decimal}
use Rattle.code.proofs.Digits.{spelled-last, spelled-next, spelled-longer, spelled-few}
use Rattle.code.proofs.Tests.{le-or-lt}
use Rattle.storing.proofs.Put.{Storing, storing-begin, storing-last}
use Rattle.text.proofs.put_decimal.Invariants.{digits_left}
use Rattle.text.proofs.put_decimal.Goals as goal

some : (x : ℕ) → x < 10 ^ 20 → 0 < length (decimal x)
some x h = elim (le-or-lt 10 x) [ inl k ↦ omega (arith, spelled-longer 19 x k h) | inr k ↦ omega (arith, ap length (spelled-last 19 x k)) ]

begun : (b : List ℕ) (at x place : ℕ) → x < 10 ^ 20 → place ≡ at + length (decimal x) → Storing b at (decimal x) b at (digits_left at place x) place
begun b at x place h e = rw (e, lt-ltb at (at + length (decimal x)) (omega (arith, some x h))) (storing-begin b at (decimal x))

stored : {b c all : List ℕ} {at place rest : ℕ} → rest < 10 ^ 20 → at < place → Storing b at all c at (digits_left at place rest) place →
    Storing b at all (set c (place - 1) (48 + rest % 10)) at (digits_left at (place - 1) (rest / 10)) (place - 1)
stored {b} {c} {all} {at} {place} {rest} h l s =
    let one : place ≡ place - 1 + 1 = omega arith in
    let left : Storing b at all c at (decimal rest) place = rw (lt-ltb at place l) at s in
    elim (le-or-lt 10 rest) [
      | inl k ↦
          let more : at < place - 1 = omega (arith, left.ends, spelled-longer 19 rest k h, some (rest / 10) (omega arith)) in
          rw (lt-ltb at (place - 1) more) (storing-last (decimal (rest / 10)) (48 + rest % 10) (rw (spelled-next 19 rest k h, one) at left) refl refl)
      | inr k ↦
          let none : place - 1 ≤ at = omega (arith, left.ends, ap length (spelled-last 19 rest k)) in
          rw (le-ltb at (place - 1) none) (storing-last [] (48 + rest) (rw (spelled-last 19 rest k, one) at left) refl (omega arith))
    ]

pub overflow_add-next : goal.overflow_add-next
overflow_add-next c = omega (arith, spelled-few 20 c.args.x)

pub loop-place-init : goal.loop-place-init
loop-place-init c = (omega arith, begun _ _ _ _ (omega arith) (omega arith))

pub bounds-out-place : goal.bounds-out-place
bounds-out-place c = omega (arith, spelled-few 20 c.args.x)

pub loop-place-preserved : goal.loop-place-preserved
loop-place-preserved c = let v = c.loop-place.invariant in (omega arith, stored v.0 c.loop-place-test.true v.1)

pub returns : goal.returns
returns c =
    let s = rw (le-ltb c.args.at c.loop-place.place c.loop-place-test.false) at c.loop-place.invariant.1 in
    record { put = record { stored = s.due; ends = omega arith }; few = omega (arith, spelled-few 20 c.args.x) }
