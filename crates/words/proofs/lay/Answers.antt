-- `words::lay` meets its contract. Assumes nothing.
use Prim.Native.Nat.{◌+◌, ◌-◌}
use mathlib.Core.Path.{◌≡◌}
use mathlib.Core.Logic.{inl, inr}
use native.Mathlib.Omega.{arith}
use lib.ListN.{get_or}
use Rattle.code.proofs.Tests.{le-or-lt}
use Rattle.code.specs.Field.{zeros}
use Rattle.words.specs.Marks.{groups_in}
use Rattle.words.proofs.Patterns.{spread_none, spread-inside, spread-all, spread-blanks, spread-right, spread-rest, spread-more}
use Rattle.words.proofs.lay.Goals as goal

pub loop-i-init : goal.loop-i-init
loop-i-init c =
    let p = c.requires.zero_marked in
    spread_none p.0 _ _ _ _ p.1 c.requires.chosen c.requires.upto

pub returns-then-k-at : goal.returns-then-k-at
returns-then-k-at c = spread-all c.requires.zero_marked.0 c.loop-i.invariant c.if-k-at.true

pub overflow_sub-right : goal.overflow_sub-right
overflow_sub-right c = omega (arith, c.ones.ensures.0, spread-right c.requires.zero_marked.0 c.loop-i.invariant (omega arith))

pub lay_some-l-requires : goal.lay_some-l-requires
lay_some-l-requires c =
    let p = c.requires.zero_marked in
    let l = c.loop-i in
    let right : l.next ≡ l.next - c.ones.result + zeros (groups_in c.args.m (get_or l.words l.i 0)) =
    rw c.ones.ensures.0 (spread-right p.0 l.invariant (omega arith)).1 in
    record {
      blanks = (spread-blanks p.0 l.invariant (omega arith), right, omega arith, p.2);
      labels_len = c.requires.labels_len;
      remaining = spread-rest p.0 l.invariant (omega arith);
    }

pub loop-i-preserved : goal.loop-i-preserved
loop-i-preserved c =
    let p = c.requires.zero_marked in
    let l = c.loop-i in
    let right : l.next ≡ l.next - c.ones.result + zeros (groups_in c.args.m (get_or l.words l.i 0)) =
    rw c.ones.ensures.0 (spread-right p.0 l.invariant (omega arith)).1 in
    spread-more p.0 l.invariant (omega arith) _ _ _ right c.lay_some-l.ensures

-- behind the last word no written place is left
pub returns : goal.returns
returns c =
    let p = c.requires.zero_marked in
    let l = c.loop-i in
    elim (le-or-lt c.args.k l.at) [
      | inl h ↦ spread-all p.0 l.invariant h
      | inr h ↦ absurd (omega (arith, spread-inside p.0 l.invariant h (omega arith) (omega arith)))
    ]
