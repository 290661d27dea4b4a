-- The climb to a count: one sum of patterns, which goes up by Pascal's rule.
use Prim.Native.Nat.{ℕ, zero, suc, ◌+◌, ◌-◌, ◌*◌, ◌/◌, ◌^◌, ◌≤◌, ◌<◌}
use mathlib.Core.Path.{◌≡◌, refl, sym, ap, ◌∙◌}
use mathlib.Core.Logic.{inl, inr}
use native.Mathlib.Nat.{pow-zero, pow-suc, mul-le-mul, mul-le-mul_right, div-mul-le_self, le-mul_of_pos_right}
use native.Mathlib.Numerals.{add-one}
use native.Mathlib.Omega.{arith}
use Rattle.code.specs.Count.{choose, fewer}
use Rattle.code.proofs.Count.{fewer-none, fewer-step}
use Rattle.code.proofs.Tests.{le-or-lt}
use Rattle.counting.specs.Cap.{cap}
use Rattle.counting.proofs.Laws.{choose_one, next-term, across}
use Rattle.climbing.specs.Climb.{held, Least, Climbed, Asked, Short}

-- Pascal's rule for the sums: a place more is blank, or holds one of b values
wider : (b n k : ℕ) → fewer b (suc n) 0 (suc k) ≡ fewer b n 0 (suc k) + fewer b n 0 k * b
unfolding choose fewer
wider b n zero = rw (pow-zero b) (omega arith)
wider b n (suc k) =
    rw (fewer-step b (suc n) 0 (suc k) (omega arith), fewer-step b n 0 (suc k) (omega arith), wider b n k, fewer-step b n 0 k (omega arith), pow-suc b k)
    (omega arith)

chosen : (n k : ℕ) → choose (suc n) (suc k) ≡ choose n k + choose n (suc k)
unfolding choose
chosen n k = refl

one : (b n : ℕ) → choose n 0 * b ^ 0 ≡ 1
unfolding choose
one b n = rw (pow-zero b) (omega arith)

only_none : (b n : ℕ) → fewer b n 0 1 ≡ 1
only_none b n = omega (arith, fewer-step b n 0 0 (omega arith), fewer-none b n 0 0 (omega arith), one b n)

-- from 0 on there is one pattern more than from 1 on
from-none : (b n first k : ℕ) → first ≤ 1 → fewer b n 0 (suc k) ≡ fewer b n first (suc k) + first
from-none b n zero k h = omega arith
from-none b n (suc first) zero h = let z : first ≡ 0 = omega arith in rw (only_none b n, fewer-none b n (suc first) 1 (omega arith)) (omega arith)
from-none b n (suc first) (suc k) h =
    omega (arith, fewer-step b n 0 (suc k) (omega arith), fewer-step b n (suc first) (suc k) (omega arith), from-none b n (suc first) k h)

-- what holds v numbers from `first` on, holds v + first patterns from 0 on
pub least-from : {low need r : ℕ} (b first v : ℕ) → first ≤ 1 → Least (held b 0 low) need low r → need ≡ v + first → Least (held b first low) v low r
least-from {low} {need} {r} b first v h L more = record {
  above = L.above;
  short = omega (arith, L.short, from-none b (r - 1) first (r - 1 - low) h);
  enough = omega (arith, L.enough, from-none b r first (r - low) h);
}

pub climb-begin : (b low : ℕ) → low ≤ 255 → Climbed b low 0 1 low ((low + 1) * b)
climb-begin b low h =
    let z : low + 0 ≡ low = omega arith in
    record {
      is_all = sym (only_none b (low + 0));
      is-more = rw (z, choose_one low, pow-zero b) (omega arith);
      is-scale = omega arith;
      near = omega arith;
      far = omega arith;
      wide = omega arith;
      fits = omega arith;
    }

pub short-begin : (b low need : ℕ) → 0 < need → Short b low need 0
short-begin b low need h = rw (fewer-none b (low + (0 - 1)) 0 0 (omega arith)) h

module _ {b low d all more scale : ℕ} (C : Climbed b low d all more scale) where
  -- the patterns of d written places
  abbrev term : ℕ
  term = choose (low + d) d * b ^ d

  term-small : term ≤ all
  term-small = omega (arith, C.is_all, fewer-step b (low + d) 0 d (omega arith))

  -- the sum one place up
  all-next : all + (all + more) * b ≡ fewer b (low + suc d) 0 (suc (suc d))
  all-next =
      let f : low + suc d ≡ suc (low + d) = omega arith in
      rw (f, wider b (low + d) (suc d), fewer-step b (low + d) 0 (suc d) (omega arith), pow-suc b d, C.is-more, C.is_all) (omega arith)

  -- those of d + 1 written places, one place up
  term-next : (term + more) * b ≡ choose (low + suc d) (suc d) * b ^ suc d
  term-next =
      let f : low + suc d ≡ suc (low + d) = omega arith in
      rw (f, chosen (low + d) d, pow-suc b d, C.is-more) (omega arith)

  scaled : more * scale ≡ (term + more) * b * low
  scaled =
      let f : low + suc d ≡ suc (low + d) = omega arith in
      let l : suc (low + d) - suc d ≡ low = omega arith in
      let up = rw l at (across (low + d) (suc d) (omega arith)) in
      rw (term-next, C.is-more, C.is-scale, f, pow-suc b d) (move (choose (suc (low + d)) (suc d)) (choose (low + d) (suc d)) (b ^ d) (suc (low + d)) up)
    where
      move : (c c' p n : ℕ) → c * low ≡ c' * n → c' * p * (n * b) ≡ c * (p * b) * low
      move c c' p n e = omega (arith, ap (λ (x : ℕ). x * (p * b)) e)

  more-next : more * scale / (d + 2) ≡ choose (low + suc d) (suc (suc d)) * b ^ suc d
  more-next =
      let f : low + suc d - suc d ≡ low = omega arith in
      let two : suc d + 1 ≡ d + 2 = omega arith in
      rw (scaled, term-next) (rw (f, two) at (next-term (low + suc d) (suc d) (b ^ suc d) (omega arith)))

  module _ (pos : 0 < b) (little : (all + more) * b < cap) where
    pub all_room : all + more ≤ (all + more) * b
    all_room = le-mul_of_pos_right (all + more) pos

    pub scale-room : scale + b ≤ 2 ^ 57
    scale-room =
        let up = mul-le-mul_right {m = low + suc d} {n = all + more} b (omega (arith, C.wide)) in
        let one = mul-le-mul_right {m = 1} {n = all + more} b (omega (arith, C.far)) in
        omega (arith, C.is-scale)

    pub more_room : low ≤ 255 → more * scale ≤ 2 ^ 56 * 255
    more_room h =
        let t = mul-le-mul_right {m = term + more} {n = all + more} b (omega (arith, term-small)) in
        rw scaled (mul-le-mul {n₂ = 2 ^ 56} (omega arith) h)

    pub climb-turn : low ≤ 255 → Climbed b low (d + 1) (all + (all + more) * b) (more * scale / (d + 2)) (scale + b)
    climb-turn h =
        rw (add-one d)
        (record {
          is_all = all-next;
          is-more = more-next;
          is-scale = omega (arith, C.is-scale);
          near = omega (arith, C.far, all_room);
          far = omega (arith, C.far, all_room);
          wide = omega (arith, C.wide, C.far, all_room);
          fits = omega (arith, all_room, more_room h, half (more * scale));
        })
      where
        half : (x : ℕ) → x / (d + 2) * 2 ≤ x
        half x = omega (arith, div-mul-le_self x (d + 2))

  -- where d places above low are enough, or are not but one more is
  module _ {need cut : ℕ} (A : Asked b low need cut) where
    under-cut : all + more < cut → (all + more) * b < need
    under-cut h = omega (arith, A.cuts.least, mul-le-mul_right {m = suc (all + more)} {n = cut} b h)

    pub may-grow : all + more < cut → (0 < b) × (low ≤ 255) × ((all + more) * b < cap)
    may-grow h = (A.values, A.within, omega (arith, A.most, under-cut h))

    at_cut : cut ≤ all + more → need ≤ (all + more) * b
    at_cut h = omega (arith, A.cuts.enough, mul-le-mul_right b h)

    pub short-turn : all + more < cut → Short b low need (d + 1)
    short-turn h =
        let z : d + 1 - 1 ≡ d = omega arith in
        rw (z, add-one d) (omega (arith, C.is_all, under-cut h, le-mul_of_pos_right (all + more) A.values))

    one_more : all < need → cut ≤ all + more → Least (held b 0 low) need low (low + d + 1)
    one_more less reach =
        let at : low + d + 1 - 1 ≡ low + d = omega arith in
        let up : low + d + 1 ≡ low + suc d = omega arith in
        let step : low + d - low ≡ d = omega arith in
        let step' : low + suc d - low ≡ suc d = omega arith in
        record {
          above = omega arith;
          short = rw (at, step) (omega (arith, C.is_all));
          enough = rw (up, step') (omega (arith, all-next, at_cut reach));
        }

    just_so : (k : ℕ) → d ≡ k → Short b low need d → need ≤ all → Least (held b 0 low) need low (low + d)
    just_so zero z short reach = absurd (omega (arith, A.some, (rw z at C.is_all) ∙ only_none b (low + 0)))
    just_so (suc k) z short reach =
        let at : low + d - 1 ≡ low + (d - 1) = omega arith in
        let step : low + d - low ≡ d = omega arith in
        let step' : suc (low + (d - 1) - low) ≡ d = omega arith in
        record {
          above = omega arith;
          short = rw (at, step') short;
          enough = rw step (omega (arith, C.is_all));
        }

    pub climb-end : {r : ℕ} → Short b low need d → cut ≤ all + more → (all < need → r ≡ low + d + 1) × (need ≤ all → r ≡ low + d) →
        Least (held b 0 low) need low r
    climb-end short reach q = elim (le-or-lt need all) [ inl h ↦ rw (q.1 h) (just_so d refl short h) | inr h ↦ rw (q.0 h) (one_more h reach) ]
