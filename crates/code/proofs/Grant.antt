-- The granted list: it meets the conditions where it fits, and no list that meets them has a lower count anywhere.
use Prim.Native.Nat.{ℕ, zero, suc, ◌-◌, ◌^◌, ◌≤◌, ◌<◌}
use mathlib.Core.Path.{◌≡◌, refl, ap}
use mathlib.Core.List.{List, [], ◌∷◌}
use native.Mathlib.Omega.{arith}
use lib.ListN.{length, get_or}
use lib.Pow.{pow_mono}
use lib.Dec.{leb}
use borrow.Author.Tests.{le-leb, leb-true}
use Rattle.code.specs.Count.{least}
use Rattle.code.specs.Code.{room, deals}
use Rattle.code.specs.Layout.{room_by, Meets, counts, grant}
use Rattle.code.specs.Lists.{Rises}
use Rattle.code.proofs.Tests.{least-low, least-le, least-passes}
use Rattle.code.proofs.Count.{fewer-grows}
use Rattle.code.proofs.Conditions.{Holds, Layout, meets-holds, holds-meets}

-- a lower next count leaves more room
room-grows : (e b first h c h' : ℕ) → c ≤ h' → (c ≡ 0 → h' ≡ 0) → room_by e b first h h' ≤ room_by e b first h c
unfolding room deals
room-grows e b first h zero zero l z = omega arith
room-grows e b first h zero (suc h') l z = absurd (omega (arith, z refl))
room-grows e b first h (suc c) zero l z = absurd (omega arith)
room-grows e b first h (suc c) (suc h') l z = fewer-grows b h first (suc (h - suc h')) (suc (h - suc c)) (omega arith)

rises-head : (xs ys : List ℕ) → Rises xs ys → get_or xs 0 0 ≤ get_or ys 0 0
rises-head [] [] r = omega arith
rises-head [] (y ∷ ys) r = absurd r
rises-head (x ∷ xs) [] r = absurd r
rises-head (x ∷ xs) (y ∷ ys) r = r.0

none_left : (fuel e b first : ℕ) (hs vs : List ℕ) → Holds e b first hs vs → get_or (counts fuel e b first vs) 0 0 ≡ 0 → get_or hs 0 0 ≡ 0
unfolding Holds counts
none_left fuel e b first [] vs m z = refl
none_left fuel e b first (h ∷ hs) [] m z = absurd m
none_left fuel e b first (h ∷ hs) (v ∷ vs) m z =
    let c = get_or (counts fuel e (e - 1) 1 vs) 0 0 in
    absurd (omega (arith, z, least-low (λ (k : ℕ). leb v (room_by e b first k c)) (suc c) fuel))

pub counts-least : (fuel e b first : ℕ) (hs vs : List ℕ) → Holds e b first hs vs → Rises (counts fuel e b first vs) hs
unfolding Holds counts
counts-least fuel e b first [] [] m = tt
counts-least fuel e b first [] (v ∷ vs) m = absurd m
counts-least fuel e b first (h ∷ hs) [] m = absurd m
counts-least fuel e b first (h ∷ hs) (v ∷ vs) m =
    let ih = counts-least fuel e (e - 1) 1 hs vs m.2 in
    let c = get_or (counts fuel e (e - 1) 1 vs) 0 0 in
    let l = rises-head (counts fuel e (e - 1) 1 vs) hs ih in
    let g = room-grows e b first h c (get_or hs 0 0) l (none_left fuel e (e - 1) 1 hs vs m.2) in
    (least-le (λ (k : ℕ). leb v (room_by e b first k c)) (suc c) fuel h (omega (arith, m.0)) (le-leb v (room_by e b first h c) (omega (arith, m.1))), ih)

pub counts-hold : (fuel e b first : ℕ) (vs : List ℕ) → get_or (counts fuel e b first vs) 0 0 ≤ fuel → Holds e b first (counts fuel e b first vs) vs
unfolding Holds counts
counts-hold fuel e b first [] h = tt
counts-hold fuel e b first (v ∷ vs) h =
    let c = get_or (counts fuel e (e - 1) 1 vs) 0 0 in
    let low = least-low (λ (k : ℕ). leb v (room_by e b first k c)) (suc c) fuel in (
      low,
      leb-true v (room_by e b first (least (λ (k : ℕ). leb v (room_by e b first k c)) (suc c) fuel) c)
          (least-passes (λ (k : ℕ). leb v (room_by e b first k c)) (suc c) fuel (omega arith)),
      counts-hold fuel e (e - 1) 1 vs (omega arith),
    )

counts-length : (fuel e b first : ℕ) (vs : List ℕ) → length (counts fuel e b first vs) ≡ length vs
unfolding counts
counts-length fuel e b first [] = refl
counts-length fuel e b first (v ∷ vs) = ap suc (counts-length fuel e (e - 1) 1 vs)

-- The granted list is count for count at most every list that meets the conditions; so where it does not fit, none does.
pub grant-least : (g m first : ℕ) (hs vs : List ℕ) → 2 ≤ length vs → Meets m first hs vs →
    Rises (grant g m first vs) hs × (get_or (grant g m first vs) 0 0 ≤ get_or hs 0 0)
unfolding grant
grant-least g m first hs vs t2 y =
    let e = 2 ^ m - 1 in
    let r = counts-least g e e first hs vs (meets-holds m first hs vs t2 y) in
    (r, rises-head (counts g e e first vs) hs r)

pub grant-refused : (g m first : ℕ) (hs vs : List ℕ) → 2 ≤ length vs → g < get_or (grant g m first vs) 0 0 → Meets m first hs vs → g < get_or hs 0 0
grant-refused g m first hs vs t2 l y = omega (arith, (grant-least g m first hs vs t2 y).1)

pub grant-length : (g m first : ℕ) (vs : List ℕ) → length (grant g m first vs) ≡ length vs
unfolding grant
grant-length g m first vs = counts-length g (2 ^ m - 1) (2 ^ m - 1) first vs

-- Where the granted list fits it meets the conditions, and is a layout.
module _ (g m first : ℕ) (vs : List ℕ) (t2 : 2 ≤ length vs) (fits : get_or (grant g m first vs) 0 0 ≤ g) where
  pub grant-meets : Meets m first (grant g m first vs) vs
  unfolding grant
  grant-meets = holds-meets m first (counts g (2 ^ m - 1) (2 ^ m - 1) first vs) vs t2 (counts-hold g (2 ^ m - 1) (2 ^ m - 1) first vs fits)

  pub grant-fits : (order : ℕ) → 2 ≤ m → first ≤ 1 → Layout (record { order = order; m = m; first = first; counts = grant g m first vs; ranges = vs })
  grant-fits order m2 f =
      let q = grant-length g m first vs in
      record { wide = omega (arith, pow_mono m2); form = f; two = omega arith; holds = meets-holds m first (grant g m first vs) vs t2 grant-meets }
