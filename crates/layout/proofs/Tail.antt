-- The list as the code fills it: what is filled is what `counts` has for the ranges from there on.
use Prim.Native.Nat.{ℕ, zero, suc, ◌+◌, ◌-◌, ◌^◌, ◌≤◌, ◌<◌}
use mathlib.Core.Path.{◌≡◌, refl, sym, ap, ◌∙◌}
use mathlib.Core.Logic.{inl, inr}
use mathlib.Core.List.{List, [], ◌∷◌, ◌++◌}
use native.Mathlib.Omega.{arith}
use lib.ListN.{length, get_or, drop, set, replicate, replicate-append-replicate}
use lib.Seq.{drop-cons, drop-length}
use lib.Dec.{leb}
use Rattle.code.specs.Layout.{room_by, counts}
use Rattle.code.proofs.Tests.{le-or-lt, least-low}
use Rattle.climbing.specs.Climb.{held, Least, Cut, Asked}
use Rattle.climbing.proofs.Pascal.{least-from}
use Rattle.layout.specs.Tail.{Tail, Behind}
use Rattle.layout.proofs.Least.{room-up, least-over, least-is, least-last, least-room}

-- the first count of more generations is higher, so where the later ones leave no group of g, all do not fit
module _ (g e : ℕ) where
  head-rises : (b first v : ℕ) (vs : List ℕ) → get_or (counts g e (e - 1) 1 vs) 0 0 < get_or (counts g e b first (v ∷ vs)) 0 0
  unfolding counts
  head-rises b first v vs =
      let c = get_or (counts g e (e - 1) 1 vs) 0 0 in
      omega (arith, least-low (λ (x : ℕ). leb v (room_by e b first x c)) (suc c) g)

  later-rises : (vs : List ℕ) (i : ℕ) → get_or (counts g e (e - 1) 1 (drop i vs)) 0 0 ≤ get_or (counts g e (e - 1) 1 vs) 0 0
  later-rises vs zero = omega arith
  later-rises [] (suc i) = omega arith
  later-rises (v ∷ vs) (suc i) = omega (arith, later-rises vs i, head-rises (e - 1) 1 v vs)

  none-fits : (b first : ℕ) (vs : List ℕ) (i : ℕ) → 0 < i → i ≤ length vs → g ≤ get_or (counts g e (e - 1) 1 (drop i vs)) 0 0 →
      g < get_or (counts g e b first vs) 0 0
  none-fits b first vs zero p w h = absurd (omega arith)
  none-fits b first [] (suc i) p w h = absurd (omega arith)
  none-fits b first (v ∷ vs) (suc i) p w h = omega (arith, later-rises vs i, head-rises b first v vs)

tail-begin : (g e t : ℕ) (vs : List ℕ) {h : List ℕ} → 0 < e → length vs ≡ t → t ≤ 16 → h ≡ replicate 16 0 → Tail g e t vs t 0 h
unfolding counts
tail-begin g e t vs p n few zeros =
    let z : t + (16 - t) ≡ 16 = omega arith in
    let d : drop t vs ≡ [] = rw n at (drop-length vs) in
    record { wide = p; many = n; within = omega arith; is = zeros ∙ rw (d, replicate-append-replicate, z); head = rw d }

set-zero : (i j x : ℕ) (ys : List ℕ) → i ≡ suc j → set (replicate i 0 ++ ys) j x ≡ replicate j 0 ++ x ∷ ys
set-zero i zero x ys q = rw q
set-zero i (suc j) x ys q = rw q (ap (◌∷◌ 0) (set-zero (suc j) j x ys refl))

-- the next count, r, which goes to place j; b values from `first` places on
module _
    {g e t i low v r : ℕ} {vs h : List ℕ} (b first : ℕ) (T : Tail g e t vs i low h) (j : ℕ) (next : i ≡ suc j) (here : get_or vs j 0 ≡ v)
    (L : Least (λ x. room_by e b first x low) v low r) where
  ranges : drop j vs ≡ v ∷ drop i vs
  ranges = drop-cons vs j 0 (omega (arith, T.many, T.within)) ∙ rw (next, here)

  one_more : r ≤ g → counts g e b first (drop j vs) ≡ r ∷ counts g e (e - 1) 1 (drop i vs)
  unfolding counts
  one_more f = rw (ranges, ← T.head, least-is (λ x. room_by e b first x low) (λ x y. room-up e b first low x y T.wide) v g low r L f)

  pub filled_more : r ≤ g → set h j r ≡ replicate j 0 ++ (counts g e b first (drop j vs) ++ replicate (16 - t) 0)
  filled_more f = rw (T.is, one_more f) (set-zero i j r (counts g e (e - 1) 1 (drop i vs) ++ replicate (16 - t) 0) next)

  pub head_more : r ≤ g → r ≡ get_or (counts g e b first (drop j vs)) 0 0
  head_more f = rw (one_more f)

  pub over : g < r → g < get_or (counts g e b first (drop j vs)) 0 0
  unfolding counts
  over f = rw (ranges, ← T.head) (least-over (λ x. room_by e b first x low) (λ x y. room-up e b first low x y T.wide) v g low r L f)

  at_least : g ≤ r → g ≤ get_or (counts g e b first (drop j vs)) 0 0
  at_least f = elim (le-or-lt r g) [ inl l ↦ omega (arith, head_more l) | inr k ↦ omega (arith, over k) ]

tail_more : {g e t i low v r : ℕ} {vs h : List ℕ} → Tail g e t vs i low h → (j : ℕ) → i ≡ suc j → get_or vs j 0 ≡ v →
    Least (λ x. room_by e (e - 1) 1 x low) v low r → r ≤ g → Tail g e t vs j r (set h j r)
tail_more {e} T j next here L f = record {
  wide = T.wide;
  many = T.many;
  within = omega (arith, T.within);
  is = filled_more (e - 1) 1 T j next here L f;
  head = head_more (e - 1) 1 T j next here L f;
}

-- where a later count, r, at place j leaves no group of g for those before it, no list fits
behind-crowded : {g e t i low v r : ℕ} {vs h after : List ℕ} → Tail g e t vs i low h → (j : ℕ) → i ≡ suc j → 0 < j → get_or vs j 0 ≡ v →
    Least (λ x. room_by e (e - 1) 1 x low) v low r → g ≤ r → Behind g e t vs g after
behind-crowded {g} {e} {vs = vs} T j next p here L f = record {
  some = λ l. absurd (omega arith);
  stored = λ l. absurd (omega arith);
  crowded = λ _ b first. none-fits g e b first vs j p (omega (arith, T.many, T.within)) (at_least (e - 1) 1 T j next here L f);
}

-- the last count
module _ {g e t v r : ℕ} {vs h : List ℕ} (wide : 3 ≤ e) (many : length vs ≡ t) (two : 2 ≤ t) (few : t ≤ 16) (zeros : h ≡ replicate 16 0)
    (here : v ≡ get_or vs (t - 1) 0) (L : Least (λ x. e ^ x - 1) v 0 r) where
  begun : Tail g e t vs t 0 h
  begun = tail-begin g e t vs (omega arith) many few zeros

  pub last_stored : r < g → Tail g e t vs (t - 1) r (set h (t - 1) r)
  last_stored f = tail_more begun (t - 1) (omega arith) (sym here) (least-last e (e - 1) 1 L) (omega arith)

  pub last-crowded : {after : List ℕ} → g ≤ r → Behind g e t vs g after
  last-crowded f = behind-crowded begun (t - 1) (omega arith) (omega arith) (sym here) (least-last e (e - 1) 1 L) f

-- one between the last and the first
module _ {g e t i low need r : ℕ} {vs h : List ℕ} (T : Tail g e t vs i low h) (later : 1 < i) (some : 0 < low) (more : need ≡ get_or vs (i - 1) 0 + 1)
    (L : Least (held (e - 1) 0 low) need low r) where
  next-least : Least (λ x. room_by e (e - 1) 1 x low) (get_or vs (i - 1) 0) low r
  next-least = least-room e (e - 1) 1 some (least-from (e - 1) 1 (get_or vs (i - 1) 0) (omega arith) L more)

  pub next-stored : r < g → Tail g e t vs (i - 1) r (set h (i - 1) r)
  next-stored f = tail_more T (i - 1) (omega arith) refl next-least (omega arith)

  pub next-crowded : {after : List ℕ} → g ≤ r → Behind g e t vs g after
  next-crowded f = behind-crowded T (i - 1) (omega arith) (omega arith) refl next-least f

-- what the climb to a later count of a list of g groups is asked for, x being its range
pub asked-later : {e g low need cut x : ℕ} → 3 ≤ e → e ≤ 15 → low < g → g ≤ 256 → (2 ≤ x) × (x ≤ 2 ^ 56) → need ≡ x + 1 → Cut (e - 1) need cut →
    Asked (e - 1) low need cut
asked-later wide few room most range more cuts = record {
  values = omega arith;
  few = omega arith;
  within = omega arith;
  some = omega (arith, range.0);
  most = omega (arith, range.1);
  cuts = cuts;
}
