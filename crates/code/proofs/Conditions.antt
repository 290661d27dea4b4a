-- Conditions a to d generation by generation, which is how the proofs go, and that they are document 01's.
use Prim.Native.Nat.{ℕ, zero, suc, ◌-◌, ◌^◌, ◌≤◌, ◌<◌}
use mathlib.Core.Path.{◌≡◌, refl, sym, ap}
use mathlib.Core.List.{List, [], ◌∷◌}
use native.Mathlib.Omega.{arith}
use lib.ListN.{length, get_or}
use Rattle.code.specs.Count.{fewer}
use Rattle.code.specs.Layout.{Meets, room_by}
use Rattle.code.specs.Code.{Code, erased, dealt, generation_at, room, deals}

-- each count is above the next, 0 after the last, and has room for its range; the first of the list has b values from `first` places on, the others e − 1
-- from 1 on
unfoldable pub Holds : ℕ → ℕ → ℕ → List ℕ → List ℕ → Type 0
Holds e b first [] [] = Unit {0}
Holds e b first [] (v ∷ vs) = ⊥
Holds e b first (h ∷ hs) [] = ⊥
Holds e b first (h ∷ hs) (v ∷ vs) = (get_or hs 0 0 < h) × (v ≤ room_by e b first h (get_or hs 0 0)) × Holds e (e - 1) 1 hs vs

-- a layout: groups of 2 wits or more, generation 1 writing from 0 or 1 places on, 2 generations or more
pub record Layout (c : Code) : Type 0 where
  pub wide : 2 ≤ erased c
  pub form : c.first ≤ 1
  pub two : 2 ≤ length c.counts
  pub holds : Holds (erased c) (erased c) c.first c.counts c.ranges

-- What the conditions say of generation n + 1.
pub holds-length : (e b first : ℕ) (hs vs : List ℕ) → Holds e b first hs vs → length vs ≡ length hs
unfolding Holds
holds-length e b first [] [] m = refl
holds-length e b first [] (v ∷ vs) m = absurd m
holds-length e b first (h ∷ hs) [] m = absurd m
holds-length e b first (h ∷ hs) (v ∷ vs) m = ap suc (holds-length e (e - 1) 1 hs vs m.2)

pub holds-falls : (e b first : ℕ) (hs vs : List ℕ) (n : ℕ) → Holds e b first hs vs → n < length hs → get_or hs (suc n) 0 < get_or hs n 0
unfolding Holds
holds-falls e b first [] vs n m l = absurd (omega arith)
holds-falls e b first (h ∷ hs) [] n m l = absurd m
holds-falls e b first (h ∷ hs) (v ∷ vs) zero m l = m.0
holds-falls e b first (h ∷ hs) (v ∷ vs) (suc n) m l = holds-falls e (e - 1) 1 hs vs n m.2 (omega arith)

pub head-most : (e b first : ℕ) (hs vs : List ℕ) (n : ℕ) → Holds e b first hs vs → get_or hs n 0 ≤ get_or hs 0 0
unfolding Holds
head-most e b first [] vs n m = omega arith
head-most e b first (h ∷ hs) [] n m = absurd m
head-most e b first (h ∷ hs) (v ∷ vs) zero m = omega arith
head-most e b first (h ∷ hs) (v ∷ vs) (suc n) m = omega (arith, head-most e (e - 1) 1 hs vs n m.2, m.0)

pub later-room : (e : ℕ) (hs vs : List ℕ) (n : ℕ) → Holds e (e - 1) 1 hs vs → n < length hs → get_or vs n 0 ≤ room_by e (e - 1) 1 (get_or hs n 0) (get_or hs (suc n) 0)
unfolding Holds
later-room e [] vs n m l = absurd (omega arith)
later-room e (h ∷ hs) [] n m l = absurd m
later-room e (h ∷ hs) (v ∷ vs) zero m l = m.1
later-room e (h ∷ hs) (v ∷ vs) (suc n) m l = later-room e hs vs n m.2 (omega arith)

pub holds-room : (e first : ℕ) (hs vs : List ℕ) (n : ℕ) → Holds e e first hs vs → n < length hs →
    get_or vs n 0 ≤ room (dealt e first n (get_or hs (suc n) 0)) (get_or hs n 0) (get_or hs (suc n) 0)
unfolding Holds dealt
holds-room e first [] vs n m l = absurd (omega arith)
holds-room e first (h ∷ hs) [] n m l = absurd m
holds-room e first (h ∷ hs) (v ∷ vs) zero m l = m.1
holds-room e first (h ∷ hs) (v ∷ vs) (suc n) m l = later-room e hs vs n m.2 (omega arith)

-- of a code: a generation has more places than the next, and room for its range
module _ (c : Code) (y : Layout c) (n : ℕ) (l : n < length c.counts) where
  pub falls : (generation_at c n).next < (generation_at c n).places
  falls = holds-falls (erased c) (erased c) c.first c.counts c.ranges n y.holds l

  pub fits : (generation_at c n).range ≤ room (generation_at c n).dealing (generation_at c n).places (generation_at c n).next
  fits = holds-room (erased c) c.first c.counts c.ranges n y.holds l

-- the same by place, as document 01 numbers the conditions, z being the last place
record Each (e b first z : ℕ) (hs vs : List ℕ) : Type 0 where
  size : length hs ≡ suc z
  many : length hs ≡ length vs
  falls : (i : ℕ) → suc i < length hs → get_or hs (suc i) 0 < get_or hs i 0
  ends : 0 < get_or hs z 0
  opens : 1 < length hs → get_or vs 0 0 ≤ fewer b (get_or hs 0 0) first (suc (get_or hs 0 0 - get_or hs 1 0))
  goes : (i : ℕ) → 0 < i → suc i < length hs → get_or vs i 0 ≤ fewer (e - 1) (get_or hs i 0) 1 (suc (get_or hs i 0 - get_or hs (suc i) 0))
  closes : get_or vs z 0 ≤ e ^ get_or hs z 0 - 1

room-inner : (e b first h h' : ℕ) → 0 < h' → room_by e b first h h' ≡ fewer b h first (suc (h - h'))
unfolding room deals
room-inner e b first h zero p = absurd (omega arith)
room-inner e b first h (suc h') p = refl

head-above : (e b first k : ℕ) (hs vs : List ℕ) → Holds e b first (k ∷ hs) vs → 0 < k
unfolding Holds
head-above e b first k hs [] y = absurd y
head-above e b first k hs (v ∷ vs) y = omega (arith, y.0)

each_holds : (e b first z : ℕ) (hs vs : List ℕ) → Each e b first z hs vs → Holds e b first hs vs
unfolding Holds room deals
each_holds e b first z [] vs y = absurd (omega (arith, y.size))
each_holds e b first z (h ∷ hs) [] y = absurd (omega (arith, y.many))
each_holds e b first zero (h ∷ []) (v ∷ []) y = (y.ends, y.closes, tt)
each_holds e b first z (h ∷ []) (v ∷ w ∷ vs) y = absurd (omega (arith, y.many))
each_holds e b first (suc z) (h ∷ []) (v ∷ []) y = absurd (omega (arith, y.size))
each_holds e b first zero (h ∷ k ∷ hs) (v ∷ vs) y = absurd (omega (arith, y.size))
each_holds e b first (suc z) (h ∷ k ∷ hs) (v ∷ vs) y =
    let later : Each e (e - 1) 1 z (k ∷ hs) vs = record {
      size = omega (arith, y.size);
      many = omega (arith, y.many);
      falls = λ i l. y.falls (suc i) (omega arith);
      ends = y.ends;
      opens = λ l. y.goes 1 (omega arith) (omega arith);
      goes = λ i p l. y.goes (suc i) (omega arith) (omega arith);
      closes = y.closes;
    } in
    let ih = each_holds e (e - 1) 1 z (k ∷ hs) vs later in
    (y.falls 0 (omega arith), rw (room-inner e b first h k (head-above e (e - 1) 1 k hs vs ih)) (y.opens (omega arith)), ih)

-- the other way, place by place
holds-ends : (e b first z : ℕ) (hs vs : List ℕ) → Holds e b first hs vs → length hs ≡ suc z → (0 < get_or hs z 0) × (get_or vs z 0 ≤ e ^ get_or hs z 0 - 1)
unfolding Holds room deals
holds-ends e b first z [] vs y l = absurd (omega arith)
holds-ends e b first z (h ∷ hs) [] y l = absurd y
holds-ends e b first zero (h ∷ []) (v ∷ vs) y l = (y.0, y.1)
holds-ends e b first (suc z) (h ∷ []) (v ∷ vs) y l = absurd (omega arith)
holds-ends e b first zero (h ∷ k ∷ hs) (v ∷ vs) y l = absurd (omega arith)
holds-ends e b first (suc z) (h ∷ k ∷ hs) (v ∷ vs) y l = holds-ends e (e - 1) 1 z (k ∷ hs) vs y.2 (omega arith)

holds-positive : (e b first : ℕ) (hs vs : List ℕ) (n : ℕ) → Holds e b first hs vs → n < length hs → 0 < get_or hs n 0
holds-positive e b first hs vs n y l = omega (arith, holds-falls e b first hs vs n y l)

-- Conditions a to d, with a range for each generation, are what the proofs go by.
module _ (m first : ℕ) (hs vs : List ℕ) (two : 2 ≤ length vs) where
  pub meets-holds : Meets m first hs vs → Holds (2 ^ m - 1) (2 ^ m - 1) first hs vs
  meets-holds y =
      let q : 2 ^ m - 2 ≡ 2 ^ m - 1 - 1 = omega arith in
      each_holds (2 ^ m - 1) (2 ^ m - 1) first (length hs - 1) hs vs (record {
        size = omega (arith, y.many);
        many = y.many;
        falls = y.a-falls;
        ends = y.a-ends;
        opens = λ l. y.b;
        goes = λ i p l. rw q at (y.c i p l);
        closes = y.d;
      })

  pub holds-meets : Holds (2 ^ m - 1) (2 ^ m - 1) first hs vs → Meets m first hs vs
  unfolding dealt
  holds-meets y =
      let q : 2 ^ m - 2 ≡ 2 ^ m - 1 - 1 = omega arith in
      let e = 2 ^ m - 1 in
      let n = holds-length e e first hs vs y in
      let z = holds-ends e e first (length hs - 1) hs vs y (omega arith) in
      record {
        many = sym n;
        a-falls = λ i l. holds-falls e e first hs vs i y (omega arith);
        a-ends = z.0;
        b = rw (room-inner e e first (get_or hs 0 0) (get_or hs 1 0) (holds-positive e e first hs vs 1 y (omega arith)))
            at (holds-room e first hs vs 0 y (omega arith));
        c = λ i p l. rw q (later i p l);
        d = z.1;
      }
    where
      later : (i : ℕ) → 0 < i → suc i < length hs → get_or vs i 0 ≤ fewer (2 ^ m - 1 - 1) (get_or hs i 0) 1 (suc (get_or hs i 0 - get_or hs (suc i) 0))
      later zero p l = absurd (omega arith)
      later (suc i) p l =
          let e = 2 ^ m - 1 in
          rw (room-inner e (e - 1) 1 (get_or hs (suc i) 0) (get_or hs (suc (suc i)) 0) (holds-positive e e first hs vs (suc (suc i)) y l))
          at (holds-room e first hs vs (suc i) y (omega arith))
