-- Numbers and patterns answer each other.
use Prim.Native.Nat.{ℕ, zero, suc, ◌+◌, ◌*◌, ◌-◌, ◌^◌, ◌/◌, ◌%◌, ◌≤◌, ◌<◌}
use mathlib.Core.Path.{◌≡◌, refl, ap}
use mathlib.Core.Logic.{inl, inr}
use mathlib.Core.Bool.{Bool}
use mathlib.Core.List.{List, [], ◌∷◌}
use native.Mathlib.Omega.{arith}
use native.Mathlib.Nat.{pow-zero, pow-succ', one-le-pow, div-lt_iff_lt-mul, mod-lt, div-add-mod', add-sub_cancel_left, le_antisymm}
use lib.ListN.{length}
use lib.Dec.{ltb}
use lib.Arith.{digits_lt, digits_div, digits_mod}
use borrow.Author.Tests.{le-leb, lt-leb, lt-ltb, ltb-true}
use Rattle.code.specs.Count.{choose, fewer, least}
use Rattle.code.specs.Deal.{written, rank, digits, number, laid, places, deal, plain, plainly}
use Rattle.code.specs.Lists.{Upto}
use Rattle.code.proofs.Tests.{le-or-lt, least-le, least-found}
use Rattle.code.proofs.Count.{choose-grows, fewer-none, fewer-step, fewer-grows}

-- p has s places, k of them written, rank r and digits d
pub record Pattern (b s k r d : ℕ) (p : List ℕ) : Type 0 where
  pub long : length p ≡ s
  pub marks : written p ≡ k
  pub ranked : rank p ≡ r
  pub digit : digits b p ≡ d
  pub small : Upto b p

pub laid-is : (b : ℕ) → 0 < b → (s k r d : ℕ) → r < choose s k → d < b ^ k → Pattern b s k r d (laid b s k r d)
unfolding choose written rank digits laid
laid-is b pos zero zero r d hr hd =
    let hd' : d < 1 = rw pow-zero at hd in
    record { long = refl; marks = refl; ranked = omega arith; digit = omega arith; small = tt }
laid-is b pos zero (suc k) r d hr hd = absurd (omega arith)
laid-is b pos (suc s) zero r d hr hd =
    let ih = laid-is b pos s zero r d hr hd in
    record { long = ap suc ih.long; marks = ih.marks; ranked = ih.ranked; digit = ih.digit; small = (omega arith, ih.small) }
laid-is b pos (suc s) (suc k) r d hr hd = elim (le-or-lt (choose s (suc k)) r) [
  | inl h ↦
      let ih = laid-is b pos s k (r - choose s (suc k)) (d % b ^ k) (omega arith) (mod-lt d (one-le-pow k b pos)) in
      let hd' : d < b * b ^ k = rw pow-succ' at hd in
      rw (le-leb (choose s (suc k)) r h) (record {
        long = ap suc ih.long;
        marks = ap suc ih.marks;
        ranked = rw (ih.long, ih.marks, ih.ranked) (omega arith);
        digit = rw (ih.marks, ih.digit) (div-add-mod' d (b ^ k));
        small = ((div-lt_iff_lt-mul (one-le-pow k b pos)).1 hd', ih.small);
      })
  | inr h ↦
      let ih = laid-is b pos s (suc k) r d h hd in
      rw (lt-leb (choose s (suc k)) r h)
      (record { long = ap suc ih.long; marks = ih.marks; ranked = ih.ranked; digit = ih.digit; small = (omega arith, ih.small) })
]

-- the k of a number x that d places reach
past-x : ℕ → ℕ → ℕ → ℕ → ℕ → Bool
past-x b first s x k = ltb x (fewer b s first (suc k))

below-past : (b first s x k : ℕ) → least (past-x b first s x) 0 s ≡ k → fewer b s first k ≤ x
unfolding fewer past-x
below-past b first s x zero q = omega arith
below-past b first s x (suc j) q = elim (le-or-lt (fewer b s first (suc j)) x) [
  | inl h ↦ h
  | inr g ↦ absurd (omega (arith, least-le (past-x b first s x) 0 s j (omega arith) (lt-ltb x (fewer b s first (suc j)) g)))
]

places-are : (b first s d x k : ℕ) → d ≤ s → x < fewer b s first (suc d) → places b first s x ≡ k →
    (first ≤ k) × (k ≤ d) × (fewer b s first k ≤ x) × (x < fewer b s first (suc k))
unfolding places past-x
places-are b first s d x k h hx q =
    let t = lt-ltb x (fewer b s first (suc d)) hx in
    let past : x < fewer b s first (suc k) =
    ltb-true x (fewer b s first (suc k)) (rw q at (least-found (past-x b first s x) 0 s d (omega arith) (omega arith) t)) in (
      elim (le-or-lt first k) [ inl l ↦ l | inr g ↦ absurd (omega (arith, fewer-none b s first (suc k) g)) ],
      omega (arith, least-le (past-x b first s x) 0 s d (omega arith) t),
      below-past b first s x k q,
      past,
    )

-- p is a pattern of s places, at least `first` and at most d of them written, whose number is x
pub record Dealt (b first s d x : ℕ) (p : List ℕ) : Type 0 where
  pub long : length p ≡ s
  pub low : first ≤ written p
  pub high : written p ≤ d
  pub small : Upto b p
  pub back : number b first p ≡ x

pub deal-is : (b first s d x : ℕ) → 0 < b → d ≤ s → x < fewer b s first (suc d) → Dealt b first s d x (deal b first s x)
unfolding deal number
deal-is b first s d x pos h hx =
    let k = places b first s x in
    let q = places-are b first s d x k h hx refl in
    let e : ℕ = x - fewer b s first k in
    let he : e < choose s k * b ^ k = omega (arith, q.2, q.3, fewer-step b s first k q.0) in
    let l = laid-is b pos s k (e / b ^ k) (e % b ^ k) ((div-lt_iff_lt-mul (one-le-pow k b pos)).1 he) (mod-lt e (one-le-pow k b pos)) in
    record {
      long = l.long;
      low = rw l.marks q.0;
      high = rw l.marks q.1;
      small = l.small;
      back = rw (l.long, l.marks, l.ranked, l.digit) (omega (arith, q.2, div-add-mod' e (b ^ k)));
    }

-- The way back.
pub rank_below : (p : List ℕ) → rank p < choose (length p) (written p)
unfolding rank written choose
rank_below [] = omega arith
rank_below (zero ∷ p) = omega (arith, rank_below p, choose-grows (length p) (written p))
rank_below (suc x ∷ p) = omega (arith, rank_below p)

pub digits-below : (b : ℕ) (p : List ℕ) → Upto b p → digits b p < b ^ written p
unfolding digits written
digits-below b [] u = rw pow-zero (omega arith)
digits-below b (zero ∷ p) u = digits-below b p u.1
digits-below b (suc x ∷ p) u = rw pow-succ' (digits_lt u.0 (digits-below b p u.1))

laid-zero : (b s k r d : ℕ) → r < choose s k → laid b (suc s) k r d ≡ 0 ∷ laid b s k r d
unfolding laid
laid-zero b s zero r d h = refl
laid-zero b s (suc k) r d h = rw (lt-leb (choose s (suc k)) r h)

pub laid-back : (b : ℕ) (p : List ℕ) → Upto b p → laid b (length p) (written p) (rank p) (digits b p) ≡ p
unfolding laid written rank digits
laid-back b [] u = refl
laid-back b (zero ∷ p) u = rw (laid-zero b (length p) (written p) (rank p) (digits b p) (rank_below p), laid-back b p u.1)
laid-back b (suc x ∷ p) u =
    let h = digits-below b p u.1 in
    let n = choose (length p) (suc (written p)) in
    rw (le-leb n (n + rank p) (omega arith), digits_div x h, digits_mod x h, add-sub_cancel_left, laid-back b p u.1)

pub number-below : (b first : ℕ) (p : List ℕ) → Upto b p → first ≤ written p → number b first p < fewer b (length p) first (suc (written p))
unfolding number
number-below b first p u h = omega (arith, fewer-step b (length p) first (written p) h, digits_lt (rank_below p) (digits-below b p u))

pub written-le : (p : List ℕ) → written p ≤ length p
unfolding written
written-le [] = omega arith
written-le (zero ∷ p) = omega (arith, written-le p)
written-le (suc x ∷ p) = omega (arith, written-le p)

places-back : (b first : ℕ) (p : List ℕ) → Upto b p → first ≤ written p → places b first (length p) (number b first p) ≡ written p
unfolding number
places-back b first p u h =
    let k = places b first (length p) (number b first p) in
    let q = places-are b first (length p) (written p) (number b first p) k (written-le p) (number-below b first p u h) refl in
    elim (le-or-lt (written p) k) [
      | inl l ↦ le_antisymm q.1 l
      | inr g ↦ absurd (omega (arith, q.3, fewer-grows b (length p) first (suc k) (written p) g))
    ]

pub deal-back : (b first : ℕ) (p : List ℕ) → Upto b p → first ≤ written p → deal b first (length p) (number b first p) ≡ p
unfolding deal
deal-back b first p u h =
    let d = digits-below b p u in
    let n : number b first p - fewer b (length p) first (written p) ≡ rank p * b ^ written p + digits b p = unfold number in add-sub_cancel_left _ _ in
    rw (places-back b first p u h, n, digits_div (rank p) d, digits_mod (rank p) d) (laid-back b p u)

-- The last generation's plain digits: the same two ways.
pub record Plain (b s x : ℕ) (p : List ℕ) : Type 0 where
  pub long : length p ≡ s
  pub small : Upto (b - 1) p
  pub back : plain b p ≡ x

pub plainly-is : (b s x : ℕ) → 0 < b → x < b ^ s → Plain b s x (plainly b s x)
unfolding plainly plain
plainly-is b zero x pos h = let h' : x < 1 = rw pow-zero at h in record { long = refl; small = tt; back = omega arith }
plainly-is b (suc s) x pos h =
    let ih = plainly-is b s (x % b ^ s) pos (mod-lt x (one-le-pow s b pos)) in
    let h' : x < b * b ^ s = rw pow-succ' at h in
    let q : x / b ^ s < b = (div-lt_iff_lt-mul (one-le-pow s b pos)).1 h' in
    record { long = ap suc ih.long; small = (omega arith, ih.small); back = rw (ih.long, ih.back) (div-add-mod' x (b ^ s)) }

pub plain-below : (b : ℕ) (p : List ℕ) → 0 < b → Upto (b - 1) p → plain b p < b ^ length p
unfolding plain
plain-below b [] pos u = rw pow-zero (omega arith)
plain-below b (x ∷ p) pos u = let q : x < b = omega (arith, u.0) in rw pow-succ' (digits_lt q (plain-below b p pos u.1))

pub plainly-back : (b : ℕ) (p : List ℕ) → 0 < b → Upto (b - 1) p → plainly b (length p) (plain b p) ≡ p
unfolding plain plainly
plainly-back b [] pos u = refl
plainly-back b (x ∷ p) pos u = let h = plain-below b p pos u.1 in rw (digits_div x h, digits_mod x h, plainly-back b p pos u.1)

-- a number above 0 has a digit above 0
pub plain-written : (b : ℕ) (p : List ℕ) → 0 < plain b p → 0 < written p
unfolding plain written
plain-written b [] h = h
plain-written b (zero ∷ p) h = plain-written b p (omega arith)
plain-written b (suc x ∷ p) h = omega arith

-- The pattern that writes nothing has number 0.
blank-parts : (b : ℕ) (p : List ℕ) → written p ≡ 0 → (rank p ≡ 0) × (digits b p ≡ 0)
unfolding written rank digits
blank-parts b [] h = (refl, refl)
blank-parts b (zero ∷ p) h = blank-parts b p h
blank-parts b (suc x ∷ p) h = absurd (omega arith)

pub blank-number : (b first : ℕ) (p : List ℕ) → written p ≡ 0 → number b first p ≡ 0
unfolding number fewer
blank-number b first p h = let q = blank-parts b p h in rw (h, q.0, q.1, pow-zero)
