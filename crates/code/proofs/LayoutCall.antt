-- The layout call: its bounds, its reply case by case in its seventeen fields, and what a granted layout is.
use Prim.Native.Nat.{ℕ, zero, suc, ◌+◌, ◌-◌, ◌^◌, ◌≤◌, ◌<◌}
use mathlib.Core.Path.{◌≡◌, refl, sym, ap, ◌∙◌}
use mathlib.Core.Bool.{Bool, true, false, cond, ◌&&◌}
use mathlib.Core.List.{List, [], ◌∷◌, ◌++◌}
use native.Mathlib.Omega.{arith}
use native.Mathlib.Decide.{ℕ_discrete}
use native.Mathlib.Nat.{zero-add, sub-zero, suc-sub-suc}
use lib.ListN.{length, get_or, take, replicate, length-take, length-append, length-replicate, get_or-replicate}
use lib.Seq.{take_at, get_or-take, ext_get_or}
use lib.Dec.{leb, eqb}
use borrow.Author.Tests.{le-leb, lt-ltb, le-ltb, ltb-false, leb-true, eq-eqb, ne_eqb, eqb-true, not-false}
use Rattle.code.specs.declared.Shape.{Shape}
use Rattle.code.specs.Shape.{first_of, ranges_due, given, ranges_of, all_ranges, outside, granted, misfit, counts_of, width_of, code_of, order_of}
use Rattle.code.specs.Calls.{filled, read_fields, layout_fields, refusal, answer, layout_refusal, layout_reply, generation_in, refusal_in, unerased_in}
use Rattle.code.proofs.Tests.{both_true, clash}
use Rattle.code.proofs.Numbers.{listed-length, listed_at}
use Rattle.code.proofs.Cells.{upto_all}
use Rattle.code.proofs.Conditions.{Layout}
use Rattle.code.proofs.Grant.{grant-length, grant-fits}
use Rattle.code.proofs.CountSteps.{steps-few}

-- the bounds of the form, m, t and the ranges as facts (RULES 1)
pub record Bounds (s : Shape) : Type 0 where
  pub form-high : s.form ≤ 2
  pub m-low : 2 ≤ s.m
  pub m-high : s.m ≤ 4
  pub t-low : 2 ≤ s.t
  pub t-high : s.t ≤ 16
  pub due : s.count ≡ ranges_due s.form s.t
  pub v_low : (i : ℕ) → i < s.count → 2 ≤ get_or s.v i 0
  pub v_high : (i : ℕ) → i < s.count → get_or s.v i 0 ≤ 2 ^ 56

-- the shape and g within their bounds
pub record Within (s : Shape) (g : ℕ) : Type 0 where
  pub bounds : Bounds s
  pub g-high : g ≤ 256

-- every range within its bounds, one by one
all_told : (vs : List ℕ) → all_ranges vs ≡ true → (i : ℕ) → i < length vs → (2 ≤ get_or vs i 0) × (get_or vs i 0 ≤ 2 ^ 56)
unfolding all_ranges
all_told [] h i l = absurd (omega arith)
all_told (v ∷ vs) h zero l =
    let a = both_true (leb 2 v) (leb v (2 ^ 56)) (both_true (leb 2 v && leb v (2 ^ 56)) (all_ranges vs) h).0 in
    (leb-true 2 v a.0, leb-true v (2 ^ 56) a.1)
all_told (v ∷ vs) h (suc i) l = all_told vs (both_true (leb 2 v && leb v (2 ^ 56)) (all_ranges vs) h).1 i (omega arith)

all_there : (vs : List ℕ) → ((i : ℕ) → i < length vs → (2 ≤ get_or vs i 0) × (get_or vs i 0 ≤ 2 ^ 56)) → all_ranges vs ≡ true
unfolding all_ranges
all_there [] h = refl
all_there (v ∷ vs) h =
    let a = h 0 (omega arith) in
    rw (le-leb 2 v a.0, le-leb v (2 ^ 56) a.1) (all_there vs (λ i l. h (suc i) (omega arith)))

-- the ranges given are as many as their count, and each is that of its place
pub given-length : (s : Shape) → length (given s) ≡ s.count
unfolding given
given-length s = listed-length (λ i. get_or s.v i 0) 0 s.count

pub given-at : (s : Shape) (i : ℕ) → i < s.count → get_or (given s) i 0 ≡ get_or s.v i 0
unfolding given
given-at s i l = rw (zero-add i) at (listed_at (λ i. get_or s.v i 0) 0 s.count i l)

pub given-taken : (s : Shape) → s.count ≤ length s.v → given s ≡ take s.count s.v
given-taken s h =
    let n = given-length s in
    ext_get_or 0 (given s) (take s.count s.v) (omega (arith, n, length-take s.count s.v))
    (λ i l. given-at s i (omega arith) ∙ sym (get_or-take s.count s.v i 0 (omega arith)))

pub outside-within : (s : Shape) (g : ℕ) → outside s g ≡ false → Within s g
unfolding outside
outside-within s g h =
    let m = s.m in
    let t = s.t in
    let n = ranges_due s.form t in
    let f0 = leb s.form 2 in
    let all = all_ranges (given s) in
    let mt = f0 && (leb 2 m && leb m 4) && (leb 2 t && leb t 16) in
    let a = both_true (mt && eqb s.count n && all) (leb g 256) (not-false _ h) in
    let b = both_true (mt && eqb s.count n) all a.0 in
    let b' = both_true mt (eqb s.count n) b.0 in
    let c = both_true (f0 && (leb 2 m && leb m 4)) (leb 2 t && leb t 16) b'.0 in
    let k = both_true f0 (leb 2 m && leb m 4) c.0 in
    let d = both_true (leb 2 m) (leb m 4) k.1 in
    let e = both_true (leb 2 t) (leb t 16) c.1 in
    let told : (i : ℕ) → i < s.count → (2 ≤ get_or (given s) i 0) × (get_or (given s) i 0 ≤ 2 ^ 56) =
    λ i l. all_told (given s) b.1 i (omega (arith, given-length s)) in
    let bounds : Bounds s = record {
      form-high = leb-true s.form 2 k.0;
      m-low = leb-true 2 m d.0;
      m-high = leb-true m 4 d.1;
      t-low = leb-true 2 t e.0;
      t-high = leb-true t 16 e.1;
      due = eqb-true s.count n b'.1;
      v_low = λ i l. rw (given-at s i l) at (told i l).0;
      v_high = λ i l. rw (given-at s i l) at (told i l).1;
    } in
    record { bounds = bounds; g-high = leb-true g 256 a.1 }

pub within-outside : (s : Shape) (g : ℕ) → Within s g → outside s g ≡ false
unfolding outside
within-outside s g w =
    let b = w.bounds in
    let fits : (i : ℕ) → i < length (given s) → (2 ≤ get_or (given s) i 0) × (get_or (given s) i 0 ≤ 2 ^ 56) =
    λ i l. let c : i < s.count = omega (arith, given-length s) in rw (given-at s i c) (b.v_low i c, b.v_high i c) in
    rw (le-leb s.form 2 b.form-high, le-leb 2 s.m b.m-low, le-leb s.m 4 b.m-high, le-leb 2 s.t b.t-low, le-leb s.t 16 b.t-high)
    (rw (eq-eqb s.count (ranges_due s.form s.t) b.due, all_there (given s) fits, le-leb g 256 w.g-high))

-- a test that is passed, and those after it
pub passed : (k : ℕ) (carried : List ℕ) (b : Bool) (tests : List (List ℕ × Bool)) → refusal ((k ∷ carried, b) ∷ tests) ≡ [] → (b ≡ false) × (refusal tests ≡ [])
unfolding refusal
passed k carried true tests h = clash (cc)
passed k carried false tests h = (refl, h)

-- every test has a number above 0, and so has the refusal
abbrev pub Numbered : List (List ℕ × Bool) → Type 0
Numbered [] = Unit {0}
Numbered (test ∷ tests) = (0 < get_or test.0 0 0) × Numbered tests

pub refusal-some : (tests : List (List ℕ × Bool)) → Numbered tests → (k : ℕ) (carried : List ℕ) → refusal tests ≡ k ∷ carried → 0 < k
unfolding refusal
refusal-some [] n k carried e = clash (cc)
refusal-some (test ∷ tests) n k carried e = go test.1 e (refusal-some tests n.1 k carried)
  where
    go : (b : Bool) → cond b test.0 (refusal tests) ≡ k ∷ carried → (refusal tests ≡ k ∷ carried → 0 < k) → 0 < k
    go true e ih = rw e at n.0
    go false e ih = ih e

-- the first two tests of a call are the layout's
pub refused-early : (a b : Bool) (k : ℕ) (carried : List ℕ) (tests : List (List ℕ × Bool)) → refusal ((1 ∷ [], a) ∷ (2 ∷ [], b) ∷ []) ≡ k ∷ carried →
    refusal ((1 ∷ [], a) ∷ (2 ∷ [], b) ∷ tests) ≡ k ∷ carried
unfolding refusal
refused-early true b k carried tests h = h
refused-early false true k carried tests h = h
refused-early false false k carried tests h = clash (cc)

pub passed-early : (a b : Bool) (tests : List (List ℕ × Bool)) → refusal ((1 ∷ [], a) ∷ (2 ∷ [], b) ∷ []) ≡ [] →
    refusal ((1 ∷ [], a) ∷ (2 ∷ [], b) ∷ tests) ≡ refusal tests
unfolding refusal
passed-early a b tests h =
    let p = passed 1 [] a ((2 ∷ [], b) ∷ []) h in
    rw (p.0, (passed 2 [] b [] p.1).0)

pub layout-none : (s : Shape) (g : ℕ) → layout_refusal s g ≡ [] → (outside s g ≡ false) × (misfit g (granted s g) ≡ false)
unfolding layout_refusal
layout-none s g ok =
    let a = passed 1 [] (outside s g) ((2 ∷ [], misfit g (granted s g)) ∷ []) ok in
    (a.0, (passed 2 [] (misfit g (granted s g)) [] a.1).0)

-- The ranges of the generations: in form 2 those given, as many as there are generations, and else t times the one.
module _ (s : Shape) (b : Bounds s) where
  pub listed-due : s.form ≡ 2 → s.count ≡ s.t
  unfolding ranges_due
  listed-due two = b.due ∙ rw two

  pub single-due : (s.form ≡ 2 → ⊥) → s.count ≡ 1
  unfolding ranges_due
  single-due not-two = b.due ∙ rw (ne_eqb s.form 2 not-two)

  -- there is a range at least, and no more than places for them
  pub count-some : 0 < s.count
  count-some = elim (ℕ_discrete s.form 2) [
    | yes two ↦ omega (arith, listed-due two, b.t-low)
    | no not-two ↦ omega (arith, single-due not-two)
  ]

  pub count-few : s.count ≤ 16
  count-few = elim (ℕ_discrete s.form 2) [
    | yes two ↦ omega (arith, listed-due two, b.t-high)
    | no not-two ↦ omega (arith, single-due not-two)
  ]

  pub ranges-length : length (ranges_of s) ≡ s.t
  unfolding ranges_of
  ranges-length = elim (ℕ_discrete s.form 2) [
    | yes two ↦ rw (eq-eqb s.form 2 two) (given-length s ∙ listed-due two)
    | no not-two ↦ rw (ne_eqb s.form 2 not-two) (length-replicate s.t (get_or s.v 0 0))
  ]

  pub range_listed : s.form ≡ 2 → (n : ℕ) → n < s.t → get_or (ranges_of s) n 0 ≡ get_or s.v n 0
  unfolding ranges_of
  range_listed two n l = rw (eq-eqb s.form 2 two) (given-at s n (omega (arith, listed-due two)))

  pub range-single : (s.form ≡ 2 → ⊥) → (n : ℕ) → n < s.t → get_or (ranges_of s) n 0 ≡ get_or s.v 0 0
  unfolding ranges_of
  range-single not-two n l = rw (ne_eqb s.form 2 not-two) (get_or-replicate s.t n (get_or s.v 0 0) 0 l)

  -- every generation's range is within the bounds
  pub range-within : (n : ℕ) → n < s.t → (2 ≤ get_or (ranges_of s) n 0) × (get_or (ranges_of s) n 0 ≤ 2 ^ 56)
  range-within n l = elim (ℕ_discrete s.form 2) [
    | yes two ↦ let c : n < s.count = omega (arith, listed-due two) in rw (range_listed two n l) (b.v_low n c, b.v_high n c)
    | no not-two ↦ let c : 0 < s.count = omega (arith, single-due not-two) in rw (range-single not-two n l) (b.v_low 0 c, b.v_high 0 c)
  ]

pub granted-length : (s : Shape) (g : ℕ) → Bounds s → length (granted s g) ≡ s.t
unfolding granted
granted-length s g b = grant-length g s.m _ (ranges_of s) ∙ ranges-length s b

pub first-form : (s : Shape) → first_of s ≤ 1
unfolding first_of
first-form s = go (eqb s.form 0)
  where
    go : (b : Bool) → cond b 0 1 ≤ 1
    go true = omega arith
    go false = omega arith

-- the form by the least number of places, and the other way
pub first-old : (s : Shape) → first_of s ≡ 0 → eqb s.form 0 ≡ true
unfolding first_of
first-old s h = go (eqb s.form 0) h
  where
    go : (b : Bool) → ◌≡◌ {A = ℕ} (cond b 0 1) 0 → b ≡ true
    go true e = refl
    go false e = absurd (omega arith)

pub first-new : (s : Shape) → 0 < s.form → first_of s ≡ 1
unfolding first_of
first-new s h = rw (ne_eqb s.form 0 (λ z. omega arith))

-- what a layout is that is granted to read, write and export
module _ (s : Shape) (ok : layout_refusal s 256 ≡ []) where
  pub bounded : Bounds s
  bounded = (outside-within s 256 (layout-none s 256 ok).0).bounds

  pub counts-length : length (counts_of s) ≡ s.t
  unfolding counts_of
  counts-length = granted-length s 256 bounded

  pub fits : width_of s ≤ 256
  unfolding misfit width_of counts_of
  fits = ltb-false 256 (get_or (granted s 256) 0 0) (layout-none s 256 ok).1

  pub is-layout : Layout (code_of s)
  unfolding counts_of granted width_of
  is-layout = grant-fits 256 s.m (first_of s) (ranges_of s) (omega (arith, bounded.t-low, ranges-length s bounded)) fits (order_of s) bounded.m-low (first-form s)

  -- no generation writes more places than 57
  pub counts-near : (i : ℕ) → get_or (counts_of s) i 0 ≤ get_or (counts_of s) (suc i) 0 + 57
  unfolding counts_of granted
  counts-near i = steps-few 256 s.m (first_of s) (ranges_of s) i bounded.m-low (first-form s) (upto_all (2 ^ 56) (ranges_of s) most)
    where
      most : (n : ℕ) → n < length (ranges_of s) → get_or (ranges_of s) n 0 ≤ 2 ^ 56
      most n l = (range-within s bounded n (omega (arith, ranges-length s bounded))).1

-- a list and zeros behind it, in n places
pub padded : (n k : ℕ) (xs : List ℕ) → length xs ≤ n → n ≤ k → take n (xs ++ replicate k 0) ≡ xs ++ replicate (n - length xs) 0
padded zero k [] l h = refl
padded zero k (x ∷ xs) l h = absurd (omega arith)
padded (suc n) zero xs l h = absurd (omega arith)
padded (suc n) (suc k) [] l h = rw sub-zero (ap (◌∷◌ 0) (rw sub-zero at (padded n k [] (omega arith) (omega arith))))
padded (suc n) (suc k) (x ∷ xs) l h = rw suc-sub-suc (ap (◌∷◌ x) (padded n (suc k) xs (omega arith) (omega arith)))

zeros-behind : (xs : List ℕ) (n i : ℕ) → get_or (xs ++ replicate n 0) i 0 ≡ get_or xs i 0
zeros-behind [] zero i = refl
zeros-behind [] (suc n) zero = refl
zeros-behind [] (suc n) (suc i) = zeros-behind [] n i
zeros-behind (x ∷ xs) n zero = refl
zeros-behind (x ∷ xs) n (suc i) = zeros-behind xs n i

pub filled_at : (n : ℕ) (reply : List ℕ) (i : ℕ) → i < n → get_or (filled n reply) i 0 ≡ get_or reply i 0
unfolding filled
filled_at n reply i l = get_or-take n (reply ++ replicate n 0) i 0 l ∙ zeros-behind reply n i

pub filled-length : (n : ℕ) (reply : List ℕ) → length (filled n reply) ≡ n
unfolding filled
filled-length n reply = simp (length-take, length-append, length-replicate) (omega arith)

-- the fields of a reading are five
pub read-fields-length : (reply : List ℕ) → length (read_fields reply) ≡ 5
unfolding read_fields
read-fields-length reply = go (eqb (refusal_in reply) 0)
  where
    go : (b : Bool) → length (cond b (filled 5 reply) (refusal_in reply ∷ generation_in reply ∷ 0 ∷ 0 ∷ unerased_in reply ∷ [])) ≡ 5
    go true = filled-length 5 reply
    go false = refl

-- refused for the bounds, refused for g, granted
module _ (s : Shape) (g : ℕ) where
  pub reply-outside : outside s g ≡ true → 1 ∷ replicate 16 0 ≡ filled layout_fields (layout_reply s g)
  unfolding filled refusal answer layout_refusal layout_reply
  reply-outside o = rw o

  module _ (o : outside s g ≡ false) where
    pub reply-refused : g < get_or (granted s g) 0 0 → 2 ∷ replicate 16 0 ≡ filled layout_fields (layout_reply s g)
    unfolding filled refusal answer misfit layout_refusal layout_reply
    reply-refused h = rw (o, lt-ltb g (get_or (granted s g) 0 0) h)

    pub reply-granted : get_or (granted s g) 0 0 ≤ g → s.t ≤ 16 → 0 ∷ (granted s g ++ replicate (16 - s.t) 0) ≡ filled layout_fields (layout_reply s g)
    unfolding filled refusal answer misfit layout_refusal layout_reply
    reply-granted h l =
        let n = granted-length s g (outside-within s g o).bounds in
        rw (o, le-ltb g (get_or (granted s g) 0 0) h) (ap (◌∷◌ 0) (sym (rw n at (padded 16 17 (granted s g) (omega arith) (omega arith)))))

-- the refusal of a layout is one number
pub layout-which : (s : Shape) (g k : ℕ) (carried : List ℕ) → layout_refusal s g ≡ k ∷ carried → carried ≡ []
unfolding layout_refusal refusal
layout-which s g k carried q = go (outside s g) (misfit g (granted s g)) q
  where
    go : (a b : Bool) → refusal ((1 ∷ [], a) ∷ (2 ∷ [], b) ∷ []) ≡ k ∷ carried → carried ≡ []
    go true b q = cc
    go false true q = cc
    go false false q = clash (cc)

-- What a reply in its fields tells: the refusal's number, and the counts where it is 0.
module _ (s : Shape) (g k : ℕ) (h : List ℕ) (promise : k ∷ h ≡ filled layout_fields (layout_reply s g)) where
  -- a number that is not 0 is the refusal
  pub reply-number : 0 < k → layout_refusal s g ≡ k ∷ []
  unfolding filled answer layout_reply
  reply-number p = go (layout_refusal s g) refl promise
    where
      go : (r : List ℕ) → layout_refusal s g ≡ r → k ∷ h ≡ filled layout_fields (answer r (granted s g)) → r ≡ k ∷ []
      go [] q e = let z : k ≡ 0 = cc in absurd (omega arith)
      go (j ∷ carried) q e = let z : k ≡ j = cc in rw (z, layout-which s g j carried q)

  module _ (z : k ≡ 0) where
    pub reply-none : layout_refusal s g ≡ []
    unfolding filled answer layout_reply layout_refusal
    reply-none = go (layout_refusal s g) refl promise
      where
        go : (r : List ℕ) → layout_refusal s g ≡ r → k ∷ h ≡ filled layout_fields (answer r (granted s g)) → r ≡ []
        go [] q e = refl
        go (j ∷ carried) q e = let y : k ≡ j = cc in absurd (omega (arith, refusal-some _ (omega arith, (omega arith, tt)) j carried q))

    pub reply-list : h ≡ granted s g ++ replicate (16 - s.t) 0
    unfolding misfit
    reply-list =
        let n = layout-none s g reply-none in
        cc (reply-granted s g n.0 (ltb-false g (get_or (granted s g) 0 0) n.1) (outside-within s g n.0).bounds.t-high)

    many : length (granted s g) ≡ s.t
    many = granted-length s g (outside-within s g (layout-none s g reply-none).0).bounds

    pub reply-counts : take s.t h ≡ granted s g
    reply-counts = rw reply-list (take_at (granted s g) (replicate (16 - s.t) 0) s.t many)

    pub reply-count : (i : ℕ) → get_or h i 0 ≡ get_or (granted s g) i 0
    reply-count i = rw reply-list (zeros-behind (granted s g) (16 - s.t) i)

    pub reply-enough : s.t ≤ length h
    reply-enough = omega (arith, ap length reply-list, length-append (granted s g) (replicate (16 - s.t) 0), many)
