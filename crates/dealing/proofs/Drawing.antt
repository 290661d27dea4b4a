-- Laws of dealing a number: its labels, its digits and their counts. Assumes nothing.
use mathlib.Core.Path.{◌≡◌, refl, sym, ap, subst, ◌∙◌}
use mathlib.Core.List.{List, [], ◌∷◌, ◌++◌, append_assoc}
use mathlib.Core.Logic.{inl, inr}
use Prim.Native.Nat.{ℕ, zero, suc, ◌+◌, ◌-◌, ◌*◌, ◌/◌, ◌%◌, ◌^◌, ◌≤◌, ◌<◌}
use native.Mathlib.Nat.{pow-zero, one-le-pow, mul-le-mul, mod-lt, div-add-mod', div-lt_iff_lt-mul, le_refl, zero-add, suc-add}
use native.Mathlib.Nat.{div-div-eq-div-mul, div-eq_of_lt-le, div-mul-le_self, lt-div-mul-add, lt_of_mul-lt-mul_right}
use lib.Arith.{mod-mul, digits_div, digits_mod}
use native.Mathlib.Numerals.{add-one}
use native.Mathlib.Omega.{arith}
use lib.ListN.{length, drop, take, set, length-set}
use lib.Seq.{set_split, drop_at, take-suc-set, drop-length, length-take-le, take-set-lt}
use borrow.Author.Tests.{le-leb, lt-leb}
use Rattle.code.specs.Count.{choose, fewer}
use Rattle.code.specs.Deal.{laid, deal, plain, plainly}
use Rattle.code.proofs.Chosen.{labels, values, pattern_most, Chosen}
use Rattle.code.specs.Lists.{Upto}
use Rattle.code.proofs.Tests.{le-or-lt}
use Rattle.code.proofs.Deal.{laid-is, plainly-back}
use Rattle.code.proofs.Places.{plain_from, plain-from, deal-laid}
use Rattle.code.proofs.Count.{choose-grows, choose-more, choose-up, fewer-none, fewer-step, fewer-grows}
use Rattle.counting.specs.Cap.{cap, sat}
use Rattle.counting.proofs.Laws.{choose-above, choose_one, choose-positive, inner-small, fewer-one, power-one, power-more, term-one}
use Rattle.dealing.specs.Pick.{unranked, Candidate}
use Rattle.dealing.specs.Split.{Splitting}
use Rattle.dealing.proofs.Telling.{plain_end, room}

set_front : (l : List ℕ) (j v : ℕ) → j < length l → drop j (set l j v) ≡ v ∷ drop (suc j) l
set_front l j v h = rw (set_split l j v h) (drop_at (take j l) (v ∷ drop (suc j) l) j (length-take-le j l (omega arith)))

-- the last digits of x stand in the places from i on, and y is what is left of it
pub record Spelled (e x : ℕ) (l : List ℕ) (i y : ℕ) : Type 0 where
  pub to : i ≤ length l
  pub small : Upto (e - 1) (drop i l)
  pub whole : plain_from e (drop i l) y ≡ x

pub place-begin : (e x : ℕ) (l : List ℕ) → Spelled e x l (length l) x
place-begin e x l = record { to = le_refl _; small = rw (drop-length l) tt; whole = plain_end e l (length l) x refl }

place-turn : (e x : ℕ) (l : List ℕ) (i y : ℕ) → 0 < e → 0 < i → Spelled e x l i y → Spelled e x (set l (i - 1) (y % e)) (i - 1) (y / e)
place-turn e x l zero y pos h P = absurd (omega arith)
place-turn e x l (suc j) y pos h P =
    let u : suc j - 1 ≡ j = omega arith in
    let g : j < length l = P.to in
    rw u (record {
      to = omega (arith, length-set l j (y % e));
      small = rw (set_front l j (y % e) g) (omega (arith, mod-lt y pos), P.small);
      whole = rw (set_front l j (y % e) g, ← plain-from e (y % e) (y / e) (drop (suc j) l), div-add-mod' y e) P.whole;
    })

-- two digits at once
place-two : (e x : ℕ) (l : List ℕ) (i y : ℕ) → 0 < e → Spelled e x l (i + 2) y →
    Spelled e x (set (set l (i + 1) (y % (e * e) % e)) i (y % (e * e) / e)) i (y / (e * e))
place-two e x l i y pos P =
    let low = mod-lt y pos in
    let u : i + 2 - 1 ≡ i + 1 = omega arith in
    let v : i + 1 - 1 ≡ i = omega arith in
    let one = rw u at (place-turn e x l (i + 2) y pos (omega arith) P) in
    rw (mod-mul y pos pos, digits_div (y / e % e) low, digits_mod (y / e % e) low, ← div-div-eq-div-mul y e e)
    (rw v at (place-turn e x (set l (i + 1) (y % e)) (i + 1) (y / e) pos (omega arith) one))

place_end : (e x : ℕ) (l : List ℕ) (y : ℕ) → 0 < e → x < e ^ length l → Spelled e x l 0 y → l ≡ plainly e (length l) x
place_end e x l zero pos h P = let q : plain e l ≡ x = omega (arith, P.whole) in sym (rw q at (plainly-back e l pos P.small))
place_end e x l (suc y) pos h P = absurd (omega (arith, P.whole))

-- the same in the first s places of an array
module _ (e x s : ℕ) (l : List ℕ) (pos : 0 < e) (h : s ≤ length l) where
  pub fill-two : (i y : ℕ) → 1 < i → Spelled e x (take s l) i y →
      Spelled e x (take s (set (set l (i - 2 + 1) (y % (e * e) % e)) (i - 2) (y % (e * e) / e))) (i - 2) (y / (e * e))
  fill-two i y more P =
      let u : i ≡ i - 2 + 2 = omega arith in
      let g : i ≤ s = omega (arith, P.to, length-take-le s l h) in
      let z : ℕ = y % (e * e) in
      rw (take-set-lt s (set l (i - 2 + 1) (z % e)) (i - 2) (z / e) (omega arith), take-set-lt s l (i - 2 + 1) (z % e) (omega arith))
      (place-two e x (take s l) (i - 2) y pos (subst (λ (n : ℕ). Spelled e x (take s l) n y) u P))

  pub fill_one : (y : ℕ) → Spelled e x (take s l) 1 y → Spelled e x (take s (set l 0 (y % e))) 0 (y / e)
  fill_one y P =
      let g : 0 < s = omega (arith, P.to, length-take-le s l h) in
      rw (take-set-lt s l 0 (y % e) g) (place-turn e x (take s l) 1 y pos (omega arith) P)

  pub fill_end : (y : ℕ) → x < e ^ s → Spelled e x (take s l) 0 y → take s l ≡ plainly e s x
  fill_end y small P = let n = length-take-le s l h in rw n at (place_end e x (take s l) y pos (rw n small) P)

-- the quotient by d as a product with the part that d is of w
pub by_part : (w d z : ℕ) → 0 < d → z * d < w → z * (w / d + 1) / w ≡ z / d
by_part w d z pos small =
    let q = lt-div-mul-add {a = z} pos in
    let p = lt-div-mul-add {a = w} pos in
    div-eq_of_lt-le w (low (z / d) (w / d + 1) (div-mul-le_self z d) (omega arith)) (high (z / d) (w / d + 1) q (omega (arith, div-mul-le_self w d)))
  where
    low : (k m : ℕ) → k * d ≤ z → w ≤ m * d → k * w ≤ z * m
    low k m h g =
        omega (arith, mul-le-mul {n₁ = k} {m₁ = w} {n₂ = k} {m₂ = m * d} (le_refl _) g, mul-le-mul {n₁ = k * d} {m₁ = m} {n₂ = z} {m₂ = m} h (le_refl _))

    high : (k m : ℕ) → z < k * d + d → m * d ≤ w + d → z * m < (k + 1) * w
    high k m h g = lt_of_mul-lt-mul_right d (omega (
      arith,
      mul-le-mul {n₁ = z} {m₁ = m * d} {n₂ = z} {m₂ = w + d} (le_refl _) g,
      mul-le-mul {n₁ = z + 1} {m₁ = w} {n₂ = k * d + d} {m₂ = w} (omega arith) (le_refl _),
    ))

-- the labels do not depend on the digits
laid-long : (b s k r d : ℕ) → length (laid b s k r d) ≡ s
unfolding laid
laid-long b zero k r d = refl
laid-long b (suc s) zero r d = ap suc (laid-long b s zero r d)
laid-long b (suc s) (suc k) r d = elim (le-or-lt (choose s (suc k)) r) [
  | inl h ↦ rw (le-leb (choose s (suc k)) r h) (ap suc (laid-long b s k (r - choose s (suc k)) (d % b ^ k)))
  | inr h ↦ rw (lt-leb (choose s (suc k)) r h) (ap suc (laid-long b s (suc k) r d))
]

pub unranked-none : (s r : ℕ) → unranked s 0 r ≡ []
unfolding unranked
unranked-none zero r = refl
unranked-none (suc s) r = refl

labels-unranked : (b s k r d : ℕ) → labels (laid b s k r d) ≡ unranked s k r
unfolding laid labels unranked
labels-unranked b zero k r d = refl
labels-unranked b (suc s) zero r d = labels-unranked b s zero r d ∙ unranked-none s r
labels-unranked b (suc s) (suc k) r d = elim (le-or-lt (choose s (suc k)) r) [
  | inl h ↦ rw (le-leb (choose s (suc k)) r h, laid-long b s k (r - choose s (suc k)) (d % b ^ k), labels-unranked b s k (r - choose s (suc k)) (d % b ^ k))
  | inr h ↦ rw (lt-leb (choose s (suc k)) r h) (labels-unranked b s (suc k) r d)
]

-- nor the digits on the labels
values-plainly : (b s k r d : ℕ) → r < choose s k → values (laid b s k r d) ≡ plainly b k d
unfolding laid values plainly choose
values-plainly b zero zero r d h = refl
values-plainly b zero (suc k) r d h = absurd (omega arith)
values-plainly b (suc s) zero r d h = values-plainly b s zero r d h
values-plainly b (suc s) (suc k) r d h = elim (le-or-lt (choose s (suc k)) r) [
  | inl l ↦ rw (le-leb (choose s (suc k)) r l, values-plainly b s k (r - choose s (suc k)) (d % b ^ k) (omega arith))
  | inr g ↦ rw (lt-leb (choose s (suc k)) r g) (values-plainly b s (suc k) r d g)
]

-- the pattern of a number by label and value
pub chosen : (b first s n k rest : ℕ) (at less : List ℕ) → 0 < b → first ≤ k → n ≡ fewer b s first k + rest → rest < choose s k * b ^ k →
    take k at ≡ unranked s k (rest / b ^ k) → take k less ≡ plainly b k (rest % b ^ k) → Chosen (deal b first s n) at less k
chosen b first s n k rest at less pos low e h ea el =
    let z = one-le-pow k b pos in
    let r : rest / b ^ k < choose s k = (div-lt_iff_lt-mul z).1 h in
    rw (deal-laid b first s n k rest pos low e h) (record {
      count = sym (laid-is b pos s k (rest / b ^ k) (rest % b ^ k) r (mod-lt rest z)).marks;
      places = ea ∙ sym (labels-unranked b s k (rest / b ^ k) (rest % b ^ k));
      marks = el ∙ sym (values-plainly b s k (rest / b ^ k) (rest % b ^ k) r);
    })

-- the first pattern of generation 1 writes nothing
pub chosen_none : (b first s n : ℕ) (at less : List ℕ) → 0 < b → n + first ≡ 0 → Chosen (deal b first s n) at less 0
unfolding choose plainly
chosen_none b first s n at less pos z =
    chosen b first s n 0 0 at less pos (omega arith) (omega (arith, fewer-none b s first 0 (omega arith))) (rw pow-zero (omega arith))
    (sym (unranked-none s _)) refl

-- the first label is the highest whose binomial still fits
unranked-jump : (n i q r : ℕ) → choose i (suc q) ≤ r → r < choose (suc i) (suc q) → unranked (suc (n + i)) (suc q) r ≡ i ∷ unranked i q (r - choose i (suc q))
unfolding unranked
unranked-jump zero i q r low high = rw (zero-add i, le-leb (choose i (suc q)) r low)
unranked-jump (suc n) i q r low high =
    let g : r < choose (suc (n + i)) (suc q) = let e : n + suc i ≡ suc (n + i) = omega arith in omega (arith, rw e at (choose-more n (suc i) (suc q))) in
    rw (suc-add n i, lt-leb (choose (suc (n + i)) (suc q)) r g) (unranked-jump n i q r low high)

-- the labels stand in l up to place `at`; `left` of them are to be found among `free` places
pub record Unranking (s k r₀ : ℕ) (l : List ℕ) (at free left r : ℕ) : Type 0 where
  pub total : at + left ≡ k
  pub rest : take at l ++ unranked free left r ≡ unranked s k r₀
  pub fits : r < choose free left

-- labels whose binomials do not fit are passed by
unranked-past : (n i q r : ℕ) → r < choose i (suc q) → unranked (n + i) (suc q) r ≡ unranked i (suc q) r
unfolding unranked
unranked-past zero i q r h = rw (zero-add i)
unranked-past (suc n) i q r h = rw (suc-add n i, lt-leb (choose (n + i) (suc q)) r (omega (arith, choose-more n i (suc q)))) (unranked-past n i q r h)

pub unrank-begin : (s k r free : ℕ) (l : List ℕ) → 0 < k → free ≤ s → r < choose free k → Unranking s k r l 0 free k r
unrank-begin s zero r free l p h fits = absurd (omega arith)
unrank-begin s (suc q) r free l p h fits =
    let e : s - free + free ≡ s = omega arith in
    record { total = omega arith; rest = sym (rw e at (unranked-past (s - free) free q r fits)); fits = fits }

-- a rank that fits tells that there are as many places as are to be written
pub enough : (free left r : ℕ) → r < choose free left → left ≤ free
enough free left r h = elim (le-or-lt left free) [ inl l ↦ l | inr g ↦ absurd (omega (arith, choose-above free left g)) ]

-- a label further down whose binomial does not fit either
pub leaped : (d left r label fit far : ℕ) → Candidate left r label fit → far ≡ sat (choose (label - d) left) → r < far → Candidate left r (label - d) far
leaped d left r label fit far C e h =
    let small : choose (label - d) left < cap = omega (arith, choose-up (label - d) label left (omega arith), C.is, C.small) in
    record { is = omega arith; small = omega arith; high = omega (arith, choose-grows (label - d) left) }

-- the next candidate after a label was passed by or found
pub stepped : (left r label fit below : ℕ) → 0 < left → Candidate left r label fit → r < fit →
    below ≡ choose (label - 1) left → Candidate left r (label - 1) below
stepped left r label fit below p C h e =
    let some : left ≤ label = enough label left r (omega (arith, C.is)) in
    let u : suc (label - 1) ≡ label = omega arith in
    record { is = e; small = omega (arith, choose-up (label - 1) label left (omega arith), C.is, C.small); high = rw u (omega (arith, C.is)) }

pub followed : (left r label fit under : ℕ) → 1 < left → 0 < label → Candidate left r label fit → under ≡ choose (label - 1) (left - 1) →
    r - fit < choose label (left - 1) → Candidate (left - 1) (r - fit) (label - 1) under
followed left r label fit under p q C e h =
    let u : suc (label - 1) ≡ label = omega arith in
    record { is = e; small = omega (arith, inner-small label left q (omega arith), C.is, C.small); high = rw u h }

module _ (s k r₀ : ℕ) (l : List ℕ) (at free left r : ℕ) (L : Unranking s k r₀ l at free left r) (room : at < length l) where
  -- the search found a label
  pub turn : (found fit : ℕ) → 0 < left → suc found ≤ free → r < choose (suc found) left → fit ≡ choose found left → fit ≤ r →
      Unranking s k r₀ (set l at found) (at + 1) found (left - 1) (r - fit)
  unfolding choose
  turn found fit w h high e low = put (left - 1) (free - suc found) (omega arith) (omega arith)
    where
      put : (q n : ℕ) → left ≡ suc q → free ≡ suc (n + found) → Unranking s k r₀ (set l at found) (at + 1) found q (r - fit)
      put q n el ef =
          let v : fit ≡ choose found (suc q) = rw el at e in
          let high' : r < choose (suc found) (suc q) = rw el at high in
          let low' : choose found (suc q) ≤ r = omega arith in
          rw (add-one at, v) (record {
            total = omega (arith, L.total);
            rest = rw (take-suc-set l at found room, append_assoc, ← unranked-jump n found q r low' high', ← ef, ← el) L.rest;
            fits = omega arith;
          })

  -- the last label is the rank
  pub unrank-last : left ≡ 1 → take k (set l at r) ≡ unranked s k r₀
  unrank-last one =
      let e : k ≡ suc at = omega (arith, L.total) in
      let f : r < free = omega (arith, choose_one free, rw one at L.fits) in
      let g : free ≡ suc (free - suc r + r) = omega arith in
      let jump = unranked-jump (free - suc r) r 0 r (omega (arith, choose_one r)) (omega (arith, choose_one (suc r))) in
      ap (λ (x : ℕ). take x (set l at r)) e ∙ take-suc-set l at r room ∙ rw (← unranked-none r (r - choose r 1), ← jump, ← g, ← one) L.rest

-- the way of a number to its count of written places begins at 1
pub split-begin : (b first s n : ℕ) → first ≤ 1 → s * b ≤ 3840 → n < fewer b s first (suc s) → 0 < n + first → Splitting b first s n 1 b (s * b) (n + first - 1)
split-begin b first s n hf hs h some = record {
  some = omega arith;
  from = hf;
  to = elim (le-or-lt 1 s) [
    | inl l ↦ l
    | inr g ↦ let z : s ≡ 0 = omega arith in absurd (omega (arith, fewer-one b s first hf, rw z at h, rw z at (fewer-one b s first hf)))
  ];
  number = omega (arith, fewer-one b s first hf);
  power-is = sym (power-one b);
  term_is = omega (arith, term-one b s);
}

-- a term that is passed is known exactly, and so is the power in it
pub record Passed (b s k power term : ℕ) : Type 0 where
  pub exact : term ≡ choose s k * b ^ k
  pub more : k < s
  pub power-fits : power * b < 2 ^ 60

module _ {b first s n k power term rest : ℕ} (S : Splitting b first s n k power term rest) where
  grown : term ≡ choose s k * b ^ k → fewer b s first (suc k) ≡ fewer b s first k + term
  grown e = omega (arith, fewer-step b s first k S.from)

  pub split-few : 0 < b → first ≤ 1 → n < cap → k ≤ pattern_most
  split-few pos hf small = room b s first k pos hf S.to (omega (arith, S.number))

  pub pass : b ≤ 15 → n < fewer b s first (suc s) → n < cap → term ≤ rest → Passed b s k power term
  pass hb hn small h =
      let e : term ≡ choose s k * b ^ k = omega (arith, S.term_is, S.number) in
      let p = mul-le-mul {n₁ = 1} {m₁ = b ^ k} {n₂ = choose s k} {m₂ = b ^ k} (choose-positive s k S.to) (le_refl _) in
      record {
        exact = e;
        more = elim (le-or-lt s k) [
          | inl q ↦ absurd (omega (arith, grown e, S.number, fewer-grows b s first (suc s) (suc k) (omega arith)))
          | inr q ↦ q
        ];
        power-fits = omega (arith, mul-le-mul {n₁ = power} {m₁ = b} {n₂ = 2 ^ 56} {m₂ = 15} (omega (arith, S.number, S.power-is)) hb);
      }

  pub split-turn : (t : ℕ) → term ≤ rest → Passed b s k power term → t ≡ sat (choose s (suc k) * b ^ suc k) →
      Splitting b first s n (k + 1) (power * b) t (rest - term)
  split-turn t h P et = rw add-one (record {
    some = omega arith;
    from = omega (arith, S.from);
    to = P.more;
    number = omega (arith, grown P.exact, S.number);
    power-is = rw add-one at (power-more b k S.power-is);
    term_is = et;
  })

-- what is left of the number when its term is not passed holds the rank and the digits
module _ {b first s n k power term rest : ℕ} (pos : 0 < b) (S : Splitting b first s n k power term rest) (h : rest < term) where
  pub split-divisor : 0 < power
  split-divisor = rw S.power-is (one-le-pow k b pos)

  fits : rest < choose s k * b ^ k
  fits = omega (arith, S.term_is)

  pub split-rank : rest / power < choose s k
  split-rank = rw S.power-is ((div-lt_iff_lt-mul (one-le-pow k b pos)).1 fits)

  pub split-digits : rest % power < b ^ k
  split-digits = omega (arith, mod-lt rest split-divisor, S.power-is)

  pub split-chosen : (at less : List ℕ) → take k at ≡ unranked s k (rest / power) → take k less ≡ plainly b k (rest % power) → Chosen (deal b first s n) at less k
  split-chosen at less ea el = chosen b first s n k rest at less pos S.from S.number fits (rw S.power-is at ea) (rw S.power-is at el)
