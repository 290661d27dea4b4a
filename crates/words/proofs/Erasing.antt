-- Zero groups, taken from the left: marks lose their highest one, values are laid, and groups are erased in words.
use mathlib.Core.Path.{◌≡◌, refl, sym, ◌∙◌, ap}
use mathlib.Core.List.{List, [], ◌∷◌, ◌++◌}
use Prim.Native.Nat.{ℕ, zero, suc, ◌+◌, ◌*◌, ◌-◌, ◌^◌, ◌≤◌, ◌<◌}
use native.Mathlib.Omega.{arith}
use native.Mathlib.Decide.{dec_lt}
use native.Mathlib.Nat.{mul-suc, pow-suc, add-suc, add-zero, mul_comm, zero-mul, zero-add, sub-zero, lt_of_lt_of_le}
use lib.ListN.{length, get_or, set, length-set}
use borrow.Author.Tests.{ne_eqb}
use Rattle.code.specs.Field.{zeros, erase_by, leftmost, lay}
use Rattle.code.proofs.Groups.{erase}
use Rattle.code.proofs.Groups.{erase-zeros, erase-length, lay-length, Wiped, erase-wiped}
use Rattle.words.specs.Marks.{marks_of, zero_group, top_of, stripped, lows, nonzero_group, word_lows, word_marks, ZeroMarked, Erased}
use Rattle.words.proofs.Masks.{marks-lt, groups-long, marks-not}
use Rattle.words.proofs.Highest.{top-is}
use Rattle.words.proofs.Packed.{packed, packed_lt, groups-packed}
use mathlib.Core.Logic.{inl, inr}
use lib.Count.{ones}
use lib.Pow.{pow_mono}
use lib.Seq.{get_or-set_same, get_or-set_other}
use Rattle.code.specs.Lists.{Upto}
use Rattle.words.specs.Words.{groups_of, all_groups, word_bytes, word_groups, front_groups}
use Rattle.words.proofs.Sizes.{word_fits}
use Rattle.words.proofs.Front.{each_set, front-more, front-set}
use Rattle.words.proofs.Seeing.{zeros-ones, zeros-append}

marks-mark : (m x : ℕ) (xs : List ℕ) → 0 < x → marks_of m zero_group (x ∷ xs) ≡ marks_of m zero_group xs
unfolding marks_of
marks-mark m x xs h = rw (ne_eqb x 0 (λ z. omega arith)) (omega arith)

marks-blank : (m : ℕ) (xs : List ℕ) → marks_of m zero_group (0 ∷ xs) ≡ 2 ^ (m * length xs) + marks_of m zero_group xs
unfolding marks_of
marks-blank m xs = omega arith

pub marks-kept : (m e : ℕ) (xs : List ℕ) → 0 < e → marks_of m zero_group (erase e 0 xs) ≡ marks_of m zero_group xs
unfolding erase erase_by leftmost
marks-kept m e [] pos = refl
marks-kept m e (zero ∷ xs) pos = rw (marks-blank m (erase e 0 xs), marks-blank m xs, erase-length e 0 xs, marks-kept m e xs pos)
marks-kept m e (suc x ∷ xs) pos = marks-mark m e (erase e 0 xs) pos ∙ marks-kept m e xs pos ∙ sym (marks-mark m (suc x) xs (omega arith))

pub marks-none : (m : ℕ) (xs : List ℕ) → zeros xs ≡ 0 → marks_of m zero_group xs ≡ 0
unfolding zeros marks_of
marks-none m [] z = refl
marks-none m (zero ∷ xs) z = absurd (omega arith)
marks-none m (suc x ∷ xs) z = marks-mark m (suc x) xs (omega arith) ∙ marks-none m xs z

packed_more : (m g : ℕ) (xs ys : List ℕ) (d : ℕ) → length xs ≡ length ys → packed m xs ≡ packed m ys + d → packed m (g ∷ xs) ≡ packed m (g ∷ ys) + d
unfolding packed
packed_more m g xs ys d l e = rw (l, e) (omega arith)

-- where i zero groups are erased, the highest mark stands at k: it is that of the next, into which the next value goes
record Topped (m e : ℕ) (gs : List ℕ) (i k : ℕ) : Type 0 where
  above : 2 ^ k ≤ marks_of m zero_group (erase e i gs)
  below : marks_of m zero_group (erase e i gs) < 2 ^ suc k
  within : suc k ≤ m * length gs
  rest : marks_of m zero_group (erase e i gs) - 2 ^ k ≡ marks_of m zero_group (erase e (suc i) gs)
  laid : (qs : List ℕ) (x : ℕ) → length qs ≡ i → packed m (lay gs (qs ++ x ∷ [])) ≡ packed m (lay gs qs) + x * 2 ^ k

module _ (m e : ℕ) (pm : 0 < m) (pe : 0 < e) where
  topped-here : (gs : List ℕ) → Topped m e (0 ∷ gs) 0 (m * length gs)
  unfolding erase erase_by leftmost lay packed
  topped-here gs =
      let xs = erase e 0 gs in
      let n : length xs ≡ length gs = erase-length e 0 gs in
      let l : marks_of m zero_group xs < 2 ^ (m * length gs) = rw n at (marks-lt m zero_group xs pm) in
      let a : marks_of m zero_group (0 ∷ xs) ≡ 2 ^ (m * length gs) + marks_of m zero_group xs = rw n at (marks-blank m xs) in
      record {
        above = omega arith;
        below = omega (arith, pow-suc 2 (m * length gs));
        within = omega (arith, mul-suc m (length gs));
        rest = omega (arith, marks-mark m e xs pe);
        laid = λ qs x z. laid-here qs x z;
      }
    where
      laid-here : (qs : List ℕ) (x : ℕ) → length qs ≡ 0 → packed m (lay (0 ∷ gs) (qs ++ x ∷ [])) ≡ packed m (lay (0 ∷ gs) qs) + x * 2 ^ (m * length gs)
      laid-here [] x z = rw (lay-length gs []) (omega arith)
      laid-here (q ∷ qs) x z = absurd (omega arith)

  -- the same behind a group that is erased already
  topped-behind : {gs hs : List ℕ} {i j k : ℕ} → Topped m e gs i k → length hs ≡ suc (length gs)
      → marks_of m zero_group (erase e j hs) ≡ marks_of m zero_group (erase e i gs)
      → marks_of m zero_group (erase e (suc j) hs) ≡ marks_of m zero_group (erase e (suc i) gs)
      → ((qs : List ℕ) (x : ℕ) → length qs ≡ j → packed m (lay hs (qs ++ x ∷ [])) ≡ packed m (lay hs qs) + x * 2 ^ k) → Topped m e hs j k
  topped-behind {gs} {hs} {i} {j} {k} t n a b l = record {
    above = rw a t.above;
    below = rw a t.below;
    within = rw n (omega (arith, t.within, mul-suc m (length gs)));
    rest = rw (a, b) t.rest;
    laid = l;
  }

  topped : (gs : List ℕ) (i : ℕ) → i < zeros gs → (k : ℕ) × Topped m e gs i k
  unfolding zeros erase erase_by leftmost lay
  topped [] i h = absurd (omega arith)
  topped (suc g ∷ gs) i h =
      let t = topped gs i h in
      let laid_on : (qs : List ℕ) (x : ℕ) → length qs ≡ i → packed m (suc g ∷ lay gs (qs ++ x ∷ [])) ≡ packed m (suc g ∷ lay gs qs) + x * 2 ^ t.0 =
      λ qs x z. packed_more m (suc g) (lay gs (qs ++ x ∷ [])) (lay gs qs) (x * 2 ^ t.0) (lay-length gs (qs ++ x ∷ []) ∙ sym (lay-length gs qs))
      (t.1.laid qs x z) in
      (t.0, topped-behind t.1 refl (marks-mark m e (erase e i gs) pe) (marks-mark m e (erase e (suc i) gs) pe) laid_on)
  topped (zero ∷ gs) zero h = (m * length gs, topped-here gs)
  topped (zero ∷ gs) (suc i) h =
      let t = topped gs i (omega arith) in
      (t.0, topped-behind t.1 refl (marks-mark m e (erase e i gs) pe) (marks-mark m e (erase e (suc i) gs) pe) (laid_on t.0 t.1))
    where
      laid_on : (k : ℕ) → Topped m e gs i k → (qs : List ℕ) (x : ℕ) → length qs ≡ suc i
          → packed m (lay (0 ∷ gs) (qs ++ x ∷ [])) ≡ packed m (lay (0 ∷ gs) qs) + x * 2 ^ k
      laid_on k t [] x z = absurd (omega arith)
      laid_on k t (q ∷ qs) x z = packed_more m q (lay gs (qs ++ x ∷ [])) (lay gs qs) (x * 2 ^ k) (lay-length gs (qs ++ x ∷ []) ∙ sym (lay-length gs qs))
          (t.laid qs x (omega arith))

  module _ (gs : List ℕ) (bits : m * length gs ≤ 64) where
    left : ℕ → ℕ
    left i = marks_of m zero_group (erase e i gs)

    top_left : (i : ℕ) → i < zeros gs → Topped m e gs i (top_of (left i))
    unfolding left
    top_left i h =
        let t = topped gs i h in
        rw (top-is (left i) t.0 t.1.above t.1.below (omega (arith, t.1.within))) t.1

    pub left_one : (i : ℕ) → marks_of m zero_group (erase e i gs) - 2 ^ top_of (marks_of m zero_group (erase e i gs)) ≡ marks_of m zero_group (erase e (suc i) gs)
    unfolding left
    left_one i = elim (dec_lt i (zeros gs)) [
      | yes h ↦ (top_left i h).rest
      | no h ↦
          let a = marks-none m (erase e i gs) (omega (arith, erase-zeros e i gs pe)) in
          let b = marks-none m (erase e (suc i) gs) (omega (arith, erase-zeros e (suc i) gs pe)) in
          omega arith
    ]

    pub left-more : (i n : ℕ) → stripped n (marks_of m zero_group (erase e i gs)) ≡ marks_of m zero_group (erase e (i + n) gs)
    unfolding stripped
    left-more i zero = rw (add-zero i)
    left-more i (suc n) = rw (left-more i n, left_one (i + n), add-suc i n)

    pub left_laid : (qs : List ℕ) (x : ℕ) → length qs < zeros gs
        → packed m (lay gs (qs ++ x ∷ [])) ≡ packed m (lay gs qs) + x * 2 ^ top_of (marks_of m zero_group (erase e (length qs) gs))
    unfolding left
    left_laid qs x h = (top_left (length qs) h).laid qs x refl

wiped-upto : (e : ℕ) (xs : List ℕ) → Wiped e xs → Upto e xs
wiped-upto e [] w = tt
wiped-upto e (x ∷ xs) w = (elim w.0 [ inl z ↦ omega arith | inr q ↦ omega arith ], wiped-upto e xs w.1)

-- the marks of the groups that are not zero, times all ones
marks-packed : (m e : ℕ) (xs : List ℕ) → 0 < e → Wiped e xs → marks_of m nonzero_group xs * e ≡ packed m xs
unfolding marks_of packed
marks-packed m e [] pos w = zero-mul e
marks-packed m e (x ∷ xs) pos w = elim w.0 [
  | inl z ↦ rw (z) (omega (arith, marks-packed m e xs pos w.1))
  | inr q ↦ rw (ne_eqb x 0 (λ z. omega arith), q) (omega (arith, marks-packed m e xs pos w.1, mul_comm e (2 ^ (m * length xs))))
]

-- the word that is 0 at the marks o and has all ones elsewhere
abbrev pub filled_word : ℕ → ℕ → ℕ
filled_word m o = (word_lows m - o) * (2 ^ m - 1)

-- the zero groups that are left of a word where the leftmost `spare` are erased, and the word then
pub record Wipes (m spare w o : ℕ) : Type 0 where
  pub below : o ≤ word_lows m
  pub fits : filled_word m o < 2 ^ 64
  pub tidy : filled_word m o < 2 ^ (8 * word_bytes m)
  pub made : groups_of m (word_groups m) (filled_word m o) ≡ erase (2 ^ m - 1) spare (groups_of m (word_groups m) w)
  pub marks : o ≡ word_marks m zero_group (filled_word m o)

module _ (m : ℕ) (hm : 2 ≤ m) (lm : m ≤ 4) where
  pub full-some : 0 < 2 ^ m - 1
  full-some = omega (arith, pow_mono {i = 2} {j = m} hm)

  pub word-bits : (w : ℕ) → m * length (groups_of m (word_groups m) w) ≤ 64
  word-bits w = rw (groups-long m (word_groups m) w) (omega (arith, word_fits m hm lm))

  wipes-at : (spare w : ℕ) → Wipes m spare w (marks_of m zero_group (erase (2 ^ m - 1) spare (groups_of m (word_groups m) w)))
  wipes-at spare w =
      let n = word_groups m in
      let e : ℕ = 2 ^ m - 1 in
      let gs = groups_of m n w in
      let xs : List ℕ = erase e spare gs in
      let o : ℕ = marks_of m zero_group xs in
      let wiped = erase-wiped e spare gs in
      let f = word_fits m hm lm in
      let l : length xs ≡ n = erase-length e spare gs ∙ groups-long m n w in
      let s : lows m n ≡ o + marks_of m nonzero_group xs = rw l at (marks-not m zero_group xs) in
      let d : lows m n - o ≡ marks_of m nonzero_group xs = omega arith in
      let p : filled_word m o ≡ packed m xs = rw (d, marks-packed m e xs full-some wiped) in
      let t : packed m xs < 2 ^ (m * n) = rw l at (packed_lt m xs (wiped-upto e xs wiped)) in
      let g : groups_of m n (filled_word m o) ≡ xs = rw p (rw l at (groups-packed m xs (wiped-upto e xs wiped))) in
      record {
        below = omega arith;
        fits = rw p (lt_of_lt_of_le t (pow_mono {i = m * n} {j = 64} (omega (arith, f))));
        tidy = rw (p, ← f.0) t;
        made = g;
        marks = ap (marks_of m zero_group) (sym g);
      }

  pub wipes-is : (spare w z o : ℕ) → z ≡ word_marks m zero_group w → o ≡ stripped spare z → Wipes m spare w o
  wipes-is spare w z o q r =
      let gs = groups_of m (word_groups m) w in
      let e : ℕ = 2 ^ m - 1 in
      let a : o ≡ marks_of m zero_group (erase e spare gs) =
      r ∙ ap (stripped spare) (q ∙ sym (marks-kept m e gs full-some)) ∙ left-more m e (omega arith) full-some gs (word-bits w) 0 spare ∙ rw (zero-add spare) in
      rw a (wipes-at spare w)

pub erase-append : (e s : ℕ) (xs ys : List ℕ) → erase e s (xs ++ ys) ≡ erase e s xs ++ erase e (s - zeros xs) ys
unfolding erase erase_by leftmost zeros
erase-append e s [] ys = rw sub-zero
erase-append e s (suc x ∷ xs) ys = ap (λ (l : List ℕ). e ∷ l) (erase-append e s xs ys)
erase-append e zero (zero ∷ xs) ys =
    let z : 0 - suc (zeros xs) ≡ 0 - zeros xs = omega arith in
    rw z (ap (λ (l : List ℕ). 0 ∷ l) (erase-append e zero xs ys))
erase-append e (suc s) (zero ∷ xs) ys =
    let z : suc s - suc (zeros xs) ≡ s - zeros xs = omega arith in
    rw z (ap (λ (l : List ℕ). e ∷ l) (erase-append e s xs ys))

-- the first i words are erased
pub record Wiping (m spare : ℕ) (before : List ℕ) (i left : ℕ) (ws os : List ℕ) : Type 0 where
  pub was : length before ≡ 16
  pub spared : left ≡ spare - zeros (front_groups m i before)
  pub ready : ZeroMarked m i ws os
  pub made : front_groups m i ws ≡ erase (2 ^ m - 1) spare (front_groups m i before)
  pub same : (j : ℕ) → i ≤ j → get_or ws j 0 ≡ get_or before j 0

zero-none : (m : ℕ) (ws os : List ℕ) → 2 ≤ m → m ≤ 4 → length ws ≡ 16 → length os ≡ 16 → ZeroMarked m 0 ws os
zero-none m ws os hm lm l r =
    record { wide = hm; narrow = lm; few = omega arith; long = l; room = r; tidy = λ j h. absurd (omega arith); marked = λ j h. absurd (omega arith) }

pub wiping-none : (m spare : ℕ) (ws os : List ℕ) → 2 ≤ m → m ≤ 4 → length ws ≡ 16 → length os ≡ 16 → Wiping m spare ws 0 spare ws os
unfolding all_groups erase erase_by leftmost zeros
wiping-none m spare ws os hm lm l r = record {
  was = l;
  spared = sym (sub-zero spare);
  ready = zero-none m ws os hm lm l r;
  made = refl;
  same = λ j h. refl;
}

-- a word more, and its zero marks
pub zero_more : {m i : ℕ} {ws os : List ℕ} (w o : ℕ) → ZeroMarked m i ws os → i < 16 → w < 2 ^ (8 * word_bytes m) → o ≡ word_marks m zero_group w
    → ZeroMarked m (i + 1) (set ws i w) (set os i o)
zero_more {m} {i} {ws} {os} w o C h l e = record {
  wide = C.wide;
  narrow = C.narrow;
  few = omega arith;
  long = rw length-set C.long;
  room = rw length-set C.room;
  tidy = each_set (λ j x. x < 2 ^ (8 * word_bytes m)) ws i w (omega (arith, C.long)) l C.tidy;
  marked = each_set (λ j x. x ≡ word_marks m zero_group (get_or (set ws i w) j 0)) os i o (omega (arith, C.room))
      (rw (get_or-set_same ws i w 0 (omega (arith, C.long))) e) (λ j b. rw (get_or-set_other ws i j w 0 (λ q. omega arith)) (C.marked j b));
}

pub wiping-more : {m spare : ℕ} {before : List ℕ} {i left : ℕ} {ws os : List ℕ} (w z o y : ℕ) → Wiping m spare before i left ws os → i < 16
    → w ≡ get_or ws i 0 → z ≡ word_marks m zero_group w → Wipes m left w o → y ≡ left - ones z
    → Wiping m spare before (i + 1) y (set ws i (filled_word m o)) (set os i o)
wiping-more {m} {spare} {before} {i} {left} {ws} {os} w z o y C h ew ez W ey =
    let n = word_groups m in
    let e : ℕ = 2 ^ m - 1 in
    let g = groups_of m n w in
    let front = front_groups m i before in
    let more : front_groups m (i + 1) before ≡ front ++ g = rw (front-more m i before (omega (arith, C.was)), ← C.same i (omega arith), ← ew) in
    record {
      was = C.was;
      spared = rw (more, zeros-append front g) (omega (arith, ey, ap ones ez, C.spared, zeros-ones m g (omega (arith, C.ready.wide))));
      ready = zero_more (filled_word m o) o C.ready h W.tidy W.marks;
      made = rw (more, front-set m i (filled_word m o) ws (omega (arith, C.ready.long)), erase-append e spare front g, C.made, W.made, C.spared);
      same = λ j b. get_or-set_other ws i j (filled_word m o) 0 (λ q. omega arith) ∙ C.same j (omega arith);
    }

pub wiping-all : {m spare : ℕ} {before : List ℕ} {i left : ℕ} {ws os : List ℕ} → Wiping m spare before i left ws os → Erased m i spare before ws os
wiping-all C = record { ready = C.ready; made = C.made }
