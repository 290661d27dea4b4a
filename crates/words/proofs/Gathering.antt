-- Labels and values of the marked groups that are not zero.
use mathlib.Core.Path.{◌≡◌, refl, sym, ap, ◌∙◌}
use mathlib.Core.Bool.{cond}
use mathlib.Core.List.{List, [], ◌∷◌, ◌++◌}
use Prim.Native.Nat.{ℕ, zero, suc, ◌+◌, ◌*◌, ◌-◌, ◌%◌, ◌^◌, ◌≤◌, ◌<◌}
use native.Mathlib.Omega.{arith}
use native.Mathlib.Nat.{mul-le-mul_left, zero-mul, zero-add, one-mul, add_comm, mod-eq_of_lt, lt_of_lt_of_le}
use lib.Bits.{bit_and, and_block, and_mask, and_self, and_zero_l, and_zero_r}
use lib.Count.{ones}
use lib.Pow.{pow_pos, pow_mono, low, mod-mod-pow}
use lib.ListN.{length, get_or, set, length-append}
use borrow.Author.Tests.{ne_eqb}
use Rattle.code.proofs.Chosen.{pattern_most, labels, values}
use Rattle.code.specs.Deal.{written}
use Rattle.code.specs.Field.{zeros}
use Rattle.code.proofs.Chosen.{below_up, labels-many, labels-below}
use Rattle.words.specs.Words.{groups_of, groups_at, word_groups, front_at}
use Rattle.words.specs.Marks.{Marked, bare, skip, mark, Marks, marks_of, nonzero_group, picked}
use Rattle.words.specs.Marks.{group_in, less_in, label_in, written_marks, top_of, Leftover, Added, Pickable, Gathered}
use Rattle.code.specs.Lists.{Below}
use Rattle.words.proofs.Sizes.{word_fits}
use Rattle.words.proofs.Highest.{top-facts, mask_is}
use Rattle.words.proofs.Masks.{groups-long}
use Rattle.words.proofs.Front.{back_at}
use Rattle.words.proofs.Filling.{Going, going-none, going_more, going-all, pick_more, pick-none}
use Rattle.words.proofs.Filling.{Filling, filling-none, filling-room, filling-more, top-step, marks-less}
use Rattle.words.proofs.Picked.{groups-picked, marked-lt, marked-ones, picked-skip, picked-mark, at-skip, at_mark, marks-marked}

and-skip : (k c x o : ℕ) → x < 2 ^ k → o < 2 ^ k → bit_and (c * 2 ^ k + x) o ≡ bit_and x o
and-skip k c x o hx ho =
    let e : o ≡ 0 * 2 ^ k + o = omega arith in
    ap (bit_and (c * 2 ^ k + x)) e ∙ and_block k c 0 x o hx ho ∙ rw (and_zero_r c, zero-mul, zero-add)

and-mark : (k c x o : ℕ) → x < 2 ^ k → o < 2 ^ k → bit_and (c * 2 ^ k + x) (2 ^ k + o) ≡ bit_and c 1 * 2 ^ k + bit_and x o
and-mark k c x o hx ho =
    let e : 2 ^ k + o ≡ 1 * 2 ^ k + o = omega arith in
    ap (bit_and (c * 2 ^ k + x)) e ∙ and_block k c 1 x o hx ho

mod-mark : (k o t : ℕ) → o < 2 ^ k → t ≤ k → (2 ^ k + o) % 2 ^ t ≡ o % 2 ^ t
mod-mark k o t h l =
    let c : ℕ = k - t in
    let p : k ≡ c + t = omega arith in
    let e : 2 ^ k + o ≡ 1 * 2 ^ k + o = omega arith in
    let a : (2 ^ k + o) % 2 ^ (c + t) ≡ o = rw (← p, e) (low 1 k h) in
    sym (mod-mod-pow (2 ^ k + o) c t) ∙ rw a

module _ (m w : ℕ) (rest : List ℕ) (f : ℕ → ℕ) where
  -- x are the marks of o whose groups are not zero, and f gives their labels
  pub record Written (n o x : ℕ) : Type 0 where
    pub marked : Marked m n x
    pub places : labels (groups_at m n o w ++ rest) ≡ picked f m n x ++ labels rest
    pub less : values (groups_at m n o w ++ rest) ≡ picked (less_in m w) m n x ++ values rest
    pub some : zeros (picked (group_in m w) m n x) ≡ 0

  module _ (pos : 0 < m) (n o x : ℕ) (h : o < 2 ^ (m * n)) (W : Written n o x) where
    written-skip : Written (suc n) o x
    written-skip =
        let l = marked-lt m pos W.marked in
        record {
          marked = skip W.marked;
          places = rw (at-skip m pos n o w h, picked-skip m pos f n x l) W.places;
          less = rw (at-skip m pos n o w h, picked-skip m pos (less_in m w) n x l) W.less;
          some = rw (picked-skip m pos (group_in m w) n x l) W.some;
        }

    written-blank : group_in m w (m * n) ≡ 0 → Written (suc n) (2 ^ (m * n) + o) x
    unfolding labels values
    written-blank z =
        let l = marked-lt m pos W.marked in
        record {
          marked = skip W.marked;
          places = rw (at_mark m pos n o w h, picked-skip m pos f n x l, z) W.places;
          less = rw (at_mark m pos n o w h, picked-skip m pos (less_in m w) n x l, z) W.less;
          some = rw (picked-skip m pos (group_in m w) n x l) W.some;
        }

    written-more : (g : ℕ) → group_in m w (m * n) ≡ suc g → f (m * n) ≡ length rest + length (groups_at m n o w)
        → Written (suc n) (2 ^ (m * n) + o) (2 ^ (m * n) + x)
    unfolding labels values zeros
    written-more g e q =
        let l = marked-lt m pos W.marked in
        let s : suc g - 1 ≡ g = omega arith in
        let k : length (groups_at m n o w ++ rest) ≡ f (m * n) = length-append (groups_at m n o w) rest ∙ add_comm (length (groups_at m n o w)) (length rest)
        ∙ sym q in
        record {
          marked = mark W.marked;
          places = rw (at_mark m pos n o w h, picked-mark m pos f n x l, e, k, W.places);
          less = rw (at_mark m pos n o w h, picked-mark m pos (less_in m w) n x l, e, s, W.less);
          some = rw (picked-mark m pos (group_in m w) n x l, e) W.some;
        }

  written_at : {n o : ℕ} → 0 < m → Marked m n o → ((j : ℕ) → j < n → f (m * j) ≡ label_in (length rest) o (m * j))
      → Written n o (bit_and (marks_of m nonzero_group (groups_of m n w)) o)
  unfolding marks_of groups_of groups_at picked zeros
  written_at pos bare q = rw (and_zero_l 0) (record { marked = bare; places = refl; less = refl; some = refl })
  written_at pos (skip {n} {o} k) q =
      let gs = groups_of m n w in
      let l = marked-lt m pos (marks-marked m pos n w nonzero_group) in
      let h = marked-lt m pos k in
      rw (groups-long m n w, and-skip (m * n) (cond (nonzero_group (group_in m w (m * n))) 1 0) (marks_of m nonzero_group gs) o l h)
      (written-skip pos n o (bit_and (marks_of m nonzero_group gs) o) h (written_at pos k (λ j b. q j (omega arith))))
  written_at pos (mark {n} {o} k) q =
      let gs = groups_of m n w in
      let l = marked-lt m pos (marks-marked m pos n w nonzero_group) in
      let h = marked-lt m pos k in
      let t : (j : ℕ) → j < n → f (m * j) ≡ label_in (length rest) o (m * j) =
      λ j b. q j (omega arith) ∙ rw (mod-mark (m * n) o (m * j) h (mul-le-mul_left {m = j} {n = n} m (omega arith))) in
      let W = written_at pos k t in
      let here : f (m * n) ≡ length rest + length (groups_at m n o w) =
      q n (omega arith) ∙ rw (mod-mark (m * n) o (m * n) h (omega arith), mod-eq_of_lt h, marked-ones m pos (group_in m w) k, groups-picked m n o w) in
      rw (groups-long m n w, and-mark (m * n) (cond (nonzero_group (group_in m w (m * n))) 1 0) (marks_of m nonzero_group gs) o l h)
      (go h W (group_in m w (m * n)) refl here)
    where
      go : {n o x : ℕ} → o < 2 ^ (m * n) → Written n o x → (g : ℕ) → group_in m w (m * n) ≡ g → f (m * n) ≡ length rest + length (groups_at m n o w)
          → Written (suc n) (2 ^ (m * n) + o) (bit_and (cond (nonzero_group g) 1 0) 1 * 2 ^ (m * n) + x)
      go {n} {o} {x} h W zero e r = rw (and_zero_l 1, zero-mul, zero-add) (written-blank pos n o x h W e)
      go {n} {o} {x} h W (suc g) e r = rw (ne_eqb (suc g) 0 (λ z. omega arith), and_self 1, one-mul) (written-more pos n o x h W g e r)

-- in a word, with so many places to its right
pub written-word : (m w o right : ℕ) (rest : List ℕ) → 0 < m → Marks m o → right ≡ length rest
    → Written m w rest (label_in right o) (word_groups m) o (written_marks m o w)
written-word m w o right rest pos k e = written_at m w rest (label_in right o) pos k (λ j l. rw e)

zeros-head : (g : ℕ) (gs : List ℕ) → zeros (g ∷ gs) ≡ 0 → (0 < g) × (zeros gs ≡ 0)
unfolding zeros
zeros-head zero gs e = absurd (omega arith)
zeros-head (suc g) gs e = (omega arith, e)

module _ {m w o right left : ℕ} (L : Leftover m w o right left) (h : 0 < left) where
  label_small : label_in right o (top_of left) < 256
  label_small = (rw (top-step L.wide L.narrow L.marks h (label_in right o)) at L.small).0

  pub leftover-group : 0 < group_in m w (top_of left)
  leftover-group = (zeros-head _ _ (rw (top-step L.wide L.narrow L.marks h (group_in m w)) at L.some)).0

  left-fits : left < 2 ^ 64
  left-fits =
      let f = word_fits m L.wide L.narrow in
      lt_of_lt_of_le (marked-lt m (omega (arith, L.wide)) L.marks) (pow_mono {i = m * word_groups m} {j = 64} (omega (arith, f)))

  -- the marks below the highest, as code takes them
  pub leftover-mask : (p y : ℕ) → p ≡ top_of left → y ≡ 2 ^ p - 1 → (bit_and left y ≡ left - 2 ^ top_of left) × (bit_and left y < left)
  leftover-mask p y ep ey = rw (mask_is left y h left-fits (rw ep at ey)) (refl, omega (arith, top-facts left h left-fits, pow_pos (top_of left)))

  -- its label, as code counts it
  pub leftover-label : (p y x : ℕ) → p ≡ top_of left → y ≡ 2 ^ p - 1 → x ≡ ones (bit_and o y) → (right + x ≡ label_in right o (top_of left)) × (right + x < 256)
  leftover-label p y x ep ey ex = rw (ex, ey, ep, and_mask o (top_of left)) (refl, label_small)

  pub leftover-less : Leftover m w o right (left - 2 ^ top_of left)
  leftover-less = record {
    wide = L.wide;
    narrow = L.narrow;
    marks = marks-less L.wide L.narrow L.marks h;
    small = (rw (top-step L.wide L.narrow L.marks h (label_in right o)) at L.small).1;
    some = (zeros-head _ _ (rw (top-step L.wide L.narrow L.marks h (group_in m w)) at L.some)).1;
  }

  module _ {f : ℕ → ℕ} {before picks : List ℕ} {at : ℕ} {xs : List ℕ} {i : ℕ} (F : Filling f m before picks at left xs i) where
    pub leftover-room : i < pattern_most
    leftover-room = filling-room L.wide L.narrow L.marks h F

    pub leftover-more : (x : ℕ) → x ≡ f (top_of left) → Filling f m before picks at (left - 2 ^ top_of left) (set xs i x) (i + 1)
    leftover-more = filling-more L.wide L.narrow L.marks h F

-- nothing is filled yet
pub leftover-none : {m w o right left : ℕ} (f : ℕ → ℕ) (at : ℕ) (xs : List ℕ) → Leftover m w o right left → length xs ≡ pattern_most
    → at + ones left ≤ pattern_most → Filling f m xs (picked f m (word_groups m) left) at left xs at
leftover-none {m} {w} {o} {right} {left} f at xs L l h =
    filling-none f m (picked f m (word_groups m) left) at left xs refl l (omega (arith, marked-ones m (omega (arith, L.wide)) f L.marks))

below-front : (v : ℕ) (xs ys : List ℕ) → Below v (xs ++ ys) → Below v xs
below-front v [] ys b = tt
below-front v (x ∷ xs) ys b = (b.0, below-front v xs ys b.1)

-- the words from word i on are still to be gathered
pub record Gathering (m n : ℕ) (ws os : List ℕ) (i right : ℕ) (at less : List ℕ) (k : ℕ) : Type 0 where
  pub behind : right ≡ length (back_at m n i os ws)
  pub most : right ≤ 256
  pub places : Going (labels (front_at m n os ws)) (labels (back_at m n i os ws)) at k
  pub marks : Going (values (front_at m n os ws)) (values (back_at m n i os ws)) less k

module _ {m n : ℕ} {ws os : List ℕ} (P : Pickable m n ws os) where
  pub gathering-none : (right : ℕ) (at less : List ℕ) → right ≡ length (front_at m n os ws) → length at ≡ pattern_most
      → length less ≡ pattern_most → Gathering m n ws os 0 right at less 0
  gathering-none right at less e l h = record { behind = e; most = omega (arith, P.most); places = going-none _ at l; marks = going-none _ less h }

  pub gathering-all : {i right : ℕ} {at less : List ℕ} {k : ℕ} → n ≤ i → Gathering m n ws os i right at less k → Gathered (front_at m n os ws) at less k
  unfolding labels values
  gathering-all {i} {right} {at} {less} {k} h G =
      let z = pick-none P i h in
      let a = going-all (ap labels z) G.places in
      let b = going-all (ap values z) G.marks in
      record {
        chosen = record { count = a.count ∙ labels-many (front_at m n os ws); places = a.made; marks = b.made };
        long = a.long;
        room = b.long;
      }

  module _ {i right : ℕ} {at less : List ℕ} {k : ℕ} (h : i < n) (G : Gathering m n ws os i right at less k) where
    here : List ℕ
    here = groups_at m (word_groups m) (get_or os i 0) (get_or ws i 0)

    rest : List ℕ
    rest = back_at m n (i + 1) os ws

    ones-here : ones (get_or os i 0) ≡ length here
    unfolding here
    ones-here = marked-ones m (omega (arith, P.wide)) (group_in m (get_or ws i 0)) (P.marks i h)
        ∙ ap length (sym (groups-picked m (word_groups m) (get_or os i 0) (get_or ws i 0)))

    right-here : right ≡ length here + length rest
    unfolding here rest
    right-here = G.behind ∙ ap length (pick_more P i h) ∙ length-append here rest

    pub gathering-right : (ones (get_or os i 0) ≤ right) × (right - ones (get_or os i 0) ≡ length (back_at m n (i + 1) os ws))
    unfolding rest
    gathering-right = (omega (arith, ones-here, right-here), omega (arith, ones-here, right-here))

    -- the last word has all places that are left
    pub gathering-last : n ≤ i + 1 → right ≡ ones (get_or os i 0)
    gathering-last l =
        let none : length (back_at m n (i + 1) os ws) ≡ 0 = ap length (pick-none P (i + 1) l) in
        omega (arith, gathering-right.0, gathering-right.1, none)

    module _ (w o r : ℕ) (ew : w ≡ get_or ws i 0) (eo : o ≡ get_or os i 0) (er : r ≡ length (back_at m n (i + 1) os ws)) where
      written-here : Written m w rest (label_in r o) (word_groups m) o (written_marks m o w)
      unfolding rest
      written-here = written-word m w o r rest (omega (arith, P.wide)) (rw eo (P.marks i h)) er

      back-here : back_at m n i os ws ≡ groups_at m (word_groups m) o w ++ rest
      unfolding rest
      back-here = rw (ew, eo) (pick_more P i h)

      all_here : labels (back_at m n i os ws) ≡ picked (label_in r o) m (word_groups m) (written_marks m o w) ++ labels rest
      all_here = ap labels back-here ∙ written-here.places

      pub gathering-left : Leftover m w o r (written_marks m o w)
      gathering-left =
          let W = written-here in
          let all = back_at m n i os ws in
          let here = picked (label_in r o) m (word_groups m) (written_marks m o w) in
          record {
            wide = P.wide;
            narrow = P.narrow;
            marks = W.marked;
            small = below-front 256 here (labels rest)
                (rw all_here at (below_up (length all) 256 (labels all) (omega (arith, G.behind, G.most)) (labels-below all)));
            some = W.some;
          }

      pub gathering-few : written (front_at m n os ws) ≤ pattern_most → k + ones (written_marks m o w) ≤ pattern_most
      gathering-few most =
          let here = picked (label_in r o) m (word_groups m) (written_marks m o w) in
          let a = marked-ones m (omega (arith, P.wide)) (label_in r o) written-here.marked in
          let b = ap length all_here ∙ length-append here (labels rest) in
          omega (arith, a, b, G.places.count, labels-many (front_at m n os ws), most)

      pub gathering-more : (at' less' : List ℕ) (k' : ℕ) → Added (picked (label_in r o) m (word_groups m) (written_marks m o w)) at at' k k'
          → Added (picked (less_in m w) m (word_groups m) (written_marks m o w)) less less' k k' → Gathering m n ws os (i + 1) r at' less' k'
      unfolding rest
      gathering-more at' less' k' a b =
          let W = written-here in
          record {
            behind = er;
            most = omega (arith, er, right-here, G.most);
            places = going_more _ _ at' k' G.places all_here a;
            marks = going_more _ _ less' k' G.marks (ap values back-here ∙ W.less) b;
          }
