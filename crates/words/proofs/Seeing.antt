-- The zero groups and the unerased groups of words.
use mathlib.Core.Path.{◌≡◌, refl, ap, ◌∙◌}
use mathlib.Core.Bool.{Bool, true, false, cond, not}
use mathlib.Core.List.{List, [], ◌∷◌, ◌++◌}
use Prim.Native.Nat.{ℕ, zero, suc, ◌+◌, ◌*◌, ◌-◌, ◌/◌, ◌%◌, ◌^◌, ◌≤◌, ◌<◌}
use native.Mathlib.Omega.{arith}
use native.Mathlib.Nat.{one-mul, zero-mul, zero-add}
use lib.Count.{ones, ones_in, ones_cat}
use lib.Dec.{eqb}
use lib.ListN.{length, get_or, set, length-append, length-set}
use borrow.Author.Tests.{ne_eqb}
use Rattle.code.specs.Field.{zeros, unerased}
use Rattle.words.specs.Words.{groups_of, all_groups, word_groups, front_groups, groups_at, all_at, front_at}
use Rattle.words.specs.Marks.{Marks, AllMarks, marks_of, picked, zero_group, open_group, word_marks, Viewed}
use Rattle.words.proofs.Masks.{groups-long, marks-lt}
use Rattle.words.proofs.Picked.{groups-picked, picked-skip, picked-mark, marked-lt, marks-marked}
use Rattle.words.proofs.Front.{each_set, front-more, at_set}

-- the groups that pass a test are those at its marks
unfoldable passing : (ℕ → Bool) → List ℕ → List ℕ
passing t [] = []
passing t (g ∷ gs) = cond (t g) (g ∷ passing t gs) (passing t gs)

passing-picked : (m n w : ℕ) (t : ℕ → Bool) → 0 < m → picked (λ p. w / 2 ^ p % 2 ^ m) m n (marks_of m t (groups_of m n w)) ≡ passing t (groups_of m n w)
unfolding picked marks_of groups_of passing
passing-picked m zero w t pos = refl
passing-picked m (suc n) w t pos =
    rw (groups-long m n w) (go (t (f (m * n))) (marked-lt m pos (marks-marked m pos n w t)) (passing-picked m n w t pos))
  where
    f : ℕ → ℕ
    f p = w / 2 ^ p % 2 ^ m

    go : (b : Bool) {x : ℕ} {gs : List ℕ} → x < 2 ^ (m * n) → picked f m n x ≡ gs
        → picked f m (suc n) (cond b 1 0 * 2 ^ (m * n) + x) ≡ cond b (f (m * n) ∷ gs) gs
    go true {x} l e = rw one-mul (picked-mark m pos f n x l ∙ ap (λ (y : List ℕ). f (m * n) ∷ y) e)
    go false {x} l e = rw (zero-mul, zero-add) (picked-skip m pos f n x l ∙ e)

passing-at : (m n w : ℕ) (t : ℕ → Bool) → 0 < m → groups_at m n (marks_of m t (groups_of m n w)) w ≡ passing t (groups_of m n w)
passing-at m n w t pos = groups-picked m n (marks_of m t (groups_of m n w)) w ∙ passing-picked m n w t pos

flag-ones : (b : Bool) (gs : List ℕ) (g : ℕ) → ones (cond b 1 0) + length gs ≡ length (cond b (g ∷ gs) gs)
unfolding ones ones_in
flag-ones true gs g = omega arith
flag-ones false gs g = omega arith

passing-ones : (m : ℕ) (gs : List ℕ) (t : ℕ → Bool) → 0 < m → ones (marks_of m t gs) ≡ length (passing t gs)
unfolding marks_of passing ones ones_in
passing-ones m [] t pos = refl
passing-ones m (g ∷ gs) t pos =
    ones_cat (m * length gs) (cond (t g) 1 0) (marks_of m t gs) (marks-lt m t gs pos) ∙ rw (passing-ones m gs t pos) (flag-ones (t g) (passing t gs) g)

passing-zeros : (gs : List ℕ) → length (passing zero_group gs) ≡ zeros gs
unfolding passing zeros
passing-zeros [] = refl
passing-zeros (zero ∷ gs) = ap suc (passing-zeros gs)
passing-zeros (suc g ∷ gs) = rw (ne_eqb (suc g) 0 (λ e. omega arith)) (passing-zeros gs)

passing-open : (e : ℕ) (gs : List ℕ) → passing (open_group e) gs ≡ unerased e gs
unfolding passing unerased
passing-open e [] = refl
passing-open e (g ∷ gs) = rw (passing-open e gs) (go (eqb g e) (unerased e gs))
  where
    go : (b : Bool) (xs : List ℕ) → cond (not b) (g ∷ xs) xs ≡ cond b xs (g ∷ xs)
    go true xs = refl
    go false xs = refl

pub zeros-ones : (m : ℕ) (gs : List ℕ) → 0 < m → ones (marks_of m zero_group gs) ≡ zeros gs
zeros-ones m gs pos = passing-ones m gs zero_group pos ∙ passing-zeros gs

unerased-at : (m n w e : ℕ) → 0 < m → groups_at m n (marks_of m (open_group e) (groups_of m n w)) w ≡ unerased e (groups_of m n w)
unerased-at m n w e pos = passing-at m n w (open_group e) pos ∙ passing-open e (groups_of m n w)

unerased-ones : (m e : ℕ) (gs : List ℕ) → 0 < m → ones (marks_of m (open_group e) gs) ≡ length (unerased e gs)
unerased-ones m e gs pos = passing-ones m gs (open_group e) pos ∙ ap length (passing-open e gs)

pub zeros-append : (xs ys : List ℕ) → zeros (xs ++ ys) ≡ zeros xs + zeros ys
unfolding zeros
zeros-append [] ys = omega arith
zeros-append (zero ∷ xs) ys = omega (arith, zeros-append xs ys)
zeros-append (suc x ∷ xs) ys = zeros-append xs ys

pub unerased-append : (e : ℕ) (xs ys : List ℕ) → unerased e (xs ++ ys) ≡ unerased e xs ++ unerased e ys
unfolding unerased
unerased-append e [] ys = refl
unerased-append e (x ∷ xs) ys = rw (unerased-append e xs ys) (go (eqb x e))
  where
    go : (b : Bool) → cond b (unerased e xs ++ unerased e ys) (x ∷ unerased e xs ++ unerased e ys) ≡ cond b (unerased e xs) (x ∷ unerased e xs) ++ unerased e ys
    go true = refl
    go false = refl

-- the first i words are seen
pub record Viewing (m : ℕ) (ws : List ℕ) (i : ℕ) (os : List ℕ) (z u : ℕ) : Type 0 where
  pub long : length os ≡ 16
  pub few : (z ≤ 64 * i) × (u ≤ 64 * i)
  pub blank : z ≡ zeros (front_groups m i ws)
  pub many : u ≡ length (unerased (2 ^ m - 1) (front_groups m i ws))
  pub marks : AllMarks m i os
  pub held : front_at m i os ws ≡ unerased (2 ^ m - 1) (front_groups m i ws)

pub viewing-none : (m : ℕ) (ws os : List ℕ) → length os ≡ 16 → Viewing m ws 0 os 0 0
unfolding all_groups all_at zeros unerased
viewing-none m ws os l = record { long = l; few = (omega arith, omega arith); blank = refl; many = refl; marks = λ j k. absurd (omega arith); held = refl }

module _ {m : ℕ} {ws : List ℕ} {i : ℕ} {os : List ℕ} {z u : ℕ} (C : Viewing m ws i os z u) where
  pub viewing-more : (o x y : ℕ) → 2 ≤ m → length ws ≡ 16 → i < 16 → o ≡ word_marks m (open_group (2 ^ m - 1)) (get_or ws i 0)
      → (x ≡ ones (word_marks m zero_group (get_or ws i 0))) × (x ≤ 64) → (y ≡ ones o) × (y ≤ 64) → Viewing m ws (i + 1) (set os i o) (z + x) (u + y)
  viewing-more o x y h n l eo ex ey =
      let e : ℕ = 2 ^ m - 1 in
      let w = get_or ws i 0 in
      let k = word_groups m in
      let gs = groups_of m k w in
      let front = front_groups m i ws in
      let more : front_groups m (i + 1) ws ≡ front ++ gs = front-more m i ws (omega arith) in
      let both : unerased e (front ++ gs) ≡ unerased e front ++ unerased e gs = unerased-append e front gs in
      record {
        long = rw length-set C.long;
        few = (omega (arith, C.few, ex.1), omega (arith, C.few, ey.1));
        blank = rw (more, zeros-append front gs) (omega (arith, C.blank, ex.0, zeros-ones m gs (omega arith)));
        many = rw (more, both, length-append (unerased e front) (unerased e gs))
            (omega (arith, C.many, ey.0, ap ones eo, unerased-ones m e gs (omega arith)));
        marks = each_set (λ j x. Marks m x) os i o (omega (arith, C.long)) (rw eo (marks-marked m (omega arith) k w (open_group e))) C.marks;
        held = rw (more, both, at_set m i o os ws (omega (arith, C.long)) (omega arith), C.held, eo, unerased-at m k w e (omega arith));
      }

  pub viewing-all : Viewed m i ws os (record { zeros = z; unerased = u })
  viewing-all = record { long = C.long; blank = C.blank; many = C.many; marks = C.marks; held = C.held }
