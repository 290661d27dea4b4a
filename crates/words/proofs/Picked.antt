-- Words of marks, taken apart from the highest mark down.
use mathlib.Core.Path.{◌≡◌, refl, sym, ap, ◌∙◌}
use mathlib.Core.Bool.{Bool, true, false, cond}
use mathlib.Core.List.{List, [], ◌∷◌}
use Prim.Native.Nat.{ℕ, zero, suc, ◌+◌, ◌*◌, ◌-◌, ◌/◌, ◌%◌, ◌^◌, ◌≤◌, ◌<◌}
use native.Mathlib.Omega.{arith}
use native.Mathlib.Nat.{mul-suc, one-mul, zero-mul, zero-add, pow-suc, div-eq_of_lt}
use lib.Count.{ones, ones_in, ones_cat}
use lib.Pow.{pow_pos, high, low, field, mod-mod-pow}
use lib.ListN.{length}
use Rattle.words.specs.Words.{groups_of, groups_at}
use Rattle.words.specs.Marks.{Marked, bare, skip, mark, marks_of, picked, top_of}
use Rattle.words.proofs.Highest.{top-is}
use Rattle.words.proofs.Masks.{twice, groups-long}

pub groups-picked : (m n o w : ℕ) → groups_at m n o w ≡ picked (λ p. w / 2 ^ p % 2 ^ m) m n o
unfolding groups_at picked
groups-picked m zero o w = refl
groups-picked m (suc n) o w = rw (groups-picked m n o w)

module _ (m : ℕ) (pos : 0 < m) where
  pub marked-lt : {n o : ℕ} → Marked m n o → o < 2 ^ (m * n)
  marked-lt bare = pow_pos (m * 0)
  marked-lt (skip {n} k) = omega (arith, marked-lt k, twice m n pos)
  marked-lt (mark {n} k) = omega (arith, marked-lt k, twice m n pos)

  module _ (f : ℕ → ℕ) where
    -- bits above the groups do not matter
    picked_low : (n o t : ℕ) → m * n ≤ t → picked f m n (o % 2 ^ t) ≡ picked f m n o
    unfolding picked
    picked_low zero o t h = refl
    picked_low (suc n) o t h =
        let k : ℕ = m * n in
        let s = mul-suc m n in
        let c : ℕ = t - k - 1 in
        let p : t ≡ c + 1 + k = omega arith in
        let b : o % 2 ^ t / 2 ^ k % 2 ≡ o / 2 ^ k % 2 = rw p (ap (λ (x : ℕ). x % 2) (field o (c + 1) k) ∙ mod-mod-pow (o / 2 ^ k) c 1) in
        rw (b, picked_low n o t (omega arith))

    pub picked-skip : (n o : ℕ) → o < 2 ^ (m * n) → picked f m (suc n) o ≡ picked f m n o
    unfolding picked
    picked-skip n o h = rw (div-eq_of_lt h)

    pub picked-mark : (n o : ℕ) → o < 2 ^ (m * n) → picked f m (suc n) (2 ^ (m * n) + o) ≡ f (m * n) ∷ picked f m n o
    unfolding picked
    picked-mark n o h =
        let k : ℕ = m * n in
        let e : 2 ^ k + o ≡ 1 * 2 ^ k + o = omega arith in
        let same : picked f m n (1 * 2 ^ k + o) ≡ picked f m n o = sym (picked_low n (1 * 2 ^ k + o) k (omega arith)) ∙ ap (picked f m n) (low 1 k h) in
        rw (e, high 1 k h, same)

    pub picked_none : (n : ℕ) → picked f m n 0 ≡ []
    unfolding picked
    picked_none zero = refl
    picked_none (suc n) = picked-skip n 0 (pow_pos (m * n)) ∙ picked_none n

    pub marked-ones : {n o : ℕ} → Marked m n o → ones o ≡ length (picked f m n o)
    unfolding picked ones ones_in
    marked-ones bare = refl
    marked-ones (skip {n} {o} k) = rw (picked-skip n o (marked-lt k)) (marked-ones k)
    marked-ones (mark {n} {o} k) =
        let e : ones (2 ^ (m * n) + o) ≡ ones 1 + ones o = ap (λ (x : ℕ). ones (x + o)) (sym (one-mul (2 ^ (m * n)))) ∙ ones_cat (m * n) 1 o (marked-lt k) in
        rw (picked-mark n o (marked-lt k)) (e ∙ omega (arith, marked-ones k))

  -- the groups at the marks
  module _ (n o w : ℕ) (h : o < 2 ^ (m * n)) where
    pub at-skip : groups_at m (suc n) o w ≡ groups_at m n o w
    at-skip = groups-picked m (suc n) o w ∙ picked-skip (λ p. w / 2 ^ p % 2 ^ m) n o h ∙ sym (groups-picked m n o w)

    pub at_mark : groups_at m (suc n) (2 ^ (m * n) + o) w ≡ w / 2 ^ (m * n) % 2 ^ m ∷ groups_at m n o w
    at_mark = groups-picked m (suc n) (2 ^ (m * n) + o) w ∙ picked-mark (λ p. w / 2 ^ p % 2 ^ m) n o h ∙ rw (groups-picked m n o w)

  pub at_none : (n w : ℕ) → groups_at m n 0 w ≡ []
  at_none n w = groups-picked m n 0 w ∙ picked_none (λ p. w / 2 ^ p % 2 ^ m) n

  -- the highest mark
  pub record Topmost (n o p : ℕ) : Type 0 where
    pub above : 2 ^ p ≤ o
    pub below : o < 2 ^ suc p
    pub room : p + m ≤ m * n
    pub rest : Marked m n (o - 2 ^ p)
    pub step : (f : ℕ → ℕ) → picked f m n o ≡ f p ∷ picked f m n (o - 2 ^ p)

  topmost : {n o : ℕ} → Marked m n o → 0 < o → (p : ℕ) × Topmost n o p
  topmost bare h = absurd (omega arith)
  topmost (skip {n} {o} k) h =
      let t = topmost k h in
      let l = marked-lt k in (
        t.0,
        record {
          above = t.1.above;
          below = t.1.below;
          room = omega (arith, t.1.room, mul-suc m n);
          rest = skip t.1.rest;
          step = λ f. picked-skip f n o l ∙ t.1.step f ∙ ap (λ (x : List ℕ). f t.0 ∷ x) (sym (picked-skip f n (o - 2 ^ t.0) (omega arith)));
        },
      )
  topmost (mark {n} {o} k) h =
      let l = marked-lt k in
      let d : 2 ^ (m * n) + o - 2 ^ (m * n) ≡ o = omega arith in (
        m * n,
        record {
          above = omega arith;
          below = omega (arith, pow-suc 2 (m * n));
          room = omega (arith, mul-suc m n);
          rest = rw d (skip k);
          step = λ f. rw d (picked-mark f n o l ∙ ap (λ (x : List ℕ). f (m * n) ∷ x) (sym (picked-skip f n o l)));
        },
      )

  -- the groups that pass a test
  pub marks-marked : (n w : ℕ) (t : ℕ → Bool) → Marked m n (marks_of m t (groups_of m n w))
  unfolding marks_of groups_of
  marks-marked zero w t = bare
  marks-marked (suc n) w t = rw (groups-long m n w) (go (t (w / 2 ^ (m * n) % 2 ^ m)) (marks-marked n w t))
    where
      go : (b : Bool) {x : ℕ} → Marked m n x → Marked m (suc n) (cond b 1 0 * 2 ^ (m * n) + x)
      go true k = rw one-mul (mark k)
      go false k = rw (zero-mul, zero-add) (skip k)

-- stands where code finds it
pub top-mark : (m n o : ℕ) (pos : 0 < m) → Marked m n o → 0 < o → m * n ≤ 64 → Topmost m pos n o (top_of o)
top-mark m n o pos k h l =
    let t = topmost m pos k h in
    rw (top-is o t.0 t.1.above t.1.below (omega (arith, t.1.room))) t.1
