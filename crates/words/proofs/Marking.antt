-- The first groups of words, marked whatever they hold.
use mathlib.Core.Path.{◌≡◌, refl, sym, ap, ap₂, ◌∙◌}
use mathlib.Core.List.{List, ◌++◌}
use Prim.Native.Nat.{ℕ, zero, suc, ◌+◌, ◌*◌, ◌-◌, ◌/◌, ◌%◌, ◌^◌, ◌≤◌, ◌<◌}
use native.Mathlib.Omega.{arith}
use native.Mathlib.Nat.{mul-add, mul_assoc, mul-suc, mul-le-mul, mul-le-mul_left, mul-sub, add-mul, zero-mul, zero-add, suc-add, mod-eq_of_lt}
use lib.Pow.{pow-add, pow_mono, high}
use lib.ListN.{length, get_or, set, take, length-set}
use native.Mathlib.Numerals.{add-one}
use Rattle.std.proofs.lemmas.List.{set-get_or}
use lib.Seq.{take_all, take-append-add}
use Rattle.words.specs.Words.{groups_of, all_groups, word_bytes, word_groups, front_groups, groups_at, all_at, front_at}
use Rattle.words.specs.Marks.{Marked, bare, skip, mark, Marks, AllMarks, lows, word_lows, Ends, Fronted}
use Rattle.words.proofs.Sizes.{word_fits}
use Rattle.words.proofs.Masks.{lows-lt, groups-long}
use Rattle.words.proofs.Picked.{marked-lt, at_mark, at_none}
use Rattle.words.proofs.Front.{each_set, front-more, at_set, front_long}

lows-parts : (m a b : ℕ) → lows m (a + b) ≡ lows m a * 2 ^ (m * b) + lows m b
unfolding lows
lows-parts m zero b = rw (zero-add, zero-mul, zero-add)
lows-parts m (suc a) b =
    rw (suc-add a b, mul-add m a b, pow-add 2 (m * a) (m * b), lows-parts m a b) (omega (arith, add-mul (2 ^ (m * a)) (lows m a) (2 ^ (m * b))))

-- the marks of the first a of n groups
pub record Leading (m a n o : ℕ) : Type 0 where
  pub marked : Marked m n o
  pub held : (w : ℕ) → groups_at m n o w ≡ take a (groups_of m n w)

module _ (m : ℕ) (pos : 0 < m) where
  unmarked : (n : ℕ) → Marked m n 0
  unmarked zero = bare
  unmarked (suc n) = skip (unmarked n)

  leading-none : (n : ℕ) → Leading m 0 n 0
  leading-none n = record { marked = unmarked n; held = at_none m pos n }

  leading-more : {a n o : ℕ} → Leading m a n o → Leading m (suc a) (suc n) (2 ^ (m * n) + o)
  unfolding groups_of
  leading-more {a} {n} {o} k = record { marked = mark k.marked; held = λ w. rw (at_mark m pos n o w (marked-lt m pos k.marked), k.held w) }

  leading-is : (a b : ℕ) → Leading m a (a + b) (lows m a * 2 ^ (m * b))
  unfolding lows
  leading-is zero b = rw (zero-mul, zero-add) (leading-none b)
  leading-is (suc a) b =
      let e : (2 ^ (m * a) + lows m a) * 2 ^ (m * b) ≡ 2 ^ (m * (a + b)) + lows m a * 2 ^ (m * b) =
      rw (mul-add m a b, pow-add 2 (m * a) (m * b)) (add-mul (2 ^ (m * a)) (lows m a) (2 ^ (m * b))) in
      rw (e, suc-add a b) (leading-more (leading-is a b))

  -- as code makes them, of all marks
  pub leading-cut : (a b n : ℕ) → a + b ≡ n → m * n ≤ 64 → Leading m a n (lows m n / 2 ^ (m * b) * 2 ^ (m * b) % 2 ^ 64)
  leading-cut a b n s l =
      let e : lows m n / 2 ^ (m * b) ≡ lows m a = rw (← s, lows-parts m a b) (high (lows m a) (m * b) (lows-lt m b pos)) in
      let k = rw s at (leading-is a b) in
      let q : 2 ^ (m * n) ≤ 2 ^ 64 = pow_mono {j = 64} l in
      rw (e, mod-eq_of_lt {n = lows m a * 2 ^ (m * b)} {m = 2 ^ 64} (omega (arith, marked-lt m pos k.marked))) k

  pub leading-all : (n : ℕ) → Leading m n n (lows m n)
  unfolding lows
  leading-all zero = leading-none 0
  leading-all (suc n) = leading-more (leading-all n)

-- the first i words are marked
pub record Marking (m i : ℕ) (os : List ℕ) : Type 0 where
  pub long : length os ≡ 16
  pub marks : AllMarks m i os
  pub held : (ws : List ℕ) → length ws ≡ 16 → front_at m i os ws ≡ front_groups m i ws

marking-none : (m : ℕ) (os : List ℕ) → length os ≡ 16 → Marking m 0 os
unfolding all_groups all_at
marking-none m os l = record { long = l; marks = λ j k. absurd (omega arith); held = λ ws k. refl }

-- the bits of n words behind h groups, and how many groups these are
abbrev over : ℕ → ℕ → ℕ → ℕ
over m n h = 8 * word_bytes m * n - m * h

abbrev behind : ℕ → ℕ → ℕ → ℕ
behind m n h = word_groups m * n - h

module _ {m n h : ℕ} (E : Ends m n h) where
  one_less : word_groups m * n ≡ word_groups m * (n - 1) + word_groups m
  one_less = let e : n ≡ suc (n - 1) = omega (arith, E.some) in ap (λ (x : ℕ). word_groups m * x) e ∙ mul-suc (word_groups m) (n - 1)

  over-is : over m n h ≡ m * behind m n h
  over-is = rw (← (word_fits m E.wide E.narrow).0, mul_assoc m (word_groups m) n) (sym (mul-sub m (word_groups m * n) h))

  within : behind m n h < word_groups m
  within = omega (arith, one_less, E.above, E.below)

  pub over-fits : (m * h ≤ 8 * word_bytes m * n) × (8 * word_bytes m * n ≤ 1024) × (over m n h < 64)
  over-fits =
      let f = word_fits m E.wide E.narrow in
      let a = mul-le-mul_left {m = h} {n = word_groups m * n} m E.below in
      let b = mul-le-mul_left {m = suc (behind m n h)} {n = word_groups m} m within in
      let c = mul-le-mul {n₁ = 8 * word_bytes m} {m₁ = n} {n₂ = 64} {m₂ = 16} (omega (arith, f)) E.few in
      (rw (← f.0, mul_assoc m (word_groups m) n) a, c, omega (arith, f, over-is, b, mul-suc m (behind m n h)))

module _ {m i : ℕ} {os : List ℕ} (hm : 2 ≤ m) (lm : m ≤ 4) (C : Marking m i os) (few : i < 16) where
  marking-more : Marking m (i + 1) (set os i (word_lows m))
  marking-more =
      let k = leading-all m (omega arith) (word_groups m) in
      record {
        long = rw length-set C.long;
        marks = each_set (λ j x. Marks m x) os i (word_lows m) (omega (arith, C.long)) k.marked C.marks;
        held = λ ws l.
            let w = get_or ws i 0 in
            at_set m i (word_lows m) os ws (omega (arith, C.long)) (omega arith)
            ∙ ap₂ (λ (x y : List ℕ). x ++ y) (C.held ws l)
            (k.held w ∙ take_all (word_groups m) (groups_of m (word_groups m) w) (omega (arith, groups-long m (word_groups m) w)))
            ∙ sym (front-more m i ws (omega arith));
      }

-- all that are set to all marks are marked
pub marking-filled : {m : ℕ} → 2 ≤ m → m ≤ 4 → (i : ℕ) (os : List ℕ) → length os ≡ 16 → i ≤ 16 → ((j : ℕ) → j < i → get_or os j 0 ≡ word_lows m)
    → Marking m i os
marking-filled hm lm zero os l few same = marking-none _ os l
marking-filled {m} hm lm (suc i) os l few same =
    let C = marking-filled hm lm i os l (omega arith) (λ j h. same j (omega arith)) in
    let e : set os i (word_lows m) ≡ os = ap (λ x. set os i x) (sym (same i (omega arith))) ∙ set-get_or os i 0 in
    rw (e, add-one i) at (marking-more hm lm C (omega arith))

-- the last word has marks of its first groups alone
pub marking-last : {m n h : ℕ} {os : List ℕ} {i : ℕ} → Ends m n h → Marking m i os → n ≡ i + 1
    → Fronted m n h (set os i (word_lows m / 2 ^ over m n h * 2 ^ over m n h % 2 ^ 64))
marking-last {m} {n} {h} {os} {i} E C s =
    let g = word_groups m in
    let b : ℕ = behind m n h in
    let a : ℕ = g - b in
    let l : b < g = within E in
    let k = leading-cut m (omega (arith, E.wide)) a b g (omega arith) (omega (arith, word_fits m E.wide E.narrow)) in
    let o : ℕ = lows m g / 2 ^ (m * b) * 2 ^ (m * b) % 2 ^ 64 in
    rw (over-is E) (record {
      long = rw length-set C.long;
      marks = λ j b. each_set (λ j x. Marks m x) os i o (omega (arith, C.long, E.few)) k.marked C.marks j (omega arith);
      held = λ ws r.
          let gs = groups_of m g (get_or ws i 0) in
          let front = front_groups m i ws in
          let j : n - 1 ≡ i = omega arith in
          let q : length front ≡ g * (n - 1) = rw j (front_long m i ws (omega (arith, E.few))) in
          let p : h ≡ length front + a = omega (arith, one_less E, E.above) in
          ap (λ (x : ℕ). front_at m x (set os i o) ws) s
          ∙ at_set m i o os ws (omega (arith, C.long, E.few)) (omega (arith, E.few))
          ∙ ap₂ (λ (x y : List ℕ). x ++ y) (C.held ws r) (k.held (get_or ws i 0))
          ∙ sym (ap₂ (λ (x y : ℕ). take x (front_groups m y ws)) p s ∙ rw (front-more m i ws (omega (arith, E.few))) (take-append-add front gs a));
    })
