-- A pattern laid into the zero groups of words, from the left.
use mathlib.Core.Path.{◌≡◌, refl, sym, ap, ◌∙◌}
use mathlib.Core.List.{List, [], ◌∷◌, ◌++◌}
use Prim.Native.Nat.{ℕ, zero, suc, ◌+◌, ◌*◌, ◌-◌, ◌^◌, ◌≤◌, ◌<◌}
use native.Mathlib.Omega.{arith}
use native.Mathlib.Decide.{dec_lt}
use native.Mathlib.Nat.{add-zero, mod-eq_of_lt, lt_of_lt_of_le}
use lib.Count.{ones}
use lib.Pow.{pow_mono}
use lib.ListN.{length, get_or, set, take, drop, replicate, length-append, length-replicate, length-set}
use lib.Seq.{take-add, length-take-le, get_or-set_other}
use Rattle.code.specs.Field.{zeros, lay}
use Rattle.code.proofs.Groups.{erase}
use Rattle.code.specs.Lists.{Upto}
use Rattle.code.proofs.Groups.{erase-zeros, erase-length, lay-length}
use Rattle.words.specs.Words.{all_groups, word_bytes, word_groups, front_groups, Tidy}
use Rattle.words.specs.Marks.{blanks_to, groups_in, marks_of, zero_group, word_marks, top_of, stripped, ZeroMarked, Blanks, WordLaid, Layered}
use Rattle.words.proofs.Sizes.{word_fits}
use Rattle.words.proofs.Masks.{groups-long, marks-lt}
use Rattle.words.proofs.Front.{each_set, front-more, front-set}
use Rattle.words.proofs.Seeing.{zeros-ones, zeros-append}
use Rattle.words.proofs.Packed.{packed, packed_lt, groups-packed, packed-groups, groups-upto}
use Rattle.words.proofs.Erasing.{marks-kept, marks-none, left_one, left-more, left_laid, full-some, word-bits}

pub lay-nothing : (gs : List ℕ) → lay gs [] ≡ gs
unfolding lay
lay-nothing [] = refl
lay-nothing (zero ∷ gs) = ap (λ (l : List ℕ). 0 ∷ l) (lay-nothing gs)
lay-nothing (suc g ∷ gs) = ap (λ (l : List ℕ). suc g ∷ l) (lay-nothing gs)

-- zeros change nothing
lay-zeros : (gs qs : List ℕ) (n : ℕ) → lay gs (qs ++ replicate n 0) ≡ lay gs qs
unfolding lay
lay-zeros [] qs n = refl
lay-zeros (suc g ∷ gs) qs n = ap (λ (l : List ℕ). suc g ∷ l) (lay-zeros gs qs n)
lay-zeros (zero ∷ gs) [] zero = refl
lay-zeros (zero ∷ gs) [] (suc n) = ap (λ (l : List ℕ). 0 ∷ l) (lay-zeros gs [] n)
lay-zeros (zero ∷ gs) (q ∷ qs) n = ap (λ (l : List ℕ). q ∷ l) (lay-zeros gs qs n)

lay-upto : (e : ℕ) (gs ps : List ℕ) → Upto e gs → Upto e ps → Upto e (lay gs ps)
unfolding lay
lay-upto e [] ps u v = tt
lay-upto e (suc g ∷ gs) ps u v = (u.0, lay-upto e gs ps u.1 v)
lay-upto e (zero ∷ gs) [] u v = (u.0, lay-upto e gs [] u.1 v)
lay-upto e (zero ∷ gs) (p ∷ ps) u v = (v.0, lay-upto e gs ps u.1 v.1)

upto-append : (e : ℕ) (xs ys : List ℕ) → Upto e xs → Upto e ys → Upto e (xs ++ ys)
upto-append e [] ys u v = v
upto-append e (x ∷ xs) ys u v = (u.0, upto-append e xs ys u.1 v)

upto-zeros : (e n : ℕ) → Upto e (replicate n 0)
upto-zeros e zero = tt
upto-zeros e (suc n) = (omega arith, upto-zeros e n)

-- the values qs are laid into the first zero groups of w₀; w is the word now, and o marks the zero groups that follow
pub record Laying (m w₀ : ℕ) (qs : List ℕ) (w o : ℕ) : Type 0 where
  pub wide : 2 ≤ m
  pub narrow : m ≤ 4
  pub word : w ≡ packed m (lay (groups_in m w₀) qs)
  pub mark : o ≡ marks_of m zero_group (erase (2 ^ m - 1) (length qs) (groups_in m w₀))
  pub small : Upto (2 ^ m - 1) qs

pub laying-none : {m w₀ o : ℕ} → 2 ≤ m → m ≤ 4 → w₀ < 2 ^ (8 * word_bytes m) → o ≡ word_marks m zero_group w₀ → Laying m w₀ [] w₀ o
laying-none {m} {w₀} {o} hm lm h e =
    let t : w₀ < 2 ^ (m * word_groups m) = rw (word_fits m hm lm).0 h in
    record {
      wide = hm;
      narrow = lm;
      word = rw (lay-nothing (groups_in m w₀), packed-groups m (word_groups m) w₀) (sym (mod-eq_of_lt t));
      mark = e ∙ sym (marks-kept m (2 ^ m - 1) (groups_in m w₀) (full-some m hm lm));
      small = tt;
    }

module _ {m w₀ : ℕ} {qs : List ℕ} {w o : ℕ} (C : Laying m w₀ qs w o) where
  few_bits : m * length (groups_in m w₀) ≤ 64
  few_bits = word-bits m C.wide C.narrow w₀

  some : 0 < 2 ^ m - 1
  some = full-some m C.wide C.narrow

  pub laying-ones : ones o ≡ zeros (groups_in m w₀) - length qs
  laying-ones =
      let left = erase (2 ^ m - 1) (length qs) (groups_in m w₀) in
      ap ones C.mark ∙ zeros-ones m left (omega (arith, C.wide)) ∙ erase-zeros (2 ^ m - 1) (length qs) (groups_in m w₀) some

  pub laying-marks : o < 2 ^ 64
  laying-marks =
      let left = erase (2 ^ m - 1) (length qs) (groups_in m w₀) in
      let n : m * length left ≤ 64 = rw (erase-length (2 ^ m - 1) (length qs) (groups_in m w₀)) few_bits in
      rw C.mark (lt_of_lt_of_le (marks-lt m zero_group left (omega (arith, C.wide))) (pow_mono {j = 64} n))

  pub laying-some : 0 < o → length qs < zeros (groups_in m w₀)
  laying-some h = elim (dec_lt (length qs) (zeros (groups_in m w₀))) [
    | yes l ↦ l
    | no l ↦
        let z = erase-zeros (2 ^ m - 1) (length qs) (groups_in m w₀) some in
        absurd (omega (arith, C.mark, marks-none m (erase (2 ^ m - 1) (length qs) (groups_in m w₀)) (omega arith)))
  ]

  -- the word is tidy and has the groups
  pub laying-all : (groups_in m w ≡ lay (groups_in m w₀) qs) × (w < 2 ^ (8 * word_bytes m)) × (w < 2 ^ 64)
  laying-all =
      let f = word_fits m C.wide C.narrow in
      let gs = lay (groups_in m w₀) qs in
      let u : Upto (2 ^ m - 1) gs = lay-upto (2 ^ m - 1) (groups_in m w₀) qs (groups-upto m (word_groups m) w₀) C.small in
      let n : length gs ≡ word_groups m = lay-length (groups_in m w₀) qs ∙ groups-long m (word_groups m) w₀ in
      let t : w < 2 ^ (m * word_groups m) = rw C.word (rw n at (packed_lt m gs u)) in
      let s = lt_of_lt_of_le t (pow_mono {i = m * word_groups m} {j = 64} (omega (arith, f))) in
      (rw C.word (rw n at (groups-packed m gs u)), rw (← f.0) t, s)

  pub laying-skip : (n : ℕ) → Laying m w₀ (qs ++ replicate n 0) w (stripped n o)
  laying-skip n =
      let l : length (qs ++ replicate n 0) ≡ length qs + n = length-append qs (replicate n 0) ∙ rw (length-replicate {A = ℕ} n 0) in
      record {
        wide = C.wide;
        narrow = C.narrow;
        word = C.word ∙ ap (packed m) (sym (lay-zeros (groups_in m w₀) qs n));
        mark = ap (stripped n) C.mark ∙ left-more m (2 ^ m - 1) (omega (arith, C.wide)) some (groups_in m w₀) few_bits (length qs) n ∙ rw l;
        small = upto-append (2 ^ m - 1) qs (replicate n 0) C.small (upto-zeros (2 ^ m - 1) n);
      }

  pub laying-more : (x : ℕ) → length qs < zeros (groups_in m w₀) → x ≤ 2 ^ m - 1 → Laying m w₀ (qs ++ x ∷ []) (w + x * 2 ^ top_of o) (o - 2 ^ top_of o)
  laying-more x h l =
      let n : length (qs ++ x ∷ []) ≡ suc (length qs) = length-append qs (x ∷ []) ∙ omega arith in
      record {
        wide = C.wide;
        narrow = C.narrow;
        word = rw (C.word, C.mark) (sym (left_laid m (2 ^ m - 1) (omega (arith, C.wide)) some (groups_in m w₀) few_bits qs x h));
        mark = rw C.mark (left_one m (2 ^ m - 1) (omega (arith, C.wide)) some (groups_in m w₀) few_bits (length qs) ∙ rw n);
        small = upto-append (2 ^ m - 1) qs (x ∷ []) C.small (l, tt);
      }

-- a pattern in two parts, as for the words before and behind a word's end
lay-append : (xs ys ps qs : List ℕ) → length ps ≡ zeros xs → lay (xs ++ ys) (ps ++ qs) ≡ lay xs ps ++ lay ys qs
unfolding lay zeros
lay-append [] ys [] qs l = refl
lay-append [] ys (p ∷ ps) qs l = absurd (omega arith)
lay-append (zero ∷ xs) ys [] qs l = absurd (omega arith)
lay-append (zero ∷ xs) ys (p ∷ ps) qs l = ap (λ (t : List ℕ). p ∷ t) (lay-append xs ys ps qs (omega arith))
lay-append (suc x ∷ xs) ys ps qs l = ap (λ (t : List ℕ). suc x ∷ t) (lay-append xs ys ps qs l)

-- the first i words have the pattern's values
pub record Laid (m : ℕ) (ps before : List ℕ) (i : ℕ) (ws : List ℕ) : Type 0 where
  pub was : length before ≡ 16
  pub long : length ws ≡ 16
  pub tidy : Tidy m i ws
  pub same : (j : ℕ) → i ≤ j → get_or ws j 0 ≡ get_or before j 0
  pub made : front_groups m i ws ≡ lay (front_groups m i before) (take (blanks_to m i before) ps)

pub zeros-none : (m : ℕ) (ws : List ℕ) → 0 ≡ blanks_to m 0 ws
unfolding all_groups zeros
zeros-none m ws = refl

pub laid_none : (m : ℕ) (ps ws : List ℕ) → length ws ≡ 16 → Laid m ps ws 0 ws
unfolding all_groups lay
laid_none m ps ws l = record { was = l; long = l; tidy = λ j h. absurd (omega arith); same = λ j h. refl; made = refl }

module _ {m : ℕ} {ps before : List ℕ} {i : ℕ} {ws : List ℕ} (C : Laid m ps before i ws) (h : i < 16) where
  zeros-more : blanks_to m (i + 1) before ≡ blanks_to m i before + zeros (groups_in m (get_or ws i 0))
  zeros-more = rw (front-more m i before (omega (arith, C.was)), ← C.same i (omega arith)) (zeros-append (front_groups m i before) (groups_in m (get_or ws i 0)))

  pub zeros-next : (at at' : ℕ) → at ≡ blanks_to m i before → at' ≡ at + zeros (groups_in m (get_or ws i 0)) → at' ≡ blanks_to m (i + 1) before
  zeros-next at at' a b = omega (arith, zeros-more)

  pub laid_more : (x at : ℕ) → at ≡ blanks_to m i before → at ≤ length ps
      → WordLaid m (get_or ws i 0) (take (zeros (groups_in m (get_or ws i 0))) (drop at ps)) x → Laid m ps before (i + 1) (set ws i x)
  laid_more x at a l F =
      let front = front_groups m i before in
      let gs = groups_in m (get_or ws i 0) in
      let more : front_groups m (i + 1) before ≡ front ++ gs = rw (front-more m i before (omega (arith, C.was)), ← C.same i (omega arith)) in
      let parts : take (blanks_to m (i + 1) before) ps ≡ take at ps ++ take (zeros gs) (drop at ps) = rw (zeros-more, ← a) (take-add at (zeros gs) ps) in
      record {
        was = C.was;
        long = rw length-set C.long;
        tidy = each_set (λ j y. y < 2 ^ (8 * word_bytes m)) ws i x (omega (arith, C.long)) F.tidy C.tidy;
        same = λ j b. get_or-set_other ws i j x 0 (λ q. omega arith) ∙ C.same j (omega arith);
        made = rw (front-set m i x ws (omega (arith, C.long)), C.made, ← a, F.made, parts, more)
            (sym (lay-append front gs (take at ps) (take (zeros gs) (drop at ps)) (length-take-le at ps l ∙ a)));
      }

zeros-mono : (m i d : ℕ) (ws : List ℕ) → i + d ≤ length ws → blanks_to m i ws ≤ blanks_to m (i + d) ws
zeros-mono m i zero ws l = rw (add-zero i) (omega arith)
zeros-mono m i (suc d) ws l =
    let s : i + suc d ≡ i + d + 1 = omega arith in
    let a : blanks_to m (i + d + 1) ws ≡ blanks_to m (i + d) ws + zeros (groups_in m (get_or ws (i + d) 0)) =
    rw (front-more m (i + d) ws (omega arith)) (zeros-append (front_groups m (i + d) ws) (groups_in m (get_or ws (i + d) 0))) in
    rw s (omega (arith, zeros-mono m i d ws (omega arith), a))

-- word i of words whose zero groups are marked
module _ {m n : ℕ} {ps before os : List ℕ} {i : ℕ} {ws : List ℕ} (Z : ZeroMarked m n before os) (C : Laid m ps before i ws) (h : i < n) where
  pub laid-blanks : Blanks m (get_or ws i 0) (get_or os i 0)
  laid-blanks = rw (C.same i (omega arith)) (record { wide = Z.wide; narrow = Z.narrow; tidy = Z.tidy i h; marked = Z.marked i h })

  pub laid-few : (at : ℕ) → at ≡ blanks_to m i before → at + zeros (groups_in m (get_or ws i 0)) ≤ blanks_to m n before
  laid-few at a =
      let s : i + 1 + (n - (i + 1)) ≡ n = omega arith in
      rw (a, ← zeros-more C (omega (arith, Z.few))) (rw s at (zeros-mono m (i + 1) (n - (i + 1)) before (omega (arith, Z.few, C.was))))

pub laid-all : {m n : ℕ} {ps before : List ℕ} {i : ℕ} {ws : List ℕ} → i ≡ n → Laid m ps before i ws → Layered m n (take (blanks_to m n before) ps) before ws
laid-all {m} {n} {ps} {before} {i} {ws} e C = rw (← e) (record { long = C.long; tidy = C.tidy; made = C.made })
