-- Groups that are not zero in one field are all ones in another, told by the marks of both, word by word.
use Prim.Native.Nat.{ℕ, zero, suc, ◌+◌, ◌*◌, ◌-◌, ◌^◌, ◌<◌}
use mathlib.Core.Path.{◌≡◌, refl, sym, ap, ◌∙◌}
use mathlib.Core.Bool.{Bool, true, false, cond, ◌&&◌}
use mathlib.Core.List.{List, [], ◌∷◌, ◌++◌}
use native.Mathlib.Omega.{arith}
use native.Mathlib.Decide.{ℕ_discrete}
use native.Mathlib.Nat.{zero-add, zero-mul}
use lib.Bits.{bit_and, and_zero_l, and_zero_r, and_self, and_block}
use lib.Dec.{eqb}
use lib.ListN.{length}
use Rattle.std.specs.List.{list_all, zip}
use lib.Pow.{pow_pos}
use borrow.Author.Tests.{eq-eqb, ne_eqb}
use Rattle.code.specs.Judge.{wipes}
use Rattle.words.specs.Words.{word_groups, groups_of, all_groups}
use Rattle.words.specs.Marks.{marks_of, word_marks, nonzero_group, open_group}
use Rattle.words.proofs.Masks.{groups-long, marks-lt}

-- one field behind another
and-twice : (a b c : Bool) → (a && (b && c)) ≡ ((a && b) && c)
and-twice true b c = refl
and-twice false b c = refl

wipes-append : (e : ℕ) (xs ys us vs : List ℕ) → length xs ≡ length ys → wipes e (xs ++ us) (ys ++ vs) ≡ (wipes e xs ys && wipes e us vs)
unfolding wipes
wipes-append e [] [] us vs l = refl
wipes-append e [] (y ∷ ys) us vs l = absurd (omega arith)
wipes-append e (x ∷ xs) [] us vs l = absurd (omega arith)
wipes-append e (zero ∷ xs) (y ∷ ys) us vs l = wipes-append e xs ys us vs (omega arith)
wipes-append e (suc x ∷ xs) (y ∷ ys) us vs l = rw (wipes-append e xs ys us vs (omega arith)) (and-twice (eqb y e) (wipes e xs ys) (wipes e us vs))

-- the first groups of two words, marked in at most one of them, and in both
module _ (m : ℕ) (p q : ℕ → Bool) (xs ys : List ℕ) where
  pub joined : (a b : ℕ) → 0 < m → length xs ≡ length ys →
      bit_and (a * 2 ^ (m * length xs) + marks_of m p xs) (b * 2 ^ (m * length ys) + marks_of m q ys)
      ≡ bit_and a b * 2 ^ (m * length xs) + bit_and (marks_of m p xs) (marks_of m q ys)
  joined a b pos l =
      let high : marks_of m q ys < 2 ^ (m * length xs) = rw l (marks-lt m q ys pos) in
      rw (← l) (and_block (m * length xs) a b (marks_of m p xs) (marks_of m q ys) (marks-lt m p xs pos) high)

  first-mark : (a b : ℕ) → 0 < m → length xs ≡ length ys → bit_and a b ≡ 0 →
      eqb (bit_and (a * 2 ^ (m * length xs) + marks_of m p xs) (b * 2 ^ (m * length ys) + marks_of m q ys)) 0 ≡ eqb (bit_and (marks_of m p xs) (marks_of m q ys)) 0
  first-mark a b pos l z =
      let e : bit_and (a * 2 ^ (m * length xs) + marks_of m p xs) (b * 2 ^ (m * length ys) + marks_of m q ys) ≡ bit_and (marks_of m p xs) (marks_of m q ys) =
      joined a b pos l ∙ rw (z, zero-mul (2 ^ (m * length xs))) (zero-add (bit_and (marks_of m p xs) (marks_of m q ys))) in
      ap (λ n. eqb n 0) e

  both-marks : 0 < m → length xs ≡ length ys →
      eqb (bit_and (1 * 2 ^ (m * length xs) + marks_of m p xs) (1 * 2 ^ (m * length ys) + marks_of m q ys)) 0 ≡ false
  both-marks pos l =
      let x = bit_and (1 * 2 ^ (m * length xs) + marks_of m p xs) (1 * 2 ^ (m * length ys) + marks_of m q ys) in
      let parts : x ≡ 1 * 2 ^ (m * length xs) + bit_and (marks_of m p xs) (marks_of m q ys) = joined 1 1 pos l ∙ rw (and_self 1) in
      ne_eqb x 0 (λ z. absurd (omega (arith, z, parts, pow_pos (m * length xs))))

-- no mark is set in both words exactly where all that is not zero in the one is all ones in the other
marks-wiped : (m e : ℕ) (xs ys : List ℕ) → 0 < m → length xs ≡ length ys →
    eqb (bit_and (marks_of m nonzero_group xs) (marks_of m (open_group e) ys)) 0 ≡ wipes e xs ys
unfolding marks_of wipes
marks-wiped m e [] [] pos l = ap (λ n. eqb n 0) (and_zero_l 0)
marks-wiped m e [] (y ∷ ys) pos l = absurd (omega arith)
marks-wiped m e (x ∷ xs) [] pos l = absurd (omega arith)
marks-wiped m e (zero ∷ xs) (y ∷ ys) pos l =
    let rest = marks-wiped m e xs ys pos (omega arith) in
    first-mark m nonzero_group (open_group e) xs ys 0 (cond (open_group e y) 1 0) pos (omega arith) (and_zero_l (cond (open_group e y) 1 0)) ∙ rest
marks-wiped m e (suc x ∷ xs) (y ∷ ys) pos l = elim (ℕ_discrete y e) [
  | yes q ↦
      let rest = marks-wiped m e xs ys pos (omega arith) in
      rw (some, eq-eqb y e q) (first-mark m nonzero_group (open_group e) xs ys 1 0 pos (omega arith) (and_zero_r 1) ∙ rest)
  | no d ↦ rw (some, ne_eqb y e d) (both-marks m nonzero_group (open_group e) xs ys pos (omega arith))
]
  where
    some : eqb (suc x) 0 ≡ false
    some = ne_eqb (suc x) 0 (λ z. absurd (omega arith))

-- no mark is set in both of two words
abbrev pub word_wiped : ℕ → ℕ × ℕ → Bool
word_wiped m p = eqb (bit_and (word_marks m nonzero_group p.0) (word_marks m (open_group (2 ^ m - 1)) p.1)) 0

pub words-wiped : (m : ℕ) (before after : List ℕ) → 0 < m → length before ≡ length after →
    list_all (word_wiped m) (zip before after) ≡ wipes (2 ^ m - 1) (all_groups m (word_groups m) before) (all_groups m (word_groups m) after)
unfolding all_groups wipes
words-wiped m [] [] pos l = refl
words-wiped m [] (a ∷ after) pos l = absurd (omega arith)
words-wiped m (b ∷ before) [] pos l = absurd (omega arith)
words-wiped m (b ∷ before) (a ∷ after) pos l =
    let e : ℕ = 2 ^ m - 1 in
    let n : ℕ = word_groups m in
    let long = groups-long m n b ∙ sym (groups-long m n a) in
    rw (marks-wiped m e (groups_of m n b) (groups_of m n a) pos long, words-wiped m before after pos (omega arith))
    (sym (wipes-append e (groups_of m n b) (groups_of m n a) (all_groups m n before) (all_groups m n after) long))
