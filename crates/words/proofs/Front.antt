-- The groups of the first words, one word more at a time.
use mathlib.Core.Path.{◌≡◌, sym, ◌∙◌}
use mathlib.Core.List.{List, [], ◌∷◌, ◌++◌, append_assoc, append-nil}
use Prim.Native.Nat.{ℕ, ◌+◌, ◌*◌, ◌≤◌, ◌<◌}
use native.Mathlib.Omega.{arith}
use native.Mathlib.Decide.{ℕ_discrete}
use native.Mathlib.Nat.{mul-zero, mul-suc}
use native.Mathlib.Numerals.{add-one}
use lib.ListN.{length, get_or, set, take, drop, length-append, drop_of_length-le}
use Rattle.words.proofs.Masks.{groups-long}
use lib.Seq.{get_or-set_same, get_or-set_other, take-suc, take-suc-set, length-take-le, drop-cons, get_or-take}
use Rattle.words.specs.Words.{groups_of, all_groups, word_groups, front_groups, groups_at, all_at, front_at}

-- a list that is right up to place i, with what is right there
pub each_set : (P : ℕ → ℕ → Type 0) (xs : List ℕ) (i x : ℕ) → i < length xs → P i x → ((j : ℕ) → j < i → P j (get_or xs j 0))
    → (j : ℕ) → j < i + 1 → P j (get_or (set xs i x) j 0)
each_set P xs i x l here before j b = elim (ℕ_discrete j i) [
  | yes q ↦ rw (q, get_or-set_same xs i x 0 l) here
  | no q ↦ rw (get_or-set_other xs i j x 0 q) (before j (omega arith))
]

all_snoc : (m n : ℕ) (ws : List ℕ) (w : ℕ) → all_groups m n (ws ++ w ∷ []) ≡ all_groups m n ws ++ groups_of m n w
unfolding all_groups
all_snoc m n [] w = append-nil (groups_of m n w)
all_snoc m n (v ∷ ws) w = rw (all_snoc m n ws w, append_assoc)

at_snoc : (m n : ℕ) (os ws : List ℕ) (o w : ℕ) → length os ≡ length ws → all_at m n (os ++ o ∷ []) (ws ++ w ∷ []) ≡ all_at m n os ws ++ groups_at m n o w
unfolding all_at
at_snoc m n [] [] o w l = append-nil (groups_at m n o w)
at_snoc m n [] (v ∷ ws) o w l = absurd (omega arith)
at_snoc m n (q ∷ os) [] o w l = absurd (omega arith)
at_snoc m n (q ∷ os) (v ∷ ws) o w l = rw (at_snoc m n os ws o w (omega arith), append_assoc)

pub front-more : (m i : ℕ) (ws : List ℕ) → i < length ws → front_groups m (i + 1) ws ≡ front_groups m i ws ++ groups_of m (word_groups m) (get_or ws i 0)
front-more m i ws l = rw (add-one i, take-suc ws i 0 l, all_snoc m (word_groups m) (take i ws) (get_or ws i 0))

pub front-set : (m i x : ℕ) (ws : List ℕ) → i < length ws → front_groups m (i + 1) (set ws i x) ≡ front_groups m i ws ++ groups_of m (word_groups m) x
front-set m i x ws l = rw (add-one i, take-suc-set ws i x l, all_snoc m (word_groups m) (take i ws) x)

pub at_set : (m i o : ℕ) (os ws : List ℕ) → i < length os → i < length ws
    → front_at m (i + 1) (set os i o) ws ≡ front_at m i os ws ++ groups_at m (word_groups m) o (get_or ws i 0)
at_set m i o os ws k l =
    rw (add-one i, take-suc-set os i o k, take-suc ws i 0 l)
    (at_snoc m (word_groups m) (take i os) (take i ws) o (get_or ws i 0) (length-take-le i os (omega arith) ∙ sym (length-take-le i ws (omega arith))))

all-long : (m n : ℕ) (ws : List ℕ) → length (all_groups m n ws) ≡ n * length ws
unfolding all_groups
all-long m n [] = sym (mul-zero n)
all-long m n (w ∷ ws) = rw (length-append (groups_of m n w) (all_groups m n ws), groups-long m n w, all-long m n ws, mul-suc) (omega arith)

pub front_long : (m i : ℕ) (ws : List ℕ) → i ≤ length ws → length (front_groups m i ws) ≡ word_groups m * i
front_long m i ws l = all-long m (word_groups m) (take i ws) ∙ rw (length-take-le i ws l)

-- the marked groups of the words from word i on, before word n
abbrev pub back_at : ℕ → ℕ → ℕ → List ℕ → List ℕ → List ℕ
back_at m n i os ws = all_at m (word_groups m) (drop i (take n os)) (drop i (take n ws))

pub drop-front : (n i : ℕ) (xs : List ℕ) → n ≤ length xs → i < n → drop i (take n xs) ≡ get_or xs i 0 ∷ drop (i + 1) (take n xs)
drop-front n i xs l h = rw (add-one i, drop-cons (take n xs) i 0 (rw (length-take-le n xs l) h), get_or-take n xs i 0 h)

module _ (m n i : ℕ) (os ws : List ℕ) (lo : n ≤ length os) (lw : n ≤ length ws) where
  pub back_more : i < n → back_at m n i os ws ≡ groups_at m (word_groups m) (get_or os i 0) (get_or ws i 0) ++ back_at m n (i + 1) os ws
  unfolding all_at
  back_more h = rw (drop-front n i os lo h, drop-front n i ws lw h)

  pub back_none : n ≤ i → back_at m n i os ws ≡ []
  unfolding all_at
  back_none h = rw (drop_of_length-le (take n os) {i = i} (rw (length-take-le n os lo) h))
