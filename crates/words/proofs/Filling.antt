-- Arrays of bytes that are filled mark by mark.
use mathlib.Core.Path.{◌≡◌, refl, sym, ap, ◌∙◌}
use mathlib.Core.List.{List, [], ◌∷◌, ◌++◌, append_assoc, append-nil}
use Prim.Native.Nat.{ℕ, ◌+◌, ◌-◌, ◌^◌, ◌≤◌, ◌<◌}
use native.Mathlib.Omega.{arith}
use native.Mathlib.Nat.{zero-add}
use native.Mathlib.Numerals.{add-one}
use lib.ListN.{length, get_or, set, take, length-append, length-set}
use lib.Seq.{take-suc-set}
use Rattle.code.proofs.Chosen.{pattern_most}
use Rattle.words.specs.Words.{word_groups, groups_at, front_at}
use Rattle.words.specs.Marks.{Marks, picked, top_of, Added, ListedValues, Pickable}
use Rattle.words.proofs.Sizes.{word_fits}
use Rattle.words.proofs.Front.{back_at, back_more, back_none}
use Rattle.words.proofs.Picked.{Topmost, top-mark, picked_none}

-- of the list `picks`, which is added to the bytes before `at`, the bytes before i are there, and f of the marks o is still to come
pub record Filling (f : ℕ → ℕ) (m : ℕ) (before picks : List ℕ) (at o : ℕ) (xs : List ℕ) (i : ℕ) : Type 0 where
  pub long : length xs ≡ pattern_most
  pub few : at + length picks ≤ pattern_most
  pub count : i + length (picked f m (word_groups m) o) ≡ at + length picks
  pub made : take i xs ++ picked f m (word_groups m) o ≡ take at before ++ picks

pub filling-none : (f : ℕ → ℕ) (m : ℕ) (picks : List ℕ) (at o : ℕ) (xs : List ℕ) → picks ≡ picked f m (word_groups m) o → length xs ≡ pattern_most
    → at + length picks ≤ pattern_most
    → Filling f m xs picks at o xs at
filling-none f m picks at o xs e l h = record { long = l; few = h; count = rw e; made = rw e }

module _ {m o : ℕ} (hm : 2 ≤ m) (lm : m ≤ 4) (k : Marks m o) (some : 0 < o) where
  top-word : Topmost m (omega arith) (word_groups m) o (top_of o)
  top-word = top-mark m (word_groups m) o (omega arith) k some (omega (arith, word_fits m hm lm))

  pub top-step : (f : ℕ → ℕ) → picked f m (word_groups m) o ≡ f (top_of o) ∷ picked f m (word_groups m) (o - 2 ^ top_of o)
  top-step = top-word.step

  pub marks-less : Marks m (o - 2 ^ top_of o)
  marks-less = top-word.rest

  module _ {f : ℕ → ℕ} {before picks : List ℕ} {at : ℕ} {xs : List ℕ} {i : ℕ} (F : Filling f m before picks at o xs i) where
    pub filling-room : i < pattern_most
    filling-room = let s = ap length (top-step f) in omega (arith, F.count, F.few)

    pub filling-more : (x : ℕ) → x ≡ f (top_of o) → Filling f m before picks at (o - 2 ^ top_of o) (set xs i x) (i + 1)
    filling-more x e =
        let s = top-step f in
        record {
          long = rw length-set F.long;
          few = F.few;
          count = omega (arith, F.count, ap length s);
          made = rw (add-one i, take-suc-set xs i x (omega (arith, F.long, filling-room)), append_assoc, e) (rw s at F.made);
        }

pub filling-all : {f : ℕ → ℕ} {m : ℕ} {before picks : List ℕ} {at o : ℕ} {xs : List ℕ} {i : ℕ} → 0 < m → o ≡ 0 → Filling f m before picks at o xs i
    → Added picks before xs at i
filling-all {f} {m} {before} {picks} {at} {o} {xs} {i} pos e F =
    let z : picked f m (word_groups m) o ≡ [] = rw e (picked_none m pos f (word_groups m)) in
    record { long = F.long; count = omega (arith, F.count, ap length z); made = sym (append-nil (take i xs)) ∙ rw z at F.made }

-- the bytes before k, and then the rest, are the goal
pub record Going (goal rest xs : List ℕ) (k : ℕ) : Type 0 where
  pub long : length xs ≡ pattern_most
  pub count : k + length rest ≡ length goal
  pub made : take k xs ++ rest ≡ goal

pub going-none : (goal xs : List ℕ) → length xs ≡ pattern_most → Going goal goal xs 0
going-none goal xs l = record { long = l; count = zero-add (length goal); made = refl }

pub going_more : {goal rest xs : List ℕ} {k : ℕ} (ps more ys : List ℕ) (r : ℕ) → Going goal rest xs k → rest ≡ ps ++ more → Added ps xs ys k r
    → Going goal more ys r
going_more {goal} {rest} {xs} {k} ps more ys r G e A = record {
  long = A.long;
  count = omega (arith, G.count, A.count, ap length e, length-append ps more);
  made = rw (A.made, append_assoc, ← e) G.made;
}

pub going-all : {goal rest xs : List ℕ} {k : ℕ} → rest ≡ [] → Going goal rest xs k → ListedValues goal xs k
going-all {goal} {rest} {xs} {k} e G = record {
  long = G.long;
  count = omega (arith, G.count, ap length e);
  made = sym (append-nil (take k xs)) ∙ rw e at G.made;
}

-- one word more of those whose marked groups are picked
module _ {m n : ℕ} {ws os : List ℕ} (P : Pickable m n ws os) where
  pub pick_more : (i : ℕ) → i < n → back_at m n i os ws ≡ groups_at m (word_groups m) (get_or os i 0) (get_or ws i 0) ++ back_at m n (i + 1) os ws
  pick_more i h = back_more m n i os ws (omega (arith, P.few, P.room)) (omega (arith, P.few, P.long)) h

  pub pick-none : (i : ℕ) → n ≤ i → back_at m n i os ws ≡ []
  pick-none i h = back_none m n i os ws (omega (arith, P.few, P.room)) (omega (arith, P.few, P.long)) h

  pub pick-room : (i : ℕ) {xs : List ℕ} {k : ℕ} → length (front_at m n os ws) ≤ pattern_most → i < n → Going (front_at m n os ws) (back_at m n i os ws) xs k
      → k + length (groups_at m (word_groups m) (get_or os i 0) (get_or ws i 0)) ≤ pattern_most
  pick-room i most h G =
      let here = groups_at m (word_groups m) (get_or os i 0) (get_or ws i 0) in
      omega (arith, G.count, most, ap length (pick_more i h), length-append here (back_at m n (i + 1) os ws))
