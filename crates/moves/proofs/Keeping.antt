-- Layouts kept by their numbers: where one stands among them, one more, and their bytes.
use Prim.Native.Nat.{ℕ, zero, suc, ◌+◌, ◌*◌, ◌^◌, ◌≤◌, ◌<◌}
use mathlib.Core.Path.{◌≡◌, refl, sym, ap, ◌∙◌}
use mathlib.Core.Bool.{Bool, true, false, ◌&&◌}
use mathlib.Core.Logic.{inl, inr}
use mathlib.Core.List.{List, [], ◌∷◌, ◌++◌, append-nil}
use native.Mathlib.Omega.{arith}
use native.Mathlib.Numerals.{add-one}
use lib.Dec.{eqb}
use lib.ListN.{length, get_or, take, drop, set, length-append, length-set}
use lib.Seq.{take-add, drop-cons, get_or-set_same, get_or-set_other}
use borrow.Author.Tests.{eq-eqb}
use Rattle.code.specs.Lists.{Below, same}
use Rattle.code.specs.Numerals.{numerals_of}
use Rattle.code.specs.LayoutList.{Listed, listed_numbers, layouts_of}
use Rattle.code.specs.NewDump.{place_of, joined}
use Rattle.code.proofs.Tests.{le-or-lt}
use Rattle.code.proofs.HexLines.{same-eq}
use Rattle.code.proofs.Records.{numerals-append}
use Rattle.code.proofs.LayoutLists.{Listable, AllListable, layouts-append}
use Rattle.code.proofs.FirstUse.{alike, place-hit, place-miss, Lists, place-append, joined-known, joined-fresh, joined_by}
use Rattle.moves.specs.Kept.{kept_at, kept_layouts, Keeps}

-- layouts of which a number differs are not alike
unlike : (k l : Listed) (i : ℕ) → (get_or (listed_numbers k) i 0 ≡ get_or (listed_numbers l) i 0 → ⊥) → false ≡ alike k l
unlike k l i n = go (alike k l) refl
  where
    go : (b : Bool) → alike k l ≡ b → false ≡ b
    go true e = absurd (n (ap (λ xs. get_or xs i 0) (same-eq (listed_numbers k) (listed_numbers l) e)))
    go false e = refl

and-true : (b : Bool) → b ≡ (b && true)
and-true true = refl
and-true false = refl

-- the layout of form 0 with these numbers, as an old dump says it
abbrev old_listed : ℕ → ℕ → ℕ → Listed
old_listed m t v = record { form = 0; m = m; t = t; ranges = v ∷ [] }

module _ (xs : List ℕ) (i : ℕ) (m t v : ℕ) where
  pub unlike-v : (get_or xs (4 * i + 3) 0 ≡ v → ⊥) → false ≡ alike (kept_at xs i) (old_listed m t v)
  unfolding kept_at listed_numbers
  unlike-v n = unlike (kept_at xs i) (old_listed m t v) 3 n

  pub unlike-t : (get_or xs (4 * i + 2) 0 ≡ t → ⊥) → false ≡ alike (kept_at xs i) (old_listed m t v)
  unfolding kept_at listed_numbers
  unlike-t n = unlike (kept_at xs i) (old_listed m t v) 2 n

  pub unlike-m : (get_or xs (4 * i + 1) 0 ≡ m → ⊥) → false ≡ alike (kept_at xs i) (old_listed m t v)
  unfolding kept_at listed_numbers
  unlike-m n = unlike (kept_at xs i) (old_listed m t v) 1 n

  -- where the others are the same, the forms tell
  pub by_form : get_or xs (4 * i + 3) 0 ≡ v → get_or xs (4 * i + 2) 0 ≡ t → get_or xs (4 * i + 1) 0 ≡ m →
      eqb (get_or xs (4 * i) 0) 0 ≡ alike (kept_at xs i) (old_listed m t v)
  unfolding same kept_at listed_numbers
  by_form same_v same_t same_m = rw (eq-eqb _ _ same_v, eq-eqb _ _ same_t, eq-eqb _ _ same_m) (and-true _)

-- a layout that is none of a list's stands behind it as it stands in what follows
place-behind : (ls more : List Listed) (l : Listed) → length ls ≤ place_of ls l → place_of (ls ++ more) l ≡ length ls + place_of more l
unfolding place_of
place-behind [] more l h = omega arith
place-behind (k ∷ ls) more l h = go (alike k l) refl (place-behind ls more l) h
  where
    go : (b : Bool) → alike k l ≡ b → (length ls ≤ place_of ls l → place_of (ls ++ more) l ≡ length ls + place_of more l) → suc (length ls) ≤ place_of (k ∷ ls) l →
        place_of (k ∷ (ls ++ more)) l ≡ suc (length ls) + place_of more l
    go true e ih h = let h' = rw (place-hit k ls l e) at h in absurd (omega arith)
    go false e ih h = let h' = rw (place-miss k ls l e) at h in place-miss k (ls ++ more) l e ∙ omega (arith, ih (omega arith))

pub place-most : (ls : List Listed) (l : Listed) → place_of ls l ≤ length ls
unfolding place_of
place-most [] l = omega arith
place-most (k ∷ ls) l = go (alike k l) refl (place-most ls l)
  where
    go : (b : Bool) → alike k l ≡ b → place_of ls l ≤ length ls → place_of (k ∷ ls) l ≤ suc (length ls)
    go true e ih = omega (arith, place-hit k ls l e)
    go false e ih = omega (arith, place-miss k ls l e)

module _ (xs : List ℕ) where
  pub kept-long : (k : ℕ) → length (kept_layouts k xs) ≡ k
  unfolding kept_layouts
  kept-long zero = refl
  kept-long (suc k) = omega (arith, length-append (kept_layouts k xs) (kept_at xs k ∷ []), kept-long k)

  module _ (l : Listed) where
    -- found among the first, it is found there among all
    found-on : (i k : ℕ) → i ≤ k → Lists (kept_layouts i xs) l → place_of (kept_layouts k xs) l ≡ place_of (kept_layouts i xs) l
    unfolding kept_layouts
    found-on i zero h g = let z : i ≡ 0 = omega arith in rw z
    found-on i (suc k) h g = elim (le-or-lt i k) [
      | inl a ↦
          let e = found-on i k a g in
          place-append (kept_layouts k xs) (kept_at xs k ∷ []) l (omega (arith, kept-long k, kept-long i)) ∙ e
      | inr a ↦ let z : i ≡ suc k = omega arith in rw z
    ]

    module _ (i : ℕ) (before : i ≡ place_of (kept_layouts i xs) l) where
      one_more : place_of (kept_layouts (suc i) xs) l ≡ i + place_of (kept_at xs i ∷ []) l
      unfolding kept_layouts
      one_more =
          let n = kept-long i in
          place-behind (kept_layouts i xs) (kept_at xs i ∷ []) l (omega arith) ∙ rw n

      pub place_here : (k : ℕ) → i < k → alike (kept_at xs i) l ≡ true → i ≡ place_of (kept_layouts k xs) l
      place_here k h e =
          let p : place_of (kept_layouts (suc i) xs) l ≡ i = omega (arith, one_more, place-hit (kept_at xs i) [] l e) in
          sym (found-on (suc i) k h (omega (arith, kept-long (suc i))) ∙ p)

      pub place-next : alike (kept_at xs i) l ≡ false → i + 1 ≡ place_of (kept_layouts (i + 1) xs) l
      unfolding place_of
      place-next e = rw (add-one i) (omega (arith, one_more, place-miss (kept_at xs i) [] l e))

pub place_none : (xs : List ℕ) (l : Listed) → 0 ≡ place_of (kept_layouts 0 xs) l
unfolding kept_layouts place_of
place_none xs l = refl

-- a number stored behind the layouts that are kept does not change them
at_set : (xs : List ℕ) (i j a : ℕ) → 4 * i + 4 ≤ j → kept_at (set xs j a) i ≡ kept_at xs i
unfolding kept_at
at_set xs i j a h =
    rw (
      get_or-set_other xs j (4 * i) a 0 (λ q. omega arith),
      get_or-set_other xs j (4 * i + 1) a 0 (λ q. omega arith),
      get_or-set_other xs j (4 * i + 2) a 0 (λ q. omega arith),
      get_or-set_other xs j (4 * i + 3) a 0 (λ q. omega arith),
    )

kept_set : (k : ℕ) (xs : List ℕ) (j a : ℕ) → 4 * k ≤ j → kept_layouts k (set xs j a) ≡ kept_layouts k xs
unfolding kept_layouts
kept_set zero xs j a h = refl
kept_set (suc k) xs j a h = rw (kept_set k xs j a (omega arith), at_set xs k j a (omega arith))

-- the numbers of a layout stored at a place
abbrev pub stored : List ℕ → ℕ → ℕ → ℕ → ℕ → List ℕ
stored xs k m t v = set (set (set (set xs (4 * k) 0) (4 * k + 1) m) (4 * k + 2) t) (4 * k + 3) v

module _ (xs : List ℕ) (k : ℕ) (m t v : ℕ) where
  abbrev one : List ℕ
  one = set xs (4 * k) 0

  abbrev two : List ℕ
  two = set one (4 * k + 1) m

  abbrev three : List ℕ
  three = set two (4 * k + 2) t

  stored-long : length (stored xs k m t v) ≡ length xs
  stored-long = simp length-set

  stored-front : kept_layouts k (stored xs k m t v) ≡ kept_layouts k xs
  stored-front = kept_set k three (4 * k + 3) v (omega arith) ∙ kept_set k two (4 * k + 2) t (omega arith)
      ∙ kept_set k one (4 * k + 1) m (omega arith) ∙ kept_set k xs (4 * k) 0 (omega arith)

  stored_at : 4 * k + 4 ≤ length xs → kept_at (stored xs k m t v) k ≡ old_listed m t v
  unfolding kept_at
  stored_at h =
      let a : length one ≡ length xs = length-set xs (4 * k) 0 in
      let b : length two ≡ length one = length-set one (4 * k + 1) m in
      let c : length three ≡ length two = length-set two (4 * k + 2) t in
      let form : get_or (stored xs k m t v) (4 * k) 0 ≡ 0 = get_or-set_other three (4 * k + 3) (4 * k) v 0 (λ q. omega arith)
      ∙ get_or-set_other two (4 * k + 2) (4 * k) t 0 (λ q. omega arith) ∙ get_or-set_other one (4 * k + 1) (4 * k) m 0 (λ q. omega arith)
      ∙ get_or-set_same xs (4 * k) 0 0 (omega arith) in
      let same_m : get_or (stored xs k m t v) (4 * k + 1) 0 ≡ m = get_or-set_other three (4 * k + 3) (4 * k + 1) v 0 (λ q. omega arith)
      ∙ get_or-set_other two (4 * k + 2) (4 * k + 1) t 0 (λ q. omega arith) ∙ get_or-set_same one (4 * k + 1) m 0 (omega arith) in
      let same_t : get_or (stored xs k m t v) (4 * k + 2) 0 ≡ t = get_or-set_other three (4 * k + 3) (4 * k + 2) v 0 (λ q. omega arith)
      ∙ get_or-set_same two (4 * k + 2) t 0 (omega arith) in
      let same_v : get_or (stored xs k m t v) (4 * k + 3) 0 ≡ v = get_or-set_same three (4 * k + 3) v 0 (omega arith) in
      rw (form, same_m, same_t, same_v)

  pub stored_more : 4 * k + 4 ≤ length xs → kept_layouts (suc k) (stored xs k m t v) ≡ kept_layouts k xs ++ (old_listed m t v ∷ [])
  unfolding kept_layouts
  stored_more h = rw (stored-front, stored_at h)

-- A layout is kept: there were too many before, it is one of them, it makes too many, or it goes behind.
pub keeps-none : (xs : List ℕ) → length xs ≡ 256 → Keeps 0 xs []
unfolding kept_layouts
keeps-none xs h = record { long = h; few = omega arith; same = λ a. refl; over = λ a. absurd (omega arith) }

module _ {count : ℕ} {xs : List ℕ} {ls : List Listed} (k : Keeps count xs ls) where
  pub keeps-over : (l : Listed) → 64 < count → Keeps count xs (joined ls l)
  keeps-over l h = record {
    long = k.long;
    few = k.few;
    same = λ a. absurd (omega arith);
    over = λ a. joined_by (λ ks. 64 < length ks) ls l (λ g. k.over h) (λ g. omega (arith, k.over h, length-append ls (l ∷ [])));
  }

  module _ (few : count ≤ 64) where
    kept-many : length ls ≡ count
    kept-many = ap length (k.same few) ∙ kept-long xs count

    module _ (l : Listed) (place : ℕ) (is : place ≡ place_of (kept_layouts count xs) l) where
      place_is : place ≡ place_of ls l
      place_is = rw (k.same few) is

      pub keeps-known : place < count → Keeps count xs (joined ls l)
      keeps-known h = rw (joined-known ls l (omega (arith, place_is, kept-many))) k

      behind : count ≤ place → joined ls l ≡ ls ++ (l ∷ [])
      behind h = joined-fresh ls l (omega (arith, place_is, kept-many))

      pub keeps-full : count ≡ 64 → count ≤ place → Keeps 65 xs (joined ls l)
      keeps-full e h = record {
        long = k.long;
        few = omega arith;
        same = λ a. absurd (omega arith);
        over = λ a. rw (behind h) (omega (arith, kept-many, length-append ls (l ∷ [])));
      }

    pub keeps-more : (m t v place : ℕ) → place ≡ place_of (kept_layouts count xs) (old_listed m t v) → count < 64 → count ≤ place →
        Keeps (count + 1) (stored xs count m t v) (joined ls (old_listed m t v))
    keeps-more m t v place is f h = record {
      long = stored-long xs count m t v ∙ k.long;
      few = omega arith;
      same = λ a. behind (old_listed m t v) place is h ∙ rw (add-one count, stored_more xs count m t v (omega (arith, k.long)), k.same few);
      over = λ a. absurd (omega arith);
    }

-- The bytes of the layouts are those of their numbers.
four : (xs : List ℕ) (n : ℕ) → n + 4 ≤ length xs →
    take 4 (drop n xs) ≡ get_or xs n 0 ∷ get_or xs (n + 1) 0 ∷ get_or xs (n + 2) 0 ∷ get_or xs (n + 3) 0 ∷ []
four xs n h =
    let a : n + 1 ≡ suc n = omega arith in
    let b : n + 2 ≡ suc (suc n) = omega arith in
    let c : n + 3 ≡ suc (suc (suc n)) = omega arith in
    rw (
      a,
      b,
      c,
      drop-cons xs n 0 (omega arith),
      drop-cons xs (suc n) 0 (omega arith),
      drop-cons xs (suc (suc n)) 0 (omega arith),
      drop-cons xs (suc (suc (suc n))) 0 (omega arith),
    )

module _ (xs : List ℕ) where
  kept-numbers : (k : ℕ) → 4 * suc k ≤ length xs → take (4 * suc k) xs ≡ take (4 * k) xs ++ listed_numbers (kept_at xs k)
  unfolding kept_at listed_numbers
  kept-numbers k h =
      let e : 4 * suc k ≡ 4 * k + 4 = omega arith in
      rw (e, take-add (4 * k) 4 xs, four xs (4 * k) (omega arith))

  pub kept-bytes : (k : ℕ) → 4 * k ≤ length xs → layouts_of (kept_layouts k xs) ≡ numerals_of (take (4 * k) xs)
  unfolding kept_layouts layouts_of numerals_of
  kept-bytes zero h = refl
  kept-bytes (suc k) h =
      rw (
        kept-numbers k h,
        layouts-append (kept_layouts k xs) (kept_at xs k ∷ []),
        kept-bytes k (omega arith),
        numerals-append (take (4 * k) xs) (listed_numbers (kept_at xs k)),
        append-nil,
      )

  pub kept_small : (k : ℕ) → 4 * k ≤ length xs → AllListable (kept_layouts k xs) → Below (2 ^ 63) (take (4 * k) xs)
  unfolding kept_layouts
  kept_small zero h a = tt
  kept_small (suc k) h a =
      let b = listable-last (kept_layouts k xs) (kept_at xs k) a in
      rw (kept-numbers k h) (below-append (take (4 * k) xs) (listed_numbers (kept_at xs k)) (kept_small k (omega arith) b.0) b.1.small)
    where
      listable-last : (ls : List Listed) (l : Listed) → AllListable (ls ++ (l ∷ [])) → AllListable ls × Listable l
      listable-last [] l a = (tt, a.0)
      listable-last (j ∷ ls) l a = let b = listable-last ls l a.1 in ((a.0, b.0), b.1)

      below-append : (ys zs : List ℕ) → Below (2 ^ 63) ys → Below (2 ^ 63) zs → Below (2 ^ 63) (ys ++ zs)
      below-append [] zs f g = g
      below-append (y ∷ ys) zs f g = (f.0, below-append ys zs f.1 g)
