-- What reading one layout knows: how many ranges follow, and where they go.
use mathlib.Core.Path.{◌≡◌, refl, sym, ap, subst, ◌∙◌}
use mathlib.Core.Bool.{true}
use mathlib.Core.List.{List, [], ◌∷◌, ◌++◌}
use Prim.Native.Nat.{ℕ, zero, suc, ◌-◌, ◌≤◌, ◌<◌}
use native.Mathlib.Omega.{arith}
use native.Mathlib.Nat.{sub-zero, suc-sub-suc}
use lib.ListN.{length, get_or, take, drop, replicate, length-take, take-append-drop}
use borrow.Author.Tests.{le-leb, lt-leb, eq-eqb, ne_eqb}
use Rattle.code.specs.Shape.{shaped, ranges_due}
use Rattle.shapes.specs.Outlines.{outlined}
use Rattle.code.specs.Calls.{filled}
use Rattle.code.specs.Numerals as Numerals
use Rattle.code.specs.Numerals.{read_numbers}
use Rattle.code.specs.LayoutList.{listed_by, listed_shape, uncounted, followed, read_layout}
use Rattle.code.proofs.Tests.{and-false}
use Rattle.code.proofs.LayoutCall.{padded}
use Rattle.code.proofs.LayoutLists.{layout-cut, layout-uncounted, layout-behind}
use Rattle.numerals.specs.Number.{numbers_of}
use Rattle.std.proofs.Common.{Option, None, Some}
use Rattle.records.specs.declared.list.LayoutThere.{LayoutThere}
use Rattle.records.specs.Source.{listed_from, layout_at}
use Rattle.records.specs.List.{RangesSaid, RangesRead, there_of, Ranged, LayoutRead}

module _ (xs : List ℕ) where
  pub said-one : (get_or xs 0 0 ≡ 2 → ⊥) → RangesSaid xs (Some 1)
  unfolding uncounted ranges_due
  said-one n = (rw (ne_eqb (get_or xs 0 0) 2 n), rw (ne_eqb (get_or xs 0 0) 2 n), omega arith)

  module _ (two : get_or xs 0 0 ≡ 2) where
    pub said-low : get_or xs 2 0 < 2 → RangesSaid xs None
    unfolding uncounted
    said-low h = rw (eq-eqb (get_or xs 0 0) 2 two, lt-leb 2 (get_or xs 2 0) h)

    pub said-high : 16 < get_or xs 2 0 → RangesSaid xs None
    unfolding uncounted
    said-high h = rw (eq-eqb (get_or xs 0 0) 2 two, lt-leb (get_or xs 2 0) 16 h, and-false)

    pub said-listed : 2 ≤ get_or xs 2 0 → get_or xs 2 0 ≤ 16 → RangesSaid xs (Some (get_or xs 2 0))
    unfolding uncounted ranges_due
    said-listed l h =
        (rw (eq-eqb (get_or xs 0 0) 2 two, le-leb 2 (get_or xs 2 0) l, le-leb (get_or xs 2 0) 16 h), rw (eq-eqb (get_or xs 0 0) 2 two), h)

three-are : (xs : List ℕ) → length xs ≡ 3 → get_or xs 0 0 ∷ get_or xs 1 0 ∷ get_or xs 2 0 ∷ [] ≡ xs
three-are [] e = absurd (omega arith)
three-are (a ∷ []) e = absurd (omega arith)
three-are (a ∷ b ∷ []) e = absurd (omega arith)
three-are (a ∷ b ∷ c ∷ []) e = refl
three-are (a ∷ b ∷ c ∷ d ∷ xs) e = absurd (omega arith)

-- A layout at a place, as it is read: form, m and t, then its ranges.
module _ (bytes : List ℕ) (at : ℕ) (before xs : List ℕ) (long : length before ≡ 16) {r : Option ℕ} (read : numbers_of xs r ≡ read_numbers 3 bytes at) where
  pub there-cut : r ≡ None → LayoutRead bytes at before before None
  there-cut e = record { reads = sym (layout-cut bytes at (sym (ap (numbers_of xs) (sym e) ∙ read))); ranged = tt; long = long }

  module _ {mid : ℕ} (e : r ≡ Some mid) where
    told : read_numbers 3 bytes at ≡ Numerals.numbers xs mid
    told = sym (ap (numbers_of xs) (sym e) ∙ read)

    pub there-uncounted : uncounted xs ≡ true → LayoutRead bytes at before before None
    there-uncounted c = record { reads = sym (layout-uncounted bytes at xs mid told c); ranged = tt; long = long }

    module _ (n : ℕ) (said : RangesSaid xs (Some n)) (v : List ℕ) {q : Option ℕ} (ranges : RangesRead bytes mid n before v q) where
      behind : read_layout bytes at ≡ followed xs (numbers_of (take n v) q)
      behind = layout-behind bytes at xs mid told said.0 ∙ rw (said.1, ← ranges.reads)

      pub ranges-cut : q ≡ None → LayoutRead bytes at before v None
      unfolding followed
      ranges-cut f = record { reads = sym (behind ∙ rw f); ranged = tt; long = ranges.long ∙ long }

      pub there-whole : {end : ℕ} → q ≡ Some end → length xs ≡ 3 →
          LayoutRead bytes at before v (Some (record { outline = record { form = get_or xs 0 0; m = get_or xs 1 0; t = get_or xs 2 0; count = n }; end = end }))
      unfolding followed
      there-whole {end} f three = record {
        reads = ap (λ ys. Numerals.numbers (ys ++ take n v) end) (three-are xs three) ∙ sym (behind ∙ rw f);
        ranged = (said.2, ranges.kept);
        long = ranges.long ∙ long;
      }

drop-zeros : (n k : ℕ) → n ≤ k → ◌≡◌ {A = List ℕ} (drop n (replicate k 0)) (replicate (k - n) 0)
drop-zeros zero k h = rw sub-zero
drop-zeros (suc n) zero h = absurd (omega arith)
drop-zeros (suc n) (suc k) h = rw suc-sub-suc (drop-zeros n k (omega arith))

-- a list behind which nothing but 0 stands
filled_of : (n : ℕ) (v : List ℕ) → length v ≡ 16 → n ≤ 16 → drop n v ≡ drop n (replicate 16 0) → filled 16 (take n v) ≡ v
unfolding filled
filled_of n v l h e =
    let some : length (take n v) ≡ n = omega (arith, length-take n v) in
    padded 16 16 (take n v) (omega arith) (omega arith) ∙ rw (some, ← drop-zeros n 16 h, ← e) (take-append-drop n v)

-- The shape of a layout that was read into zeros.
module _ (bytes : List ℕ) (place : ℕ) (v : List ℕ) where
  pub shape-whole : (l : LayoutThere) {r : Option LayoutThere} → r ≡ Some l → LayoutRead bytes place (replicate 16 0) v r →
      outlined l.outline v ≡ listed_shape (layout_at bytes place)
  unfolding listed_shape listed_by layout_at
  shape-whole l {r} e read =
      let f = l.outline in
      let told = ap (there_of v) (sym e) ∙ read.reads in
      let ranged : Ranged (replicate 16 0) v (Some l) = subst (Ranged (replicate 16 0) v) e read.ranged in
      let some : length (take f.count v) ≡ f.count = omega (arith, length-take f.count v, ranged.0, read.long) in
      let all : filled 16 (take f.count v) ≡ v = filled_of f.count v read.long ranged.0 ranged.1 in
      sym (λ i. record { form = f.form; m = f.m; t = f.t; count = some i; v = all i }) ∙ ap (λ ns. listed_shape (listed_from ns)) told

  pub shape-broken : {r : Option LayoutThere} → r ≡ None → LayoutRead bytes place (replicate 16 0) v r → shaped 0 0 0 ≡ listed_shape (layout_at bytes place)
  unfolding listed_shape layout_at filled
  shape-broken e read = ap (λ ns. listed_shape (listed_from ns)) (ap (there_of v) (sym e) ∙ read.reads)
