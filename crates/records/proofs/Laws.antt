-- What the numbers at the head of a record tell.
use mathlib.Core.Path.{◌≡◌, refl, sym, ap, ◌∙◌}
use mathlib.Core.Bool.{Bool, true, false}
use mathlib.Core.List.{List, [], ◌∷◌}
use Prim.Native.Nat.{ℕ, zero, suc, ◌-◌, ◌≤◌, ◌<◌}
use native.Mathlib.Omega.{arith}
use lib.ListN.{length, get_or, get_or-eq_default}
use lib.Dec.{ltb}
use borrow.Author.Tests.{le-leb, lt-leb, ltb-true, ltb-false}
use Rattle.code.specs.Numerals as Numerals
use Rattle.code.specs.Numerals.{read_numbers}
use Rattle.code.specs.Shape.{shaped}
use Rattle.code.specs.Calls.{filled}
use Rattle.code.specs.LayoutList.{unlisted, listed_shape}
use Rattle.code.specs.Dump.{Source, head_length, listed_layouts, out_of_list, taken, stopped, record_by, broken, record_at}
use Rattle.code.proofs.Walk.{numbers-within}
use Rattle.code.proofs.Records.{record-off, record-found, record-short}
use Rattle.numerals.specs.Number.{numbers_of}
use Rattle.std.proofs.Common.{Option, None, Some}
use Rattle.records.specs.declared.Head.{Head}
use Rattle.records.specs.Head.{head_record, head_step, headed}
use Rattle.records.specs.Source.{layout_at, layouts_at}

module _ (source : Source) (bytes : List ℕ) (at : ℕ) (xs : List ℕ) {r : Option ℕ} (read : numbers_of xs r ≡ read_numbers (suc (head_length source)) bytes at) where
  pub head-cut : r ≡ None → stopped 7 (at ∷ []) ≡ record_at source bytes at (read_numbers (suc (head_length source)) bytes at)
  unfolding broken
  head-cut e = ap (record_at source bytes at) (ap (numbers_of xs) (sym e) ∙ read)

  module _ {end : ℕ} (e : r ≡ Some end) where
    told : Numerals.numbers xs end ≡ read_numbers (suc (head_length source)) bytes at
    told = ap (numbers_of xs) (sym e) ∙ read

    pub head-within : end ≤ length bytes
    head-within = numbers-within (head_length source) bytes at xs end (sym told)

    pub head-off : out_of_list source xs ≡ true → stopped 7 (at ∷ []) ≡ record_at source bytes at (read_numbers (suc (head_length source)) bytes at)
    head-off o = sym (record-off source bytes at xs end o) ∙ ap (record_at source bytes at) told

    -- a head is its record, where as many bytes follow as it says
    pub head-headed : (h : Head) → out_of_list source xs ≡ false → head_record source h ≡ record_by source xs end → h.count ≡ get_or xs (head_length source) 0 →
        head_step source (headed (length bytes - end) at h) ≡ record_at source bytes at (read_numbers (suc (head_length source)) bytes at)
    head-headed h o same n = go (ltb (length bytes - end) h.count) refl ∙ ap (record_at source bytes at) told
      where
        go : (t : Bool) → ltb (length bytes - end) h.count ≡ t → head_step source (headed (length bytes - end) at h) ≡ record_at source bytes at (Numerals.numbers xs end)
        go true e = rw e (sym (record-short source bytes at xs end o (omega (arith, n, ltb-true (length bytes - end) h.count e))))
        go false e = rw e (ap taken same ∙ sym (record-found source bytes at xs end o (omega (arith, n, ltb-false (length bytes - end) h.count e))))

module _ (bytes : List ℕ) where
  -- layouts by their places are as many as the places
  pub layouts-many : (places : List ℕ) → length (layouts_at bytes places) ≡ length places
  unfolding layouts_at
  layouts-many [] = refl
  layouts-many (place ∷ places) = ap suc (layouts-many places)

  pub layouts-each : (places : List ℕ) (i : ℕ) → i < length places → get_or (layouts_at bytes places) i unlisted ≡ layout_at bytes (get_or places i 0)
  unfolding layouts_at
  layouts-each [] i h = absurd (omega arith)
  layouts-each (place ∷ places) zero h = refl
  layouts-each (place ∷ places) (suc i) h = layouts-each places i (omega arith)

  module _ (places xs : List ℕ) where
    pub off_list_lem : length places ≤ get_or xs 1 0 → out_of_list (listed_layouts (layouts_at bytes places)) xs ≡ true
    unfolding out_of_list
    off_list_lem h = le-leb (length (layouts_at bytes places)) (get_or xs 1 0) (omega (arith, layouts-many places))

    pub on_list : get_or xs 1 0 < length places → out_of_list (listed_layouts (layouts_at bytes places)) xs ≡ false
    unfolding out_of_list
    on_list h = lt-leb (length (layouts_at bytes places)) (get_or xs 1 0) (omega (arith, layouts-many places))

-- a number that the list has not stands for no layout
pub none-listed : (bytes places : List ℕ) (number : ℕ) → length places ≤ number → shaped 0 0 0 ≡ listed_shape (get_or (layouts_at bytes places) number unlisted)
unfolding listed_shape filled
none-listed bytes places number h =
    rw (get_or-eq_default (layouts_at bytes places) unlisted {n = number} (omega (arith, layouts-many bytes places)))
