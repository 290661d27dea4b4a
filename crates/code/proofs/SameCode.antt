-- Shapes that have one code and one set of bounds are laid out, read, written and exported alike, whatever else is in them.
use Prim.Native.Nat.{ℕ}
use mathlib.Core.Path.{◌≡◌, refl}
use mathlib.Core.List.{List}
use lib.Dec.{eqb}
use Rattle.code.specs.declared.Shape.{Shape}
use Rattle.code.specs.Shape.{first_of, ranges_of, order_of, outside, granted, counts_of, width_of, code_of}
use Rattle.code.specs.Field.{Reading, blank, reads, miscounted, beyond}
use Rattle.code.specs.Many.{field_bytes}
use Rattle.code.specs.Export.{new_export, export_refusal, export_reply, export_leaves}
use Rattle.code.specs.Calls.{layout_refusal, layout_reply, field_read, field_write, unsound, numberless, read_refusal, read_reply}

-- what the calls go by: m, t, whether blank cells have a number, the bounds and the ranges of the generations
pub record SameCode (s r : Shape) : Type 0 where
  pub m-same : s.m ≡ r.m
  pub t_same : s.t ≡ r.t
  pub blank-same : eqb s.form 0 ≡ eqb r.form 0
  pub outside-same : (g : ℕ) → outside s g ≡ outside r g
  pub ranges-same : ranges_of s ≡ ranges_of r

module _ (s r : Shape) (same : SameCode s r) where
  first-same : first_of s ≡ first_of r
  unfolding first_of
  first-same = rw same.blank-same

  granted-same : (g : ℕ) → granted s g ≡ granted r g
  unfolding granted
  granted-same g = rw (first-same, same.ranges-same, same.m-same)

  -- the list granted, and the refusals
  pub refusal-same : (g : ℕ) → layout_refusal s g ≡ layout_refusal r g
  unfolding layout_refusal
  refusal-same g = rw (same.outside-same g, granted-same g)

  pub layout-same : (g : ℕ) → layout_reply s g ≡ layout_reply r g
  unfolding layout_reply
  layout-same g = rw (refusal-same g, granted-same g)

  pub counts_same : counts_of s ≡ counts_of r
  unfolding counts_of
  counts_same = granted-same 256

  pub width_same : width_of s ≡ width_of r
  unfolding width_of
  width_same = rw counts_same

  code_same : code_of s ≡ code_of r
  unfolding order_of
  code_same = λ i. record { order = 0; m = same.m-same i; first = first-same i; counts = counts_same i; ranges = same.ranges-same i }

  pub field-same : (bs : List ℕ) → field_read s bs ≡ field_read r bs
  unfolding field_read
  field-same bs = rw code_same

  pub write_same : (x : ℕ) (bs : List ℕ) → field_write s x bs ≡ field_write r x bs
  unfolding field_write
  write_same x bs = rw code_same

  pub unsound-same : (bs : List ℕ) → unsound s bs ≡ unsound r bs
  unfolding unsound order_of
  unsound-same bs = rw (width_same, same.m-same)

  numberless-same : (reading : Reading) → numberless s reading ≡ numberless r reading
  unfolding numberless
  numberless-same blank = rw same.blank-same
  numberless-same (reads i x) = refl
  numberless-same (miscounted i u) = refl
  numberless-same (beyond i) = refl

  -- the readings
  pub read_same : (bs : List ℕ) → read_reply s bs ≡ read_reply r bs
  unfolding read_reply read_refusal
  read_same bs =
      rw (same.outside-same 256, counts_same, unsound-same bs, field-same bs, numberless-same (field_read r bs), same.t_same)

  -- the bytes of a field
  pub bytes_same : field_bytes s ≡ field_bytes r
  unfolding field_bytes
  bytes_same = rw (width_same, same.m-same)

  -- the export of a new record, which has the number of its layout and not the shape
  module _ (serial layout : ℕ) (cells out : List ℕ) where
    export-refusal : export_refusal (new_export serial layout s) cells out ≡ export_refusal (new_export serial layout r) cells out
    unfolding export_refusal
    export-refusal = rw (same.outside-same 256, counts_same, unsound-same cells)

    pub export-same : export_reply (new_export serial layout s) cells out ≡ export_reply (new_export serial layout r) cells out
    unfolding export_reply
    export-same = rw export-refusal

    pub export-leaves-same : export_leaves (new_export serial layout s) cells out ≡ export_leaves (new_export serial layout r) cells out
    unfolding export_leaves
    export-leaves-same = rw export-refusal
