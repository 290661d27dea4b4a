-- The tests of an export behind its first, for either kind of dump.
use Prim.Native.Nat.{ℕ, ◌^◌, ◌≤◌, ◌<◌}
use mathlib.Core.Path.{◌≡◌, ap, ◌∙◌}
use mathlib.Core.Bool.{true, false}
use mathlib.Core.List.{List, [], ◌∷◌, ◌++◌, append-nil}
use native.Mathlib.Omega.{arith}
use lib.Dec.{ltb}
use lib.ListN.{length, take, drop}
use borrow.Author.Tests.{lt-ltb, le-ltb}
use Rattle.code.specs.declared.Shape.{Shape}
use Rattle.code.specs.Lists.{Below}
use Rattle.code.specs.Cells.{sound}
use Rattle.code.specs.Shape.{given, order_of, outside, misfit, granted, counts_of, width_of}
use Rattle.code.proofs.LayoutCall.{Bounds}
use Rattle.code.specs.Calls.{refusal, answer, leaves, filled, layout_fields, layout_refusal, layout_reply}
use Rattle.code.specs.Refusals.{refusal_reply, number_of}
use Rattle.code.specs.declared.Refusal.{Refusal}
use Rattle.layout.proofs.Planning.{laid-number, laid-alone}
use Rattle.code.specs.Numerals.{numerals_of}
use Rattle.code.specs.LayoutList.{listed_numbers, listed_of, layouts_of}
use Rattle.code.specs.Export.{record_of}
use Rattle.code.specs.NewDump.{layout_export_refusal, layout_export_reply, layout_export_leaves}
use Rattle.code.proofs.LayoutCall.{given-taken, refused-early, passed-early}
use Rattle.code.proofs.Records.{numerals-append}
use Rattle.code.proofs.Exported.{ranges-below}
use Rattle.code.proofs.ExportCall.{export-no-layout, export-unsound, export-short, export-stored}
use Rattle.storing.specs.Put.{Put}
use Rattle.storing.proofs.Put.{put-pastes}
use Rattle.exports.specs.Exported.{Exported}

module _ (s : Shape) (head cells out : List ℕ) where
  pub export-refused : (k : Refusal) {h : List ℕ} → number_of k ∷ h ≡ filled layout_fields (layout_reply s 256) → Exported s head cells out (refusal_reply k) out
  export-refused k right x e f h o =
      rw (laid-alone s 256 k right) (export-no-layout x cells out h o (number_of k) (rw e (laid-number s 256 k right)))

  module _ (ok : layout_refusal s 256 ≡ []) where
    pub export-spoiled : sound (order_of s) s.m (width_of s) cells ≡ false → Exported s head cells out (3 ∷ []) out
    export-spoiled b x e f h o = export-unsound x cells out h o (rw e ok) (rw e b)

    module _ (b : sound (order_of s) s.m (width_of s) cells ≡ true) where
      pub export-crowded : length out < length (record_of head cells) → Exported s head cells out (9 ∷ []) out
      export-crowded l x e f h o = export-short x cells out h o (rw e ok) (rw e b) (rw f l)

      pub export-made : length (record_of head cells) ≤ length out →
          Exported s head cells out (0 ∷ length (record_of head cells) ∷ []) (record_of head cells ++ drop (length (record_of head cells)) out)
      export-made l x e f h o = rw (← f) (export-stored x cells out h o (rw e ok) (rw e b) (rw f l))

-- a record that is put at the front of an output
pub front-made : (s : Shape) (head cells out : List ℕ) {after : List ℕ} {n : ℕ} →
    Put out after 0 (record_of head cells) n → length (record_of head cells) ≤ length out →
    Exported s head cells out (0 ∷ length (record_of head cells) ∷ []) (record_of head cells ++ drop (length (record_of head cells)) out) →
    Exported s head cells out (0 ∷ n ∷ []) after
front-made s head cells out {after} {n} p h made =
    let long : n ≡ length (record_of head cells) = omega (arith, p.ends) in
    let left : after ≡ record_of head cells ++ drop (length (record_of head cells)) out = rw long at (put-pastes p (omega arith)) in
    rw (long, left) made

-- the numbers of a layout of the list
abbrev pub numbers_of : Shape → List ℕ
numbers_of s = s.form ∷ s.m ∷ s.t ∷ given s

-- all of them can be written
pub numbers-below : (s : Shape) → Bounds s → s.count ≤ length s.v →
    Below (2 ^ 63) (s.form ∷ s.m ∷ s.t ∷ []) × Below (2 ^ 63) (take s.count s.v)
numbers-below s b h =
    ((omega (arith, b.form-high), (omega (arith, b.m-high), (omega (arith, b.t-high), tt))), rw (given-taken s h) at (ranges-below s b))

-- they are three, and its ranges as they stand in its array
pub numbers-parts : (s : Shape) → s.count ≤ length s.v →
    numerals_of (numbers_of s) ≡ numerals_of (s.form ∷ s.m ∷ s.t ∷ []) ++ numerals_of (take s.count s.v)
numbers-parts s h = numerals-append (s.form ∷ s.m ∷ s.t ∷ []) (given s) ∙ rw (given-taken s h)

-- the export of a layout, test by test
module _ (s : Shape) (out : List ℕ) where
  abbrev Listing : List ℕ → List ℕ → Type 0
  Listing reply after = (reply ≡ layout_export_reply s out) × (after ≡ layout_export_leaves s out)

  refuses : (k : ℕ) → layout_export_refusal s out ≡ k ∷ [] → Listing (k ∷ []) out
  unfolding layout_export_reply layout_export_leaves answer leaves
  refuses k q = (rw q, rw q)

  layout-refused : (k : ℕ) → layout_refusal s 256 ≡ k ∷ [] → Listing (k ∷ []) out
  unfolding layout_export_refusal layout_refusal counts_of
  layout-refused k q = refuses k (refused-early (outside s 256) (misfit 256 (granted s 256)) k [] _ q)

  pub listed-refused : (k : Refusal) {h : List ℕ} → number_of k ∷ h ≡ filled layout_fields (layout_reply s 256) → Listing (refusal_reply k) out
  listed-refused k right = rw (laid-alone s 256 k right) (layout-refused (number_of k) (laid-number s 256 k right))

  -- the bytes of one layout are those of its numbers
  one-layout : layouts_of (listed_of s ∷ []) ≡ numerals_of (numbers_of s)
  unfolding layouts_of listed_of listed_numbers
  one-layout = append-nil (numerals_of (numbers_of s))

  module _ (ok : layout_refusal s 256 ≡ []) {n : ℕ} (long : n ≡ length (numerals_of (numbers_of s))) where
    last-test : layout_export_refusal s out ≡ refusal ((9 ∷ [], ltb (length out) (length (layouts_of (listed_of s ∷ [])))) ∷ [])
    unfolding layout_export_refusal layout_refusal counts_of
    last-test = passed-early (outside s 256) (misfit 256 (granted s 256)) _ ok

    pub listed-crowded : length out < n → Listing (9 ∷ []) out
    unfolding refusal
    listed-crowded h = refuses 9 (last-test ∙ rw (one-layout, lt-ltb (length out) (length (numerals_of (numbers_of s))) (omega arith)))

    pub listed-made : {after : List ℕ} {end : ℕ} → n ≤ length out → Put out after 0 (numerals_of (numbers_of s)) end → Listing (0 ∷ end ∷ []) after
    unfolding refusal layout_export_reply layout_export_leaves answer leaves
    listed-made {after} {end} h p =
        let z : layout_export_refusal s out ≡ [] = last-test ∙ rw (one-layout, le-ltb (length out) (length (numerals_of (numbers_of s))) (omega arith)) in
        let e : end ≡ length (numerals_of (numbers_of s)) = omega (arith, p.ends) in
        (rw (z, one-layout) (ap (λ k. 0 ∷ k ∷ []) e), rw (z, one-layout) (rw e at (put-pastes p (omega arith))))
