-- The export call, test by test, as a program comes to them.
use Prim.Native.Nat.{ℕ, ◌-◌, ◌^◌, ◌≤◌, ◌<◌}
use mathlib.Core.Path.{◌≡◌, ◌∙◌}
use mathlib.Core.Bool.{Bool, true, false}
use mathlib.Core.List.{List, [], ◌∷◌, ◌++◌}
use native.Mathlib.Omega.{arith}
use lib.ListN.{length, drop}
use lib.Dec.{ltb}
use borrow.Author.Tests.{lt-ltb, le-ltb}
use Rattle.code.specs.Cells.{sound}
use Rattle.code.specs.declared.Shape.{Shape}
use Rattle.code.specs.Shape.{order_of, outside, misfit, granted, counts_of, width_of}
use Rattle.code.specs.Calls.{refusal, answer, leaves, layout_refusal, unsound}
use Rattle.code.specs.Export.{record_of, Exporting, export_refusal, export_reply, export_leaves}
use Rattle.code.proofs.LayoutCall.{refused-early, passed-early}

module _ (x : Exporting) (cells out : List ℕ) where
  abbrev s : Shape
  s = x.shape

  abbrev made : List ℕ
  made = record_of x.head cells

  -- the tests after those of the layout
  abbrev last_tests : List (List ℕ × Bool)
  last_tests = (3 ∷ [], unsound s cells) ∷ (9 ∷ [], ltb (length out) (length made)) ∷ []

  -- the reply, and the output afterwards
  abbrev pub Exports : List ℕ → List ℕ → Type 0
  Exports reply after = (reply ≡ export_reply x cells out) × (after ≡ export_leaves x cells out)

  refuses : (k : ℕ) → export_refusal x cells out ≡ k ∷ [] → Exports (k ∷ []) out
  unfolding export_reply export_leaves answer leaves
  refuses k q = (rw q, rw q)

  pub export-late : 2 ^ 63 ≤ x.serial → Exports (10 ∷ []) out
  unfolding export_refusal refusal
  export-late h = refuses 10 (rw (lt-ltb (2 ^ 63 - 1) x.serial (omega arith)))

  module _ (h : x.serial < 2 ^ 63) where
    early : ltb (2 ^ 63 - 1) x.serial ≡ false
    early = le-ltb (2 ^ 63 - 1) x.serial (omega arith)

    pub export-off-list : x.off_list ≡ true → Exports (1 ∷ []) out
    unfolding export_refusal refusal
    export-off-list o = refuses 1 (rw (early, o))

    module _ (o : x.off_list ≡ false) where
      pub export-no-layout : (k : ℕ) → layout_refusal s 256 ≡ k ∷ [] → Exports (k ∷ []) out
      unfolding export_refusal refusal layout_refusal counts_of
      export-no-layout k q = refuses k (rw (early, o) (refused-early (outside s 256) (misfit 256 (granted s 256)) k [] last_tests q))

      module _ (ok : layout_refusal s 256 ≡ []) where
        export-tests : export_refusal x cells out ≡ refusal last_tests
        unfolding export_refusal refusal layout_refusal counts_of
        export-tests = rw (early, o) (passed-early (outside s 256) (misfit 256 (granted s 256)) last_tests ok)

        pub export-unsound : sound (order_of s) s.m (width_of s) cells ≡ false → Exports (3 ∷ []) out
        unfolding refusal unsound
        export-unsound f = refuses 3 (export-tests ∙ rw f)

        module _ (f : sound (order_of s) s.m (width_of s) cells ≡ true) where
          pub export-short : length out < length made → Exports (9 ∷ []) out
          unfolding refusal unsound
          export-short h = refuses 9 (export-tests ∙ rw (f, lt-ltb (length out) (length made) h))

          pub export-stored : length made ≤ length out → Exports (0 ∷ length made ∷ []) (made ++ drop (length made) out)
          unfolding refusal unsound export_reply export_leaves answer leaves
          export-stored h =
              let z : export_refusal x cells out ≡ [] = export-tests ∙ rw (f, le-ltb (length out) (length made) h) in
              (rw z, rw z)
