-- The promises of exports leave no choice: two answers that one of them allows are equal, and so is the output afterwards.
use Prim.Native.Nat.{ℕ}
use mathlib.Core.Path.{◌≡◌}
use mathlib.Core.List.{List}
use Rattle.code.specs.declared.Shape.{Shape}
use Rattle.code.specs.Export.{old_export, new_export, export_reply, export_leaves}
use Rattle.code.specs.NewDump.{layout_export_reply, layout_export_leaves}
use Rattle.storing.specs.Answers.{made_of}
use Rattle.std.proofs.Common.{Result}
use Rattle.code.specs.declared.Refusal.{Refusal}
use Rattle.storing.proofs.Unique.{made_alike}

pub unique-export : (serial m t v : ℕ) (cells out after after' : List ℕ) (r r' : Result ℕ Refusal) →
    made_of r ≡ export_reply (old_export serial m t v) cells out → after ≡ export_leaves (old_export serial m t v) cells out →
    made_of r' ≡ export_reply (old_export serial m t v) cells out → after' ≡ export_leaves (old_export serial m t v) cells out → (r ≡ r') × (after ≡ after')
unique-export serial m t v cells out = made_alike (export_reply (old_export serial m t v) cells out) (export_leaves (old_export serial m t v) cells out)

pub unique-export-record : (serial number : ℕ) (shape : Shape) (cells out after after' : List ℕ) (r r' : Result ℕ Refusal) →
    made_of r ≡ export_reply (new_export serial number shape) cells out → after ≡ export_leaves (new_export serial number shape) cells out →
    made_of r' ≡ export_reply (new_export serial number shape) cells out → after' ≡ export_leaves (new_export serial number shape) cells out →
    (r ≡ r') × (after ≡ after')
unique-export-record serial number shape cells out =
    made_alike (export_reply (new_export serial number shape) cells out) (export_leaves (new_export serial number shape) cells out)

pub unique-layout-export : (shape : Shape) (out after after' : List ℕ) (r r' : Result ℕ Refusal) →
    made_of r ≡ layout_export_reply shape out → after ≡ layout_export_leaves shape out →
    made_of r' ≡ layout_export_reply shape out → after' ≡ layout_export_leaves shape out → (r ≡ r') × (after ≡ after')
unique-layout-export shape out = made_alike (layout_export_reply shape out) (layout_export_leaves shape out)
