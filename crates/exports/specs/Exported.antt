-- Document 01, "Refusal numbers, tested in this order" (RULES 12): what an export comes to behind its first tests.
use Rattle.std.specs.Prelude.{ℕ, ◌^◌, ◌<◌, ◌≡◌, false, List}
use Rattle.code.specs.declared.Shape.{Shape}
use Rattle.code.specs.Export.{Exporting, export_reply, export_leaves}

-- the reply and the output afterwards, whichever export it is that its serial and its layout's number do not refuse
abbrev pub Exported : Shape → List ℕ → List ℕ → List ℕ → List ℕ → List ℕ → Type 0
Exported s head cells out reply after =
    (x : Exporting) → x.shape ≡ s → x.head ≡ head → x.serial < 2 ^ 63 → x.off_list ≡ false →
    (reply ≡ export_reply x cells out) × (after ≡ export_leaves x cells out)
