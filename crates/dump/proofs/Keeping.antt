-- The layout that a walk keeps, and what a record tells of its own.
use Prim.Native.Nat.{ℕ, ◌^◌, ◌<◌}
use mathlib.Core.Path.{◌≡◌, refl, ap, ◌∙◌}
use mathlib.Core.List.{List, [], ◌∷◌, ◌++◌}
use native.Mathlib.Omega.{arith}
use lib.ListN.{get_or, take, drop, replicate, get_or-eq_default}
use Rattle.shapes.specs.declared.Outline.{Outline}
use Rattle.code.specs.declared.Shape.{Shape}
use Rattle.code.specs.Shape.{shaped, outside}
use Rattle.shapes.specs.Outlines.{outlined}
use Rattle.code.specs.Calls.{filled, layout_fields, layout_reply, read_reply}
use Rattle.code.specs.LayoutList.{unlisted, listed_shape}
use Rattle.code.specs.Dump.{Source, own_layouts, listed_layouts, listed_many, taken, cells_of, record_numbers, outcome, step_values}
use Rattle.code.proofs.LayoutCall.{reply-outside}
use Rattle.records.specs.declared.Head.{Head}
use Rattle.records.specs.Head.{said_shape, head_record}
use Rattle.dump.specs.Kept.{none_said}

-- the shape of zeros is refused with the number 1
pub zeros-refused : 1 ∷ replicate 16 0 ≡ filled layout_fields (layout_reply (shaped 0 0 0) 256)
unfolding outside
zeros-refused = reply-outside (shaped 0 0 0) 256 refl

-- it is what a number says that no list has
pub none_said_lem : (source : Source) → listed_many source < 2 ^ 64 → shaped 0 0 0 ≡ said_shape source none_said
unfolding said_shape listed_shape filled
none_said_lem own_layouts h = refl
none_said_lem (listed_layouts ls) h = rw (get_or-eq_default ls unlisted {n = 0xFFFFFFFFFFFFFFFF} (omega arith))

-- the reply of a step that gives a record, by its layout as it is said and its reading
pub record-told : (bytes : List ℕ) (source : Source) (head : Head) {f : Outline} {v : List ℕ} {reading cells : List ℕ} →
    outlined f v ≡ said_shape source head.said → reading ≡ read_reply (outlined f v) cells → cells ≡ take head.count (drop head.start bytes) →
    0 ∷ head.serial ∷ head.said.layout ∷ f.form ∷ f.m ∷ f.t ∷ get_or v 0 0 ∷ head.start ∷ head.count ∷ reading
    ≡ step_values bytes (taken (head_record source head))
unfolding step_values record_numbers outcome cells_of
record-told bytes source head {f} {v} {reading} {cells} e q part =
    let said = said_shape source head.said in
    let numbers : Shape → List ℕ = λ s.
    head.serial ∷ head.said.layout ∷ s.form ∷ s.m ∷ s.t ∷ get_or s.v 0 0 ∷ head.start ∷ head.count ∷ [] in
    ap (λ l. 0 ∷ (numbers (outlined f v) ++ l)) q
    ∙ ap (λ (s : Shape). 0 ∷ (numbers s ++ read_reply s cells)) e ∙ ap (λ l. 0 ∷ (numbers said ++ read_reply said l)) part
