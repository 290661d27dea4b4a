-- What refusals 11, 15 and 16 tell, of the call: over all answers that its promise allows.
use mathlib.Core.Path.{◌≡◌, sym, ap, ◌∙◌}
use mathlib.Core.Logic.{◌⊎◌, ◌↔◌}
use mathlib.Core.List.{List, []}
use Prim.Native.Nat.{ℕ, ◌-◌, ◌≤◌, ◌<◌}
use lib.ListN.{get_or}
use Rattle.std.proofs.Common.{Result, Ok, Err}
use Rattle.code.specs.declared.Shape.{Shape}
use Rattle.code.specs.Shape.{ranges_of, counts_of}
use mathlib.Core.Bool.{false}
use Rattle.code.specs.Field.{has_reading}
use Rattle.code.specs.Calls.{layout_refusal, field_read, read_reply, refusal_in}
use Rattle.code.proofs.Wits.{Bytes}
use Rattle.code.proofs.Demand as Code
use Rattle.code.proofs.Unread as Unread
use Rattle.code.proofs.Unread.{AllZero, place, pointed, unerased_many, number_at, RightCount, InRange, HasReading}
use Rattle.reading.specs.declared.Reading.{Reading}
use Rattle.code.specs.declared.Refusal.{Refusal}
use Rattle.code.specs.declared.Refusal.TheVariants.{Blank, Miscounted, Beyond}
use Rattle.reading.specs.Answers.{reading_of, SoundCells}
use Rattle.reading.proofs.Unique.{same-reading}

-- a reading by its numbers
abbrev pub told : ℕ → ℕ → ℕ → Reading
told i x l = record { generation = i; number = x; left = l }

module _ (s : Shape) (ok : layout_refusal s 256 ≡ []) where
  -- 02, §2: refusal 11 is the answer to blank cells of a new drive, and to no other cells that pass 1 to 3.
  pub blank-refused : (a : Result Reading Refusal) → 0 < s.form → reading_of a ≡ read_reply s (Code.blank_cells s) → a ≡ Err Blank
  blank-refused a new p = same-reading a (Err Blank) (p ∙ Code.blank-refused s ok new)

  pub refused-blank : (bs : List ℕ) → Bytes bs → reading_of (Err Blank) ≡ read_reply s bs → (0 < s.form) × (bs ≡ Code.blank_cells s)
  refused-blank bs B p = Code.refused-blank s ok bs B (sym p)

  -- 02, §6: what 15 and 16 carry is fixed by the cells; generation 1 never gives 15.
  pub fifteen-cells : (bs : List ℕ) (i u : ℕ) → reading_of (Err (Miscounted i u)) ≡ read_reply s bs →
      (AllZero s bs → ⊥) × (i ≡ pointed s bs) × (1 < i) × (u ≡ unerased_many s bs) × (u ≡ get_or (counts_of s) (place s bs) 0 → ⊥)
  fifteen-cells bs i u p = Unread.miscounted-cells s bs i u (Unread.fifteen-told s bs ok i u (sym p)).1

  pub sixteen-cells : (bs : List ℕ) (i : ℕ) → reading_of (Err (Beyond i)) ≡ read_reply s bs →
      (AllZero s bs → ⊥) × (i ≡ pointed s bs) × RightCount s bs × (get_or (ranges_of s) (place s bs) 0 ≤ number_at s bs (place s bs))
  sixteen-cells bs i p = Unread.beyond-cells s bs i (Unread.sixteen-told s bs ok i (sym p)).1

  -- The answer to sound cells, which refusal 3 is not for, by document 01's sentences.
  module _ (bs : List ℕ) (q : SoundCells s bs) (a : Result Reading Refusal) (p : reading_of a ≡ read_reply s bs) where
    -- 15 comes exactly where, from generation 2 on, the unerased groups are not as many as the generation has
    pub fifteen-exactly : (i u : ℕ) → (a ≡ Err (Miscounted i u)) ↔
        ((AllZero s bs → ⊥) × (i ≡ pointed s bs) × (1 < i) × (u ≡ unerased_many s bs) × (u ≡ get_or (counts_of s) (place s bs) 0 → ⊥))
    fifteen-exactly i u =
        let e = Unread.fifteen-exactly s bs ok q i u in
        (λ z. e.0 (sym p ∙ ap reading_of z), λ h. same-reading a (Err (Miscounted i u)) (p ∙ e.1 h))

    -- 16 exactly where they are, and the number is not below the range
    pub sixteen-exactly : (i : ℕ) → (a ≡ Err (Beyond i)) ↔
        ((AllZero s bs → ⊥) × (i ≡ pointed s bs) × RightCount s bs × (get_or (ranges_of s) (place s bs) 0 ≤ number_at s bs (place s bs)))
    sixteen-exactly i =
        let e = Unread.sixteen-exactly s bs ok q i in
        (λ z. e.0 (sym p ∙ ap reading_of z), λ h. same-reading a (Err (Beyond i)) (p ∙ e.1 h))

    -- a generation and a number exactly where the number is below it
    pub read-exactly : (AllZero s bs → ⊥) → (i x : ℕ) → (a ≡ Ok (told i x (s.t - i))) ↔
        ((i ≡ pointed s bs) × (x ≡ number_at s bs (place s bs)) × RightCount s bs × InRange s bs)
    read-exactly n i x =
        let e = Unread.read-exactly s bs ok q n i x in
        (λ z. e.0 (sym p ∙ ap reading_of z), λ h. same-reading a (Ok (told i x (s.t - i))) (p ∙ e.1 h))

    -- all-zero cells in form 0
    pub blank-told : AllZero s bs → s.form ≡ 0 → a ≡ Ok (told 1 0 s.t)
    blank-told z old = same-reading a (Ok (told 1 0 s.t)) (p ∙ Unread.blank-told s bs ok q z ∙ rw old)

    -- 15 or 16 exactly where there is no reading
    pub unread-exactly : ((refusal_in (reading_of a) ≡ 15) ⊎ (refusal_in (reading_of a) ≡ 16)) ↔ (HasReading s bs → ⊥)
    unread-exactly = rw p (Unread.unread-exactly s bs ok q)

    -- which the definition that refusal 17 of a resumed write goes by says too (02, §9)
    pub unread-told : ((refusal_in (reading_of a) ≡ 15) ⊎ (refusal_in (reading_of a) ≡ 16)) ↔ (has_reading (field_read s bs) ≡ false)
    unread-told = rw p (Unread.unread-told s bs ok q)
