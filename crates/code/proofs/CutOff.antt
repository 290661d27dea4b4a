-- Document 02, §9: cells that lie wit by wit between a field and what a write makes of it, as a loss of supply leaves them.
use Prim.Native.Nat.{ℕ, zero, suc, ◌+◌, ◌*◌, ◌-◌, ◌≤◌, ◌<◌}
use mathlib.Core.Path.{◌≡◌, refl, sym, ◌∙◌}
use mathlib.Core.Logic.{◌⊎◌, inl, inr, ◌↔◌}
use mathlib.Core.Bool.{Bool, true, false, true≢false}
use mathlib.Core.List.{List, [], ◌∷◌}
use native.Mathlib.Omega.{arith}
use lib.ListN.{length, get_or}
use borrow.Author.Tests.{eq-eqb, ne_eqb, ltb-true, lt-ltb, le-ltb}
use Rattle.code.specs.declared.Shape.{Shape}
use Rattle.code.specs.Shape.{ranges_of, order_of, counts_of, width_of, code_of}
use Rattle.code.specs.Cells.{wit, value, size, sound}
use Rattle.code.specs.Field.{zeros, Reading, blank, reads, miscounted, beyond, has_reading, Writing, refused, wrote}
use Rattle.code.specs.Run.{kept}
use Rattle.code.specs.Calls.{groups_in, refusal, passes, layout_refusal, field_read, field_write, numberless, miscounts, exceeds, over_range, over_place, read_reply, write_refusal, write_leaves, refusal_in}
use Rattle.code.specs.Resume.{exhausted, over_found, resume_refusal}
use Rattle.code.proofs.Tests.{le-or-lt, clash}
use Rattle.code.proofs.Wits.{Bytes}
use Rattle.code.proofs.Cells.{sound-length, sound-past}
use Rattle.code.proofs.Numbers.{value_none}
use Rattle.code.proofs.Run.{accepted}
use Rattle.code.proofs.Bytes.{accepted-is, tried_cells}
use Rattle.code.proofs.LayoutCall.{bounded, is-layout, range-single}
use Rattle.code.proofs.ReadCall.{read_none, read-miscounted, read-beyond, read_found}
use Rattle.code.proofs.WriteCall.{write-in-range, refused-not, leaves-is, late-true}
use Rattle.code.proofs.ResumeCall.{place_in, resume-last, resume-passes, exhausted-not}

-- as many bytes, no wit below what it was and none above what the write makes of it
pub record Between (order : ℕ) (before bs after : List ℕ) : Type 0 where
  pub long : length bs ≡ length after
  pub above : (w : ℕ) → wit order before w ≤ wit order bs w
  pub below : (w : ℕ) → wit order bs w ≤ wit order after w

-- the bits left over stay 0
between-sound : (o m h : ℕ) (before bs after : List ℕ) → Between o before bs after → sound o m h after ≡ true → sound o m h bs ≡ true
unfolding sound
between-sound o m h before bs after B f =
    let past : (i : ℕ) → i < 8 * length bs - m * h → wit o bs (m * h + i) ≡ 0 =
    λ i l. omega (arith, B.below (m * h + i), sound-past o m h after f (m * h + i) (omega arith)) in
    rw (eq-eqb (length bs) (size m h) (B.long ∙ sound-length o m h after f))
    (eq-eqb (value (wit o bs) (m * h) (8 * length bs - m * h)) 0 (value_none (wit o bs) (m * h) (8 * length bs - m * h) past))

module _ (s : Shape) (ok : layout_refusal s 256 ≡ []) where
  -- Sound cells read as a number or are refused with 11, 15 or 16.
  pub sound-reads : (bs : List ℕ) → sound (order_of s) s.m (width_of s) bs ≡ true →
      let k = refusal_in (read_reply s bs) in ((k ≡ 0) ⊎ (k ≡ 11)) ⊎ ((k ≡ 15) ⊎ (k ≡ 16))
  unfolding numberless miscounts exceeds
  sound-reads bs f = go (field_read s bs) refl
    where
      go : (r : Reading) → field_read s bs ≡ r → let k = refusal_in (read_reply s bs) in ((k ≡ 0) ⊎ (k ≡ 11)) ⊎ ((k ≡ 15) ⊎ (k ≡ 16))
      go blank q = numbered (numberless s blank) refl
        where
          numbered : (b : Bool) → numberless s blank ≡ b → let k = refusal_in (read_reply s bs) in ((k ≡ 0) ⊎ (k ≡ 11)) ⊎ ((k ≡ 15) ⊎ (k ≡ 16))
          numbered true n = inl (inr (rw (read_none s bs ok f (rw q n))))
          numbered false n = inl (inl (rw (read_found s bs ok f blank q n refl refl)))
      go (reads i x) q = inl (inl (rw (read_found s bs ok f (reads i x) q refl refl refl)))
      go (miscounted i u) q = inr (inl (rw (read-miscounted s bs ok f i u q)))
      go (beyond i) q = inr (inr (rw (read-beyond s bs ok f i q)))

  -- what an accepted write leaves is sound
  pub written-sound : (x : ℕ) (bs : List ℕ) → Bytes bs → write_refusal s x bs ≡ [] → sound (order_of s) s.m (width_of s) (write_leaves s x bs) ≡ true
  unfolding tried_cells field_write kept accepted passes width_of
  written-sound x bs B z = rw (leaves-is s ok x bs) (go (field_write s x bs) refl)
    where
      go : (w : Writing) → field_write s x bs ≡ w → sound (order_of s) s.m (width_of s) (kept bs w) ≡ true
      go refused q = absurd (true≢false (rw (z, q) at (refused-not s ok x bs)))
      go (wrote i bs') q = (accepted-is (code_of s) (is-layout s ok) (omega (arith, (bounded s ok).m-low)) x bs i bs' B q).right

  -- A write that was cut off, at any wits.
  module _ (x : ℕ) (before : List ℕ) (B : Bytes before) (z : write_refusal s x before ≡ []) (bs : List ℕ) (cut : Between (order_of s) before bs (write_leaves s x before)) where
    whole : sound (order_of s) s.m (width_of s) bs ≡ true
    whole = between-sound (order_of s) s.m (width_of s) before bs (write_leaves s x before) cut (written-sound x before B z)

    -- It reads as some number or is refused with 11, 15 or 16, never with 3.
    pub cut-reads : let k = refusal_in (read_reply s bs) in ((k ≡ 0) ⊎ (k ≡ 11)) ⊎ ((k ≡ 15) ⊎ (k ≡ 16))
    cut-reads = sound-reads bs whole

    -- Where it has no reading, resume answers 5 exactly when fewer than h_t zero groups are left.
    module _ (u : has_reading (field_read s bs) ≡ false) where
      abbrev enough : Type 0
      enough = get_or (counts_of s) (s.t - 1) 0 ≤ zeros (groups_in (code_of s) bs)

      in-range : over_range s x ≡ false
      in-range = write-in-range s x before ok z

      not-exhausted : enough → exhausted s bs ≡ false
      unfolding exhausted
      not-exhausted e = le-ltb (zeros (groups_in (code_of s) bs)) (get_or (counts_of s) (s.t - 1) 0) e

      -- else it accepts the number, if that is in the range of the generation found
      pub cut-accepted : enough → x < get_or (ranges_of s) (place_in s bs) 0 → resume_refusal s x bs ≡ []
      cut-accepted e g = resume-passes s x bs ok whole in-range u (not-exhausted e) g

      -- which it is where all generations have one range
      pub cut-resumed : (s.form ≡ 2 → ⊥) → enough → resume_refusal s x bs ≡ []
      unfolding over_range
      cut-resumed one e =
          let low = exhausted-not s ok bs (not-exhausted e) in
          elim (le-or-lt (get_or (ranges_of s) (place_in s bs) 0) x) [
            | inl g ↦ absurd (true≢false (sym (late-true s ok x (place_in s bs) low g in-range) ∙ rw (ne_eqb s.form 2 one)))
            | inr g ↦ cut-accepted e g
          ]

      -- and else, in form 2 alone, the number is refused for that range
      pub cut-beyond : enough → get_or (ranges_of s) (place_in s bs) 0 ≤ x → resume_refusal s x bs ≡ 6 ∷ []
      unfolding refusal over_found
      cut-beyond e g =
          let low = exhausted-not s ok bs (not-exhausted e) in
          resume-last s x bs ok whole in-range u ∙ rw (not-exhausted e, late-true s ok x (place_in s bs) low g in-range)

      pub cut-spent : (resume_refusal s x bs ≡ 5 ∷ []) ↔ (zeros (groups_in (code_of s) bs) < get_or (counts_of s) (s.t - 1) 0)
      unfolding refusal exhausted
      cut-spent = (
        λ five. elim (le-or-lt (get_or (counts_of s) (s.t - 1) 0) (zeros (groups_in (code_of s) bs))) [ inl e ↦ absurd (not_five e five) | inr l ↦ l ],
        λ l. resume-last s x bs ok whole in-range u ∙ rw (lt-ltb (zeros (groups_in (code_of s) bs)) (get_or (counts_of s) (s.t - 1) 0) l),
      )
        where
          not_five : enough → resume_refusal s x bs ≡ 5 ∷ [] → ⊥
          not_five e five = elim (le-or-lt (get_or (ranges_of s) (place_in s bs) 0) x) [
            | inl g ↦ let q = sym (cut-beyond e g) ∙ five in let k : ◌≡◌ {A = ℕ} 6 5 = cc in omega arith
            | inr g ↦ clash (cc (cut-accepted e g))
          ]
