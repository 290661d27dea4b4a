-- The answer of a read of two fields, from what its calls have found.
use Prim.Native.Nat.{ℕ, ◌^◌, ◌≤◌, ◌<◌}
use mathlib.Core.Path.{◌≡◌, sym, ◌∙◌}
use mathlib.Core.Logic.{◌≢◌}
use mathlib.Core.Bool.{true, false}
use mathlib.Core.List.{List, [], ◌∷◌}
use native.Mathlib.Omega.{arith}
use lib.ListN.{drop, replicate}
use borrow.Author.Tests.{eq-eqb, ne_eqb}
use Rattle.code.specs.declared.Shape.{Shape}
use Rattle.code.specs.declared.Pair.{Pair}
use Rattle.code.specs.Calls.{answer, filled, layout_fields, layout_reply, field_read, generation, holds, left, read_refusal, read_reply}
use Rattle.code.specs.Pair.{first_shape, unequal, pair_holds, pair_read_reply}
use Rattle.code.proofs.LayoutCall.{bounded}
use Rattle.code.proofs.ReadCall.{read_made}
use Rattle.code.proofs.PairCall.{read-seen, pair-read-unequal, pair-read-first, pair-read-second, left_is, held_below, not_listed}
use Rattle.shapes.specs.declared.Outline.{Outline}
use Rattle.shapes.specs.Outlines.{outlined}
use Rattle.std.specs.Prelude.{Result, Ok, Err}
use Rattle.code.specs.declared.Refusal.{Refusal}
use Rattle.code.specs.Refusals.{refusal_reply, number_of}
use Rattle.code.proofs.Refused.{reply-split, refused-not}
use Rattle.reading.proofs.Looking.{reads-refused}
use Rattle.layout.specs.declared.Ungranted.{Ungranted}
use Rattle.layout.specs.Plan.{ungranted_as, number_or_0}
use Rattle.pairing.specs.Answers.{Laid, second_told}
use Rattle.pairing.proofs.Sights.{laid_so}

pub is-unequal : (p : Pair) → p.v1 ≢ p.v2 → unequal p ≡ true
unfolding unequal
is-unequal p d = rw (ne_eqb p.v1 p.v2 d)

pub is-equal : (p : Pair) → p.v1 ≡ p.v2 → unequal p ≡ false
unfolding unequal
is-equal p e = rw (eq-eqb p.v1 p.v2 e)

-- what a reply of a read tells of its refusal
module _ (s : Shape) (bs : List ℕ) where
  read-refused : (k : Refusal) → refusal_reply k ≡ read_reply s bs → read_refusal s bs ≡ refusal_reply k
  unfolding read_reply answer
  read-refused k e = go (read_refusal s bs) e
    where
      go : (r : List ℕ) → refusal_reply k ≡ answer r (generation (field_read s bs) ∷ holds (field_read s bs) ∷ left s.t (field_read s bs) ∷ []) → r ≡ refusal_reply k
      go [] e = absurd (refused-not k e)
      go (j ∷ carried) e = sym e

  -- a reading that is made was granted its layout
  read-laid : (k : Result Unit Ungranted) {h : List ℕ} → number_or_0 k ∷ h ≡ filled layout_fields (layout_reply s 256) → {i n l : ℕ} →
      0 ∷ i ∷ n ∷ l ∷ [] ≡ read_reply s bs → 0 ∷ h ≡ filled layout_fields (layout_reply s 256)
  read-laid (Ok granted) laid e = laid
  read-laid (Err k) laid e = absurd (refused-not (ungranted_as k) (reads-refused s bs (ungranted_as k) laid ∙ sym e))

module _ (p : Pair) (first second : List ℕ) where
  pub pair-18 : p.v1 ≢ p.v2 → 18 ∷ [] ≡ pair_read_reply p first second
  pair-18 d = sym (pair-read-unequal p first second (is-unequal p d))

  module _ (same : p.v1 ≡ p.v2) (f : Outline) (shaped : outlined f (p.v1 ∷ replicate 15 0) ≡ first_shape p) where
    pub pair-first : (k : Refusal) → refusal_reply k ≡ read_reply (outlined f (p.v1 ∷ replicate 15 0)) first → refusal_reply k ≡ pair_read_reply p first second
    pair-first k e =
        let q = read-refused (first_shape p) first k (rw shaped at e) in
        reply-split k ∙ sym (pair-read-first p first second (is-equal p same) (number_of k) (drop 1 (refusal_reply k)) (q ∙ reply-split k))

    module _ {i n l : ℕ} (e : 0 ∷ i ∷ n ∷ l ∷ [] ≡ read_reply (outlined f (p.v1 ∷ replicate 15 0)) first) where
      made : (read_refusal (first_shape p) first ≡ []) × (n ≡ holds (field_read (first_shape p) first)) × (l ≡ left p.t1 (field_read (first_shape p) first))
      made = read_made (first_shape p) first i n l (rw shaped at e)

      pub pair-second : {reply : List ℕ} → reply ≡ second_told p n l second → reply ≡ pair_read_reply p first second
      unfolding pair_read_reply pair_holds
      pair-second q = q ∙ rw (made.1, made.2, pair-read-second p first second (is-equal p same) made.0)

      pub first-laid : (k : Result Unit Ungranted) {h : List ℕ} → number_or_0 k ∷ h ≡ filled layout_fields (layout_reply (outlined f (p.v1 ∷ replicate 15 0)) 256) →
          Laid p (p.v1 ∷ replicate 15 0) h
      first-laid k laid = laid_so p f same shaped (read-laid _ first k laid e)

      -- the first field's number and writes left are small
      pub first_small : (n < p.v1) × (p.v1 ≤ 2 ^ 56) × (l ≤ 16)
      first_small =
          let S = read-seen (first_shape p) false first made.0 in
          let b = bounded (first_shape p) S.ok in
          let one = not_listed p.form p.m p.t1 p.v1 S.ok in
          (omega (arith, made.1, held_below S one), b.v_high 0 (omega arith), omega (arith, made.2, left_is S, b.t-high))
