-- The read call, test by test, as a program comes to them.
use Prim.Native.Nat.{ℕ, ◌<◌}
use mathlib.Core.Path.{◌≡◌, refl, ◌∙◌}
use mathlib.Core.Bool.{Bool, true, false}
use mathlib.Core.List.{List, [], ◌∷◌}
use native.Mathlib.Omega.{arith}
use Rattle.code.specs.declared.Shape.{Shape}
use Rattle.code.specs.Shape.{first_of, order_of, outside, misfit, granted, counts_of, width_of}
use Rattle.code.specs.Cells.{sound}
use Rattle.code.specs.Field.{Reading, blank, reads, miscounted, beyond}
use Rattle.code.specs.Calls.{refusal, answer, layout_refusal, field_read, unsound, numberless, miscounts, exceeds, count_told, generation, holds, left, read_refusal, read_reply}
use Rattle.code.proofs.Tests.{clash}
use Rattle.code.proofs.Field.{Tells}
use Rattle.code.proofs.LayoutCall.{first-old, refusal-some, refused-early, passed-early}

module _ (s : Shape) (bs : List ℕ) where
  answered-refusal : (k : ℕ) (carried : List ℕ) → read_refusal s bs ≡ k ∷ carried → read_reply s bs ≡ k ∷ carried
  unfolding read_reply answer
  answered-refusal k carried q = rw q

  pub read-no-layout : (k : ℕ) → layout_refusal s 256 ≡ k ∷ [] → read_reply s bs ≡ k ∷ []
  unfolding layout_refusal read_refusal counts_of
  read-no-layout k q = answered-refusal k [] (refused-early (outside s 256) (misfit 256 (granted s 256)) k [] _ q)

  module _ (ok : layout_refusal s 256 ≡ []) where
    pub read-tests : let r = field_read s bs in read_refusal s bs ≡
        refusal ((3 ∷ [], unsound s bs) ∷ (11 ∷ [], numberless s r) ∷ (15 ∷ generation r ∷ count_told r ∷ [], miscounts r) ∷ (16 ∷ generation r ∷ [], exceeds r) ∷ [])
    unfolding read_refusal layout_refusal counts_of
    read-tests = passed-early (outside s 256) (misfit 256 (granted s 256)) _ ok

    pub read-unsound : sound (order_of s) s.m (width_of s) bs ≡ false → read_reply s bs ≡ 3 ∷ []
    unfolding refusal unsound
    read-unsound f = answered-refusal 3 [] (read-tests ∙ rw f)

    module _ (f : sound (order_of s) s.m (width_of s) bs ≡ true) where
      pub read_none : numberless s (field_read s bs) ≡ true → read_reply s bs ≡ 11 ∷ []
      unfolding refusal unsound
      read_none n = answered-refusal 11 [] (read-tests ∙ rw (f, n))

      pub read-miscounted : (i u : ℕ) → field_read s bs ≡ miscounted i u → read_reply s bs ≡ 15 ∷ i ∷ u ∷ []
      unfolding refusal unsound numberless miscounts generation count_told
      read-miscounted i u q = answered-refusal 15 (i ∷ u ∷ []) (read-tests ∙ rw (f, q))

      pub read-beyond : (i : ℕ) → field_read s bs ≡ beyond i → read_reply s bs ≡ 16 ∷ i ∷ []
      unfolding refusal unsound numberless miscounts exceeds generation
      read-beyond i q = answered-refusal 16 (i ∷ []) (read-tests ∙ rw (f, q))

      pub read_found : (r : Reading) → field_read s bs ≡ r → numberless s r ≡ false → miscounts r ≡ false → exceeds r ≡ false →
          read_reply s bs ≡ 0 ∷ generation r ∷ holds r ∷ left s.t r ∷ []
      unfolding refusal unsound read_reply answer
      read_found r q n c e = rw (q, read-tests, f, q, n, c, e)

      -- the reply of cells that tell a generation and a number
      pub read_as_lem : (i x : ℕ) → Tells (first_of s) (field_read s bs) i x → read_reply s bs ≡ 0 ∷ i ∷ x ∷ left s.t (field_read s bs) ∷ []
      unfolding generation holds left miscounts exceeds numberless
      read_as_lem i x t = go (field_read s bs) t (read_found (field_read s bs) refl)
        where
          go : (r : Reading) → Tells (first_of s) r i x → (numberless s r ≡ false → miscounts r ≡ false → exceeds r ≡ false →
              read_reply s bs ≡ 0 ∷ generation r ∷ holds r ∷ left s.t r ∷ []) →
              read_reply s bs ≡ 0 ∷ i ∷ x ∷ left s.t r ∷ []
          go blank t q = rw (t.1, t.2) (q (rw (first-old s t.0)) refl refl)
          go (reads j y) t q = rw (t.0, t.1) (q refl refl refl)
          go (miscounted j u) t q = absurd t
          go (beyond j) t q = absurd t

-- what refusal 11 tells
pub eleven-told : (s : Shape) (bs : List ℕ) → layout_refusal s 256 ≡ [] → read_reply s bs ≡ 11 ∷ [] →
    (s.form ≡ 0 → ⊥) × (sound (order_of s) s.m (width_of s) bs ≡ true) × (field_read s bs ≡ blank)
unfolding numberless miscounts exceeds
eleven-told s bs ok e = go (sound (order_of s) s.m (width_of s) bs) refl (field_read s bs) refl
  where
    go : (a : Bool) → sound (order_of s) s.m (width_of s) bs ≡ a → (r : Reading) → field_read s bs ≡ r →
        (s.form ≡ 0 → ⊥) × (sound (order_of s) s.m (width_of s) bs ≡ true) × (field_read s bs ≡ blank)
    go false q r f = clash (cc (read-unsound s bs ok q))
    go true q blank f = (λ z. clash (cc (read_found s bs ok q blank f (rw z) refl refl)), q, f)
    go true q (reads i x) f = clash (cc (read_found s bs ok q (reads i x) f refl refl refl))
    go true q (miscounted i u) f = clash (cc (read-miscounted s bs ok q i u f))
    go true q (beyond i) f = clash (cc (read-beyond s bs ok q i f))

-- a reply that begins with 0 and three values is no refusal, and tells what is read
pub read_made : (s : Shape) (bs : List ℕ) (i n l : ℕ) → 0 ∷ i ∷ n ∷ l ∷ [] ≡ read_reply s bs →
    (read_refusal s bs ≡ []) × (n ≡ holds (field_read s bs)) × (l ≡ left s.t (field_read s bs))
unfolding read_reply answer read_refusal
read_made s bs i n l e = go (read_refusal s bs) refl e
  where
    go : (r : List ℕ) → read_refusal s bs ≡ r →
        0 ∷ i ∷ n ∷ l ∷ [] ≡ answer r (generation (field_read s bs) ∷ holds (field_read s bs) ∷ left s.t (field_read s bs) ∷ []) →
        (r ≡ []) × (n ≡ holds (field_read s bs)) × (l ≡ left s.t (field_read s bs))
    go [] q e = (refl, cc, cc)
    go (k ∷ carried) q e =
        let z : 0 ≡ k = cc in
        absurd (omega (arith, refusal-some _ (omega arith, (omega arith, (omega arith, (omega arith, (omega arith, (omega arith, tt)))))) k carried q))

-- a reply of one number is a refusal
pub read-refusing : (s : Shape) (bs : List ℕ) (k : ℕ) → read_reply s bs ≡ k ∷ [] → 0 < k
unfolding read_reply read_refusal answer
read-refusing s bs k e = go (read_refusal s bs) refl e
  where
    go : (r : List ℕ) → read_refusal s bs ≡ r →
        answer r (generation (field_read s bs) ∷ holds (field_read s bs) ∷ left s.t (field_read s bs) ∷ []) ≡ k ∷ [] → 0 < k
    go [] q e = clash (cc)
    go (j ∷ carried) q e = let z : k ≡ j = cc in rw z (refusal-some _ (omega arith, (omega arith, (omega arith, (omega arith, (omega arith, (omega arith, tt)))))) j carried q)
