-- The tests before any write, as the program comes to them.
use Prim.Native.Nat.{ℕ, ◌*◌, ◌≤◌, ◌<◌}
use mathlib.Core.Path.{◌≡◌, ◌∙◌}
use mathlib.Core.Logic.{◌≢◌}
use mathlib.Core.Bool.{Bool, not}
use mathlib.Core.List.{List, [], ◌∷◌}
use lib.Dec.{eqb}
use lib.ListN.{length, take, drop, replicate}
use borrow.Author.Tests.{lt-ltb, le-ltb, eq-eqb, ne_eqb}
use Rattle.code.specs.declared.Shape.{Shape}
use Rattle.code.specs.Shape.{outside, misfit, granted, counts_of}
use Rattle.code.specs.Calls.{refusal, passes, leaves, filled, layout_refusal}
use Rattle.code.specs.Many.{numbers_most, field_bytes, many_replies, many_cells, many_refusal, many_numbers, many_told, many_reply, many_leaves}
use Rattle.code.proofs.LayoutCall.{refused-early, passed-early}

-- what the call answers, and the cells that it leaves
abbrev pub Answers : Shape → List ℕ → List ℕ → List (List ℕ) → List ℕ → Type 0
Answers s xs bytes reply after = (reply ≡ many_reply s xs bytes) × (after ≡ many_leaves s xs bytes)

module _ (s : Shape) (xs bytes : List ℕ) where
  -- the numbers of a refusal before any write, and two rows of zeros
  abbrev pub Barred : ℕ → Type 0
  Barred k = (end rows : List ℕ) → end ≡ k ∷ 0 ∷ 0 ∷ 0 ∷ 0 ∷ 0 ∷ [] → rows ≡ replicate 128 0 → Answers s xs bytes (end ∷ take 64 rows ∷ drop 64 rows ∷ []) bytes

  refuses : (k : ℕ) → many_refusal s xs bytes ≡ k ∷ [] → Barred k
  unfolding many_reply many_leaves many_numbers filled passes leaves
  refuses k q end rows e zeros = (rw (q, e, zeros), rw q)

  pub too_many : numbers_most < length xs → Barred 14
  unfolding many_refusal refusal
  too_many h = refuses 14 (rw (lt-ltb numbers_most (length xs) h))

  -- the last test
  abbrev lengths : List (List ℕ × Bool)
  lengths = (3 ∷ [], not (eqb (length bytes) (length xs * field_bytes s))) ∷ []

  module _ (few : length xs ≤ numbers_most) where
    pub no-layout : (k : ℕ) → layout_refusal s 256 ≡ k ∷ [] → Barred k
    unfolding many_refusal refusal layout_refusal counts_of
    no-layout k q = refuses k (rw (le-ltb numbers_most (length xs) few) (refused-early (outside s 256) (misfit 256 (granted s 256)) k [] lengths q))

    module _ (ok : layout_refusal s 256 ≡ []) where
      length-test : many_refusal s xs bytes ≡ refusal lengths
      unfolding many_refusal refusal layout_refusal counts_of
      length-test = rw (le-ltb numbers_most (length xs) few) (passed-early (outside s 256) (misfit 256 (granted s 256)) lengths ok)

      pub other_length : length bytes ≢ length xs * field_bytes s → Barred 3
      unfolding refusal
      other_length d = refuses 3 (length-test ∙ rw (ne_eqb _ _ d))

      pub written-in-order : {reply : List (List ℕ)} {after : List ℕ} → length bytes ≡ length xs * field_bytes s →
          (reply ≡ many_told (many_replies s xs bytes)) × (after ≡ many_cells s xs bytes) → Answers s xs bytes reply after
      unfolding refusal many_reply many_leaves passes leaves
      written-in-order e made =
          let none : many_refusal s xs bytes ≡ [] = length-test ∙ rw (eq-eqb _ _ e) in
          (made.0 ∙ rw none, made.1 ∙ rw none)
