-- What an answer to a write tells: whether it was accepted, what it turned, and that a write that was made passed every test.
use Rattle.std.proofs.Common.{Result, Ok, Err, is_ok}
use Prim.Native.Nat.{ℕ, ◌<◌}
use mathlib.Core.Path.{◌≡◌, refl, ap, ◌∙◌}
use mathlib.Core.Bool.{true, true≢false}
use mathlib.Core.List.{List, [], ◌∷◌}
use native.Mathlib.Omega.{arith}
use lib.ListN.{length, get_or}
use borrow.Author.Tests.{ne_eqb}
use Rattle.code.specs.declared.Shape.{Shape}
use Rattle.code.specs.declared.Refusal.{Refusal}
use Rattle.code.specs.Calls.{answer, passes, layout_refusal, write_refusal, write_reply, turned_by}
use Rattle.code.proofs.LayoutCall.{layout-which}
use Rattle.code.proofs.WriteCall.{write-some, write-no-layout}
use Rattle.code.proofs.Refused.{refused-some}
use Rattle.writing.specs.declared.Written.{Written}
use Rattle.writing.specs.Answers.{writing_of}

-- a write by its numbers
abbrev pub wrote : ℕ → ℕ → Result Written Refusal
wrote i n = Ok (record { generation = i; turned = n })

-- a refused write turns no cell
abbrev pub turns : Result Written Refusal → ℕ
turns (Ok a) = a.turned
turns (Err k) = 0

-- what an answer tells of the refusal behind it
answered : (k : List ℕ) (i n : ℕ) (r : Result Written Refusal) → ((j : ℕ) (carried : List ℕ) → k ≡ j ∷ carried → 0 < j) → writing_of r ≡ answer k (i ∷ n ∷ []) →
    (is_ok r ≡ passes k) × (turns r ≡ turned_by (answer k (i ∷ n ∷ [])))
unfolding answer passes turned_by
answered [] i n (Ok a) some q = (refl, cc)
answered [] i n (Err k) some q = absurd (omega (arith, refused-some k, ap (λ r. get_or r 0 0) q))
answered (j ∷ carried) i n (Ok a) some q = let z : j ≡ 0 = cc in absurd (omega (arith, some j carried refl))
answered (j ∷ carried) i n (Err k) some q = (refl, rw (ne_eqb j 0 (λ z. omega (arith, some j carried refl))))

module _ (s : Shape) (x : ℕ) (bs : List ℕ) (r : Result Written Refusal) (q : writing_of r ≡ write_reply s x bs) where
  pub accepts-is : is_ok r ≡ passes (write_refusal s x bs)
  unfolding write_reply
  accepts-is = (answered (write_refusal s x bs) _ _ r (write-some s x bs) q).0

  pub turns-is : turns r ≡ turned_by (write_reply s x bs)
  unfolding write_reply
  turns-is = (answered (write_refusal s x bs) _ _ r (write-some s x bs) q).1

-- a write that is made was granted its layout, and passed every test
module _ (s : Shape) (x i n : ℕ) (bs : List ℕ) (q : 0 ∷ i ∷ n ∷ [] ≡ write_reply s x bs) where
  pub granted-first : layout_refusal s 256 ≡ []
  granted-first = go (layout_refusal s 256) refl
    where
      go : (k : List ℕ) → layout_refusal s 256 ≡ k → k ≡ []
      go [] z = refl
      go (k ∷ carried) z = absurd (omega (arith, ap length (q ∙ (write-no-layout s x bs k (z ∙ rw (layout-which s 256 k carried z))).0)))

  pub made-with-none : write_refusal s x bs ≡ []
  unfolding passes
  made-with-none = go (write_refusal s x bs) (accepts-is s x bs (wrote i n) q)
    where
      go : (k : List ℕ) → true ≡ passes k → k ≡ []
      go [] e = refl
      go (k ∷ carried) e = absurd (true≢false e)
