-- The promise of `lay_out` leaves no choice: two answers that it allows are equal.
use Rattle.std.proofs.Common.{◌≡◌, sym, ap, ◌∙◌, ℕ, List, ◌∷◌, get_or, arith, Result, Ok, Err}
use Rattle.code.specs.declared.Shape.{Shape}
use Rattle.code.specs.declared.Refusal.{Refusal}
use Rattle.code.specs.Calls.{filled, layout_fields, layout_reply}
use Rattle.code.proofs.Refused.{refusal-alike, refused-some}
use Rattle.layout.specs.declared.Layout.{Layout}
use Rattle.layout.specs.Plan.{laid_of}
use Rattle.layout.proofs.Planning.{laid-number, laid-alone}

pub unique : (s : Shape) (g : ℕ) (r r' : Result (List ℕ) Refusal) → laid_of r ≡ filled layout_fields (layout_reply s g) →
    laid_of r' ≡ filled layout_fields (layout_reply s g) → r ≡ r'
unique s g (Ok h) (Ok h') p q = let e : h ≡ h' = cc in rw e
unique s g (Ok h) (Err k) p q = absurd (omega (arith, refused-some k, ap (λ r. get_or r 0 0) (p ∙ sym q)))
unique s g (Err k) (Ok h) p q = absurd (omega (arith, refused-some k, ap (λ r. get_or r 0 0) (p ∙ sym q)))
unique s g (Err k) (Err k') p q =
    let e = sym (laid-number s g k p) ∙ laid-number s g k' q in
    rw (refusal-alike k k' (laid-alone s g k p ∙ e ∙ sym (laid-alone s g k' q)))

-- and so does that of the same in numbers
pub unique-fields : (s : Shape) (g : ℕ) (r r' : Layout) → r.refusal ∷ r.h ≡ filled layout_fields (layout_reply s g) →
    r'.refusal ∷ r'.h ≡ filled layout_fields (layout_reply s g) → r ≡ r'
unique-fields s g r r' p q =
    let n : r.refusal ≡ r'.refusal = cc in
    let h : r.h ≡ r'.h = cc in
    λ i. record { refusal = n i; h = h i }
