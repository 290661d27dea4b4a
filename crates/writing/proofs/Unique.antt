-- The promise of `write` leaves no choice: two answers that it allows are equal, and so are the cells at exit.
use Rattle.std.proofs.Common.{◌≡◌, sym, ◌∙◌, ℕ, List, [], ◌∷◌, Result}
use Rattle.code.specs.declared.Shape.{Shape}
use Rattle.code.specs.declared.Refusal.{Refusal}
use Rattle.code.proofs.Refused.{reply-alike}
use Rattle.writing.specs.declared.Written.{Written}
use Rattle.writing.specs.Answers.{writing_of}
use Rattle.writing.proofs.Rewriting.{Answers}

pub same-writing : (r r' : Result Written Refusal) → writing_of r ≡ writing_of r' → r ≡ r'
same-writing r r' q = reply-alike (λ a. a.generation ∷ a.turned ∷ []) alike r r' q
  where
    alike : (a a' : Written) → a.generation ∷ a.turned ∷ [] ≡ a'.generation ∷ a'.turned ∷ [] → a ≡ a'
    alike a a' q =
        let g : a.generation ≡ a'.generation = cc in
        let n : a.turned ≡ a'.turned = cc in
        λ i. record { generation = g i; turned = n i }

pub unique-writing : (s : Shape) (x : ℕ) (bs after after' : List ℕ) (r r' : Result Written Refusal)
    → Answers s x bs (writing_of r) after → Answers s x bs (writing_of r') after' → (r ≡ r') × (after ≡ after')
unique-writing s x bs after after' r r' p q = (same-writing r r' (p.0 ∙ sym q.0), p.1 ∙ sym q.1)
