-- The promises of `read` and `read_by` leave no choice: two answers that one of them allows are equal.
use Rattle.std.proofs.Common.{◌≡◌, sym, ◌∙◌, ℕ, List, [], ◌∷◌, Result}
use Rattle.code.specs.declared.Shape.{Shape}
use Rattle.code.specs.declared.Refusal.{Refusal}
use Rattle.code.specs.Calls.{read_reply}
use Rattle.code.proofs.Refused.{reply-alike}
use Rattle.reading.specs.declared.Reading.{Reading}
use Rattle.reading.specs.Answers.{reading_of}

pub same-reading : (r r' : Result Reading Refusal) → reading_of r ≡ reading_of r' → r ≡ r'
same-reading r r' q = reply-alike (λ a. a.generation ∷ a.number ∷ a.left ∷ []) alike r r' q
  where
    alike : (a a' : Reading) → a.generation ∷ a.number ∷ a.left ∷ [] ≡ a'.generation ∷ a'.number ∷ a'.left ∷ [] → a ≡ a'
    alike a a' q =
        let g : a.generation ≡ a'.generation = cc in
        let x : a.number ≡ a'.number = cc in
        let l : a.left ≡ a'.left = cc in
        λ i. record { generation = g i; number = x i; left = l i }

pub unique-reading : (s : Shape) (bs : List ℕ) (r r' : Result Reading Refusal) → reading_of r ≡ read_reply s bs → reading_of r' ≡ read_reply s bs → r ≡ r'
unique-reading s bs r r' p q = same-reading r r' (p ∙ sym q)
