-- A promise by a reply and by what is left leaves no choice: two answers that it allows are equal, and so is the output afterwards.
use Rattle.std.proofs.Common.{◌≡◌, ℕ, sym, ◌∙◌, List, [], ◌∷◌, Result}
use Rattle.code.proofs.Refused.{reply-alike}
use Rattle.code.specs.declared.Refusal.{Refusal}
use Rattle.storing.specs.Answers.{made_of}

pub made_alike : (reply leaves after after' : List ℕ) (r r' : Result ℕ Refusal) → made_of r ≡ reply → after ≡ leaves → made_of r' ≡ reply →
    after' ≡ leaves → (r ≡ r') × (after ≡ after')
made_alike reply leaves after after' r r' p a p' a' = (reply-alike (λ n. n ∷ []) (λ n n' q. cc) r r' (p ∙ sym p'), a ∙ sym a')
