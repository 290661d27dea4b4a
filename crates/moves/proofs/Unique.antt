-- The promises of the moves leave no choice: two answers that one of them allows are equal, and so is the output afterwards.
use Prim.Native.Nat.{ℕ}
use mathlib.Core.Path.{◌≡◌, sym, ◌∙◌}
use mathlib.Core.List.{List}
use Rattle.code.specs.NewDump.{to_new_reply, to_new_leaves, to_old_reply, to_old_leaves}
use Rattle.moves.specs.Answers.{moved_of}
use Rattle.std.proofs.Common.{Result, [], ◌∷◌}
use Rattle.code.specs.declared.Refusal.{Refusal}
use Rattle.code.proofs.Refused.{reply-alike}

-- an answer is fixed by its reply
pub same-moved : (r r' : Result ℕ Refusal) → moved_of r ≡ moved_of r' → r ≡ r'
same-moved = reply-alike (λ n. n ∷ []) (λ n n' q. cc)

alike : (reply leaves after after' : List ℕ) (r r' : Result ℕ Refusal) → moved_of r ≡ reply → after ≡ leaves → moved_of r' ≡ reply → after' ≡ leaves →
    (r ≡ r') × (after ≡ after')
alike reply leaves after after' r r' p a p' a' = (same-moved r r' (p ∙ sym p'), a ∙ sym a')

pub unique-move-to-new : (bytes out after after' : List ℕ) (r r' : Result ℕ Refusal) → moved_of r ≡ to_new_reply bytes out → after ≡ to_new_leaves bytes out →
    moved_of r' ≡ to_new_reply bytes out → after' ≡ to_new_leaves bytes out → (r ≡ r') × (after ≡ after')
unique-move-to-new bytes out = alike (to_new_reply bytes out) (to_new_leaves bytes out)

pub unique-move-to-old : (bytes out after after' : List ℕ) (r r' : Result ℕ Refusal) → moved_of r ≡ to_old_reply bytes out → after ≡ to_old_leaves bytes out →
    moved_of r' ≡ to_old_reply bytes out → after' ≡ to_old_leaves bytes out → (r ≡ r') × (after ≡ after')
unique-move-to-old bytes out = alike (to_old_reply bytes out) (to_old_leaves bytes out)
