-- Calls that store what they make at the front of an output and answer its length: what a reply of 0 tells, and what a refusal leaves.
use Prim.Native.Nat.{ℕ, ◌≤◌, ◌<◌}
use mathlib.Core.Path.{◌≡◌, refl, ap}
use mathlib.Core.Bool.{Bool}
use mathlib.Core.List.{List, [], ◌∷◌, ◌++◌}
use native.Mathlib.Omega.{arith}
use lib.ListN.{length, get_or, take, drop}
use lib.Seq.{take-append_seam}
use Rattle.code.specs.Calls.{refusal, answer, leaves, length_in}
use Rattle.code.proofs.LayoutCall.{Numbered, refusal-some}

-- nothing, or the number of a refusal and what it carries
abbrev pub Refuses : List ℕ → Type 0
Refuses [] = Unit {0}
Refuses (k ∷ carried) = 0 < k

pub tests-refuse : (tests : List (List ℕ × Bool)) → Numbered tests → Refuses (refusal tests)
tests-refuse tests n = go (refusal tests) refl
  where
    go : (r : List ℕ) → refusal tests ≡ r → Refuses r
    go [] q = tt
    go (k ∷ carried) q = refusal-some tests n k carried q

pub reply-told : (refused values : List ℕ) → Refuses refused → get_or (answer refused values) 0 0 ≡ 0 → refused ≡ []
unfolding answer
reply-told [] values r e = refl
reply-told (k ∷ carried) values r e = absurd (omega arith)

-- a refusal "stores nothing in cells or output"
pub refused-keeps : (refused values after out : List ℕ) → (get_or (answer refused values) 0 0 ≡ 0 → ⊥) → leaves refused after out ≡ out
unfolding answer leaves
refused-keeps [] values after out n = absurd (n refl)
refused-keeps (k ∷ carried) values after out n = refl

-- an accepted call: it replies with the length of what it made, and stores that at the front of the output
pub record Accepted (made reply after out : List ℕ) : Type 0 where
  pub replies : reply ≡ 0 ∷ length made ∷ []
  pub stores : after ≡ made ++ drop (length made) out
  pub fits : length made ≤ length out

pub accepted : (refused made out : List ℕ) → refused ≡ [] → length made ≤ length out →
    Accepted made (answer refused (length made ∷ [])) (leaves refused (made ++ drop (length made) out) out) out
unfolding answer leaves
accepted refused made out none fits = record {
  replies = ap (λ r. answer r (length made ∷ [])) none;
  stores = ap (λ r. leaves r (made ++ drop (length made) out) out) none;
  fits = fits;
}

-- what a caller takes of its output is what the call made
pub stored-made : (made reply after out : List ℕ) → Accepted made reply after out → take (length_in reply) after ≡ made
stored-made made reply after out a = rw (a.replies, a.stores) (take-append_seam made (drop (length made) out))
