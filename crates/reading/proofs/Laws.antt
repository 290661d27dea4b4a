-- What the functions of this crate go by: the generation that a zero count points to.
use Rattle.std.proofs.Common.{◌≡◌, ◌≢◌, refl, sym, ap, ◌∙◌, ℕ, zero, suc, ◌+◌, ◌-◌, ◌≤◌, ◌<◌, Bool, true}
use Rattle.std.proofs.Common.{false, cond, List, [], ◌∷◌, length, get_or, take, drop, length-take, length-drop, Option, unwrap_or, arith, add-one}
use Rattle.std.proofs.lemmas.List.{drop-take}
use lib.ListN.{get_or-eq_default}
use lib.Dec.{leb}
use borrow.Author.Tests.{le-leb, lt-leb}
use Rattle.code.specs.declared.Shape.{Shape}
use Rattle.code.specs.Shape.{counts_of}
use Rattle.code.specs.declared.Dealing.TheVariants.{Patterns, Digits}
use Rattle.code.specs.Code.{dealt, deals}
use Rattle.code.specs.Field.{past}
use Rattle.layout.specs.Plan.{Granted}

-- how many counts stand before the first that is at most z
abbrev pub above : ℕ → List ℕ → ℕ
above z [] = 0
above z (x ∷ xs) = cond (leb x z) 0 (above z xs + 1)

pub above-hit : (z x : ℕ) (xs : List ℕ) → x ≤ z → above z (x ∷ xs) ≡ 0
above-hit z x xs l = rw (le-leb x z l)

pub above-miss : (z x : ℕ) (xs : List ℕ) → z < x → above z (x ∷ xs) ≡ above z xs + 1
above-miss z x xs l = rw (lt-leb x z l)

pub above-most : (z : ℕ) (xs : List ℕ) → above z xs ≤ length xs
above-most z [] = omega arith
above-most z (x ∷ xs) = go (leb x z) (above-most z xs)
  where
    go : (b : Bool) → above z xs ≤ length xs → cond b 0 (above z xs + 1) ≤ suc (length xs)
    go true l = omega arith
    go false l = omega arith

past-tail : (hs : List ℕ) (z : ℕ) → past hs z ≡ above z (drop 1 hs)
unfolding past
past-tail [] z = refl
past-tail (h ∷ []) z = rw (le-leb 0 z (omega arith))
past-tail (h ∷ x ∷ xs) z = rw (add-one (above z xs), past-tail (x ∷ xs) z)

past-above : (t : ℕ) (h : List ℕ) (z : ℕ) → 0 < t → past (take t h) z ≡ above z (take (t - 1) (drop 1 h))
past-above t h z l =
    let e : 1 + (t - 1) ≡ t = omega arith in
    past-tail (take t h) z ∙ ap (above z) (rw e at (drop-take 1 (t - 1) h))

-- the generation that z zero groups point to is found among the counts behind the first
pub past-found : (t : ℕ) (h : List ℕ) (z : ℕ) (r : Option ℕ) → 0 < t → t ≤ length h →
    above z (take (t - 1) (drop 1 h)) ≡ unwrap_or r (length (take (t - 1) (drop 1 h))) → (unwrap_or r (t - 1) ≡ past (take t h) z) × (unwrap_or r (t - 1) < t)
past-found t h z r some few found =
    let xs = take (t - 1) (drop 1 h) in
    let n : length xs ≡ t - 1 = omega (arith, length-take (t - 1) (drop 1 h), length-drop 1 h) in
    let same : above z xs ≡ unwrap_or r (t - 1) = rw n at found in
    (sym same ∙ sym (past-above t h z some), omega (arith, same, above-most z xs))

-- past the sixteenth place there is no count
pub none-behind : {s : Shape} {h : List ℕ} → Granted s h → get_or h 16 0 ≡ 0
none-behind {s} G = G.each 16 ∙ get_or-eq_default (counts_of s) 0 {n = 16} (omega (arith, G.many, G.bounds.t-high))

-- the last generation, and those before it
pub dealt-last : (e first n next : ℕ) → next ≡ 0 → Digits e ≡ dealt e first n next
unfolding dealt deals
dealt-last e first zero next z = rw z
dealt-last e first (suc n) next z = rw z

pub dealt-before : (e first n next values fewest : ℕ) → next ≢ 0 → (n ≡ 0 → values ≡ e) × (n ≢ 0 → values ≡ e - 1) →
    (n ≡ 0 → fewest ≡ first) × (n ≢ 0 → fewest ≡ 1) → Patterns values fewest ≡ dealt e first n next
unfolding dealt deals
dealt-before e first n zero values fewest d v f = absurd (d refl)
dealt-before e first zero (suc next) values fewest d v f = rw (v.0 refl, f.0 refl)
dealt-before e first (suc n) (suc next) values fewest d v f = let later : suc n ≢ 0 = λ z. absurd (omega arith) in rw (v.1 later, f.1 later)
