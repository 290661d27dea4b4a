-- Numbers written digit by digit in at most so many digits: a dump's groups of seven bits, lowest first, and decimal, highest first.
use Prim.Native.Nat.{ℕ, zero, suc, ◌+◌, ◌^◌, ◌/◌, ◌%◌, ◌≤◌, ◌<◌}
use mathlib.Core.Path.{◌≡◌, refl, ap, ◌∙◌}
use mathlib.Core.Logic.{inl, inr}
use mathlib.Core.List.{List, [], ◌∷◌, ◌++◌}
use native.Mathlib.Omega.{arith}
use native.Mathlib.Nat.{pow-suc, pow-zero, one-mul, div-lt_iff_lt-mul}
use lib.ListN.{length, length-append}
use borrow.Author.Tests.{lt-ltb, le-ltb}
use Rattle.code.specs.Numerals.{sevens}
use Rattle.code.specs.Listing.{spelled}
use Rattle.code.proofs.Tests.{le-or-lt}

-- In base b a number below b is one digit, and another is its last digit joined to the digits of the quotient.
module _ (b : ℕ) (pos : 0 < b) (f : ℕ → ℕ → List ℕ) (one : ℕ → List ℕ) (join : ℕ → List ℕ → List ℕ)
    (last : (most x : ℕ) → x < b → f (suc most) x ≡ one x) (split : (most x : ℕ) → b ≤ x → f (suc most) x ≡ join x (f most (x / b))) where
  -- room for one digit more changes nothing
  wider : (most x : ℕ) → x < b ^ suc most → f (suc most) x ≡ f (suc (suc most)) x
  wider zero x h =
      let low : x < b = rw (pow-suc b 0, pow-zero b, one-mul b) at h in
      cc (last 0 x low, last 1 x low)
  wider (suc most) x h = elim (le-or-lt b x) [
    | inl l ↦ cc (split (suc most) x l, split (suc (suc most)) x l, wider most (x / b) ((div-lt_iff_lt-mul pos).1 (rw (pow-suc b (suc most)) at h)))
    | inr l ↦ cc (last (suc most) x l, last (suc (suc most)) x l)
  ]

  next : (most x : ℕ) → b ≤ x → x < b ^ suc most → f (suc most) x ≡ join x (f (suc most) (x / b))
  next zero x l h = absurd (omega (arith, rw (pow-suc b 0, pow-zero b, one-mul b) at h))
  next (suc most) x l h = cc (split (suc most) x l, wider most (x / b) ((div-lt_iff_lt-mul pos).1 (rw (pow-suc b (suc most)) at h)))

  few : ((x : ℕ) → length (f 0 x) ≡ 0) → ((x : ℕ) → length (one x) ≡ 1) → ((x : ℕ) (l : List ℕ) → length (join x l) ≡ suc (length l)) → (most x : ℕ) →
      length (f most x) ≤ most
  few none single more zero x = omega (arith, none x)
  few none single more (suc most) x = elim (le-or-lt b x) [
    | inl l ↦ omega (arith, ap length (split most x l), more x (f most (x / b)), few none single more most (x / b))
    | inr l ↦ omega (arith, ap length (last most x l), single x)
  ]

pub sevens-last : (most x : ℕ) → x < 128 → sevens (suc most) x ≡ x ∷ []
unfolding sevens
sevens-last most x h = rw (lt-ltb x 128 h)

pub sevens-split : (most x : ℕ) → 128 ≤ x → sevens (suc most) x ≡ (128 + x % 128) ∷ sevens most (x / 128)
unfolding sevens
sevens-split most x h = rw (le-ltb x 128 h)

pub sevens-next : (most x : ℕ) → 128 ≤ x → x < 128 ^ suc most → sevens (suc most) x ≡ (128 + x % 128) ∷ sevens (suc most) (x / 128)
sevens-next = next 128 (omega arith) sevens (λ x. x ∷ []) (λ x l. (128 + x % 128) ∷ l) sevens-last sevens-split

pub sevens-some : (most x : ℕ) → 0 < length (sevens (suc most) x)
sevens-some most x = elim (le-or-lt 128 x) [ inl h ↦ rw (sevens-split most x h) (omega arith) | inr h ↦ rw (sevens-last most x h) (omega arith) ]

pub sevens-few : (most x : ℕ) → length (sevens most x) ≤ most
unfolding sevens
sevens-few = few 128 (omega arith) sevens (λ x. x ∷ []) (λ x l. (128 + x % 128) ∷ l) sevens-last sevens-split (λ x. refl) (λ x. refl) (λ x l. refl)

snoc-length : (l : List ℕ) (y : ℕ) → length (l ++ (y ∷ [])) ≡ suc (length l)
snoc-length l y = omega (arith, length-append l (y ∷ []))

pub spelled-last : (most x : ℕ) → x < 10 → spelled (suc most) x ≡ (48 + x) ∷ []
unfolding spelled
spelled-last most x h = rw (lt-ltb x 10 h)

spelled-split : (most x : ℕ) → 10 ≤ x → spelled (suc most) x ≡ spelled most (x / 10) ++ ((48 + x % 10) ∷ [])
unfolding spelled
spelled-split most x h = rw (le-ltb x 10 h)

pub spelled-next : (most x : ℕ) → 10 ≤ x → x < 10 ^ suc most → spelled (suc most) x ≡ spelled (suc most) (x / 10) ++ ((48 + x % 10) ∷ [])
spelled-next = next 10 (omega arith) spelled (λ x. (48 + x) ∷ []) (λ x l. l ++ ((48 + x % 10) ∷ [])) spelled-last spelled-split

pub spelled-longer : (most x : ℕ) → 10 ≤ x → x < 10 ^ suc most → length (spelled (suc most) x) ≡ suc (length (spelled (suc most) (x / 10)))
spelled-longer most x l h = ap length (spelled-next most x l h) ∙ snoc-length (spelled (suc most) (x / 10)) (48 + x % 10)

pub spelled-few : (most x : ℕ) → length (spelled most x) ≤ most
unfolding spelled
spelled-few = few 10 (omega arith) spelled (λ x. (48 + x) ∷ []) (λ x l. l ++ ((48 + x % 10) ∷ [])) spelled-last spelled-split (λ x. refl) (λ x. refl)
    (λ x l. snoc-length l (48 + x % 10))
