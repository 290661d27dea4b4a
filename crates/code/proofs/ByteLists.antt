-- Lists of bytes: their parts and joins are bytes, and so are written numbers.
use Prim.Native.Nat.{ℕ, zero, suc, ◌+◌, ◌-◌, ◌%◌, ◌/◌, ◌<◌}
use mathlib.Core.Path.{◌≡◌, ap, ◌∙◌}
use mathlib.Core.Logic.{inl, inr}
use mathlib.Core.List.{List, [], ◌∷◌, ◌++◌}
use native.Mathlib.Omega.{arith}
use lib.ListN.{length, get_or, take, drop, length-append, length-drop, take-append-drop, get_or-append}
use lib.Seq.{get_or-append-add, get_or-drop}
use Rattle.code.specs.Lists.{Below}
use Rattle.code.specs.Numerals.{sevens, numerals_of}
use Rattle.code.proofs.Tests.{le-or-lt}
use Rattle.code.proofs.Wits.{Bytes}
use Rattle.code.proofs.Digits.{sevens-last, sevens-split}

-- a bound on every number, by place and by list
pub below_each : (b : ℕ) (xs : List ℕ) → ((i : ℕ) → i < length xs → get_or xs i 0 < b) → Below b xs
below_each b [] h = tt
below_each b (x ∷ xs) h = (h 0 (omega arith), below_each b xs (λ i l. h (suc i) (omega arith)))

pub bytes_drop : (bytes : List ℕ) (at : ℕ) → Bytes bytes → Bytes (drop at bytes)
bytes_drop bytes at b i h = rw (get_or-drop at bytes i 0) (b (at + i) (omega (arith, length-drop at bytes)))

pub bytes-append : (xs ys : List ℕ) → Bytes xs → Bytes ys → Bytes (xs ++ ys)
bytes-append xs ys a b i h = elim (le-or-lt (length xs) i) [
  | inr g ↦ rw (get_or-append xs ys 0 i g) (a i g)
  | inl g ↦
      let e : i ≡ length xs + (i - length xs) = omega arith in
      let q : get_or (xs ++ ys) i 0 ≡ get_or ys (i - length xs) 0 = ap (λ (j : ℕ). get_or (xs ++ ys) j 0) e ∙ get_or-append-add xs ys (i - length xs) 0 in
      rw q (b (i - length xs) (omega (arith, length-append xs ys)))
]

pub bytes_take : (n : ℕ) (xs : List ℕ) → Bytes xs → Bytes (take n xs)
bytes_take n xs b i h =
    let e : get_or (take n xs ++ drop n xs) i 0 ≡ get_or (take n xs) i 0 = get_or-append (take n xs) (drop n xs) 0 i h in
    let all : get_or xs i 0 < 256 = b i (omega (arith, ap length (take-append-drop n xs), length-append (take n xs) (drop n xs))) in
    omega (arith, ap (λ (l : List ℕ). get_or l i 0) (take-append-drop n xs))

pub bytes-none : Bytes []
bytes-none i h = absurd (omega arith)

bytes-cons : (x : ℕ) (xs : List ℕ) → x < 256 → Bytes xs → Bytes (x ∷ xs)
bytes-cons x xs h b zero l = h
bytes-cons x xs h b (suc i) l = b i (omega arith)

sevens-bytes : (most x : ℕ) → Bytes (sevens most x)
unfolding sevens
sevens-bytes zero x = bytes-none
sevens-bytes (suc most) x = elim (le-or-lt 128 x) [
  | inl h ↦ rw (sevens-split most x h) (bytes-cons (128 + x % 128) (sevens most (x / 128)) (omega arith) (sevens-bytes most (x / 128)))
  | inr h ↦ rw (sevens-last most x h) (bytes-cons x [] (omega arith) bytes-none)
]

pub numerals-bytes : (xs : List ℕ) → Bytes (numerals_of xs)
unfolding numerals_of
numerals-bytes [] = bytes-none
numerals-bytes (x ∷ xs) = bytes-append (sevens 9 x) (numerals_of xs) (sevens-bytes 9 x) (numerals-bytes xs)

pub below-append : (b : ℕ) (xs ys : List ℕ) → Below b xs → Below b ys → Below b (xs ++ ys)
below-append b [] ys u w = w
below-append b (x ∷ xs) ys u w = (u.0, below-append b xs ys u.1 w)
