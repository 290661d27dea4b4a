-- The rows of Pascal's triangle one after the other have C(n, k) at n(n + 1)/2 + k.
use Prim.Native.Nat.{ℕ, zero, suc, ◌+◌, ◌*◌, ◌/◌, ◌≤◌, ◌<◌}
use mathlib.Core.Path.{◌≡◌, refl, ap, ◌∙◌}
use mathlib.Core.Logic.{inl, inr}
use mathlib.Core.List.{List, [], ◌++◌}
use native.Mathlib.Omega.{arith}
use lib.ListN.{length, get_or, length-append, get_or-append}
use lib.Seq.{get_or-append-add}
use Rattle.code.specs.Count.{choose}
use Rattle.code.proofs.Tests.{le-or-lt}
use Rattle.code.proofs.Rows.{row, row_at, row-length}

-- rows 0 to c − 1, each by Pascal's rule from the one above
unfoldable pub triangle : ℕ → List ℕ
triangle zero = []
triangle (suc c) = triangle c ++ row c c

longer : (c : ℕ) → length (triangle (suc c)) ≡ length (triangle c) + suc c
unfolding triangle
longer c = omega (arith, length-append (triangle c) (row c c), row-length c c)

twice : (c : ℕ) → 2 * length (triangle c) ≡ c * (c + 1)
unfolding triangle
twice zero = refl
twice (suc c) = omega (arith, longer c, twice c)

-- a row above ends before a later one begins
before : (c n : ℕ) → n < c → length (triangle (suc n)) ≤ length (triangle c)
before zero n h = absurd (omega arith)
before (suc c) n h = elim (le-or-lt c n) [
  | inl l ↦ let e : n ≡ c = omega arith in rw e (omega arith)
  | inr l ↦ omega (arith, before c n l, longer c)
]

-- the last row, and those above it
last : (c k : ℕ) → k ≤ c → get_or (triangle (suc c)) (length (triangle c) + k) 0 ≡ choose c k
unfolding triangle
last c k l = get_or-append-add (triangle c) (row c c) k 0 ∙ row_at c c k l

above : (c i : ℕ) → i < length (triangle c) → get_or (triangle (suc c)) i 0 ≡ get_or (triangle c) i 0
unfolding triangle
above c i h = get_or-append (triangle c) (row c c) 0 i h

found : (c n k : ℕ) → n < c → k ≤ n → get_or (triangle c) (length (triangle n) + k) 0 ≡ choose n k
found zero n k h l = absurd (omega arith)
found (suc c) n k h l = elim (le-or-lt c n) [
  | inl g ↦ let e : n ≡ c = omega arith in rw e (last c k (omega arith))
  | inr g ↦ above c (length (triangle n) + k) (omega (arith, longer n, before c n g)) ∙ found c n k g l
]

-- the one lemma that carries the test of the table to its entries
pub carried : (c n k : ℕ) → n < c → k ≤ n → get_or (triangle c) (n * (n + 1) / 2 + k) 0 ≡ choose n k
carried c n k h l =
    let e : n * (n + 1) / 2 + k ≡ length (triangle n) + k = omega (arith, twice n) in
    ap (λ (i : ℕ). get_or (triangle c) i 0) e ∙ found c n k h l
