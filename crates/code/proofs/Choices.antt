-- Erasing over a choice of spare groups, and the choice that two fields tell.
use Prim.Native.Nat.{ℕ, zero, suc, ◌+◌, ◌-◌, ◌<◌}
use mathlib.Core.Path.{◌≡◌, refl, ap, ◌∙◌}
use mathlib.Core.Logic.{inl, inr}
use mathlib.Core.Bool.{Bool, true, false}
use mathlib.Core.List.{List, [], ◌∷◌}
use native.Mathlib.Omega.{arith}
use native.Mathlib.Decide.{ℕ_discrete}
use native.Mathlib.Nat.{one-le-pow}
use lib.ListN.{length, get_or}
use lib.Dec.{eqb}
use borrow.Author.Tests.{le-leb, lt-leb, eq-eqb, ne_eqb, eqb-true}
use Rattle.code.specs.Deal.{written, plain}
use Rattle.code.specs.Field.{zeros, unerased, past, lay, erase_by, leftmost}
use Rattle.code.proofs.Groups.{erase}
use Rattle.code.specs.Lists.{Upto}
use Rattle.code.specs.Judge.{wipes}
use Rattle.code.proofs.Tests.{le-or-lt, both_true}
use Rattle.code.proofs.Groups.{Grows, Wiped, lay-skip}

pub by-wipes : (e : ℕ) (ks : List Bool) (gs p : List ℕ) → 0 < e → wipes e gs (lay (erase_by e ks gs) p) ≡ true
unfolding erase_by lay wipes
by-wipes e ks [] p pos = refl
by-wipes e [] (zero ∷ gs) [] pos = by-wipes e [] gs [] pos
by-wipes e [] (zero ∷ gs) (y ∷ p) pos = by-wipes e [] gs p pos
by-wipes e [] (suc x ∷ gs) p pos = rw (lay-skip e (erase_by e [] gs) p pos, eq-eqb e e refl) (by-wipes e [] gs p pos)
by-wipes e (true ∷ ks) (zero ∷ gs) p pos = rw (lay-skip e (erase_by e ks gs) p pos) (by-wipes e ks gs p pos)
by-wipes e (false ∷ ks) (zero ∷ gs) [] pos = by-wipes e ks gs [] pos
by-wipes e (false ∷ ks) (zero ∷ gs) (y ∷ p) pos = by-wipes e ks gs p pos
by-wipes e (k ∷ ks) (suc x ∷ gs) p pos = rw (lay-skip e (erase_by e ks gs) p pos, eq-eqb e e refl) (by-wipes e ks gs p pos)

-- the choice that two fields tell: the groups that are e after; of those that were not zero it says nothing
unfoldable pub spared : ℕ → List ℕ → List Bool
spared e [] = []
spared e (y ∷ ys) = eqb y e ∷ spared e ys

zeros-e : (e : ℕ) (xs : List ℕ) → 0 < e → zeros (e ∷ xs) ≡ zeros xs
unfolding zeros
zeros-e zero xs h = absurd (omega arith)
zeros-e (suc e) xs h = refl

-- where every nonzero group was erased it leaves as many zero groups as are unerased after, and these laid into them are the groups after
pub record Spared (e : ℕ) (xs ys : List ℕ) : Type 0 where
  pub left : zeros (erase_by e (spared e ys) xs) ≡ length (unerased e ys)
  pub again : lay (erase_by e (spared e ys) xs) (unerased e ys) ≡ ys

pub spared-is : (e : ℕ) (xs ys : List ℕ) → 0 < e → length xs ≡ length ys → wipes e xs ys ≡ true → Spared e xs ys
unfolding erase_by spared unerased lay zeros wipes
spared-is e [] [] pos l w = record { left = refl; again = refl }
spared-is e [] (y ∷ ys) pos l w = absurd (omega arith)
spared-is e (x ∷ xs) [] pos l w = absurd (omega arith)
spared-is e (zero ∷ xs) (y ∷ ys) pos l w =
    let ih = spared-is e xs ys pos (omega arith) w in
    elim (ℕ_discrete y e) [
      | yes q ↦
          let t = eq-eqb y e q in
          record {
            left = rw t (zeros-e e (erase_by e (spared e ys) xs) pos ∙ ih.left);
            again = rw t (lay-skip e (erase_by e (spared e ys) xs) (unerased e ys) pos ∙ rw (ih.again, q));
          }
      | no d ↦ let t = ne_eqb y e d in record { left = rw t (ap suc ih.left); again = rw t (ap (◌∷◌ y) ih.again) }
    ]
spared-is e (suc x ∷ xs) (y ∷ ys) pos l w =
    let b = both_true (eqb y e) (wipes e xs ys) w in
    let q = eqb-true y e b.0 in
    let ih = spared-is e xs ys pos (omega arith) b.1 in
    record {
      left = rw b.0 (zeros-e e (erase_by e (spared e ys) xs) pos ∙ ih.left);
      again = rw b.0 (lay-skip e (erase_by e (spared e ys) xs) (unerased e ys) pos ∙ rw (ih.again, q));
    }

-- what is not erased is below e
pub unerased-small : (e : ℕ) (gs : List ℕ) → Upto e gs → Upto (e - 1) (unerased e gs)
unfolding unerased
unerased-small e [] u = tt
unerased-small e (x ∷ gs) u = elim (ℕ_discrete x e) [
  | yes q ↦ rw (eq-eqb x e q) (unerased-small e gs u.1)
  | no d ↦ rw (ne_eqb x e d) (omega (arith, u.0), unerased-small e gs u.1)
]

-- a written digit makes a number above 0
pub written-plain : (b : ℕ) (p : List ℕ) → 0 < b → 0 < written p → 0 < plain b p
unfolding plain written
written-plain b [] pos h = h
written-plain b (zero ∷ p) pos h = omega (arith, written-plain b p pos h)
written-plain b (suc x ∷ p) pos h = omega (arith, one-le-pow (length p) b pos)

-- zero groups that point past a generation are fewer than its places
pub past-above : (hs : List ℕ) (z n : ℕ) → past hs z ≡ suc n → z < get_or hs (suc n) 0
unfolding past
past-above [] z n q = absurd (omega arith)
past-above (h ∷ hs) z zero q = elim (le-or-lt (get_or hs 0 0) z) [
  | inl l ↦ let q' : ◌≡◌ {A = ℕ} 0 1 = rw (le-leb (get_or hs 0 0) z l) at q in absurd (omega arith)
  | inr g ↦ g
]
past-above (h ∷ hs) z (suc n) q = elim (le-or-lt (get_or hs 0 0) z) [
  | inl l ↦ let q' : 0 ≡ suc (suc n) = rw (le-leb (get_or hs 0 0) z l) at q in absurd (omega arith)
  | inr g ↦ let q' : suc (past hs z) ≡ suc (suc n) = rw (lt-leb (get_or hs 0 0) z g) at q in past-above hs z n (omega arith)
]

-- the zero groups that are chosen, and how many are left: exactly h are where as many are chosen as there are more than h
unfoldable pub picked : List Bool → List ℕ → ℕ
picked ks [] = 0
picked [] (x ∷ xs) = 0
picked (true ∷ ks) (zero ∷ xs) = suc (picked ks xs)
picked (false ∷ ks) (zero ∷ xs) = picked ks xs
picked (k ∷ ks) (suc x ∷ xs) = picked ks xs

by-none : (e : ℕ) (gs : List ℕ) → 0 < e → zeros (erase_by e [] gs) ≡ zeros gs
unfolding erase_by zeros
by-none e [] pos = refl
by-none e (zero ∷ gs) pos = ap suc (by-none e gs pos)
by-none e (suc x ∷ gs) pos = zeros-e e (erase_by e [] gs) pos ∙ by-none e gs pos

pub by_size : (e : ℕ) (ks : List Bool) (gs : List ℕ) → 0 < e → picked ks gs + zeros (erase_by e ks gs) ≡ zeros gs
unfolding erase_by zeros picked
by_size e ks [] pos = refl
by_size e [] (zero ∷ gs) pos = omega (arith, by-none e gs pos)
by_size e [] (suc x ∷ gs) pos = omega (arith, zeros-e e (erase_by e [] gs) pos, by-none e gs pos)
by_size e (true ∷ ks) (zero ∷ gs) pos = omega (arith, zeros-e e (erase_by e ks gs) pos, by_size e ks gs pos)
by_size e (false ∷ ks) (zero ∷ gs) pos = omega (arith, by_size e ks gs pos)
by_size e (k ∷ ks) (suc x ∷ gs) pos = omega (arith, zeros-e e (erase_by e ks gs) pos, by_size e ks gs pos)
