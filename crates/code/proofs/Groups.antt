-- Erasing groups and laying a pattern into the zero ones.
use Prim.Native.Nat.{ℕ, zero, suc, ◌+◌, ◌-◌, ◌≤◌, ◌<◌}
use mathlib.Core.Path.{◌≡◌, refl, ap, ◌∙◌}
use mathlib.Core.Logic.{◌⊎◌, inl, inr}
use mathlib.Core.Bool.{Bool, true, false}
use mathlib.Core.List.{List, [], ◌∷◌, ◌++◌}
use native.Mathlib.Omega.{arith}
use native.Mathlib.Decide.{ℕ_discrete}
use lib.ListN.{length, replicate}
use borrow.Author.Tests.{eq-eqb, ne_eqb}
use Rattle.code.specs.Deal.{written}
use Rattle.code.specs.Field.{zeros, unerased, erase_by, leftmost, lay}
use Rattle.code.specs.Lists.{Upto}

-- erasing by document 01's choice: what is not zero, and of the zero groups the leftmost, so many of them (RULES 6)
unfoldable pub erase : ℕ → ℕ → List ℕ → List ℕ
erase e spare gs = erase_by e (leftmost spare gs) gs

-- as many groups; each was 0, or is as it was, or is e
abbrev pub Grows : ℕ → List ℕ → List ℕ → Type 0
Grows e [] [] = Unit {0}
Grows e [] (y ∷ ys) = ⊥
Grows e (x ∷ xs) [] = ⊥
Grows e (x ∷ xs) (y ∷ ys) = ((x ≡ 0) ⊎ ((y ≡ x) ⊎ (y ≡ e))) × Grows e xs ys

pub zeros-written : (p : List ℕ) → zeros p + written p ≡ length p
unfolding zeros written
zeros-written [] = refl
zeros-written (zero ∷ p) = omega (arith, zeros-written p)
zeros-written (suc x ∷ p) = omega (arith, zeros-written p)

pub upto-grows : (a b : ℕ) → a ≤ b → (p : List ℕ) → Upto a p → Upto b p
upto-grows a b h [] u = tt
upto-grows a b h (x ∷ p) u = (omega (arith, u.0), upto-grows a b h p u.1)

-- every group is 0 or e
abbrev pub Wiped : ℕ → List ℕ → Type 0
Wiped e [] = Unit {0}
Wiped e (x ∷ xs) = ((x ≡ 0) ⊎ (x ≡ e)) × Wiped e xs

zeros-skip : (x : ℕ) (xs : List ℕ) → 0 < x → zeros (x ∷ xs) ≡ zeros xs
unfolding zeros
zeros-skip zero xs h = absurd (omega arith)
zeros-skip (suc x) xs h = refl

zeros-tails : (x : ℕ) (xs ys : List ℕ) → zeros xs ≡ zeros ys → zeros (x ∷ xs) ≡ zeros (x ∷ ys)
unfolding zeros
zeros-tails zero xs ys h = ap suc h
zeros-tails (suc x) xs ys h = h

pub lay-skip : (x : ℕ) (xs ps : List ℕ) → 0 < x → lay (x ∷ xs) ps ≡ x ∷ lay xs ps
unfolding lay
lay-skip zero xs ps h = absurd (omega arith)
lay-skip (suc x) xs ps h = refl

-- any choice leaves zeros and e, as many groups, and only grows; what was nonzero is e
pub by-wiped : (e : ℕ) (ks : List Bool) (gs : List ℕ) → Wiped e (erase_by e ks gs)
unfolding erase_by
by-wiped e ks [] = tt
by-wiped e [] (zero ∷ gs) = (inl refl, by-wiped e [] gs)
by-wiped e [] (suc x ∷ gs) = (inr refl, by-wiped e [] gs)
by-wiped e (true ∷ ks) (zero ∷ gs) = (inr refl, by-wiped e ks gs)
by-wiped e (false ∷ ks) (zero ∷ gs) = (inl refl, by-wiped e ks gs)
by-wiped e (k ∷ ks) (suc x ∷ gs) = (inr refl, by-wiped e ks gs)

pub by_length : (e : ℕ) (ks : List Bool) (gs : List ℕ) → length (erase_by e ks gs) ≡ length gs
unfolding erase_by
by_length e ks [] = refl
by_length e [] (zero ∷ gs) = ap suc (by_length e [] gs)
by_length e [] (suc x ∷ gs) = ap suc (by_length e [] gs)
by_length e (k ∷ ks) (zero ∷ gs) = ap suc (by_length e ks gs)
by_length e (k ∷ ks) (suc x ∷ gs) = ap suc (by_length e ks gs)

-- so does erasing the leftmost, which leaves `spare` zeros fewer
pub erase-wiped : (e spare : ℕ) (gs : List ℕ) → Wiped e (erase e spare gs)
unfolding erase
erase-wiped e spare gs = by-wiped e (leftmost spare gs) gs

pub erase-length : (e spare : ℕ) (gs : List ℕ) → length (erase e spare gs) ≡ length gs
unfolding erase
erase-length e spare gs = by_length e (leftmost spare gs) gs

pub erase-zeros : (e spare : ℕ) (gs : List ℕ) → 0 < e → zeros (erase e spare gs) ≡ zeros gs - spare
unfolding erase erase_by leftmost zeros
erase-zeros e spare [] pos = omega arith
erase-zeros e spare (suc x ∷ gs) pos = zeros-skip e (erase e spare gs) pos ∙ erase-zeros e spare gs pos
erase-zeros e zero (zero ∷ gs) pos = omega (arith, erase-zeros e zero gs pos)
erase-zeros e (suc spare) (zero ∷ gs) pos = omega (arith, zeros-skip e (erase e spare gs) pos, erase-zeros e spare gs pos)

-- a pattern of values below e laid into all the zero groups is what is not erased
pub record Laid (e : ℕ) (gs p after : List ℕ) : Type 0 where
  pub carried : unerased e after ≡ p
  pub left : zeros after ≡ zeros p
  pub long : length after ≡ length gs
  pub small : Upto e after

pub lay-is : (e : ℕ) (gs p : List ℕ) → 0 < e → Wiped e gs → length p ≡ zeros gs → Upto (e - 1) p → Laid e gs p (lay gs p)
unfolding lay zeros unerased
lay-is e [] [] pos w l u = record { carried = refl; left = refl; long = refl; small = tt }
lay-is e [] (y ∷ p) pos w l u = absurd (omega arith)
lay-is e (suc x ∷ gs) p pos w l u =
    let ih = lay-is e gs p pos w.1 l u in
    let q : suc x ≡ e = elim w.0 [ inl z ↦ absurd (omega arith) | inr q ↦ q ] in
    record { carried = rw (eq-eqb (suc x) e q) ih.carried; left = ih.left; long = ap suc ih.long; small = (omega arith, ih.small) }
lay-is e (zero ∷ gs) [] pos w l u = absurd (omega arith)
lay-is e (zero ∷ gs) (y ∷ p) pos w l u =
    let ih = lay-is e gs p pos w.1 (omega arith) u.1 in
    record {
      carried = rw (ne_eqb y e (λ q. omega (arith, u.0)), ih.carried);
      left = zeros-tails y (lay gs p) p ih.left;
      long = ap suc ih.long;
      small = (omega (arith, u.0), ih.small);
    }

-- into blank groups
pub lay-blank : (gs p : List ℕ) → written gs ≡ 0 → length p ≡ length gs → lay gs p ≡ p
unfolding lay written
lay-blank [] [] z l = refl
lay-blank [] (y ∷ p) z l = absurd (omega arith)
lay-blank (suc x ∷ gs) p z l = absurd (omega arith)
lay-blank (zero ∷ gs) [] z l = absurd (omega arith)
lay-blank (zero ∷ gs) (y ∷ p) z l = ap (λ (t : List ℕ). y ∷ t) (lay-blank gs p z (omega arith))

pub lay-grows : (e : ℕ) (gs p : List ℕ) → Grows e gs (lay gs p)
unfolding lay
lay-grows e [] p = tt
lay-grows e (suc x ∷ gs) p = (inr (inl refl), lay-grows e gs p)
lay-grows e (zero ∷ gs) [] = (inl refl, lay-grows e gs [])
lay-grows e (zero ∷ gs) (y ∷ p) = (inl refl, lay-grows e gs p)

pub by-grows : (e : ℕ) (ks : List Bool) (gs p : List ℕ) → 0 < e → Grows e gs (lay (erase_by e ks gs) p)
unfolding erase_by lay
by-grows e ks [] p pos = tt
by-grows e [] (zero ∷ gs) [] pos = (inl refl, by-grows e [] gs [] pos)
by-grows e [] (zero ∷ gs) (y ∷ p) pos = (inl refl, by-grows e [] gs p pos)
by-grows e [] (suc x ∷ gs) p pos = rw (lay-skip e (erase_by e [] gs) p pos) (inr (inr refl), by-grows e [] gs p pos)
by-grows e (true ∷ ks) (zero ∷ gs) p pos = rw (lay-skip e (erase_by e ks gs) p pos) (inl refl, by-grows e ks gs p pos)
by-grows e (false ∷ ks) (zero ∷ gs) [] pos = (inl refl, by-grows e ks gs [] pos)
by-grows e (false ∷ ks) (zero ∷ gs) (y ∷ p) pos = (inl refl, by-grows e ks gs p pos)
by-grows e (k ∷ ks) (suc x ∷ gs) p pos = rw (lay-skip e (erase_by e ks gs) p pos) (inr (inr refl), by-grows e ks gs p pos)

-- what is not erased has the same zero groups
pub unerased-zeros : (e : ℕ) (gs : List ℕ) → 0 < e → zeros (unerased e gs) ≡ zeros gs
unfolding unerased zeros
unerased-zeros e [] pos = refl
unerased-zeros e (zero ∷ gs) pos = rw (ne_eqb 0 e (λ q. omega arith), unerased-zeros e gs pos)
unerased-zeros e (suc x ∷ gs) pos = elim (ℕ_discrete (suc x) e) [
  | yes q ↦ rw (eq-eqb (suc x) e q, unerased-zeros e gs pos)
  | no d ↦ rw (ne_eqb (suc x) e d, unerased-zeros e gs pos)
]

-- blank groups: all are zero, and nothing is erased where none is spare
pub blank-zeros : (gs : List ℕ) → written gs ≡ 0 → zeros gs ≡ length gs
blank-zeros gs z = omega (arith, zeros-written gs)

pub zeros-blank : (gs : List ℕ) → zeros gs ≡ length gs → written gs ≡ 0
zeros-blank gs z = omega (arith, zeros-written gs)

pub erase-blank : (e : ℕ) (gs : List ℕ) → written gs ≡ 0 → erase e 0 gs ≡ gs
unfolding erase erase_by leftmost written
erase-blank e [] z = refl
erase-blank e (zero ∷ gs) z = ap (λ (t : List ℕ). 0 ∷ t) (erase-blank e gs z)
erase-blank e (suc x ∷ gs) z = absurd (omega arith)

-- groups of all ones behind others: none is zero, all are erased, and erasing and laying pass them by; f is 2^m − 2
pub zeros-padded : (f k : ℕ) (gs : List ℕ) → zeros (gs ++ replicate k (suc f)) ≡ zeros gs
unfolding zeros
zeros-padded f zero [] = refl
zeros-padded f (suc k) [] = zeros-padded f k []
zeros-padded f k (zero ∷ gs) = ap suc (zeros-padded f k gs)
zeros-padded f k (suc x ∷ gs) = zeros-padded f k gs

pub unerased-padded : (e k : ℕ) (gs : List ℕ) → unerased e (gs ++ replicate k e) ≡ unerased e gs
unfolding unerased
unerased-padded e zero [] = refl
unerased-padded e (suc k) [] = rw (eq-eqb e e refl) (unerased-padded e k [])
unerased-padded e k (x ∷ gs) = rw (unerased-padded e k gs)

pub erase-padded : (f spare k : ℕ) (gs : List ℕ) → erase (suc f) spare (gs ++ replicate k (suc f)) ≡ erase (suc f) spare gs ++ replicate k (suc f)
unfolding erase erase_by leftmost
erase-padded f spare zero [] = refl
erase-padded f spare (suc k) [] = ap (◌∷◌ (suc f)) (erase-padded f spare k [])
erase-padded f spare k (suc x ∷ gs) = ap (◌∷◌ (suc f)) (erase-padded f spare k gs)
erase-padded f zero k (zero ∷ gs) = ap (◌∷◌ 0) (erase-padded f zero k gs)
erase-padded f (suc spare) k (zero ∷ gs) = ap (◌∷◌ (suc f)) (erase-padded f spare k gs)

pub lay-padded : (f k : ℕ) (gs ps : List ℕ) → lay (gs ++ replicate k (suc f)) ps ≡ lay gs ps ++ replicate k (suc f)
unfolding lay
lay-padded f zero [] ps = refl
lay-padded f (suc k) [] ps = ap (◌∷◌ (suc f)) (lay-padded f k [] ps)
lay-padded f k (suc x ∷ gs) ps = ap (◌∷◌ (suc x)) (lay-padded f k gs ps)
lay-padded f k (zero ∷ gs) [] = ap (◌∷◌ 0) (lay-padded f k gs [])
lay-padded f k (zero ∷ gs) (p ∷ ps) = ap (◌∷◌ p) (lay-padded f k gs ps)

pub lay-length : (gs ps : List ℕ) → length (lay gs ps) ≡ length gs
unfolding lay
lay-length [] ps = refl
lay-length (suc x ∷ gs) ps = ap suc (lay-length gs ps)
lay-length (zero ∷ gs) [] = ap suc (lay-length gs [])
lay-length (zero ∷ gs) (p ∷ ps) = ap suc (lay-length gs ps)
