-- Document 02, §8 (RULES 15): a right write by some choice of spare groups, and the tests that decide it, on groups.
use Rattle.std.specs.Prelude.{ℕ, zero, suc, ◌+◌, ◌<◌, ◌≡◌, Bool, true, cond, ◌&&◌, List, [], ◌∷◌, eqb, length}
use Rattle.code.specs.Code.{Code, erased, generation_at}
use Rattle.code.specs.Field.{zeros, Reading, blank, reads, miscounted, beyond, read, cleared_by, after_by}

-- 02, §8; RULES 15: "some choice of spare groups makes the after cells a right write of that number on the before cells", at generation n + 1: there is one, the number is
-- in its range, and the choice leaves as many zero groups as it has places
pub record RightWrite (c : Code) (before : List ℕ) (n x : ℕ) (gs : List ℕ) : Type 0 where
  pub there : n < length c.counts
  pub ranged : x < (generation_at c n).range
  pub chosen : List Bool
  pub exact : zeros (cleared_by (erased c) n chosen before) ≡ (generation_at c n).places
  pub made : gs ≡ after_by c chosen n x before

-- 02, §8; 01, Writing; RULES 15: the generations before the due one: "All-zero cells are written at generation 1. Cells read as generation i < t are written at i + 1";
-- "Blank before cells are due generation 1 in every form"
abbrev pub Due : Reading → ℕ → Type 0
Due blank n = n ≡ 0
Due (reads i y) n = n ≡ i
Due (miscounted i u) n = ⊥
Due (beyond i) n = ⊥

-- 02, §8; RULES 15: a right write of x on groups by what they read as
pub record Rightly (c : Code) (before : List ℕ) (x : ℕ) (gs : List ℕ) : Type 0 where
  pub place : ℕ
  pub due : Due (read c before) place
  pub write : RightWrite c before place x gs

-- 02, §8; RULES 15: "say yes with the new number", or no
pub data Verdict : Type 0 where
  right : (number : ℕ) → Verdict
  wrong : Verdict

-- 02, §8; RULES 15: "every group nonzero before is erased after"
unfoldable pub wipes : ℕ → List ℕ → List ℕ → Bool
wipes e [] ys = true
wipes e (x ∷ xs) [] = true
wipes e (zero ∷ xs) (y ∷ ys) = wipes e xs ys
wipes e (suc x ∷ xs) (y ∷ ys) = eqb y e && wipes e xs ys

-- 02, §8; RULES 15: ".. from generation 2 on"
unfoldable pub wiped : ℕ → ℕ → List ℕ → List ℕ → Bool
wiped e zero before gs = true
wiped e (suc n) before gs = wipes e before gs

-- 02, §8; RULES 15: "the after cells read as the due generation", n + 1: its number; blank cells read as generation 1, number 0, where that may write no place
unfoldable pub read_as : ℕ → ℕ → Reading → Verdict
read_as first n blank = cond (eqb (first + n) 0) (right 0) wrong
read_as first n (reads i x) = cond (eqb i (suc n)) (right x) wrong
read_as first n (miscounted i u) = wrong
read_as first n (beyond i) = wrong

-- 02, §8; RULES 15: the tests at the due generation n + 1; that there is one is not among them: no cells read as generation t + 1
unfoldable pub judge_at : Code → ℕ → List ℕ → List ℕ → Verdict
judge_at c n before gs = cond (wiped (erased c) n before gs) (read_as c.first n (read c gs)) wrong

unfoldable pub judge_on : Code → List ℕ → List ℕ → Reading → Verdict
judge_on c before gs blank = judge_at c 0 before gs
judge_on c before gs (reads i y) = judge_at c i before gs
judge_on c before gs (miscounted i u) = wrong
judge_on c before gs (beyond i) = wrong

-- 02, §8; RULES 15: of groups before and after
unfoldable pub judges : Code → List ℕ → List ℕ → Verdict
judges c before gs = judge_on c before gs (read c before)
