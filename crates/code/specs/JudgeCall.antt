-- Document 02, §8 (RULES 12, 13, 15): judging a field before and after, on bytes, with its refusals.
use Rattle.std.specs.Prelude.{ℕ, ◌≡◌, cond, List, [], ◌∷◌, eqb}
use Rattle.code.specs.declared.Shape.{Shape}
use Rattle.code.specs.Shape.{outside, misfit, counts_of, code_of}
use Rattle.code.specs.Code.{Code}
use Rattle.code.specs.Cells.{stored}
use Rattle.code.specs.Calls.{groups_in, refusal, answer, filled, refusal_in, generation_in, unerased_in, field_read, unsound, numberless, miscounts, exceeds, count_told, generation}
use Rattle.code.specs.Judge.{Rightly, Verdict, right, wrong, judges}

-- 02, §8; RULES 15: "some choice of spare groups makes the after cells a right write of that number on the before cells", of the groups of two fields
abbrev pub RightGroups : Code → List ℕ → ℕ → List ℕ → Type 0
RightGroups c before x bytes = Rightly c (groups_in c before) x (groups_in c bytes)

-- 02, §8; RULES 15: the same of all cells: what lies behind the groups is 0
pub record RightCells (c : Code) (before : List ℕ) (x : ℕ) (bytes : List ℕ) : Type 0 where
  pub groups : List ℕ
  pub rightly : Rightly c (groups_in c before) x groups
  pub laid : bytes ≡ stored c.order c.m groups

-- 02, §8; RULES 15: the tests, of the groups of both buffers
unfoldable pub judge_cells : Code → List ℕ → List ℕ → Verdict
judge_cells c before bytes = judges c (groups_in c before) (groups_in c bytes)

-- 02, §8; RULES 15: "Refusals: as for a read, of the before cells first, except that blank ones never give 11; then of the after cells": 1, 2, 3, 15, 16, 3, 11, 15, 16
unfoldable pub judge_refusal : Shape → List ℕ → List ℕ → List ℕ
judge_refusal s before bytes = let r = field_read s before in let q = field_read s bytes in refusal (
    (1 ∷ [], outside s 256) ∷
    (2 ∷ [], misfit 256 (counts_of s)) ∷
    (3 ∷ [], unsound s before) ∷
    (15 ∷ generation r ∷ count_told r ∷ [], miscounts r) ∷
    (16 ∷ generation r ∷ [], exceeds r) ∷
    (3 ∷ [], unsound s bytes) ∷
    (11 ∷ [], numberless s q) ∷
    (15 ∷ generation q ∷ count_told q ∷ [], miscounts q) ∷
    (16 ∷ generation q ∷ [], exceeds q) ∷ [])

-- 02, §8; RULES 15: "yes with the new number": 1 and the number, or 0 and 0
unfoldable pub verdict_fields : Verdict → List ℕ
verdict_fields (right x) = 1 ∷ x ∷ []
verdict_fields wrong = 0 ∷ 0 ∷ []

-- 02, §8; RULES 15: the call's answer
unfoldable pub judge_reply : Shape → List ℕ → List ℕ → List ℕ
judge_reply s before bytes = answer (judge_refusal s before bytes) (verdict_fields (judge_cells (code_of s) before bytes))

-- docs/DECISIONS.md, 90; RULES 13: the reply in five fields: refusal, yes, number, and what 15 and 16 carry: the generation and the unerased count
unfoldable pub judge_fields : List ℕ → List ℕ
judge_fields reply = cond (eqb (refusal_in reply) 0) (filled 5 reply) (refusal_in reply ∷ 0 ∷ 0 ∷ generation_in reply ∷ unerased_in reply ∷ [])
