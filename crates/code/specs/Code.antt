-- Document 01, "Dealing", with 02, §2 and §7 (RULES 2, 3, 4): what a field is read and written by, and one generation of it. Generation n + 1 stands at place n
-- of the counts and of the ranges, and the count after the last generation is 0.
use Rattle.std.specs.Prelude.{ℕ, zero, suc, ◌+◌, ◌-◌, ◌^◌, List, get_or}
use Rattle.code.specs.declared.Dealing.{Dealing}
use Rattle.code.specs.declared.Dealing.TheVariants.{Patterns, Digits}
use Rattle.code.specs.declared.Generation.{Generation}
use Rattle.code.specs.Count.{fewer}
use Rattle.code.specs.Deal.{number, deal, plain, plainly}

-- RULES 2, 3, 4: the code of a field: the order of its bits, the wits of a group, the least number of places that generation 1 writes, the counts h_1 .. h_t and
-- the ranges v_1 .. v_t
pub record Code : Type 0 where
  pub order : ℕ
  pub m : ℕ
  pub first : ℕ
  pub counts : List ℕ
  pub ranges : List ℕ

-- 01, Cells in bytes; RULES 3: "erased (value 2^m − 1)"
abbrev pub erased : Code → ℕ
erased c = 2 ^ c.m - 1

-- 01, Layout; RULES 2: h_1, the groups of the field
abbrev pub width : Code → ℕ
width c = get_or c.counts 0 0

-- 01, Dealing; RULES 4: a generation deals patterns; "Generation t: .. digits in base 2^m − 1", which no count (0) follows; e is 2^m − 1
unfoldable pub deals : ℕ → ℕ → ℕ → ℕ → Dealing
deals e b fewest zero = Digits e
deals e b fewest (suc h') = Patterns b fewest

-- 01, Dealing; RULES 4: "Generation 1: .. b = 2^m − 1, k from 0" (02, §2: "k from 1"); "Generations 2 to t − 1: .. b = 2^m − 2, k from 1"
unfoldable pub dealt : ℕ → ℕ → ℕ → ℕ → Dealing
dealt e first zero next = deals e e first next
dealt e first (suc n) next = deals e (e - 1) 1 next

-- 01, Dealing; RULES 4: the generation at a place of the counts
abbrev pub generation_at : Code → ℕ → Generation
generation_at c n = record {
  places = get_or c.counts n 0;
  next = get_or c.counts (suc n) 0;
  dealing = dealt (erased c) c.first n (get_or c.counts (suc n) 0);
  range = get_or c.ranges n 0;
}

-- 01, Dealing; RULES 4: the number that places tell: "Its number is"; "the digits .. of the number plus 1"
unfoldable pub told : Dealing → List ℕ → ℕ
told (Patterns b first) xs = number b first xs
told (Digits e) xs = plain e xs - 1

-- 01, Dealing; RULES 4: the pattern that has number x in h places, by the same two sentences
unfoldable pub pattern : Dealing → ℕ → ℕ → List ℕ
pattern (Patterns b first) h x = deal b first h x
pattern (Digits e) h x = plainly e h (x + 1)

-- 01, Layout; RULES 2: b, c and d as one: how many numbers h groups hold that leave h' of them zero
unfoldable pub room : Dealing → ℕ → ℕ → ℕ
room (Patterns b first) h h' = fewer b h first (suc (h - h'))
room (Digits e) h h' = e ^ h - 1
