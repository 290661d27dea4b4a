-- Documents 01 and 02, §2 and §7 (RULES 1, 2, 3): what a caller gives of a field, and what the general definitions take of it. There are three forms and one
-- order of bits.
use Rattle.std.specs.Prelude.{ℕ, ◌^◌, Bool, true, cond, not, ◌&&◌, List, [], ◌∷◌, leb, ltb, eqb, get_or, replicate}
use Rattle.code.specs.declared.Shape.{Shape}
use Rattle.code.specs.Cells.{listed}
use Rattle.code.specs.Layout.{grant}
use Rattle.code.specs.Code.{Code}

-- 01, Numbers that bound everything; RULES 1: one v for every generation: a shape with one range
abbrev pub single : ℕ → ℕ → ℕ → ℕ → Shape
single form m t v = record { form = form; m = m; t = t; count = 1; v = v ∷ replicate 15 0 }

-- 02, §2; RULES 1, 8: "Form 0 stays for drives in service": document 01's m, t and v as a shape, which the old export takes and the old dump holds
abbrev pub shaped : ℕ → ℕ → ℕ → Shape
shaped m t v = single 0 m t v

-- 01, Dealing; 02, §2; RULES 1: "Generation 1: .. k from 0"; "Add form 1: generation 1 writes k from 1": the least number of places that it writes
unfoldable pub first_of : Shape → ℕ
first_of s = cond (eqb s.form 0) 0 1

-- 02, §7; RULES 1: "Take a list of t ranges .. with form 2"; the other forms have one v
unfoldable pub ranges_due : ℕ → ℕ → ℕ
ranges_due form t = cond (eqb form 2) t 1

-- RULES 1: the ranges that are given
unfoldable pub given : Shape → List ℕ
given s = listed (λ i. get_or s.v i 0) 0 s.count

-- 01, Layout; 02, §7; RULES 1: one v for every generation; "conditions b, c and d each with its own v_i", as 003 has v_1 .. v_t
unfoldable pub ranges_of : Shape → List ℕ
ranges_of s = cond (eqb s.form 2) (given s) (replicate s.t (get_or s.v 0 0))

-- 01, Cells in bytes; RULES 3: "Wit w is bit 7 − (w mod 8)", the high bit first
unfoldable pub order_of : Shape → ℕ
order_of s = 0

-- 01, Numbers that bound everything; 02, §7; RULES 1: "v, range: 2 to 2^56"; "each 2 to 2^56"
unfoldable pub all_ranges : List ℕ → Bool
all_ranges [] = true
all_ranges (v ∷ vs) = (leb 2 v && leb v (2 ^ 56)) && all_ranges vs

-- 01, Numbers that bound everything; 02, §2, §7; RULES 1, 2: "m, cells (wits) in a group: 2 to 4. t, generations: 2 to 16"; "g, groups offered to a
-- layout: 0 to 256"; "A form above 1 is refusal 1", which is one above 2 since §7; "a list not of t ranges is 1"
unfoldable pub outside : Shape → ℕ → Bool
outside s g =
    not (leb s.form 2 && (leb 2 s.m && leb s.m 4) && (leb 2 s.t && leb s.t 16)
    && eqb s.count (ranges_due s.form s.t) && all_ranges (given s) && leb g 256)

-- 01, Layout; RULES 2: "The granted list"
unfoldable pub granted : Shape → ℕ → List ℕ
granted s g = grant g s.m (first_of s) (ranges_of s)

-- 01, Layout; RULES 2: "It fits when h_1 ≤ g"
unfoldable pub misfit : ℕ → List ℕ → Bool
misfit g hs = ltb g (get_or hs 0 0)

-- 01, Numbers that bound everything; RULES 2: "Read, write and export ask for their layout with g = 256"
unfoldable pub counts_of : Shape → List ℕ
counts_of s = granted s 256

-- RULES 2: h_1 of that list, the groups of the field
unfoldable pub width_of : Shape → ℕ
width_of s = get_or (counts_of s) 0 0

-- RULES 1, 2, 3: the code of a field
abbrev pub code_of : Shape → Code
code_of s = record { order = order_of s; m = s.m; first = first_of s; counts = counts_of s; ranges = ranges_of s }
