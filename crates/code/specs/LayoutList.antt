-- Document 02, §3, "Layouts said once", and §7 (RULES 9): the layout list that a new dump begins with. Its numbers are those of the old dump.
use Rattle.std.specs.Prelude.{ℕ, zero, suc, Bool, cond, not, ◌&&◌, List, [], ◌∷◌, ◌++◌, leb, ltb, eqb, length, get_or, drop}
use Rattle.code.specs.declared.Shape.{Shape}
use Rattle.code.specs.Shape.{ranges_due, given}
use Rattle.code.specs.Calls.{filled}
use Rattle.code.specs.Numerals.{numerals_of, Numbers, cut, numbers, read_numbers}

-- 02, §3, §7; RULES 9: "form, m, t, v of each"; "form, m, t and then t ranges"
pub record Listed : Type 0 where
  pub form : ℕ
  pub m : ℕ
  pub t : ℕ
  pub ranges : List ℕ

-- the numbers of a listed layout, in their order
unfoldable pub listed_numbers : Listed → List ℕ
listed_numbers l = l.form ∷ l.m ∷ l.t ∷ l.ranges

-- a layout of the numbers form, m, t and its ranges
unfoldable pub listed_by : List ℕ → Listed
listed_by xs = record { form = get_or xs 0 0; m = get_or xs 1 0; t = get_or xs 2 0; ranges = drop 3 xs }

-- what stands for a layout that is not in the list; no record is given with one
abbrev pub unlisted : Listed
unlisted = record { form = 0; m = 0; t = 0; ranges = 0 ∷ [] }

-- a listed layout as the shape of a field, and back
unfoldable pub listed_shape : Listed → Shape
listed_shape l = record { form = l.form; m = l.m; t = l.t; count = length l.ranges; v = filled 16 l.ranges }

unfoldable pub listed_of : Shape → Listed
listed_of s = record { form = s.form; m = s.m; t = s.t; ranges = given s }

-- "form, m, t, v of each", "Numbers stay seven-bit groups": the bytes of layouts
unfoldable pub layouts_of : List Listed → List ℕ
layouts_of [] = []
layouts_of (l ∷ ls) = numerals_of (listed_numbers l) ++ layouts_of ls

-- the layout list, read: the layouts and where the records begin, or "a broken layout list"
pub data Layouts : Type 0 where
  broken_list : Layouts
  layouts : List Listed → ℕ → Layouts

-- "of each", one after the other: one more in front
unfoldable pub led_layouts : Listed → Layouts → Layouts
led_layouts l broken_list = broken_list
led_layouts l (layouts ls start) = layouts (l ∷ ls) start

-- 02, §7; RULES 9: "in a dump, t outside 2 to 16 here is a broken layout list", where the numbers form, m, t come first
unfoldable pub uncounted : List ℕ → Bool
uncounted xs = eqb (get_or xs 0 0) 2 && not (leb 2 (get_or xs 2 0) && leb (get_or xs 2 0) 16)

-- numbers and those behind them
unfoldable pub followed : List ℕ → Numbers → Numbers
followed xs cut = cut
followed xs (numbers ys end) = numbers (xs ++ ys) end

-- 02, §3, §7; RULES 9: the numbers of a layout: "form, m, t, v"; of form 2: "form, m, t and then t ranges"
unfoldable pub read_layout : List ℕ → ℕ → Numbers
read_layout bytes at = elim (read_numbers 3 bytes at) [
  | cut ↦ cut
  | numbers xs end ↦ cond (uncounted xs) cut (followed xs (read_numbers (ranges_due (get_or xs 0 0) (get_or xs 2 0)) bytes end))
]

-- so many layouts one after the other
unfoldable pub read_layouts : ℕ → List ℕ → ℕ → Layouts
read_layouts zero bytes at = layouts [] at
read_layouts (suc k) bytes at = elim (read_layout bytes at) [ cut ↦ broken_list | numbers xs end ↦ led_layouts (listed_by xs) (read_layouts k bytes end) ]

-- "a broken layout list, or a count above 64"
unfoldable pub counted_layouts : List ℕ → Numbers → Layouts
counted_layouts bytes cut = broken_list
counted_layouts bytes (numbers xs end) = cond (ltb 64 (get_or xs 0 0)) broken_list (read_layouts (get_or xs 0 0) bytes end)

-- "the count of layouts (at most 64), then form, m, t, v of each"
unfoldable pub layout_list : List ℕ → Layouts
layout_list bytes = counted_layouts bytes (read_numbers 1 bytes 0)
