-- Documents 01, "Numbers that bound everything", and 02, §2 and §7 (RULES 1): a shape in two parts, and the bounds that are told without a look at the ranges.
use Rattle.std.specs.Prelude.{ℕ, List, Bool, not, ◌&&◌, leb, eqb}
use Rattle.shapes.specs.declared.Outline.{Outline}
use Rattle.code.specs.declared.Shape.{Shape}
use Rattle.code.specs.Shape.{ranges_due}

-- RULES 1: a shape as the code hands it on: its ranges stand in an array beside the rest
abbrev pub outlined : Outline → List ℕ → Shape
outlined f v = record { form = f.form; m = f.m; t = f.t; count = f.count; v = v }

-- RULES 1: the form, m and t are within their bounds, and the ranges are as many as are due
abbrev pub outline_within : Outline → Bool
outline_within f = leb f.form 2 && (leb 2 f.m && leb f.m 4) && (leb 2 f.t && leb f.t 16) && eqb f.count (ranges_due f.form f.t)

-- RULES 1: they are not, so that a shape is outside its bounds whatever its ranges are
unfoldable pub outline_outside : Outline → Bool
outline_outside f = not (outline_within f)
