-- Document 01, "Layout" (RULES 1, 2): a field whose layout is granted.
use Rattle.code.specs.declared.Shape.{Shape}
use Rattle.shapes.specs.Outlines.{outlined}
use Rattle.layout.specs.declared.field.Field.{Field}

-- RULES 1: its shape
abbrev pub shape_of : Field → Shape
shape_of f = outlined f.outline f.v.now
