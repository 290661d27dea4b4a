-- Document 02, §3 (RULES 9): layouts by their places in a dump.
use Rattle.std.specs.Prelude.{ℕ, List, [], ◌∷◌}
use Rattle.code.specs.declared.Kind.{Kind}
use Rattle.code.specs.declared.Kind.TheVariants.{Old, New}
use Rattle.code.specs.Numerals.{Numbers, cut, numbers}
use Rattle.code.specs.LayoutList.{Listed, unlisted, listed_by, read_layout}
use Rattle.code.specs.Dump.{Source, own_layouts, listed_layouts}

abbrev pub listed_from : Numbers → Listed
listed_from cut = unlisted
listed_from (numbers xs end) = listed_by xs

-- the layout whose numbers stand at a place
unfoldable pub layout_at : List ℕ → ℕ → Listed
layout_at bytes place = listed_from (read_layout bytes place)

unfoldable pub layouts_at : List ℕ → List ℕ → List Listed
layouts_at bytes [] = []
layouts_at bytes (place ∷ places) = layout_at bytes place ∷ layouts_at bytes places

-- how the records say their layouts, those of a new dump being kept by their places
unfoldable pub source_of : Kind → List ℕ → List ℕ → Source
source_of Old bytes places = own_layouts
source_of New bytes places = listed_layouts (layouts_at bytes places)
