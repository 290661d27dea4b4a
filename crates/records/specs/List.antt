-- Document 02, §3 and §7 (RULES 9): what reading a layout list answers.
use Rattle.std.specs.Prelude.{ℕ, ◌≤◌, ◌≡◌, true, false, List, ◌∷◌, length, get_or, take, drop, Option, None, Some}
use Rattle.code.specs.Shape.{ranges_due}
use Rattle.code.specs.Numerals.{Numbers, cut, numbers, read_numbers}
use Rattle.code.specs.LayoutList.{Layouts, broken_list, layouts, uncounted, read_layout}
use Rattle.numerals.specs.Number.{numbers_of}
use Rattle.records.specs.Source.{layouts_at}
use Rattle.records.specs.declared.list.LayoutThere.{LayoutThere}
use Rattle.records.specs.declared.list.LayoutList.{LayoutList}

-- how many ranges follow the numbers form, m, t: none where a dump cannot say it, else as many as are due
abbrev pub RangesSaid : List ℕ → Option ℕ → Type 0
RangesSaid xs None = uncounted xs ≡ true
RangesSaid xs (Some n) = (uncounted xs ≡ false) × (ranges_due (get_or xs 0 0) (get_or xs 2 0) ≡ n) × (n ≤ 16)

-- so many ranges are read from a place on, and stand in front of what v was
pub record RangesRead (bytes : List ℕ) (at count : ℕ) (before v : List ℕ) (r : Option ℕ) : Type 0 where
  pub reads : numbers_of (take count v) r ≡ read_numbers count bytes at
  pub kept : drop count v ≡ drop count before
  pub long : length v ≡ length before

-- the numbers of a layout, its ranges being the first of v
abbrev pub there_of : List ℕ → Option LayoutThere → Numbers
there_of v None = cut
there_of v (Some l) = let f = l.outline in numbers (f.form ∷ f.m ∷ f.t ∷ take f.count v) l.end

-- so many ranges stand in front of what v was
abbrev pub Ranged : List ℕ → List ℕ → Option LayoutThere → Type 0
Ranged before v None = Unit {0}
Ranged before v (Some l) = let n = l.outline.count in (n ≤ 16) × (drop n v ≡ drop n before)

pub record LayoutRead (bytes : List ℕ) (at : ℕ) (before v : List ℕ) (r : Option LayoutThere) : Type 0 where
  pub reads : there_of v r ≡ read_layout bytes at
  pub ranged : Ranged before v r
  pub long : length v ≡ 16

-- the list as it is read: its layouts by the places that are kept
abbrev pub list_of : List ℕ → List ℕ → Option LayoutList → Layouts
list_of bytes places None = broken_list
list_of bytes places (Some l) = layouts (layouts_at bytes (take l.count places)) l.start

-- at most so many layouts are kept
abbrev pub Kept : ℕ → Option LayoutList → Type 0
Kept most None = Unit {0}
Kept most (Some l) = l.count ≤ most

pub record ListRead (bytes : List ℕ) (due : Layouts) (places : List ℕ) (r : Option LayoutList) : Type 0 where
  pub reads : list_of bytes places r ≡ due
  pub few : Kept 64 r
  pub long : length places ≡ 64
