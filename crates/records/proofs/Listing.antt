-- What a loop over the layouts of a list knows: begun, a layout more, broken, all of them.
use mathlib.Core.Path.{◌≡◌, refl, sym, ap, ◌∙◌}
use mathlib.Core.List.{List, [], ◌∷◌, ◌++◌}
use Prim.Native.Nat.{ℕ, suc, ◌+◌, ◌-◌, ◌≤◌, ◌<◌}
use native.Mathlib.Omega.{arith}
use native.Mathlib.Nat.{sub-zero}
use native.Mathlib.Numerals.{add-one}
use lib.ListN.{length, get_or, take, set, length-set}
use lib.Seq.{take-suc-set}
use borrow.Author.Tests.{lt-ltb, le-ltb}
use Rattle.code.specs.Numerals as Numerals
use Rattle.code.specs.Numerals.{read_numbers}
use Rattle.code.specs.LayoutList.{Listed, listed_by, Layouts, broken_list, layouts, led_layouts, read_layout, read_layouts, counted_layouts, layout_list}
use Rattle.code.proofs.LayoutLists.{layouts-one, layouts-cut, layout-further}
use Rattle.numerals.specs.Number.{numbers_of}
use Rattle.std.proofs.Common.{Option, None, Some}
use Rattle.records.specs.declared.list.LayoutThere.{LayoutThere}
use Rattle.records.specs.Source.{layout_at, layouts_at}
use Rattle.records.specs.List.{there_of, LayoutRead}

-- layouts that are read one after the other, led by those of the first places
unfoldable pub led_by : List Listed → Layouts → Layouts
led_by [] r = r
led_by (l ∷ ls) r = led_layouts l (led_by ls r)

led-more : (ls : List Listed) (l : Listed) (r : Layouts) → led_by (ls ++ (l ∷ [])) r ≡ led_by ls (led_layouts l r)
unfolding led_by
led-more [] l r = refl
led-more (k ∷ ls) l r = ap (led_layouts k) (led-more ls l r)

led-broken : (ls : List Listed) → led_by ls broken_list ≡ broken_list
unfolding led_by led_layouts
led-broken [] = refl
led-broken (l ∷ ls) = rw (led-broken ls)

led-all : (ls : List Listed) (start : ℕ) → led_by ls (layouts [] start) ≡ layouts ls start
unfolding led_by led_layouts
led-all [] start = refl
led-all (l ∷ ls) start = rw (led-all ls start)

layouts-append : (bytes places more : List ℕ) → layouts_at bytes (places ++ more) ≡ layouts_at bytes places ++ layouts_at bytes more
unfolding layouts_at
layouts-append bytes [] more = refl
layouts-append bytes (place ∷ places) more = rw (layouts-append bytes places more)

-- the first i of so many layouts are read and their places kept, and the next one is due at `next`
pub record Listing (count : ℕ) (bytes : List ℕ) (at : ℕ) (places : List ℕ) (next i : ℕ) : Type 0 where
  pub long : length places ≡ 64
  pub most : i ≤ count
  pub reads : read_layouts count bytes at ≡ led_by (layouts_at bytes (take i places)) (read_layouts (count - i) bytes next)

pub listing-begin : (count : ℕ) (bytes : List ℕ) (at : ℕ) (places : List ℕ) → length places ≡ 64 → Listing count bytes at places at 0
unfolding led_by layouts_at
listing-begin count bytes at places long = record { long = long; most = omega arith; reads = rw sub-zero refl }

module _ {count : ℕ} {bytes : List ℕ} {at : ℕ} {places : List ℕ} {next i : ℕ} (h : Listing count bytes at places next i) where
  left : i < count → count - i ≡ suc (count - suc i)
  left l = omega arith

  module _ (before v : List ℕ) {r : Option LayoutThere} (read : LayoutRead bytes next before v r) where
    pub listing-broken : i < count → r ≡ None → broken_list ≡ read_layouts count bytes at
    listing-broken l e =
        let none : read_layout bytes next ≡ Numerals.cut = sym (ap (there_of v) (sym e) ∙ read.reads) in
        rw (h.reads, left l, layouts-cut (count - suc i) bytes next none, led-broken)

    module _ (there : LayoutThere) (e : r ≡ Some there) where
      abbrev xs : List ℕ
      xs = let f = there.outline in f.form ∷ f.m ∷ f.t ∷ take f.count v

      some : read_layout bytes next ≡ Numerals.numbers xs there.end
      some = sym (ap (there_of v) (sym e) ∙ read.reads)

      -- its place is one of the dump
      pub listing-place : length bytes ≤ 65536 → next < 65536
      listing-place short = omega (arith, layout-further bytes next xs there.end some)

      pub listing-next : i < count → i < 64 → Listing count bytes at (set places i next) there.end (i + 1)
      unfolding layouts_at layout_at
      listing-next l k =
          let turn = layouts-one (count - suc i) bytes next xs there.end some in
          let one : layouts_at bytes (next ∷ []) ≡ listed_by xs ∷ [] = rw some in
          record {
            long = length-set places i next ∙ h.long;
            most = omega arith;
            reads = rw (add-one i, take-suc-set places i next (omega (arith, h.long)), layouts-append, one, led-more, ← turn, ← left l) h.reads;
          }

  pub listing-end : count ≤ i → layouts (layouts_at bytes (take count places)) next ≡ read_layouts count bytes at
  unfolding read_layouts
  listing-end l =
      let all : i ≡ count = omega (arith, h.most) in
      let none : count - i ≡ 0 = omega arith in
      rw (h.reads, none, ← all, led-all)

-- the list at the front of a dump, by its count
module _ (bytes xs : List ℕ) {r : Option ℕ} (read : numbers_of xs r ≡ read_numbers 1 bytes 0) where
  pub count_cut : r ≡ None → broken_list ≡ layout_list bytes
  unfolding layout_list counted_layouts
  count_cut e = ap (counted_layouts bytes) (ap (numbers_of xs) (sym e) ∙ read)

  module _ {end : ℕ} (e : r ≡ Some end) where
    pub count-over : 64 < get_or xs 0 0 → broken_list ≡ layout_list bytes
    unfolding layout_list counted_layouts
    count-over h = sym (rw (lt-ltb 64 (get_or xs 0 0) h)) ∙ ap (counted_layouts bytes) (ap (numbers_of xs) (sym e) ∙ read)

    pub count-within : get_or xs 0 0 ≤ 64 → read_layouts (get_or xs 0 0) bytes end ≡ layout_list bytes
    unfolding layout_list counted_layouts
    count-within h = sym (rw (le-ltb 64 (get_or xs 0 0) h)) ∙ ap (counted_layouts bytes) (ap (numbers_of xs) (sym e) ∙ read)
