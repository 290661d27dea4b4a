-- How long a moved dump can be.
use Prim.Native.Nat.{ℕ, suc, ◌+◌, ◌*◌, ◌≤◌}
use mathlib.Core.Path.{◌≡◌, ap, ◌∙◌}
use mathlib.Core.Logic.{inl, inr}
use mathlib.Core.List.{List, [], ◌∷◌, ◌++◌}
use native.Mathlib.Omega.{arith}
use lib.ListN.{length, get_or, length-append}
use Rattle.code.specs.declared.Kind.TheVariants.{Old, New}
use Rattle.code.specs.Numerals.{sevens, numerals_of}
use Rattle.code.specs.LayoutList.{Listed, listed_numbers, listed_of, layouts_of}
use Rattle.code.specs.Export.{record_of}
use Rattle.code.specs.Dump.{own_layouts, listed_layouts, walk}
use Rattle.code.specs.NewDump.{Entry, entry_head, records_of, new_dump_of, stop_of, place_of, joined, first_use, numbered, to_new, to_old}
use Rattle.code.proofs.Tests.{le-or-lt}
use Rattle.code.proofs.Wits.{Bytes}
use Rattle.code.proofs.Digits.{sevens-last, sevens-some, sevens-few}
use Rattle.code.proofs.Parsed.{Sound, AllSound}
use Rattle.code.proofs.LayoutLists.{count-byte, layouts-append}
use Rattle.code.proofs.Dumps.{dump-was, new-printed}
use Rattle.code.proofs.FirstUse.{Lists, own-listed, joined-known, joined-fresh, first-keeps, joined-lists}
use Rattle.code.proofs.Moves.{entries_in, layouts_in}

-- the bytes of a number
abbrev size : ℕ → ℕ
size x = length (sevens 9 x)

-- the bytes of what both records of an entry have
abbrev common : Entry → ℕ
common e = size e.serial + (size (length e.cells) + length e.cells)

old-size : (e : Entry) → length (record_of (entry_head own_layouts e) e.cells) ≡ common e + (size e.shape.m + (size e.shape.t + size (get_or e.shape.v 0 0)))
unfolding record_of entry_head numerals_of
old-size e = simp length-append (omega arith)

new-size : (ls : List Listed) (e : Entry) → length (record_of (entry_head (listed_layouts ls) e) e.cells) ≡ common e + size e.layout
unfolding record_of entry_head numerals_of
new-size ls e = simp length-append (omega arith)

-- the bytes of a layout of form 0
layout-size : (e : Entry) → Sound own_layouts e →
    length (layouts_of (listed_of e.shape ∷ [])) ≡ 1 + (size e.shape.m + (size e.shape.t + size (get_or e.shape.v 0 0)))
unfolding layouts_of listed_numbers numerals_of
layout-size e s = rw (own-listed e s) (simp length-append (omega (arith, ap length (sevens-last 8 0 (omega arith)))))

-- every layout costs two bytes more than its first use has, and every further use costs less
pub moved-from : (es : List Entry) (ls : List Listed) → AllSound own_layouts es → length (first_use ls es) ≤ 64 →
    length (layouts_of (first_use ls es)) + length (records_of (listed_layouts (first_use ls es)) (numbered (first_use ls es) es)) + 2 * length ls
    ≤ length (layouts_of ls) + length (records_of own_layouts es) + 2 * length (first_use ls es)
unfolding first_use numbered records_of
moved-from [] ls s few = omega arith
moved-from (e ∷ es) ls s few =
    let l : Listed = listed_of e.shape in
    let all : List Listed = first_use (joined ls l) es in
    let f : Entry = record { serial = e.serial; layout = place_of all l; shape = e.shape; cells = e.cells } in
    let ih = moved-from es (joined ls l) s.1 few in
    let a : Lists all l = first-keeps es (joined ls l) l (joined-lists ls l) in
    let one : size (place_of all l) ≡ 1 = ap length (sevens-last 8 (place_of all l) (omega arith)) in
    let x = old-size e in
    let y = new-size all f in
    let p = length-append (record_of (entry_head own_layouts e) e.cells) (records_of own_layouts es) in
    let q = length-append (record_of (entry_head (listed_layouts all) f) e.cells) (records_of (listed_layouts all) (numbered all es)) in
    elim (le-or-lt (length ls) (place_of ls l)) [
      | inl g ↦
          let j : joined ls l ≡ ls ++ (l ∷ []) = joined-fresh ls l g in
          let n : length (joined ls l) ≡ suc (length ls) = omega (arith, ap length j, length-append ls (l ∷ [])) in
          let k : length (layouts_of (joined ls l)) ≡ length (layouts_of ls) + length (layouts_of (l ∷ [])) =
          ap (λ ks. length (layouts_of ks)) j ∙ ap length (layouts-append ls (l ∷ [])) ∙ length-append (layouts_of ls) (layouts_of (l ∷ [])) in
          omega (arith, layout-size e s.0)
      | inr g ↦
          let j : joined ls l ≡ ls = joined-known ls l g in
          let n : length (joined ls l) ≡ length ls = ap length j in
          let k : length (layouts_of (joined ls l)) ≡ length (layouts_of ls) = ap (λ ks. length (layouts_of ks)) j in
          omega (arith, sevens-some 8 e.shape.m)
    ]

new-dump-length : (ls : List Listed) (es : List Entry) → length ls ≤ 64 →
    length (new_dump_of ls es) ≡ 1 + (length (layouts_of ls) + length (records_of (listed_layouts ls) es))
unfolding new_dump_of
new-dump-length ls es few = simp length-append (omega (arith, ap length (count-byte (length ls) few)))

-- moving to new adds one byte and two for each layout, at most
pub new-length : (bytes : List ℕ) → Bytes bytes → stop_of (walk Old bytes) ≡ [] → length (first_use [] (entries_in Old bytes)) ≤ 64 →
    length (to_new bytes) ≤ length bytes + 1 + 2 * length (first_use [] (entries_in Old bytes))
unfolding to_new layouts_of
new-length bytes b e few =
    let es : List Entry = entries_in Old bytes in
    let ls : List Listed = first_use [] es in
    let w = dump-was Old bytes b e in
    omega (arith, moved-from es [] w.sound few, ap length w.back, new-dump-length ls (numbered ls es) few)

-- moving to old adds at most 26 bytes to a record, which has three
pub restored-from : (es : List Entry) (ls : List Listed) → length (records_of own_layouts es) ≤ 10 * length (records_of (listed_layouts ls) es)
unfolding records_of
restored-from [] ls = omega arith
restored-from (e ∷ es) ls =
    let x = old-size e in
    let y = new-size ls e in
    let a = length-append (record_of (entry_head own_layouts e) e.cells) (records_of own_layouts es) in
    let b = length-append (record_of (entry_head (listed_layouts ls) e) e.cells) (records_of (listed_layouts ls) es) in
    let m = sevens-few 9 e.shape.m in
    let t = sevens-few 9 e.shape.t in
    let v = sevens-few 9 (get_or e.shape.v 0 0) in
    omega (arith, restored-from es ls, sevens-some 8 e.serial, sevens-some 8 e.layout, sevens-some 8 (length e.cells))

pub old-length : (bytes : List ℕ) → Bytes bytes → stop_of (walk New bytes) ≡ [] → length (to_old bytes) ≤ 10 * length bytes
unfolding to_old
old-length bytes b e =
    let es : List Entry = entries_in New bytes in
    let ls : List Listed = layouts_in bytes in
    omega (arith, restored-from es ls, ap length (new-printed bytes b e), new-dump-length ls es (dump-was New bytes b e).sayable.1)
