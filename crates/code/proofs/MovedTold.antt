-- A moved dump tells the same records, what a move makes are bytes, and only settled dumps come back there.
use Prim.Native.Nat.{ℕ}
use mathlib.Core.Path.{◌≡◌, refl, sym, ap, ◌∙◌}
use mathlib.Core.List.{List, [], ◌∷◌, ◌++◌}
use lib.ListN.{length, get_or, drop}
use Rattle.code.specs.declared.Kind.TheVariants.{Old, New}
use Rattle.code.specs.Numerals.{numerals_of}
use Rattle.code.specs.LayoutList.{Listed, listed_numbers, layouts_of}
use Rattle.code.specs.Export.{record_of}
use Rattle.code.specs.Dump.{Source, own_layouts, listed_layouts, Step, taken, ended, stopped, cells_of, walk}
use Rattle.code.specs.NewDump.{Entry, entry_head, records_of, new_dump_of, entries_of, first_use, numbered, to_new, to_new_reply, to_old, to_old_reply}
use Rattle.code.proofs.Wits.{Bytes}
use Rattle.code.proofs.ByteLists.{bytes_drop, bytes_take, bytes-append, bytes-none, numerals-bytes}
use Rattle.code.proofs.Records.{head_of}
use Rattle.code.proofs.Told.{told_of, told_by, told-by}
use Rattle.code.proofs.Settling.{first-settled}
use Rattle.code.proofs.Moves.{entries_in, new_told, old-told, there, back, SettledDump}
use Rattle.code.specs.Calls.{refusal_in}

told-numbered : (es : List Entry) (ls : List Listed) → told_by (numbered ls es) ≡ told_by es
unfolding told_by numbered
told-numbered [] ls = refl
told-numbered (e ∷ es) ls = cc (told-numbered es ls)

-- the walk of a moved dump tells the same serials, layouts, readings and cells in order
pub moved_told : (bytes out : List ℕ) → Bytes bytes → refusal_in (to_new_reply bytes out) ≡ 0 →
    told_of (to_new bytes) (walk New (to_new bytes)) ≡ told_of bytes (walk Old bytes)
moved_told bytes out b e =
    let es : List Entry = entries_in Old bytes in
    told-by (to_new bytes) (walk New (to_new bytes)) ∙ ap told_by (there bytes b (new_told bytes out e).0).parsed ∙ told-numbered es (first_use [] es)
    ∙ sym (told-by bytes (walk Old bytes))

-- and so does the walk of a dump moved back
pub back-told : (bytes out : List ℕ) → Bytes bytes → refusal_in (to_old_reply bytes out) ≡ 0 →
    told_of (to_old bytes) (walk Old (to_old bytes)) ≡ told_of bytes (walk New bytes)
back-told bytes out b e =
    told-by (to_old bytes) (walk Old (to_old bytes)) ∙ ap told_by (back bytes b (old-told bytes out e).0).parsed ∙ told-numbered (entries_in New bytes) []
    ∙ sym (told-by bytes (walk New bytes))

-- What a move makes are bytes.
abbrev AllBytes : List Entry → Type 0
AllBytes [] = Unit {0}
AllBytes (e ∷ es) = Bytes e.cells × AllBytes es

entries-bytes : (bytes : List ℕ) (steps : List Step) → Bytes bytes → AllBytes (entries_of bytes steps)
unfolding entries_of cells_of
entries-bytes bytes [] b = tt
entries-bytes bytes (taken r ∷ steps) b = (bytes_take r.count (drop r.start bytes) (bytes_drop bytes r.start b), entries-bytes bytes steps b)
entries-bytes bytes (ended ∷ steps) b = tt
entries-bytes bytes (stopped k carried ∷ steps) b = tt

numbered-bytes : (es : List Entry) (ls : List Listed) → AllBytes es → AllBytes (numbered ls es)
unfolding numbered
numbered-bytes [] ls h = tt
numbered-bytes (e ∷ es) ls h = (h.0, numbered-bytes es ls h.1)

records-bytes : (source : Source) (es : List Entry) → AllBytes es → Bytes (records_of source es)
unfolding records_of record_of
records-bytes source [] h = bytes-none
records-bytes source (e ∷ es) h =
    let front : List ℕ = numerals_of (head_of (entry_head source e) e.cells) in
    bytes-append (front ++ e.cells) (records_of source es) (bytes-append front e.cells (numerals-bytes (head_of (entry_head source e) e.cells)) h.0)
    (records-bytes source es h.1)

layouts-bytes : (ls : List Listed) → Bytes (layouts_of ls)
unfolding layouts_of
layouts-bytes [] = bytes-none
layouts-bytes (l ∷ ls) = bytes-append (numerals_of (listed_numbers l)) (layouts_of ls) (numerals-bytes (listed_numbers l)) (layouts-bytes ls)

pub new-bytes : (bytes : List ℕ) → Bytes bytes → Bytes (to_new bytes)
unfolding to_new new_dump_of
new-bytes bytes b =
    let es : List Entry = entries_in Old bytes in
    let ls : List Listed = first_use [] es in
    let records : List ℕ = records_of (listed_layouts ls) (numbered ls es) in
    bytes-append (numerals_of (length ls ∷ [])) (layouts_of ls ++ records) (numerals-bytes (length ls ∷ []))
    (bytes-append (layouts_of ls) records (layouts-bytes ls)
    (records-bytes (listed_layouts ls) (numbered ls es) (numbered-bytes es ls (entries-bytes bytes (walk Old bytes) b))))

pub old-bytes : (bytes : List ℕ) → Bytes bytes → Bytes (to_old bytes)
unfolding to_old
old-bytes bytes b = records-bytes own_layouts (entries_in New bytes) (entries-bytes bytes (walk New bytes) b)

-- a dump moved to new is settled
pub moved-settled : (bytes out : List ℕ) → Bytes bytes → refusal_in (to_new_reply bytes out) ≡ 0 → SettledDump (to_new bytes)
moved-settled bytes out b e =
    let t = there bytes b (new_told bytes out e).0 in
    rw (t.listed, t.parsed) (first-settled (entries_in Old bytes))

-- so back and there gives the new bytes of settled dumps only
pub only-settled : (bytes out : List ℕ) → Bytes bytes → refusal_in (to_new_reply (to_old bytes) out) ≡ 0 → to_new (to_old bytes) ≡ bytes → SettledDump bytes
only-settled bytes out b e q = rw q at (moved-settled (to_old bytes) out (old-bytes bytes b) e)
