-- What moving to new makes of the records of an old dump: what the first pass knows, and the bytes and lengths of what is stored.
use Prim.Native.Nat.{ℕ, ◌+◌, ◌*◌, ◌^◌, ◌≤◌, ◌<◌}
use mathlib.Core.Path.{◌≡◌, refl, ap, ◌∙◌}
use mathlib.Core.Bool.{true, false}
use mathlib.Core.List.{List, [], ◌∷◌, ◌++◌}
use native.Mathlib.Omega.{arith}
use lib.Dec.{ltb}
use lib.ListN.{length, take, length-append}
use borrow.Author.Tests.{lt-ltb, le-ltb}
use Rattle.code.specs.declared.Kind.TheVariants.{Old}
use Rattle.code.specs.Lists.{Below}
use Rattle.code.specs.Numerals.{numerals_of}
use Rattle.code.specs.LayoutList.{Listed, listed_of}
use Rattle.code.specs.Dump.{Record, listed_layouts, taken, ended, step, cells_of, walk}
use Rattle.code.specs.Export.{record_of}
use Rattle.code.specs.NewDump.{Entry, entry_head, records_of, new_dump_of, stop_of, place_of, joined, first_use, numbered}
use Rattle.code.specs.NewDump.{to_new, to_new_refusal, to_new_reply, to_new_leaves}
use Rattle.code.proofs.Wits.{Bytes}
use Rattle.code.proofs.Digits.{sevens-last}
use Rattle.code.proofs.Records.{record-size}
use Rattle.code.proofs.LayoutLists.{count-byte}
use Rattle.code.proofs.Dumps.{dump-was}
use Rattle.code.proofs.FirstUse.{first_next, AllListed, first-lists, first-listable}
use Rattle.moves.specs.Kept.{kept_layouts, Keeps}
use Rattle.moves.specs.Passes.{Begins, entries_in, said_by, Collects, numbered_by}
use Rattle.code.specs.Cells.{listed as listed_from}
use Rattle.code.specs.Shape.{given}
use Rattle.records.specs.declared.Said.{Said}
use Rattle.records.specs.Head.{said_shape}
use Rattle.records.specs.Source.{source_of}
use Rattle.moves.specs.Kept.{said_listed}
use Rattle.moves.proofs.Passing.{entry_at, passing-end}
use Rattle.moves.proofs.Storing.{moved_at, Measuring, measuring-begin, measuring-first, measuring-next, measuring-gone, measuring-end}
use Rattle.code.specs.declared.Refusal.TheVariants.{Layouts}
use Rattle.std.proofs.Common.{Result, Err}
use Rattle.code.specs.Refusals.{refusal_reply}
use Rattle.code.specs.declared.Refusal.{Refusal}
use Rattle.dump.specs.Answers.{halt_of, refusal_of}
use Rattle.dump.specs.declared.Halt.{Halt}
use Rattle.moves.specs.Passes.{refused_by, length_refusal}
use Rattle.storing.specs.Put.{Put}
use Rattle.moves.proofs.Moving.{Moves, move-halted, move-own, move-refused, move-room, move-stored}
use Rattle.moves.proofs.Keeping.{kept-long, keeps-none, kept-bytes, kept_small}

-- the records before place `at` come to `total` bytes, and their layouts are kept
pub record Collecting (bytes kept : List ℕ) (at total count : ℕ) : Type 0 where
  pub measured : Measuring (listed_layouts []) [] Old bytes at total
  pub keeps : Keeps count kept (first_use [] measured.gone)

-- what a record of an old dump says is the layout of its shape
pub own-said : (bytes places : List ℕ) (s : Said) → listed_of (said_shape (source_of Old bytes places) s) ≡ said_listed s
unfolding listed_of said_shape source_of given listed_from
own-said bytes places s = refl

-- in no list every number is 0
pub number-less : (bytes : List ℕ) (r : Record) → record_of (r.serial ∷ 0 ∷ []) (cells_of bytes r) ≡ moved_at (listed_layouts []) [] bytes r
unfolding entry_head place_of
number-less bytes r = refl

-- in the list of layouts a record's number is the place of its own
pub number_at : (ls : List Listed) (bytes : List ℕ) (r : Record) (n : ℕ) → n ≡ place_of ls (listed_of r.shape) →
    record_of (r.serial ∷ n ∷ []) (cells_of bytes r) ≡ moved_at (listed_layouts ls) ls bytes r
unfolding entry_head
number_at ls bytes r n q = rw q

module _ (bytes places : List ℕ) (o : Begins Old bytes places 0) where
  pub collecting-begin : (kept : List ℕ) → length kept ≡ 256 → Collecting bytes kept 0 0 0
  unfolding first_use
  collecting-begin kept h = record {
    measured = measuring-begin (listed_layouts []) [] Old bytes places 0 o;
    keeps = rw (measuring-first (listed_layouts []) [] Old bytes places 0 o) (keeps-none kept h);
  }

  module _ {kept : List ℕ} {at total count : ℕ} (m : Collecting bytes kept at total count) where
    pub collecting-next : (r : Record) → step Old bytes at ≡ taken r → (n : ℕ) → n ≡ length (moved_at (listed_layouts []) [] bytes r) →
        (kept' : List ℕ) (count' : ℕ) → ((ls : List Listed) → Keeps count kept ls → Keeps count' kept' (joined ls (listed_of r.shape))) →
        Collecting bytes kept' (r.start + r.count) (total + n) count'
    collecting-next r e n q kept' count' k = record {
      measured = measuring-next (listed_layouts []) [] Old bytes places 0 o m.measured r e n q;
      keeps = rw (measuring-gone (listed_layouts []) [] Old bytes places 0 o m.measured r e n q, first_next m.measured.gone (entry_at bytes r) [])
          (k (first_use [] m.measured.gone) m.keeps);
    }

    pub collecting-end : step Old bytes at ≡ ended → Collects bytes kept total count
    collecting-end e =
        let w = measuring-end (listed_layouts []) [] Old bytes places 0 o m.measured e in
        record {
          whole = w.0;
          keeps = rw (passing-end m.measured.pass e).1 m.keeps;
          sum = w.1;
          few = omega (arith, m.measured.few);
        }

-- A layout number below 64 takes one byte, as 0 does.
one_byte : (serial n : ℕ) (cells : List ℕ) → n < 128 → length (record_of (serial ∷ n ∷ []) cells) ≡ length (record_of (serial ∷ 0 ∷ []) cells)
unfolding numerals_of
one_byte serial n cells h =
    rw (record-size (serial ∷ n ∷ []) cells, record-size (serial ∷ 0 ∷ []) cells, sevens-last 8 n h, sevens-last 8 0 (omega arith)) (simp length-append)

said-length : (es : List Entry) (ls : List Listed) → length ls ≤ 64 → AllListed ls es →
    length (said_by (listed_layouts ls) ls es) ≡ length (said_by (listed_layouts []) [] es)
unfolding records_of numbered entry_head place_of
said-length [] ls few a = refl
said-length (e ∷ es) ls few a =
    let n : ℕ = place_of ls (listed_of e.shape) in
    omega (
      arith,
      one_byte e.serial n e.cells (omega (arith, a.0)),
      said-length es ls few a.1,
      length-append (record_of (e.serial ∷ n ∷ []) e.cells) (said_by (listed_layouts ls) ls es),
      length-append (record_of (e.serial ∷ 0 ∷ []) e.cells) (said_by (listed_layouts []) [] es),
    )

-- What is made, where the layouts are not too many.
module _ (bytes kept : List ℕ) {total count : ℕ} (c : Collects bytes kept total count) where
  pub too_many : 64 < count → ltb 64 (length (first_use [] (entries_in Old bytes))) ≡ true
  too_many h = lt-ltb 64 (length (first_use [] (entries_in Old bytes))) (c.keeps.over h)

  module _ (few : count ≤ 64) where
    listed : first_use [] (entries_in Old bytes) ≡ kept_layouts count kept
    listed = c.keeps.same few

    many : length (first_use [] (entries_in Old bytes)) ≡ count
    many = ap length listed ∙ kept-long kept count

    pub not-many : ltb 64 (length (first_use [] (entries_in Old bytes))) ≡ false
    not-many = le-ltb 64 (length (first_use [] (entries_in Old bytes))) (omega (arith, many))

    room : 4 * count ≤ length kept
    room = omega (arith, c.keeps.long)

    pub new-made : to_new bytes ≡ (count ∷ numerals_of (take (4 * count) kept)) ++ numbered_by (kept_layouts count kept) bytes
    unfolding to_new new_dump_of
    new-made = rw (listed, kept-long kept count, count-byte count few, kept-bytes kept count room)

    pub new-long : 1 + length (numerals_of (take (4 * count) kept)) + total ≡ length (to_new bytes)
    new-long =
        let es = entries_in Old bytes in
        let ls = kept_layouts count kept in
        let short = said-length es ls (omega (arith, kept-long kept count)) (rw listed at (first-lists es [])) in
        omega (arith, c.sum, short, ap length new-made, length-append (count ∷ numerals_of (take (4 * count) kept)) (numbered_by ls bytes))

    pub new-small : Bytes bytes → Below (2 ^ 63) (take (4 * count) kept)
    new-small b =
        let w = dump-was Old bytes b c.whole in
        kept_small kept count room (rw listed at (first-listable (entries_in Old bytes) [] w.sound tt))

-- a move to new by the move's own terms
module _ (bytes out : List ℕ) where
  abbrev pub MovesNew : List ℕ → List ℕ → Type 0
  MovesNew reply after = (reply ≡ to_new_reply bytes out) × (after ≡ to_new_leaves bytes out)

  moves-new : {reply after : List ℕ} →
      Moves (stop_of (walk Old bytes)) Layouts (ltb 64 (length (first_use [] (entries_in Old bytes)))) (to_new bytes) out reply after → MovesNew reply after
  unfolding to_new_reply to_new_leaves to_new_refusal
  moves-new m = m

  -- so it answers and leaves what is due: where the walk stops, by its own test, by its length, and stored
  pub new-halted : (halt : Halt) → stop_of (walk Old bytes) ≡ halt_of halt → MovesNew (refusal_reply (refusal_of halt)) out
  new-halted halt e = moves-new (move-halted _ Layouts (ltb 64 (length (first_use [] (entries_in Old bytes)))) (to_new bytes) out halt e)

  module _ (whole : stop_of (walk Old bytes) ≡ []) where
    pub new-own : ltb 64 (length (first_use [] (entries_in Old bytes))) ≡ true → MovesNew (refusal_reply Layouts) out
    new-own t = moves-new (move-own _ Layouts (ltb 64 (length (first_use [] (entries_in Old bytes)))) (to_new bytes) out whole t)

    module _ (passes : ltb 64 (length (first_use [] (entries_in Old bytes))) ≡ false) (r : Result (Unit {0}) Refusal) (long : ℕ) (is : long ≡ length (to_new bytes))
        (late : refused_by r ≡ length_refusal long (length out)) where
      pub new-refused : (e : Refusal) → r ≡ Err e → MovesNew (refusal_reply e) out
      new-refused e q = moves-new (move-refused _ Layouts (ltb 64 (length (first_use [] (entries_in Old bytes)))) (to_new bytes) out whole passes r long is late e q)

      module _ (q : refused_by r ≡ []) where
        pub new-room : length (to_new bytes) ≤ length out
        new-room = move-room _ Layouts (ltb 64 (length (first_use [] (entries_in Old bytes)))) (to_new bytes) out whole passes r long is late q

        pub new-stored : {after : List ℕ} {end : ℕ} → Put out after 0 (to_new bytes) end → MovesNew (0 ∷ end ∷ []) after
        new-stored p = moves-new (move-stored _ Layouts (ltb 64 (length (first_use [] (entries_in Old bytes)))) (to_new bytes) out whole passes r long is late q p)
