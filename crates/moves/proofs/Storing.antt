-- What the two passes of a move know: the first sums the lengths of the records moved, the second stores them.
use Prim.Native.Nat.{ℕ, ◌+◌, ◌*◌, ◌-◌, ◌≤◌}
use mathlib.Core.Path.{◌≡◌, refl, sym, ap, ◌∙◌}
use mathlib.Core.List.{List, [], ◌∷◌, ◌++◌, append_assoc}
use native.Mathlib.Omega.{arith}
use lib.ListN.{length, length-append}
use Rattle.code.specs.declared.Kind.{Kind}
use Rattle.code.specs.LayoutList.{Listed}
use Rattle.code.specs.Dump.{Record, Source, own_layouts, listed_layouts, head_length, taken, ended, stopped, step, cells_of, onward, walk}
use Rattle.code.specs.Export.{record_of}
use Rattle.code.specs.NewDump.{Entry, entry_head, records_of, entries_of, numbered, stop_of}
use Rattle.code.proofs.Tests.{clash}
use Rattle.code.proofs.Digits.{sevens-few}
use Rattle.code.proofs.Records.{record-size, numerals-few, step-entered}
use Rattle.code.proofs.Walk.{step-in-forward}
use Rattle.storing.specs.Put.{Put, fitting}
use Rattle.storing.proofs.Put.{put-none, put_then, put-length, fitting-all, fitting-within}
use Rattle.records.specs.Source.{source_of}
use Rattle.dump.specs.Answers.{halt_number, halt_carries}
use Rattle.dump.specs.declared.Halt.{Halt}
use Rattle.moves.specs.Passes.{Begins, entries_in, said_by}
use Rattle.moves.proofs.Passing.{renumber, said-append, said-next, entry_at, cells_count}
use Rattle.moves.proofs.Passing.{Passing, passing-begin, passing-left, passing-next, passing-end, passing-stop}

-- the record moved of one that stands in a dump
abbrev pub moved_at : Source → List Listed → List ℕ → Record → List ℕ
moved_at source ls bytes r = record_of (entry_head source (renumber ls (entry_at bytes r))) (cells_of bytes r)

-- a moved record has at most five numbers of nine bytes
few-numbers : (source : Source) (e : Entry) → length (entry_head source e) ≤ 4
unfolding entry_head
few-numbers own_layouts e = omega arith
few-numbers (listed_layouts ls) e = omega arith

moved-most : (source : Source) (ls : List Listed) (bytes : List ℕ) (r : Record) → length (moved_at source ls bytes r) ≤ 45 + length (cells_of bytes r)
moved-most source ls bytes r =
    let head : List ℕ = entry_head source (renumber ls (entry_at bytes r)) in
    let cells : List ℕ = cells_of bytes r in
    omega (arith, record-size head cells, numerals-few head, few-numbers source (renumber ls (entry_at bytes r)), sevens-few 9 (length cells))

-- the records before place `at` come to `total` bytes
pub record Measuring (source : Source) (ls : List Listed) (kind : Kind) (bytes : List ℕ) (at total : ℕ) : Type 0 where
  pub gone : List Entry
  pub pass : Passing kind bytes gone at
  pub sum : total ≡ length (said_by source ls gone)
  pub few : total + 46 * (length bytes - at) ≤ 46 * length bytes

module _ (source : Source) (ls : List Listed) (kind : Kind) (bytes places : List ℕ) (start : ℕ) (o : Begins kind bytes places start) where
  pub measuring-begin : Measuring source ls kind bytes start 0
  unfolding records_of numbered
  measuring-begin = record { gone = []; pass = passing-begin kind bytes places start o; sum = refl; few = omega arith }

  pub measuring-first : measuring-begin.gone ≡ []
  unfolding measuring-begin
  measuring-first = refl

  module _ {at total : ℕ} (m : Measuring source ls kind bytes at total) where
    -- a record takes three bytes or more before its cells
    pub measuring-next : (r : Record) → step kind bytes at ≡ taken r → (n : ℕ) → n ≡ length (moved_at source ls bytes r) →
        Measuring source ls kind bytes (r.start + r.count) (total + n)
    measuring-next r e n q =
        let gone = m.gone in
        let from : Source = source_of kind bytes places in
        let f = step-in-forward from bytes at r (sym (step-entered kind bytes at from start o) ∙ e) in
        record {
          gone = gone ++ (entry_at bytes r ∷ []);
          pass = passing-next m.pass r e;
          sum = omega (
            arith,
            m.sum,
            q,
            ap length (said-next source ls gone (entry_at bytes r)),
            length-append (said_by source ls gone) (moved_at source ls bytes r),
          );
          few = omega (arith, m.few, q, moved-most source ls bytes r, cells_count kind bytes at r e, f.further, f.within, head-some from);
        }
      where
        head-some : (s : Source) → 2 ≤ head_length s
        head-some own_layouts = omega arith
        head-some (listed_layouts ks) = omega arith

    pub measuring-gone : (r : Record) (e : step kind bytes at ≡ taken r) (n : ℕ) (q : n ≡ length (moved_at source ls bytes r)) →
        (measuring-next r e n q).gone ≡ m.gone ++ (entry_at bytes r ∷ [])
    unfolding measuring-next
    measuring-gone r e n q = refl

    pub measuring-end : step kind bytes at ≡ ended → (stop_of (walk kind bytes) ≡ []) × (total ≡ length (said_by source ls (entries_in kind bytes)))
    measuring-end e =
        let w = passing-end m.pass e in
        (w.0, m.sum ∙ ap (λ es. length (said_by source ls es)) (sym w.1))

-- the records before place `at` are stored, from `first` up to `place`, where there is room for all; `place` is in the output even where there is not
pub record Filling (source : Source) (ls : List Listed) (kind : Kind) (bytes before : List ℕ) (first : ℕ) (after : List ℕ) (at place : ℕ) : Type 0 where
  pub gone : List Entry
  pub pass : Passing kind bytes gone at
  pub same : length after ≡ length before
  pub inside : place ≤ length after
  pub put : first + length (said_by source ls (entries_in kind bytes)) ≤ length before → Put before after first (said_by source ls gone) place

pub filling-begin : (source : Source) (ls : List Listed) (kind : Kind) (bytes places : List ℕ) (start : ℕ) → Begins kind bytes places start →
    (before : List ℕ) (first : ℕ) → first ≤ length before → Filling source ls kind bytes before first before start first
unfolding records_of numbered
filling-begin source ls kind bytes places start o before first i =
    record { gone = []; pass = passing-begin kind bytes places start o; same = refl; inside = i; put = λ h. put-none before first }

module _ {source : Source} {ls : List Listed} {kind : Kind} {bytes before : List ℕ} {first : ℕ} {after : List ℕ} {at place : ℕ}
    (f : Filling source ls kind bytes before first after at place) where
  -- where there is room for all, there is room for one more
  filling-room : first + length (said_by source ls (entries_in kind bytes)) ≤ length before → (r : Record) → step kind bytes at ≡ taken r →
      place + length (moved_at source ls bytes r) ≤ length after
  filling-room h r e =
      let gone = f.gone in
      let left = entries_of bytes (onward kind bytes (r.start + r.count)) in
      let one : List Entry = entry_at bytes r ∷ [] in
      let all : said_by source ls (entries_in kind bytes) ≡ (said_by source ls gone ++ moved_at source ls bytes r) ++ said_by source ls left =
      ap (said_by source ls) (passing-left f.pass r e ∙ sym (append_assoc gone one left)) ∙ said-append source ls (gone ++ one) left
      ∙ rw (said-next source ls gone (entry_at bytes r)) in
      omega (arith, h, f.same, (f.put h).ends, simp length-append at (ap length all))

  -- a record is stored, or does not fit
  pub filling-next : (r : Record) → step kind bytes at ≡ taken r → {after' : List ℕ} {place' : ℕ} →
      Put after after' place (fitting after place (moved_at source ls bytes r)) place' →
      Filling source ls kind bytes before first after' (r.start + r.count) place'
  filling-next r e p =
      let moved : List ℕ = moved_at source ls bytes r in
      record {
        gone = f.gone ++ (entry_at bytes r ∷ []);
        pass = passing-next f.pass r e;
        same = put-length p ∙ f.same;
        inside = omega (arith, put-length p, p.ends, fitting-within after place moved f.inside);
        put = λ h. rw (said-next source ls f.gone (entry_at bytes r))
            (put_then (f.put h) (rw (fitting-all after place moved (filling-room h r e)) at p));
      }

  pub filling-end : step kind bytes at ≡ ended → first + length (said_by source ls (entries_in kind bytes)) ≤ length before →
      Put before after first (said_by source ls (entries_in kind bytes)) place
  filling-end e h = rw (passing-end f.pass e).1 (f.put h)

  -- a walk that meets its end does not stop
  pub filling-stop : stop_of (walk kind bytes) ≡ [] → (halt : Halt) → step kind bytes at ≡ stopped (halt_number halt) (halt_carries halt) →
      Put before after first (said_by source ls (entries_in kind bytes)) place
  filling-stop w halt e = clash (cc (passing-stop f.pass halt e))
