-- What each step makes of the text of a listing.
use Prim.Native.Nat.{ℕ, ◌+◌, ◌-◌, ◌≤◌, ◌<◌}
use mathlib.Core.Path.{◌≡◌, refl, sym, ◌∙◌}
use mathlib.Core.List.{List, [], ◌∷◌, ◌++◌, append-nil, append_assoc}
use native.Mathlib.Omega.{arith}
use native.Mathlib.Numerals.{add-one}
use lib.ListN.{length, get_or, take, drop}
use lib.Seq.{take_at}
use Rattle.code.specs.declared.Kind.{Kind}
use Rattle.code.specs.Dump.{cells_of, outcome, step_reply}
use Rattle.code.specs.Listing.{record_line, last_line, lines, text_from}
use Rattle.code.proofs.Walk.{walk-ended, walk-stopped, onward-taken}
use Rattle.reading.specs.Answers.{reading_of}
use Rattle.storing.specs.Put.{Put}
use Rattle.storing.proofs.Put.{put-none, put_then, put-length, put-pastes}
use Rattle.text.specs.Within.{PutWithin, closing_line}
use Rattle.text.proofs.Laws.{wider}
use Rattle.dump.specs.Answers.{halt_number, halt_carries, step_of}
use Rattle.dump.specs.declared.Record as Declared
use Rattle.dump.specs.declared.Halt.{Halt}
use Rattle.std.proofs.Common.{Option, None, Some, Result, Ok, Err, ap}
use Rattle.dump.proofs.Walking.{gives-record, record-ends, record-serial, gives-end, gives-stop, record-further}
use Rattle.listing.specs.Listing.{lines_most, halt_lines, text_left, Standing, Onward, LinesTold, Fills}
use Rattle.listing.specs.declared.Listing.{Listing}
use Rattle.listing.specs.declared.Told.{Told}

module _ (kind : Kind) (bytes : List ℕ) (at : ℕ) {s : Result (Option Declared.Record) Halt} (gives : step_of s ≡ step_reply kind bytes at) where
  module _ {r : Declared.Record} (e : s ≡ Ok (Some r)) where
    record-text : (count : ℕ) → text_from kind bytes at count ≡ record_line r.serial (reading_of r.outcome) ++ text_from kind bytes (r.start + r.count) (count + 1)
    unfolding lines
    record-text count =
        let told = gives-record kind bytes at gives e in
        rw (onward-taken kind bytes at told.0 told.1, told.3, record-serial kind bytes at gives e, record-ends kind bytes at gives e, add-one count)

  end-text : (count : ℕ) → s ≡ Ok None → text_from kind bytes at count ≡ last_line count
  unfolding lines
  end-text count e = rw (walk-ended kind bytes (length bytes - at) at (gives-end kind bytes at gives e))

  stop-text : (count : ℕ) {halt : Halt} → s ≡ Err halt → text_from kind bytes at count ≡ halt_lines count halt
  unfolding lines
  stop-text count {halt} e = rw (walk-stopped kind bytes (length bytes - at) at (halt_number halt) (halt_carries halt) (gives-stop kind bytes at gives e))

closes : {kind : Kind} {bytes : List ℕ} {l : Listing} {before after : List ℕ} {at end : ℕ} (piece : List ℕ) → text_from kind bytes l.next l.count ≡ piece →
    PutWithin lines_most before after at piece end → LinesTold kind bytes l before after at (record { listing = None; end = end })
closes piece e p = record { piece = piece; put = p; text = e ∙ sym (append-nil piece); onward = tt }

-- so each step's lines are told
module _ {kind : Kind} {bytes : List ℕ} {l : Listing} {before after : List ℕ} {at end : ℕ} {s : Result (Option Declared.Record) Halt}
    (gives : step_of s ≡ step_reply kind bytes l.next) where
  pub tells-record : {p : Declared.Record} → s ≡ Ok (Some p) → Standing l →
      PutWithin lines_most before after at (record_line p.serial (reading_of p.outcome)) end →
      LinesTold kind bytes l before after at (record { listing = Some (record { next = p.start + p.count; count = l.count + 1 }); end = end })
  tells-record {p = entry} e standing p =
      let further = record-further kind bytes l.next gives e in
      record {
        piece = record_line entry.serial (reading_of entry.outcome);
        put = p;
        text = record-text kind bytes l.next gives e l.count;
        onward = (record { few = omega (arith, standing.few, further.0); within = further.1 }, further.0);
      }

  pub tells-end : s ≡ Ok None → PutWithin closing_line before after at (last_line l.count) end →
      LinesTold kind bytes l before after at (record { listing = None; end = end })
  tells-end e p = closes (last_line l.count) (end-text kind bytes l.next gives l.count e) (wider (omega arith) p)

  pub tells-stop : {halt : Halt} → s ≡ Err halt → PutWithin lines_most before after at (halt_lines l.count halt) end →
      LinesTold kind bytes l before after at (record { listing = None; end = end })
  tells-stop {halt} e p = closes (halt_lines l.count halt) (stop-text kind bytes l.next gives l.count e) p

-- lines one after the other fill the front of the output
pub record Filling (kind : Kind) (bytes : List ℕ) (start : Listing) (before after : List ℕ) (s : Listing) (end : ℕ) : Type 0 where
  pub told : List ℕ
  pub put : Put before after 0 told end
  pub text : text_left kind bytes (Some start) ≡ told ++ text_left kind bytes (Some s)
  pub inside : end ≤ length before
  pub same : length after ≡ length before
  pub standing : Standing s
  pub reached : start.next ≤ s.next
  pub further : 0 < end → start.next < s.next

pub filling-begin : (kind : Kind) (bytes : List ℕ) (start : Listing) (out : List ℕ) → Standing start → Filling kind bytes start out out start 0
filling-begin kind bytes start out standing = record {
  told = [];
  put = put-none out 0;
  text = refl;
  inside = omega arith;
  same = refl;
  standing = standing;
  reached = omega arith;
  further = λ some. absurd (omega arith);
}

-- what is put at the front stands there
front : {before after told : List ℕ} {end : ℕ} → Put before after 0 told end → end ≤ length before → take end after ≡ told
front {before} {after} {told} {end} p inside = rw (put-pastes p inside) (take_at told (drop end before) end (omega (arith, p.ends)))

module _ {kind : Kind} {bytes : List ℕ} {start : Listing} {before after : List ℕ} {s : Listing} {end : ℕ} (f : Filling kind bytes start before after s end) where
  pub filling-end : 0 < end → Fills kind bytes start after record { listing = Some s; end = end }
  filling-end some = record {
    text = rw (front f.put f.inside) f.text;
    inside = omega (arith, f.inside, f.same);
    onward = (f.standing, f.further some);
  }

  module _ {last : List ℕ} {r : Told} (room : lines_most ≤ length before - end) (t : LinesTold kind bytes s after last end r) where
    text-on : text_left kind bytes (Some start) ≡ (f.told ++ t.piece) ++ text_left kind bytes r.listing
    text-on = rw append_assoc (f.text ∙ ap (λ l. f.told ++ l) t.text)

    pub filling-next : (l : Listing) → r.listing ≡ Some l → Filling kind bytes start before last l r.end
    filling-next l e =
        let onward : Onward s (Some l) = rw e at t.onward in
        record {
          told = f.told ++ t.piece;
          put = put_then f.put t.put.put;
          text = rw e at text-on;
          inside = omega (arith, t.put.few);
          same = put-length t.put.put ∙ f.same;
          standing = onward.0;
          reached = omega (arith, f.reached, onward.1);
          further = λ some. omega (arith, f.reached, onward.1);
        }

    -- the last piece
    pub filling-over : r.listing ≡ None → Fills kind bytes start last r
    filling-over e =
        let within : r.end ≤ length before = omega (arith, t.put.few) in
        record {
          text = rw (front (put_then f.put t.put.put) within) text-on;
          inside = omega (arith, put-length t.put.put, f.same);
          onward = rw e tt;
        }
