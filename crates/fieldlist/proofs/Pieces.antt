-- The text of a dump handed out piece by piece: begun, a piece more, all of it.
use Prim.Native.Nat.{ℕ, ◌+◌, ◌≤◌}
use mathlib.Core.Path.{◌≡◌, sym, ap, ◌∙◌}
use Rattle.std.specs.Prelude.{Option, None, Some}
use mathlib.Core.List.{List, [], ◌++◌, append-nil}
use native.Mathlib.Omega.{arith}
use lib.ListN.{length, take, drop, length-append, length-take, length-drop}
use lib.Seq.{take_at}
use Rattle.code.specs.declared.Kind.{Kind}
use Rattle.code.specs.Dump.{barred, opening, start_of}
use Rattle.code.specs.Listing.{listing}
use Rattle.code.proofs.Records.{behind}
use Rattle.dump.specs.Answers.{halt_number, halt_carries}
use Rattle.dump.specs.declared.Halt.{Halt}
use Rattle.storing.proofs.Put.{put-pastes}
use Rattle.text.specs.Within.{PutWithin}
use Rattle.listing.specs.Listing.{lines_most, halt_lines, text_left, Fills}
use Rattle.listing.specs.declared.Listing.{Listing}
use Rattle.listing.specs.declared.Told.{Told}
use Rattle.listing.proofs.Runs.{start_left, barred-listing}
use Rattle.fieldlist.specs.Handing.{Part}

-- what stands before a place of the text is handed out, and what is still to be told stands there
pub record Handing (kind : Kind) (bytes : List ℕ) (at : ℕ) (s : Option Listing) : Type 0 where
  pub within : at ≤ length (listing kind bytes)
  pub rest : drop at (listing kind bytes) ≡ text_left kind bytes s

pub handing-begin : (kind : Kind) (bytes : List ℕ) (s : Listing) → (s.next ≡ start_of (opening kind bytes)) × (s.count ≡ 0) →
    Handing kind bytes 0 (Some s)
handing-begin kind bytes s h = record { within = omega arith; rest = sym (start_left kind bytes s h) }

pub handing-end : {kind : Kind} {bytes : List ℕ} {at : ℕ} → Handing kind bytes at None → at ≡ length (listing kind bytes)
handing-end {kind} {bytes} {at} h = omega (arith, h.within, length-drop at (listing kind bytes), ap length h.rest)

module _ {kind : Kind} {bytes : List ℕ} {at : ℕ} {s : Listing} (h : Handing kind bytes at (Some s)) where
  module _ {out : List ℕ} {r : Told} (f : Fills kind bytes s out r) where
    pub next-part : Part (listing kind bytes) at (take r.end out)
    next-part = record { rest = text_left kind bytes r.listing; begins = h.rest ∙ f.text }

    pub handing-next : Handing kind bytes (at + r.end) r.listing
    handing-next =
        let piece : List ℕ = take r.end out in
        let long : r.end ≡ length piece = sym (simp length-take (omega (arith, f.inside))) in
        let e : drop at (listing kind bytes) ≡ piece ++ text_left kind bytes r.listing = h.rest ∙ f.text in
        record {
          within = omega (arith, h.within, length-drop at (listing kind bytes), ap length e, length-append piece (text_left kind bytes r.listing));
          rest = rw long (behind (listing kind bytes) at piece (text_left kind bytes r.listing) e);
        }

-- a dump that is refused as a whole: its text is one piece
module _ (kind : Kind) (bytes : List ℕ) (halt : Halt) (e : barred (halt_number halt) (halt_carries halt) ≡ opening kind bytes) {out after : List ℕ} {end : ℕ}
    (p : PutWithin lines_most out after 0 (halt_lines 0 halt) end) where
  pub halt-all : end ≡ length (listing kind bytes)
  halt-all = rw (barred-listing kind bytes halt e) (omega (arith, p.put.ends))

  pub halt-part : end ≤ length out → Part (listing kind bytes) 0 (take end after)
  halt-part h =
      let all : take end after ≡ listing kind bytes = rw (barred-listing kind bytes halt e, put-pastes p.put h) (take_at (halt_lines 0 halt) (drop end out) end (omega (arith, p.put.ends))) in
      record { rest = []; begins = rw all (sym (append-nil (listing kind bytes))) }
