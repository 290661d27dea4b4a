-- The pieces that `fill` tells one after the other are the listing.
use Prim.Native.Nat.{ℕ, ◌-◌}
use mathlib.Core.Path.{◌≡◌, refl, sym, ap, ◌∙◌}
use Rattle.std.proofs.Common.{Option, None, Some}
use mathlib.Core.List.{List, [], ◌∷◌, ◌++◌}
use lib.ListN.{length, take}
use Rattle.code.specs.declared.Kind.{Kind}
use Rattle.code.specs.Dump.{barred, opening, start_of, walk}
use Rattle.code.specs.Listing.{lines, listing}
use Rattle.code.proofs.Records.{step-barred}
use Rattle.code.proofs.Walk.{walk-stopped}
use Rattle.dump.specs.Answers.{halt_number, halt_carries}
use Rattle.dump.specs.declared.Halt.{Halt}
use Rattle.listing.specs.Listing.{halt_lines, text_left, Fills}
use Rattle.listing.specs.declared.Listing.{Listing}
use Rattle.listing.specs.declared.Told.{Told}

-- pieces as the promise of `fill` allows them, until all is told
pub data Telling (kind : Kind) (bytes : List ℕ) : Option Listing → List (List ℕ) → Type 0 where
  over : Telling kind bytes None []
  then : {s : Listing} {out : List ℕ} {r : Told} {pieces : List (List ℕ)} → Fills kind bytes s out r → Telling kind bytes r.listing pieces →
      Telling kind bytes (Some s) (take r.end out ∷ pieces)

abbrev pub joined : List (List ℕ) → List ℕ
joined [] = []
joined (piece ∷ pieces) = piece ++ joined pieces

told-left : {kind : Kind} {bytes : List ℕ} {s : Option Listing} {pieces : List (List ℕ)} → Telling kind bytes s pieces → text_left kind bytes s ≡ joined pieces
told-left over = refl
told-left (then f rest) = f.text ∙ rw (told-left rest)

-- at the start, where the records begin, all of the text is still to be told
pub start_left : (kind : Kind) (bytes : List ℕ) (s : Listing) → (s.next ≡ start_of (opening kind bytes)) × (s.count ≡ 0) →
    text_left kind bytes (Some s) ≡ listing kind bytes
unfolding listing walk
start_left kind bytes s h = rw (h.0, h.1)

-- What is told from the start on is the text of the dump.
pub listing-told : {kind : Kind} {bytes : List ℕ} {s : Listing} {pieces : List (List ℕ)} →
    (s.next ≡ start_of (opening kind bytes)) × (s.count ≡ 0) → Telling kind bytes (Some s) pieces → joined pieces ≡ listing kind bytes
listing-told {kind} {bytes} {s} h t = sym (told-left t) ∙ start_left kind bytes s h

-- A dump that is refused as a whole has the closing lines alone.
pub barred-listing : (kind : Kind) (bytes : List ℕ) (halt : Halt) → barred (halt_number halt) (halt_carries halt) ≡ opening kind bytes →
    listing kind bytes ≡ halt_lines 0 halt
unfolding listing walk lines
barred-listing kind bytes halt e =
    let at : ℕ = start_of (opening kind bytes) in
    let stops = step-barred kind bytes at (halt_number halt) (halt_carries halt) (sym e) in
    ap (lines bytes 0) (walk-stopped kind bytes (length bytes - at) at (halt_number halt) (halt_carries halt) stops)
