-- Document 01, "Dumps", of `fieldlist` (RULES 10): the text of a listing, told piece by piece.
use Rattle.std.specs.Prelude.{ℕ, ◌<◌, ◌≤◌, ◌≡◌, List, [], ◌∷◌, ◌++◌, length, take, Option, None, Some}
use Rattle.code.specs.declared.Kind.{Kind}
use Rattle.code.specs.Listing.{stop_lines, text_from}
use Rattle.text.specs.Within.{PutWithin, reading_line}
use Rattle.dump.specs.Answers.{dump_most, halt_number, halt_carries}
use Rattle.dump.specs.declared.Halt.{Halt}
use Rattle.listing.specs.declared.Listing.{Listing}
use Rattle.listing.specs.declared.Told.{Told}

-- the most bytes that a step's lines take
abbrev pub lines_most : ℕ
lines_most = reading_line

-- the closing lines of a walk that stops before the end, after so many records
abbrev pub halt_lines : ℕ → Halt → List ℕ
halt_lines count halt = stop_lines count (halt_number halt) (halt_carries halt)

-- the text that is still to be told
abbrev pub text_left : Kind → List ℕ → Option Listing → List ℕ
text_left kind bytes None = []
text_left kind bytes (Some s) = text_from kind bytes s.next s.count

-- a listing comes by no more records than bytes
pub record Standing (s : Listing) : Type 0 where
  pub few : s.count ≤ s.next
  pub within : s.next ≤ dump_most

-- a listing behind another, unless all is told
abbrev pub Onward : Listing → Option Listing → Type 0
Onward s None = Unit {0}
Onward s (Some r) = Standing r × (s.next < r.next)

-- a step's lines are told from a place of the output on
pub record LinesTold (kind : Kind) (bytes : List ℕ) (s : Listing) (before after : List ℕ) (at : ℕ) (r : Told) : Type 0 where
  pub piece : List ℕ
  pub put : PutWithin lines_most before after at piece r.end
  pub text : text_left kind bytes (Some s) ≡ piece ++ text_left kind bytes r.listing
  pub onward : Onward s r.listing

-- the front of the output is the next piece of the text; either it is the last, or the listing went on
pub record Fills (kind : Kind) (bytes : List ℕ) (s : Listing) (out : List ℕ) (r : Told) : Type 0 where
  pub text : text_left kind bytes (Some s) ≡ take r.end out ++ text_left kind bytes r.listing
  pub inside : r.end ≤ length out
  pub onward : Onward s r.listing
