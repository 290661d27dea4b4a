-- Document 01, "Reading", and document 02, §2 and §6 (RULES 5): the answers of read as replies, and what the functions between them cite.
use Rattle.std.specs.Prelude.{ℕ, suc, ◌+◌, ◌*◌, ◌-◌, ◌^◌, ◌<◌, ◌≤◌, ◌≡◌, true, cond, List, [], ◌∷◌, ◌++◌, eqb, length, take, replicate, Option, Some, None, Result, Ok, Err}
use Rattle.code.specs.declared.Shape.{Shape}
use Rattle.code.specs.declared.Generation.{Generation}
use Rattle.code.proofs.Chosen.{pattern_most}
use Rattle.code.proofs.Places.{Dealable}
use Rattle.code.specs.Shape.{order_of, width_of, code_of}
use Rattle.code.specs.Cells.{opened, sound}
use Rattle.code.specs.Field as Field
use Rattle.words.specs.Words.{word_groups, Tidy, front_groups}
use Rattle.words.specs.Marks.{Ends}
use Rattle.code.specs.declared.Refusal.{Refusal}
use Rattle.code.specs.declared.Refusal.TheVariants.{Miscounted as MiscountedRefusal, Beyond as BeyondRefusal}
use Rattle.code.specs.Refusals.{reply_of}
use Rattle.reading.specs.declared.Reading.{Reading}
use Rattle.reading.specs.declared.ReadFields.{ReadFields}
use Rattle.reading.specs.declared.Numbered.{Numbered}
use Rattle.reading.specs.declared.Unreadable.{Unreadable}
use Rattle.reading.specs.declared.Unreadable.TheVariants.{Miscounted, Beyond}

abbrev pub read_fields_of : ReadFields → List ℕ
read_fields_of r = r.refusal ∷ r.generation ∷ r.number ∷ r.left ∷ r.unerased ∷ []

-- 01, Where each language form belongs; RULES 13: a reading as a reply: 0 and the values, or the refusal
abbrev pub reading_of : Result Reading Refusal → List ℕ
reading_of r = reply_of (λ a. a.generation ∷ a.number ∷ a.left ∷ []) r

-- 02, §6; RULES 12: the refusal of cells that have no number
abbrev pub refusal_for : Unreadable → Refusal
refusal_for (Miscounted i u) = MiscountedRefusal i u
refusal_for (Beyond i) = BeyondRefusal i

-- what sound cells read as
abbrev pub found_of : Result (Option Numbered) Unreadable → Field.Reading
found_of (Ok None) = Field.blank
found_of (Ok (Some a)) = Field.reads a.generation a.number
found_of (Err (Miscounted i u)) = Field.miscounted i u
found_of (Err (Beyond i)) = Field.beyond i

-- what is answered for a reading, by the form and t
abbrev pub answer_of : ℕ → ℕ → Field.Reading → List ℕ
answer_of form t Field.blank = cond (eqb form 0) (0 ∷ 1 ∷ 0 ∷ t ∷ []) (11 ∷ [])
answer_of form t (Field.reads i x) = 0 ∷ i ∷ x ∷ (t - i) ∷ []
answer_of form t (Field.miscounted i u) = 15 ∷ i ∷ u ∷ []
answer_of form t (Field.beyond i) = 16 ∷ i ∷ []

-- what groups read as by the layout of a shape, and at a place of it
abbrev pub read_at_in : Shape → List ℕ → ℕ → Field.Reading
read_at_in s gs i = Field.read_at (code_of s) gs i

abbrev pub read_in : Shape → List ℕ → Field.Reading
read_in s gs = Field.read (code_of s) gs

-- RULES 3: cells that refusal 3 is not for
abbrev pub SoundCells : Shape → List ℕ → Type 0
SoundCells s bs = sound (order_of s) s.m (width_of s) bs ≡ true

-- the h groups of a field in the first n words
abbrev pub held_groups : ℕ → ℕ → ℕ → List ℕ → List ℕ
held_groups m h n words = take h (front_groups m n words)

abbrev pub field_groups : Shape → ℕ → List ℕ → List ℕ
field_groups s n words = held_groups s.m (width_of s) n words

-- the words hold a field's h groups, and behind them groups of all ones
pub record Holds (m h n : ℕ) (words : List ℕ) : Type 0 where
  pub long : length words ≡ 16
  pub ends : Ends m n h
  pub tidy : Tidy m n words
  pub many : length (held_groups m h n words) ≡ h
  pub padded : front_groups m n words ≡ held_groups m h n words ++ replicate (word_groups m * n - h) (2 ^ m - 1)

-- n words hold the groups of the bytes bs, z of them zero, which read as r
pub record Looked (s : Shape) (bs words : List ℕ) (n z : ℕ) (r : Field.Reading) : Type 0 where
  pub holds : Holds s.m (width_of s) n words
  pub same : field_groups s n words ≡ opened (order_of s) s.m (width_of s) bs
  pub none : z ≡ Field.zeros (field_groups s n words)
  pub read : r ≡ read_in s (field_groups s n words)

-- r tells the number y, as far as 2^56
pub record Close (y r : ℕ) : Type 0 where
  pub exact : r < 2 ^ 56 → r ≡ y
  pub large : 2 ^ 56 ≤ r → 2 ^ 56 ≤ y

-- the number x is read at place i where it is below v, and else it is beyond the range
pub record Ranged (i v x : ℕ) (r : Field.Reading) : Type 0 where
  pub inside : x < v → r ≡ Field.reads (suc i) x
  pub outside : v ≤ x → r ≡ Field.beyond (suc i)

-- groups that may be the places of a generation
pub record Tellable (m : ℕ) (g : Generation) (xs : List ℕ) : Type 0 where
  pub many : g.places ≡ length xs
  pub few : g.places ≤ g.next + pattern_most
  pub blank : g.next ≤ Field.zeros xs
  pub deals : Dealable m g.dealing g.next
