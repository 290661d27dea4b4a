-- Document 01, "Writing", and document 02, §7 (RULES 6): the answers of write as replies, and what the functions between them cite.
use Rattle.std.specs.Prelude.{ℕ, ◌+◌, ◌-◌, ◌^◌, ◌<◌, ◌≤◌, ◌≡◌, cond, List, [], ◌∷◌, ◌++◌, eqb, length, get_or, Result, Ok, Err}
use Rattle.code.specs.declared.Shape.{Shape}
use Rattle.code.specs.Shape.{counts_of, code_of}
use Rattle.code.specs.declared.Generation.{Generation}
use Rattle.code.proofs.Chosen.{pattern_most}
use Rattle.code.proofs.Places.{Dealable}
use Rattle.code.specs.Code.{pattern, room}
use Rattle.counting.specs.Cap.{cap}
use Rattle.code.specs.Deal.{written}
use Rattle.code.specs.Field as Field
use Rattle.code.proofs.Groups.{erase}
use Rattle.words.specs.Words.{front_groups}
use Rattle.code.specs.declared.Refusal.{Refusal}
use Rattle.code.specs.declared.Refusal.TheVariants.{Spent, Miscounted, Beyond}
use Rattle.code.specs.Refusals.{reply_of}
use Rattle.reading.specs.Answers.{held_groups, Holds}
use Rattle.writing.specs.declared.Held.{Held}
use Rattle.writing.specs.declared.WriteFields.{WriteFields}
use Rattle.writing.specs.declared.Written.{Written}

-- 01, Where each language form belongs; RULES 13: a write as a reply: 0 and the values, or the refusal
abbrev pub writing_of : Result Written Refusal → List ℕ
writing_of r = reply_of (λ a. a.generation ∷ a.turned ∷ []) r

abbrev pub write_fields_of : WriteFields → List ℕ
write_fields_of r = r.refusal ∷ r.generation ∷ r.turned ∷ r.unerased ∷ []

-- where a reading is written next, or the refusal that is left to it
abbrev pub aim_at : ℕ → Field.Reading → Result ℕ Refusal
aim_at t Field.blank = Ok 0
aim_at t (Field.reads i x) = cond (eqb i t) (Err Spent) (Ok i)
aim_at t (Field.miscounted i u) = Err (Miscounted i u)
aim_at t (Field.beyond i) = Err (Beyond i)

-- the groups that a write of x at place i leaves by the layout of a shape
abbrev pub after_in : Shape → ℕ → ℕ → List ℕ → List ℕ
after_in s i x gs = Field.after (code_of s) i x gs

-- the same of a generation: what is above its places is erased, and the pattern is laid into the zero groups
abbrev pub laid_by : ℕ → Generation → ℕ → List ℕ → List ℕ
laid_by m g x gs = Field.lay (erase (2 ^ m - 1) (Field.zeros gs - g.places) gs) (pattern g.dealing g.places x)

-- groups that may be written at place i, z of them zero
pub record Due (s : Shape) (i z : ℕ) (gs : List ℕ) : Type 0 where
  pub none : z ≡ Field.zeros gs
  pub blank : i ≡ 0 → written gs ≡ 0
  pub enough : get_or (counts_of s) i 0 ≤ z

-- the h groups of a field in the words are gs
pub record Carries (m h n : ℕ) (gs words : List ℕ) : Type 0 where
  pub long : length words ≡ 16
  pub many : length gs ≡ h
  pub behind : List ℕ
  pub made : front_groups m n words ≡ gs ++ behind

-- a number that a generation has room for
pub record Layable (m : ℕ) (g : Generation) (x : ℕ) : Type 0 where
  pub few : g.places ≤ 256
  pub near : g.places ≤ g.next + pattern_most
  pub below : x < cap
  pub fits : x < room g.dealing g.places g.next
  pub deals : Dealable m g.dealing g.next

-- the wits of a group of a field in words, and its groups
abbrev pub wits_of : Held → ℕ
wits_of f = f.outline.m

abbrev pub groups_held : Held → List ℕ → List ℕ
groups_held f words = held_groups (wits_of f) f.groups f.n words

-- a field in words that may be written with x at a generation
pub record Takes (f : Held) (g : Generation) (x : ℕ) (words : List ℕ) : Type 0 where
  pub holds : Holds (wits_of f) f.groups f.n words
  pub none : f.zeros ≡ Field.zeros (groups_held f words)
  pub enough : g.places ≤ f.zeros
  pub lays : Layable (wits_of f) g x
