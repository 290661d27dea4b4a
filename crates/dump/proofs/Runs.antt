-- Steps made one after the other, from where the records begin: they give the walk.
use Prim.Native.Nat.{ℕ, ◌+◌, ◌-◌}
use mathlib.Core.Path.{◌≡◌, refl}
use mathlib.Core.List.{List, [], ◌∷◌}
use lib.ListN.{length}
use Rattle.code.specs.declared.Kind.{Kind}
use Rattle.code.specs.Dump as Code
use Rattle.code.proofs.Walk.{walk-ended, walk-stopped, onward-taken}
use Rattle.std.proofs.Common.{Option, None, Some, Result, Ok, Err}
use Rattle.dump.specs.Answers.{halt_number, halt_carries, step_of}
use Rattle.dump.specs.declared.Record as Declared
use Rattle.dump.specs.declared.Halt.{Halt}
use Rattle.dump.proofs.Walking.{gives-record, record-ends, gives-end, gives-stop}

abbrev Stepped : Type 0
Stepped = Result (Option Declared.Record) Halt

-- steps as their promise allows them, each at the place behind the record before, to the end or a stop
pub data Stepping (kind : Kind) (bytes : List ℕ) : ℕ → List Stepped → Type 0 where
  at-end : {at : ℕ} → step_of (Ok None) ≡ Code.step_reply kind bytes at → Stepping kind bytes at (Ok None ∷ [])
  at-stop : {at : ℕ} (halt : Halt) → step_of (Err halt) ≡ Code.step_reply kind bytes at → Stepping kind bytes at (Err halt ∷ [])
  onwards : {at : ℕ} {rs : List Stepped} (r : Declared.Record) → step_of (Ok (Some r)) ≡ Code.step_reply kind bytes at →
      Stepping kind bytes (r.start + r.count) rs → Stepping kind bytes at (Ok (Some r) ∷ rs)

abbrev pub replies : List Stepped → List (List ℕ)
replies [] = []
replies (r ∷ rs) = step_of r ∷ replies rs

-- the replies that the walk is due
abbrev pub due : List ℕ → List Code.Step → List (List ℕ)
due bytes [] = []
due bytes (s ∷ ss) = Code.step_values bytes s ∷ due bytes ss

steps-onward : {kind : Kind} {bytes : List ℕ} {at : ℕ} {rs : List Stepped} → Stepping kind bytes at rs → replies rs ≡ due bytes (Code.onward kind bytes at)
unfolding Code.step_values
steps-onward {kind} {bytes} {at} (at-end e) = rw (walk-ended kind bytes (length bytes - at) at (gives-end kind bytes at e refl))
steps-onward {kind} {bytes} {at} (at-stop halt e) =
    rw (walk-stopped kind bytes (length bytes - at) at (halt_number halt) (halt_carries halt) (gives-stop kind bytes at {s = Err halt} e refl))
steps-onward {kind} {bytes} {at} (onwards r e rest) =
    let told = gives-record kind bytes at {s = Ok (Some r)} e refl in
    let last = record-ends kind bytes at {s = Ok (Some r)} e refl in
    rw (onward-taken kind bytes at told.0 told.1, told.2, told.3, last, steps-onward rest)

-- Stepping from where the records begin gives exactly the walk.
pub steps-walk : {kind : Kind} {bytes : List ℕ} {rs : List Stepped} → Stepping kind bytes (Code.start_of (Code.opening kind bytes)) rs →
    replies rs ≡ due bytes (Code.walk kind bytes)
unfolding Code.walk
steps-walk s = steps-onward s
