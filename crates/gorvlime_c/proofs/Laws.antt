-- The fields of replies, case by case.
use mathlib.Core.Path.{◌≡◌, refl, ap, ◌∙◌}
use mathlib.Core.List.{List, [], ◌∷◌, ◌++◌}
use Prim.Native.Nat.{ℕ, ◌+◌, ◌^◌, ◌<◌}
use native.Mathlib.Omega.{arith}
use lib.ListN.{length, get_or, take, replicate}
use borrow.Author.Tests.{lt-ltb}
use Rattle.code.specs.declared.Kind.{Kind}
use Rattle.code.specs.declared.Refusal.{Refusal}
use Rattle.code.specs.declared.RefusalFields.{RefusalFields}
use Rattle.code.specs.Refusals.{refusal_reply}
use Rattle.code.proofs.Refused.{refusal_fields_of, numbered}
use Rattle.code.specs.Calls.{filled, read_fields}
use Rattle.code.specs.Dump.{Step, taken, ended, stopped, step, record_numbers, step_values, step_reply}
use Rattle.code.proofs.Steps.{Refusing, step-refusing}
use Rattle.code.proofs.Walk.{step-forward}
use Rattle.dump.specs.Answers.{halt_number, halt_carries, halt_of, told_numbers}
use Rattle.dump.specs.declared.Record.{Record}
use Rattle.dump.specs.declared.Halt.{Halt}
use Rattle.dump.specs.declared.Halt.TheVariants.{Malformed, Oversize}
use Rattle.gorvlime_c.specs.Fields.{offset_fields, cells_end, new_found_fields}

pub found-record : (r : Record) (reading fields : List ℕ) → fields ≡ read_fields reading →
    0 ∷ 0 ∷ 1 ∷ r.serial ∷ r.layout ∷ r.brief.form ∷ r.brief.m ∷ r.brief.t ∷ r.brief.v ∷ r.start ∷ r.count ∷ (r.start + r.count) ∷ fields
    ≡ new_found_fields (0 ∷ (told_numbers r ++ reading))
unfolding new_found_fields cells_end
found-record r reading fields q = rw (lt-ltb 2 (length (0 ∷ (told_numbers r ++ reading))) (omega arith), q)

-- no record at the end of a dump
pub found_none : (k : ℕ) → k ∷ 0 ∷ replicate 15 0 ≡ new_found_fields (k ∷ [])
unfolding new_found_fields filled
found_none k = refl

-- a halt with the offset that it carries, where a step is told and where a dump is opened
pub found-halted : (halt : Halt) → halt_number halt ∷ get_or (halt_carries halt) 0 0 ∷ replicate 15 0 ≡ new_found_fields (halt_of halt)
unfolding new_found_fields filled
found-halted (Malformed offset) = refl
found-halted Oversize = refl

pub opened-halted : (halt : Halt) → halt_number halt ∷ get_or (halt_carries halt) 0 0 ∷ 0 ∷ 0 ∷ [] ≡ offset_fields 4 (halt_of halt)
unfolding offset_fields filled
opened-halted (Malformed offset) = refl
opened-halted Oversize = refl

-- a record's cells end within the dump
pub step_fits : (kind : Kind) (bytes : List ℕ) (at : ℕ) → cells_end (step_reply kind bytes at) < 2 ^ 64
unfolding step_reply step_values record_numbers cells_end
step_fits kind bytes at = go (step kind bytes at) refl (step-refusing kind bytes at)
  where
    go : (s : Step) → step kind bytes at ≡ s → Refusing s → cells_end (step_values bytes s) < 2 ^ 64
    go (taken r) q h = omega (arith, step-forward kind bytes at r q)
    go ended q h = omega arith
    go (stopped k []) q h = omega arith
    go (stopped k (x ∷ [])) q h = omega arith
    go (stopped k (x ∷ y ∷ xs)) q h = absurd (omega (arith, h.1))

-- an answer that is accepted
pub opened-fields : (layouts first : ℕ) → 0 ∷ 0 ∷ layouts ∷ first ∷ [] ≡ offset_fields 4 (0 ∷ layouts ∷ first ∷ [])
unfolding offset_fields filled
opened-fields layouts first = refl

pub moved-fields : (n : ℕ) → 0 ∷ 0 ∷ n ∷ [] ≡ offset_fields 3 (0 ∷ n ∷ [])
unfolding offset_fields filled
moved-fields n = refl

-- a reply in two fields is the front of it in three
fewer : (r : List ℕ) → take 2 (filled 3 r) ≡ filled 2 r
unfolding filled
fewer [] = refl
fewer (x ∷ []) = refl
fewer (x ∷ y ∷ r) = refl

module _ (k : Refusal) (c : RefusalFields) (told : refusal_fields_of c ≡ filled 3 (refusal_reply k)) where
  pub refused-move : c.number ∷ c.first ∷ c.second ∷ [] ≡ offset_fields 3 (refusal_reply k)
  unfolding offset_fields
  refused-move = rw (numbered k c told) told

  pub refused-made : c.number ∷ c.first ∷ [] ≡ filled 2 (refusal_reply k)
  refused-made = ap (λ r. take 2 r) told ∙ fewer (refusal_reply k)
