-- The promises of opening a dump, of steps and of a listed layout leave no choice: two answers that one of them allows are equal.
use Prim.Native.Nat.{ℕ}
use mathlib.Core.Path.{◌≡◌, refl, sym, ap, ◌∙◌}
use mathlib.Core.List.{List, ◌++◌}
use native.Mathlib.Omega.{arith}
use lib.ListN.{length, get_or}
use Rattle.code.specs.declared.Kind.TheVariants.{Old, New}
use Rattle.code.specs.Dump.{open_reply, step_reply}
use Rattle.code.specs.NewDump.{listed_reply, listed_fields}
use Rattle.code.specs.Calls.{filled}
use Rattle.code.proofs.Tests.{clash}
use Rattle.reading.specs.Answers.{reading_of}
use Rattle.reading.proofs.Unique.{same-reading}
use Rattle.dump.specs.Answers.{halt_of, opened_reply, told_numbers, step_of}
use Rattle.dump.specs.declared.Record.{Record}
use Rattle.dump.specs.declared.Halt.{Halt}
use Rattle.dump.specs.declared.Halt.TheVariants.{Malformed, Oversize}
use Rattle.dump.specs.declared.Opened.{Opened}
use Rattle.std.proofs.Common.{Option, None, Some, Result, Ok, Err}
use Rattle.code.specs.declared.Shape.{Shape}
use Rattle.code.specs.Refusals.{refusal_reply}
use Rattle.code.specs.declared.Refusal.{Refusal}
use Rattle.code.proofs.LayoutCall.{filled_at}
use Rattle.code.proofs.Refused.{refused-some, three-alike}
use Rattle.dump.specs.Listed.{listed_of}

same-halt : (h h' : Halt) → halt_of h ≡ halt_of h' → h ≡ h'
same-halt (Malformed offset) (Malformed offset') q =
    let a : offset ≡ offset' = cc in
    rw a
same-halt (Malformed offset) Oversize q = absurd (omega (arith, ap length q))
same-halt Oversize (Malformed offset) q = absurd (omega (arith, ap length q))
same-halt Oversize Oversize q = refl

-- a record is fixed by its numbers and what it reads as
told_same : (r p : Record) → told_numbers r ++ reading_of r.outcome ≡ told_numbers p ++ reading_of p.outcome → r ≡ p
told_same r p e =
    let a : r.serial ≡ p.serial = cc in
    let b : r.layout ≡ p.layout = cc in
    let c : r.brief.form ≡ p.brief.form = cc in
    let d : r.brief.m ≡ p.brief.m = cc in
    let f : r.brief.t ≡ p.brief.t = cc in
    let g : r.brief.v ≡ p.brief.v = cc in
    let h : r.start ≡ p.start = cc in
    let k : r.count ≡ p.count = cc in
    let l : r.outcome ≡ p.outcome = same-reading r.outcome p.outcome (cc) in
    λ i. record {
      serial = a i;
      layout = b i;
      brief = record { form = c i; m = d i; t = f i; v = g i };
      start = h i;
      count = k i;
      outcome = l i;
    }

pub same_step : (r r' : Result (Option Record) Halt) → step_of r ≡ step_of r' → r ≡ r'
same_step (Ok (Some r)) (Ok (Some r')) q = rw (told_same r r' (cc))
same_step (Ok (Some r)) (Ok None) q = clash (cc)
same_step (Ok (Some r)) (Err (Malformed offset)) q = clash (cc)
same_step (Ok (Some r)) (Err Oversize) q = clash (cc)
same_step (Ok None) (Ok (Some r)) q = clash (cc)
same_step (Ok None) (Ok None) q = refl
same_step (Ok None) (Err (Malformed offset)) q = clash (cc)
same_step (Ok None) (Err Oversize) q = clash (cc)
same_step (Err (Malformed offset)) (Ok (Some r)) q = clash (cc)
same_step (Err Oversize) (Ok (Some r)) q = clash (cc)
same_step (Err (Malformed offset)) (Ok None) q = clash (cc)
same_step (Err Oversize) (Ok None) q = clash (cc)
same_step (Err h) (Err h') q = rw (same-halt h h' q)

same-opened : (r r' : Result Opened Halt) → opened_reply r ≡ opened_reply r' → r ≡ r'
same-opened (Ok d) (Ok d') q =
    let a : d.start ≡ d'.start = cc in
    let b : d.layouts ≡ d'.layouts = cc in
    λ i. Ok (record { start = a i; layouts = b i })
same-opened (Ok d) (Err (Malformed offset)) q = clash (cc)
same-opened (Ok d) (Err Oversize) q = clash (cc)
same-opened (Err (Malformed offset)) (Ok d) q = clash (cc)
same-opened (Err Oversize) (Ok d) q = clash (cc)
same-opened (Err h) (Err h') q = rw (same-halt h h' q)

pub unique-open-new : (bytes : List ℕ) (r r' : Result Opened Halt) → opened_reply r ≡ open_reply New bytes → opened_reply r' ≡ open_reply New bytes → r ≡ r'
unique-open-new bytes r r' p q = same-opened r r' (p ∙ sym q)

same_listed : (r r' : Result Shape Refusal) → listed_of r ≡ listed_of r' → r ≡ r'
same_listed (Ok s) (Ok s') q =
    let a : s.form ≡ s'.form = cc in
    let b : s.m ≡ s'.m = cc in
    let c : s.t ≡ s'.t = cc in
    let d : s.count ≡ s'.count = cc in
    let e : s.v ≡ s'.v = cc in
    λ i. Ok (record { form = a i; m = b i; t = c i; count = d i; v = e i })
same_listed (Ok s) (Err k) q = absurd (omega (arith, refused-some k, filled_at listed_fields (refusal_reply k) 0 (omega arith), ap (λ l. get_or l 0 0) q))
same_listed (Err k) (Ok s) q = absurd (omega (arith, refused-some k, filled_at listed_fields (refusal_reply k) 0 (omega arith), ap (λ l. get_or l 0 0) q))
same_listed (Err k) (Err k') q =
    let same = three-alike k k' (λ n few. sym (filled_at listed_fields (refusal_reply k) n (omega arith)) ∙ ap (λ l. get_or l n 0) q
    ∙ filled_at listed_fields (refusal_reply k') n (omega arith)) in
    rw same

pub unique-listed-shape : (bytes : List ℕ) (number : ℕ) (r r' : Result Shape Refusal) →
    listed_of r ≡ filled listed_fields (listed_reply bytes number) → listed_of r' ≡ filled listed_fields (listed_reply bytes number) → r ≡ r'
unique-listed-shape bytes number r r' p q = same_listed r r' (p ∙ sym q)

pub unique-step : (bytes : List ℕ) (at : ℕ) (r r' : Result (Option Record) Halt) →
    step_of r ≡ step_reply Old bytes at → step_of r' ≡ step_reply Old bytes at → r ≡ r'
unique-step bytes at r r' p q = same_step r r' (p ∙ sym q)

pub unique-step-new : (bytes : List ℕ) (at : ℕ) (r r' : Result (Option Record) Halt) →
    step_of r ≡ step_reply New bytes at → step_of r' ≡ step_reply New bytes at → r ≡ r'
unique-step-new bytes at r r' p q = same_step r r' (p ∙ sym q)
