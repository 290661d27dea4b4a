-- The reply of a walk into rows: no more rows than fit, and, where neither the end nor a refusal was met, a next place further on.
use Prim.Native.Nat.{ℕ, zero, suc, ◌+◌, ◌*◌, ◌/◌, ◌≤◌, ◌<◌}
use mathlib.Core.Path.{◌≡◌, refl}
use mathlib.Core.List.{List}
use native.Mathlib.Omega.{arith}
use lib.ListN.{length, get_or}
use Rattle.code.specs.declared.Kind.{Kind}
use Rattle.code.specs.declared.Kind.TheVariants.{Old, New}
use Rattle.code.specs.Dump.{Step, taken, ended, stopped, Opening, barred, entered, opening, step, walk_from, row_length, row_steps, closing, walk_on, walk_reply}
use Rattle.code.proofs.Walk.{step-forward, walk-taken, walk-ended, walk-stopped}
use Rattle.code.proofs.Steps.{Refusing, step-refusing, Barring, open-barring}
use Rattle.code.specs.Calls.{refusal_in}

-- the numbers of a walk's reply by name: the rows filled, where the next step would start, and 1 where the end was reached (RULES 13)
abbrev pub rows_in : List ℕ → ℕ
rows_in reply = get_or reply 2 0

abbrev pub next_in : List ℕ → ℕ
next_in reply = get_or reply 3 0

abbrev pub ended_in : List ℕ → ℕ
ended_in reply = get_or reply 4 0

module _ (kind : Kind) (bytes : List ℕ) where
  -- the reply after so many rows, with room for so many more
  record Closed (at done room : ℕ) (reply : List ℕ) : Type 0 where
    few : rows_in reply ≤ done + room
    within : at ≤ length bytes → next_in reply ≤ length bytes
    onward : refusal_in reply ≡ 0 → ended_in reply ≡ 0 → (at ≤ next_in reply) × (0 < room → at < next_in reply)

  closes : (room at done : ℕ) → Closed at done room (closing at done (walk_from room kind bytes at))
  unfolding walk_from closing
  closes zero at done = record { few = omega arith; within = λ h. h; onward = λ r e. (omega arith, λ h. absurd (omega arith)) }
  closes (suc room) at done = go (step kind bytes at) refl (step-refusing kind bytes at) (closes room)
    where
      go : (s : Step) → step kind bytes at ≡ s → Refusing s → ((next rows : ℕ) → Closed next rows room (closing next rows (walk_from room kind bytes next))) →
          Closed at done (suc room) (closing at done (walk_from (suc room) kind bytes at))
      go (taken r) q p ih =
          let f = step-forward kind bytes at r q in
          let w = ih (r.start + r.count) (suc done) in
          rw (walk-taken kind bytes room at r q) record {
            few = omega (arith, w.few);
            within = λ h. w.within f.2;
            onward = λ r e. let o = w.onward r e in (omega (arith, o.0, f.1), λ h. omega (arith, o.0, f.1));
          }
      go ended q p ih = rw (walk-ended kind bytes room at q) record { few = omega arith; within = λ h. h; onward = λ r e. absurd (omega arith) }
      go (stopped k carried) q p ih =
          rw (walk-stopped kind bytes room at k carried q) record { few = omega arith; within = λ h. h; onward = λ r e. absurd (omega (arith, p.0)) }

  module _ (at : ℕ) (rows : List ℕ) where
    walked : Closed at 0 (length rows / row_length kind) (walk_reply kind bytes at rows)
    unfolding walk_reply walk_on
    walked = go (opening kind bytes) (open-barring kind bytes)
      where
        go : (o : Opening) → Barring o → Closed at 0 (length rows / row_length kind) (walk_on o (closing at 0 (row_steps kind bytes at rows)))
        go (barred k carried) p = record { few = omega arith; within = λ h. omega arith; onward = λ r e. absurd (omega (arith, p.0)) }
        go (entered source start) p = closes (length rows / row_length kind) at 0

    few-rows : (kind : Kind) (n : ℕ) → n ≤ length rows / row_length kind → row_length kind * n ≤ length rows
    few-rows Old n h = omega arith
    few-rows New n h = omega arith

    pub walk-few : row_length kind * rows_in (walk_reply kind bytes at rows) ≤ length rows
    walk-few = few-rows kind (rows_in (walk_reply kind bytes at rows)) (omega (arith, walked.few))

    -- rows that have room for one record take the walk on, so that a walk by a few rows at a time ends
    pub walk-onward : row_length kind ≤ length rows → at ≤ length bytes → refusal_in (walk_reply kind bytes at rows) ≡ 0 → ended_in (walk_reply kind bytes at rows) ≡ 0 →
        (at < next_in (walk_reply kind bytes at rows)) × (next_in (walk_reply kind bytes at rows) ≤ length bytes)
    walk-onward some l r e = ((walked.onward r e).1 (some-row kind some), walked.within l)
      where
        some-row : (kind : Kind) → row_length kind ≤ length rows → 0 < length rows / row_length kind
        some-row Old h = omega arith
        some-row New h = omega arith
