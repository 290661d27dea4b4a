use Rattle.std.proofs.Common.{arith}
use borrow.Author.Tests.{lt-ltb, le-ltb}
use Rattle.code.specs.Calls.{refusal}
use Rattle.moves.specs.Passes.{length_refusal}
use Rattle.moves.proofs.test_length.Goals as goal

pub returns-then-length-gt-DUMP_MOST : goal.returns-then-length-gt-DUMP_MOST
unfolding length_refusal refusal
returns-then-length-gt-DUMP_MOST c = let a = c.args in simp (lt-ltb 65536 a.«length» (omega arith))

pub returns-then-room-length : goal.returns-then-room-length
unfolding length_refusal refusal
returns-then-room-length c = let a = c.args in simp (le-ltb 65536 a.«length» (omega arith), lt-ltb a.room a.«length» (omega arith))

pub returns : goal.returns
unfolding length_refusal refusal
returns c = let a = c.args in simp (le-ltb 65536 a.«length» (omega arith), le-ltb a.room a.«length» (omega arith))
