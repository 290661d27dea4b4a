-- The promises of walks leave no choice: two answers that one of them allows are equal, and so are the rows afterwards.
use Prim.Native.Nat.{ℕ}
use mathlib.Core.Path.{◌≡◌, refl, sym, ◌∙◌}
use mathlib.Core.Bool.{Bool, true, false}
use mathlib.Core.List.{List}
use Rattle.std.specs.Prelude.{Result, Ok, Err}
use Rattle.code.proofs.Tests.{clash}
use Rattle.dump.specs.declared.Halt.{Halt}
use Rattle.dump.specs.declared.Halt.TheVariants.{Malformed, Oversize}
use Rattle.code.specs.declared.Kind.TheVariants.{Old, New}
use Rattle.code.specs.Dump.{walk_reply, walk_leaves}
use Rattle.walking.specs.Answers.{ended_by, walked_of}
use Rattle.walking.specs.declared.Walked.{Walked}

same-ended : (next rows next' rows' : ℕ) (e e' : Result Bool Halt) → ended_by next rows e ≡ ended_by next' rows' e' → (next ≡ next') × (rows ≡ rows') × (e ≡ e')
same-ended next rows next' rows' (Ok true) (Ok true) q = (cc, cc, refl)
same-ended next rows next' rows' (Ok true) (Ok false) q = clash (cc)
same-ended next rows next' rows' (Ok false) (Ok true) q = clash (cc)
same-ended next rows next' rows' (Ok false) (Ok false) q = (cc, cc, refl)
same-ended next rows next' rows' (Ok ended) (Err (Malformed offset)) q = clash (cc)
same-ended next rows next' rows' (Ok ended) (Err Oversize) q = clash (cc)
same-ended next rows next' rows' (Err (Malformed offset)) (Ok ended) q = clash (cc)
same-ended next rows next' rows' (Err Oversize) (Ok ended) q = clash (cc)
same-ended next rows next' rows' (Err (Malformed offset)) (Err (Malformed offset')) q = let o : offset ≡ offset' = cc in (cc, cc, rw o)
same-ended next rows next' rows' (Err (Malformed offset)) (Err Oversize) q = clash (cc)
same-ended next rows next' rows' (Err Oversize) (Err (Malformed offset)) q = clash (cc)
same-ended next rows next' rows' (Err Oversize) (Err Oversize) q = (cc, cc, refl)

same-walked : (r r' : Walked) → walked_of r ≡ walked_of r' → r ≡ r'
same-walked r r' q =
    let s = same-ended r.next r.rows r'.next r'.rows r.ended r'.ended q in
    λ i. record { rows = s.1 i; next = s.0 i; ended = s.2 i }

walk-alike : (reply leaves after after' : List ℕ) (r r' : Walked) → walked_of r ≡ reply → after ≡ leaves → walked_of r' ≡ reply → after' ≡ leaves →
    (r ≡ r') × (after ≡ after')
walk-alike reply leaves after after' r r' p a p' a' = (same-walked r r' (p ∙ sym p'), a ∙ sym a')

pub unique-walk : (bytes : List ℕ) (at : ℕ) (rows after after' : List ℕ) (r r' : Walked) →
    walked_of r ≡ walk_reply Old bytes at rows → after ≡ walk_leaves Old bytes at rows →
    walked_of r' ≡ walk_reply Old bytes at rows → after' ≡ walk_leaves Old bytes at rows → (r ≡ r') × (after ≡ after')
unique-walk bytes at rows = walk-alike (walk_reply Old bytes at rows) (walk_leaves Old bytes at rows)

pub unique-walk-new : (bytes : List ℕ) (at : ℕ) (rows after after' : List ℕ) (r r' : Walked) →
    walked_of r ≡ walk_reply New bytes at rows → after ≡ walk_leaves New bytes at rows →
    walked_of r' ≡ walk_reply New bytes at rows → after' ≡ walk_leaves New bytes at rows → (r ≡ r') × (after ≡ after')
unique-walk-new bytes at rows = walk-alike (walk_reply New bytes at rows) (walk_leaves New bytes at rows)
