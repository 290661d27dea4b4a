-- `numerals::write_number` meets its contract. Assumes nothing.
use mathlib.Core.Path.{ap}
use Prim.Native.Nat.{◌+◌, ◌^◌, ◌<◌}
use native.Mathlib.Omega.{arith}
use borrow.Author.Rules.{rules}
use lib.ListN.{length}
use Rattle.code.specs.Numerals.{sevens}
use Rattle.code.proofs.Digits.{sevens-last, sevens-next}
use Rattle.storing.proofs.Put.{Storing, storing-begin, storing-first, storing-end}
use Rattle.numerals.proofs.write_number.Statement.{statement}
use Rattle.numerals.proofs.write_number.Tie as tie

abbrev invariant-loop-rest : tie.invariant-loop-rest
invariant-loop-rest out₀ at x rest₀ place₀ out rest place = (rest < 2 ^ 63) × Storing out₀ at (sevens 9 x) out place (sevens 9 rest) (at + length (sevens 9 x))

abbrev decreases-loop-rest : tie.decreases-loop-rest
decreases-loop-rest out₀ at x rest₀ place₀ out rest place = rest

pub write_number_spec : {M : Type 1} → statement M
write_number_spec =
    tie.close
    (tie.spec
    invariant-loop-rest
    decreases-loop-rest
    -- loop-rest-init
    (λ c. (c.requires.0, storing-begin _ _ _))
    -- overflow_add-out
    (λ c. search rules)
    -- overflow_cast-out
    (λ c. search rules)
    -- bounds-out-place
    (λ c. let s = c.loop-rest in omega (arith, ap length (sevens-next 8 s.rest c.loop-rest-test.true s.invariant.0)))
    -- overflow_add-place
    (λ c. let s = c.loop-rest in omega (arith, ap length (sevens-next 8 s.rest c.loop-rest-test.true s.invariant.0)))
    -- loop-rest-smaller
    (λ c. search rules)
    -- loop-rest-preserved
    (λ c. let s = c.loop-rest in
    (omega arith, storing-first (rw (sevens-next 8 s.rest c.loop-rest-test.true s.invariant.0) at s.invariant.1) (omega arith) (omega arith)))
    -- overflow_cast-out-2
    (λ c. search rules)
    -- bounds-out-place-2
    (λ c. omega (arith, ap length (sevens-last 8 c.loop-rest.rest c.loop-rest-test.false)))
    -- overflow_add-result
    (λ c. omega (arith, ap length (sevens-last 8 c.loop-rest.rest c.loop-rest-test.false)))
    -- shape_of-out
    (λ c. search rules)
    -- returns
    (λ c. let s = c.loop-rest in
    storing-end (storing-first (rw (sevens-last 8 s.rest c.loop-rest-test.false) at s.invariant.1) (omega arith) (omega arith))))
