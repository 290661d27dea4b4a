-- `numerals::number_length` meets its contract. Assumes nothing.
use mathlib.Core.Path.{◌≡◌, ap}
use Prim.Native.Nat.{◌+◌, ◌^◌, ◌<◌}
use native.Mathlib.Omega.{arith}
use borrow.Author.Rules.{rules}
use lib.ListN.{length}
use Rattle.code.specs.Numerals.{sevens}
use Rattle.code.proofs.Digits.{sevens-last, sevens-next, sevens-few}
use Rattle.numerals.proofs.number_length.Statement.{statement}
use Rattle.numerals.proofs.number_length.Tie as tie

abbrev invariant-loop-rest : tie.invariant-loop-rest
invariant-loop-rest x rest₀ count₀ rest count = (rest < 2 ^ 63) × (count + length (sevens 9 rest) ≡ length (sevens 9 x) + 1)

abbrev decreases-loop-rest : tie.decreases-loop-rest
decreases-loop-rest x rest₀ count₀ rest count = rest

pub number_length_spec : {M : Type 1} → statement M
number_length_spec =
    tie.close (tie.spec
    invariant-loop-rest
    decreases-loop-rest
    -- loop-rest-init
    (λ c. search rules)
    -- overflow_add-count
    (λ c. omega (arith, sevens-few 9 c.args.x))
    -- loop-rest-smaller
    (λ c. search rules)
    -- loop-rest-preserved
    (λ c. let s = c.loop-rest in omega (arith, ap length (sevens-next 8 s.rest c.loop-rest-test.true s.invariant.0)))
    -- returns
    (λ c. omega (arith, ap length (sevens-last 8 c.loop-rest.rest c.loop-rest-test.false))))
