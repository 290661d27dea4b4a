-- `dealing::pass_on` meets its contract. Assumes nothing.
use Prim.Native.Nat.{◌-◌}
use native.Mathlib.Omega.{arith}
use borrow.Author.Rules.{rules}
use Rattle.dealing.specs.Split.{Splitting}
use Rattle.dealing.proofs.pass_on.Statement.{statement}
use Rattle.dealing.proofs.pass_on.Tie as tie

abbrev invariant-loop : tie.invariant-loop-p
invariant-loop s b fewest n p₀ p = Splitting b fewest s n p.k p.power p.term p.rest

abbrev decreases-loop : tie.decreases-loop-p
decreases-loop s b fewest n p₀ p = s - p.k

pub pass_on_spec : {M : Type 1} → statement M
pass_on_spec =
    tie.close
    (tie.spec
    invariant-loop
    decreases-loop
    -- loop-p-init
    (λ c. search rules)
    -- pass-one-requires
    (λ c κs. search rules)
    -- loop-p-smaller
    (λ c. let r = c.pass_one-p.ensures in omega (arith, r.0, r.1.to))
    -- loop-p-preserved
    (λ c. search rules)
    -- returns
    (λ c. search rules))
