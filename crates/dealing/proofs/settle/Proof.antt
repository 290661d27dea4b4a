-- `dealing::settle` meets its contract. Assumes nothing.
use mathlib.Core.Path.{◌≡◌}
use Prim.Native.Nat.{ℕ, suc, ◌-◌, ◌<◌}
use native.Mathlib.Omega.{arith}
use borrow.Author.Rules.{rules}
use Rattle.code.specs.Count.{choose}
use Rattle.counting.specs.Cap.{cap, sat}
use Rattle.dealing.proofs.Drawing.{enough}
use Rattle.dealing.proofs.settle.Statement.{statement}
use Rattle.dealing.proofs.settle.Tie as tie

abbrev invariant-loop : tie.invariant-loop-fit
invariant-loop s k label₀ fit₀ label fit = (label < s) × (fit ≡ sat (choose label k)) × ((r : ℕ) → r < cap → r < choose s k → r < choose (suc label) k)

abbrev decreases-loop : tie.decreases-loop-fit
decreases-loop s k label₀ fit₀ label fit = label

some : (c : tie.In-loop-fit invariant-loop decreases-loop) → 0 < c.loop-fit.label
some c = omega (arith, enough c.loop-fit.label c.args.k 0 (omega arith))

pub settle_spec : {M : Type 1} → statement M
settle_spec =
    tie.close
    (tie.spec
    invariant-loop
    decreases-loop
    -- overflow_sub-label
    (λ c. search rules)
    -- binomial-fit-requires
    (λ c κs. search rules)
    -- loop-fit-init
    (λ c.
    let s = c.args.s in
    let u : suc (s - 1) ≡ s = omega arith in
    (omega arith, c.binomial-fit.ensures, λ r small h. rw u h))
    -- overflow_sub-label-in-loop-fit
    (λ c. some c)
    -- binomial-fit-requires-in-loop-fit
    (λ c κs. omega arith)
    -- loop-fit-smaller
    (λ c. omega (arith, some c.before))
    -- loop-fit-preserved
    (λ c.
    let s = c.loop-fit in
    let u : suc (s.label - 1) ≡ s.label = omega (arith, some c.before) in
    (omega arith, c.binomial-fit-in-loop-fit.ensures, λ r small h. rw u (omega arith)))
    -- returns
    (λ c.
    let s = c.loop-fit in
    (s.invariant.0, λ r small h. record { is = omega arith; small = omega arith; high = s.invariant.2 r small h })))
