-- `cells::is_sound` meets its contract: the definition, test by test.
-- Assumes nothing.
use borrow.Author.Tests.{eq-eqb, ne_eqb}
use borrow.Author.Rules.{rules}
use mathlib.Core.Path.{◌≡◌}
use mathlib.Core.List.{List}
use Prim.Native.Nat.{ℕ, ◌*◌, ◌-◌}
use native.Mathlib.Nat.{mul-le-mul}
use native.Mathlib.Omega.{arith}
use lib.ListN.{length}
use Rattle.code.specs.Cells.{sound, value, wit}
use Rattle.cells.proofs.Octets.{left_over}
use Rattle.cells.proofs.is_sound.Statement.{statement}
use Rattle.cells.proofs.is_sound.Tie as tie

returns : tie.Need-returns-then-cells-w
unfolding sound
returns c = simp (ne_eqb _ _ c.if-cells-w.true)

returns-2 : tie.Need-returns-then-over-eq0
unfolding sound value
returns-2 c = rw (eq-eqb _ _ c.if-cells-w.false, c.if-over-eq0.true)

returns-3 : tie.Need-returns
unfolding sound
returns-3 c =
    let a = c in
    let o : ℕ = a.args.order in
    let bs : List ℕ = a.args.cells.now in
    let w : ℕ = a.args.m * a.args.h in
    let e : c.last_bits.result ≡ value (wit o bs) w (8 * length bs - w) = left_over o bs w _ (omega arith) (omega arith) (omega arith) (cc) in
    rw (eq-eqb _ _ c.if-cells-w.false, e)

pub is_sound_spec : {M : Type 1} → statement M
is_sound_spec =
    tie.close
    (tie.spec
    (λ c. record { fits = omega (arith, mul-le-mul c.requires.0 c.requires.1) })
    (λ c. record { fits = omega (arith, mul-le-mul c.requires.0 c.requires.1) })
    returns
    (λ c. record { fits = omega (arith, mul-le-mul c.requires.0 c.requires.1) })
    (λ c. search rules)
    returns-2
    (λ c. search rules)
    (λ c. search rules)
    (λ c κs. search rules)
    (λ c κs. search rules)
    (λ c κs. search rules)
    returns-3)
