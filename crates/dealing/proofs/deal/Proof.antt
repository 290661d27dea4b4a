-- `dealing::deal` meets its contract. Assumes nothing.
use Prim.Native.Nat.{◌≤◌}
use native.Mathlib.Nat.{div-le_self}
use native.Mathlib.Omega.{arith}
use borrow.Author.Rules.{rules}
use Rattle.code.proofs.Chosen.{pattern_most}
use Rattle.dealing.proofs.Drawing.{chosen_none, split-few, split-divisor, split-rank, split-digits, split-chosen}
use Rattle.dealing.proofs.deal.Statement.{statement}
use Rattle.dealing.proofs.deal.Tie as tie

few : (c : tie.After-pass_fewer-p) → c.pass_fewer-p.result.k ≤ pattern_most
few c = let p = c.requires.1 in split-few c.pass_fewer-p.ensures.0 p.1 p.3 p.4

pub deal_spec : {M : Type 1} → statement M
deal_spec =
    tie.close
    (tie.spec
    -- overflow_add-n
    (λ c. search rules)
    -- returns-then-n-fewest-eq0
    (λ c.
    let a = c.args in
    (chosen_none a.b a.fewest a.s a.n _ _ (omega arith) c.if-n-fewest-eq0.true, (omega arith, c.requires.0.0, c.requires.0.1)))
    -- pass-fewer-requires
    (λ c κs. search rules)
    -- nonzero_div-p
    (λ c.
    let p = c.before.before in
    split-divisor p.requires.1.1 p.pass_fewer-p.ensures.0 p.pass_fewer-p.ensures.1)
    -- unrank-requires
    (λ c κs.
    let p = c.before.before in
    let a = p.before.before in
    let S = p.pass_fewer-p.ensures.0 in
    let small = div-le_self p.pass_fewer-p.result.rest p.pass_fewer-p.result.power in
    (a.requires.0.0, (a.requires.1.0, S.some, few p, omega (arith, S.number), split-rank a.requires.1.1 S p.pass_fewer-p.ensures.1)))
    -- nonzero_rem-p
    (λ c.
    let p = c.before.before.before.before.before in
    split-divisor p.requires.1.1 p.pass_fewer-p.ensures.0 p.pass_fewer-p.ensures.1)
    -- plainly-requires
    (λ c κs.
    let p = c.before.before.before.before.before in
    let a = p.before.before in
    let digits = split-digits a.requires.1.1 p.pass_fewer-p.ensures.0 p.pass_fewer-p.ensures.1 in
    (a.requires.0.1, few p, a.requires.1.1, a.requires.1.2, digits))
    -- returns
    (λ c.
    let p = c.before.before.before.before.before.before in
    let a = p.before.before in
    let l = c.unrank.ensures in
    let d = c.plainly.ensures in
    (split-chosen a.requires.1.1 p.pass_fewer-p.ensures.0 p.pass_fewer-p.ensures.1 _ _ l.0 d.0, (few p, l.1, d.1))))
