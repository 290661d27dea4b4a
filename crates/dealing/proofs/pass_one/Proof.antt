-- `dealing::pass_one` meets its contract. Assumes nothing.
use mathlib.Core.Path.{refl}
use native.Mathlib.Omega.{arith}
use borrow.Author.Rules.{rules}
use Rattle.dealing.proofs.Drawing.{Passed, pass, split-turn}
use Rattle.dealing.proofs.pass_one.Statement.{statement}
use Rattle.dealing.proofs.pass_one.Tie as tie

passed : (c : tie.Start) → let a = c.args in Passed a.b a.s a.p.k a.p.power a.p.term
passed c = let d = c.requires.0 in pass c.requires.1 d.few d.within d.small c.requires.2

pub pass_one_spec : {M : Type 1} → statement M
pass_one_spec =
    tie.close
    (tie.spec
    -- overflow_add-result
    (λ c. search rules)
    -- overflow_mul-result
    (λ c. omega (arith, (passed c.before.before).power-fits))
    -- next-term-requires
    (λ c κs. let P = passed c.before.before in search rules)
    -- overflow_sub-result
    (λ c. search rules)
    -- returns
    (λ c.
    let s = c.before.before.before.before in
    (refl, split-turn s.requires.1 _ s.requires.2 (passed s) c.next_term.ensures)))
