-- `words::bits::strip` meets its contract. Assumes nothing.
use mathlib.Core.Path.{refl}
use Rattle.binary.proofs.Shifts.{power-shifted}
use Rattle.words.proofs.Highest.{top-facts}
use Rattle.words.specs.Marks.{top_of}
use lib.Pow.{pow_pos}
use native.Mathlib.Omega.{arith}
use borrow.Author.Rules.{rules}
use Rattle.words.proofs.bits.strip.Statement.{statement}
use Rattle.words.proofs.bits.strip.Tie as tie

pub strip_spec : {M : Type 1} → statement M
strip_spec =
    tie.close
    (tie.spec
    (λ c. search rules)
    -- overflow_sub-result
    (λ c. let f = top-facts c.args.x c.requires.0 c.ranges.x.fits in rw (c.requires.1, power-shifted (top_of c.args.x) (omega arith)) f.1)
    -- returns
    (λ c.
    let f = top-facts c.args.x c.requires.0 c.ranges.x.fits in
    rw (c.requires.1, power-shifted (top_of c.args.x) (omega arith)) (refl, omega (arith, f, pow_pos (top_of c.args.x)))))
