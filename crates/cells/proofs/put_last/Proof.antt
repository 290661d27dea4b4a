-- `cells::put_last` meets its contract: the bytes before are put as they were.
-- Assumes nothing.
use borrow.Author.Rules.{rules}
use mathlib.Core.Path.{refl}
use native.Mathlib.Omega.{arith}
use Rattle.cells.proofs.Putting.{put_last}
use Rattle.cells.proofs.put_last.Statement.{statement}
use Rattle.cells.proofs.put_last.Tie as tie

returns : tie.Need-returns
returns c =
    let a = c in
    let y = c.eight-y.result in
    put_last _ _ _ _ _ a.ranges.x.fits a.requires.0.none y _ (omega arith) (omega arith) (omega arith) refl
    c.eight-y.ensures
    c.put_eight.ensures

pub put_last_spec : {M : Type 1} → statement M
put_last_spec =
    tie.close
    (tie.spec
    (λ c. search rules)
    (λ c. search rules)
    (λ c. search rules)
    (λ c κs. search rules)
    (λ c. search rules)
    (λ c. search rules)
    (λ c. search rules)
    (λ c. search rules)
    (λ c κs. search rules)
    (λ c. search rules)
    returns)
