use mathlib.Core.Path.{sym}
use native.Mathlib.Omega.{arith}
use borrow.Author.Tests.{eqb-true, eqb-false}
use lib.ListN.{length}
use Rattle.code.proofs.HexLines.{refuse-none, refuse-shape}
use Rattle.hextext.proofs.import.test_line.Goals as goal

pub returns-then-is_empty : goal.returns-then-is_empty
returns-then-is_empty c = refuse-none _ _ (eqb-true (length c.args.line.now) 0 (sym c.if-is_empty.ensures))

pub returns-in_default : goal.returns-in_default
returns-in_default c =
    refuse-shape _ _ (omega (arith, eqb-false (length c.args.line.now) 0 (sym c.if-is_empty.ensures))) c.in_default.ensures
