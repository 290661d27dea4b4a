-- `shapes::later_ranges` meets its contract: `all` tests the ranges one after the other. Assumes nothing.
use Prim.Native.Nat.{◌-◌}
use mathlib.Core.Path.{◌∙◌}
use native.Mathlib.Omega.{arith}
use borrow.Author.Rules.{rules}
use borrow.Author.Tests.{tests}
use Rattle.std.proofs.lemmas.Iterator.{YieldsList-from_slice}
use Rattle.std.proofs.lemmas.Iterator.Search.{all_from_yields_List}
use Rattle.shapes.proofs.Ranges.{is_range, ranges-listed}
use Rattle.shapes.proofs.later_ranges.Goals as goal

pub returns : goal.returns
returns c =
    all_from_yields_List is_range _ _ c.all.result c.all.ensures.ran (YieldsList-from_slice _ c.iter.ensures.rest) (λ x b q k. search (rules, tests))
    ∙ ranges-listed c.args.v.now 1 (c.args.count - 1) (omega arith)
