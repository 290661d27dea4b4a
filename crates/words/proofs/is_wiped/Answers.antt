-- `words::is_wiped` meets its contract: `all` looks at the words one after the other. Assumes nothing.
use mathlib.Core.Path.{◌∙◌}
use native.Mathlib.Omega.{arith}
use lib.ListN.{take}
use borrow.Author.Rules.{rules}
use borrow.Author.Tests.{tests}
use Rattle.std.proofs.lemmas.Iterator.{YieldsList-from_slice, YieldsList-from_zip}
use Rattle.std.proofs.lemmas.Iterator.Search.{all_from_yields_List}
use Rattle.words.proofs.Wiped.{word_wiped, words-wiped}
use Rattle.words.proofs.is_wiped.Goals as goal

pub returns : goal.returns
returns c =
    let n = c.args.n in
    let b = YieldsList-from_slice {s = c.zip.result.a} (take n c.args.before.now) cc in
    let a = YieldsList-from_slice {s = c.zip.result.b} (take n c.args.after.now) cc in
    let both = YieldsList-from_zip {s = c.zip.result} b a in
    all_from_yields_List (word_wiped c.of-groups.result.m) c.all.new.self _ c.all.result c.all.ensures.ran both (λ x b q k. search (rules, tests))
    ∙ rw c.of-groups.ensures (words-wiped c.args.m (take n c.args.before.now) (take n c.args.after.now) (omega arith) (omega arith))
