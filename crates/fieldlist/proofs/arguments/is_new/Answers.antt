use mathlib.Core.Path.{◌∙◌}
use Rattle.code.specs.Lists.{ascii}
use Rattle.fieldlist.proofs.Words.{equal-same}
use Rattle.fieldlist.proofs.arguments.is_new.Goals as goal

pub returns : goal.returns
unfolding ascii
returns c = rw c.as_slice.ensures at (c.eq.ensures ∙ equal-same c.args.word.now c.as_slice.result.now)
