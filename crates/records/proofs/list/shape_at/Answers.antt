use Rattle.std.proofs.Common.{◌∙◌}
use Rattle.records.proofs.Layouts.{shape-whole, shape-broken}
use Rattle.records.proofs.list.shape_at.Goals as goal

pub returns-in_default : goal.returns-in_default
returns-in_default c = c.form_zero.ensures ∙ shape-broken _ _ _ c.in_default.is c.read_layout.ensures

pub returns : goal.returns
returns c = shape-whole _ _ _ _ c.in-Some.is c.read_layout.ensures
