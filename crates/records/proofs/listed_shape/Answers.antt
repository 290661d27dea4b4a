use Rattle.std.proofs.Common.{sym, ap, ◌∙◌}
use Rattle.code.specs.LayoutList.{listed_shape}
use Rattle.records.proofs.Laws.{layouts-each, none-listed}
use Rattle.records.proofs.listed_shape.Goals as goal

pub returns-then-places-number : goal.returns-then-places-number
returns-then-places-number c = c.form_zero.ensures ∙ none-listed _ _ _ c.if-places-number.true

pub returns : goal.returns
returns c =
    let a = c.args in
    c.shape_at.ensures ∙ ap listed_shape (sym (layouts-each a.dump.now a.places.now a.number c.if-places-number.false))
