use Rattle.std.proofs.Common.{◌≡◌, ◌∙◌, Ok, Some, None}
use Rattle.gorvlime_c.specs.Fields.{cells_end}
use Rattle.gorvlime_c.proofs.Laws.{found_none}
use Rattle.gorvlime_c.proofs.flat_step.Goals as goal

pub flat_record-requires : goal.flat_record-requires
unfolding cells_end
flat_record-requires c =
    let some : c.in-Ok-Some.field-0 ≡ Some c.in-Ok-Some.record = rw c.in-Ok-Some.is at c.in-Ok-Some.field-0-is in
    let is : c.args.step ≡ Ok (Some c.in-Ok-Some.record) = rw some at c.in-Ok-Some.is in
    rw is at c.requires

pub returns-in-Ok-None : goal.returns-in-Ok-None
returns-in-Ok-None c =
    let none : c.in-Ok-None.field-0 ≡ None = rw c.in-Ok-None.is at c.in-Ok-None.field-0-is in
    let is : c.args.step ≡ Ok None = rw none at c.in-Ok-None.is in
    c.no_record.ensures ∙ rw is (found_none 0)
