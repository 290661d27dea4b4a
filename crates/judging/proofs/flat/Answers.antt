use Rattle.std.proofs.Common.{◌≡◌, Some, None}
use Rattle.code.specs.Calls.{filled}
use Rattle.code.specs.JudgeCall.{judge_fields}
use Rattle.judging.proofs.Verdicts.{judge-fields-refused}
use Rattle.judging.proofs.flat.Goals as goal

pub returns-in-Ok-Some : goal.returns-in-Ok-Some
unfolding filled judge_fields
returns-in-Ok-Some c =
    let some : c.in-Ok-Some.field-0 ≡ Some c.in-Ok-Some.number = rw c.in-Ok-Some.is at c.in-Ok-Some.field-0-is in
    rw (c.in-Ok-Some.is, some)

pub returns-in-Ok-None : goal.returns-in-Ok-None
unfolding filled judge_fields
returns-in-Ok-None c =
    let none : c.in-Ok-None.field-0 ≡ None = rw c.in-Ok-None.is at c.in-Ok-None.field-0-is in
    rw (c.in-Ok-None.is, none)

pub returns-in-Err : goal.returns-in-Err
returns-in-Err c = rw c.in-Err.is (judge-fields-refused c.in-Err.refusal c.fields-told.result c.fields-told.ensures)
