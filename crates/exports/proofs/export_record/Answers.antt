use Rattle.std.proofs.Common.{arith}
use borrow.Author.Tests.{lt-ltb}
use Rattle.code.specs.Export.{new_export}
use Rattle.code.proofs.ExportCall.{export-late, export-off-list}
use Rattle.exports.proofs.export_record.Goals as goal

pub returns-then-serial-ge-SERIAL_END-clause-result_value : goal.returns-then-serial-ge-SERIAL_END-clause-result_value
returns-then-serial-ge-SERIAL_END-clause-result_value c =
    let a = c.args in
    (export-late (new_export a.serial a.layout a.shape) _ _ c.if-serial-ge-SERIAL_END.true).0

pub returns-then-serial-ge-SERIAL_END-clause-out_after : goal.returns-then-serial-ge-SERIAL_END-clause-out_after
returns-then-serial-ge-SERIAL_END-clause-out_after c =
    let a = c.args in
    (export-late (new_export a.serial a.layout a.shape) _ _ c.if-serial-ge-SERIAL_END.true).1

pub returns-then-layout-gt63-clause-result_value : goal.returns-then-layout-gt63-clause-result_value
returns-then-layout-gt63-clause-result_value c =
    let a = c.args in
    (export-off-list (new_export a.serial a.layout a.shape) _ _ (omega arith) (lt-ltb 63 a.layout c.if-layout-gt63.true)).0

pub returns-then-layout-gt63-clause-out_after : goal.returns-then-layout-gt63-clause-out_after
returns-then-layout-gt63-clause-out_after c =
    let a = c.args in
    (export-off-list (new_export a.serial a.layout a.shape) _ _ (omega arith) (lt-ltb 63 a.layout c.if-layout-gt63.true)).1
