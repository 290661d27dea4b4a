use Rattle.code.specs.Export.{old_export}
use Rattle.code.proofs.ExportCall.{export-late}
use Rattle.exports.proofs.export_old.Goals as goal

pub returns-then-serial-ge-SERIAL_END-clause-result_value : goal.returns-then-serial-ge-SERIAL_END-clause-result_value
returns-then-serial-ge-SERIAL_END-clause-result_value c = let a = c.args in (export-late (old_export a.serial a.m a.t a.v) _ _ c.if-serial-ge-SERIAL_END.true).0

pub returns-then-serial-ge-SERIAL_END-clause-out_after : goal.returns-then-serial-ge-SERIAL_END-clause-out_after
returns-then-serial-ge-SERIAL_END-clause-out_after c = let a = c.args in (export-late (old_export a.serial a.m a.t a.v) _ _ c.if-serial-ge-SERIAL_END.true).1
