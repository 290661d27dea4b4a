use native.Mathlib.Omega.{arith}
use lib.ListN.{length}
use Rattle.code.specs.Hex.{line_count}
use Rattle.code.proofs.HexText.{lines-length, text-length}
use Rattle.code.proofs.HexCalls.{export-many, export-short}
use Rattle.hextext.proofs.Outward.{exports}
use Rattle.hextext.proofs.hex_export.Goals as goal

pub returns-then-bytes-gt-BYTES_MOST : goal.returns-then-bytes-gt-BYTES_MOST
returns-then-bytes-gt-BYTES_MOST c =
    let w = export-many _ c.args.out.now c.if-bytes-gt-BYTES_MOST.true in
    record { result_value = w.0; out_after = w.1 }

pub returns-then-out-div_ceil : goal.returns-then-out-div_ceil
returns-then-out-div_ceil c =
    let w = export-short _ c.args.out.now (omega arith) (omega (arith, text-length c.args.bytes.now)) in
    record { result_value = w.0; out_after = w.1 }

pub put_end-requires : goal.put_end-requires
put_end-requires c =
    let bytes = c.args.bytes.now in
    omega (arith, c.put_lines-at.ensures.ends, lines-length (line_count (length bytes)) 0 bytes)

pub returns : goal.returns
returns c =
    let w = exports c.args.bytes.now (omega arith) (omega (arith, text-length c.args.bytes.now)) c.put_lines-at.ensures c.put_end.ensures in
    record { result_value = w.0; out_after = w.1 }
