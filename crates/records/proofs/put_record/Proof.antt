-- `records::put_record` meets its contract. Assumes nothing.
use native.Mathlib.Omega.{arith}
use borrow.Author.Rules.{rules}
use Rattle.code.proofs.Records.{record-parts, record-size}
use Rattle.storing.proofs.Put.{put_then, put-length}
use Rattle.records.proofs.put_record.Statement.{statement}
use Rattle.records.proofs.put_record.Tie as tie

pub put_record_spec : {M : Type 1} → statement M
put_record_spec =
    tie.close
    (tie.spec
    -- write_numbers-behind-requires
    (λ c κs.
    let s = c.before.before.before.before in
    (s.requires.0.0, omega (arith, record-size s.args.head.now s.args.cells.now)))
    -- write_number-start-requires
    (λ c κs.
    let w = c.write_numbers-behind.ensures in
    let s = c.before.before.before.before.before.before.before.before in
    (s.requires.0.1, omega (arith, record-size s.args.head.now s.args.cells.now, w.ends, put-length w)))
    -- put_bytes-requires
    (λ c κs.
    let n = c.write_number-start.ensures in
    let w = c.write_numbers-behind.ensures in
    let s = c.before.before.before.before.before.before.before.before.before.before.before.before in
    omega (arith, record-size s.args.head.now s.args.cells.now, w.ends, put-length w, n.ends, put-length n))
    (λ c. search rules)
    -- returns
    (λ c.
    let b = c.put_bytes.ensures in
    let n = c.write_number-start.ensures in
    let w = c.write_numbers-behind.ensures in
    let s = c.before.before.before.before.before.before.before.before.before.before.before.before.before.before.before in
    rw (record-parts s.args.head.now s.args.cells.now) (put_then (put_then w n) b)))
