-- `records::fits` meets its contract. Assumes nothing.
use mathlib.Core.Path.{sym}
use native.Mathlib.Omega.{arith}
use borrow.Author.Rules.{rules}
use borrow.Author.Tests.{le-leb}
use lib.ListN.{length}
use Rattle.code.specs.Export.{record_of}
use Rattle.code.proofs.Digits.{sevens-few}
use Rattle.code.proofs.Records.{numerals-few, record-size}
use Rattle.records.proofs.fits.Statement.{statement}
use Rattle.records.proofs.fits.Tie as tie

pub fits_spec : {M : Type 1} → statement M
fits_spec =
    tie.close
    (tie.spec
    (λ c. search rules)
    (λ c. search rules)
    (λ c. search rules)
    -- returns-then-head-count
    (λ c cells e.
    let a = c.args in
    let head = a.head.now in
    sym (le-leb (length (record_of head cells)) a.room (omega (arith, record-size head cells, numerals-few head, sevens-few 9 (length cells)))))
    (λ c κs. search rules)
    -- returns
    (λ c cells e. rw (c.record_length.ensures cells e)))
