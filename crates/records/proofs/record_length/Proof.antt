-- `records::record_length` meets its contract. Assumes nothing.
use native.Mathlib.Omega.{arith}
use borrow.Author.Rules.{rules}
use mathlib.Core.Path.{ap}
use lib.ListN.{length}
use Rattle.code.specs.Numerals.{sevens}
use Rattle.code.proofs.Digits.{sevens-few}
use Rattle.code.proofs.Records.{numerals-few, record-size}
use Rattle.records.proofs.record_length.Statement.{statement}
use Rattle.records.proofs.record_length.Tie as tie

pub record_length_spec : {M : Type 1} → statement M
record_length_spec =
    tie.close
    (tie.spec
    (λ c κs. search rules)
    (λ c κs. search rules)
    -- overflow_add-result
    (λ c. let a = c.args in omega (arith, numerals-few a.head.now, sevens-few 9 a.count))
    -- overflow_add-result-2
    (λ c. let a = c.args in omega (arith, numerals-few a.head.now, sevens-few 9 a.count))
    -- returns
    (λ c cells e.
    let a = c.args in
    omega (arith, record-size a.head.now cells, ap (λ n. length (sevens 9 n)) e)))
