use Rattle.std.proofs.Common.{ℕ, ◌^◌, ◌<◌, List, [], cond, ltb}
use Rattle.code.specs.Listing.{decimal}
use Rattle.storing.proofs.Put.{Storing}
use Rattle.text.proofs.put_decimal.Given as goal

-- the digits that are still to be stored
abbrev pub digits_left : ℕ → ℕ → ℕ → List ℕ
digits_left at place rest = cond (ltb at place) (decimal rest) []

abbrev pub invariant-loop-place : goal.invariant-loop-place
invariant-loop-place l = (l.rest < 10 ^ 20) × Storing l.initial.out l.at (decimal l.x) l.out l.at (digits_left l.at l.place l.rest) l.place
