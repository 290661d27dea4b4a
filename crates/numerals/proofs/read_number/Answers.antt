use Rattle.std.proofs.Common.{rules, ◌≡◌, ◌<◌, ◌≤◌, suc, length, get_or, drop, arith, drop_of_length-le}
use Rattle.std.proofs.Math.Seq.{drop-cons}
use borrow.Author.Tests.{true-ltb}
use Rattle.code.specs.Numerals.{read_sevens}
use Rattle.code.proofs.Numerals.{read-last}
use Rattle.numerals.proofs.read_number.Goals as goal

pub returns-in_err-get : goal.returns-in_err-get
unfolding read_sevens
returns-in_err-get c =
    let bytes = c.args.bytes.now in
    let short : length bytes ≤ c.args.at = c.in_err-get.ensures.lookup.3 in
    rw (c.from_residual.ensures, drop_of_length-le bytes short)

pub returns-then-first-lt128 : goal.returns-then-first-lt128
returns-then-first-lt128 c =
    let bytes = c.args.bytes.now in
    let at = c.args.at in
    let within : at < length bytes = true-ltb at (length bytes) c.in_ok-get.ensures.lookup.0 in
    let here : c.from-first.result ≡ get_or bytes at 0 = search rules in
    rw (here, drop-cons bytes at 0 within, read-last 8 (get_or bytes at 0) (drop (suc at) bytes) (omega arith))
