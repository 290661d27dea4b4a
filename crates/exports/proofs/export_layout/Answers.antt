use Rattle.std.proofs.Common.{◌≡◌, ◌+◌, ◌≤◌, ap, [], ◌∷◌, length, take, length-append, length-take, arith}
use Rattle.std.proofs.lemmas.Result.{err_from_is_err_and}
use Rattle.code.specs.Numerals.{numerals_of}
use Rattle.code.proofs.LayoutCall.{given-length, count-few}
use Rattle.code.proofs.Records.{numerals-few}
use Rattle.layout.proofs.Planning.{laid-granted}
use Rattle.storing.specs.Put.{Put}
use Rattle.storing.proofs.Put.{put_then, put-length}
use Rattle.exports.proofs.Exports.{listed-refused, listed-crowded, listed-made, numbers_of, numbers-below, numbers-parts}
use Rattle.exports.proofs.export_layout.Goals as goal

pub returns-in_err-lay_into-clause-result_value : goal.returns-in_err-lay_into-clause-result_value
returns-in_err-lay_into-clause-result_value c =
    let p = err_from_is_err_and c.from_residual.result c.from_residual.ensures.1 in
    let right = rw c.outline_of.ensures at c.in_err-lay_into.ensures in
    rw (p.1, p.2) (listed-refused c.args.shape c.args.out.now _ right).0

pub returns-in_err-lay_into-clause-out_after : goal.returns-in_err-lay_into-clause-out_after
returns-in_err-lay_into-clause-out_after c =
    let right = rw c.outline_of.ensures at c.in_err-lay_into.ensures in
    (listed-refused c.args.shape c.args.out.now _ right).1

pub numbers_length-requires : goal.numbers_length-requires
numbers_length-requires c =
    let s = c.args.shape in
    let right = rw c.outline_of.ensures at c.in_ok-lay_into.ensures in
    let G = laid-granted s right in
    let few : s.count ≤ length s.v = omega (arith, count-few s G.bounds) in
    ((numbers-below s G.bounds few).0, omega arith)

pub slice_bounds-v-end : goal.slice_bounds-v-end
slice_bounds-v-end c =
    let s = c.args.shape in
    let right = rw c.outline_of.ensures at c.in_ok-lay_into.ensures in
    let G = laid-granted s right in
    let few : s.count ≤ length s.v = omega (arith, count-few s G.bounds) in
    few

pub slice_bounds-ranges-end : goal.slice_bounds-ranges-end
slice_bounds-ranges-end c =
    let s = c.args.shape in
    let right = rw c.outline_of.ensures at c.in_ok-lay_into.ensures in
    let G = laid-granted s right in
    let few : s.count ≤ length s.v = omega (arith, count-few s G.bounds) in
    omega (arith, few, length-take s.count s.v)

pub numbers_length-requires-2 : goal.numbers_length-requires-2
numbers_length-requires-2 c =
    let s = c.args.shape in
    let right = rw c.outline_of.ensures at c.in_ok-lay_into.ensures in
    let G = laid-granted s right in
    let few : s.count ≤ length s.v = omega (arith, count-few s G.bounds) in
    ((numbers-below s G.bounds few).1, omega (arith, length-take s.count s.v, count-few s G.bounds))

pub overflow_add-numbers_length : goal.overflow_add-numbers_length
overflow_add-numbers_length c =
    let s = c.args.shape in
    let right = rw c.outline_of.ensures at c.in_ok-lay_into.ensures in
    let G = laid-granted s right in
    let few : s.count ≤ length s.v = omega (arith, count-few s G.bounds) in
    let front = numerals_of (s.form ∷ s.m ∷ s.t ∷ []) in
    let parts = ap length (numbers-parts s few) in
    let long : c.numbers_length.result + c.numbers_length-2.result ≡ length (numerals_of (numbers_of s)) =
    omega (arith, parts, length-append front (numerals_of (take s.count s.v)), c.numbers_length.ensures, c.numbers_length-2.ensures) in
    omega (arith, long, numerals-few (numbers_of s), given-length s, count-few s G.bounds)

pub returns-then-out-numbers_length-clause-result_value : goal.returns-then-out-numbers_length-clause-result_value
returns-then-out-numbers_length-clause-result_value c =
    let s = c.args.shape in
    let right = rw c.outline_of.ensures at c.in_ok-lay_into.ensures in
    let G = laid-granted s right in
    let few : s.count ≤ length s.v = omega (arith, count-few s G.bounds) in
    let front = numerals_of (s.form ∷ s.m ∷ s.t ∷ []) in
    let parts = ap length (numbers-parts s few) in
    let long : c.numbers_length.result + c.numbers_length-2.result ≡ length (numerals_of (numbers_of s)) =
    omega (arith, parts, length-append front (numerals_of (take s.count s.v)), c.numbers_length.ensures, c.numbers_length-2.ensures) in
    (listed-crowded s c.args.out.now G.ok long c.if-out-numbers_length.true).0

pub returns-then-out-numbers_length-clause-out_after : goal.returns-then-out-numbers_length-clause-out_after
returns-then-out-numbers_length-clause-out_after c =
    let s = c.args.shape in
    let right = rw c.outline_of.ensures at c.in_ok-lay_into.ensures in
    let G = laid-granted s right in
    let few : s.count ≤ length s.v = omega (arith, count-few s G.bounds) in
    let front = numerals_of (s.form ∷ s.m ∷ s.t ∷ []) in
    let parts = ap length (numbers-parts s few) in
    let long : c.numbers_length.result + c.numbers_length-2.result ≡ length (numerals_of (numbers_of s)) =
    omega (arith, parts, length-append front (numerals_of (take s.count s.v)), c.numbers_length.ensures, c.numbers_length-2.ensures) in
    (listed-crowded s c.args.out.now G.ok long c.if-out-numbers_length.true).1

pub write_numbers-behind-requires : goal.write_numbers-behind-requires
write_numbers-behind-requires c =
    let s = c.args.shape in
    let right = rw c.outline_of.ensures at c.in_ok-lay_into.ensures in
    let G = laid-granted s right in
    let few : s.count ≤ length s.v = omega (arith, count-few s G.bounds) in
    let front = numerals_of (s.form ∷ s.m ∷ s.t ∷ []) in
    let parts = ap length (numbers-parts s few) in
    let long : c.numbers_length.result + c.numbers_length-2.result ≡ length (numerals_of (numbers_of s)) =
    omega (arith, parts, length-append front (numerals_of (take s.count s.v)), c.numbers_length.ensures, c.numbers_length-2.ensures) in
    ((numbers-below s G.bounds few).0, omega (arith, long, c.numbers_length.ensures))

pub write_numbers-requires : goal.write_numbers-requires
write_numbers-requires c =
    let s = c.args.shape in
    let right = rw c.outline_of.ensures at c.in_ok-lay_into.ensures in
    let G = laid-granted s right in
    let few : s.count ≤ length s.v = omega (arith, count-few s G.bounds) in
    let front = numerals_of (s.form ∷ s.m ∷ s.t ∷ []) in
    let parts = ap length (numbers-parts s few) in
    let long : c.numbers_length.result + c.numbers_length-2.result ≡ length (numerals_of (numbers_of s)) =
    omega (arith, parts, length-append front (numerals_of (take s.count s.v)), c.numbers_length.ensures, c.numbers_length-2.ensures) in
    let w = c.write_numbers-behind.ensures in
    ((numbers-below s G.bounds few).1, omega (arith, long, w.ends, put-length w, c.numbers_length.ensures, c.numbers_length-2.ensures))

pub returns-clause-result_value : goal.returns-clause-result_value
returns-clause-result_value c =
    let s = c.args.shape in
    let right = rw c.outline_of.ensures at c.in_ok-lay_into.ensures in
    let G = laid-granted s right in
    let few : s.count ≤ length s.v = omega (arith, count-few s G.bounds) in
    let front = numerals_of (s.form ∷ s.m ∷ s.t ∷ []) in
    let parts = ap length (numbers-parts s few) in
    let long : c.numbers_length.result + c.numbers_length-2.result ≡ length (numerals_of (numbers_of s)) =
    omega (arith, parts, length-append front (numerals_of (take s.count s.v)), c.numbers_length.ensures, c.numbers_length-2.ensures) in
    let both = put_then c.write_numbers-behind.ensures c.write_numbers.ensures in
    let all : Put c.args.out.now c.write_numbers.new.out 0 (numerals_of (numbers_of s)) c.write_numbers.result = rw (numbers-parts s few) both in
    (listed-made s c.args.out.now G.ok long c.if-out-numbers_length.false all).0

pub returns-clause-out_after : goal.returns-clause-out_after
returns-clause-out_after c =
    let s = c.args.shape in
    let right = rw c.outline_of.ensures at c.in_ok-lay_into.ensures in
    let G = laid-granted s right in
    let few : s.count ≤ length s.v = omega (arith, count-few s G.bounds) in
    let front = numerals_of (s.form ∷ s.m ∷ s.t ∷ []) in
    let parts = ap length (numbers-parts s few) in
    let long : c.numbers_length.result + c.numbers_length-2.result ≡ length (numerals_of (numbers_of s)) =
    omega (arith, parts, length-append front (numerals_of (take s.count s.v)), c.numbers_length.ensures, c.numbers_length-2.ensures) in
    let both = put_then c.write_numbers-behind.ensures c.write_numbers.ensures in
    let all : Put c.args.out.now c.write_numbers.new.out 0 (numerals_of (numbers_of s)) c.write_numbers.result = rw (numbers-parts s few) both in
    (listed-made s c.args.out.now G.ok long c.if-out-numbers_length.false all).1
