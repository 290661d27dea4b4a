use Rattle.std.proofs.Common.{◌≡◌, refl, arith, None, Some}
use Rattle.std.proofs.lemmas.Result.{err_from_is_err_and}
use Rattle.code.specs.Dump.{own_layouts, record_by, out_of_list}
use Rattle.records.specs.Head.{said_shape}
use Rattle.records.proofs.Laws.{head-cut, head-within, head-headed}
use Rattle.records.proofs.read_own_head.Goals as goal

pub returns-in_err-start : goal.returns-in_err-start
returns-in_err-start c =
    let p = err_from_is_err_and c.from_residual.result c.from_residual.ensures.1 in
    let none : c.read_numbers.result ≡ None = grind arith in
    let why : c.in_err-start.field-0.0 ≡ record { offset = c.args.at } = grind arith in
    rw (p.1, p.2, why) (head-cut own_layouts _ _ _ c.read_numbers.ensures none)

pub whole-requires : goal.whole-requires
whole-requires c =
    let some : c.read_numbers.result ≡ Some c.in_ok-start.start = grind arith in
    head-within own_layouts _ _ _ c.read_numbers.ensures some

pub returns : goal.returns
unfolding record_by out_of_list said_shape
returns c =
    let some : c.read_numbers.result ≡ Some c.in_ok-start.start = grind arith in
    rw c.whole.ensures (head-headed own_layouts _ _ _ c.read_numbers.ensures some _ refl refl refl)
