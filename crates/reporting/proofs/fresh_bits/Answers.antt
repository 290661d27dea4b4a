-- `reporting::fresh_bits` meets its contract. Assumes nothing.
use mathlib.Core.Path.{ap, sym, ◌∙◌}
use native.Mathlib.Omega.{arith}
use Rattle.code.proofs.Report.{flag_word, freshly-flags}
use Rattle.words.specs.Words.{word_groups}
use Rattle.reporting.proofs.Gathering.{gathered-zero}
use Rattle.reporting.proofs.fresh_bits.Goals as goal

pub returns-then-flags-eq0 : goal.returns-then-flags-eq0
returns-then-flags-eq0 c =
    let m = c.args.m in
    rw (← c.fresh_marks-flags.ensures, c.if-flags-eq0.true) (sym (gathered-zero m (word_groups m)))

pub gather_bits-requires : goal.gather_bits-requires
gather_bits-requires c = (omega arith, omega arith, rw c.fresh_marks-flags.ensures (freshly-flags _ _ _))

pub returns : goal.returns
returns c = c.gather_bits.ensures ∙ ap flag_word c.fresh_marks-flags.ensures
