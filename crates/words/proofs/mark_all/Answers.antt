-- `words::mark_all` meets its contract. Assumes nothing.
use Prim.Native.Nat.{ℕ, ◌-◌, ◌<◌}
use mathlib.Core.Path.{◌≡◌, ◌∙◌}
use mathlib.Core.List.{◌++◌}
use native.Mathlib.Omega.{arith}
use lib.ListN.{length, get_or, take, drop, length-append, length-take, length-drop}
use Rattle.std.proofs.lemmas.List.{get_or_append_left, get_or-replicate}
use Rattle.words.specs.Marks.{word_lows}
use Rattle.words.proofs.Marking.{marking-filled, marking-last, over-fits}
use Rattle.words.proofs.mark_all.Goals as goal

pub overflow_mul-over : goal.overflow_mul-over
overflow_mul-over c = rw c.word_bits.ensures (omega (arith, over-fits c.requires.0))

pub overflow_mul-over-2 : goal.overflow_mul-over-2
overflow_mul-over-2 c = omega (arith, over-fits c.requires.0)

pub overflow_sub-over : goal.overflow_sub-over
overflow_sub-over c = rw c.word_bits.ensures (omega (arith, over-fits c.requires.0))

pub overflow_shr-marks : goal.overflow_shr-marks
overflow_shr-marks c = rw c.word_bits.ensures (omega (arith, over-fits c.requires.0))

pub overflow_shl-marks : goal.overflow_shl-marks
overflow_shl-marks c = rw c.word_bits.ensures (omega (arith, over-fits c.requires.0))

pub returns : goal.returns
returns c =
    let i = c.args.n - 1 in
    let os = c.args.marks.now in
    let filled = c.fill.ensures.after (λ y e. e) in
    let long = length-take i os in
    let lows : c.of-low.result.low ≡ word_lows c.args.m = rw c.of-low.ensures at c.of-low.result.marked in
    let same : (j : ℕ) → j < i → get_or (c.fill.new.self ++ drop i os) j 0 ≡ word_lows c.args.m = λ j h.
    get_or_append_left c.fill.new.self (drop i os) 0 j (omega (arith, c.fill.ensures.len, long, c.requires.0.few))
    ∙ rw (filled, get_or-replicate (length (take i os)) j c.of-low.result.low 0 (omega (arith, long, c.requires.0.few))) lows in
    let C = marking-filled c.requires.0.wide c.requires.0.narrow i (c.fill.new.self ++ drop i os)
    (simp (length-append, length-drop) (omega (arith, c.fill.ensures.len, long, c.requires.0.few))) (omega (arith, c.requires.0.few)) same in
    rw (c.word_bits.ensures, lows) (marking-last c.requires.0 C (omega (arith, c.requires.0.some)))
