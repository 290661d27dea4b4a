-- `dealing::number` meets its contract. Assumes nothing.
use native.Mathlib.Nat.{one-le-pow}
use native.Mathlib.Omega.{arith}
use Rattle.dealing.proofs.Telling.{few, number-over, number-sum}
use Rattle.dealing.proofs.number.Goals as goal

pub rank_from-rank-requires : goal.rank_from-rank-requires
rank_from-rank-requires c =
    let a = c.args in
    let p = c.requires.k_le_pattern_most in
    (c.requires.labels_len.0, omega arith, few a.b a.s a.fewest a.k p.3 p.5 p.1 (omega arith))

pub returns-then-rank-ge-CAP : goal.returns-then-rank-ge-CAP
returns-then-rank-ge-CAP c =
    let a = c.args in
    number-over _ _ _ _ c.rank_from-rank.result (one-le-pow a.k a.b (omega arith)) c.rank_from-rank.ensures.0 (omega arith)

pub returns : goal.returns
returns c =
    let r = c.rank_from-rank in
    number-sum _ _ _ _ r.result r.ensures.0 (omega arith) c.fewer-below.ensures c.read_on.ensures c.clip.ensures
