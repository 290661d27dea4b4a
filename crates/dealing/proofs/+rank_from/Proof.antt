-- `dealing::rank_from` meets its contract. The measure is the places left. Assumes nothing.
use Prim.Native.Nat.{ℕ, ◌<◌}
use native.Mathlib.Omega.{arith}
use borrow.Author.Rules.{rules}
use borrow.Fn.Kinds.{In}
use borrow.Fn.PlainCycle.{Measures, is, falls, and}
use lib.ListN.{drop}
use Rattle.dealing.proofs.Telling.{ranked-none, ranked-first, ranked-more}
use Rattle.dealing.proofs.rank_from.Reads as rank-from
use Rattle.dealing.proofs.rank_from.Kinds as rank-from-kinds
use Rattle.dealing.proofs.+rank_from.Lts-rank_from as rank-from-lts
use Rattle.counting.proofs.binomial.Reads as binomial-reads
use Rattle.binary.proofs.wide.Reads as wide-reads
use Rattle.dealing.proofs.+rank_from.{statement}
use Rattle.dealing.proofs.+rank_from.Tie.{close}

abbrev μ-rank-from : Measures 1 rank-from-kinds.ps ℕ
μ-rank-from κs a = a.1.1.0

abbrev rank-from-at : ℕ → In 1 rank-from-kinds.ps
rank-from-at t = and 1 rank-from-kinds.ps (is 1 rank-from-kinds.ps μ-rank-from t) rank-from.Pre

abbrev rank-from-below : ℕ → In 1 rank-from-kinds.ps
rank-from-below t =
    and 1 rank-from-kinds.ps (falls 1 rank-from-kinds.ps ◌<◌ μ-rank-from t) rank-from.Pre

pub +rank_from_spec : {M : Type 1} → statement M
+rank_from_spec = close μ-rank-from λ t. rank-from-lts.spec (
  wide-reads.Asked,
  wide-reads.Learnt,
  binomial-reads.Asked,
  binomial-reads.Learnt,
  rank-from-below t,
  rank-from.Post,
)
    (rank-from-at t)
    rank-from.Post
    -- returns
    (λ c. (rw c.if-left-eq0.true (omega (arith, ranked-none (drop c.before.args.at c.before.args.labels.now))), omega arith))
    -- element-copy-out-wide
    (λ c. search rules)
    -- wide-requires
    (λ c κs. search rules)
    -- binomial-requires
    (λ c κs. search rules)
    -- add-rank-from
    (λ c. search rules)
    -- sub-rank-from
    (λ c. search rules)
    -- rank-from-requires
    (λ c κs. (omega arith, (search rules, omega arith, omega arith)))
    -- add-result
    (λ c. omega arith)
    -- returns-2
    (λ c.
    let a = c.before.before.before.before.before.args in
    rw (ranked-first a.labels.now a.at a.left (omega arith) (omega arith))
    (ranked-more _ _ _ _ a.left (rw c.before.before.wide.ensures.0 at c.before.binomial.ensures)
    c.rank_from.ensures.0 c.rank_from.ensures.1 (omega arith)))
