-- Document 02, §10, of the calls, over all answers and cells at exit that their promises allow.
use Prim.Native.Nat.{ℕ, zero, suc, ◌+◌, ◌≤◌, ◌<◌, min}
use mathlib.Core.Path.{◌≡◌, refl, sym, ap, ◌∙◌}
use mathlib.Core.Logic.{◌⊎◌, inl, inr}
use mathlib.Core.Bool.{Bool, true, false, true≢false}
use mathlib.Core.List.{List, [], ◌∷◌}
use native.Mathlib.Omega.{arith}
use lib.ListN.{length, get_or}
use lib.Dec.{leb}
use borrow.Author.Tests.{le-leb, lt-leb}
use Rattle.code.specs.declared.Pair.{Pair}
use Rattle.code.specs.Lists.{Below}
use Rattle.code.specs.Cells.{wit}
use Rattle.code.specs.Calls.{answer, generation_in, turned_in, layout_refusal, field_read, taker, left, write_reply}
use Rattle.code.specs.Pair.{first_shape, second_shape, first_spent, first_due, second_due, pair_written, pair_read_reply, pair_write_refusal, pair_write_reply, pair_first_leaves, pair_second_leaves}
use Rattle.code.proofs.Tests.{le-or-lt}
use Rattle.code.proofs.Wits.{Bytes}
use Rattle.code.proofs.Records.{below_at}
use Rattle.code.proofs.Demand.{blank_cells}
use Rattle.code.proofs.PairCall.{Seen, pair-refuses}
use Rattle.code.proofs.Pairs as Code
use Rattle.std.specs.Prelude.{Result, Ok, Err}
use Rattle.code.specs.declared.Refusal.{Refusal}
use Rattle.code.specs.declared.Refusal.TheVariants.{Spent}
use Rattle.code.specs.Refusals.{refusal_reply}
use Rattle.code.proofs.Refused.{refused-not}
use Rattle.pairing.specs.declared.Side.{Side}
use Rattle.pairing.specs.declared.Side.TheVariants.{First, Second}
use Rattle.pairing.specs.declared.PairRead.{PairRead}
use Rattle.pairing.specs.declared.PairWritten.{PairWritten}
use Rattle.pairing.specs.Answers.{field_of, pair_reading_of, pair_writing_of, PairAnswers}
use Rattle.pairing.proofs.PairReads.{is-equal}
use Rattle.pairing.proofs.Unique.{same-pair-reading, same-pair-writing}

abbrev pub accepts : Result PairWritten Refusal → Bool
accepts (Ok w) = true
accepts (Err k) = false

-- the writes left in both fields
abbrev pub left_in_both : Pair → List ℕ → List ℕ → ℕ
left_in_both p first second = left p.t1 (field_read (first_shape p) first) + left p.t2 (field_read (second_shape p) second)

-- a write that passes every test is not answered by a refusal
not-refused : (p : Pair) (x : ℕ) (first second : List ℕ) → pair_write_refusal p x first second ≡ [] → (k : Refusal) → refusal_reply k ≡ pair_write_reply p x first second → ⊥
unfolding pair_write_reply pair_written answer
not-refused p x first second e k q = go (first_spent p first) refl
  where
    go : (a : Bool) → first_spent p first ≡ a → ⊥
    go true f =
        let w = write_reply (second_shape p) (second_due p x first) second in
        let told : pair_write_reply p x first second ≡ 0 ∷ 1 ∷ generation_in w ∷ turned_in w ∷ [] = rw (e, f) in
        refused-not k (q ∙ told)
    go false f =
        let w = write_reply (first_shape p) (first_due p x second) first in
        let told : pair_write_reply p x first second ≡ 0 ∷ 0 ∷ generation_in w ∷ turned_in w ∷ [] = rw (e, f) in
        refused-not k (q ∙ told)

-- One write.
module _ (p : Pair) (x : ℕ) (first second : List ℕ) (r : Result PairWritten Refusal) (one two : List ℕ)
    (promise : PairAnswers p x first second (pair_writing_of r) one two) where
  -- a write that is made passed every test
  passed : accepts r ≡ true → pair_write_refusal p x first second ≡ []
  unfolding pair_write_reply answer
  passed made = go r made (pair_write_refusal p x first second) refl promise.0
    where
      go : (r : Result PairWritten Refusal) → accepts r ≡ true → (l : List ℕ) → pair_write_refusal p x first second ≡ l → pair_writing_of r ≡ pair_write_reply p x first second → l ≡ []
      go (Ok w) a [] e q = refl
      go (Ok w) a (k ∷ carried) e q =
          let z : k ≡ 0 = cc (pair-refuses p first second x k carried e).0 in
          absurd (omega (arith, Code.pair-some p x first second k carried e))
      go (Err k) a l e q = absurd (true≢false (sym a))

  -- the other way too
  passes : pair_write_refusal p x first second ≡ [] → accepts r ≡ true
  passes e = go r promise.0
    where
      go : (r : Result PairWritten Refusal) → pair_writing_of r ≡ pair_write_reply p x first second → accepts r ≡ true
      go (Ok w) q = refl
      go (Err k) q = absurd (not-refused p x first second e k q)

  -- What was written reads back.
  pub reads-back : Bytes first → Bytes second → accepts r ≡ true → (a : Result PairRead Refusal) → pair_reading_of a ≡ pair_read_reply p one two →
      a ≡ Ok (record { number = x; left = left_in_both p one two })
  reads-back A B made a q =
      let W = Code.pair_step p x first second A B (Code.pair-passed p x first second (passed made)) in
      same-pair-reading a (Ok (record { number = x; left = left_in_both p one two })) (q ∙ rw (promise.1.0, promise.1.1) W.reads)

  -- One field is as it was, whatever the answer; the other one is the field that is told.
  pub one_field : (one ≡ first) ⊎ (two ≡ second)
  one_field = rw (promise.1.0, promise.1.1) (Code.one_field p x first second)

  pub told-field : (w : PairWritten) → r ≡ Ok w → ((w.side ≡ First) × (two ≡ second)) ⊎ ((w.side ≡ Second) × (one ≡ first))
  told-field w made =
      let q : 0 ∷ field_of w.side ∷ w.generation ∷ w.turned ∷ [] ≡ pair_write_reply p x first second = rw made at promise.0 in
      go w.side (rw (promise.1.0, promise.1.1) (Code.field_told_lem p x first second (field_of w.side) w.generation w.turned (sym q)))
    where
      go : (s : Side) → ((field_of s ≡ 0) × (two ≡ second)) ⊎ ((field_of s ≡ 1) × (one ≡ first)) → ((s ≡ First) × (two ≡ second)) ⊎ ((s ≡ Second) × (one ≡ first))
      go First (inl q) = inl (refl, q.1)
      go First (inr q) = absurd (omega (arith, q.0))
      go Second (inl q) = absurd (omega (arith, q.0))
      go Second (inr q) = inr (refl, q.1)

  -- A refusal leaves both.
  pub refused-keeps : (k : Refusal) → r ≡ Err k → (one ≡ first) × (two ≡ second)
  refused-keeps k made = rw (promise.1.0, promise.1.1) (go (pair_write_refusal p x first second) refl (rw made at promise.0))
    where
      go : (l : List ℕ) → pair_write_refusal p x first second ≡ l → refusal_reply k ≡ pair_write_reply p x first second →
          (pair_first_leaves p x first second ≡ first) × (pair_second_leaves p x first second ≡ second)
      go [] e q = absurd (not-refused p x first second e k q)
      go (j ∷ carried) e q = let w = pair-refuses p first second x j carried e in (w.1, w.2)

  -- No 1 becomes 0, whatever the answer.
  pub never-falls : Bytes first → Bytes second → (w : ℕ) → (wit 0 first w ≤ wit 0 one w) × (wit 0 second w ≤ wit 0 two w)
  never-falls A B w = rw (promise.1.0, promise.1.1) (Code.pair-rises p x first second A B w)

-- A run of calls from blank cells: call j gets the cells that the call before left, and its answer is one that its promise allows.
pub record Calls (p : Pair) (xs : List ℕ) (first second : ℕ → List ℕ) (answers : ℕ → Result PairWritten Refusal) : Type 0 where
  pub blank : (first 0 ≡ blank_cells (first_shape p)) × (second 0 ≡ blank_cells (second_shape p))
  pub each : (j : ℕ) → j < length xs → PairAnswers p (get_or xs j 0) (first j) (second j) (pair_writing_of (answers j)) (first (suc j)) (second (suc j))

-- how many generations of both fields are used
abbrev used_in_both : Pair → List ℕ → List ℕ → ℕ
used_in_both p first second = taker (field_read (first_shape p) first) + taker (field_read (second_shape p) second)

-- two fields that have passed their tests
record Stands (p : Pair) (first second : List ℕ) : Type 0 where
  bytes : Bytes first × Bytes second
  one : Seen (first_shape p) false first
  two : Seen (second_shape p) false second

module _ (p : Pair) (same : p.v1 ≡ p.v2) (ok : layout_refusal (first_shape p) 256 ≡ []) (ok' : layout_refusal (second_shape p) 256 ≡ []) (xs : List ℕ)
    (first second : ℕ → List ℕ) (answers : ℕ → Result PairWritten Refusal) (C : Calls p xs first second answers) (b : Below p.v1 xs) where
  next-accepted : (j : ℕ) → j < length xs → Stands p (first j) (second j) → used_in_both p (first j) (second j) < p.t1 + p.t2 →
      pair_write_refusal p (get_or xs j 0) (first j) (second j) ≡ []
  next-accepted j l S u = Code.pair-accepts p (get_or xs j 0) (first j) (second j) (is-equal p same) S.one S.two (below_at p.v1 xs j b l) u

  next-step : (j : ℕ) → j < length xs → Stands p (first j) (second j) → used_in_both p (first j) (second j) < p.t1 + p.t2 →
      Code.PairStepped p (get_or xs j 0) (first j) (second j) (first (suc j)) (second (suc j))
  next-step j l S u =
      let P = Code.pair-passed p (get_or xs j 0) (first j) (second j) (next-accepted j l S u) in
      let e = (C.each j l).1 in
      rw (e.0, e.1) (Code.pair_step p (get_or xs j 0) (first j) (second j) S.bytes.0 S.bytes.1 P)

  stands : (j : ℕ) → j ≤ length xs → j ≤ p.t1 + p.t2 → Stands p (first j) (second j) × (used_in_both p (first j) (second j) ≤ j)
  stands zero l m =
      let one = Code.blank-seen (first_shape p) ok in
      let two = Code.blank-seen (second_shape p) ok' in
      rw (C.blank.0, C.blank.1) (record { bytes = (one.1, two.1); one = one.0; two = two.0 }, omega (arith, one.2, two.2))
  stands (suc j) l m =
      let S = stands j (omega arith) (omega arith) in
      let W = next-step j (omega arith) S.0 (omega (arith, S.1)) in
      (record { bytes = W.bytes; one = W.one; two = W.two }, omega (arith, W.most, S.1))

  -- Any t1 + t2 numbers in range are accepted from blank.
  pub accepted : (j : ℕ) → j < length xs → j < p.t1 + p.t2 → accepts (answers j) ≡ true
  accepted j l m =
      let S = stands j (omega arith) (omega arith) in
      let z = next-accepted j l S.0 (omega (arith, S.1)) in
      passes p (get_or xs j 0) (first j) (second j) (answers j) (first (suc j)) (second (suc j)) (C.each j l) z

  -- And each reads back.
  pub reads-after-each : (j : ℕ) → j < length xs → j < p.t1 + p.t2 → (a : Result PairRead Refusal) → pair_reading_of a ≡ pair_read_reply p (first (suc j)) (second (suc j)) →
      a ≡ Ok (record { number = get_or xs j 0; left = left_in_both p (first (suc j)) (second (suc j)) })
  reads-after-each j l m a q =
      let S = (stands j (omega arith) (omega arith)).0 in
      reads-back p (get_or xs j 0) (first j) (second j) (answers j) (first (suc j)) (second (suc j)) (C.each j l) S.bytes.0 S.bytes.1 (accepted j l m) a q

  -- a pair that is spent stays as it is
  spent-refused : (j : ℕ) → j < length xs → Stands p (first j) (second j) → used_in_both p (first j) (second j) ≡ p.t1 + p.t2 →
      pair_write_refusal p (get_or xs j 0) (first j) (second j) ≡ 5 ∷ []
  spent-refused j l S u = Code.pair-spent p (get_or xs j 0) (first j) (second j) (is-equal p same) S.one S.two (below_at p.v1 xs j b l) u

  spent-keeps : (j : ℕ) → j < length xs → Stands p (first j) (second j) → used_in_both p (first j) (second j) ≡ p.t1 + p.t2 →
      (first (suc j) ≡ first j) × (second (suc j) ≡ second j)
  spent-keeps j l S u =
      let e = (C.each j l).1 in
      let k = pair-refuses p (first j) (second j) (get_or xs j 0) 5 [] (spent-refused j l S u) in
      (e.0 ∙ k.1, e.1 ∙ k.2)

  -- In form 1, where a blank field has no number, it is exactly t1 + t2 of them.
  abbrev StandsNew : ℕ → Type 0
  StandsNew j = Stands p (first j) (second j) × (used_in_both p (first j) (second j) ≡ min (p.t1 + p.t2) j)

  spent-step : (j : ℕ) → j < length xs → StandsNew j → p.t1 + p.t2 ≤ j → StandsNew (suc j)
  spent-step j l S full =
      let k = spent-keeps j l S.0 (omega (arith, S.1)) in
      rw (k.0, k.1) (S.0, omega (arith, S.1))

  left_step : p.form ≡ 1 → (j : ℕ) → j < length xs → StandsNew j → j < p.t1 + p.t2 → StandsNew (suc j)
  left_step new j l S room =
      let W = next-step j l S.0 (omega (arith, S.1)) in
      (record { bytes = W.bytes; one = W.one; two = W.two }, omega (arith, W.next new, S.1))

  new-step : p.form ≡ 1 → (j : ℕ) → j < length xs → StandsNew j → StandsNew (suc j)
  new-step new j l S = elim (le-or-lt (p.t1 + p.t2) j) [ inl full ↦ spent-step j l S full | inr room ↦ left_step new j l S room ]

  stands-new : p.form ≡ 1 → (j : ℕ) → j ≤ length xs → StandsNew j
  stands-new new zero l = let S = stands 0 (omega arith) (omega arith) in (S.0, omega (arith, S.1))
  stands-new new (suc j) l = new-step new j (omega arith) (stands-new new j (omega arith))

  pub accepted-new : p.form ≡ 1 → (j : ℕ) → j < length xs → accepts (answers j) ≡ leb (suc j) (p.t1 + p.t2)
  accepted-new new j l = elim (le-or-lt (suc j) (p.t1 + p.t2)) [
    | inl m ↦ rw (le-leb (suc j) (p.t1 + p.t2) m) (accepted j l m)
    | inr full ↦
        let S = stands-new new j (omega arith) in
        let z = spent-refused j l S.0 (omega (arith, S.1)) in
        let q = (C.each j l).0 ∙ (pair-refuses p (first j) (second j) (get_or xs j 0) 5 [] z).0 in
        rw (lt-leb (suc j) (p.t1 + p.t2) full) (ap accepts (same-pair-writing (answers j) (Err Spent) q))
  ]
