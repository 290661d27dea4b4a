-- The answer of a write of two fields and what it leaves, from what its calls have found.
use Prim.Native.Nat.{ℕ, ◌≤◌, ◌<◌, ◌^◌}
use mathlib.Core.Path.{◌≡◌, sym, subst, ◌∙◌}
use mathlib.Core.Logic.{◌≢◌}
use mathlib.Core.Bool.{Bool, false}
use mathlib.Core.List.{List, [], ◌∷◌}
use native.Mathlib.Omega.{arith}
use lib.Dec.{leb}
use lib.ListN.{drop, replicate}
use borrow.Author.Tests.{eq-eqb, ne_eqb}
use Rattle.code.specs.declared.Shape.{Shape}
use Rattle.code.specs.declared.Pair.{Pair}
use Rattle.code.specs.Shape.{order_of}
use Rattle.code.specs.Cells.{turned}
use Rattle.code.specs.Run.{kept}
use Rattle.code.specs.Calls.{answer, filled, layout_fields, layout_reply, field_read, taker, holds, field_write, made_at, write_refusal, write_reply, write_leaves}
use Rattle.code.specs.Pair.{first_shape, second_shape, first_spent, first_due, second_due, pair_written, pair_write_refusal}
use Rattle.code.proofs.LayoutCall.{bounded}
use Rattle.code.proofs.PairCall.{Seen, seen_refusal, seen-no-layout, seen_none, spent-is, held_below, not_listed, pair-refuses, pair-write-unequal, pair-write-first, pair-write-second, number-below, both-spent, writes-first, made-first, writes-second, made-second}
use Rattle.shapes.specs.declared.Outline.{Outline}
use Rattle.shapes.specs.Outlines.{outlined}
use Rattle.layout.specs.Plan.{Granted}
use Rattle.layout.proofs.Planning.{laid-number, laid-alone, laid-granted}
use Rattle.std.specs.Prelude.{Result, Ok, Err}
use Rattle.code.specs.declared.Refusal.{Refusal}
use Rattle.code.specs.declared.Refusal.TheVariants.{Spent, Unequal}
use Rattle.code.specs.Refusals.{refusal_reply, number_of}
use Rattle.code.proofs.Refused.{reply-split, refused-not}
use Rattle.writing.specs.declared.Written.{Written}
use Rattle.writing.specs.Answers.{writing_of}
use Rattle.pairing.specs.declared.Seen.{Seen as Sight}
use Rattle.pairing.specs.Answers.{sighted, Laid, PairAnswers}
use Rattle.pairing.proofs.Sights.{sight-seen, sight-refused, first-shaped}
use Rattle.pairing.proofs.PairReads.{is-unequal, is-equal}

-- what a write is answered for that passes every test of its field, told of the pair: it is made, and this is its generation and what turned
told-made : (field : ℕ) (s : Shape) (x : ℕ) (bs : List ℕ) (w : Result Written Refusal) → write_refusal s x bs ≡ [] → writing_of w ≡ write_reply s x bs →
    (a : Written) → w ≡ Ok a → 0 ∷ field ∷ a.generation ∷ a.turned ∷ [] ≡ 0 ∷ pair_written field (write_reply s x bs)
unfolding write_reply answer pair_written
told-made field s x bs w z q a e = rw (← q, e)

-- and it is not refused
made-not : (s : Shape) (x : ℕ) (bs : List ℕ) (w : Result Written Refusal) → write_refusal s x bs ≡ [] → writing_of w ≡ write_reply s x bs →
    (k : Refusal) → w ≡ Err k → ⊥
unfolding write_reply answer
made-not s x bs w z q k e =
    let made : write_reply s x bs ≡ 0 ∷ made_at (field_write s x bs) ∷ turned (order_of s) bs (kept bs (field_write s x bs)) ∷ [] = rw z in
    let told : refusal_reply k ≡ write_reply s x bs = rw e at q in
    refused-not k (told ∙ made)

-- the first field, by what was seen of it
pub first-seen : {p : Pair} {v h : List ℕ} → Laid p v h → {over : Bool} {bytes : List ℕ} (a : Sight) → sighted (first_shape p) over bytes ≡ Ok a →
    Seen (first_shape p) over bytes × (a.used ≡ taker (field_read (first_shape p) bytes)) × (a.number ≡ holds (field_read (first_shape p) bytes))
first-seen {p} L {over} {bytes} a q = sight-seen (first_shape p) over bytes (laid-granted (first_shape p) L.counts).ok a q

-- the same, seen by its outline and not by its shape
pub seen-so : {s s' : Shape} → s ≡ s' → (over : Bool) (bytes : List ℕ) {a b : Result Sight Refusal} → a ≡ sighted s over bytes → a ≡ b → sighted s' over bytes ≡ b
seen-so e over bytes q r = sym (rw e at q) ∙ r

pub first-granted : {p : Pair} {v h : List ℕ} → Laid p v h → (f : Outline) → outlined f (p.v1 ∷ replicate 15 0) ≡ first_shape p → Granted (outlined f v) h
first-granted {p} L f shaped = rw (first-shaped L f shaped) (laid-granted (first_shape p) L.counts)

module _ (p : Pair) (x : ℕ) (first second : List ℕ) where
  told : (n : ℕ) (carried : List ℕ) → pair_write_refusal p x first second ≡ n ∷ carried → PairAnswers p x first second (n ∷ carried) first second
  told n carried q = let r = pair-refuses p first second x n carried q in (sym r.0, (sym r.1, sym r.2))

  refuses : (k : Refusal) → pair_write_refusal p x first second ≡ refusal_reply k → PairAnswers p x first second (refusal_reply k) first second
  refuses k q =
      subst (λ r. PairAnswers p x first second r first second) (sym (reply-split k)) (told (number_of k) (drop 1 (refusal_reply k)) (q ∙ reply-split k))

  pub writes-18 : p.v1 ≢ p.v2 → PairAnswers p x first second (18 ∷ []) first second
  writes-18 d = refuses Unequal (pair-write-unequal p first second x (is-unequal p d))

  module _ (same : p.v1 ≡ p.v2) where
    pub first-no-layout : (f : Outline) → outlined f (p.v1 ∷ replicate 15 0) ≡ first_shape p → (k : Refusal) {h : List ℕ} →
        number_of k ∷ h ≡ filled layout_fields (layout_reply (outlined f (p.v1 ∷ replicate 15 0)) 256) → PairAnswers p x first second (refusal_reply k) first second
    first-no-layout f shaped k laid =
        let own = rw shaped at laid in
        let q = seen-no-layout (first_shape p) (leb p.v1 x) first (number_of k) (laid-number (first_shape p) 256 k own) in
        refuses k (pair-write-first p first second (is-equal p same) x (number_of k) [] q ∙ sym (laid-alone (first_shape p) 256 k own))

    first-refused : (k : Refusal) → seen_refusal (first_shape p) (leb p.v1 x) first ≡ refusal_reply k →
        PairAnswers p x first second (refusal_reply k) first second
    first-refused k q =
        let z = pair-write-first p first second (is-equal p same) x (number_of k) (drop 1 (refusal_reply k)) (q ∙ reply-split k) in
        refuses k (z ∙ sym (reply-split k))

    pub first-unseen : {v h : List ℕ} → Laid p v h → (k : Refusal) → sighted (first_shape p) (leb p.v1 x) first ≡ Err k →
        PairAnswers p x first second (refusal_reply k) first second
    first-unseen L k q = first-refused k (sight-refused (first_shape p) (leb p.v1 x) first (laid-granted (first_shape p) L.counts).ok k q)

    -- the first field has passed
    module _ (F : Seen (first_shape p) (leb p.v1 x) first) where
      second-stops : (k : ℕ) (carried : List ℕ) → seen_refusal (second_shape p) false second ≡ k ∷ carried → pair_write_refusal p x first second ≡ k ∷ carried
      second-stops k carried q = pair-write-second p first second (is-equal p same) x (seen_none _ _ _ F) k carried q

      pub second-no-layout : (k : Refusal) {h : List ℕ} → number_of k ∷ h ≡ filled layout_fields (layout_reply (second_shape p) 256) →
          PairAnswers p x first second (refusal_reply k) first second
      second-no-layout k laid =
          let q = seen-no-layout (second_shape p) false second (number_of k) (laid-number (second_shape p) 256 k laid) in
          refuses k (second-stops (number_of k) [] q ∙ sym (laid-alone (second_shape p) 256 k laid))

      pub second-refused : (k : Refusal) → seen_refusal (second_shape p) false second ≡ refusal_reply k →
          PairAnswers p x first second (refusal_reply k) first second
      second-refused k q = refuses k (second-stops (number_of k) (drop 1 (refusal_reply k)) (q ∙ reply-split k) ∙ sym (reply-split k))

      -- and so has the second
      module _ (S : Seen (second_shape p) false second) where
        pub writes-5 : taker (field_read (first_shape p) first) ≡ p.t1 → taker (field_read (second_shape p) second) ≡ p.t2 →
            PairAnswers p x first second (5 ∷ []) first second
        unfolding first_spent
        writes-5 a b =
            refuses Spent (both-spent p first second x (is-equal p same) F S (spent-is F ∙ eq-eqb _ p.t1 a) (spent-is S ∙ eq-eqb _ p.t2 b))

        -- the number due is in its field's range
        pub first-due : (n : ℕ) → n ≡ holds (field_read (second_shape p) second) → (x < p.v1) × (n < p.v1) × (p.v1 ≤ 2 ^ 56)
        first-due n e =
            let b = bounded (first_shape p) F.ok in
            let below = held_below S (not_listed p.form p.m p.t2 p.v2 S.ok) in
            (number-below p first second x (is-equal p same) F S, omega (arith, same, e, below), b.v_high 0 (omega arith))

        pub second-due : (n : ℕ) → n ≡ holds (field_read (first_shape p) first) → (x < p.v1) × (n < p.v1) × (p.v1 ≤ 2 ^ 56)
        second-due n e =
            let b = bounded (first_shape p) F.ok in
            let below = held_below F (not_listed p.form p.m p.t1 p.v1 F.ok) in
            (number-below p first second x (is-equal p same) F S, omega (arith, e, below), b.v_high 0 (omega arith))

        -- the write of the first field is made, and is the pair's answer
        module _ (d : taker (field_read (first_shape p) first) ≢ p.t1) {first' : List ℕ} (w : Result Written Refusal) (y : ℕ) (e : y ≡ first_due p x second)
            (q : (writing_of w ≡ write_reply (first_shape p) y first) × (first' ≡ write_leaves (first_shape p) y first)) where
          pub writes-first-is : (a : Written) → w ≡ Ok a → {reply : List ℕ} → reply ≡ 0 ∷ 0 ∷ a.generation ∷ a.turned ∷ [] →
              PairAnswers p x first second reply first' second
          unfolding first_spent
          writes-first-is a is r =
              let b = spent-is F ∙ ne_eqb _ p.t1 d in
              let m = made-first p first second x (is-equal p same) F S b in
              let z = writes-first p first second x (is-equal p same) F S b in
              let q' = rw e at q in
              (r ∙ told-made 0 _ _ _ w z q'.0 a is ∙ sym m.0, (q'.1 ∙ sym m.1, sym m.2))

          pub writes-first-not : (k : Refusal) → w ≡ Err k → ⊥
          unfolding first_spent
          writes-first-not k is =
              let z = writes-first p first second x (is-equal p same) F S (spent-is F ∙ ne_eqb _ p.t1 d) in
              made-not _ _ _ w z (rw e at q).0 k is

        -- and so that of the second, where the first is spent
        module _ (g : taker (field_read (first_shape p) first) ≡ p.t1) (d : taker (field_read (second_shape p) second) ≢ p.t2) {second' : List ℕ}
            (w : Result Written Refusal) (y : ℕ) (e : y ≡ second_due p x first)
            (q : (writing_of w ≡ write_reply (second_shape p) y second) × (second' ≡ write_leaves (second_shape p) y second)) where
          pub writes-second-is : (a : Written) → w ≡ Ok a → {reply : List ℕ} → reply ≡ 0 ∷ 1 ∷ a.generation ∷ a.turned ∷ [] →
              PairAnswers p x first second reply first second'
          unfolding first_spent
          writes-second-is a is r =
              let b = spent-is F ∙ eq-eqb _ p.t1 g in
              let c = spent-is S ∙ ne_eqb _ p.t2 d in
              let m = made-second p first second x (is-equal p same) F S b c in
              let z = writes-second p first second x (is-equal p same) F S b c in
              let q' = rw e at q in
              (r ∙ told-made 1 _ _ _ w z q'.0 a is ∙ sym m.0, (sym m.1, q'.1 ∙ sym m.2))

          pub writes-second-not : (k : Refusal) → w ≡ Err k → ⊥
          unfolding first_spent
          writes-second-not k is =
              let z = writes-second p first second x (is-equal p same) F S (spent-is F ∙ eq-eqb _ p.t1 g) (spent-is S ∙ ne_eqb _ p.t2 d) in
              made-not _ _ _ w z (rw e at q).0 k is
