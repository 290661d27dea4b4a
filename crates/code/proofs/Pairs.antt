-- Document 02, §10, of two fields as one: what was written reads back, one field is written and no wit falls, and how many writes are accepted.
use Prim.Native.Nat.{ℕ, suc, ◌+◌, ◌%◌, ◌≤◌, ◌<◌}
use mathlib.Core.Path.{◌≡◌, refl, sym, ◌∙◌}
use mathlib.Core.Logic.{◌⊎◌, inl, inr}
use mathlib.Core.Bool.{Bool, true, false, true≢false, cond, ◌&&◌}
use mathlib.Core.List.{List, [], ◌∷◌}
use native.Mathlib.Omega.{arith}
use native.Mathlib.Nat.{le_refl, add_comm}
use lib.Dec.{leb, eqb}
use borrow.Author.Tests.{lt-leb, eq-eqb, eqb-true, not-false}
use Rattle.code.specs.declared.Shape.{Shape}
use Rattle.code.specs.declared.Pair.{Pair}
use Rattle.code.specs.Shape.{first_of, order_of, width_of, code_of}
use Rattle.code.specs.Cells.{wit, size, sound}
use Rattle.code.specs.Code.{Code}
use Rattle.code.specs.Field.{Reading, blank, reads, miscounted, beyond, Writing, refused, wrote, write, write_on}
use Rattle.code.specs.Run.{kept}
use Rattle.code.specs.Calls.{groups_in, read_cells, write_cells, answer, passes, leaves, field_read, field_write, unsound, numberless, miscounts, exceeds, spent, taker, holds, left, layout_refusal, read_refusal, write_refusal, write_reply, write_leaves}
use Rattle.code.specs.Pair.{first_shape, second_shape, unequal, pair_holds, pair_read_reply, pair_write_refusal, first_spent, first_due, second_due, pair_written, pair_write_reply, pair_first_leaves, pair_second_leaves}
use Rattle.code.proofs.Run.{accepted}
use Rattle.code.proofs.Tests.{clash}
use Rattle.code.proofs.Wits.{Bytes}
use Rattle.code.proofs.Cells.{none-at}
use Rattle.code.proofs.Field.{Tells, write_read, write-at}
use Rattle.code.proofs.Bytes.{Accepted, accepted-is, tried_cells, storing-wrote}
use Rattle.code.proofs.LayoutCall.{passed, refusal-some, first-old, first-new, bounded, is-layout}
use Rattle.code.proofs.WriteCall.{refused-not, leaves-is}
use Rattle.code.proofs.Demand.{blank_cells, blank-sound, blank-reads}
use Rattle.code.proofs.PairCall.{Seen, both-passed, completing-right, seen_read, seen_none, held_below, not_listed, spent-is, used-most, number-below, passes-first, passes-second, writes-first, writes-second, made-first, made-second, both-spent, pair-read-second, pair-refuses}

-- a write that passed every test has one range, two fields that passed theirs, and a generation left in one of them
pub record Passed (p : Pair) (x : ℕ) (first second : List ℕ) : Type 0 where
  pub same : unequal p ≡ false
  pub one : Seen (first_shape p) (leb p.v1 x) first
  pub two : Seen (second_shape p) false second
  pub left : (first_spent p first && spent p.t2 (field_read (second_shape p) second)) ≡ false

-- the tests of both fields that were passed, in one
pub pair-passed : (p : Pair) (x : ℕ) (first second : List ℕ) → pair_write_refusal p x first second ≡ [] → Passed p x first second
unfolding pair_write_refusal first_spent unsound
pair-passed p x first second h =
    let a = passed 18 [] _ _ h in
    let b1 = passed 1 [] _ _ a.1 in
    let b2 = passed 2 [] _ _ b1.1 in
    let b3 = passed 3 [] _ _ b2.1 in
    let b6 = passed 6 [] _ _ b3.1 in
    let b15 = passed 15 _ _ _ b6.1 in
    let b16 = passed 16 _ _ _ b15.1 in
    let c1 = passed 1 [] _ _ b16.1 in
    let c2 = passed 2 [] _ _ c1.1 in
    let c3 = passed 3 [] _ _ c2.1 in
    let c15 = passed 15 _ _ _ c3.1 in
    let c16 = passed 16 _ _ _ c15.1 in
    let c5 = passed 5 [] _ _ c16.1 in
    record {
      same = a.0;
      one = record { ok = both-passed (first_shape p) b1.0 b2.0; right = not-false _ b3.0; below = b6.0; counted = b15.0; ranged = b16.0 };
      two = record { ok = both-passed (second_shape p) c1.0 c2.0; right = not-false _ c3.0; below = refl; counted = c15.0; ranged = c16.0 };
      left = c5.0;
    }

-- what a write leaves of a field whose tests it passed
pub record Stepped (s : Shape) (bs : List ℕ) (y : ℕ) (bs' : List ℕ) : Type 0 where
  pub bytes : Bytes bs'
  pub seen : Seen s false bs'
  pub number : holds (field_read s bs') ≡ y
  pub read : read_refusal s bs' ≡ []
  pub most : taker (field_read s bs') ≤ suc (taker (field_read s bs))
  pub next : first_of s ≡ 1 → taker (field_read s bs') ≡ suc (taker (field_read s bs))
  pub rises : (w : ℕ) → wit (order_of s) bs w ≤ wit (order_of s) bs' w

-- the generation that a write is made at
made-next : (s : Shape) (y : ℕ) (bs : List ℕ) (i : ℕ) (bs' : List ℕ) → field_write s y bs ≡ wrote i bs' → i ≡ suc (taker (field_read s bs))
unfolding field_write field_read write_cells read_cells taker width_of write_on
made-next s y bs i bs' q =
    let t = storing-wrote (order_of s) s.m (sound (order_of s) s.m (width_of s) bs) (write c y gs) i bs' q in
    go (field_read s bs) refl t.1 t.2
  where
    c : Code
    c = code_of s

    gs : List ℕ
    gs = groups_in (code_of s) bs

    go : (r : Reading) → field_read s bs ≡ r → (gs' : List ℕ) → write c y gs ≡ wrote i gs' → i ≡ suc (taker r)
    go blank e gs' w = (write-at c y gs 0 i gs' (sym (write_read c y gs blank e) ∙ w)).2
    go (reads j z) e gs' w = (write-at c y gs j i gs' (sym (write_read c y gs (reads j z) e) ∙ w)).2
    go (miscounted j u) e gs' w = let n = sym (write_read c y gs (miscounted j u) e) ∙ w in clash (cc)
    go (beyond j) e gs' w = let n = sym (write_read c y gs (beyond j) e) ∙ w in clash (cc)

module _ (s : Shape) (y : ℕ) (bs : List ℕ) (ok : layout_refusal s 256 ≡ []) (B : Bytes bs) (z : write_refusal s y bs ≡ []) where
  made-step : (i : ℕ) (bs' : List ℕ) → field_write s y bs ≡ wrote i bs' → Stepped s bs y bs'
  unfolding field_write field_read numberless miscounts exceeds holds taker width_of
  made-step i bs' q = told (field_read s bs') refl a.reading
    where
      a : Accepted (code_of s) y bs i bs'
      a = unfold field_write in accepted-is (code_of s) (is-layout s ok) (omega (arith, (bounded s ok).m-low)) y bs i bs' B q

      told : (r : Reading) → field_read s bs' ≡ r → Tells (first_of s) r i y → Stepped s bs y bs'
      told blank e t =
          let S : Seen s false bs' = record { ok = ok; right = a.right; below = refl; counted = rw e; ranged = rw e } in
          record {
            bytes = a.bytes;
            seen = S;
            number = rw e (sym t.2);
            read = seen_read s false bs' S (rw (e, first-old s t.0));
            most = rw e (omega arith);
            next = λ f. absurd (omega (arith, f, t.0));
            rises = a.rises;
          }
      told (reads j k) e t =
          let S : Seen s false bs' = record { ok = ok; right = a.right; below = refl; counted = rw e; ranged = rw e } in
          let n = made-next s y bs i bs' q in
          record {
            bytes = a.bytes;
            seen = S;
            number = rw e (sym t.1);
            read = seen_read s false bs' S (rw e);
            most = rw e (omega (arith, t.0, n));
            next = λ f. rw e (omega (arith, t.0, n));
            rises = a.rises;
          }
      told (miscounted j u) e t = absurd t
      told (beyond j) e t = absurd t

  pub field_step : Stepped s bs y (write_leaves s y bs)
  unfolding tried_cells field_write kept accepted passes
  field_step = rw (leaves-is s ok y bs) (go (field_write s y bs) refl)
    where
      go : (w : Writing) → field_write s y bs ≡ w → Stepped s bs y (kept bs w)
      go refused q = absurd (true≢false (rw (z, q) at (refused-not s ok y bs)))
      go (wrote i bs') q = made-step i bs' q

-- two fields whose sum is x are read as x
reads_as : (p : Pair) (first second : List ℕ) (x : ℕ) → unequal p ≡ false → read_refusal (first_shape p) first ≡ [] → Seen (second_shape p) false second →
    (holds (field_read (first_shape p) first) + holds (field_read (second_shape p) second)) % p.v1 ≡ x →
    pair_read_reply p first second ≡ 0 ∷ x ∷ (left p.t1 (field_read (first_shape p) first) + left p.t2 (field_read (second_shape p) second)) ∷ []
unfolding pair_read_reply pair_holds answer
reads_as p first second x same q S e = rw (pair-read-second p first second same q ∙ seen_none _ _ _ S, e)

-- what an accepted write leaves: what was written reads back, one generation more is used at most, in form 1 exactly one, and no wit falls
pub record PairStepped (p : Pair) (x : ℕ) (first second first' second' : List ℕ) : Type 0 where
  pub bytes : Bytes first' × Bytes second'
  pub one : Seen (first_shape p) false first'
  pub two : Seen (second_shape p) false second'
  pub reads : pair_read_reply p first' second' ≡ 0 ∷ x ∷ (left p.t1 (field_read (first_shape p) first') + left p.t2 (field_read (second_shape p) second')) ∷ []
  pub most : taker (field_read (first_shape p) first') + taker (field_read (second_shape p) second')
      ≤ suc (taker (field_read (first_shape p) first) + taker (field_read (second_shape p) second))
  pub next : p.form ≡ 1 → taker (field_read (first_shape p) first') + taker (field_read (second_shape p) second')
      ≡ suc (taker (field_read (first_shape p) first) + taker (field_read (second_shape p) second))
  pub rises : (w : ℕ) → (wit 0 first w ≤ wit 0 first' w) × (wit 0 second w ≤ wit 0 second' w)

module _ (p : Pair) (x : ℕ) (first second : List ℕ) (A : Bytes first) (B : Bytes second) (P : Passed p x first second) where
  seen_first : Seen (first_shape p) false first
  seen_first = record { ok = P.one.ok; right = P.one.right; below = refl; counted = P.one.counted; ranged = P.one.ranged }

  same-v : p.v1 ≡ p.v2
  unfolding unequal
  same-v = eqb-true p.v1 p.v2 (not-false _ P.same)

  below : x < p.v1
  below = number-below p first second x P.same P.one P.two

  -- the first field is written
  step-first : first_spent p first ≡ false → PairStepped p x first second (write_leaves (first_shape p) (first_due p x second) first) second
  unfolding first_due order_of
  step-first a =
      let y = first_due p x second in
      let W = field_step (first_shape p) y first P.one.ok A (writes-first p first second x P.same P.one P.two a) in
      let n = holds (field_read (second_shape p) second) in
      let small : n < p.v1 = rw same-v (held_below P.two (not_listed p.form p.m p.t2 p.v2 P.two.ok)) in
      record {
        bytes = (W.bytes, B);
        one = W.seen;
        two = P.two;
        reads = reads_as p _ second x P.same W.read P.two (rw W.number (completing-right p.v1 x n below small));
        most = omega (arith, W.most);
        next = λ f. omega (arith, W.next (first-new (first_shape p) (omega arith)));
        rises = λ w. (W.rises w, le_refl (wit 0 second w));
      }

  -- the second field is written: the first has a number, since it is spent
  spent-read : first_spent p first ≡ true → read_refusal (first_shape p) first ≡ []
  unfolding first_spent spent numberless
  spent-read a = seen_read (first_shape p) false first seen_first (go (field_read (first_shape p) first) a)
    where
      go : (r : Reading) → spent p.t1 r ≡ true → numberless (first_shape p) r ≡ false
      go blank a = absurd (true≢false (sym a))
      go (reads i k) a = refl
      go (miscounted i u) a = refl
      go (beyond i) a = refl

  step-second : first_spent p first ≡ true → spent p.t2 (field_read (second_shape p) second) ≡ false →
      PairStepped p x first second first (write_leaves (second_shape p) (second_due p x first) second)
  unfolding second_due order_of
  step-second a b =
      let y = second_due p x first in
      let W = field_step (second_shape p) y second P.two.ok B (writes-second p first second x P.same P.one P.two a b) in
      let n = holds (field_read (first_shape p) first) in
      let small : n < p.v1 = held_below seen_first (not_listed p.form p.m p.t1 p.v1 P.one.ok) in
      record {
        bytes = (A, W.bytes);
        one = seen_first;
        two = W.seen;
        reads = reads_as p first _ x P.same (spent-read a) W.seen (rw (W.number, add_comm n y) (completing-right p.v1 x n below small));
        most = omega (arith, W.most);
        next = λ f. omega (arith, W.next (first-new (second_shape p) (omega arith)));
        rises = λ w. (le_refl (wit 0 first w), W.rises w);
      }

  pub pair_step : PairStepped p x first second (pair_first_leaves p x first second) (pair_second_leaves p x first second)
  pair_step = go (first_spent p first) refl (spent p.t2 (field_read (second_shape p) second)) refl
    where
      go : (a : Bool) → first_spent p first ≡ a → (b : Bool) → spent p.t2 (field_read (second_shape p) second) ≡ b →
          PairStepped p x first second (pair_first_leaves p x first second) (pair_second_leaves p x first second)
      go false e b f = let m = made-first p first second x P.same P.one P.two e in rw (m.1, m.2) (step-first e)
      go true e false f = let m = made-second p first second x P.same P.one P.two e f in rw (m.1, m.2) (step-second e f)
      go true e true f = absurd (true≢false (rw (e, f) at P.left))

-- Two fields that passed their tests accept a number in range as long as fewer than t1 + t2 generations are used, and none where that many are.
module _ (p : Pair) (x : ℕ) (first second : List ℕ) (same : unequal p ≡ false) (F : Seen (first_shape p) false first) (S : Seen (second_shape p) false second)
    (h : x < p.v1) where
  below-range : Seen (first_shape p) (leb p.v1 x) first
  below-range = record { ok = F.ok; right = F.right; below = lt-leb p.v1 x h; counted = F.counted; ranged = F.ranged }

  spent-first : (a : Bool) → first_spent p first ≡ a → eqb (taker (field_read (first_shape p) first)) p.t1 ≡ a
  unfolding first_spent
  spent-first a e = sym (spent-is F) ∙ e

  pub pair-accepts : taker (field_read (first_shape p) first) + taker (field_read (second_shape p) second) < p.t1 + p.t2 → pair_write_refusal p x first second ≡ []
  pair-accepts l = go (first_spent p first) refl (spent p.t2 (field_read (second_shape p) second)) refl
    where
      go : (a : Bool) → first_spent p first ≡ a → (b : Bool) → spent p.t2 (field_read (second_shape p) second) ≡ b → pair_write_refusal p x first second ≡ []
      go false e b f = passes-first p first second x same below-range S e
      go true e false f = passes-second p first second x same below-range S e f
      go true e true f =
          let one = eqb-true (taker (field_read (first_shape p) first)) p.t1 (spent-first true e) in
          let two = eqb-true (taker (field_read (second_shape p) second)) p.t2 (sym (spent-is S) ∙ f) in
          absurd (omega (arith, l, one, two))

  pub pair-spent : taker (field_read (first_shape p) first) + taker (field_read (second_shape p) second) ≡ p.t1 + p.t2 → pair_write_refusal p x first second ≡ 5 ∷ []
  unfolding first_spent
  pair-spent l =
      let a = used-most F in
      let b = used-most S in
      both-spent p first second x same below-range S (spent-is F ∙ eq-eqb _ p.t1 (omega arith)) (spent-is S ∙ eq-eqb _ p.t2 (omega arith))

-- blank fields have passed, with no generation used
pub blank-seen : (s : Shape) → layout_refusal s 256 ≡ [] → Seen s false (blank_cells s) × Bytes (blank_cells s) × (taker (field_read s (blank_cells s)) ≡ 0)
unfolding miscounts exceeds taker
blank-seen s ok =
    let r = blank-reads s ok in (
      record { ok = ok; right = (blank-sound s ok).0; below = refl; counted = rw r; ranged = rw r },
      λ i l. omega (arith, none-at (size s.m (width_of s)) i),
      rw r,
    )

-- Whatever the answer, one field is as it was, and a refusal leaves both.
module _ (p : Pair) (x : ℕ) (first second : List ℕ) where
  pub one_field : (pair_first_leaves p x first second ≡ first) ⊎ (pair_second_leaves p x first second ≡ second)
  unfolding pair_first_leaves pair_second_leaves leaves
  one_field = go (pair_write_refusal p x first second) (first_spent p first)
    where
      go : (r : List ℕ) (a : Bool) → (leaves r (cond a first (write_leaves (first_shape p) (first_due p x second) first)) first ≡ first)
          ⊎ (leaves r (cond a (write_leaves (second_shape p) (second_due p x first) second) second) second ≡ second)
      go [] true = inl refl
      go [] false = inr refl
      go (k ∷ carried) a = inl refl

  -- no 1 becomes 0
  pub pair-rises : Bytes first → Bytes second → (w : ℕ) →
      (wit 0 first w ≤ wit 0 (pair_first_leaves p x first second) w) × (wit 0 second w ≤ wit 0 (pair_second_leaves p x first second) w)
  pair-rises A B w = go (pair_write_refusal p x first second) refl
    where
      go : (r : List ℕ) → pair_write_refusal p x first second ≡ r →
          (wit 0 first w ≤ wit 0 (pair_first_leaves p x first second) w) × (wit 0 second w ≤ wit 0 (pair_second_leaves p x first second) w)
      go [] e = (pair_step p x first second A B (pair-passed p x first second e)).rises w
      go (k ∷ carried) e =
          let r = pair-refuses p first second x k carried e in
          rw (r.1, r.2) (le_refl (wit 0 first w), le_refl (wit 0 second w))

  -- a refusal has a number
  pub pair-some : (k : ℕ) (carried : List ℕ) → pair_write_refusal p x first second ≡ k ∷ carried → 0 < k
  unfolding pair_write_refusal
  pair-some k carried q = refusal-some _ (
    omega arith,
    (
      omega arith,
      (
        omega arith,
        (
          omega arith,
          (
            omega arith,
            (
              omega arith,
              (
                omega arith,
                (omega arith, (omega arith, (omega arith, (omega arith, (omega arith, (omega arith, tt)))))),
              ),
            ),
          ),
        ),
      ),
    ),
  ) k carried q

  -- the field that is answered is the one that was written
  pub field_told_lem : (f i n : ℕ) → pair_write_reply p x first second ≡ 0 ∷ f ∷ i ∷ n ∷ [] →
      ((f ≡ 0) × (pair_second_leaves p x first second ≡ second)) ⊎ ((f ≡ 1) × (pair_first_leaves p x first second ≡ first))
  unfolding pair_write_reply pair_first_leaves pair_second_leaves pair_written answer leaves
  field_told_lem f i n e = go (pair_write_refusal p x first second) refl (first_spent p first) e
    where
      one : List ℕ
      one = write_reply (first_shape p) (first_due p x second) first

      two : List ℕ
      two = write_reply (second_shape p) (second_due p x first) second

      go : (r : List ℕ) → pair_write_refusal p x first second ≡ r → (a : Bool) → answer r (cond a (pair_written 1 two) (pair_written 0 one)) ≡ 0 ∷ f ∷ i ∷ n ∷ [] →
          ((f ≡ 0) × (leaves r (cond a (write_leaves (second_shape p) (second_due p x first) second) second) second ≡ second))
          ⊎ ((f ≡ 1) × (leaves r (cond a first (write_leaves (first_shape p) (first_due p x second) first)) first ≡ first))
      go [] q true e = inr (cc, refl)
      go [] q false e = inl (cc, refl)
      go (k ∷ carried) q a e = let z : k ≡ 0 = cc in absurd (omega (arith, pair-some k carried q))
