-- Document 02, §10, of the calls: a read and a write of two fields test by test, as a program comes to them, and what a field tells that passed.
use Prim.Native.Nat.{ℕ, suc, ◌+◌, ◌-◌, ◌%◌, ◌≤◌, ◌<◌}
use mathlib.Core.Path.{◌≡◌, refl, sym, ◌∙◌}
use mathlib.Core.Bool.{Bool, true, false, true≢false, cond, not, ◌&&◌}
use mathlib.Core.List.{List, [], ◌∷◌, ◌++◌}
use native.Mathlib.Omega.{arith}
use native.Mathlib.Nat.{sub-zero, mod-lt, mod-eq_of_lt, mod-add-mod, add-mod_right}
use lib.ListN.{length, get_or}
use lib.Dec.{leb, ltb, eqb}
use borrow.Author.Tests.{lt-leb, ltb-true, ne_eqb, eqb-true, not-false, leb-false}
use Rattle.code.specs.declared.Shape.{Shape}
use Rattle.code.specs.declared.Pair.{Pair}
use Rattle.code.specs.Shape.{single, order_of, outside, misfit, granted, counts_of, width_of, code_of}
use Rattle.code.specs.Cells.{sound}
use Rattle.code.specs.Deal.{written}
use Rattle.code.specs.Code.{Code, generation_at, told, erased}
use Rattle.code.specs.Field.{zeros, past, carriers, Reading, blank, reads, miscounted, beyond, read_at, read}
use Rattle.code.specs.Calls.{groups_in, read_cells, refusal, answer, leaves, layout_refusal, field_read, unsound, numberless, miscounts, exceeds, count_told, spent, taker, over_range, over_taker, generation, holds, left, read_refusal, write_refusal, write_reply, write_leaves}
use Rattle.code.specs.Pair.{first_shape, second_shape, unequal, completing, pair_read_refusal, pair_read_reply, pair_write_refusal, first_spent, first_due, second_due, pair_written, pair_write_reply, pair_first_leaves, pair_second_leaves}
use Rattle.code.proofs.Tests.{clash}
use Rattle.code.proofs.LayoutCall.{Numbered, passed, passed-early, refused-early, bounded, listed-due, single-due, range-single}
use Rattle.code.proofs.ReadCall.{read-tests}
use Rattle.code.proofs.WriteCall.{write-tests, read-most}

-- The number that makes the sum right is in range, and the sum is right.
module _ (v x y : ℕ) (h : x < v) (g : y < v) where
  pub completing-below : completing v x y < v
  unfolding completing
  completing-below = mod-lt (x + (v - y)) (omega arith)

  pub completing-right : (completing v x y + y) % v ≡ x
  unfolding completing
  completing-right =
      let whole : x + (v - y) + y ≡ x + v = omega arith in
      mod-add-mod (x + (v - y)) v y ∙ rw whole (add-mod_right x v ∙ mod-eq_of_lt h)

-- tests that stand before others
pub front-refused : (A B : List (List ℕ × Bool)) (k : ℕ) (carried : List ℕ) → refusal A ≡ k ∷ carried → refusal (A ++ B) ≡ k ∷ carried
unfolding refusal
front-refused [] B k carried h = clash (cc)
front-refused (test ∷ A) B k carried h = go test.1 h (front-refused A B k carried)
  where
    go : (b : Bool) → cond b test.0 (refusal A) ≡ k ∷ carried → (refusal A ≡ k ∷ carried → refusal (A ++ B) ≡ k ∷ carried) →
        cond b test.0 (refusal (A ++ B)) ≡ k ∷ carried
    go true h ih = h
    go false h ih = ih h

pub front-passed : (A B : List (List ℕ × Bool)) → Numbered A → refusal A ≡ [] → refusal (A ++ B) ≡ refusal B
unfolding refusal
front-passed [] B n h = refl
front-passed (test ∷ A) B n h = go test.1 test.0 n.0 h (front-passed A B n.1)
  where
    go : (b : Bool) (k : List ℕ) → 0 < get_or k 0 0 → cond b k (refusal A) ≡ [] → (refusal A ≡ [] → refusal (A ++ B) ≡ refusal B) →
        cond b k (refusal (A ++ B)) ≡ refusal B
    go true [] n h ih = absurd (omega arith)
    go true (k ∷ carried) n h ih = clash (cc)
    go false k n h ih = ih h

-- a test that does not hold, and one that does
pass-by : (k : List ℕ) (b : Bool) (tests : List (List ℕ × Bool)) → b ≡ false → refusal ((k, b) ∷ tests) ≡ refusal tests
unfolding refusal
pass-by k b tests h = rw h

stop-at : (k : List ℕ) (b : Bool) (tests : List (List ℕ × Bool)) → b ≡ true → refusal ((k, b) ∷ tests) ≡ k
unfolding refusal
stop-at k b tests h = rw h

-- the test of a number that is not asked for
without-six : (a b c d e : List ℕ × Bool) → refusal (a ∷ b ∷ c ∷ d ∷ e ∷ []) ≡ refusal (a ∷ b ∷ c ∷ (6 ∷ [], false) ∷ d ∷ e ∷ [])
unfolding refusal
without-six a b c d e = refl

-- a refusal is the answer
answer-refused : {r : List ℕ} (values : List ℕ) {k : ℕ} {carried : List ℕ} → r ≡ k ∷ carried → answer r values ≡ k ∷ carried
unfolding answer
answer-refused values q = rw q

-- the tests of a field of a pair, in a write of the first with the number's test among them
abbrev pub seen_tests : Shape → Bool → List ℕ → List (List ℕ × Bool)
seen_tests s over bytes = let r = field_read s bytes in
    (1 ∷ [], outside s 256) ∷ (2 ∷ [], misfit 256 (counts_of s)) ∷ (3 ∷ [], unsound s bytes) ∷ (6 ∷ [], over)
    ∷ (15 ∷ generation r ∷ count_told r ∷ [], miscounts r) ∷ (16 ∷ generation r ∷ [], exceeds r) ∷ []

unfoldable pub seen_refusal : Shape → Bool → List ℕ → List ℕ
seen_refusal s over bytes = refusal (seen_tests s over bytes)

pub both-passed : (s : Shape) → outside s 256 ≡ false → misfit 256 (counts_of s) ≡ false → layout_refusal s 256 ≡ []
unfolding layout_refusal refusal counts_of
both-passed s a b = rw (a, b)

-- a field that passed them
pub record Seen (s : Shape) (over : Bool) (bs : List ℕ) : Type 0 where
  pub ok : layout_refusal s 256 ≡ []
  pub right : sound (order_of s) s.m (width_of s) bs ≡ true
  pub below : over ≡ false
  pub counted : miscounts (field_read s bs) ≡ false
  pub ranged : exceeds (field_read s bs) ≡ false

module _ (s : Shape) (over : Bool) (bs : List ℕ) where
  pub seen-no-layout : (k : ℕ) → layout_refusal s 256 ≡ k ∷ [] → seen_refusal s over bs ≡ k ∷ []
  unfolding layout_refusal seen_refusal counts_of
  seen-no-layout k q = refused-early (outside s 256) (misfit 256 (granted s 256)) k [] _ q

  module _ (ok : layout_refusal s 256 ≡ []) where
    seen-tests : let r = field_read s bs in seen_refusal s over bs ≡
        refusal ((3 ∷ [], unsound s bs) ∷ (6 ∷ [], over) ∷ (15 ∷ generation r ∷ count_told r ∷ [], miscounts r) ∷ (16 ∷ generation r ∷ [], exceeds r) ∷ [])
    unfolding seen_refusal layout_refusal counts_of
    seen-tests = passed-early (outside s 256) (misfit 256 (granted s 256)) _ ok

    pub seen-unsound : sound (order_of s) s.m (width_of s) bs ≡ false → seen_refusal s over bs ≡ 3 ∷ []
    unfolding refusal unsound
    seen-unsound f = seen-tests ∙ rw f

    module _ (f : sound (order_of s) s.m (width_of s) bs ≡ true) where
      pub seen-over : over ≡ true → seen_refusal s over bs ≡ 6 ∷ []
      unfolding refusal unsound
      seen-over o = seen-tests ∙ rw (f, o)

      module _ (o : over ≡ false) where
        pub seen-miscounted : (i u : ℕ) → field_read s bs ≡ miscounted i u → seen_refusal s over bs ≡ 15 ∷ i ∷ u ∷ []
        unfolding refusal unsound miscounts generation count_told
        seen-miscounted i u q = seen-tests ∙ rw (f, o, q)

        pub seen-beyond : (i : ℕ) → field_read s bs ≡ beyond i → seen_refusal s over bs ≡ 16 ∷ i ∷ []
        unfolding refusal unsound miscounts exceeds generation
        seen-beyond i q = seen-tests ∙ rw (f, o, q)

  pub seen_none : Seen s over bs → seen_refusal s over bs ≡ []
  unfolding refusal unsound
  seen_none S = seen-tests S.ok ∙ rw (S.right, S.below, S.counted, S.ranged)

  -- an accepted read is one that passed, and the other way where the cells have a number
  pub read-seen : read_refusal s bs ≡ [] → Seen s false bs
  unfolding read_refusal unsound
  read-seen h =
      let a = passed 1 [] _ _ h in
      let b = passed 2 [] _ _ a.1 in
      let c = passed 3 [] _ _ b.1 in
      let d = passed 11 [] _ _ c.1 in
      let e = passed 15 _ _ _ d.1 in
      let f = passed 16 _ _ _ e.1 in
      record { ok = both-passed s a.0 b.0; right = not-false _ c.0; below = refl; counted = e.0; ranged = f.0 }

  pub seen_read : Seen s over bs → numberless s (field_read s bs) ≡ false → read_refusal s bs ≡ []
  unfolding refusal unsound
  seen_read S n = read-tests s bs S.ok ∙ rw (S.right, n, S.counted, S.ranged)

-- what is read in range is below the range
read_under : (t u : Bool) (j y k i x : ℕ) → cond t (cond u (reads j y) (beyond j)) (miscounted j k) ≡ reads i x → (u ≡ true) × (x ≡ y) × (i ≡ j)
read_under true true j y k i x h = (refl, cc, cc)
read_under true false j y k i x h = clash (cc)
read_under false u j y k i x h = clash (cc)

read-ranged : (c : Code) (gs : List ℕ) (i x : ℕ) → read c gs ≡ reads i x → (n : ℕ) × (i ≡ suc n) × (x < (generation_at c n).range)
unfolding read read_at
read-ranged c gs i x h = go (eqb (written gs) 0) h
  where
    n : ℕ
    n = past c.counts (zeros gs)

    go : (b : Bool) → cond b blank (read_at c gs n) ≡ reads i x → (n : ℕ) × (i ≡ suc n) × (x < (generation_at c n).range)
    go true h = clash (cc)
    go false h =
        let g = generation_at c n in
        let xs = carriers (erased c) n gs in
        let y = told g.dealing xs in
        let q = read_under (eqb (length xs) g.places) (ltb y g.range) (suc n) y (length xs) i x h in
        (n, q.2, rw q.1 (ltb-true y g.range q.0))

-- What a field tells that passed: it is blank or has a number.
module _ {s : Shape} {over : Bool} {bs : List ℕ} (S : Seen s over bs) where
  pub used-most : taker (field_read s bs) ≤ s.t
  unfolding taker field_read read_cells
  used-most = go (field_read s bs) refl
    where
      go : (r : Reading) → field_read s bs ≡ r → taker r ≤ s.t
      go blank e = omega arith
      go (reads i x) e = read-most s S.ok (groups_in (code_of s) bs) i x e
      go (miscounted i u) e = omega arith
      go (beyond i) e = omega arith

  pub spent-is : spent s.t (field_read s bs) ≡ eqb (taker (field_read s bs)) s.t
  unfolding spent taker miscounts exceeds
  spent-is = go (field_read s bs) S.counted S.ranged
    where
      go : (r : Reading) → miscounts r ≡ false → exceeds r ≡ false → spent s.t r ≡ eqb (taker r) s.t
      go blank c e = sym (ne_eqb 0 s.t (λ z. omega (arith, (bounded s S.ok).t-low)))
      go (reads i x) c e = refl
      go (miscounted i u) c e = absurd (true≢false c)
      go (beyond i) c e = absurd (true≢false e)

  pub left_is : left s.t (field_read s bs) ≡ s.t - taker (field_read s bs)
  unfolding left taker miscounts exceeds
  left_is = go (field_read s bs) S.counted S.ranged
    where
      go : (r : Reading) → miscounts r ≡ false → exceeds r ≡ false → left s.t r ≡ s.t - taker r
      go blank c e = sym (sub-zero s.t)
      go (reads i x) c e = refl
      go (miscounted i u) c e = absurd (true≢false c)
      go (beyond i) c e = absurd (true≢false e)

  module _ (one : s.form ≡ 2 → ⊥) where
    pub held_below : holds (field_read s bs) < get_or s.v 0 0
    unfolding holds field_read read_cells
    held_below = go (field_read s bs) refl
      where
        some : 0 < get_or s.v 0 0
        some = omega (arith, (bounded s S.ok).v_low 0 (omega (arith, single-due s (bounded s S.ok) one)))

        go : (r : Reading) → field_read s bs ≡ r → holds r < get_or s.v 0 0
        go blank e = some
        go (reads i x) e =
            let q = read-ranged (code_of s) (groups_in (code_of s) bs) i x e in
            let low : q.0 < s.t = omega (arith, q.1, read-most s S.ok (groups_in (code_of s) bs) i x e) in
            rw (range-single s (bounded s S.ok) one q.0 low) at q.2
        go (miscounted i u) e = some
        go (beyond i) e = some

    -- the single write passes every test
    pub write-passes : (x : ℕ) → spent s.t (field_read s bs) ≡ false → x < get_or s.v 0 0 → write_refusal s x bs ≡ []
    unfolding refusal unsound over_range over_taker
    write-passes x d h =
        write-tests s x bs S.ok
        ∙ rw (S.right, ne_eqb s.form 2 one, lt-leb (get_or s.v 0 0) x h, S.counted, S.ranged, d)

-- A shape with one range that is granted its layout is of form 0 or 1.
pub not_listed : (form m t v : ℕ) → layout_refusal (single form m t v) 256 ≡ [] → form ≡ 2 → ⊥
not_listed form m t v ok two =
    let b = bounded (single form m t v) ok in
    omega (arith, listed-due (single form m t v) b two, b.t-low)

-- The tests of a pair: the ranges, the first field, the second, and in a write that one of them is left.
module _ (p : Pair) (first second : List ℕ) where
  pub pair-read-unequal : unequal p ≡ true → pair_read_reply p first second ≡ 18 ∷ []
  unfolding pair_read_reply pair_read_refusal
  pair-read-unequal u = answer-refused _ (stop-at (18 ∷ []) (unequal p) _ u)

  module _ (x : ℕ) where
    -- refused, a write answers the refusal and leaves both fields
    pub pair-refuses : (k : ℕ) (carried : List ℕ) → pair_write_refusal p x first second ≡ k ∷ carried →
        (pair_write_reply p x first second ≡ k ∷ carried) × (pair_first_leaves p x first second ≡ first) × (pair_second_leaves p x first second ≡ second)
    unfolding pair_write_reply pair_first_leaves pair_second_leaves answer leaves
    pair-refuses k carried q = (rw q, rw q, rw q)

    pub pair-write-unequal : unequal p ≡ true → pair_write_refusal p x first second ≡ 18 ∷ []
    unfolding pair_write_refusal
    pair-write-unequal u = stop-at (18 ∷ []) (unequal p) _ u

  module _ (same : unequal p ≡ false) where
    pub pair-read-first : (k : ℕ) (carried : List ℕ) → read_refusal (first_shape p) first ≡ k ∷ carried → pair_read_reply p first second ≡ k ∷ carried
    unfolding pair_read_reply pair_read_refusal read_refusal
    pair-read-first k carried q =
        answer-refused _ (pass-by (18 ∷ []) (unequal p) _ same ∙ front-refused (_ ∷ _ ∷ _ ∷ _ ∷ _ ∷ _ ∷ []) _ k carried q)

    pub pair-read-second : read_refusal (first_shape p) first ≡ [] → pair_read_refusal p first second ≡ seen_refusal (second_shape p) false second
    unfolding pair_read_refusal read_refusal seen_refusal
    pair-read-second q =
        pass-by (18 ∷ []) (unequal p) _ same
        ∙ front-passed (_ ∷ _ ∷ _ ∷ _ ∷ _ ∷ _ ∷ []) _ (omega arith, (omega arith, (omega arith, (omega arith, (omega arith, (omega arith, tt)))))) q
        ∙ without-six _ _ _ _ _

    module _ (x : ℕ) where
      pub pair-write-first : (k : ℕ) (carried : List ℕ) → seen_refusal (first_shape p) (leb p.v1 x) first ≡ k ∷ carried → pair_write_refusal p x first second ≡ k ∷ carried
      unfolding pair_write_refusal seen_refusal
      pair-write-first k carried q = pass-by (18 ∷ []) (unequal p) _ same ∙ front-refused (_ ∷ _ ∷ _ ∷ _ ∷ _ ∷ _ ∷ []) _ k carried q

      module _ (seen : seen_refusal (first_shape p) (leb p.v1 x) first ≡ []) where
        second-tests : let s = second_shape p in let q = field_read s second in pair_write_refusal p x first second ≡ refusal (
            (1 ∷ [], outside s 256) ∷ (2 ∷ [], misfit 256 (counts_of s)) ∷ (3 ∷ [], unsound s second)
            ∷ (15 ∷ generation q ∷ count_told q ∷ [], miscounts q) ∷ (16 ∷ generation q ∷ [], exceeds q)
            ∷ (5 ∷ [], first_spent p first && spent p.t2 q) ∷ [])
        unfolding pair_write_refusal seen_refusal first_spent
        second-tests =
            pass-by (18 ∷ []) (unequal p) _ same
            ∙ front-passed (_ ∷ _ ∷ _ ∷ _ ∷ _ ∷ _ ∷ []) _ (omega arith, (omega arith, (omega arith, (omega arith, (omega arith, (omega arith, tt)))))) seen

        pub pair-write-second : (k : ℕ) (carried : List ℕ) → seen_refusal (second_shape p) false second ≡ k ∷ carried →
            pair_write_refusal p x first second ≡ k ∷ carried
        unfolding seen_refusal
        pair-write-second k carried q = second-tests ∙ front-refused (_ ∷ _ ∷ _ ∷ _ ∷ _ ∷ []) _ k carried (without-six _ _ _ _ _ ∙ q)

        pub pair-write-both : seen_refusal (second_shape p) false second ≡ [] →
            pair_write_refusal p x first second ≡ refusal ((5 ∷ [], first_spent p first && spent p.t2 (field_read (second_shape p) second)) ∷ [])
        unfolding seen_refusal
        pair-write-both q =
            second-tests
            ∙ front-passed (_ ∷ _ ∷ _ ∷ _ ∷ _ ∷ []) _ (omega arith, (omega arith, (omega arith, (omega arith, (omega arith, tt))))) (without-six _ _ _ _ _ ∙ q)

-- Both fields have passed: the write goes to the first, or to the second where the first is spent, or is refused where both are.
module _ (p : Pair) (first second : List ℕ) (x : ℕ) (same : unequal p ≡ false)
    (F : Seen (first_shape p) (leb p.v1 x) first) (S : Seen (second_shape p) false second) where
  one-range : p.v1 ≡ p.v2
  unfolding unequal
  one-range = eqb-true p.v1 p.v2 (not-false _ same)

  one_form : p.form ≡ 2 → ⊥
  one_form = not_listed p.form p.m p.t1 p.v1 F.ok

  pub number-below : x < p.v1
  number-below = leb-false p.v1 x F.below

  first_below : first_due p x second < p.v1
  unfolding first_due
  first_below = completing-below p.v1 x _ number-below (rw one-range (held_below S one_form))

  second_below : second_due p x first < p.v1
  unfolding second_due
  second_below = completing-below p.v1 x _ number-below (held_below F one_form)

  left-to-write : pair_write_refusal p x first second ≡ refusal ((5 ∷ [], first_spent p first && spent p.t2 (field_read (second_shape p) second)) ∷ [])
  left-to-write = pair-write-both p first second same x (seen_none _ _ _ F) (seen_none _ _ _ S)

  pub both-spent : first_spent p first ≡ true → spent p.t2 (field_read (second_shape p) second) ≡ true → pair_write_refusal p x first second ≡ 5 ∷ []
  unfolding refusal
  both-spent a b = left-to-write ∙ rw (a, b)

  module _ (a : first_spent p first ≡ false) where
    pub passes-first : pair_write_refusal p x first second ≡ []
    unfolding refusal
    passes-first = left-to-write ∙ rw a

    pub writes-first : write_refusal (first_shape p) (first_due p x second) first ≡ []
    unfolding first_spent
    writes-first = write-passes F one_form _ a first_below

    pub made-first : (pair_write_reply p x first second ≡ 0 ∷ pair_written 0 (write_reply (first_shape p) (first_due p x second) first))
        × (pair_first_leaves p x first second ≡ write_leaves (first_shape p) (first_due p x second) first) × (pair_second_leaves p x first second ≡ second)
    unfolding pair_write_reply pair_first_leaves pair_second_leaves answer leaves
    made-first = (rw (passes-first, a), rw (passes-first, a), rw (passes-first, a))

  module _ (a : first_spent p first ≡ true) (b : spent p.t2 (field_read (second_shape p) second) ≡ false) where
    pub passes-second : pair_write_refusal p x first second ≡ []
    unfolding refusal
    passes-second = left-to-write ∙ rw (a, b)

    pub writes-second : write_refusal (second_shape p) (second_due p x first) second ≡ []
    writes-second = write-passes S one_form _ b (omega (arith, one-range, second_below))

    pub made-second : (pair_write_reply p x first second ≡ 0 ∷ pair_written 1 (write_reply (second_shape p) (second_due p x first) second))
        × (pair_first_leaves p x first second ≡ first) × (pair_second_leaves p x first second ≡ write_leaves (second_shape p) (second_due p x first) second)
    unfolding pair_write_reply pair_first_leaves pair_second_leaves answer leaves
    made-second = (rw (passes-second, a), rw (passes-second, a), rw (passes-second, a))
