-- The write call: test by test as a program comes to them, where a write goes and what it leaves, and that it is refused exactly where the rules make no write.
use Prim.Native.Nat.{ℕ, zero, suc, ◌*◌, ◌-◌, ◌^◌, ◌≤◌, ◌<◌}
use mathlib.Core.Path.{◌≡◌, refl, sym, ◌∙◌}
use mathlib.Core.Logic.{◌⊎◌, inl, inr}
use mathlib.Core.Bool.{Bool, true, false, true≢false, cond, not, ◌&&◌}
use mathlib.Core.List.{List, [], ◌∷◌}
use native.Mathlib.Omega.{arith}
use native.Mathlib.Decide.{ℕ_discrete}
use lib.ListN.{length, get_or}
use lib.Arith.{lt_of_le-ne}
use lib.Dec.{leb, ltb, eqb}
use borrow.Author.Tests.{le-leb, lt-leb, lt-ltb, le-ltb, ltb-true, eq-eqb, ne_eqb}
use Rattle.code.specs.declared.Shape.{Shape}
use Rattle.code.specs.Shape.{first_of, ranges_of, order_of, outside, misfit, granted, counts_of, width_of, code_of}
use Rattle.code.specs.Cells.{opened, sound, stored, turned}
use Rattle.code.specs.Code.{generation_at, pattern, room}
use Rattle.code.specs.Field.{zeros, Reading, blank, reads, miscounted, beyond, read, cleared_by, after_by, lay, after, Writing, refused, wrote, write_at, write_on, write}
use Rattle.code.proofs.Groups.{erase}
use Rattle.code.specs.Run.{kept}
use Rattle.code.proofs.Run.{accepted}
use Rattle.code.specs.Calls.{groups_in, read_cells, storing, write_cells, refusal, answer, passes, leaves, layout_refusal, field_read, field_write, unsound, generation, miscounts, exceeds, count_told, spent, taker, over_range, over_place, over_taker, write_refusal, made_at, write_reply, write_leaves}
use Rattle.code.proofs.Tests.{both_true, and-true, and-false, less-not}
use Rattle.code.proofs.Conditions as roomy
use Rattle.code.proofs.Cells.{turned-most}
use Rattle.code.proofs.Groups.{blank-zeros, erase-blank}
use Rattle.code.proofs.Field.{past_next, past-most, Ready, read_past, blank-read, write_read, write-taken}
use Rattle.code.proofs.Bytes.{storing-accepted, tried_cells}
use Rattle.code.proofs.LayoutCall.{refusal-some, refused-early, passed, passed-early, range-single, bounded, counts-length, is-layout}

-- a refused write: its number and what it carries, and the cells as they were
abbrev pub Refuses : Shape → ℕ → List ℕ → List ℕ → Type 0
Refuses s x bs reply = (write_reply s x bs ≡ reply) × (write_leaves s x bs ≡ bs)

-- the tests of a write from the fourth on, of cells that read as r
abbrev pub last_tests : Shape → ℕ → Reading → List (List ℕ × Bool)
last_tests s x r =
    (6 ∷ [], over_range s x) ∷ (15 ∷ generation r ∷ count_told r ∷ [], miscounts r) ∷ (16 ∷ generation r ∷ [], exceeds r)
    ∷ (5 ∷ [], spent s.t r) ∷ (6 ∷ [], over_taker s x r) ∷ []

-- Whether a number is in range, at the fourth test or at the last.
module _ (s : Shape) where
  pub late-false : (x n : ℕ) → x < get_or (ranges_of s) n 0 → over_place s x n ≡ false
  late-false x n g = rw (lt-leb (get_or (ranges_of s) n 0) x g) (and-false (eqb s.form 2))

  module _ (ok : layout_refusal s 256 ≡ []) where
    -- where the number passed the fourth test, or the form has no such test, the last one tells
    pub late-true : (x n : ℕ) → n < s.t → get_or (ranges_of s) n 0 ≤ x → over_range s x ≡ false → over_place s x n ≡ true
    unfolding over_range
    late-true x n h g l = elim (ℕ_discrete s.form 2) [
      | yes two ↦ rw (eq-eqb s.form 2 two, le-leb (get_or (ranges_of s) n 0) x g)
      | no not-two ↦
          let one = range-single s (bounded s ok) not-two n h in
          absurd (true≢false (rw (ne_eqb s.form 2 not-two, le-leb (get_or s.v 0 0) x (omega (arith, one))) at l))
    ]

    -- passing both tests is being in the range of the generation at place n
    pub both-ranges : (x n : ℕ) → n < s.t → not (over_range s x) && not (eqb s.form 2 && leb (get_or (ranges_of s) n 0) x) ≡ ltb x (get_or (ranges_of s) n 0)
    unfolding over_range
    both-ranges x n h = elim (ℕ_discrete s.form 2) [
      | yes two ↦ rw (eq-eqb s.form 2 two) (less-not (get_or (ranges_of s) n 0) x)
      | no not-two ↦ rw (ne_eqb s.form 2 not-two, range-single s (bounded s ok) not-two n h) (and-true _ ∙ less-not (get_or s.v 0 0) x)
    ]

module _ (s : Shape) (x : ℕ) (bs : List ℕ) where
  refuses : (k : ℕ) (carried : List ℕ) → write_refusal s x bs ≡ k ∷ carried → Refuses s x bs (k ∷ carried)
  unfolding write_reply write_leaves answer leaves
  refuses k carried q = (rw q, rw q)

  pub write-some : (k : ℕ) (carried : List ℕ) → write_refusal s x bs ≡ k ∷ carried → 0 < k
  unfolding write_refusal
  write-some k carried q = refusal-some _ (omega arith, (omega arith, (omega arith, (omega arith, (omega arith, (omega arith, (omega arith, (omega arith, tt)))))))) k carried q

  pub write-barred : (k : ℕ) (carried : List ℕ) → layout_refusal s 256 ≡ k ∷ carried → write_refusal s x bs ≡ k ∷ carried
  unfolding layout_refusal write_refusal counts_of
  write-barred k carried q = refused-early (outside s 256) (misfit 256 (granted s 256)) k carried _ q

  -- a reply that begins with 0 is no refusal
  pub none-refused : (values : List ℕ) → write_reply s x bs ≡ 0 ∷ values → write_refusal s x bs ≡ []
  unfolding write_reply answer
  none-refused values e = go (write_refusal s x bs) refl e
    where
      go : (r : List ℕ) → write_refusal s x bs ≡ r →
          answer r (made_at (field_write s x bs) ∷ turned (order_of s) bs (kept bs (field_write s x bs)) ∷ []) ≡ 0 ∷ values → r ≡ []
      go [] q e = refl
      go (k ∷ carried) q e = let z : k ≡ 0 = cc in absurd (omega (arith, write-some k carried q))

  pub write-no-layout : (k : ℕ) → layout_refusal s 256 ≡ k ∷ [] → Refuses s x bs (k ∷ [])
  write-no-layout k q = refuses k [] (write-barred k [] q)

  module _ (ok : layout_refusal s 256 ≡ []) where
    -- the tests of a write from the third on
    pub write-tests : write_refusal s x bs ≡
        refusal ((3 ∷ [], unsound s bs) ∷ last_tests s x (field_read s bs))
    unfolding write_refusal layout_refusal counts_of
    write-tests = passed-early (outside s 256) (misfit 256 (granted s 256)) _ ok

    -- an accepted number passed the fourth test
    pub write-in-range : write_refusal s x bs ≡ [] → over_range s x ≡ false
    write-in-range z =
        let a = passed 3 [] (unsound s bs) _ (sym write-tests ∙ z) in
        (passed 6 [] (over_range s x) _ a.1).0

    pub write-unsound : sound (order_of s) s.m (width_of s) bs ≡ false → Refuses s x bs (3 ∷ [])
    unfolding refusal unsound
    write-unsound f = refuses 3 [] (write-tests ∙ rw f)

    module _ (f : sound (order_of s) s.m (width_of s) bs ≡ true) where
      pub write-large : over_range s x ≡ true → Refuses s x bs (6 ∷ [])
      unfolding refusal unsound
      write-large l = refuses 6 [] (write-tests ∙ rw (f, l))

      module _ (l : over_range s x ≡ false) where
        pub write-miscounted : (i u : ℕ) → field_read s bs ≡ miscounted i u → Refuses s x bs (15 ∷ i ∷ u ∷ [])
        unfolding refusal unsound generation count_told miscounts
        write-miscounted i u q = refuses 15 (i ∷ u ∷ []) (write-tests ∙ rw (f, l, q))

        pub write-beyond : (i : ℕ) → field_read s bs ≡ beyond i → Refuses s x bs (16 ∷ i ∷ [])
        unfolding refusal unsound generation miscounts exceeds
        write-beyond i q = refuses 16 (i ∷ []) (write-tests ∙ rw (f, l, q))

        pub write-spent : (i y : ℕ) → field_read s bs ≡ reads i y → i ≡ s.t → Refuses s x bs (5 ∷ [])
        unfolding refusal unsound miscounts exceeds spent
        write-spent i y r q = refuses 5 [] (write-tests ∙ rw (f, l, r, eq-eqb i s.t q))

        module _ (r : Reading) (q : field_read s bs ≡ r) (c : miscounts r ≡ false) (e : exceeds r ≡ false) (p : spent s.t r ≡ false) where
          -- a number that the next generation has no room for
          pub write-late : taker r < s.t → get_or (ranges_of s) (taker r) 0 ≤ x → Refuses s x bs (6 ∷ [])
          unfolding refusal unsound over_taker
          write-late h g = refuses 6 [] (write-tests ∙ rw (f, l, q, c, e, p, late-true s ok x (taker r) h g l))

          -- an accepted write: the generation, the wits turned, and the cells of the groups that the rules leave
          pub write-made : (n : ℕ) (gs : List ℕ) → x < get_or (ranges_of s) (taker r) 0 →
              write (code_of s) x (opened (order_of s) s.m (width_of s) bs) ≡ wrote n gs →
              (write_reply s x bs ≡ 0 ∷ n ∷ turned (order_of s) bs (stored (order_of s) s.m gs) ∷ []) × (write_leaves s x bs ≡ stored (order_of s) s.m gs)
          unfolding refusal unsound over_taker field_write write_cells storing write_reply write_leaves answer leaves made_at kept width_of
          write-made n gs g w =
              let z : write_refusal s x bs ≡ [] = write-tests ∙ rw (f, l, q, c, e, p, late-false s x (taker r) g) in
              (rw (z, f, w), rw (z, f, w))

-- Where a write goes, what room its number has, and what it leaves, on groups.
module _ (s : Shape) (ok : layout_refusal s 256 ≡ []) where
  abbrev pub full : ℕ
  full = 2 ^ s.m - 1

  abbrev pub pattern_at : ℕ → ℕ → List ℕ
  pattern_at n x = let g = generation_at (code_of s) n in pattern g.dealing g.places x

  -- there is room for every number of a generation's range
  pub room_for : (n x : ℕ) → n < s.t → x < get_or (ranges_of s) n 0 →
      let g = generation_at (code_of s) n in x < room g.dealing g.places g.next
  room_for n x l h = omega (arith, roomy.fits (code_of s) (is-layout s ok) n (omega (arith, counts-length s ok)))

  -- the spare groups are those above the generation's count; blank groups have none
  pub after-erased : (n x : ℕ) (gs : List ℕ) → Ready (counts_of s) n gs → length gs ≡ width_of s →
      after (code_of s) n x gs ≡ lay (erase full (zeros gs - get_or (counts_of s) n 0) gs) (pattern_at n x)
  unfolding after after_by cleared_by erase width_of
  after-erased zero x gs r l =
      let z : zeros gs - get_or (counts_of s) 0 0 ≡ 0 = omega (arith, blank-zeros gs r) in
      rw (z, erase-blank full gs r)
  after-erased (suc n) x gs r l = refl

  -- all-zero groups are written at generation 1, others at the one after what they read as
  pub first-write : (x : ℕ) (gs : List ℕ) → read (code_of s) gs ≡ blank → x < get_or (ranges_of s) 0 0 →
      (write (code_of s) x gs ≡ wrote 1 (after (code_of s) 0 x gs)) × Ready (counts_of s) 0 gs
  unfolding write_on
  first-write x gs r h =
      let w = write-taken (code_of s) x gs 0 (omega (arith, counts-length s ok, (bounded s ok).t-low)) h in
      (write_read (code_of s) x gs blank r ∙ w, blank-read (code_of s) gs r)

  pub next-write : (x i y : ℕ) (gs : List ℕ) → x < get_or (ranges_of s) i 0 → read (code_of s) gs ≡ reads i y → i < s.t →
      (write (code_of s) x gs ≡ wrote (suc i) (after (code_of s) i x gs)) × Ready (counts_of s) i gs
  unfolding write_on
  next-write x i y gs h r l =
      let q = read_past (code_of s) gs i y r in
      let w = write-taken (code_of s) x gs i (omega (arith, counts-length s ok)) h in
      (write_read (code_of s) x gs (reads i y) r ∙ w, rw q (past_next (counts_of s) (zeros gs)))

  -- the generation read is at most t
  pub read-most : (gs : List ℕ) (i y : ℕ) → read (code_of s) gs ≡ reads i y → i ≤ s.t
  read-most gs i y r =
      let b = past-most (counts_of s) (zeros gs) (omega (arith, counts-length s ok, (bounded s ok).t-low)) in
      omega (arith, read_past (code_of s) gs i y r, counts-length s ok)

  -- A number is taken at a generation that is there exactly where it is in its range.
  at-accepted : (x i : ℕ) (gs : List ℕ) → i < s.t → accepted (write_at (code_of s) x gs i) ≡ ltb x (get_or (ranges_of s) i 0)
  unfolding write_at accepted
  at-accepted x i gs l = rw (lt-ltb i (length (counts_of s)) (omega (arith, counts-length s ok))) (go (ltb x (get_or (ranges_of s) i 0)))
    where
      go : (b : Bool) → accepted (cond (true && b) (wrote (suc i) (after (code_of s) i x gs)) refused) ≡ b
      go true = refl
      go false = refl

  at-spent : (x i : ℕ) (gs : List ℕ) → i ≡ s.t → write_at (code_of s) x gs i ≡ refused
  unfolding write_at
  at-spent x i gs q = rw (le-ltb i (length (counts_of s)) (omega (arith, counts-length s ok)))

  -- cells that are read pass where the number passes both tests of its range
  both-pass : (a b : Bool) (k j : List ℕ) → passes (refusal ((6 ∷ [], a) ∷ (15 ∷ k, false) ∷ (16 ∷ j, false) ∷ (5 ∷ [], false) ∷ (6 ∷ [], b) ∷ [])) ≡ (not a && not b)
  unfolding refusal passes
  both-pass true b k j = refl
  both-pass false true k j = refl
  both-pass false false k j = refl

  -- others are refused, the number being in range or not
  none_pass : (a b c d : Bool) (k j : List ℕ) → b ≡ true ⊎ (c ≡ true ⊎ d ≡ true) → (e : Bool) →
      passes (refusal ((6 ∷ [], a) ∷ (15 ∷ k, b) ∷ (16 ∷ j, c) ∷ (5 ∷ [], d) ∷ (6 ∷ [], e) ∷ [])) ≡ false
  unfolding refusal passes
  none_pass true b c d k j h e = refl
  none_pass false true c d k j h e = refl
  none_pass false false true d k j h e = refl
  none_pass false false false true k j h e = refl
  none_pass false false false false k j (inl h) e = absurd (true≢false (sym h))
  none_pass false false false false k j (inr (inl h)) e = absurd (true≢false (sym h))
  none_pass false false false false k j (inr (inr h)) e = absurd (true≢false (sym h))

  acceptance : (x : ℕ) (gs : List ℕ) (r : Reading) → read (code_of s) gs ≡ r →
      passes (refusal (last_tests s x r)) ≡ accepted (write_on (code_of s) x gs r)
  unfolding miscounts exceeds spent write_on accepted over_taker taker
  acceptance x gs blank q =
      let l : 0 < s.t = omega (arith, (bounded s ok).t-low) in
      both-pass (over_range s x) _ _ _ ∙ both-ranges s ok x 0 l ∙ sym (at-accepted x 0 gs l)
  acceptance x gs (reads i y) q = elim (ℕ_discrete i s.t) [
    | yes e ↦ rw (eq-eqb i s.t e, at-spent x i gs e) (none_pass (over_range s x) false false true _ _ (inr (inr refl)) _)
    | no d ↦
        let l : i < s.t = lt_of_le-ne (read-most gs i y q) d in
        rw (ne_eqb i s.t d) (both-pass (over_range s x) _ _ _ ∙ both-ranges s ok x i l ∙ sym (at-accepted x i gs l))
  ]
  acceptance x gs (miscounted i u) q = none_pass (over_range s x) true false false _ _ (inl refl) _
  acceptance x gs (beyond i) q = none_pass (over_range s x) false true false _ _ (inr (inl refl)) _

  -- A write is refused with no number exactly where the rules make it.
  pub refused-not : (x : ℕ) (bs : List ℕ) → passes (write_refusal s x bs) ≡ accepted (field_write s x bs)
  unfolding refusal passes unsound field_read field_write read_cells write_cells accepted width_of write
  refused-not x bs = rw (write-tests s x bs ok) (go (sound (order_of s) s.m (width_of s) bs))
    where
      gs : List ℕ
      gs = opened (order_of s) s.m (width_of s) bs

      r : Reading
      r = read (code_of s) gs

      go : (b : Bool) → passes (refusal ((3 ∷ [], not b) ∷ last_tests s x r)) ≡
          accepted (cond b (storing (order_of s) s.m (write_on (code_of s) x gs r)) refused)
      go false = refl
      go true = acceptance x gs r refl ∙ sym (storing-accepted (order_of s) s.m (write_on (code_of s) x gs r))

  -- so the cells left are those of the rules
  pub leaves-is : (x : ℕ) (bs : List ℕ) → write_leaves s x bs ≡ tried_cells (code_of s) x bs
  unfolding write_leaves field_write tried_cells accepted kept leaves passes
  leaves-is x bs = go (write_refusal s x bs) (field_write s x bs) (refused-not x bs)
    where
      go : (k : List ℕ) (w : Writing) → passes k ≡ accepted w → leaves k (kept bs w) bs ≡ kept bs w
      go [] w q = refl
      go (k ∷ carried) refused q = refl
      go (k ∷ carried) (wrote i bs') q = absurd (true≢false (sym q))

-- What a write answers is small: no generation beyond the layout's, and no more wits turned than there are.
module _ (s : Shape) (x : ℕ) where
  at_most : (gs : List ℕ) (n : ℕ) → made_at (storing (order_of s) s.m (write_at (code_of s) x gs n)) ≤ length (counts_of s)
  unfolding made_at storing write_at
  at_most gs n = go (ltb n (length (counts_of s)) && ltb x (get_or (ranges_of s) n 0)) refl
    where
      go : (b : Bool) → (ltb n (length (counts_of s)) && ltb x (get_or (ranges_of s) n 0)) ≡ b →
          made_at (storing (order_of s) s.m (cond b (wrote (suc n) (after (code_of s) n x gs)) refused)) ≤ length (counts_of s)
      go true q = ltb-true n (length (counts_of s)) (both_true _ _ q).0
      go false q = omega arith

  made-most : (bs : List ℕ) → made_at (field_write s x bs) ≤ length (counts_of s)
  unfolding field_write write_cells write write_on made_at storing
  made-most bs = whole (sound (order_of s) s.m (get_or (counts_of s) 0 0) bs)
    where
      gs : List ℕ
      gs = groups_in (code_of s) bs

      on : (r : Reading) → made_at (storing (order_of s) s.m (write_on (code_of s) x gs r)) ≤ length (counts_of s)
      on blank = at_most gs 0
      on (reads i y) = at_most gs i
      on (miscounted i u) = omega arith
      on (beyond i) = omega arith

      whole : (b : Bool) →
          made_at (cond b (storing (order_of s) s.m (write (code_of s) x gs)) refused) ≤ length (counts_of s)
      whole true = on (read (code_of s) gs)
      whole false = omega arith

  -- what an accepted write answers
  pub written_small : (i k : ℕ) (bs : List ℕ) → 0 ∷ i ∷ k ∷ [] ≡ write_reply s x bs → (i ≤ length (counts_of s)) × (k ≤ 8 * length bs)
  unfolding write_reply answer
  written_small i k bs e = go (write_refusal s x bs) refl e
    where
      n : ℕ
      n = turned (order_of s) bs (kept bs (field_write s x bs))

      go : (r : List ℕ) → write_refusal s x bs ≡ r → 0 ∷ i ∷ k ∷ [] ≡ answer r (made_at (field_write s x bs) ∷ n ∷ []) → (i ≤ length (counts_of s)) × (k ≤ 8 * length bs)
      go [] q e =
          let a : i ≡ made_at (field_write s x bs) = cc in
          let b : k ≡ n = cc in
          (rw a (made-most bs), rw b (turned-most (order_of s) bs (kept bs (field_write s x bs))))
      go (j ∷ carried) q e = let z : 0 ≡ j = cc in absurd (omega (arith, write-some s x bs j carried q))
