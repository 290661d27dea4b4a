-- The resume call: test by test as a program comes to them, where 5 comes, and what an accepted call answers and leaves.
use Prim.Native.Nat.{ℕ, zero, suc, ◌-◌, ◌≤◌, ◌<◌}
use mathlib.Core.Path.{◌≡◌, refl, sym, ap, ◌∙◌}
use mathlib.Core.Logic.{inl, inr, ◌↔◌}
use mathlib.Core.Bool.{Bool, true, false, true≢false, cond, not}
use mathlib.Core.List.{List, [], ◌∷◌}
use native.Mathlib.Omega.{arith}
use lib.ListN.{length, get_or}
use lib.Arith.{lt_of_le-ne}
use lib.Dec.{ltb}
use borrow.Author.Tests.{ltb-true, ltb-false, lt-ltb, le-ltb}
use Rattle.code.specs.declared.Shape.{Shape}
use Rattle.code.specs.Shape.{ranges_of, order_of, outside, misfit, granted, counts_of, width_of, code_of}
use Rattle.code.specs.Code.{width}
use Rattle.code.specs.Cells.{wit, sound, stored, turned}
use Rattle.code.specs.Field.{zeros, past, Reading, blank, reads, miscounted, beyond, has_reading, read, after, Writing, refused, wrote}
use Rattle.code.specs.Run.{kept}
use Rattle.code.specs.Calls.{groups_in, storing, refusal, answer, leaves, layout_refusal, read_cells, field_read, unsound, over_range, over_place, generation, made_at}
use Rattle.code.specs.Resume.{resume_place, resume, resume_cells, fresh_groups, exhausted, over_found, resume_refusal, field_resume, resume_reply, resume_leaves}
use Rattle.code.proofs.Tests.{le-or-lt}
use Rattle.code.proofs.Field.{past-most}
use Rattle.code.proofs.LayoutCall.{refusal-some, refused-early, passed-early, passed, bounded, counts-length, is-layout}
use Rattle.code.proofs.WriteCall.{late-false, late-true}
use Rattle.code.proofs.Unread.{Points, pointed, pointed-exactly, miscounted-cells, beyond-cells}
use Rattle.code.proofs.Resume.{place_is, resume-ready, resume-taken, resume-is}
use Rattle.code.proofs.Bytes.{buffer}
use Rattle.code.proofs.Cells.{groups-length}

-- a refused call: its number alone, and the cells as they were
abbrev pub Refuses : Shape → ℕ → List ℕ → ℕ → Type 0
Refuses s x bs k = (resume_reply s x bs ≡ k ∷ []) × (resume_leaves s x bs ≡ bs)

-- the place of the generation found
abbrev pub place_in : Shape → List ℕ → ℕ
place_in s bs = resume_place (code_of s) (groups_in (code_of s) bs)

-- the groups that it leaves there
abbrev pub resumed_groups : Shape → ℕ → List ℕ → List ℕ
resumed_groups s x bs = after (code_of s) (place_in s bs) x (groups_in (code_of s) bs)

module _ (s : Shape) (x : ℕ) (bs : List ℕ) where
  refuses : (k : ℕ) → resume_refusal s x bs ≡ k ∷ [] → Refuses s x bs k
  unfolding resume_reply resume_leaves answer leaves
  refuses k q = (rw q, rw q)

  pub resume-some : (k : ℕ) (carried : List ℕ) → resume_refusal s x bs ≡ k ∷ carried → 0 < k
  unfolding resume_refusal
  resume-some k carried q = refusal-some _ (omega arith, (omega arith, (omega arith, (omega arith, (omega arith, (omega arith, (omega arith, tt))))))) k carried q

  pub resume-barred : (k : ℕ) (carried : List ℕ) → layout_refusal s 256 ≡ k ∷ carried → resume_refusal s x bs ≡ k ∷ carried
  unfolding layout_refusal resume_refusal counts_of
  resume-barred k carried q = refused-early (outside s 256) (misfit 256 (granted s 256)) k carried _ q

  pub resume-no-layout : (k : ℕ) → layout_refusal s 256 ≡ k ∷ [] → Refuses s x bs k
  resume-no-layout k q = refuses k (resume-barred k [] q)

  module _ (ok : layout_refusal s 256 ≡ []) where
    -- the tests from the third on
    resume-tests : resume_refusal s x bs ≡
        refusal ((3 ∷ [], unsound s bs) ∷ (6 ∷ [], over_range s x) ∷ (17 ∷ [], has_reading (field_read s bs)) ∷ (5 ∷ [], exhausted s bs) ∷ (6 ∷ [], over_found s x bs) ∷ [])
    unfolding resume_refusal layout_refusal counts_of
    resume-tests = passed-early (outside s 256) (misfit 256 (granted s 256)) _ ok

    -- what an accepted call has passed
    pub resume-passed : resume_refusal s x bs ≡ [] →
        (unsound s bs ≡ false) × (over_range s x ≡ false) × (has_reading (field_read s bs) ≡ false) × (exhausted s bs ≡ false) × (over_found s x bs ≡ false)
    resume-passed z =
        let a = passed 3 [] (unsound s bs) _ (sym resume-tests ∙ z) in
        let b = passed 6 [] (over_range s x) _ a.1 in
        let c = passed 17 [] (has_reading (field_read s bs)) _ b.1 in
        let d = passed 5 [] (exhausted s bs) _ c.1 in
        (a.0, b.0, c.0, d.0, (passed 6 [] (over_found s x bs) [] d.1).0)

    pub resume-unsound : sound (order_of s) s.m (width_of s) bs ≡ false → Refuses s x bs 3
    unfolding refusal unsound
    resume-unsound f = refuses 3 (resume-tests ∙ rw f)

    module _ (f : sound (order_of s) s.m (width_of s) bs ≡ true) where
      pub resume-large : over_range s x ≡ true → Refuses s x bs 6
      unfolding refusal unsound
      resume-large l = refuses 6 (resume-tests ∙ rw (f, l))

      module _ (l : over_range s x ≡ false) where
        pub resume-readable : has_reading (field_read s bs) ≡ true → Refuses s x bs 17
        unfolding refusal unsound
        resume-readable r = refuses 17 (resume-tests ∙ rw (f, l, r))

        module _ (u : has_reading (field_read s bs) ≡ false) where
          -- cells with no reading pass but for 5 and the last 6
          pub resume-last : resume_refusal s x bs ≡ refusal ((5 ∷ [], exhausted s bs) ∷ (6 ∷ [], over_found s x bs) ∷ [])
          unfolding refusal unsound
          resume-last = resume-tests ∙ rw (f, l, u)

          pub resume-spent : exhausted s bs ≡ true → Refuses s x bs 5
          unfolding refusal
          resume-spent e = refuses 5 (resume-last ∙ rw e)

          module _ (e : exhausted s bs ≡ false) where
            pub resume-late : place_in s bs < s.t → get_or (ranges_of s) (place_in s bs) 0 ≤ x → Refuses s x bs 6
            unfolding refusal over_found
            resume-late h g = refuses 6 (resume-last ∙ rw (e, late-true s ok x (place_in s bs) h g l))

            pub resume-passes : x < get_or (ranges_of s) (place_in s bs) 0 → resume_refusal s x bs ≡ []
            unfolding refusal over_found
            resume-passes g = resume-last ∙ rw (e, late-false s x (place_in s bs) g)

            -- an accepted call: the generation, the wits turned, the groups that are all ones now and not before, and the cells of the groups that are left
            pub resume-made : place_in s bs < s.t → x < get_or (ranges_of s) (place_in s bs) 0 →
                let cells = stored (order_of s) s.m (resumed_groups s x bs) in
                let listed = fresh_groups (code_of s) bs cells in
                (resume_reply s x bs ≡ 0 ∷ suc (place_in s bs) ∷ turned (order_of s) bs cells ∷ length listed ∷ listed) × (resume_leaves s x bs ≡ cells)
            unfolding field_resume resume_cells storing resume_reply resume_leaves answer leaves made_at kept width_of field_read read_cells
            resume-made h g =
                let z = resume-passes g in
                let w = resume-taken (code_of s) x (groups_in (code_of s) bs) u (omega (arith, counts-length s ok)) g in
                (rw (z, f, w), rw (z, f, w))

-- Which generation is found: the one behind that which the zero groups point to; there is none exactly where fewer than h_t zero groups are left.
module _ (s : Shape) (ok : layout_refusal s 256 ≡ []) (bs : List ℕ) where
  many : 0 < length (counts_of s)
  many = omega (arith, counts-length s ok, (bounded s ok).t-low)

  pub found-behind : place_in s bs ≡ pointed s bs
  unfolding width_of
  found-behind = place_is (code_of s) (groups_in (code_of s) bs) many

  pub found-most : place_in s bs ≤ s.t
  unfolding width_of
  found-most = omega (arith, found-behind, past-most (counts_of s) (zeros (groups_in (code_of s) bs)) many, counts-length s ok)

  -- and has no more places than there are zero groups
  pub found-ready : get_or (counts_of s) (place_in s bs) 0 ≤ zeros (groups_in (code_of s) bs)
  unfolding resume_place
  found-ready = resume-ready (code_of s) (groups_in (code_of s) bs) many

  pub exhausted-last : exhausted s bs ≡ true → place_in s bs ≡ s.t
  unfolding exhausted width_of
  exhausted-last e = found-behind ∙ sym ((pointed-exactly s bs ok s.t).0 (inr (inr (refl, ltb-true _ _ e))))

  pub exhausted-not : exhausted s bs ≡ false → place_in s bs < s.t
  unfolding exhausted width_of
  exhausted-not e = lt_of_le-ne found-most (λ q. last ((pointed-exactly s bs ok s.t).1 (sym q ∙ found-behind)))
    where
      few : get_or (counts_of s) (s.t - 1) 0 ≤ zeros (groups_in (code_of s) bs)
      few = ltb-false (zeros (groups_in (code_of s) bs)) (get_or (counts_of s) (s.t - 1) 0) e

      last : Points s bs s.t → ⊥
      last (inl (one, _)) = omega (arith, one, (bounded s ok).t-low)
      last (inr (inl (_, below, _, _))) = omega arith
      last (inr (inr (_, above))) = omega (arith, few, above)

  -- of cells without a reading it stands behind the generation that they tell
  pub found-unread : (r : Reading) → field_read s bs ≡ r → has_reading r ≡ false → (place_in s bs ≡ generation r) × (1 ≤ generation r)
  unfolding has_reading generation
  found-unread blank q u = absurd (true≢false u)
  found-unread (reads i y) q u = absurd (true≢false u)
  found-unread (miscounted i u) q _ = let told = miscounted-cells s bs i u q in (found-behind ∙ sym told.1, omega (arith, told.2))
  found-unread (beyond i) q u = let told = beyond-cells s bs i q in (found-behind ∙ sym told.1, omega (arith, told.1))

  -- the cells of the groups that an accepted call leaves give these groups back
  pub resumed-opened : (x : ℕ) → has_reading (field_read s bs) ≡ false → place_in s bs < s.t → x < get_or (ranges_of s) (place_in s bs) 0 →
      groups_in (code_of s) (stored (order_of s) s.m (resumed_groups s x bs)) ≡ resumed_groups s x bs
  unfolding field_read read_cells
  resumed-opened x u h g =
      let c = code_of s in
      let gs = groups_in c bs in
      let long = groups-length s.m (width c) (wit (order_of s) bs) in
      let w = resume-taken c x gs u (omega (arith, counts-length s ok)) g in
      let a = resume-is c (is-layout s ok) x gs (suc (place_in s bs)) (resumed_groups s x bs) w long in
      (buffer c (is-layout s ok) (omega (arith, (bounded s ok).m-low)) (resumed_groups s x bs) (a.long ∙ long) a.small).back
