-- Document 02, §9, of the call's replies: a resumed field reads back and goes on as any written one; and every cut-off write can be resumed or is spent.
use Prim.Native.Nat.{ℕ, zero, suc, ◌+◌, ◌*◌, ◌-◌, ◌≤◌, ◌<◌}
use mathlib.Core.Path.{◌≡◌, refl, sym, ap, ◌∙◌}
use mathlib.Core.Logic.{◌⊎◌, inl, inr, ◌↔◌}
use mathlib.Core.Bool.{Bool, true, false, true≢false, cond}
use mathlib.Core.List.{List, [], ◌∷◌, Memᴰ}
use native.Mathlib.Omega.{arith}
use native.Mathlib.Decide.{ℕ_discrete}
use native.Mathlib.Nat.{le_refl, zero-add, sub-zero}
use lib.ListN.{length, get_or, take, drop}
use lib.Dec.{leb, ltb}
use borrow.Author.Tests.{not-false, eq-eqb, ne_eqb, ltb-true, lt-ltb, le-ltb}
use Rattle.code.specs.declared.Shape.{Shape}
use Rattle.code.specs.Shape.{first_of, ranges_of, order_of, counts_of, width_of, code_of}
use Rattle.code.specs.Cells.{wit, value, sound, stored, size, ones, turned}
use Rattle.code.specs.Field.{zeros, Reading, blank, reads, miscounted, beyond, has_reading, Writing, refused, wrote}
use Rattle.code.specs.Judge.{Due}
use Rattle.code.specs.Run.{kept, run}
use Rattle.code.specs.Calls.{groups_in, storing, read_cells, refusal, answer, passes, leaves, layout_refusal, field_read, unsound, numberless, miscounts, exceeds, over_range, over_place, generation, holds, left, read_reply, write_refusal, write_leaves, turned_by, refusal_in, generation_in, turned_in}
use Rattle.code.specs.Resume.{resume, resume_cells, fresh_groups, exhausted, over_found, resume_refusal, field_resume, resume_reply, resume_leaves}
use Rattle.code.specs.Code.{erased, width}
use Rattle.code.proofs.Tests.{le-or-lt}
use Rattle.code.proofs.Report.{Fresh, listed-exactly}
use Rattle.code.proofs.Wits.{Bytes}
use Rattle.code.proofs.Cells.{groups-length, sound-length, sound-past}
use Rattle.code.proofs.Numbers.{value_none}
use Rattle.code.proofs.Field.{Tells}
use Rattle.code.proofs.Run.{InRange, opening-none}
use Rattle.code.proofs.Bytes.{Accepted, made-is, storing-wrote}
use Rattle.code.proofs.LayoutCall.{bounded, counts-length, is-layout, passed}
use Rattle.code.proofs.ReadCall.{read-unsound, read_none, read-miscounted, read-beyond, read_found}
use Rattle.code.proofs.Demand.{accepted-from}
use Rattle.code.proofs.Resume.{resume-taken, resume-is, resumed-at, resumed-reads}
use Rattle.code.proofs.ResumeCall.{resume-some, place_in, found-behind, resumed_groups, resume-passed, resume-made, resume-last, exhausted-not}
use Rattle.code.proofs.WriteCall.{both-ranges}
use Rattle.code.proofs.Unread.{pointed}

module _ (s : Shape) (ok : layout_refusal s 256 ≡ []) (x : ℕ) (bs : List ℕ) where
  -- the generation that the call answers
  abbrev pub resumed_at : ℕ
  resumed_at = generation_in (resume_reply s x bs)

  -- No cell falls, and a refused call leaves all as they were.
  pub refused-resume-keeps : (k : ℕ) (carried : List ℕ) → resume_refusal s x bs ≡ k ∷ carried → resume_leaves s x bs ≡ bs
  unfolding resume_leaves leaves
  refused-resume-keeps k carried q = rw q

  module _ (z : resume_refusal s x bs ≡ []) where
    place : ℕ
    place = place_in s bs

    cells : List ℕ
    cells = stored (order_of s) s.m (resumed_groups s x bs)

    whole : sound (order_of s) s.m (width_of s) bs ≡ true
    unfolding unsound
    whole = not-false (sound (order_of s) s.m (width_of s) bs) (resume-passed s x bs ok z).0

    low : place < s.t
    unfolding place
    low = exhausted-not s ok bs (resume-passed s x bs ok z).3

    ranged : x < get_or (ranges_of s) place 0
    unfolding place over_found
    ranged =
        let p = resume-passed s x bs ok z in
        ltb-true x (get_or (ranges_of s) (place_in s bs) 0) (sym (both-ranges s ok x (place_in s bs) low) ∙ rw (p.1, p.4))

    made : (resume_reply s x bs ≡ 0 ∷ suc place ∷ turned (order_of s) bs cells ∷ length (fresh_groups (code_of s) bs cells) ∷ fresh_groups (code_of s) bs cells)
        × (resume_leaves s x bs ≡ cells)
    unfolding place cells
    made = let p = resume-passed s x bs ok z in resume-made s x bs ok whole p.1 p.2 p.3 low ranged

    -- the call on the buffer is that on its groups
    as-wrote : resume_cells (code_of s) x bs ≡ wrote (suc place) cells
    unfolding place cells resume_cells storing field_read read_cells width_of
    as-wrote =
        let u = (resume-passed s x bs ok z).2 in
        rw (whole, resume-taken (code_of s) x (groups_in (code_of s) bs) u (omega (arith, low, counts-length s ok)) ranged)

    module _ (B : Bytes bs) where
      left_is : Accepted (code_of s) x bs (suc place) cells
      unfolding resume_cells width_of
      left_is =
          let gs = groups_in (code_of s) bs in
          made-is (code_of s) (is-layout s ok) (omega (arith, (bounded s ok).m-low)) x bs (resume (code_of s) x gs) (suc place) cells
          (λ gs' w. resume-is (code_of s) (is-layout s ok) x gs (suc place) gs' w (groups-length s.m (width_of s) (wit (order_of s) bs))) as-wrote B

      -- 02, §9: the generation is the first from 2 on whose count is at most the zero groups left, which follows the one that the zero groups point to
      pub resumed-generation : (resumed_at ≡ suc (pointed s bs)) × (2 ≤ resumed_at) × (resumed_at ≤ s.t)
      unfolding place
      resumed-generation = rw made.0 (ap suc (found-behind s ok bs), omega (arith, found-behind s ok bs), low)

      reads_as : field_read s cells ≡ reads (suc place) x
      unfolding field_read
      reads_as = go (read_cells (code_of s) cells) refl left_is.reading
        where
          go : (r : Reading) → read_cells (code_of s) cells ≡ r → Tells (first_of s) r (suc place) x → r ≡ reads (suc place) x
          go blank q t = unfold place in absurd (omega (arith, t.1, found-behind s ok bs))
          go (reads j y) q t = rw (t.0, t.1)
          go (miscounted j u) q t = absurd t
          go (beyond j) q t = absurd t

      -- Reading gives that generation and the number just written, with as many writes left as there are generations behind it.
      pub reads-resumed : read_reply s (resume_leaves s x bs) ≡ 0 ∷ resumed_at ∷ x ∷ (s.t - resumed_at) ∷ []
      unfolding numberless miscounts exceeds generation holds left width_of
      reads-resumed = rw (made.0, made.1) (read_found s cells ok left_is.right (reads (suc place) x) reads_as refl refl refl)

      -- The groups listed are those all ones now and not before, and they are counted.
      pub lists-resumed : let listed = fresh_groups (code_of s) bs (resume_leaves s x bs) in
          resume_reply s x bs ≡ 0 ∷ resumed_at ∷ turned_in (resume_reply s x bs) ∷ length listed ∷ listed
      lists-resumed = rw (made.1, made.0)

      pub lists-exactly : (j : ℕ) → Memᴰ j (drop 4 (resume_reply s x bs))
          ↔ Fresh (erased (code_of s)) (groups_in (code_of s) bs) (groups_in (code_of s) (resume_leaves s x bs)) j
      unfolding fresh_groups
      lists-exactly j =
          let h = width (code_of s) in
          let long = groups-length s.m h (wit (order_of s) bs) ∙ sym (groups-length s.m h (wit (order_of s) cells)) in
          rw (made.1, made.0) (listed-exactly (erased (code_of s)) (groups_in (code_of s) bs) (groups_in (code_of s) cells) j long)

      -- The cells are sound and read as that generation, which stands before the one that is due.
      pub stands-resumed : let left = resume_leaves s x bs in
          Bytes left × (sound (order_of s) s.m (width_of s) left ≡ true) × Due (field_read s left) resumed_at
      unfolding width_of
      stands-resumed = rw (made.0, made.1) (left_is.bytes, left_is.right, rw reads_as refl)

      -- From there on write j + 1 of a sequence in range is accepted exactly when the generation and j + 1 are together at most t, zeros or not.
      pub goes_on : (xs : List ℕ) (j : ℕ) → InRange (first_of s) (ranges_of s) resumed_at xs → j < length xs →
          passes (write_refusal s (get_or xs j 0) (run (write_leaves s) (resume_leaves s x bs) (take j xs))) ≡ leb (resumed_at + suc j) s.t
      goes_on xs j r l =
          let stands = stands-resumed in
          let none = opening-none (resumed_at + first_of s) xs (omega (arith, resumed-generation.1)) in
          accepted-from s ok (resume_leaves s x bs) stands.0 stands.1 resumed_at stands.2 xs j r l ∙ rw (none, sub-zero)

  -- No 1 becomes 0, and the turned count is the ones after less the ones before, refused or not.
  module _ (B : Bytes bs) where
    pub resume-rises : (w : ℕ) → wit (order_of s) bs w ≤ wit (order_of s) (resume_leaves s x bs) w
    resume-rises w = go (resume_refusal s x bs) refl
      where
        go : (r : List ℕ) → resume_refusal s x bs ≡ r → wit (order_of s) bs w ≤ wit (order_of s) (resume_leaves s x bs) w
        go [] z = rw (made z).1 ((left_is z B).rises w)
        go (k ∷ carried) z = rw (refused-resume-keeps k carried z) (le_refl (wit (order_of s) bs w))

    pub turned-resumed : turned_by (resume_reply s x bs) + ones (order_of s) bs ≡ ones (order_of s) (resume_leaves s x bs)
    unfolding turned_by
    turned-resumed = go (resume_refusal s x bs) refl
      where
        go : (r : List ℕ) → resume_refusal s x bs ≡ r → turned_by (resume_reply s x bs) + ones (order_of s) bs ≡ ones (order_of s) (resume_leaves s x bs)
        go [] z = rw ((made z).0, (made z).1) (left_is z B).gained
        go (k ∷ carried) z =
            let refused : resume_reply s x bs ≡ k ∷ carried = unfold resume_reply in unfold answer in rw z in
            rw (refused-resume-keeps k carried z, refused, ne_eqb k 0 (λ q. omega (arith, resume-some s x bs k carried z))) (zero-add (ones (order_of s) bs))
