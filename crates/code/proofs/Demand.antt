-- The three demands of the calls' replies, for every shape.
use Prim.Native.Nat.{ℕ, zero, suc, ◌+◌, ◌-◌, ◌^◌, ◌≤◌, ◌<◌}
use mathlib.Core.Path.{◌≡◌, refl, sym, ap, ◌∙◌}
use mathlib.Core.Logic.{inl, inr}
use mathlib.Core.Bool.{true, false, true≢false}
use mathlib.Core.List.{List, [], ◌∷◌}
use native.Mathlib.Omega.{arith}
use native.Mathlib.Nat.{le_refl, zero-add, sub-zero}
use lib.ListN.{length, get_or, take, replicate, length-replicate}
use lib.Dec.{leb}
use borrow.Author.Tests.{ltb-false, lt-ltb, le-ltb, ne_eqb}
use Rattle.code.specs.declared.Shape.{Shape}
use Rattle.code.specs.Shape.{first_of, ranges_of, order_of, outside, granted, misfit, counts_of, width_of, code_of}
use Rattle.code.specs.Lists.{Below, Rises}
use Rattle.code.specs.Layout.{Meets, grant}
use Rattle.code.specs.Cells.{wit, opened, sound, stored, size, ones, turned}
use Rattle.code.specs.Deal.{written}
use Rattle.code.specs.Code.{told}
use Rattle.code.specs.Field.{blank, Writing, refused, wrote}
use Rattle.code.specs.Judge.{Due}
use Rattle.code.specs.Run.{kept, run, total, opening_zeros}
use Rattle.code.proofs.Run.{accepted}
use Rattle.code.specs.Calls.{read_cells, numberless, refusal, answer, passes, leaves, layout_refusal, field_read, field_write, left, read_reply, write_refusal, made_at, write_reply, turned_by, write_leaves, generation_in}
use Rattle.code.specs.Export.{Exporting, export_refusal, export_leaves}
use Rattle.code.proofs.Tests.{le-or-lt, clash}
use Rattle.code.proofs.Wits.{Bytes}
use Rattle.code.proofs.Cells.{groups-length, sound-told, stored-opened, stored-sound, upto_all, none-at, blank-stored, turned_ones}
use Rattle.code.proofs.Field.{read-blank, blank-read}
use Rattle.code.proofs.Grant.{grant-meets, grant-least, grant-refused}
use Rattle.code.proofs.Run.{InRange, equal-range, listed-range, blank-written, run-same, total-same}
use Rattle.code.proofs.Bytes.{accepted-is, tried_cells, turns, tried-is, turned-blank, accepts-from}
use Rattle.code.proofs.LayoutCall.{first-new, outside-within, within-outside, layout-none, ranges-length, counts-length, bounded, is-layout}
use Rattle.code.proofs.ReadCall.{read_none, read_as_lem, eleven-told}
use Rattle.code.proofs.WriteCall.{write-some, refused-not, leaves-is}

-- the blank cells of a field
abbrev pub blank_cells : Shape → List ℕ
blank_cells s = replicate (size s.m (width_of s)) 0

none_written : (gs : List ℕ) → written gs ≡ 0 → gs ≡ replicate (length gs) 0
unfolding written
none_written [] z = refl
none_written (zero ∷ gs) z = ap (◌∷◌ 0) (none_written gs z)
none_written (suc x ∷ gs) z = absurd (omega arith)

-- the cells that a write of x leaves by the rules
abbrev ruled : Shape → ℕ → List ℕ → List ℕ
ruled s = tried_cells (code_of s)

module _ (s : Shape) (ok : layout_refusal s 256 ≡ []) where
  some : 0 < s.m
  some = omega (arith, (bounded s ok).m-low)

  -- After an accepted write reading gives the generation answered and the number just written.
  pub reads-back : (x : ℕ) (bs : List ℕ) → Bytes bs → write_refusal s x bs ≡ [] →
      let i = generation_in (write_reply s x bs) in
      let after = write_leaves s x bs in
      read_reply s after ≡ 0 ∷ i ∷ x ∷ left s.t (field_read s after) ∷ []
  unfolding write_reply answer made_at field_write field_read tried_cells kept accepted passes width_of
  reads-back x bs B z = rw (z, leaves-is s ok x bs) (go (field_write s x bs) refl)
    where
      go : (w : Writing) → field_write s x bs ≡ w → read_reply s (kept bs w) ≡ 0 ∷ made_at w ∷ x ∷ left s.t (field_read s (kept bs w)) ∷ []
      go refused q = absurd (true≢false (rw (z, q) at (refused-not s ok x bs)))
      go (wrote i bs') q =
          let a = accepted-is (code_of s) (is-layout s ok) some x bs i bs' B q in
          read_as_lem s bs' ok a.right i x a.reading

  -- No write turns a 1 back to 0, refused or not.
  pub never-falls : (x : ℕ) (bs : List ℕ) (w : ℕ) → Bytes bs → wit (order_of s) bs w ≤ wit (order_of s) (write_leaves s x bs) w
  never-falls x bs w B = rw (leaves-is s ok x bs) ((tried-is (code_of s) (is-layout s ok) some x bs B).2 w)

  -- The turned count answered is the ones after less the ones before, 0 being answered for a refused write.
  answered : (x : ℕ) (bs : List ℕ) → turned_by (write_reply s x bs) ≡ turned (order_of s) bs (ruled s x bs)
  unfolding write_reply tried_cells field_write answer kept accepted passes turned_by
  answered x bs = go (write_refusal s x bs) refl (field_write s x bs) (refused-not s ok x bs)
    where
      none : turned (order_of s) bs bs ≡ 0
      none = omega (arith, turned_ones (order_of s) bs bs refl (λ w. le_refl (wit (order_of s) bs w)))

      go : (r : List ℕ) → write_refusal s x bs ≡ r → (w : Writing) → passes r ≡ accepted w →
          turned_by (answer r (made_at w ∷ turned (order_of s) bs (kept bs w) ∷ [])) ≡ turned (order_of s) bs (kept bs w)
      go [] e w q = refl
      go (k ∷ carried) e refused q = rw (none, ne_eqb k 0 (λ z. omega (arith, write-some s x bs k carried e)))
      go (k ∷ carried) e (wrote i bs') q = absurd (true≢false (sym q))

  pub turned-are : (x : ℕ) (bs : List ℕ) → Bytes bs → turned_by (write_reply s x bs) + ones (order_of s) bs ≡ ones (order_of s) (write_leaves s x bs)
  turned-are x bs B =
      rw (answered x bs, leaves-is s ok x bs) (tried-is (code_of s) (is-layout s ok) some x bs B).1

  -- Over any run of writes from blank cells the turned counts add up to the number of ones in the cells.
  pub turned-add-up : (xs : List ℕ) →
      total (λ x bs. turned_by (write_reply s x bs)) (write_leaves s) (blank_cells s) xs ≡ ones (order_of s) (run (write_leaves s) (blank_cells s) xs)
  unfolding width_of
  turned-add-up xs =
      total-same (write_leaves s) (ruled s) (leaves-is s ok) (λ x bs. turned_by (write_reply s x bs)) (turns (code_of s)) answered
      (blank_cells s) xs
      ∙ turned-blank (code_of s) (is-layout s ok) some xs
      ∙ ap (ones (order_of s)) (sym (run-same (write_leaves s) (ruled s) (leaves-is s ok) (blank_cells s) xs))

  -- From any sound cells that have a reading, where k generations stand before the one that is due: write j + 1 of a sequence in range, each number below the range
  -- of the generation that would take it if any would, is accepted exactly when k + j + 1 is at most t, less the zeros that open the sequence on blank cells.
  pub accepted-from : (start : List ℕ) → Bytes start → sound (order_of s) s.m (width_of s) start ≡ true → (k : ℕ) → Due (field_read s start) k →
      (xs : List ℕ) (j : ℕ) → InRange (first_of s) (ranges_of s) k xs → j < length xs →
      passes (write_refusal s (get_or xs j 0) (run (write_leaves s) start (take j xs))) ≡ leb (k + (suc j - opening_zeros (k + first_of s) xs)) s.t
  unfolding field_read field_write width_of
  accepted-from start B f k d xs j r l =
      refused-not s ok (get_or xs j 0) (run (write_leaves s) start (take j xs))
      ∙ rw (run-same (write_leaves s) (ruled s) (leaves-is s ok) start (take j xs))
      (rw (counts-length s ok) at (accepts-from (code_of s) (is-layout s ok) some k start B f d xs j r l))

  pub blank-sound : (sound (order_of s) s.m (width_of s) (blank_cells s) ≡ true) × (opened (order_of s) s.m (width_of s) (blank_cells s) ≡ replicate (width_of s) 0)
  blank-sound =
      let h = width_of s in
      let l = length-replicate {A = ℕ} h 0 in
      let right = rw l at (stored-sound (order_of s) s.m (replicate h 0) some) in
      let back = rw l at (stored-opened (order_of s) s.m (replicate h 0) some (upto_all (2 ^ s.m - 1) (replicate h 0) (λ i u. omega (arith, none-at h i)))) in
      rw (← blank-stored (order_of s) s.m h some) (right, back)

  pub blank-reads : field_read s (blank_cells s) ≡ blank
  unfolding field_read read_cells width_of
  blank-reads = read-blank (code_of s) (opened (order_of s) s.m (width_of s) (blank_cells s)) (rw blank-sound.1 (blank-written (width_of s)))

  -- From blank cells and for any sequence of numbers in range the j-th write is accepted exactly when j less the zeros that open the sequence is at most t.
  pub accepted-ranged : (xs : List ℕ) (j : ℕ) → InRange (first_of s) (ranges_of s) 0 xs → j < length xs →
      passes (write_refusal s (get_or xs j 0) (run (write_leaves s) (blank_cells s) (take j xs))) ≡ leb (suc j - opening_zeros (first_of s) xs) s.t
  accepted-ranged xs j r l =
      let n = size s.m (width_of s) in
      let none : Due (field_read s (blank_cells s)) 0 = rw blank-reads refl in
      let same : 0 + (suc j - opening_zeros (0 + first_of s) xs) ≡ suc j - opening_zeros (first_of s) xs = rw (zero-add (first_of s), zero-add) in
      accepted-from (blank_cells s) (λ i l. omega (arith, none-at n i)) blank-sound.0 0 none xs j r l ∙ rw same

  -- of the forms that have one v: every number is below it
  pub accepted-exactly : (s.form ≡ 2 → ⊥) → (xs : List ℕ) (j : ℕ) → Below (get_or s.v 0 0) xs → j < length xs →
      passes (write_refusal s (get_or xs j 0) (run (write_leaves s) (blank_cells s) (take j xs))) ≡ leb (suc j - opening_zeros (first_of s) xs) s.t
  unfolding ranges_of
  accepted-exactly one xs j b l =
      let r : InRange (first_of s) (ranges_of s) 0 xs = rw (ne_eqb s.form 2 one) (equal-range (first_of s) s.t (get_or s.v 0 0) 0 xs b) in
      accepted-ranged xs j r l

  -- 02, §2, of a new drive: "the j-th write is accepted exactly when j ≤ t"
  pub accepted-new : s.form ≡ 1 → (xs : List ℕ) (j : ℕ) → Below (get_or s.v 0 0) xs → j < length xs →
      passes (write_refusal s (get_or xs j 0) (run (write_leaves s) (blank_cells s) (take j xs))) ≡ leb (suc j) s.t
  unfolding opening_zeros
  accepted-new new xs j b l = accepted-exactly (λ two. omega arith) xs j b l ∙ rw (first-new s (omega arith), sub-zero)

  -- 02, §7, of a range for each generation: "below the range of the generation that would take it, or none would"; "exactly when j ≤ t, as in form 1"
  pub accepted-listed : s.form ≡ 2 → (xs : List ℕ) (j : ℕ) → ((k : ℕ) → k < length xs → k < s.t → get_or xs k 0 < get_or (ranges_of s) k 0) → j < length xs →
      passes (write_refusal s (get_or xs j 0) (run (write_leaves s) (blank_cells s) (take j xs))) ≡ leb (suc j) s.t
  unfolding opening_zeros
  accepted-listed two xs j f l =
      let one = first-new s (omega arith) in
      let n = ranges-length s (bounded s ok) in
      let r = listed-range (ranges_of s) 0 xs (omega arith) (λ k h g. rw (zero-add k) (f k h (omega (arith, n)))) in
      accepted-ranged xs j (rw one r) l ∙ rw (one, sub-zero)

  -- 02, §2: "reading blank form 1 cells gives 11", in form 2 too, and no other cells
  pub blank-refused : 0 < s.form → read_reply s (blank_cells s) ≡ 11 ∷ []
  unfolding numberless
  blank-refused new = read_none s (blank_cells s) ok blank-sound.0 (rw (blank-reads, ne_eqb s.form 0 (λ z. omega arith)))

  pub refused-blank : (bs : List ℕ) → Bytes bs → read_reply s bs ≡ 11 ∷ [] → (0 < s.form) × (bs ≡ blank_cells s)
  unfolding field_read read_cells width_of
  refused-blank bs B e =
      let n = eleven-told s bs ok e in
      let h = width_of s in
      let groups = opened (order_of s) s.m h bs in
      let none = blank-read (code_of s) groups n.2 in
      let zero : groups ≡ replicate h 0 = rw (groups-length s.m h (wit (order_of s) bs)) at (none_written groups none) in
      let told = sound-told (order_of s) s.m h bs n.1 B some in
      (omega (arith, n.0), sym told ∙ ap (stored (order_of s) s.m) zero ∙ blank-stored (order_of s) s.m h some)

-- Demand 3, first half: the granted list meets a to d within g and is count for count at most every list that meets them.
pub layout-granted : (s : Shape) (g : ℕ) → layout_refusal s g ≡ [] →
    Meets s.m (first_of s) (granted s g) (ranges_of s) × (get_or (granted s g) 0 0 ≤ g)
    × ((hs : List ℕ) → Meets s.m (first_of s) hs (ranges_of s) → Rises (granted s g) hs)
unfolding granted misfit
layout-granted s g ok =
    let n = layout-none s g ok in
    let vs = ranges_of s in
    let t2 : 2 ≤ length vs = omega (arith, (outside-within s g n.0).bounds.t-low, ranges-length s (outside-within s g n.0).bounds) in
    let f : get_or (grant g s.m (first_of s) vs) 0 0 ≤ g = ltb-false g (get_or (grant g s.m (first_of s) vs) 0 0) n.1 in
    (grant-meets g s.m (first_of s) vs t2 f, f, λ hs y. (grant-least g s.m (first_of s) hs vs t2 y).0)

-- Within the bounds a layout is refused for want of groups exactly when no list that meets a to d fits.
pub layout-refused : (s : Shape) (g : ℕ) → outside s g ≡ false →
    (layout_refusal s g ≡ 2 ∷ [] → (hs : List ℕ) → Meets s.m (first_of s) hs (ranges_of s) → g < get_or hs 0 0)
    × (((hs : List ℕ) → Meets s.m (first_of s) hs (ranges_of s) → g < get_or hs 0 0) → layout_refusal s g ≡ 2 ∷ [])
unfolding layout_refusal refusal granted misfit
layout-refused s g w =
    let vs = ranges_of s in
    let t2 : 2 ≤ length vs = omega (arith, (outside-within s g w).bounds.t-low, ranges-length s (outside-within s g w).bounds) in
    elim (le-or-lt (get_or (grant g s.m (first_of s) vs) 0 0) g) [
      | inl f ↦
          rw (w, le-ltb g (get_or (grant g s.m (first_of s) vs) 0 0) f)
          (λ q. clash (cc), λ none. absurd (omega (arith, f, none (grant g s.m (first_of s) vs) (grant-meets g s.m (first_of s) vs t2 f))))
      | inr f ↦ rw (w, lt-ltb g (get_or (grant g s.m (first_of s) vs) 0 0) f) (λ q hs y. grant-refused g s.m (first_of s) hs vs t2 f y, λ none. refl)
    ]

rises-both : (xs ys : List ℕ) → Rises xs ys → Rises ys xs → xs ≡ ys
rises-both [] [] p q = refl
rises-both [] (y ∷ ys) p q = absurd p
rises-both (x ∷ xs) [] p q = absurd p
rises-both (x ∷ xs) (y ∷ ys) p q = let e : x ≡ y = omega (arith, p.0, q.0) in rw (e, rises-both xs ys p.1 q.1)

-- Demand 3's two halves speak of one list: what is granted at g is what read, write and export go by.
pub granted-anywhere : (s : Shape) (g : ℕ) → layout_refusal s g ≡ [] → (layout_refusal s 256 ≡ []) × (granted s g ≡ counts_of s)
unfolding counts_of
granted-anywhere s g ok =
    let w = outside-within s g (layout-none s g ok).0 in
    let a = layout-granted s g ok in
    let inside : outside s 256 ≡ false = within-outside s 256 (record { bounds = w.bounds; g-high = omega arith }) in
    let b = least-of (granted s g) a.0 in
    let fits : layout_refusal s 256 ≡ [] = open-refusal inside (omega (arith, b.1, a.1, w.g-high)) in
    (fits, rises-both (granted s g) (granted s 256) (a.2 (granted s 256) (layout-granted s 256 fits).0) b.0)
  where
    least-of : (hs : List ℕ) → Meets s.m (first_of s) hs (ranges_of s) → Rises (granted s 256) hs × (get_or (granted s 256) 0 0 ≤ get_or hs 0 0)
    least-of hs y = unfold granted in
        let b = (outside-within s g (layout-none s g ok).0).bounds in
        grant-least 256 s.m (first_of s) hs (ranges_of s) (omega (arith, b.t-low, ranges-length s b)) y

    open-refusal : outside s 256 ≡ false → get_or (granted s 256) 0 0 ≤ 256 → layout_refusal s 256 ≡ []
    open-refusal o f = unfold layout_refusal in unfold refusal in unfold misfit in rw (o, le-ltb 256 (get_or (granted s 256) 0 0) f)

-- Demand 1: a refused write leaves the cells as they were.
pub refused-write-keeps : (s : Shape) (x : ℕ) (bs : List ℕ) (k : ℕ) (carried : List ℕ) → write_refusal s x bs ≡ k ∷ carried → write_leaves s x bs ≡ bs
unfolding write_leaves leaves
refused-write-keeps s x bs k carried q = rw q

-- A refused export leaves the output as it was.
pub refused-export-keeps : (x : Exporting) (cells out : List ℕ) (k : ℕ) (carried : List ℕ) → export_refusal x cells out ≡ k ∷ carried → export_leaves x cells out ≡ out
unfolding export_leaves leaves
refused-export-keeps x cells out k carried q = rw q
