-- Document 02, §7: "Equal ranges must equal form 1 but for the order of refusals."
use Prim.Native.Nat.{ℕ, zero, suc, ◌^◌, ◌≤◌, ◌<◌}
use mathlib.Core.Path.{◌≡◌, refl, sym, ap, ◌∙◌}
use mathlib.Core.Logic.{◌⊎◌, inl, inr}
use mathlib.Core.Bool.{Bool, true, false, true≢false, ◌&&◌}
use mathlib.Core.List.{List, [], ◌∷◌}
use native.Mathlib.Omega.{arith}
use native.Mathlib.Decide.{ℕ_discrete}
use lib.Arith.{lt_of_le-ne}
use lib.Dec.{leb}
use lib.ListN.{get_or, replicate, length-replicate, get_or-replicate}
use lib.Seq.{ext_get_or}
use borrow.Author.Tests.{le-leb, lt-leb, eq-eqb, ne_eqb}
use Rattle.code.specs.declared.Shape.{Shape}
use Rattle.code.specs.Shape.{single, ranges_due, given, ranges_of, order_of, all_ranges, outside, width_of}
use Rattle.code.specs.Cells.{listed, sound, opened, turned}
use Rattle.code.specs.Field.{Reading, blank, reads, miscounted, beyond}
use Rattle.code.specs.Run.{kept}
use Rattle.code.proofs.Run.{accepted}
use Rattle.code.specs.Calls.{read_cells, answer, passes, leaves, layout_refusal, layout_reply, field_read, field_write, miscounts, exceeds, spent, taker, over_range, read_reply, refusal_in}
use Rattle.code.specs.Calls.{write_refusal, made_at, write_reply, write_leaves}
use Rattle.code.proofs.Tests.{le-or-lt, and-true, and-false}
use Rattle.code.proofs.SameCode as Code
use Rattle.code.proofs.SameCode.{SameCode}
use Rattle.code.proofs.LayoutCall.{given-length, given-at, range-single, bounded}
use Rattle.code.proofs.WriteCall.{write-barred, none-refused, first-write, next-write, write-made, write-unsound, write-large, write-miscounted, write-beyond, write-spent, write-late, read-most, refused-not}

-- the refusals that a write of form 2 tests before 6
abbrev pub Later : ℕ → Type 0
Later k = (k ≡ 15) ⊎ ((k ≡ 16) ⊎ (k ≡ 5))

-- a reply of form 2 and one of form 1: they are the same, or form 1 answers 6 where form 2 has looked at the cells and answers one of these
abbrev pub SameOrLater : List ℕ → List ℕ → Type 0
SameOrLater reply other = (reply ≡ other) ⊎ ((other ≡ 6 ∷ []) × Later (refusal_in reply))

-- a shape of form 2 whose t ranges are all v, and the one of form 1 with that range
module _ (s : Shape) (v : ℕ) (two : s.form ≡ 2) (many : s.count ≡ s.t) (all : (i : ℕ) → i < s.t → get_or s.v i 0 ≡ v) where
  abbrev pub one : Shape
  one = single 1 s.m s.t v

  given-equal : given s ≡ replicate s.t v
  given-equal =
      ext_get_or 0 (given s) (replicate s.t v) (given-length s ∙ many ∙ sym (length-replicate s.t v)) (λ i l.
      let h : i < s.t = omega (arith, given-length s) in
      given-at s i (omega arith) ∙ all i h ∙ sym (get_or-replicate s.t i v 0 h))

  pub ranges-same : ranges_of s ≡ ranges_of one
  unfolding ranges_of
  ranges-same = rw (eq-eqb s.form 2 two) given-equal

  within_same : (t : ℕ) → 0 < t → all_ranges (replicate t v) ≡ (leb 2 v && leb v (2 ^ 56))
  unfolding all_ranges
  within_same zero h = absurd (omega arith)
  within_same (suc zero) h = and-true _
  within_same (suc (suc t)) h = rw (within_same (suc t) (omega arith)) (twice (leb 2 v && leb v (2 ^ 56)))
    where
      twice : (b : Bool) → (b && b) ≡ b
      twice true = refl
      twice false = refl

  one-within : all_ranges (given one) ≡ (leb 2 v && leb v (2 ^ 56))
  unfolding all_ranges given listed
  one-within = and-true _

  due-same : ranges_due s.form s.t ≡ s.t
  unfolding ranges_due
  due-same = rw (eq-eqb s.form 2 two)

  outside-same : (g : ℕ) → outside s g ≡ outside one g
  unfolding outside ranges_due
  outside-same g = elim (le-or-lt 2 s.t) [
    | inl h ↦
        rw (le-leb s.form 2 (omega arith), given-equal, within_same s.t (omega arith), one-within)
        (rw (eq-eqb s.count (ranges_due s.form s.t) (many ∙ sym due-same)))
    | inr h ↦ rw (le-leb s.form 2 (omega arith), lt-leb 2 s.t h, and-false)
  ]

  -- so both have one code
  pub one_code : SameCode s one
  one_code = record {
    m-same = refl;
    t_same = refl;
    blank-same = ne_eqb s.form 0 (λ z. omega arith);
    outside-same = outside-same;
    ranges-same = ranges-same;
  }

  -- the list granted, and the refusals
  pub layout-same : (g : ℕ) → layout_reply s g ≡ layout_reply one g
  layout-same = Code.layout-same s one one_code

  refusal-same : layout_refusal s 256 ≡ layout_refusal one 256
  refusal-same = Code.refusal-same s one one_code 256

  width_same : width_of s ≡ width_of one
  width_same = Code.width_same s one one_code

  field-same : (bs : List ℕ) → field_read s bs ≡ field_read one bs
  field-same = Code.field-same s one one_code

  -- the readings
  pub read_same : (bs : List ℕ) → read_reply s bs ≡ read_reply one bs
  read_same = Code.read_same s one one_code

  write_same : (x : ℕ) (bs : List ℕ) → field_write s x bs ≡ field_write one x bs
  write_same = Code.write_same s one one_code

  -- A write is accepted by both or by neither.
  pub passes_same : (x : ℕ) (bs : List ℕ) → passes (write_refusal s x bs) ≡ passes (write_refusal one x bs)
  passes_same x bs = go (layout_refusal one 256) refl
    where
      go : (r : List ℕ) → layout_refusal one 256 ≡ r → passes (write_refusal s x bs) ≡ passes (write_refusal one x bs)
      go [] ok = refused-not s (refusal-same ∙ ok) x bs ∙ ap accepted (write_same x bs) ∙ sym (refused-not one ok x bs)
      go (k ∷ carried) q = rw (write-barred s x bs k carried (refusal-same ∙ q), write-barred one x bs k carried q)

  -- the cells that a write leaves, refused or not
  pub leaves-same : (x : ℕ) (bs : List ℕ) → write_leaves s x bs ≡ write_leaves one x bs
  unfolding write_leaves leaves passes
  leaves-same x bs = rw (write_same x bs) (go (write_refusal s x bs) (write_refusal one x bs) (passes_same x bs))
    where
      go : (r q : List ℕ) → passes r ≡ passes q → leaves r (kept bs (field_write one x bs)) bs ≡ leaves q (kept bs (field_write one x bs)) bs
      go [] [] e = refl
      go [] (k ∷ carried) e = absurd (true≢false e)
      go (k ∷ carried) [] e = absurd (true≢false (sym e))
      go (k ∷ carried) (j ∷ more) e = refl

  -- The replies: they are the same, the turned counts among them, but where form 1 answers 6 before it looks at the cells.
  abbrev pub Alike : ℕ → List ℕ → Type 0
  Alike x bs = SameOrLater (write_reply s x bs) (write_reply one x bs)

  accepted-alike : (x : ℕ) (bs : List ℕ) → write_refusal one x bs ≡ [] → write_reply s x bs ≡ write_reply one x bs
  unfolding write_reply order_of passes
  accepted-alike x bs z = go (write_refusal s x bs) (passes_same x bs)
    where
      go : (r : List ℕ) → passes r ≡ passes (write_refusal one x bs) →
          answer r (made_at (field_write s x bs) ∷ turned (order_of s) bs (kept bs (field_write s x bs)) ∷ []) ≡ write_reply one x bs
      go [] e = rw (z, write_same x bs)
      go (k ∷ carried) e = absurd (true≢false (sym (e ∙ rw z)))

  over_none : (x : ℕ) → over_range s x ≡ false
  unfolding over_range
  over_none x = rw (eq-eqb s.form 2 two)

  over-one : (x : ℕ) (b : Bool) → leb v x ≡ b → over_range one x ≡ b
  unfolding over_range
  over-one x b q = q

  module _ (ok : layout_refusal one 256 ≡ []) (x : ℕ) (bs : List ℕ) (f : sound (order_of s) s.m (width_of one) bs ≡ true) where
    oks : layout_refusal s 256 ≡ []
    oks = refusal-same ∙ ok

    whole : sound (order_of s) s.m (width_of s) bs ≡ true
    whole = rw width_same f

    range-here : (n : ℕ) → n < s.t → (get_or (ranges_of s) n 0 ≡ v) × (get_or (ranges_of one) n 0 ≡ v)
    range-here n l =
        let b : get_or (ranges_of one) n 0 ≡ v = range-single one (bounded one ok) (λ z. absurd (omega arith)) n l in
        (ap (λ vs. get_or vs n 0) ranges-same ∙ b, b)

    some : 0 < s.t
    some = omega (arith, (bounded one ok).t-low)

    -- a number that is in range, by what the cells read as
    small : x < v → (r : Reading) → field_read one bs ≡ r → write_reply s x bs ≡ write_reply one x bs
    unfolding field_read read_cells taker miscounts exceeds spent width_of order_of
    small h blank q =
        let l = over-one x false (lt-leb v x h) in
        let in-range : x < get_or (ranges_of one) 0 0 = omega (arith, (range-here 0 some).1) in
        let w = first-write one ok x (opened (order_of one) s.m (width_of one) bs) q in-range in
        let made = write-made one x bs ok f l blank q refl refl refl _ _ in-range w.0 in
        accepted-alike x bs (none-refused one x bs _ made.0)
    small h (reads i y) q = elim (ℕ_discrete i s.t) [
      | yes e ↦
          (write-spent s x bs oks whole (over_none x) i y (field-same bs ∙ q) e).0 ∙ sym (write-spent one x bs ok f (over-one x false (lt-leb v x h)) i y q e).0
      | no d ↦
          let groups = opened (order_of one) s.m (width_of one) bs in
          let below : i < s.t = lt_of_le-ne (read-most one ok groups i y q) d in
          let in-range : x < get_or (ranges_of one) i 0 = omega (arith, (range-here i below).1) in
          let w = next-write one ok x i y groups in-range q below in
          let made = write-made one x bs ok f (over-one x false (lt-leb v x h)) (reads i y) q refl refl (ne_eqb i s.t d) _ _ in-range w.0 in
          accepted-alike x bs (none-refused one x bs _ made.0)
    ]
    small h (miscounted i u) q =
        (write-miscounted s x bs oks whole (over_none x) i u (field-same bs ∙ q)).0 ∙ sym (write-miscounted one x bs ok f (over-one x false (lt-leb v x h)) i u q).0
    small h (beyond i) q =
        (write-beyond s x bs oks whole (over_none x) i (field-same bs ∙ q)).0 ∙ sym (write-beyond one x bs ok f (over-one x false (lt-leb v x h)) i q).0

    -- one that is not: form 1 answers 6 at once
    module _ (h : v ≤ x) where
      six : write_reply one x bs ≡ 6 ∷ []
      unfolding order_of
      six = (write-large one x bs ok f (over-one x true (le-leb v x h))).0

      late : (r : Reading) → field_read one bs ≡ r → miscounts r ≡ false → exceeds r ≡ false → spent s.t r ≡ false → taker r < s.t → Alike x bs
      late r q c e p l =
          inl ((write-late s x bs oks whole (over_none x) r (field-same bs ∙ q) c e p l (omega (arith, (range-here (taker r) l).0))).0 ∙ sym six)

      large : (r : Reading) → field_read one bs ≡ r → Alike x bs
      unfolding miscounts exceeds spent taker
      large blank q = late blank q refl refl refl some
      large (reads i y) q = elim (ℕ_discrete i s.t) [
        | yes e ↦ inr (six, inr (inr (ap (λ l. get_or l 0 0) (write-spent s x bs oks whole (over_none x) i y (field-same bs ∙ q) e).0)))
        | no d ↦
            let groups = opened (order_of one) s.m (width_of one) bs in
            let below : i < s.t = lt_of_le-ne (read-most one ok groups i y (unfold field_read in unfold read_cells in unfold width_of in q)) d in
            late (reads i y) q refl refl (ne_eqb i s.t d) below
      ]
      large (miscounted i u) q = inr (six, inl (ap (λ l. get_or l 0 0) (write-miscounted s x bs oks whole (over_none x) i u (field-same bs ∙ q)).0))
      large (beyond i) q = inr (six, inr (inl (ap (λ l. get_or l 0 0) (write-beyond s x bs oks whole (over_none x) i (field-same bs ∙ q)).0)))

  -- without a layout or with unsound cells the replies are the same
  looked-at : (x : ℕ) (bs : List ℕ) (P : Type 0) → (write_reply s x bs ≡ write_reply one x bs → P) →
      (layout_refusal one 256 ≡ [] → sound (order_of s) s.m (width_of one) bs ≡ true → P) → P
  unfolding write_reply answer order_of
  looked-at x bs P same then = go (layout_refusal one 256) refl
    where
      passed : layout_refusal one 256 ≡ [] → (b : Bool) → sound (order_of s) s.m (width_of one) bs ≡ b → P
      passed ok true f = then ok f
      passed ok false f = same ((write-unsound s x bs (refusal-same ∙ ok) (rw width_same f)).0 ∙ sym (write-unsound one x bs ok f).0)

      go : (r : List ℕ) → layout_refusal one 256 ≡ r → P
      go [] ok = passed ok (sound (order_of s) s.m (width_of one) bs) refl
      go (k ∷ carried) q = same (rw (write-barred s x bs k carried (refusal-same ∙ q), write-barred one x bs k carried q))

  -- a write's reply is that of form 1 where the number is below the range
  pub reply-same : (x : ℕ) (bs : List ℕ) → x < v → write_reply s x bs ≡ write_reply one x bs
  reply-same x bs h = looked-at x bs (write_reply s x bs ≡ write_reply one x bs) (λ e. e) (λ ok f. small ok x bs f h (field_read one bs) refl)

  -- of any number it is, or form 1 answers 6 where form 2 has looked at the cells and answers 15, 16 or 5
  pub replies-alike : (x : ℕ) (bs : List ℕ) → Alike x bs
  replies-alike x bs = elim (le-or-lt v x) [
    | inl h ↦ looked-at x bs (Alike x bs) inl (λ ok f. large ok x bs f h (field_read one bs) refl)
    | inr h ↦ inl (reply-same x bs h)
  ]
