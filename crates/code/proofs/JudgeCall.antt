-- Document 02, §8, of the call: yes exactly where the before cells are sound and some choice makes the after cells a right write.
use Prim.Native.Nat.{ℕ, suc, ◌≤◌, ◌<◌}
use mathlib.Core.Path.{◌≡◌, refl, sym, ap, ◌∙◌}
use mathlib.Core.Bool.{Bool, true, false, true≢false}
use mathlib.Core.List.{List, [], ◌∷◌}
use native.Mathlib.Omega.{arith}
use lib.ListN.{length}
use borrow.Author.Tests.{not-false}
use Rattle.code.specs.declared.Shape.{Shape}
use Rattle.code.specs.Shape.{first_of, order_of, outside, misfit, granted, counts_of, width_of, code_of}
use Rattle.code.specs.Cells.{wit, sound}
use Rattle.code.specs.Code.{width, generation_at}
use Rattle.code.specs.Field.{Reading, blank, reads, miscounted, beyond, read, Writing, refused, wrote}
use Rattle.code.specs.Run.{kept}
use Rattle.code.proofs.Run.{accepted}
use Rattle.code.specs.Calls.{groups_in, refusal, answer, passes, layout_refusal, read_cells, write_cells, field_read, field_write, unsound, numberless, miscounts, exceeds, count_told, generation, read_refusal, write_refusal, write_leaves}
use Rattle.code.specs.Judge.{Due, Verdict, right, wrong}
use Rattle.code.specs.JudgeCall.{RightGroups, RightCells, judge_cells, judge_refusal, verdict_fields, judge_reply}
use Rattle.code.proofs.Tests.{clash}
use Rattle.code.proofs.Wits.{Bytes}
use Rattle.code.proofs.Field.{Tells}
use Rattle.code.proofs.Bytes.{tried_cells, storing-wrote}
use Rattle.code.proofs.LayoutCall.{passed, refusal-some, passed-early, first-old, bounded, range-within, counts-length, is-layout}
use Rattle.code.proofs.WriteCall.{refused-not, leaves-is}
use Rattle.code.proofs.Cells.{groups-length, opened-small}
use Rattle.code.proofs.Judge.{judges-right, right-judges, spent-wrong}
use Rattle.code.proofs.JudgeCells.{long-in, cells_right, right-cells, cells-rise, write-cells, right-tells}

yes-fields : (v : Verdict) (x : ℕ) → verdict_fields v ≡ 1 ∷ x ∷ [] → v ≡ right x
unfolding verdict_fields
yes-fields (right z) x h = let q : z ≡ x = cc in rw q refl
yes-fields wrong x h = clash (cc)

due-passes : (r : Reading) (n : ℕ) → Due r n → (miscounts r ≡ false) × (exceeds r ≡ false)
unfolding miscounts exceeds
due-passes blank n d = (refl, refl)
due-passes (reads i x) n d = (refl, refl)
due-passes (miscounted i u) n d = absurd d
due-passes (beyond i) n d = absurd d

tells-passes : (s : Shape) (r : Reading) (i x : ℕ) → Tells (first_of s) r i x → (numberless s r ≡ false) × (miscounts r ≡ false) × (exceeds r ≡ false)
unfolding numberless miscounts exceeds
tells-passes s blank i x t = (rw (first-old s t.0) refl, refl, refl)
tells-passes s (reads j k) i x t = (refl, refl, refl)
tells-passes s (miscounted j u) i x t = absurd t
tells-passes s (beyond j) i x t = absurd t

-- tests of a read without its 11, and others behind them
first-of : (a n b d : Bool) (A B : List ℕ) (tests : List (List ℕ × Bool)) (k : ℕ) (carried : List ℕ) → (k ≡ 11 → ⊥) →
    refusal ((3 ∷ [], a) ∷ (11 ∷ [], n) ∷ (A, b) ∷ (B, d) ∷ []) ≡ k ∷ carried → refusal ((3 ∷ [], a) ∷ (A, b) ∷ (B, d) ∷ tests) ≡ k ∷ carried
unfolding refusal
first-of true n b d A B tests k carried v h = h
first-of false true b d A B tests k carried v h = let q : 11 ≡ k = cc in absurd (v (sym q))
first-of false false true d A B tests k carried v h = h
first-of false false false true A B tests k carried v h = h
first-of false false false false A B tests k carried v h = clash (cc)

module _ (s : Shape) (ok : layout_refusal s 256 ≡ []) where
  abbrev whole : List ℕ → Bool
  whole bs = sound (order_of s) s.m (width_of s) bs

  wide : 0 < s.m
  wide = omega (arith, (bounded s ok).m-low)

  some : 0 < (generation_at (code_of s) 0).range
  some = omega (arith, (range-within s (bounded s ok) 0 (omega (arith, (bounded s ok).t-low))).0)

  module _ (before bs : List ℕ) where
    judge-tests : let r = field_read s before in let q = field_read s bs in judge_refusal s before bs ≡
        refusal ((3 ∷ [], unsound s before) ∷ (15 ∷ generation r ∷ count_told r ∷ [], miscounts r) ∷ (16 ∷ generation r ∷ [], exceeds r) ∷
        (3 ∷ [], unsound s bs) ∷ (11 ∷ [], numberless s q) ∷ (15 ∷ generation q ∷ count_told q ∷ [], miscounts q) ∷ (16 ∷ generation q ∷ [], exceeds q) ∷ [])
    unfolding judge_refusal layout_refusal counts_of
    judge-tests = passed-early (outside s 256) (misfit 256 (granted s 256)) _ ok

    -- both fields have passed: the verdict is answered
    pub judge-found : whole before ≡ true → (miscounts (field_read s before) ≡ false) × (exceeds (field_read s before) ≡ false) → whole bs ≡ true →
        (numberless s (field_read s bs) ≡ false) × (miscounts (field_read s bs) ≡ false) × (exceeds (field_read s bs) ≡ false) →
        judge_reply s before bs ≡ 0 ∷ verdict_fields (judge_cells (code_of s) before bs)
    unfolding judge_reply answer refusal unsound
    judge-found f d g t =
        let q : judge_refusal s before bs ≡ [] = judge-tests ∙ rw (f, d.0, d.1, g, t.0, t.1, t.2) refl in
        rw q refl

    none-refused : (values : List ℕ) → judge_reply s before bs ≡ 0 ∷ values →
        (judge_refusal s before bs ≡ []) × (verdict_fields (judge_cells (code_of s) before bs) ≡ values)
    unfolding judge_reply answer
    none-refused values e = go (judge_refusal s before bs) refl e
      where
        go : (r : List ℕ) → judge_refusal s before bs ≡ r → answer r (verdict_fields (judge_cells (code_of s) before bs)) ≡ 0 ∷ values →
            (judge_refusal s before bs ≡ []) × (verdict_fields (judge_cells (code_of s) before bs) ≡ values)
        go [] q h = (q, cc)
        go (k ∷ carried) q h =
            let z : k ≡ 0 = cc in
            absurd (omega (arith, refusal-some _ (omega arith, (omega arith, (omega arith, (omega arith, (omega arith, (omega arith, (omega arith, tt))))))) k carried (sym judge-tests ∙ q)))

    -- Of the groups of both: yes with x, then some choice makes a right write of x; no, then none makes one of any number.
    pub yes-chosen : (x : ℕ) → judge_reply s before bs ≡ 0 ∷ 1 ∷ x ∷ [] → RightGroups (code_of s) before x bs
    unfolding judge_cells
    yes-chosen x e =
        let c = code_of s in
        let v = yes-fields (judge_cells c before bs) x (none-refused (1 ∷ x ∷ []) e).1 in
        judges-right c (is-layout s ok) some (groups_in c before) (groups_in c bs) (long-in c (is-layout s ok) wide before) (long-in c (is-layout s ok) wide bs)
        (opened-small c.order c.m (width c) bs) x v

    pub no-choice : judge_reply s before bs ≡ 0 ∷ 0 ∷ 0 ∷ [] → (x : ℕ) → RightGroups (code_of s) before x bs → ⊥
    unfolding judge_cells verdict_fields
    no-choice e x r =
        let c = code_of s in
        let n = none-refused (0 ∷ 0 ∷ []) e in
        let q = ap verdict_fields (right-judges c (is-layout s ok) (groups_in c before) x (groups_in c bs) (long-in c (is-layout s ok) wide before) r) in
        clash (cc)

    -- Answered yes with x, then the before cells are sound and some choice makes the after cells a right write of x.
    pub yes-right : (x : ℕ) → Bytes bs → judge_reply s before bs ≡ 0 ∷ 1 ∷ x ∷ [] → (whole before ≡ true) × RightCells (code_of s) before x bs
    unfolding unsound width_of
    yes-right x B e =
        let n = none-refused (1 ∷ x ∷ []) e in
        let a = passed 3 [] _ _ (sym judge-tests ∙ n.0) in
        let b = passed _ _ _ _ a.1 in
        let d = passed _ _ _ _ b.1 in
        let f = passed 3 [] _ _ d.1 in
        let v = yes-fields (judge_cells (code_of s) before bs) x n.1 in
        (not-false (whole before) a.0, cells_right (code_of s) (is-layout s ok) wide some before x bs B (not-false (whole bs) f.0) v)

    -- And the other way.
    pub right-yes : (x : ℕ) → whole before ≡ true → RightCells (code_of s) before x bs → judge_reply s before bs ≡ 0 ∷ 1 ∷ x ∷ []
    unfolding field_read read_cells verdict_fields width_of
    right-yes x f r =
        let y = is-layout s ok in
        let q = right-cells (code_of s) y wide before x bs r in
        let t = right-tells (code_of s) y wide before x bs r in
        let a = judge-found f (due-passes (field_read s before) r.rightly.place r.rightly.due) q.1
        (tells-passes s (field_read s bs) (suc r.rightly.place) x t) in
        a ∙ rw q.0 refl

    -- no 1 became 0 follows from a yes
    pub yes-rises : (x : ℕ) → Bytes before → Bytes bs → judge_reply s before bs ≡ 0 ∷ 1 ∷ x ∷ [] → (w : ℕ) → wit (order_of s) before w ≤ wit (order_of s) bs w
    unfolding width_of
    yes-rises x A B e w =
        let q = yes-right x B e in
        cells-rise (code_of s) (is-layout s ok) wide before x bs A q.0 q.1 w

    -- Answered no, both fields have passed the refusals and no choice makes the after cells a right write of any number.
    pub no_none : (x : ℕ) → judge_reply s before bs ≡ 0 ∷ 0 ∷ 0 ∷ [] → RightCells (code_of s) before x bs → ⊥
    unfolding verdict_fields
    no_none x e r =
        let n = none-refused (0 ∷ 0 ∷ []) e in
        let q = ap verdict_fields (right-cells (code_of s) (is-layout s ok) wide before x bs r).0 in
        clash (cc)

  -- What an accepted write leaves is judged yes with its number.
  pub write-yes : (x : ℕ) (bs : List ℕ) → write_refusal s x bs ≡ [] → judge_reply s bs (write_leaves s x bs) ≡ 0 ∷ 1 ∷ x ∷ []
  unfolding field_write tried_cells kept accepted passes width_of write_cells
  write-yes x bs z = rw (leaves-is s ok x bs) (go (field_write s x bs) refl)
    where
      go : (w : Writing) → field_write s x bs ≡ w → judge_reply s bs (kept bs w) ≡ 0 ∷ 1 ∷ x ∷ []
      go refused q = absurd (true≢false (rw (z, q) at (refused-not s ok x bs)))
      go (wrote i bs') q =
          let t = storing-wrote (order_of s) s.m (whole bs) _ i bs' q in
          right-yes bs bs' x t.0 (write-cells (code_of s) (is-layout s ok) wide x bs i bs' q)

  -- Spent cells: no, once both fields have passed.
  pub spent-no : (before bs : List ℕ) (k : ℕ) → whole before ≡ true → field_read s before ≡ reads s.t k → whole bs ≡ true →
      (numberless s (field_read s bs) ≡ false) × (miscounts (field_read s bs) ≡ false) × (exceeds (field_read s bs) ≡ false) →
      judge_reply s before bs ≡ 0 ∷ 0 ∷ 0 ∷ []
  unfolding field_read read_cells judge_cells verdict_fields miscounts exceeds
  spent-no before bs k f q g t =
      let c = code_of s in
      let n = counts-length s ok in
      let d : read c (groups_in c before) ≡ reads (length c.counts) k = q ∙ rw n refl in
      let v = spent-wrong c (is-layout s ok) some (groups_in c before) (groups_in c bs) (groups-length s.m (width c) (wit (order_of s) before))
      (groups-length s.m (width c) (wit (order_of s) bs)) (opened-small (order_of s) s.m (width c) bs) k d in
      judge-found before bs f (rw q refl, rw q refl) g t ∙ rw v refl

  -- The refusals are those of a read: of the before cells first, except that blank ones never give 11; then of the after cells.
  read-tests : (bs : List ℕ) → let r = field_read s bs in read_refusal s bs ≡
      refusal ((3 ∷ [], unsound s bs) ∷ (11 ∷ [], numberless s r) ∷ (15 ∷ generation r ∷ count_told r ∷ [], miscounts r) ∷ (16 ∷ generation r ∷ [], exceeds r) ∷ [])
  unfolding read_refusal layout_refusal counts_of
  read-tests bs = passed-early (outside s 256) (misfit 256 (granted s 256)) _ ok

  pub before-refused : (before bs : List ℕ) (k : ℕ) (carried : List ℕ) → (k ≡ 11 → ⊥) → read_refusal s before ≡ k ∷ carried → judge_reply s before bs ≡ k ∷ carried
  unfolding judge_reply answer
  before-refused before bs k carried v e =
      let r = field_read s before in
      let q = judge-tests before bs ∙ first-of (unsound s before) (numberless s r) (miscounts r) (exceeds r) (15 ∷ generation r ∷ count_told r ∷ [])
      (16 ∷ generation r ∷ []) _ k carried v (sym (read-tests before) ∙ e) in
      rw q refl

  pub after-refused : (before bs : List ℕ) → whole before ≡ true → (miscounts (field_read s before) ≡ false) × (exceeds (field_read s before) ≡ false) →
      judge_refusal s before bs ≡ read_refusal s bs
  unfolding refusal unsound
  after-refused before bs f d = judge-tests before bs ∙ rw (f, d.0, d.1) (sym (read-tests bs))
