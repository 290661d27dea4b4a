-- What is answered for two fields, from what the functions have found.
use Prim.Native.Nat.{ℕ, zero, suc, ◌+◌, ◌*◌, ◌-◌, ◌^◌, ◌≤◌, ◌<◌}
use mathlib.Core.Path.{◌≡◌, refl, sym, ap, ap₂, ◌∙◌}
use mathlib.Core.Logic.{◌≢◌, inl, inr}
use mathlib.Core.Bool.{Bool, true, false, cond, ◌&&◌}
use mathlib.Core.List.{List, [], ◌∷◌, ◌++◌}
use native.Mathlib.Omega.{arith}
use lib.ListN.{length, replicate}
use lib.Dec.{eqb}
use borrow.Author.Tests.{eq-eqb, ne_eqb}
use Rattle.code.specs.declared.Shape.{Shape}
use Rattle.code.specs.Shape.{first_of, order_of, outside, granted, misfit, counts_of, width_of, code_of}
use Rattle.code.specs.Cells.{wit, opened, sound}
use Rattle.code.specs.Field as Field
use Rattle.code.specs.Calls.{groups_in, answer, layout_refusal, read_cells, field_read, numberless, miscounts, exceeds, read_refusal, read_reply, filled, layout_fields, layout_reply}
use Rattle.code.specs.Judge.{right, wrong, wipes, wiped, read_as, judge_at, judge_on, judges}
use Rattle.code.specs.JudgeCall.{judge_cells, judge_refusal, verdict_fields, judge_reply, judge_fields}
use native.Mathlib.Nat.{mul-le-mul_left, le_antisymm}
use lib.Pow.{pow_mono}
use Rattle.code.proofs.Tests.{le-or-lt, clash}
use Rattle.code.proofs.Cells.{groups-length}
use Rattle.code.proofs.ReadCall.{read-unsound, read_none, read-miscounted, read-beyond}
use Rattle.code.proofs.JudgeCall.{judge-found, yes-chosen, no-choice, before-refused, after-refused}
use Rattle.code.proofs.LayoutCall.{refused-early, layout-which}
use Rattle.code.proofs.WriteCall.{read-most}
use Rattle.std.specs.Prelude.{Option, Some, None, Result, Ok, Err}
use Rattle.code.specs.declared.Refusal.{Refusal}
use Rattle.code.specs.declared.RefusalFields.{RefusalFields}
use Rattle.code.specs.Refusals.{refusal_reply, number_of}
use Rattle.code.proofs.Refused.{refusal_fields_of, fields-told, numbered}
use Rattle.layout.proofs.Planning.{laid-number, laid-alone}
use Rattle.reading.specs.declared.Unreadable.{Unreadable}
use Rattle.reading.specs.declared.Unreadable.TheVariants.{Miscounted, Beyond}
use Rattle.words.specs.Words.{word_groups, front_groups}
use Rattle.words.specs.Marks.{Ends}
use Rattle.layout.specs.Plan.{Granted}
use Rattle.reading.specs.Answers.{refusal_for, SoundCells, field_groups, Holds, Looked}
use Rattle.judging.specs.Answers.{judged_of, Says, due_of, verdict_on, after_told}

pub wiped-later : (e n : ℕ) (xs ys : List ℕ) → n ≢ 0 → wipes e xs ys ≡ wiped e n xs ys
unfolding wiped
wiped-later e zero xs ys d = absurd (d refl)
wiped-later e (suc n) xs ys d = refl

-- the tests at a place, as they are answered
told-blank : (first n : ℕ) (w : Bool) → first ≡ 0 → (n ≡ 0 → w ≡ true) →
    0 ∷ verdict_fields (cond w (read_as first n Field.blank) wrong) ≡ cond (eqb n 0) (0 ∷ 1 ∷ 0 ∷ []) (0 ∷ 0 ∷ 0 ∷ [])
unfolding read_as verdict_fields
told-blank first zero w z t = rw (z, t refl)
told-blank first (suc n) true z t = rw (z, ne_eqb (suc n) 0 (λ q. absurd (omega arith)), ne_eqb (0 + suc n) 0 (λ q. absurd (omega arith)))
told-blank first (suc n) false z t = rw (ne_eqb (suc n) 0 (λ q. absurd (omega arith)))

told-number : (first n i x : ℕ) (w : Bool) →
    0 ∷ verdict_fields (cond w (read_as first n (Field.reads i x)) wrong) ≡ cond (w && eqb i (suc n)) (0 ∷ 1 ∷ x ∷ []) (0 ∷ 0 ∷ 0 ∷ [])
unfolding read_as verdict_fields
told-number first n i x false = refl
told-number first n i x true = go (eqb i (suc n))
  where
    go : (b : Bool) → 0 ∷ verdict_fields (cond b (right x) wrong) ≡ cond b (0 ∷ 1 ∷ x ∷ []) (0 ∷ 0 ∷ 0 ∷ [])
    go true = refl
    go false = refl

-- a reply that is refused tells its refusal
refused-told : (r values : List ℕ) (k : ℕ) (carried : List ℕ) → answer r values ≡ suc k ∷ carried → r ≡ suc k ∷ carried
unfolding answer
refused-told [] values k carried e = clash (cc)
refused-told (j ∷ js) values k carried e = e

read-refused : (s : Shape) (bs : List ℕ) (k : ℕ) (carried : List ℕ) → read_reply s bs ≡ suc k ∷ carried → read_refusal s bs ≡ suc k ∷ carried
unfolding read_reply
read-refused s bs k carried e = refused-told (read_refusal s bs) _ k carried e

module _ (s : Shape) (ok : layout_refusal s 256 ≡ []) (before bs : List ℕ) (f : SoundCells s before) where
  abbrev verdict : ℕ → List ℕ
  verdict n = verdict_fields (judge_at (code_of s) n (groups_in (code_of s) before) (groups_in (code_of s) bs))

  abbrev wiped_at : ℕ → Bool
  wiped_at n = wiped (2 ^ s.m - 1) n (groups_in (code_of s) before) (groups_in (code_of s) bs)

  first-old : eqb s.form 0 ≡ true → first_of s ≡ 0
  unfolding first_of
  first-old o = rw o

  wiped-first : (n : ℕ) → n ≡ 0 → wiped_at n ≡ true
  unfolding wiped
  wiped-first n z = rw z

  -- the before cells have passed, and a place is due: the after cells are refused as in a read, or told by the tests at that place
  module _ (passed : (miscounts (field_read s before) ≡ false) × (exceeds (field_read s before) ≡ false)) (n : ℕ)
      (due : judge_cells (code_of s) before bs ≡ judge_at (code_of s) n (groups_in (code_of s) before) (groups_in (code_of s) bs)) where
    as_read : (k : ℕ) (carried : List ℕ) → read_reply s bs ≡ suc k ∷ carried → judge_reply s before bs ≡ suc k ∷ carried
    unfolding judge_reply answer
    as_read k carried e = rw (after-refused s ok before bs f passed ∙ read-refused s bs k carried e)

    as-told : SoundCells s bs → (r : Field.Reading) → field_read s bs ≡ r → numberless s r ≡ false → miscounts r ≡ false → exceeds r ≡ false →
        judge_reply s before bs ≡ 0 ∷ verdict_fields (cond (wiped_at n) (read_as (first_of s) n r) wrong)
    unfolding judge_at field_read read_cells
    as-told g r e a b c =
        judge-found s ok before bs f passed g (rw e a, rw e b, rw e c) ∙ ap (λ v. 0 ∷ verdict_fields v) due ∙ rw e

    told-sound : SoundCells s bs → (r : Field.Reading) → field_read s bs ≡ r → judge_reply s before bs ≡ verdict_on s.form n (wiped_at n) r
    unfolding numberless miscounts exceeds
    told-sound g Field.blank e = go (eqb s.form 0) refl
      where
        go : (b : Bool) → eqb s.form 0 ≡ b → judge_reply s before bs ≡ verdict_on s.form n (wiped_at n) Field.blank
        go true o = rw o (as-told g Field.blank e (rw o) refl refl ∙ told-blank (first_of s) n (wiped_at n) (first-old o) (wiped-first n))
        go false o = rw o (as_read 10 [] (read_none s bs ok g (rw (e, o))))
    told-sound g (Field.reads i x) e = as-told g (Field.reads i x) e refl refl refl ∙ told-number (first_of s) n i x (wiped_at n)
    told-sound g (Field.miscounted i u) e = as_read 14 (i ∷ u ∷ []) (read-miscounted s bs ok g i u e)
    told-sound g (Field.beyond i) e = as_read 15 (i ∷ []) (read-beyond s bs ok g i e)

    told : judge_reply s before bs ≡ after_told s n (groups_in (code_of s) before) bs
    unfolding width_of
    told = go (sound (order_of s) s.m (width_of s) bs) refl
      where
        go : (b : Bool) → sound (order_of s) s.m (width_of s) bs ≡ b → judge_reply s before bs ≡ after_told s n (groups_in (code_of s) before) bs
        go true g = rw g (told-sound g (field_read s bs) refl)
        go false g = rw g (as_read 2 [] (read-unsound s bs ok g))

  on-blank : field_read s before ≡ Field.blank →
      judge_cells (code_of s) before bs ≡ judge_at (code_of s) 0 (groups_in (code_of s) before) (groups_in (code_of s) bs)
  unfolding judge_cells judges judge_on field_read read_cells
  on-blank e = rw e

  on-number : (i x : ℕ) → field_read s before ≡ Field.reads i x →
      judge_cells (code_of s) before bs ≡ judge_at (code_of s) i (groups_in (code_of s) before) (groups_in (code_of s) bs)
  unfolding judge_cells judges judge_on field_read read_cells
  on-number i x e = rw e

  pub due-told : (n : ℕ) → Ok n ≡ due_of (field_read s before) → judge_reply s before bs ≡ after_told s n (groups_in (code_of s) before) bs
  unfolding miscounts exceeds
  due-told n q = go (field_read s before) refl q
    where
      go : (r : Field.Reading) → field_read s before ≡ r → Ok n ≡ due_of r → judge_reply s before bs ≡ after_told s n (groups_in (code_of s) before) bs
      go Field.blank e q =
          let z : n ≡ 0 = cc in
          rw z (told (rw e, rw e) 0 (on-blank e))
      go (Field.reads i x) e q =
          let z : n ≡ i = cc in
          rw z (told (rw e, rw e) i (on-number i x e))
      go (Field.miscounted i u) e q = clash (cc)
      go (Field.beyond i) e q = clash (cc)

  -- the before cells are refused, as in a read
  pub due-refused : (k : Unreadable) → Err k ≡ due_of (field_read s before) → judge_reply s before bs ≡ refusal_reply (refusal_for k)
  unfolding numberless miscounts exceeds
  due-refused k q = go (field_read s before) refl q
    where
      go : (r : Field.Reading) → field_read s before ≡ r → Err k ≡ due_of r → judge_reply s before bs ≡ refusal_reply (refusal_for k)
      go Field.blank e q = clash (cc)
      go (Field.reads i x) e q = clash (cc)
      go (Field.miscounted i u) e q =
          let z : k ≡ Miscounted i u = cc in
          rw z (before-refused s ok before bs 15 (i ∷ u ∷ []) (λ w. absurd (omega arith)) (read-refused s before 14 (i ∷ u ∷ []) (read-miscounted s before ok f i u e)))
      go (Field.beyond i) e q =
          let z : k ≡ Beyond i = cc in
          rw z (before-refused s ok before bs 16 (i ∷ []) (λ w. absurd (omega arith)) (read-refused s before 15 (i ∷ []) (read-beyond s before ok f i e)))

-- groups of all ones behind both fields change nothing; f is 2^m − 2
wipes-padded : (f k : ℕ) (xs ys : List ℕ) → length xs ≡ length ys →
    wipes (suc f) (xs ++ replicate k (suc f)) (ys ++ replicate k (suc f)) ≡ wipes (suc f) xs ys
unfolding wipes
wipes-padded f zero [] [] l = refl
wipes-padded f (suc k) [] [] l = rw (eq-eqb (suc f) (suc f) refl) (wipes-padded f k [] [] l)
wipes-padded f k [] (y ∷ ys) l = absurd (omega arith)
wipes-padded f k (x ∷ xs) [] l = absurd (omega arith)
wipes-padded f k (zero ∷ xs) (y ∷ ys) l = wipes-padded f k xs ys (omega arith)
wipes-padded f k (suc x ∷ xs) (y ∷ ys) l = rw (wipes-padded f k xs ys (omega arith))

wiped-padded : (e n k : ℕ) (xs ys : List ℕ) → 0 < e → length xs ≡ length ys →
    wiped e n (xs ++ replicate k e) (ys ++ replicate k e) ≡ wiped e n xs ys
unfolding wiped
wiped-padded e zero k xs ys p l = refl
wiped-padded zero (suc n) k xs ys p l = absurd (omega arith)
wiped-padded (suc f) (suc n) k xs ys p l = wipes-padded f k xs ys l

-- a field takes as many words however it is looked at
ends_same : {m n k h : ℕ} → Ends m n h → Ends m k h → n ≤ k
ends_same {m} {n} {k} {h} A B = elim (le-or-lt n k) [
  | inl l ↦ l
  | inr l ↦ absurd (omega (arith, A.above, B.below, mul-le-mul_left {m = k} {n = n - 1} (word_groups m) (omega arith)))
]

module _ {s : Shape} {h : List ℕ} (G : Granted s h) {n : ℕ} {words : List ℕ} (H : Holds s.m (width_of s) n words) (place : ℕ) (after : List ℕ) where
  pub after-3 : sound (order_of s) s.m (width_of s) after ≡ false → 3 ∷ [] ≡ after_told s place (field_groups s n words) after
  after-3 q = rw q

  pub after-as : SoundCells s after → {now : List ℕ} {k z : ℕ} {r : Field.Reading} → Looked s after now k z r → (w : Bool) →
      w ≡ wiped (2 ^ s.m - 1) place (front_groups s.m k words) (front_groups s.m k now) →
      verdict_on s.form place w r ≡ after_told s place (field_groups s n words) after
  unfolding field_read read_cells width_of
  after-as sure {now} {k} {z} {r} K w q =
      let same : k ≡ n = le_antisymm (ends_same K.holds.ends H.ends) (ends_same H.ends K.holds.ends) in
      let e : ℕ = 2 ^ s.m - 1 in
      let behind = word_groups s.m * n - width_of s in
      let there : front_groups s.m n now ≡ opened (order_of s) s.m (width_of s) after ++ replicate behind e =
      rw same at (K.holds.padded ∙ ap (λ gs. gs ++ replicate (word_groups s.m * k - width_of s) (2 ^ s.m - 1)) K.same) in
      let long : length (field_groups s n words) ≡ length (opened (order_of s) s.m (width_of s) after) =
      H.many ∙ sym (groups-length s.m (width_of s) (wit (order_of s) after)) in
      let wiped-is : w ≡ wiped e place (field_groups s n words) (opened (order_of s) s.m (width_of s) after) =
      q ∙ ap₂ (λ xs ys. wiped e place xs ys) (ap (λ j. front_groups s.m j words) same ∙ H.padded) (ap (λ j. front_groups s.m j now) same ∙ there)
      ∙ wiped-padded e place behind (field_groups s n words) _ (omega (arith, pow_mono G.bounds.m-low)) long in
      rw (sure, wiped-is, K.read, K.same)

-- The reply of the call, from what it has found.
judge-no-layout : (s : Shape) (before after : List ℕ) (k : ℕ) → layout_refusal s 256 ≡ k ∷ [] → judge_reply s before after ≡ k ∷ []
unfolding judge_reply judge_refusal layout_refusal counts_of answer
judge-no-layout s before after k q = rw (refused-early (outside s 256) (misfit 256 (granted s 256)) k [] _ q)

-- an answer that is no refusal has a layout
granted-first : (s : Shape) (before after : List ℕ) {x y : ℕ} → 0 ∷ x ∷ y ∷ [] ≡ judge_reply s before after → layout_refusal s 256 ≡ []
granted-first s before after q = go (layout_refusal s 256) refl
  where
    go : (k : List ℕ) → layout_refusal s 256 ≡ k → k ≡ []
    go [] z = refl
    go (k ∷ carried) z = absurd (omega (arith, ap length (q ∙ judge-no-layout s before after k (z ∙ rw (layout-which s 256 k carried z)))))

-- what the answer says of the cells
pub says : (s : Shape) (before after : List ℕ) (a : Result (Option ℕ) Refusal) → judged_of a ≡ judge_reply s before after → Says s before after a
says s before after (Ok (Some x)) p = yes-chosen s (granted-first s before after p) before after x (sym p)
says s before after (Ok None) p = no-choice s (granted-first s before after p) before after (sym p)
says s before after (Err k) p = tt

pub judges-no-layout : (s : Shape) (before after : List ℕ) (k : Refusal) {h : List ℕ} → number_of k ∷ h ≡ filled layout_fields (layout_reply s 256) →
    refusal_reply k ≡ judge_reply s before after
judges-no-layout s before after k laid =
    laid-alone s 256 k laid ∙ sym (judge-no-layout s before after (number_of k) (laid-number s 256 k laid))

module _ {s : Shape} {h : List ℕ} (G : Granted s h) (before after : List ℕ) where
  pub judges-3 : sound (order_of s) s.m (width_of s) before ≡ false → 3 ∷ [] ≡ judge_reply s before after
  judges-3 q = sym (before-refused s G.ok before after 3 [] (λ w. absurd (omega arith)) (read-refused s before 2 [] (read-unsound s before G.ok q)))

  module _ (sure : SoundCells s before) {words : List ℕ} {n z : ℕ} {r : Field.Reading} (K : Looked s before words n z r) where
    reads_so : field_read s before ≡ r
    unfolding field_read read_cells width_of
    reads_so = rw K.same at (sym K.read)

    pub judges-due : (place : ℕ) → Ok place ≡ due_of r → {reply : List ℕ} → reply ≡ after_told s place (field_groups s n words) after →
        reply ≡ judge_reply s before after
    unfolding width_of
    judges-due place q e =
        e ∙ rw K.same (sym (due-told s G.ok before after sure place (rw reads_so q)))

    pub judges-refused : (k : Unreadable) → Err k ≡ due_of r → refusal_reply (refusal_for k) ≡ judge_reply s before after
    judges-refused k q = sym (due-refused s G.ok before after sure k (rw reads_so q))

    pub due-most : (place : ℕ) → Ok place ≡ due_of r → place ≤ 16
    unfolding field_read read_cells
    due-most place q = go r reads_so q
      where
        go : (r : Field.Reading) → field_read s before ≡ r → Ok place ≡ due_of r → place ≤ 16
        go Field.blank e q = let z : place ≡ 0 = cc in omega arith
        go (Field.reads i x) e q = let z : place ≡ i = cc in omega (arith, G.bounds.t-high, read-most s G.ok (groups_in (code_of s) before) i x e)
        go (Field.miscounted i u) e q = clash (cc)
        go (Field.beyond i) e q = clash (cc)

-- a refusal in the five fields of an answer
pub judge-fields-refused : (k : Refusal) (c : RefusalFields) → refusal_fields_of c ≡ filled 3 (refusal_reply k) →
    c.number ∷ 0 ∷ 0 ∷ c.first ∷ c.second ∷ [] ≡ judge_fields (refusal_reply k)
unfolding judge_fields
judge-fields-refused k c told = let t = fields-told k c told in rw (t.0, t.1, t.2, numbered k c told)
