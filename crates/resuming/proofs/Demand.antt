-- Document 02, §9, of the calls: over all answers and cells at exit that their promises allow.
use Prim.Native.Nat.{ℕ, suc, ◌+◌, ◌-◌, ◌≤◌, ◌<◌}
use mathlib.Core.Path.{◌≡◌, refl, sym, ap, ◌∙◌}
use mathlib.Core.Logic.{◌⊎◌, inl, inr, ◌↔◌, ◌≢◌}
use mathlib.Core.Bool.{false}
use mathlib.Core.List.{List, [], ◌∷◌, Memᴰ}
use native.Mathlib.Omega.{arith}
use native.Mathlib.Decide.{ℕ_discrete}
use native.Mathlib.Nat.{le_refl, sub-zero}
use lib.ListN.{length, get_or}
use lib.Dec.{leb}
use Rattle.std.proofs.Common.{Result, Ok, Err, IsOk, is_ok}
use Rattle.code.specs.declared.Shape.{Shape}
use Rattle.code.specs.declared.Refusal.{Refusal}
use Rattle.code.specs.declared.Refusal.TheVariants.{Number, Spent}
use Rattle.code.specs.Refusals.{refusal_reply, number_of}
use Rattle.code.proofs.Refused.{refusal-alike, refused-some, refused-early}
use Rattle.code.specs.Shape.{first_of, ranges_of, order_of, counts_of, code_of}
use Rattle.code.specs.Code.{erased, width}
use Rattle.code.specs.Cells.{wit, listed, ones}
use Rattle.code.specs.Field as Field
use Rattle.code.specs.Calls.{groups_in, answer, leaves, filled, layout_refusal, field_read, read_reply, write_refusal, write_leaves, refusal_in, generation_in, turned_in, turned_by}
use Rattle.code.specs.Resume.{fresh_groups, bits_at, resume_refusal, resume_reply, resume_leaves, resume_fields}
use Rattle.code.proofs.Wits.{Bytes}
use Rattle.code.proofs.Tests.{le-or-lt, clash}
use Rattle.code.proofs.Cells.{groups-length}
use Rattle.code.proofs.Run.{InRange, opening-none}
use Rattle.code.proofs.Report.{Fresh, listed-exactly}
use Rattle.code.proofs.Unread.{pointed}
use Rattle.code.proofs.ResumeCall.{place_in, resume-some, resume-barred}
use Rattle.code.proofs.ResumeDemand as Code
use Rattle.code.proofs.CutOff as CutOff
use Rattle.code.proofs.CutOff.{Between}
use Rattle.reading.specs.declared.Reading.{Reading}
use Rattle.reading.specs.Answers.{reading_of}
use Rattle.reading.proofs.Demand as Reads
use Rattle.reading.proofs.Unique.{same-reading}
use Rattle.writing.specs.declared.Written.{Written}
use Rattle.writing.specs.Answers.{writing_of}
use Rattle.writing.proofs.Accepted.{wrote, granted-first, made-with-none}
use Rattle.writing.proofs.Rewriting as Writes
use Rattle.writing.proofs.Demand.{CallsFrom, accepted-from}
use Rattle.resuming.specs.declared.Resumed.{Resumed}
use Rattle.resuming.specs.declared.ResumeFields.{ResumeFields}
use Rattle.resuming.specs.Answers.{resumed_of, resume_fields_of}
use Rattle.resuming.proofs.Resuming.{Answers}
use Rattle.resuming.proofs.Unique.{fields-at}

-- the number that an answer tells, 0 where the call is accepted
abbrev told_number : Result Resumed Refusal → ℕ
told_number r = get_or (resumed_of r) 0 0

told-some : (k : Refusal) → 0 < told_number (Err k)
told-some k = omega (arith, refused-some k, fields-at (refusal_reply k) 0 (omega arith))

told-ok : (r : Result Resumed Refusal) → told_number r ≡ 0 → IsOk r
told-ok (Ok a) e = refl
told-ok (Err k) e = absurd (omega (arith, told-some k))

told-err : (r : Result Resumed Refusal) (k : Refusal) → number_of k < 7 → told_number r ≡ number_of k → r ≡ Err k
told-err (Ok a) k l e = absurd (omega (arith, refused-some k))
told-err (Err j) k l e =
    let same : number_of j ≡ number_of k = sym (fields-at (refusal_reply j) 0 (omega arith)) ∙ e in
    let alone = refused-early j (omega (arith, same)) in
    rw (refusal-alike j k (alone ∙ rw same (sym (refused-early k l))))

-- what the struct that C gets tells first
first-told : (s : Shape) (x : ℕ) (bs : List ℕ) (r : ResumeFields) (after : List ℕ) → Answers s x bs (resume_fields_of r) after →
    r.refusal ≡ refusal_in (resume_reply s x bs)
first-told s x bs r after promise = ap (λ xs. get_or xs 0 0) promise.0 ∙ fields-at (resume_reply s x bs) 0 (omega arith)

module _ (s : Shape) (x : ℕ) (bs : List ℕ) (r : Result Resumed Refusal) (after : List ℕ) (promise : Answers s x bs (resumed_of r) after) where
  first : told_number r ≡ refusal_in (resume_reply s x bs)
  first = ap (λ xs. get_or xs 0 0) promise.0 ∙ fields-at (resume_reply s x bs) 0 (omega arith)

  -- a call that answers 0 was granted its layout, and passed every test
  passed-all : told_number r ≡ 0 → resume_refusal s x bs ≡ []
  unfolding resume_reply answer
  passed-all z = go (resume_refusal s x bs) refl (sym first ∙ z)
    where
      go : (k : List ℕ) → resume_refusal s x bs ≡ k → refusal_in (resume_reply s x bs) ≡ 0 → k ≡ []
      go [] q e = refl
      go (k ∷ carried) q e = absurd (omega (arith, resume-some s x bs k carried q, rw q at e))

  laid_out : told_number r ≡ 0 → layout_refusal s 256 ≡ []
  laid_out z = go (layout_refusal s 256) refl
    where
      go : (k : List ℕ) → layout_refusal s 256 ≡ k → k ≡ []
      go [] q = refl
      go (k ∷ carried) q = clash (cc (passed-all z, resume-barred s x bs k carried q))

  -- A refused call leaves the cells as they were.
  pub refused-keeps : (k : Refusal) → r ≡ Err k → after ≡ bs
  unfolding resume_reply answer
  refused-keeps j made = promise.1 ∙ go (resume_refusal s x bs) refl
    where
      go : (k : List ℕ) → resume_refusal s x bs ≡ k → resume_leaves s x bs ≡ bs
      go [] q = let zero : refusal_in (resume_reply s x bs) ≡ 0 = rw q in absurd (omega (arith, told-some j, ap told_number made, first))
      go (k ∷ carried) q = unfold resume_leaves in unfold leaves in rw q

  -- No 1 becomes 0, whatever the answer.
  pub never-falls : Bytes bs → (w : ℕ) → wit (order_of s) bs w ≤ wit (order_of s) after w
  never-falls B w = go r refl
    where
      go : (a : Result Resumed Refusal) → r ≡ a → wit (order_of s) bs w ≤ wit (order_of s) after w
      go (Ok a) e = rw promise.1 (Code.resume-rises s (laid_out (ap told_number e)) x bs B w)
      go (Err k) e = rw (refused-keeps k e) (le_refl (wit (order_of s) bs w))

  -- What an accepted call answers and leaves.
  module _ (B : Bytes bs) (a : Resumed) (made : r ≡ Ok a) where
    z : told_number r ≡ 0
    z = ap told_number made

    -- the groups that are all ones now and not before
    abbrev pub fresh : List ℕ
    fresh = fresh_groups (code_of s) bs after

    told : (a.generation ≡ generation_in (resume_reply s x bs)) × (a.turned ≡ turned_in (resume_reply s x bs)) × (a.count ≡ length fresh)
        × (a.erased ≡ listed (λ w. bits_at w fresh) 0 4)
    unfolding resume_fields filled
    told =
        let q = sym (ap resumed_of made) ∙ promise.0 ∙ ap resume_fields (Code.lists-resumed s (laid_out z) x bs (passed-all z) B) in
        rw promise.1 (cc, cc, cc, cc)

    -- The generation is the one behind that which the zero groups point to, never the first.
    pub generation-found : (a.generation ≡ suc (pointed s bs)) × (2 ≤ a.generation) × (a.generation ≤ s.t)
    generation-found = rw told.0 (Code.resumed-generation s (laid_out z) x bs (passed-all z) B)

    -- Every answer that read's promise allows is the generation answered and the number just written.
    pub reads-back : (b : Result Reading Refusal) → reading_of b ≡ read_reply s after → b ≡ Ok (Reads.told a.generation x (s.t - a.generation))
    reads-back b p = same-reading b (Ok (Reads.told a.generation x (s.t - a.generation))) (p ∙ rw (promise.1, told.0) (Code.reads-resumed s (laid_out z) x bs (passed-all z) B))

    -- The turned count is the ones after less the ones before.
    pub turned-are : a.turned + ones (order_of s) bs ≡ ones (order_of s) after
    unfolding turned_by
    turned-are =
        let accepted : refusal_in (resume_reply s x bs) ≡ 0 = sym first ∙ z in
        rw (told.1, promise.1) (rw accepted at (Code.turned-resumed s (laid_out z) x bs B))

    -- The groups told are counted, and each has its bit; they are exactly those that are all ones now and were not before.
    pub groups-told : (a.count ≡ length fresh) × (a.erased ≡ listed (λ w. bits_at w fresh) 0 4)
    groups-told = (told.2, told.3)

    pub groups-exactly : (j : ℕ) → Memᴰ j fresh ↔ Fresh (erased (code_of s)) (groups_in (code_of s) bs) (groups_in (code_of s) after) j
    unfolding fresh_groups
    groups-exactly j =
        let h = width (code_of s) in
        let long = groups-length s.m h (wit (order_of s) bs) ∙ sym (groups-length s.m h (wit (order_of s) after)) in
        listed-exactly (erased (code_of s)) (groups_in (code_of s) bs) (groups_in (code_of s) after) j long

    -- From there on call j, the first being call 0, is accepted exactly when the generation and j + 1 are together at most t, zeros or not.
    pub goes_on : (xs : List ℕ) (cells : ℕ → List ℕ) (answers : ℕ → Result Written Refusal) → CallsFrom s after xs cells answers → (j : ℕ) →
        InRange (first_of s) (ranges_of s) a.generation xs → j < length xs → is_ok (answers j) ≡ leb (a.generation + suc j) s.t
    goes_on xs cells answers C j b l =
        let i = generation_in (resume_reply s x bs) in
        let stands = Code.stands-resumed s (laid_out z) x bs (passed-all z) B in
        let none = opening-none (i + first_of s) xs (omega (arith, (Code.resumed-generation s (laid_out z) x bs (passed-all z) B).1)) in
        rw told.0 (accepted-from s (laid_out z) (resume_leaves s x bs) xs cells answers (rw promise.1 at C) stands.0 stands.1 i stands.2 j (rw told.0 at b) l
        ∙ rw (none, sub-zero))

-- The same of the struct that C gets, which tells 0 or the refusal by a field of its own.
module _ (s : Shape) (x : ℕ) (bs : List ℕ) (r : ResumeFields) (after : List ℕ) (promise : Answers s x bs (resume_fields_of r) after) where
  -- the answer in Rattle that has the other fields
  abbrev made : Resumed
  made = record { generation = r.generation; turned = r.turned; count = r.count; erased = r.erased }

  accepted : r.refusal ≡ 0 → Answers s x bs (resumed_of (Ok made)) after
  accepted z = rw z at promise

  -- A refused call leaves the cells as they were.
  pub refused-keeps-fields : r.refusal ≢ 0 → after ≡ bs
  unfolding resume_reply answer
  refused-keeps-fields d = promise.1 ∙ go (resume_refusal s x bs) refl
    where
      go : (k : List ℕ) → resume_refusal s x bs ≡ k → resume_leaves s x bs ≡ bs
      go [] q = absurd (d (first-told s x bs r after promise ∙ rw q))
      go (k ∷ carried) q = unfold resume_leaves in unfold leaves in rw q

  -- No 1 becomes 0, whatever the answer.
  pub never-falls-fields : Bytes bs → (w : ℕ) → wit (order_of s) bs w ≤ wit (order_of s) after w
  never-falls-fields B w = elim (ℕ_discrete r.refusal 0) [
    | yes z ↦ never-falls s x bs (Ok made) after (accepted z) B w
    | no d ↦ rw (refused-keeps-fields d) (le_refl (wit (order_of s) bs w))
  ]

  -- What an accepted call answers and leaves.
  module _ (B : Bytes bs) (z : r.refusal ≡ 0) where
    -- the groups that are all ones now and not before
    abbrev pub fresh-fields : List ℕ
    fresh-fields = fresh_groups (code_of s) bs after

    -- The generation is the one behind that which the zero groups point to, never the first.
    pub generation-found-fields : (r.generation ≡ suc (pointed s bs)) × (2 ≤ r.generation) × (r.generation ≤ s.t)
    generation-found-fields = generation-found s x bs (Ok made) after (accepted z) B made refl

    -- Every answer that read's promise allows is the generation answered and the number just written.
    pub reads-back-fields : (b : Result Reading Refusal) → reading_of b ≡ read_reply s after → b ≡ Ok (Reads.told r.generation x (s.t - r.generation))
    reads-back-fields = reads-back s x bs (Ok made) after (accepted z) B made refl

    -- The turned count is the ones after less the ones before.
    pub turned-are-fields : r.turned + ones (order_of s) bs ≡ ones (order_of s) after
    turned-are-fields = turned-are s x bs (Ok made) after (accepted z) B made refl

    -- The groups told are counted, and each has its bit; they are exactly those that are all ones now and were not before.
    pub groups-told-fields : (r.count ≡ length fresh-fields) × (r.erased ≡ listed (λ w. bits_at w fresh-fields) 0 4)
    groups-told-fields = groups-told s x bs (Ok made) after (accepted z) B made refl

    pub groups-exactly-fields : (j : ℕ) → Memᴰ j fresh-fields ↔ Fresh (erased (code_of s)) (groups_in (code_of s) bs) (groups_in (code_of s) after) j
    groups-exactly-fields = groups-exactly s x bs (Ok made) after (accepted z) B made refl

    -- From there on call j, the first being call 0, is accepted exactly when the generation and j + 1 are together at most t, zeros or not.
    pub goes_on-fields : (xs : List ℕ) (cells : ℕ → List ℕ) (answers : ℕ → Result Written Refusal) → CallsFrom s after xs cells answers → (j : ℕ) →
        InRange (first_of s) (ranges_of s) r.generation xs → j < length xs → is_ok (answers j) ≡ leb (r.generation + suc j) s.t
    goes_on-fields = goes_on s x bs (Ok made) after (accepted z) B made refl

-- A write that was cut off: cells that lie wit by wit between those before it and those that its promise leaves.
module _ (s : Shape) (x : ℕ) (before after : List ℕ) (B : Bytes before) (i n : ℕ) (written : Writes.Answers s x before (writing_of (wrote i n)) after)
    (bs : List ℕ) (cut : Between (order_of s) before bs after) where
  ok : layout_refusal s 256 ≡ []
  ok = granted-first s x i n before written.0

  none : write_refusal s x before ≡ []
  none = made-with-none s x i n before written.0

  inside : Between (order_of s) before bs (write_leaves s x before)
  inside = rw written.1 at cut

  -- They read as some number or are refused with 11, 15 or 16, never with 3.
  pub cut-reads : (a : Result Reading Refusal) → reading_of a ≡ read_reply s bs → let k = refusal_in (reading_of a) in ((k ≡ 0) ⊎ (k ≡ 11)) ⊎ ((k ≡ 15) ⊎ (k ≡ 16))
  cut-reads a p = rw p (CutOff.cut-reads s ok x before B none bs inside)

  -- Where they have no reading, resume answers 5 exactly when fewer than h_t zero groups are left; else it accepts the number, in form 2 if that is below the
  -- range of the generation found.
  module _ (u : Field.has_reading (field_read s bs) ≡ false) (r : Result Resumed Refusal) (left : List ℕ) (promise : Answers s x bs (resumed_of r) left) where
    abbrev pub few : Type 0
    few = Field.zeros (groups_in (code_of s) bs) < get_or (counts_of s) (s.t - 1) 0

    enough : (few → ⊥) → get_or (counts_of s) (s.t - 1) 0 ≤ Field.zeros (groups_in (code_of s) bs)
    enough e = elim (le-or-lt (get_or (counts_of s) (s.t - 1) 0) (Field.zeros (groups_in (code_of s) bs))) [ inl l ↦ l | inr f ↦ absurd (e f) ]

    refusal_is : (k : List ℕ) → resume_refusal s x bs ≡ k → told_number r ≡ refusal_in (answer k (0 ∷ []))
    unfolding resume_reply answer
    refusal_is [] q = first s x bs r left promise ∙ rw q
    refusal_is (k ∷ carried) q = first s x bs r left promise ∙ rw q

    pub cut-resumed : (s.form ≡ 2 → ⊥) → (few → ⊥) → IsOk r
    unfolding answer
    cut-resumed one e = told-ok r (refusal_is [] (CutOff.cut-resumed s ok x before B none bs inside u one (enough e)))

    pub cut-accepted : (few → ⊥) → x < get_or (ranges_of s) (place_in s bs) 0 → IsOk r
    unfolding answer
    cut-accepted e g = told-ok r (refusal_is [] (CutOff.cut-accepted s ok x before B none bs inside u (enough e) g))

    pub cut-beyond : (few → ⊥) → get_or (ranges_of s) (place_in s bs) 0 ≤ x → r ≡ Err Number
    unfolding answer
    cut-beyond e g = told-err r Number (omega arith) (refusal_is (6 ∷ []) (CutOff.cut-beyond s ok x before B none bs inside u (enough e) g))

    pub cut-spent : (r ≡ Err Spent) ↔ few
    unfolding answer
    cut-spent = (
      λ five. elim (le-or-lt (get_or (counts_of s) (s.t - 1) 0) (Field.zeros (groups_in (code_of s) bs))) [
        | inl e ↦ elim (le-or-lt (get_or (ranges_of s) (place_in s bs) 0) x) [
          | inl g ↦ clash (cc (cut-beyond (λ f. omega arith) g))
          | inr g ↦ clash (cc (cut-accepted (λ f. omega arith) g))
        ]
        | inr f ↦ f
      ],
      λ f. told-err r Spent (omega arith) (refusal_is (5 ∷ []) ((CutOff.cut-spent s ok x before B none bs inside u).1 f)),
    )

  -- The same of the struct that C gets.
  module _ (u : Field.has_reading (field_read s bs) ≡ false) (r : ResumeFields) (left : List ℕ) (promise : Answers s x bs (resume_fields_of r) left) where
    abbrev pub few-fields : Type 0
    few-fields = Field.zeros (groups_in (code_of s) bs) < get_or (counts_of s) (s.t - 1) 0

    enough-fields : (few-fields → ⊥) → get_or (counts_of s) (s.t - 1) 0 ≤ Field.zeros (groups_in (code_of s) bs)
    enough-fields e = elim (le-or-lt (get_or (counts_of s) (s.t - 1) 0) (Field.zeros (groups_in (code_of s) bs))) [ inl l ↦ l | inr f ↦ absurd (e f) ]

    refusal_told : (k : List ℕ) → resume_refusal s x bs ≡ k → r.refusal ≡ refusal_in (answer k (0 ∷ []))
    unfolding resume_reply answer
    refusal_told [] q = first-told s x bs r left promise ∙ rw q
    refusal_told (k ∷ carried) q = first-told s x bs r left promise ∙ rw q

    pub cut-resumed-fields : (s.form ≡ 2 → ⊥) → (few-fields → ⊥) → r.refusal ≡ 0
    unfolding answer
    cut-resumed-fields one e = refusal_told [] (CutOff.cut-resumed s ok x before B none bs inside u one (enough-fields e))

    pub cut-accepted-fields : (few-fields → ⊥) → x < get_or (ranges_of s) (place_in s bs) 0 → r.refusal ≡ 0
    unfolding answer
    cut-accepted-fields e g = refusal_told [] (CutOff.cut-accepted s ok x before B none bs inside u (enough-fields e) g)

    pub cut-beyond-fields : (few-fields → ⊥) → get_or (ranges_of s) (place_in s bs) 0 ≤ x → r.refusal ≡ 6
    unfolding answer
    cut-beyond-fields e g = refusal_told (6 ∷ []) (CutOff.cut-beyond s ok x before B none bs inside u (enough-fields e) g)

    pub cut-spent-fields : (r.refusal ≡ 5) ↔ few-fields
    unfolding answer
    cut-spent-fields = (
      λ five. elim (le-or-lt (get_or (counts_of s) (s.t - 1) 0) (Field.zeros (groups_in (code_of s) bs))) [
        | inl e ↦ elim (le-or-lt (get_or (ranges_of s) (place_in s bs) 0) x) [
          | inl g ↦ absurd (omega (arith, five, cut-beyond-fields (λ f. omega arith) g))
          | inr g ↦ absurd (omega (arith, five, cut-accepted-fields (λ f. omega arith) g))
        ]
        | inr f ↦ f
      ],
      λ f. refusal_told (5 ∷ []) ((CutOff.cut-spent s ok x before B none bs inside u).1 f),
    )
