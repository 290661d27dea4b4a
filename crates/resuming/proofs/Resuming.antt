-- The replies of resume and the cells that it leaves, from what its calls have found.
use Prim.Native.Nat.{ℕ, ◌+◌, ◌*◌, ◌-◌, ◌^◌, ◌≤◌, ◌<◌}
use mathlib.Core.Path.{◌≡◌, refl, sym, ap, ap₂, ◌∙◌}
use mathlib.Core.Logic.{◌≢◌}
use mathlib.Core.Bool.{Bool, true, false, cond, not}
use mathlib.Core.List.{List, [], ◌∷◌, ◌++◌}
use native.Mathlib.Omega.{arith}
use native.Mathlib.Decide.{ℕ_discrete}
use native.Mathlib.Numerals.{add-one}
use lib.Arith.{lt_of_le-ne}
use lib.Dec.{eqb}
use lib.ListN.{length, get_or, replicate}
use borrow.Author.Tests.{not-true, eq-eqb, ne_eqb}
use Rattle.std.proofs.Common.{Ok, Err}
use Rattle.code.specs.declared.Shape.{Shape}
use Rattle.code.specs.declared.Refusal.{Refusal}
use Rattle.code.specs.declared.Refusal.TheVariants.{Readable, Spent}
use Rattle.code.specs.declared.RefusalFields.{RefusalFields}
use Rattle.code.specs.Refusals.{refusal_reply, number_of}
use Rattle.code.proofs.Refused.{refusal_fields_of, refusal-short, fields-told}
use Rattle.code.specs.declared.Generation.{Generation}
use Rattle.code.specs.Shape.{ranges_of, order_of, counts_of, width_of, code_of}
use Rattle.code.specs.Code.{generation_at}
use Rattle.code.specs.Cells.{listed, sound, stored, turned}
use Rattle.code.specs.Field as Field
use Rattle.code.specs.Calls.{groups_in, read_cells, field_read, over_range, filled, generation, layout_fields, layout_reply}
use Rattle.code.specs.Resume.{bits_at, freshly, places_from, fresh_groups, exhausted, resume_reply, resume_leaves, resume_fields}
use Rattle.code.proofs.Tests.{clash}
use Rattle.code.proofs.Report.{places-padded}
use Rattle.code.proofs.ResumeCall.{Refuses, place_in, resumed_groups, resume-no-layout, resume-unsound, resume-large, resume-readable, resume-spent, resume-late, resume-made, found-most, found-unread, found-ready, exhausted-last, exhausted-not, resumed-opened}
use Rattle.words.specs.Words.{word_bytes, word_groups, front_groups}
use Rattle.words.specs.Marks.{Ends}
use Rattle.cells.specs.Cells.{Storable, Stored}
use Rattle.cells.proofs.Sizes.{storable}
use Rattle.layout.specs.Plan.{Granted}
use Rattle.layout.proofs.Planning.{laid-number, laid-alone}
use Rattle.reading.specs.Answers.{SoundCells, held_groups, field_groups, Looked}
use Rattle.reading.proofs.Looking.{sound-width, loadable, width}
use Rattle.writing.specs.declared.Held.{Held}
use Rattle.writing.specs.Answers.{laid_by, wits_of, Due, Carries, Takes}
use Rattle.writing.proofs.Laying.{takes, laid-after}
use Rattle.resuming.specs.Answers.{aim_on, reported}

-- the fields answered and the cells at exit, as a call's promise has them
abbrev pub Answers : Shape → ℕ → List ℕ → List ℕ → List ℕ → Type 0
Answers s x bs fields after = (fields ≡ resume_fields (resume_reply s x bs)) × (after ≡ resume_leaves s x bs)

-- a field's words have no more groups than a report has bits, since 256 is a multiple of a word's groups
pub words-few : {m n h : ℕ} → Ends m n h → h ≤ 256 → word_groups m * n ≤ 256
unfolding word_groups word_bytes
words-few {m} {n} {h} E l = elim (ℕ_discrete m 2) [
  | yes two ↦ rw two (omega (arith, rw two at E.above))
  | no d ↦ elim (ℕ_discrete m 3) [
    | yes three ↦ rw three (omega (arith, rw three at E.above))
    | no e ↦ let four : m ≡ 4 = omega (arith, E.wide, E.narrow, lt_of_le-ne E.wide (λ q. d (sym q)), e) in rw four (omega (arith, rw four at E.above))
  ]
]

-- the fields of a refusal
refusal-filled : (r : List ℕ) → length r ≤ 3 → get_or r 0 0 ∷ get_or r 1 0 ∷ get_or r 2 0 ∷ 0 ∷ replicate 4 0 ≡ resume_fields r
unfolding resume_fields filled listed bits_at
refusal-filled [] l = refl
refusal-filled (a ∷ []) l = refl
refusal-filled (a ∷ b ∷ []) l = refl
refusal-filled (a ∷ b ∷ c ∷ []) l = refl
refusal-filled (a ∷ b ∷ c ∷ d ∷ r) l = absurd (omega arith)

pub refused-fields : (k : Refusal) (c : RefusalFields) → refusal_fields_of c ≡ filled 3 (refusal_reply k) →
    c.number ∷ c.first ∷ c.second ∷ 0 ∷ replicate 4 0 ≡ resume_fields (refusal_reply k)
refused-fields k c told =
    let t = fields-told k c told in
    rw (t.0, t.1, t.2) (refusal-filled (refusal_reply k) (refusal-short k))

module _ (s : Shape) (x : ℕ) (bs : List ℕ) {fields : List ℕ} where
  refuses : (k : ℕ) → fields ≡ resume_fields (k ∷ []) → Refuses s x bs k → Answers s x bs fields bs
  refuses k q w = (q ∙ ap resume_fields (sym w.0), sym w.1)

  pub resumes-refused : (k : Refusal) {h : List ℕ} → fields ≡ resume_fields (refusal_reply k) → number_of k ∷ h ≡ filled layout_fields (layout_reply s 256) →
      Answers s x bs fields bs
  resumes-refused k q laid = refuses (number_of k) (rw (laid-alone s 256 k laid) at q) (resume-no-layout s x bs (number_of k) (laid-number s 256 k laid))

-- the place i that a reading r aims at
pub record Aimed (s : Shape) (bs : List ℕ) (i : ℕ) : Type 0 where
  pub unread : Field.has_reading (field_read s bs) ≡ false
  pub found : place_in s bs ≡ i
  pub some : i ≢ 0
  pub low : i < s.t
  pub left : exhausted s bs ≡ false

module _ {s : Shape} {h : List ℕ} (G : Granted s h) (x : ℕ) (bs : List ℕ) where
  not_last : place_in s bs ≢ s.t → exhausted s bs ≡ false
  not_last d = go (exhausted s bs) refl
    where
      go : (b : Bool) → exhausted s bs ≡ b → b ≡ false
      go true e = absurd (d (exhausted-last s G.ok bs e))
      go false e = refl

  last : place_in s bs ≡ s.t → exhausted s bs ≡ true
  last q = go (exhausted s bs) refl
    where
      go : (b : Bool) → exhausted s bs ≡ b → b ≡ true
      go true e = refl
      go false e = absurd (omega (arith, q, exhausted-not s G.ok bs e))

  aimed : (r : Field.Reading) → field_read s bs ≡ r → Field.has_reading r ≡ false → (i : ℕ) → i ≡ generation r → i ≢ s.t → Aimed s bs i
  aimed r q u i e d =
      let told = found-unread s G.ok bs r q u in
      let found : place_in s bs ≡ i = told.0 ∙ sym e in
      record {
        unread = rw q u;
        found = found;
        some = λ z. absurd (omega (arith, told.1, e, z));
        low = lt_of_le-ne (rw found at (found-most s G.ok bs)) d;
        left = not_last (λ z. d (sym found ∙ z));
      }

  module _ {fields : List ℕ} where
    pub resumes-3 : fields ≡ resume_fields (3 ∷ []) → (o : ℕ) (r : Bool) → o ≡ order_of s → r ≡ sound o s.m (get_or h 0 0) bs → not r ≡ true → Answers s x bs fields bs
    resumes-3 q o r e k f = refuses s x bs 3 q (resume-unsound s x bs G.ok (sym (sound-width G bs o e) ∙ sym k ∙ not-true r f))

    pub resumes-6 : fields ≡ resume_fields (6 ∷ []) → SoundCells s bs → over_range s x ≡ true → Answers s x bs fields bs
    resumes-6 q sure l = refuses s x bs 6 q (resume-large s x bs G.ok sure l)

  module _ (sure : SoundCells s bs) (l : over_range s x ≡ false) {words : List ℕ} {n z : ℕ} {r : Field.Reading} (K : Looked s bs words n z r) where
    reads_so : field_read s bs ≡ r
    unfolding field_read read_cells width_of
    reads_so = rw K.same at (sym K.read)

    pub aims : (i : ℕ) → Ok i ≡ aim_on s.t r → Aimed s bs i
    unfolding Field.has_reading generation
    aims i q = go r reads_so q
      where
        behind : (j : ℕ) → Ok i ≡ cond (eqb j s.t) (Err Spent) (Ok j) → (i ≡ j) × (j ≢ s.t)
        behind j q = elim (ℕ_discrete j s.t) [
          | yes t ↦ let q' = rw (eq-eqb j s.t t) at q in clash (cc)
          | no d ↦ let q' = rw (ne_eqb j s.t d) at q in let same : i ≡ j = cc in (same, d)
        ]

        go : (r : Field.Reading) → field_read s bs ≡ r → Ok i ≡ aim_on s.t r → Aimed s bs i
        go Field.blank e q = clash (cc)
        go (Field.reads j y) e q = clash (cc)
        go (Field.miscounted j u) e q = let b = behind j q in aimed (Field.miscounted j u) e refl i b.0 (rw b.0 b.1)
        go (Field.beyond j) e q = let b = behind j q in aimed (Field.beyond j) e refl i b.0 (rw b.0 b.1)

    pub resumes-not : (fields : List ℕ) (k : Refusal) → fields ≡ resume_fields (refusal_reply k) → Err k ≡ aim_on s.t r → Answers s x bs fields bs
    unfolding Field.has_reading generation
    resumes-not fields k p q = go r reads_so q
      where
        readable : Field.has_reading (field_read s bs) ≡ true → k ≡ Readable → Answers s x bs fields bs
        readable e same = refuses s x bs 17 (rw same at p) (resume-readable s x bs G.ok sure l e)

        spent : (r : Field.Reading) → field_read s bs ≡ r → Field.has_reading r ≡ false → (j : ℕ) → j ≡ generation r →
            Err k ≡ cond (eqb j s.t) (Err Spent) (Ok j) → Answers s x bs fields bs
        spent r e u j g q = elim (ℕ_discrete j s.t) [
          | yes t ↦
              let q' = rw (eq-eqb j s.t t) at q in
              let five : k ≡ Spent = cc in
              let all = last ((found-unread s G.ok bs r e u).0 ∙ sym g ∙ t) in
              refuses s x bs 5 (rw five at p) (resume-spent s x bs G.ok sure l (rw e u) all)
          | no d ↦ let q' = rw (ne_eqb j s.t d) at q in clash (cc)
        ]

        go : (r : Field.Reading) → field_read s bs ≡ r → Err k ≡ aim_on s.t r → Answers s x bs fields bs
        go Field.blank e q = readable (rw e) (cc)
        go (Field.reads i y) e q = readable (rw e) (cc)
        go (Field.miscounted i u) e q = spent (Field.miscounted i u) e refl i refl q
        go (Field.beyond i) e q = spent (Field.beyond i) e refl i refl q

    module _ {i : ℕ} (A : Aimed s bs i) where
      pub resumes-late : {fields : List ℕ} → fields ≡ resume_fields (6 ∷ []) → get_or (ranges_of s) i 0 ≤ x → Answers s x bs fields bs
      resumes-late q g = refuses s x bs 6 q (resume-late s x bs G.ok sure l A.unread A.left (rw A.found A.low) (rw A.found g))

      -- the groups may be written there
      due : Due s i z (field_groups s n words)
      unfolding width_of
      due =
          let ready : get_or (counts_of s) i 0 ≤ Field.zeros (groups_in (code_of s) bs) = rw A.found at (found-ready s G.ok bs) in
          let same : z ≡ Field.zeros (groups_in (code_of s) bs) = K.none ∙ ap Field.zeros K.same in
          record { none = K.none; blank = λ e. absurd (A.some e); enough = omega (arith, ready, same) }

      module _ (b : x < get_or (ranges_of s) i 0) {g : Generation} (q : g ≡ generation_at (code_of s) i) where
        pub takes-it : {f : Held} → wits_of f ≡ s.m → f.groups ≡ get_or h 0 0 → f.n ≡ n → f.zeros ≡ z → Takes f g x words
        takes-it m w k y = takes G i x q m (w ∙ width G K.holds) (rw k K.holds) (rw (k, y) due) A.low b

        pub storable-as : Storable s.m (get_or h 0 0) bs
        storable-as = storable (loadable G bs sure (order_of s) refl)

        -- the groups that the words hold afterwards
        abbrev left : List ℕ
        left = laid_by s.m g x (held_groups s.m (get_or h 0 0) n words)

        left_is : left ≡ resumed_groups s x bs
        unfolding width_of
        left_is = rw (width G K.holds) (laid-after G i x q due K.holds.many ∙ rw (K.same, A.found))

        pub resumes-as : {fields : List ℕ} (turned : ℕ) (words' bs' : List ℕ) → Stored (order_of s) s.m left bs bs' turned →
            Carries s.m (get_or h 0 0) n left words' →
            (let listed = reported s.m n words words' in fields ≡ resume_fields (0 ∷ (i + 1) ∷ turned ∷ length listed ∷ listed)) → Answers s x bs fields bs'
        unfolding fresh_groups width_of
        resumes-as turned words' bs' W C p =
            let low : place_in s bs < s.t = rw A.found A.low in
            let inside : x < get_or (ranges_of s) (place_in s bs) 0 = rw A.found b in
            let made = resume-made s x bs G.ok sure l A.unread A.left low inside in
            let cells : bs' ≡ stored (order_of s) s.m (resumed_groups s x bs) = W.bytes ∙ ap (stored (order_of s) s.m) left_is in
            let e : ℕ = 2 ^ s.m - 1 in
            let before = groups_in (code_of s) bs in
            let long : length before ≡ length left = ap length (sym K.same) ∙ K.holds.many ∙ sym (width G K.holds) ∙ sym C.many in
            let front : front_groups s.m n words ≡ before ++ replicate (word_groups s.m * n - width_of s) e =
            K.holds.padded ∙ ap (λ gs. gs ++ replicate (word_groups s.m * n - width_of s) e) K.same in
            let told : reported s.m n words words' ≡ fresh_groups (code_of s) bs (stored (order_of s) s.m (resumed_groups s x bs)) =
            ap₂ (λ xs ys. places_from 0 (freshly e xs ys)) front C.made
            ∙ places-padded e (word_groups s.m * n - width_of s) before left C.behind long
            ∙ ap (λ ys. places_from 0 (freshly e before ys)) (left_is ∙ sym (resumed-opened s G.ok bs x A.unread low inside)) in
            (p ∙ ap resume_fields (rw (told, add-one i, ← A.found, W.count, cells) (sym made.0)), cells ∙ sym made.1)
