-- What is read, from what the calls between have found.
use mathlib.Core.Path.{◌≡◌, refl, sym, ap, ◌∙◌}
use mathlib.Core.Logic.{◌≢◌, inl, inr}
use mathlib.Core.Bool.{Bool, true, false, cond, not}
use mathlib.Core.List.{List, [], ◌∷◌}
use Prim.Native.Nat.{ℕ, zero, suc, ◌+◌, ◌*◌, ◌-◌, ◌^◌, ◌≤◌, ◌<◌}
use native.Mathlib.Omega.{arith}
use native.Mathlib.Numerals.{add-one}
use lib.Dec.{eqb}
use lib.ListN.{length, get_or, take, replicate}
use lib.Seq.{take_at}
use lib.Pow.{pow_mono}
use borrow.Author.Tests.{not-true}
use Rattle.code.specs.declared.Shape.{Shape}
use Rattle.code.specs.declared.Refusal.{Refusal}
use Rattle.code.specs.Refusals.{refusal_reply, number_of}
use Rattle.code.specs.Shape.{first_of, ranges_of, order_of, counts_of, width_of, code_of}
use Rattle.code.specs.Count.{fewer}
use Rattle.code.specs.Deal.{written, number, plain}
use Rattle.code.proofs.Chosen.{ranked, pattern_most}
use Rattle.code.specs.Cells.{wit, opened, sound}
use Rattle.code.specs.declared.Dealing.{Dealing}
use Rattle.code.specs.declared.Dealing.TheVariants.{Patterns, Digits}
use Rattle.code.specs.declared.Generation.{Generation}
use Rattle.code.specs.Code.{dealt, generation_at, told}
use Rattle.code.specs.Field as Field
use Rattle.code.specs.Calls.{read_cells, field_read, numberless, miscounts, exceeds, generation, holds, left, read_reply, filled, layout_fields, layout_reply}
use Rattle.code.proofs.Tests.{le-or-lt}
use Rattle.code.proofs.Deal.{written-le}
use Rattle.code.proofs.Places.{Dealable, dealt-dealable}
use Rattle.code.proofs.Chosen.{rank-chosen, digits-chosen}
use Rattle.code.proofs.Groups.{zeros-written, zeros-blank, unerased-zeros, zeros-padded, unerased-padded}
use Rattle.code.proofs.Field.{past_next, read-blank, read-at-place, read-at-reads, read-at-beyond, read-at-miscounted}
use Rattle.code.proofs.Cells.{groups-length}
use Rattle.code.proofs.LayoutCall.{range-within, counts-near, first-form}
use Rattle.code.proofs.ReadCall.{read-no-layout, read-unsound, read_none, read-miscounted, read-beyond, read_found}
use Rattle.counting.specs.Cap.{sat}
use Rattle.words.specs.Words.{word_groups, front_groups, front_at}
use Rattle.words.specs.Marks.{Viewed, Fronted, ListedValues, Gathered, Pickable}
use Rattle.words.specs.declared.Seen.{Seen}
use Rattle.words.proofs.Joined.{seen-pickable, front-pickable}
use Rattle.cells.specs.Cells.{Loadable, Loaded}
use Rattle.layout.specs.Plan.{Granted}
use Rattle.layout.proofs.Planning.{laid-number, laid-alone}
use Rattle.reading.specs.Answers.{answer_of, read_at_in, read_in, SoundCells, field_groups, Holds, Looked, Close, Ranged, Tellable}

-- The number that places tell, from their labels and values, and from their digits.
pub pattern-told : (b fewest s : ℕ) (xs at less : List ℕ) (k r : ℕ) → Gathered xs at less k → s ≡ length xs →
    r ≡ sat (fewer b s fewest k + (ranked (take k at) * b ^ k + plain b (take k less))) → r ≡ sat (number b fewest xs)
unfolding number
pattern-told b fewest s xs at less k r G l q =
    let c = G.chosen in
    rw (rank-chosen xs, digits-chosen b xs, ← c.places, ← c.marks, ← c.count, ← l) q

pub gathered-few : {xs at less : List ℕ} {k s : ℕ} → Gathered xs at less k → s ≡ length xs → k ≤ s
gathered-few {xs} G l = omega (arith, G.chosen.count, l, written-le xs)

pub digits-told : (e : ℕ) (xs vs : List ℕ) (k r : ℕ) → ListedValues xs vs k → r ≡ sat (plain e (take k vs)) → r ≡ sat (plain e xs)
digits-told e xs vs k r L q = rw (← L.made) q

-- the two ways to deal
module _ {d : Dealing} {e : ℕ} (q : d ≡ Digits e) where
  pub digits-few : {m : ℕ} {g : Generation} {xs : List ℕ} → Tellable m g xs → g.dealing ≡ d → (length xs ≤ pattern_most) × (0 < e) × (e ≤ 15)
  digits-few {m} {g} T w = let k : Dealable m (Digits e) g.next = rw (w, q) at T.deals in (omega (arith, T.many, T.few, k.3), k.0, k.1)

  pub last-told : (xs : List ℕ) (x r : ℕ) → x ≡ sat (plain e xs) → r ≡ x - 1 → Close (told d xs) r
  unfolding told
  last-told xs x r k t = rw q (record { exact = λ h. omega (arith, k, t); large = λ h. omega (arith, k, t) })

module _ {d : Dealing} {b fewest : ℕ} (q : d ≡ Patterns b fewest) where
  pub pattern-few : {m : ℕ} {g : Generation} {xs : List ℕ} → Tellable m g xs → g.dealing ≡ d → (written xs ≤ pattern_most) × (1 < b) × (b ≤ 15) × (fewest ≤ 1)
  pattern-few {m} {g} {xs} T w =
      let k : Dealable m (Patterns b fewest) g.next = rw (w, q) at T.deals in
      (omega (arith, T.many, T.few, T.blank, zeros-written xs), k.0, k.1, k.3)

  pub before-told : (xs : List ℕ) (r : ℕ) → r ≡ sat (number b fewest xs) → Close (told d xs) r
  unfolding told
  before-told xs r k = rw q (record { exact = λ h. omega (arith, k); large = λ h. omega (arith, k) })

-- The generation at a place, from what is asked of the layout.
pub generation-made : {s : Shape} {h : List ℕ} → Granted s h → (i e first next v : ℕ) (d : Dealing) → e ≡ 2 ^ s.m - 1 → first ≡ first_of s →
    next ≡ get_or h (suc i) 0 → d ≡ dealt e first i next → v ≡ get_or (ranges_of s) i 0 →
    ◌≡◌ {A = Generation} (record { places = get_or h i 0; next = next; dealing = d; range = v }) (generation_at (code_of s) i)
generation-made G i e first next v d qe qf qn qd qv = rw (qd, qe, qf, qn, qv, G.each i, G.each (suc i))

-- What is read at a place whose marked groups are its places.
module _ {s : Shape} {h : List ℕ} (G : Granted s h) (i : ℕ) (l : i < s.t) (xs : List ℕ) (many : length xs ≡ (generation_at (code_of s) i).places) where
  pub read-at-is : (g : Generation) (x : ℕ) (r : Field.Reading) → g ≡ generation_at (code_of s) i → Close (told g.dealing xs) x → Ranged i g.range x r →
      (gs : List ℕ) → Field.carriers (2 ^ s.m - 1) i gs ≡ xs → r ≡ read_at_in s gs i
  read-at-is g x r o C R gs c = elim (le-or-lt v x) [
    | inl beyond ↦ RR.outside beyond ∙ sym (read-at-beyond (code_of s) gs xs i _ c many refl (far beyond))
    | inr inside ↦ RR.inside inside ∙ sym (read-at-reads (code_of s) gs xs i x c many (sym (CC.exact (omega (arith, high)))) inside)
  ]
    where
      v : ℕ
      v = (generation_at (code_of s) i).range

      CC : Close (told (generation_at (code_of s) i).dealing xs) x
      CC = rw o at C

      RR : Ranged i v x r
      RR = rw o at R

      high : v ≤ 2 ^ 56
      high = (range-within s G.bounds i l).1

      far : v ≤ x → v ≤ told (generation_at (code_of s) i).dealing xs
      far h = elim (le-or-lt (2 ^ 56) x) [ inl k ↦ omega (arith, CC.large k, high) | inr k ↦ omega (arith, CC.exact k) ]

-- the marked groups of the words are the places of the generation at place i
pub record PlacesMarked (s : Shape) (n i : ℕ) (words marks : List ℕ) : Type 0 where
  pub pick : Pickable s.m n words marks
  pub many : length (front_at s.m n marks words) ≡ get_or (counts_of s) i 0
  pub blank : get_or (counts_of s) (suc i) 0 ≤ Field.zeros (front_at s.m n marks words)
  pub held : Field.carriers (2 ^ s.m - 1) i (field_groups s n words) ≡ front_at s.m n marks words

-- they may be told
pub tellable : {s : Shape} {h : List ℕ} → Granted s h → {n i : ℕ} {words marks : List ℕ} → PlacesMarked s n i words marks → (g : Generation) →
    g ≡ generation_at (code_of s) i → Tellable s.m g (front_at s.m n marks words)
tellable {s} G {n} {i} P g q = rw q (record {
  many = sym P.many;
  few = omega (arith, counts-near s G.ok i);
  blank = P.blank;
  deals = dealt-dealable s.m (first_of s) i (get_or (counts_of s) (suc i) 0) G.bounds.m-low G.bounds.m-high (first-form s);
})

-- The field's groups among those of the words: the groups behind them are erased.
module _ {s : Shape} {h : List ℕ} (G : Granted s h) {n : ℕ} {words : List ℕ} (H : Holds s.m (width_of s) n words) where
  pub full : 2 ^ s.m - 1 ≡ suc (2 ^ s.m - 2)
  full = omega (arith, pow_mono G.bounds.m-low)

  pub same-zeros : Field.zeros (front_groups s.m n words) ≡ Field.zeros (field_groups s n words)
  same-zeros = ap Field.zeros H.padded ∙ rw full (zeros-padded (2 ^ s.m - 2) (word_groups s.m * n - width_of s) (field_groups s n words))

  pub same-unerased : Field.unerased (2 ^ s.m - 1) (front_groups s.m n words) ≡ Field.unerased (2 ^ s.m - 1) (field_groups s n words)
  same-unerased = ap (Field.unerased (2 ^ s.m - 1)) H.padded ∙ unerased-padded (2 ^ s.m - 1) (word_groups s.m * n - width_of s) (field_groups s n words)

  pub width : get_or h 0 0 ≡ width_of s
  unfolding width_of
  width = G.each 0

  first-marked : {marks : List ℕ} → Fronted s.m n (get_or h 0 0) marks →
      (Pickable s.m n words marks) × (front_at s.m n marks words ≡ field_groups s n words)
  first-marked {marks} F =
      let q : front_at s.m n marks words ≡ field_groups s n words = F.held words H.long ∙ rw width in
      (front-pickable s.m n words marks G.bounds.m-low G.bounds.m-high H.ends.few H.long (get_or h 0 0) F (G.small 0), q)

  -- what is seen of the words tells of the field
  module _ {marks : List ℕ} {seen : Seen} (W : Viewed s.m n words marks seen) where
    blank-here : seen.zeros ≡ get_or h 0 0 → written (field_groups s n words) ≡ 0
    blank-here e = zeros-blank (field_groups s n words) (omega (arith, W.blank, same-zeros, H.many, width))

    used-here : seen.zeros ≢ get_or h 0 0 → 0 < written (field_groups s n words)
    used-here d = elim (le-or-lt (written (field_groups s n words)) 0) [
      | inl z ↦ absurd (d (omega (arith, W.blank, same-zeros, H.many, width, zeros-written (field_groups s n words))))
      | inr w ↦ w
    ]

    abbrev reading : Field.Reading
    reading = read_in s (field_groups s n words)

    pub reads-blank : seen.zeros ≡ get_or h 0 0 → Field.blank ≡ reading
    reads-blank e = sym (read-blank (code_of s) (field_groups s n words) (blank-here e))

    module _ (d : seen.zeros ≢ get_or h 0 0) (i : ℕ) (p : i ≡ Field.past (take s.t h) seen.zeros) where
      past-here : Field.past (counts_of s) (Field.zeros (field_groups s n words)) ≡ i
      past-here = rw (← same-zeros, ← W.blank, ← G.list) (sym p)

      pub reads_at : (r : Field.Reading) → r ≡ read_at_in s (field_groups s n words) i → r ≡ reading
      reads_at r q =
          q ∙ sym (read-at-place (code_of s) (field_groups s n words) i (used-here d) past-here)

      -- the zero groups are at least as many as the next generation has places
      zeros-left : get_or (counts_of s) (suc i) 0 ≤ Field.zeros (field_groups s n words)
      zeros-left = rw (sym past-here) (past_next (counts_of s) (Field.zeros (field_groups s n words)))

      module _ (later : i ≢ 0) where
        carried : Field.carriers (2 ^ s.m - 1) i (field_groups s n words) ≡ front_at s.m n marks words
        carried = carriers-later (2 ^ s.m - 1) i (field_groups s n words) later ∙ sym (W.held ∙ same-unerased)
          where
            carriers-later : (e i : ℕ) (gs : List ℕ) → i ≢ 0 → Field.carriers e i gs ≡ Field.unerased e gs
            carriers-later e zero gs d = absurd (d refl)
            carriers-later e (suc i) gs d = unfold Field.carriers in refl

        many : seen.unerased ≡ length (front_at s.m n marks words)
        many = W.many ∙ ap length (sym W.held)

        pub reads-miscounted : seen.unerased ≢ get_or h i 0 → Field.miscounted (i + 1) seen.unerased ≡ reading
        reads-miscounted wrong =
            reads_at (Field.miscounted (i + 1) seen.unerased)
            (rw (add-one i, many)
            (sym (read-at-miscounted (code_of s) (field_groups s n words) (front_at s.m n marks words) i carried
            (λ q. wrong (many ∙ q ∙ sym (G.each i))))))

        later-placed : seen.unerased ≡ get_or h i 0 → PlacesMarked s n i words marks
        later-placed right = record {
          pick = seen-pickable s.m n words marks G.bounds.m-low G.bounds.m-high H.ends.few H.long seen W (omega (arith, right, G.small i));
          many = sym many ∙ right ∙ G.each i;
          blank = rw (W.held, unerased-zeros (2 ^ s.m - 1) (front_groups s.m n words) (omega (arith, full)), same-zeros) zeros-left;
          held = carried;
        }

      first-placed : i ≡ 0 → {marked : List ℕ} → Fronted s.m n (get_or h 0 0) marked → PlacesMarked s n i words marked
      unfolding width_of Field.carriers
      first-placed z F =
          let M = first-marked F in
          record {
            pick = M.0;
            many = ap length M.1 ∙ H.many ∙ rw z;
            blank = rw M.1 zeros-left;
            held = rw (z, M.1);
          }

      pub placed : (i ≢ 0 → seen.unerased ≡ get_or h i 0) → {marked : List ℕ} → (i ≡ 0 → Fronted s.m n (get_or h 0 0) marked) →
          (i ≢ 0 → marked ≡ marks) → PlacesMarked s n i words marked
      placed right first later = elim (le-or-lt i 0) [
        | inl z ↦ first-placed (omega arith) (first (omega arith))
        | inr d ↦ let ne : i ≢ 0 = λ z. omega arith in rw (later ne) (later-placed ne (right ne))
      ]

-- Cells loaded into words, and the reply to what they read as.
module _ {s : Shape} {h : List ℕ} (G : Granted s h) (bs : List ℕ) where
  pub sound-width : (o : ℕ) → o ≡ order_of s → sound o s.m (get_or h 0 0) bs ≡ sound (order_of s) s.m (width_of s) bs
  unfolding width_of
  sound-width o q = rw (q, G.each 0)

  pub reads-3 : (o : ℕ) (r : Bool) → o ≡ order_of s → r ≡ sound o s.m (get_or h 0 0) bs → not r ≡ true → 3 ∷ [] ≡ read_reply s bs
  reads-3 o r q k f = sym (read-unsound s bs G.ok (sym (sound-width o q) ∙ sym k ∙ not-true r f))

  module _ (f : SoundCells s bs) where
    pub loadable : (o : ℕ) → o ≡ order_of s → Loadable o s.m (get_or h 0 0) bs
    loadable o q = record { low = G.bounds.m-low; high = G.bounds.m-high; some = G.some; few = G.small 0; fit = sound-width o q ∙ f }

    module _ {o n : ℕ} {words : List ℕ} (q : o ≡ order_of s) (L : Loaded o s.m (get_or h 0 0) bs words n) where
      pub loaded-groups : field_groups s n words ≡ opened (order_of s) s.m (width_of s) bs
      unfolding width_of
      loaded-groups =
          rw (L.made, q, G.each 0)
          (take_at (opened (order_of s) s.m (get_or (counts_of s) 0 0) bs) (replicate (word_groups s.m * n - get_or (counts_of s) 0 0) (2 ^ s.m - 1))
          (get_or (counts_of s) 0 0) (groups-length s.m (get_or (counts_of s) 0 0) (wit (order_of s) bs)))

      pub loaded-holds : Holds s.m (width_of s) n words
      unfolding width_of
      loaded-holds = record {
        long = L.long;
        ends = record {
          wide = G.bounds.m-low;
          narrow = G.bounds.m-high;
          some = L.some;
          few = L.few;
          above = rw (← G.each 0) L.tight;
          below = rw (← G.each 0) L.room;
        };
        tidy = L.tidy;
        many = rw loaded-groups (groups-length s.m (width_of s) (wit (order_of s) bs));
        padded = rw loaded-groups (L.made ∙ rw (q, G.each 0));
      }

      pub looked : (marks : List ℕ) (seen : Seen) (r : Field.Reading) → Viewed s.m n words marks seen →
          r ≡ read_in s (field_groups s n words) → Looked s bs words n seen.zeros r
      looked marks seen r W k = record { holds = loaded-holds; same = loaded-groups; none = W.blank ∙ same-zeros G loaded-holds; read = k }

    pub reads_as : {words : List ℕ} {n z : ℕ} (r : Field.Reading) → Looked s bs words n z r → answer_of s.form s.t r ≡ read_reply s bs
    unfolding field_read read_cells width_of numberless miscounts exceeds generation holds left
    reads_as r K = go r (sym (K.read ∙ rw K.same))
      where
        old-or-new : (b : Bool) → eqb s.form 0 ≡ b → field_read s bs ≡ Field.blank → cond b (0 ∷ 1 ∷ 0 ∷ s.t ∷ []) (11 ∷ []) ≡ read_reply s bs
        old-or-new true b e = sym (read_found s bs G.ok f Field.blank e (rw b) refl refl)
        old-or-new false b e = sym (read_none s bs G.ok f (rw (e, b)))

        go : (r : Field.Reading) → field_read s bs ≡ r → answer_of s.form s.t r ≡ read_reply s bs
        go Field.blank e = old-or-new (eqb s.form 0) refl e
        go (Field.reads i x) e = sym (read_found s bs G.ok f (Field.reads i x) e refl refl refl)
        go (Field.miscounted i u) e = sym (read-miscounted s bs G.ok f i u e)
        go (Field.beyond i) e = sym (read-beyond s bs G.ok f i e)

-- a layout that is refused refuses the reading
pub reads-refused : (s : Shape) (bs : List ℕ) (k : Refusal) {h : List ℕ} → number_of k ∷ h ≡ filled layout_fields (layout_reply s 256) → refusal_reply k ≡ read_reply s bs
reads-refused s bs k right = laid-alone s 256 k right ∙ sym (read-no-layout s bs (number_of k) (laid-number s 256 k right))
