-- The replies of write and the cells that it leaves, from what its calls have found.
use Rattle.std.proofs.Common.{Ok, Err}
use mathlib.Core.Path.{◌≡◌, refl, sym, ◌∙◌}
use mathlib.Core.Logic.{◌≢◌}
use mathlib.Core.Bool.{Bool, true, false, true≢false, not}
use mathlib.Core.List.{List, [], ◌∷◌}
use Prim.Native.Nat.{ℕ, zero, suc, ◌+◌, ◌≤◌, ◌<◌}
use native.Mathlib.Omega.{arith}
use native.Mathlib.Decide.{ℕ_discrete}
use native.Mathlib.Numerals.{add-one}
use lib.Arith.{lt_of_le-ne}
use lib.ListN.{length, get_or}
use borrow.Author.Tests.{not-true, eq-eqb, ne_eqb}
use Rattle.code.specs.declared.Shape.{Shape}
use Rattle.code.specs.declared.Refusal.{Refusal}
use Rattle.code.specs.declared.Refusal.TheVariants.{Spent, Miscounted, Beyond}
use Rattle.code.specs.Refusals.{refusal_reply, number_of}
use Rattle.code.specs.Shape.{ranges_of, order_of, counts_of, width_of, code_of}
use Rattle.code.specs.Cells.{sound}
use Rattle.code.specs.declared.Generation.{Generation}
use Rattle.code.specs.Code.{generation_at}
use Rattle.code.specs.Field as Field
use Rattle.code.specs.Calls.{read_cells, field_read, miscounts, exceeds, spent, taker, over_range, write_reply, write_leaves, filled, layout_fields, layout_reply}
use Rattle.code.proofs.Tests.{clash}
use Rattle.code.proofs.Groups.{blank-zeros}
use Rattle.code.proofs.Field as Code
use Rattle.code.proofs.WriteCall.{Refuses, write-no-layout, write-unsound, write-large, write-miscounted, write-beyond, write-spent, write-late, write-made, first-write, next-write, read-most}
use Rattle.cells.specs.Cells.{Storable, Stored}
use Rattle.cells.proofs.Sizes.{storable}
use Rattle.layout.specs.Plan.{Granted}
use Rattle.layout.proofs.Planning.{laid-number, laid-alone}
use Rattle.reading.specs.Answers.{read_in, SoundCells, held_groups, field_groups, Looked}
use Rattle.writing.specs.declared.Held.{Held}
use Rattle.writing.specs.Answers.{aim_at, after_in, laid_by, wits_of, Due, Takes}
use Rattle.reading.proofs.Looking.{sound-width, loadable, width}
use Rattle.writing.proofs.Laying.{takes, laid-after}

-- a reply and the cells at exit, as a call's promise has them
abbrev pub Answers : Shape → ℕ → List ℕ → List ℕ → List ℕ → Type 0
Answers s x bs reply after = (reply ≡ write_reply s x bs) × (after ≡ write_leaves s x bs)

refuses : (s : Shape) (x : ℕ) (bs reply : List ℕ) → Refuses s x bs reply → Answers s x bs reply bs
refuses s x bs reply w = (sym w.0, sym w.1)

pub writes-refused : (s : Shape) (x : ℕ) (bs : List ℕ) (k : Refusal) {h : List ℕ} → number_of k ∷ h ≡ filled layout_fields (layout_reply s 256) →
    Answers s x bs (refusal_reply k) bs
writes-refused s x bs k right =
    rw (laid-alone s 256 k right) (refuses s x bs (number_of k ∷ []) (write-no-layout s x bs (number_of k) (laid-number s 256 k right)))

-- the place i that a reading r aims at: no refusal is left to it but that of the range there
pub record Aimed (s : Shape) (r : Field.Reading) (i : ℕ) : Type 0 where
  pub low : i < s.t
  pub takes : taker r ≡ i
  pub counted : miscounts r ≡ false
  pub ranged : exceeds r ≡ false
  pub unspent : spent s.t r ≡ false

-- x is written there on groups gs, z of them being zero
pub record Place (s : Shape) (x : ℕ) (gs : List ℕ) (i z : ℕ) : Type 0 where
  pub ready : Due s i z gs
  pub made : Field.write (code_of s) x gs ≡ Field.wrote (suc i) (after_in s i x gs)

module _ {s : Shape} {h : List ℕ} (G : Granted s h) (gs : List ℕ) (i : ℕ) where
  aimed : (r : Field.Reading) → read_in s gs ≡ r → Ok i ≡ aim_at s.t r → Aimed s r i
  unfolding miscounts exceeds spent taker
  aimed Field.blank reading q =
      let first : i ≡ 0 = cc in
      rw first (record { low = omega (arith, G.bounds.t-low); takes = refl; counted = refl; ranged = refl; unspent = refl })
  aimed (Field.reads j y) reading q = elim (ℕ_discrete j s.t) [
    | yes t ↦ let q' = rw (eq-eqb j s.t t) at q in clash (cc)
    | no d ↦
        let q' = rw (ne_eqb j s.t d) at q in
        let same : i ≡ j = cc in
        let below = lt_of_le-ne (read-most s G.ok gs j y reading) d in
        rw same (record { low = below; takes = refl; counted = refl; ranged = refl; unspent = ne_eqb j s.t d })
  ]
  aimed (Field.miscounted j u) reading q = clash (cc)
  aimed (Field.beyond j) reading q = clash (cc)

  module _ (x : ℕ) (b : x < get_or (ranges_of s) i 0) (z : ℕ) (none : z ≡ Field.zeros gs) (long : length gs ≡ width_of s) where
    enough : (j : ℕ) → j ≢ 0 → Code.Ready (counts_of s) j gs → get_or (counts_of s) j 0 ≤ z
    enough zero d w = absurd (d refl)
    enough (suc j) d w = omega (arith, w, none)

    place : (r : Field.Reading) → read_in s gs ≡ r → Aimed s r i → Place s x gs i z
    unfolding miscounts exceeds taker width_of
    place Field.blank reading A =
        let first : i ≡ 0 = sym A.takes in
        let w = first-write s G.ok x gs reading (rw first at b) in
        let full : get_or (counts_of s) 0 0 ≤ z = omega (arith, none, long, blank-zeros gs w.1) in
        rw first (record { ready = record { none = none; blank = λ _. w.1; enough = full }; made = w.0 })
    place (Field.reads j y) reading A =
        let same : i ≡ j = sym A.takes in
        let w = next-write s G.ok x j y gs (rw same at b) reading (rw same at A.low) in
        let some : j ≢ 0 = λ n. absurd (omega (arith, n, Code.read_past (code_of s) gs j y reading)) in
        rw same (record { ready = record { none = none; blank = λ n. absurd (some n); enough = enough j some w.1 }; made = w.0 })
    place (Field.miscounted j u) reading A = absurd (true≢false A.counted)
    place (Field.beyond j) reading A = absurd (true≢false A.ranged)

module _ {s : Shape} {h : List ℕ} (G : Granted s h) (x : ℕ) (bs : List ℕ) where
  pub writes-3 : (o : ℕ) (r : Bool) → o ≡ order_of s → r ≡ sound o s.m (get_or h 0 0) bs → not r ≡ true → Answers s x bs (3 ∷ []) bs
  writes-3 o r q k f = refuses s x bs (3 ∷ []) (write-unsound s x bs G.ok (sym (sound-width G bs o q) ∙ sym k ∙ not-true r f))

  module _ (sure : SoundCells s bs) where
    pub writes-6 : over_range s x ≡ true → Answers s x bs (6 ∷ []) bs
    writes-6 l = refuses s x bs (6 ∷ []) (write-large s x bs G.ok sure l)

    module _ (l : over_range s x ≡ false) {words : List ℕ} {n z : ℕ} {r : Field.Reading} (K : Looked s bs words n z r) where
      field-reads : field_read s bs ≡ r
      unfolding field_read read_cells width_of
      field-reads = rw K.same at (sym K.read)

      pub aims : (i : ℕ) → Ok i ≡ aim_at s.t r → Aimed s r i
      aims i q = aimed G (field_groups s n words) i r (sym K.read) q

      pub writes-not : (k : Refusal) → Err k ≡ aim_at s.t r → Answers s x bs (refusal_reply k) bs
      writes-not k q = go r field-reads q
        where
          go : (r : Field.Reading) → field_read s bs ≡ r → Err k ≡ aim_at s.t r → Answers s x bs (refusal_reply k) bs
          go Field.blank e q = clash (cc)
          go (Field.reads i y) e q = elim (ℕ_discrete i s.t) [
            | yes t ↦
                let q' = rw (eq-eqb i s.t t) at q in
                let five : k ≡ Spent = cc in
                rw five (refuses s x bs (5 ∷ []) (write-spent s x bs G.ok sure l i y e t))
            | no d ↦ let q' = rw (ne_eqb i s.t d) at q in clash (cc)
          ]
          go (Field.miscounted i u) e q = let a : k ≡ Miscounted i u = cc in rw a (refuses s x bs (15 ∷ i ∷ u ∷ []) (write-miscounted s x bs G.ok sure l i u e))
          go (Field.beyond i) e q = let a : k ≡ Beyond i = cc in rw a (refuses s x bs (16 ∷ i ∷ []) (write-beyond s x bs G.ok sure l i e))

      module _ {i : ℕ} (A : Aimed s r i) where
        pub writes-late : get_or (ranges_of s) i 0 ≤ x → Answers s x bs (6 ∷ []) bs
        writes-late g =
            refuses s x bs (6 ∷ [])
            (write-late s x bs G.ok sure l r field-reads A.counted A.ranged A.unspent (rw A.takes A.low) (rw A.takes g))

        module _ (b : x < get_or (ranges_of s) i 0) where
          pub placed : Place s x (field_groups s n words) i z
          placed = place G (field_groups s n words) i x b z K.none K.holds.many r (sym K.read) A

          module _ {g : Generation} (q : g ≡ generation_at (code_of s) i) where
            pub takes-it : {f : Held} → wits_of f ≡ s.m → f.groups ≡ get_or h 0 0 → f.n ≡ n → f.zeros ≡ z → Takes f g x words
            takes-it m w k y =
                takes G i x q m (w ∙ width G K.holds) (rw k K.holds) (rw (k, y) placed.ready) A.low b

            pub storable-as : Storable s.m (get_or h 0 0) bs
            storable-as = storable (loadable G bs sure (order_of s) refl)

            pub writes_as : (turned : ℕ) (bs' : List ℕ) → Stored (order_of s) s.m (laid_by s.m g x (held_groups s.m (get_or h 0 0) n words)) bs bs' turned →
                Answers s x bs (0 ∷ (i + 1) ∷ turned ∷ []) bs'
            writes_as turned bs' W' =
                let gs = field_groups s n words in
                let W : Stored (order_of s) s.m (after_in s i x gs) bs bs' turned =
                rw (width G K.holds, laid-after G i x q placed.ready K.holds.many) at W' in
                let taken : x < get_or (ranges_of s) (taker r) 0 = rw A.takes b in
                let w = write-made s x bs G.ok sure l r field-reads A.counted A.ranged A.unspent (suc i) (after_in s i x gs) taken
                (rw (← K.same) placed.made) in
                (rw (add-one i, W.count, W.bytes) (sym w.0), W.bytes ∙ sym w.1)
