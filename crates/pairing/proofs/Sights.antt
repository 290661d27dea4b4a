-- What the fields of a pair tell, from what the functions have found.
use Prim.Native.Nat.{ℕ, ◌+◌, ◌-◌, ◌%◌, ◌≤◌, ◌<◌}
use mathlib.Core.Path.{◌≡◌, refl, sym, ap, ◌∙◌}
use mathlib.Core.Bool.{Bool, true, false, cond}
use mathlib.Core.List.{List, [], ◌∷◌}
use native.Mathlib.Omega.{arith}
use lib.ListN.{replicate}
use Rattle.code.specs.declared.Shape.{Shape}
use Rattle.code.specs.declared.Pair.{Pair}
use Rattle.code.specs.Shape.{order_of, width_of}
use Rattle.code.specs.Cells.{sound}
use Rattle.code.specs.Field as Field
use Rattle.code.specs.Calls.{answer, filled, layout_fields, layout_refusal, layout_reply, read_cells, field_read, taker, holds, miscounts, exceeds}
use Rattle.code.specs.Pair.{first_shape, second_shape}
use Rattle.code.proofs.Tests.{clash}
use Rattle.code.proofs.LayoutCall.{bounded}
use Rattle.code.proofs.PairCall.{Seen, seen_refusal, seen-no-layout, seen-unsound, seen-over, seen-miscounted, seen-beyond, seen_none, left_is, used-most, held_below, not_listed}
use Rattle.shapes.specs.declared.Outline.{Outline}
use Rattle.shapes.specs.Outlines.{outlined}
use Rattle.layout.specs.Plan.{Granted}
use Rattle.layout.proofs.Planning.{laid-number, laid-alone, laid-granted}
use Rattle.std.specs.Prelude.{Result, Ok, Err}
use Rattle.code.specs.declared.Refusal.{Refusal}
use Rattle.code.specs.declared.Refusal.TheVariants.{Cells, Number, Miscounted, Beyond}
use Rattle.code.specs.Refusals.{refusal_reply, number_of}
use Rattle.code.proofs.Refused.{reply-split}
use Rattle.reading.specs.Answers.{SoundCells, Looked}
use Rattle.pairing.specs.declared.Seen.{Seen as Sight}
use Rattle.pairing.specs.Answers.{sight_on, sighted, Laid, second_told}

module _ (s : Shape) (over : Bool) (bs : List ℕ) where
  pub sees-3 : sound (order_of s) s.m (width_of s) bs ≡ false → Err Cells ≡ sighted s over bs
  sees-3 q = rw q

  module _ (f : SoundCells s bs) where
    pub sees-6 : over ≡ true → Err Number ≡ sighted s over bs
    sees-6 o = rw (f, o)

    pub sees-so : over ≡ false → {words : List ℕ} {n z : ℕ} {r : Field.Reading} → Looked s bs words n z r → sight_on r ≡ sighted s over bs
    unfolding field_read read_cells width_of
    sees-so o {words} {n} {z} {r} K =
        let e : field_read s bs ≡ r = sym (K.read ∙ rw K.same) in
        rw (f, o, e)

  -- what a sight tells of a field whose layout is granted: it passed its tests, or which of them it did not pass
  module _ (ok : layout_refusal s 256 ≡ []) where
    pub sight-seen : (a : Sight) → sighted s over bs ≡ Ok a → Seen s over bs × (a.used ≡ taker (field_read s bs)) × (a.number ≡ holds (field_read s bs))
    unfolding taker holds miscounts exceeds
    sight-seen a q = go (sound (order_of s) s.m (width_of s) bs) refl over refl (field_read s bs) refl q
      where
        go : (b : Bool) → sound (order_of s) s.m (width_of s) bs ≡ b → (o : Bool) → over ≡ o → (r : Field.Reading) → field_read s bs ≡ r →
            cond b (cond o (Err Number) (sight_on r)) (Err Cells) ≡ Ok a → Seen s over bs × (a.used ≡ taker r) × (a.number ≡ holds r)
        go false f o e r g q = clash (cc)
        go true f true e r g q = clash (cc)
        go true f false e Field.blank g q =
            let z : record { used = 0; number = 0 } ≡ a = cc in
            (record { ok = ok; right = f; below = e; counted = rw g; ranged = rw g }, ap (λ t. t.used) (sym z), ap (λ t. t.number) (sym z))
        go true f false e (Field.reads i x) g q =
            let z : record { used = i; number = x } ≡ a = cc in
            (record { ok = ok; right = f; below = e; counted = rw g; ranged = rw g }, ap (λ t. t.used) (sym z), ap (λ t. t.number) (sym z))
        go true f false e (Field.miscounted i k) g q = clash (cc)
        go true f false e (Field.beyond i) g q = clash (cc)

    pub sight-refused : (k : Refusal) → sighted s over bs ≡ Err k → seen_refusal s over bs ≡ refusal_reply k
    sight-refused k q = go (sound (order_of s) s.m (width_of s) bs) refl over refl (field_read s bs) refl q
      where
        go : (a : Bool) → sound (order_of s) s.m (width_of s) bs ≡ a → (o : Bool) → over ≡ o → (r : Field.Reading) → field_read s bs ≡ r →
            cond a (cond o (Err Number) (sight_on r)) (Err Cells) ≡ Err k → seen_refusal s over bs ≡ refusal_reply k
        go false f o e r g q = let z : k ≡ Cells = cc in rw z (seen-unsound s over bs ok f)
        go true f true e r g q = let z : k ≡ Number = cc in rw z (seen-over s over bs ok f e)
        go true f false e Field.blank g q = clash (cc)
        go true f false e (Field.reads i x) g q = clash (cc)
        go true f false e (Field.miscounted i u) g q = let z : k ≡ Miscounted i u = cc in rw z (seen-miscounted s over bs ok f e i u g)
        go true f false e (Field.beyond i) g q = let z : k ≡ Beyond i = cc in rw z (seen-beyond s over bs ok f e i g)

-- the layout of the first field, where it is granted
pub laid_so : (p : Pair) (f : Outline) → p.v1 ≡ p.v2 → outlined f (p.v1 ∷ replicate 15 0) ≡ first_shape p → {h : List ℕ} →
    0 ∷ h ≡ filled layout_fields (layout_reply (outlined f (p.v1 ∷ replicate 15 0)) 256) → Laid p (p.v1 ∷ replicate 15 0) h
laid_so p f same shaped laid = record { same = same; ranges = refl; counts = rw shaped at laid }

-- The shapes of both fields by their outlines and the ranges, and the layout that they share where they have as many generations.
module _ {p : Pair} {v h : List ℕ} (L : Laid p v h) where
  pub first-shaped : (f : Outline) → outlined f (p.v1 ∷ replicate 15 0) ≡ first_shape p → outlined f v ≡ first_shape p
  first-shaped f q = rw L.ranges q

  pub second-shaped : (f : Outline) → outlined f (p.v2 ∷ replicate 15 0) ≡ second_shape p → outlined f v ≡ second_shape p
  second-shaped f q = rw (L.ranges, L.same) q

  pub laid-alike : p.t1 ≡ p.t2 → 0 ∷ h ≡ filled layout_fields (layout_reply (second_shape p) 256)
  laid-alike t = rw (← t, ← L.same) L.counts

  -- the layout of the second field, where it is granted
  module _ (f : Outline) (shaped : outlined f (p.v2 ∷ replicate 15 0) ≡ second_shape p) {counts : List ℕ}
      (laid : 0 ∷ counts ≡ filled layout_fields (layout_reply (second_shape p) 256)) where
    pub second-granted : Granted (outlined f v) counts
    second-granted = rw (second-shaped f shaped) (laid-granted (second_shape p) laid)

    pub second-seen : (bytes : List ℕ) (a : Result Sight Refusal) (t : Sight) → a ≡ sighted (outlined f v) false bytes → a ≡ Ok t →
        Seen (second_shape p) false bytes × (t.used ≡ taker (field_read (second_shape p) bytes)) × (t.number ≡ holds (field_read (second_shape p) bytes))
    second-seen bytes a t e q =
        sight-seen (second_shape p) false bytes (laid-granted (second_shape p) laid).ok t (sym (e ∙ ap (λ z. sighted z false bytes) (second-shaped f shaped)) ∙ q)

    pub second-unseen : (bytes : List ℕ) (a : Result Sight Refusal) (j : Refusal) → a ≡ sighted (outlined f v) false bytes → a ≡ Err j →
        seen_refusal (second_shape p) false bytes ≡ refusal_reply j
    second-unseen bytes a j e q =
        sight-refused (second_shape p) false bytes (laid-granted (second_shape p) laid).ok j (sym (e ∙ ap (λ z. sighted z false bytes) (second-shaped f shaped)) ∙ q)

-- What a second field that passed tells is small.
pub second-small : {p : Pair} {v h : List ℕ} → Laid p v h → {bytes : List ℕ} → Seen (second_shape p) false bytes → {u n : ℕ} →
    u ≡ taker (field_read (second_shape p) bytes) → n ≡ holds (field_read (second_shape p) bytes) → (n < p.v1) × (u ≤ p.t2) × (p.t2 ≤ 16)
second-small {p} L S a b =
    let below = held_below S (not_listed p.form p.m p.t2 p.v2 S.ok) in
    (omega (arith, L.same, b, below), omega (arith, a, used-most S), (bounded (second_shape p) S.ok).t-high)

-- The answer of a read once the first field is read.
module _ (p : Pair) (number rest : ℕ) (second : List ℕ) where
  pub second-no-layout : (k : Refusal) {h : List ℕ} → number_of k ∷ h ≡ filled layout_fields (layout_reply (second_shape p) 256) →
      refusal_reply k ≡ second_told p number rest second
  unfolding answer
  second-no-layout k laid =
      laid-alone (second_shape p) 256 k laid ∙ rw (seen-no-layout (second_shape p) false second (number_of k) (laid-number (second_shape p) 256 k laid))

  pub second-refused : (k : Refusal) → seen_refusal (second_shape p) false second ≡ refusal_reply k → refusal_reply k ≡ second_told p number rest second
  unfolding answer
  second-refused k q = rw (q, reply-split k)

  pub second-read : Seen (second_shape p) false second → (u n : ℕ) → u ≡ taker (field_read (second_shape p) second) →
      n ≡ holds (field_read (second_shape p) second) → {reply : List ℕ} → reply ≡ 0 ∷ ((number + n) % p.v1) ∷ (rest + (p.t2 - u)) ∷ [] → reply ≡ second_told p number rest second
  unfolding answer
  second-read S u n a b e = e ∙ rw (a, b, seen_none _ _ _ S, left_is S)
