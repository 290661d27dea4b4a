-- Demand 3, first half, of the call: over every answer that its promise allows.
use Rattle.std.proofs.Common.{◌≡◌, sym, ap, ◌∙◌, ℕ, ◌≤◌, ◌<◌, le_trans, List, [], ◌∷◌, get_or, take, arith, Result, Ok, Err, IsOk, refl}
use borrow.Author.Tests.{le-ltb}
use Rattle.code.specs.Lists.{Rises}
use Rattle.code.specs.Layout.{Meets}
use Rattle.code.specs.declared.Shape.{Shape}
use Rattle.code.specs.declared.Refusal.{Refusal}
use Rattle.code.specs.declared.Refusal.TheVariants.{NoRoom}
use Rattle.code.specs.Shape.{first_of, ranges_of, misfit, granted}
use Rattle.code.specs.Calls.{filled, layout_fields, refusal, answer, layout_refusal, layout_reply}
use Rattle.code.proofs.Grant.{grant-least}
use Rattle.code.proofs.LayoutCall.{Within, outside-within, within-outside, layout-none, ranges-length, reply-number, reply-none, reply-counts, reply-count}
use Rattle.code.proofs.Refused.{refusal-alike, refused-some}
use Rattle.code.proofs.Demand.{layout-granted, layout-refused}
use Rattle.layout.specs.declared.Layout.{Layout}
use Rattle.layout.specs.Plan.{laid_of}
use Rattle.layout.proofs.Planning.{laid-number, laid-alone}

module _ (s : Shape) (g : ℕ) (r : Result (List ℕ) Refusal) (promise : laid_of r ≡ filled layout_fields (layout_reply s g)) where
  granted-list : (h : List ℕ) → r ≡ Ok h → 0 ∷ h ≡ filled layout_fields (layout_reply s g)
  granted-list h e = rw e at promise

  -- What is granted meets a to d within g, and is count for count at most every list that meets them.
  pub granted-is-least : (h : List ℕ) → r ≡ Ok h →
      Meets s.m (first_of s) (take s.t h) (ranges_of s) × (get_or (take s.t h) 0 0 ≤ g)
      × ((hs : List ℕ) → Meets s.m (first_of s) hs (ranges_of s) → Rises (take s.t h) hs)
  granted-is-least h e =
      let p = granted-list h e in
      rw (reply-counts s g 0 h p refl) (layout-granted s g (reply-none s g 0 h p refl))

  two : r ≡ Err NoRoom → layout_refusal s g ≡ 2 ∷ []
  two e = laid-number s g NoRoom (rw e at promise)

  -- Within the bounds refusal 2 is answered exactly when no list that meets a to d fits in g.
  pub refused-exactly : Within s g →
      (r ≡ Err NoRoom → (hs : List ℕ) → Meets s.m (first_of s) hs (ranges_of s) → g < get_or hs 0 0)
      × (((hs : List ℕ) → Meets s.m (first_of s) hs (ranges_of s) → g < get_or hs 0 0) → r ≡ Err NoRoom)
  unfolding filled layout_reply answer
  refused-exactly w =
      let l = layout-refused s g (within-outside s g w) in
      (λ e. l.0 (two e), λ none. go (l.1 none) r promise)
    where
      go : layout_refusal s g ≡ 2 ∷ [] → (r : Result (List ℕ) Refusal) → laid_of r ≡ filled layout_fields (layout_reply s g) → r ≡ Err NoRoom
      go q (Ok h) p = let z = rw q at p in absurd (omega (arith, ap (λ r. get_or r 0 0) z))
      go q (Err k) p = rw (refusal-alike k NoRoom (laid-alone s g k p ∙ sym (laid-number s g k p) ∙ q))

  -- Within the bounds a layout is granted wherever some list that meets a to d fits in g.
  pub granted-where-one-fits : Within s g → (hs : List ℕ) → Meets s.m (first_of s) hs (ranges_of s) → get_or hs 0 0 ≤ g → IsOk r
  unfolding refusal misfit granted layout_refusal filled layout_reply answer
  granted-where-one-fits w hs y f =
      let l = (grant-least g s.m (first_of s) hs (ranges_of s) (omega (arith, w.bounds.t-low, ranges-length s w.bounds)) y).1 in
      let q : layout_refusal s g ≡ [] = rw (within-outside s g w, le-ltb g (get_or (granted s g) 0 0) (le_trans l f)) in
      go q r promise
    where
      go : layout_refusal s g ≡ [] → (r : Result (List ℕ) Refusal) → laid_of r ≡ filled layout_fields (layout_reply s g) → IsOk r
      go q (Ok h) p = refl
      go q (Err k) p = let z = rw q at p in absurd (omega (arith, refused-some k, ap (λ r. get_or r 0 0) z))

  -- What is granted was asked within the bounds, and its first count is at most g.
  pub granted-within : (h : List ℕ) → r ≡ Ok h → Within s g × (get_or h 0 0 ≤ g)
  granted-within h e =
      let p = granted-list h e in
      let ok = reply-none s g 0 h p refl in
      (outside-within s g (layout-none s g ok).0, rw (← reply-count s g 0 h p refl 0) at (layout-granted s g ok).1)

-- The same of a layout in numbers, which is what C is answered.
module _ (s : Shape) (g : ℕ) (r : Layout) (promise : r.refusal ∷ r.h ≡ filled layout_fields (layout_reply s g)) where
  -- What is granted meets a to d within g, and is count for count at most every list that meets them.
  pub fields-granted-is-least : r.refusal ≡ 0 →
      Meets s.m (first_of s) (take s.t r.h) (ranges_of s) × (get_or (take s.t r.h) 0 0 ≤ g)
      × ((hs : List ℕ) → Meets s.m (first_of s) hs (ranges_of s) → Rises (take s.t r.h) hs)
  fields-granted-is-least z = rw (reply-counts s g r.refusal r.h promise z) (layout-granted s g (reply-none s g r.refusal r.h promise z))

  no-room : 2 ≡ r.refusal → layout_refusal s g ≡ 2 ∷ []
  no-room e = rw e (reply-number s g r.refusal r.h promise (omega arith))

  -- Within the bounds refusal 2 is answered exactly when no list that meets a to d fits in g.
  pub fields-refused-exactly : Within s g →
      (r.refusal ≡ 2 → (hs : List ℕ) → Meets s.m (first_of s) hs (ranges_of s) → g < get_or hs 0 0)
      × (((hs : List ℕ) → Meets s.m (first_of s) hs (ranges_of s) → g < get_or hs 0 0) → r.refusal ≡ 2)
  unfolding filled layout_reply answer
  fields-refused-exactly w =
      let l = layout-refused s g (within-outside s g w) in
      (λ e. l.0 (no-room (sym e)), λ none. let q = l.1 none in let p = rw q at promise in cc)

  -- Within the bounds a layout is granted wherever some list that meets a to d fits in g.
  pub fields-granted-where-one-fits : Within s g → (hs : List ℕ) → Meets s.m (first_of s) hs (ranges_of s) → get_or hs 0 0 ≤ g → r.refusal ≡ 0
  unfolding refusal misfit granted layout_refusal filled layout_reply answer
  fields-granted-where-one-fits w hs y f =
      let l = (grant-least g s.m (first_of s) hs (ranges_of s) (omega (arith, w.bounds.t-low, ranges-length s w.bounds)) y).1 in
      let q : layout_refusal s g ≡ [] = rw (within-outside s g w, le-ltb g (get_or (granted s g) 0 0) (le_trans l f)) in
      let p = rw q at promise in
      cc

  -- What is granted was asked within the bounds, and its first count is at most g.
  pub fields-granted-within : r.refusal ≡ 0 → Within s g × (get_or r.h 0 0 ≤ g)
  fields-granted-within z =
      let ok = reply-none s g r.refusal r.h promise z in
      (outside-within s g (layout-none s g ok).0, rw (← reply-count s g r.refusal r.h promise z 0) at (layout-granted s g ok).1)
