-- What a layout worked out with g = 256 tells: its refusal, or the granted counts.
use Rattle.std.proofs.Common.{◌≡◌, refl, ℕ, ◌-◌, ◌^◌, ◌<◌, Bool, true, false, List, [], ◌∷◌, replicate, arith}
use Rattle.code.specs.declared.Shape.{Shape}
use Rattle.code.specs.declared.Refusal.{Refusal}
use Rattle.shapes.specs.declared.Outline.{Outline}
use Rattle.code.specs.Shape.{first_of, ranges_of, counts_of, width_of, outside, misfit, granted}
use Rattle.code.specs.Refusals.{refusal_reply, number_of}
use Rattle.shapes.specs.Outlines.{outlined}
use Rattle.code.specs.Calls.{filled, layout_fields, refusal, answer, layout_refusal, layout_reply}
use Rattle.code.proofs.Conditions.{holds-falls, head-most}
use Rattle.code.proofs.LayoutCall.{bounded, fits, is-layout, counts-length, reply-number, reply-none, reply-outside, reply-counts, reply-count}
use Rattle.code.proofs.Refused.{refused-some, refused-early}
use Rattle.code.proofs.Tests.{clash}
use Rattle.shapes.specs.Outlines.{outline_outside}
use Rattle.shapes.proofs.Ranges.{outside-by-outline}
use Rattle.layout.specs.Plan.{Granted}

-- the refusals of a layout are 1 and 2
layout-one : (s : Shape) (g n : ℕ) → layout_refusal s g ≡ n ∷ [] → n < 7
unfolding layout_refusal refusal
layout-one s g n q = go (outside s g) (misfit g (granted s g)) q
  where
    go : (a b : Bool) → refusal ((1 ∷ [], a) ∷ (2 ∷ [], b) ∷ []) ≡ n ∷ [] → n < 7
    go true b q = let z : 1 ≡ n = cc in omega arith
    go false true q = let z : 2 ≡ n = cc in omega arith
    go false false q = clash (cc)

-- the refusal of a layout in g groups, of which its number is known
module _ (s : Shape) (g : ℕ) {h : List ℕ} (k : Refusal) (right : number_of k ∷ h ≡ filled layout_fields (layout_reply s g)) where
  pub laid-number : layout_refusal s g ≡ number_of k ∷ []
  laid-number = reply-number s g (number_of k) h right (refused-some k)

  -- it carries nothing, and no count
  pub laid-alone : refusal_reply k ≡ number_of k ∷ []
  laid-alone = refused-early k (layout-one s g (number_of k) laid-number)

  pub laid-bare : number_of k ∷ replicate 16 0 ≡ filled layout_fields (layout_reply s g)
  unfolding filled answer layout_reply
  laid-bare = rw laid-number

pub laid-granted : (s : Shape) {h : List ℕ} → 0 ∷ h ≡ filled layout_fields (layout_reply s 256) → Granted s h
unfolding counts_of width_of
laid-granted s {h} right =
    let ok = reply-none s 256 0 h right refl in
    let y = is-layout s ok in
    let each = reply-count s 256 0 h right refl in
    let e = 2 ^ s.m - 1 in
    record {
      ok = ok;
      bounds = bounded s ok;
      list = reply-counts s 256 0 h right refl;
      many = counts-length s ok;
      each = each;
      small = λ n. omega (arith, each n, fits s ok, head-most e e (first_of s) (counts_of s) (ranges_of s) n y.holds);
      some = omega (arith, each 0, holds-falls e e (first_of s) (counts_of s) (ranges_of s) 0 y.holds (omega (arith, y.two)));
    }

-- an outline out of bounds refuses the layout
pub outline-refused : (f : Outline) (v : List ℕ) → outline_outside f ≡ true → 1 ∷ replicate 16 0 ≡ filled layout_fields (layout_reply (outlined f v) 256)
outline-refused f v w = reply-outside (outlined f v) 256 (outside-by-outline f w v 256)
