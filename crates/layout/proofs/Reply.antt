-- What `grant` answers, with e for 2^m − 1: the first count, r, above that of generation 2 is stored or refused.
use Prim.Native.Nat.{ℕ, ◌-◌, ◌^◌, ◌≤◌, ◌<◌}
use mathlib.Core.Path.{◌≡◌, refl}
use mathlib.Core.Bool.{false}
use mathlib.Core.List.{List, ◌∷◌}
use native.Mathlib.Omega.{arith}
use lib.ListN.{get_or, set, replicate}
use Rattle.code.specs.Layout.{counts, grant}
use Rattle.code.specs.declared.Shape.{Shape}
use Rattle.code.specs.Shape.{first_of, ranges_of, outside, granted}
use Rattle.code.specs.Calls.{filled, layout_fields, layout_reply}
use Rattle.code.proofs.LayoutCall.{reply-refused, reply-granted}
use Rattle.climbing.specs.Climb.{held, Least}
use Rattle.layout.specs.Tail.{Tail}
use Rattle.layout.proofs.Least.{least-room}
use Rattle.layout.proofs.Tail.{filled_more, head_more, over}

module _ {g e : ℕ} (s : Shape) (o : outside s g ≡ false) (q : e ≡ 2 ^ s.m - 1) where
  pub refused : g < get_or (counts g e e (first_of s) (ranges_of s)) 0 0 → 2 ∷ replicate 16 0 ≡ filled layout_fields (layout_reply s g)
  unfolding granted grant
  refused f = reply-refused s g o (rw q at f)

  module _ {low r : ℕ} {h : List ℕ} (T : Tail g e s.t (ranges_of s) 1 low h) (p : 0 < low)
      (L : Least (held e (first_of s) low) (get_or (ranges_of s) 0 0) low r) where
    pub first-stored : r ≤ g → s.t ≤ 16 → 0 ∷ set h 0 r ≡ filled layout_fields (layout_reply s g)
    unfolding granted grant
    first-stored f l =
        let here = least-room e e (first_of s) p L in
        let head = rw q at (head_more e (first_of s) T 0 refl refl here f) in
        rw (filled_more e (first_of s) T 0 refl refl here f, q) (reply-granted s g o (omega (arith, f, head)) l)

    pub first-refused : g < r → 2 ∷ replicate 16 0 ≡ filled layout_fields (layout_reply s g)
    first-refused f = refused (over e (first_of s) T 0 refl refl (least-room e e (first_of s) p L) f)
