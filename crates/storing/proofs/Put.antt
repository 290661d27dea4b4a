-- Laws of stores one after the other.
use mathlib.Core.Path.{◌≡◌, refl, sym, ◌∙◌}
use mathlib.Core.Bool.{Bool, true, false}
use mathlib.Core.List.{List, [], ◌∷◌, ◌++◌, append_assoc}
use Prim.Native.Nat.{ℕ, suc, ◌+◌, ◌-◌, ◌≤◌}
use native.Mathlib.Omega.{arith}
use native.Mathlib.Nat.{add-zero, add-suc, suc-add}
use native.Mathlib.Numerals.{add-one}
use lib.Dec.{leb}
use lib.ListN.{length, take, drop, set, length-set, length-append}
use lib.Seq.{sets, length-sets, sets-eq, set_comm}
use borrow.Author.Tests.{le-leb, leb-true}
use borrow.Rule.Slice.PartMut.{put_mid}
use Rattle.std.proofs.lemmas.List.{drop-drop}
use Rattle.storing.specs.Put.{Put, fitting}

sets-append : (b : List ℕ) (at : ℕ) (ys zs : List ℕ) → sets b at (ys ++ zs) ≡ sets (sets b at ys) (at + length ys) zs
sets-append b at [] zs = rw add-zero
sets-append b at (y ∷ ys) zs = sets-append (set b at y) (suc at) ys zs ∙ rw (add-suc, suc-add)

pub put-none : (b : List ℕ) (at : ℕ) → Put b b at [] at
put-none b at = record { stored = refl; ends = omega arith }

-- one put after another
pub put_then : {b c d : List ℕ} {at n k : ℕ} {ys zs : List ℕ} → Put b c at ys n → Put c d n zs k → Put b d at (ys ++ zs) k
put_then {b} {c} {d} {at} {n} {k} {ys} {zs} p q = record { stored = cc (sets-append b at ys zs); ends = omega (arith, length-append ys zs) }

pub put-length : {b c : List ℕ} {at n : ℕ} {ys : List ℕ} → Put b c at ys n → length c ≡ length b
put-length {b} {c} {at} {n} {ys} p = rw p.stored (length-sets b at ys)

-- what a put leaves, where there is room: what stood before the place, what is stored, what stood behind
pub put-pastes : {b c : List ℕ} {at n : ℕ} {ys : List ℕ} → Put b c at ys n → n ≤ length b → c ≡ take at b ++ (ys ++ drop n b)
put-pastes {b} {c} {at} {n} {ys} p h = rw (p.stored, p.ends) (sets-eq ys b at (omega arith) ∙ append_assoc (take at b) ys (drop (at + length ys) b))

-- bytes copied over the part from `at` on
pub part-put : {ys zs : List ℕ} {n end : ℕ} (b : List ℕ) (at : ℕ) → zs ≡ ys → n ≡ length ys → at + length ys ≤ length b → end ≡ at + length ys →
    Put b (put_mid at n b zs) at ys end
part-put {ys} {zs} {n} b at e k h q = record {
  stored = rw (e, k, drop-drop) (sym (sets-eq ys b at h ∙ append_assoc (take at b) ys (drop (at + length ys) b)));
  ends = q;
}

-- what fits: all where there is room for all, and never more than there is room for
module _ (b : List ℕ) (at : ℕ) (ys : List ℕ) where
  pub fitting-all : at + length ys ≤ length b → fitting b at ys ≡ ys
  unfolding fitting
  fitting-all h = rw (le-leb (length ys) (length b - at) (omega arith))

  pub fitting-within : at ≤ length b → at + length (fitting b at ys) ≤ length b
  unfolding fitting
  fitting-within h = go (leb (length ys) (length b - at)) refl
    where
      go : (t : Bool) → leb (length ys) (length b - at) ≡ t → at + length (fitting b at ys) ≤ length b
      go true e = rw e (omega (arith, leb-true (length ys) (length b - at) e))
      go false e = rw e (omega arith)

  -- where a test told that they do not fit, nothing is stored; where it told that they do, there is room
  module _ {fits : Bool} (told : fits ≡ leb (length ys) (length b - at)) where
    pub put-unfit : fits ≡ false → Put b b at (fitting b at ys) at
    unfolding fitting
    put-unfit e = rw (sym told ∙ e) (put-none b at)

    pub fits-room : at ≤ length b → fits ≡ true → at + length ys ≤ length b
    fits-room h e = omega (arith, leb-true (length ys) (length b - at) (sym told ∙ e))

-- a loop that stores `all` from place `from` on: `left` of it is still to be stored, from place `at` up to place `end`
pub record Storing (before : List ℕ) (from : ℕ) (all after : List ℕ) (at : ℕ) (left : List ℕ) (end : ℕ) : Type 0 where
  pub same : length after ≡ length before
  pub due : sets after at left ≡ sets before from all
  pub ends : end ≡ at + length left

pub storing-begin : (b : List ℕ) (at : ℕ) (ys : List ℕ) → Storing b at ys b at ys (at + length ys)
storing-begin b at ys = record { same = refl; due = refl; ends = refl }

-- the first, or the last, of what is left is stored where it is due
pub storing-first : {b c all ys : List ℕ} {from at y end place x : ℕ} → Storing b from all c at (y ∷ ys) end → place ≡ at → x ≡ y →
    Storing b from all (set c place x) (at + 1) ys end
storing-first {c} {at} {y} s p q = rw (p, q) record { same = length-set c at y ∙ s.same; due = rw add-one s.due; ends = omega (arith, s.ends) }

sets_last : (b : List ℕ) (at : ℕ) (ys : List ℕ) (y : ℕ) → sets b at (ys ++ (y ∷ [])) ≡ sets (set b (at + length ys) y) at ys
sets_last b at [] y = rw add-zero
sets_last b at (x ∷ ys) y =
    let e : at + suc (length ys) ≡ suc at + length ys = omega arith in
    sets_last (set b at x) (suc at) ys y ∙ rw (e, set_comm b (suc at + length ys) at y x (λ q. absurd (omega arith)))

pub storing-last : {b c all : List ℕ} {from at end place x : ℕ} (ys : List ℕ) (y : ℕ) → Storing b from all c at (ys ++ (y ∷ [])) (end + 1) → place ≡ end →
    x ≡ y → Storing b from all (set c place x) at ys end
storing-last {c} {at} {end} ys y s p q =
    let e : end ≡ at + length ys = omega (arith, s.ends, length-append ys (y ∷ [])) in
    rw (p, q) record { same = length-set c end y ∙ s.same; due = rw (e, ← sets_last c at ys y) s.due; ends = e }

-- a part of what is left is stored
pub storing-put : {b c d all ys zs : List ℕ} {from at n end : ℕ} → Storing b from all c at (ys ++ zs) end → Put c d at ys n → Storing b from all d n zs end
storing-put {b} {c} {d} {all} {ys} {zs} {from} {at} {n} {end} s p =
    let both = put_then p record { stored = refl; ends = refl } in
    record { same = put-length p ∙ s.same; due = both.stored ∙ s.due; ends = omega (arith, s.ends, p.ends, length-append ys zs) }

pub storing-end : {b c all : List ℕ} {from at : ℕ} → Storing b from all c at [] (from + length all) → Put b c from all at
storing-end s = record { stored = s.due; ends = omega (arith, s.ends) }
