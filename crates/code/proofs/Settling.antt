-- Settled dumps, whose layouts are all used, different and in first-use order: first use makes them, and finds their lists and numbers again.
use Prim.Native.Nat.{ℕ, zero, suc, ◌≤◌, ◌<◌}
use mathlib.Core.Path.{◌≡◌, refl, sym, ap, ◌∙◌}
use mathlib.Core.Bool.{Bool, true, false, cond}
use mathlib.Core.Logic.{inl, inr}
use mathlib.Core.List.{List, [], ◌∷◌, ◌++◌}
use native.Mathlib.Omega.{arith}
use lib.Dec.{eqb}
use lib.ListN.{length, get_or, take, length-append, get_or-append}
use lib.Seq.{length-take-le, take_all, take-suc, get_or-append_seam}
use borrow.Author.Tests.{eq-eqb, ne_eqb}
use Rattle.code.specs.LayoutList.{Listed, unlisted, listed_of}
use Rattle.code.specs.Dump.{listed_layouts}
use Rattle.code.specs.NewDump.{Entry, place_of, joined, first_use, numbered}
use Rattle.code.proofs.Tests.{le-or-lt}
use Rattle.code.proofs.Parsed.{Sound, AllSound}
use Rattle.code.proofs.LayoutLists.{AllListable, listable-at, listable-few, shape-back}
use Rattle.code.proofs.FirstUse.{alike, alike_is, alike_self, place-hit, place-miss, place-append, place-new, joined-known, joined-fresh, joined_by, joined-lists, place-first, renumbered}

-- the first record of a layout's number, by its place among the records; their count where it has none
unfoldable pub first_at : ℕ → List Entry → ℕ
first_at i [] = 0
first_at i (e ∷ es) = cond (eqb e.layout i) 0 (suc (first_at i es))

-- no layout of the list twice
abbrev pub Different : List Listed → Type 0
Different ls = (i j : ℕ) → i < length ls → j < length ls → get_or ls i unlisted ≡ get_or ls j unlisted → i ≡ j

-- 02: "its layouts are all used, different and in first-use order"
pub record Settled (ls : List Listed) (es : List Entry) : Type 0 where
  pub used : (i : ℕ) → i < length ls → first_at i es < length es
  pub different : Different ls
  pub ordered : (i j : ℕ) → i < j → j < length ls → first_at i es < first_at j es

-- the layouts from k on are used by these records, in their order
record Due (ls : List Listed) (k : ℕ) (es : List Entry) : Type 0 where
  used : (i : ℕ) → k ≤ i → i < length ls → first_at i es < length es
  ordered : (i j : ℕ) → k ≤ i → i < j → j < length ls → first_at i es < first_at j es

at-hit : (e : Entry) (es : List Entry) (i : ℕ) → e.layout ≡ i → first_at i (e ∷ es) ≡ 0
unfolding first_at
at-hit e es i q = rw (eq-eqb e.layout i q)

at-miss : (e : Entry) (es : List Entry) (i : ℕ) → (e.layout ≡ i → ⊥) → first_at i (e ∷ es) ≡ suc (first_at i es)
unfolding first_at
at-miss e es i n = rw (ne_eqb e.layout i n)

-- one record less: behind one of a layout before j, those from j on are due
due-next : (ls : List Listed) (k j : ℕ) (e : Entry) (es : List Entry) → k ≤ j → e.layout < j → Due ls k (e ∷ es) → Due ls j es
due-next ls k j e es h g d = record {
  used = λ i a b. omega (arith, d.used i (omega arith) b, at-miss e es i (λ q. omega arith));
  ordered = λ i n a b c. omega (arith, d.ordered i n (omega arith) b c, at-miss e es i (λ q. omega arith), at-miss e es n (λ q. omega arith));
}

-- one record more: of an earlier layout, or of the one at k
due-earlier : (ls : List Listed) (k : ℕ) (e : Entry) (es : List Entry) → e.layout < k → Due ls k es → Due ls k (e ∷ es)
due-earlier ls k e es h d = record {
  used = λ i a b. omega (arith, d.used i a b, at-miss e es i (λ q. omega arith));
  ordered = λ i j a b c. omega (arith, d.ordered i j a b c, at-miss e es i (λ q. omega arith), at-miss e es j (λ q. omega arith));
}

due-here : (ls : List Listed) (k : ℕ) (e : Entry) (es : List Entry) → e.layout ≡ k → Due ls (suc k) es → Due ls k (e ∷ es)
due-here ls k e es h d = record {
  used = λ i a b. elim (le-or-lt i k) [
    | inl g ↦ omega (arith, at-hit e es i (omega arith))
    | inr g ↦ omega (arith, d.used i g b, at-miss e es i (λ q. omega arith))
  ];
  ordered = λ i j a b c. elim (le-or-lt i k) [
    | inl g ↦ omega (arith, at-hit e es i (omega arith), at-miss e es j (λ q. omega arith))
    | inr g ↦ omega (arith, d.ordered i j g b c, at-miss e es i (λ q. omega arith), at-miss e es j (λ q. omega arith))
  ];
}

-- Layouts in order of first use are settled. Each layout of such a list stands where it is found.
abbrev Proper : List Listed → Type 0
Proper ls = (i : ℕ) → i < length ls → place_of ls (get_or ls i unlisted) ≡ i

proper-joined : (ls : List Listed) (l : Listed) → Proper ls → Proper (joined ls l)
proper-joined ls l p = joined_by Proper ls l (λ h. p) (λ h i a. elim (le-or-lt (length ls) i) [
  | inl g ↦
      let e : i ≡ length ls = omega (arith, length-append ls (l ∷ [])) in
      rw (e, get_or-append_seam ls l [] unlisted) (place-new ls l h)
  | inr g ↦
      let q : place_of ls (get_or ls i unlisted) ≡ i = p i g in
      rw (get_or-append ls (l ∷ []) unlisted i g) (place-append ls (l ∷ []) (get_or ls i unlisted) (omega arith) ∙ q)
])

first-proper : (es : List Entry) (ls : List Listed) → Proper ls → Proper (first_use ls es)
unfolding first_use
first-proper [] ls p = p
first-proper (e ∷ es) ls p = first-proper es (joined ls (listed_of e.shape)) (proper-joined ls (listed_of e.shape) p)

first-due : (es : List Entry) (ls : List Listed) → Due (first_use ls es) (length ls) (numbered (first_use ls es) es)
unfolding first_use numbered
first-due [] ls = record { used = λ i a b. absurd (omega arith); ordered = λ i j a b c. absurd (omega arith) }
first-due (e ∷ es) ls =
    let l : Listed = listed_of e.shape in
    let all : List Listed = first_use (joined ls l) es in
    let fs : List Entry = numbered all es in
    let f : Entry = record { serial = e.serial; layout = place_of all l; shape = e.shape; cells = e.cells } in
    let ih : Due all (length (joined ls l)) fs = first-due es (joined ls l) in
    let q : place_of all l ≡ place_of (joined ls l) l = place-first es (joined ls l) l (joined-lists ls l) in
    elim (le-or-lt (length ls) (place_of ls l)) [
      | inl h ↦
          let j : joined ls l ≡ ls ++ (l ∷ []) = joined-fresh ls l h in
          let p : place_of (joined ls l) l ≡ length ls = rw j (place-new ls l h) in
          let n : length (joined ls l) ≡ suc (length ls) = omega (arith, ap length j, length-append ls (l ∷ [])) in
          due-here all (length ls) f fs (q ∙ p) (rw n at ih)
      | inr h ↦
          let j : joined ls l ≡ ls = joined-known ls l h in
          let p : place_of (joined ls l) l ≡ place_of ls l = rw j in
          let n : length (joined ls l) ≡ length ls = ap length j in
          due-earlier all (length ls) f fs (omega arith) (rw n at ih)
    ]

pub first-settled : (es : List Entry) → Settled (first_use [] es) (numbered (first_use [] es) es)
first-settled es =
    let ls : List Listed = first_use [] es in
    let p : Proper ls = first-proper es [] (λ i a. absurd (omega arith)) in
    let d = first-due es [] in
    record {
      used = λ i b. d.used i (omega arith) b;
      different = λ i j a b q. sym (p i a) ∙ ap (place_of ls) q ∙ p j b;
      ordered = λ i j b c. d.ordered i j (omega arith) b c;
    }

-- In a list without repetition the layout at i is found at i, also in a front of the list that reaches so far.
place_at : (ls : List Listed) (i : ℕ) → Different ls → i < length ls → place_of ls (get_or ls i unlisted) ≡ i
place_at [] i d h = absurd (omega arith)
place_at (k ∷ ls) zero d h = place-hit k ls k (alike_self k)
place_at (k ∷ ls) (suc i) d h =
    let tail : Different ls = λ a b ha hb q. let s : suc a ≡ suc b = d (suc a) (suc b) (omega arith) (omega arith) q in omega arith in
    go (alike k (get_or ls i unlisted)) refl (place_at ls i tail (omega arith))
  where
    go : (b : Bool) → alike k (get_or ls i unlisted) ≡ b → place_of ls (get_or ls i unlisted) ≡ i → place_of (k ∷ ls) (get_or ls i unlisted) ≡ suc i
    go true q ih = let z : 0 ≡ suc i = d 0 (suc i) (omega arith) h (alike_is k (get_or ls i unlisted) q) in absurd (omega arith)
    go false q ih = place-miss k ls (get_or ls i unlisted) q ∙ ap suc ih

place-early : (ls : List Listed) (n : ℕ) (l : Listed) → place_of ls l < n → place_of (take n ls) l ≡ place_of ls l
place-early ls zero l h = absurd (omega arith)
place-early [] (suc n) l h = refl
place-early (k ∷ ls) (suc n) l h = go (alike k l) refl (place-early ls n l) h
  where
    go : (b : Bool) → alike k l ≡ b → (place_of ls l < n → place_of (take n ls) l ≡ place_of ls l) → place_of (k ∷ ls) l < suc n →
        place_of (k ∷ take n ls) l ≡ place_of (k ∷ ls) l
    go true q ih h = rw (place-hit k (take n ls) l q, place-hit k ls l q)
    go false q ih h = let h' = rw (place-miss k ls l q) at h in rw (place-miss k (take n ls) l q, place-miss k ls l q) (ap suc (ih (omega arith)))

place-late : (ls : List Listed) (n : ℕ) (l : Listed) → n ≤ place_of ls l → n ≤ place_of (take n ls) l
place-late ls zero l h = omega arith
place-late [] (suc n) l h = h
place-late (k ∷ ls) (suc n) l h = go (alike k l) refl (place-late ls n l) h
  where
    go : (b : Bool) → alike k l ≡ b → (n ≤ place_of ls l → n ≤ place_of (take n ls) l) → suc n ≤ place_of (k ∷ ls) l → suc n ≤ place_of (k ∷ take n ls) l
    go true q ih h = let h' = rw (place-hit k ls l q) at h in absurd (omega arith)
    go false q ih h = let h' = rw (place-miss k ls l q) at h in rw (place-miss k (take n ls) l q) (omega (arith, ih (omega arith)))

module _ (ls : List Listed) (d : Different ls) (listable : AllListable ls) where
  -- the layout of a record is the one at its number
  layout_of : (e : Entry) → Sound (listed_layouts ls) e → listed_of e.shape ≡ get_or ls e.layout unlisted
  layout_of e s = ap listed_of s.listing.1 ∙ shape-back (get_or ls e.layout unlisted) (listable-few (get_or ls e.layout unlisted) (listable-at ls e.layout listable s.listing.0))

  place-of : (e : Entry) → Sound (listed_layouts ls) e → place_of ls (listed_of e.shape) ≡ e.layout
  place-of e s = ap (place_of ls) (layout_of e s) ∙ place_at ls e.layout d s.listing.0

  first-from : (es : List Entry) (k : ℕ) → AllSound (listed_layouts ls) es → k ≤ length ls → Due ls k es → first_use (take k ls) es ≡ ls
  unfolding first_use
  first-from [] k s l u = elim (le-or-lt (length ls) k) [ inl g ↦ take_all k ls g | inr g ↦ absurd (omega (arith, u.used k (omega arith) g)) ]
  first-from (e ∷ es) k s l u =
      let n : ℕ = e.layout in
      let x : Listed = listed_of e.shape in
      let p : place_of ls x ≡ n = place-of e s.0 in
      let long : length (take k ls) ≡ k = length-take-le k ls l in
      elim (le-or-lt k n) [
        | inr g ↦
            let q : place_of (take k ls) x ≡ place_of ls x = place-early ls k x (omega arith) in
            rw (joined-known (take k ls) x (omega arith)) (first-from es k s.1 l (due-next ls k k e es (omega arith) g u))
        | inl g ↦ elim (le-or-lt n k) [
          | inr c ↦ absurd (omega (arith, u.ordered k n (omega arith) c s.0.listing.0, at-hit e es n refl))
          | inl c ↦
              let here : n ≡ k = omega arith in
              let next : take k ls ++ (x ∷ []) ≡ take (suc k) ls =
              ap (λ y. take k ls ++ (y ∷ [])) (layout_of e s.0 ∙ ap (λ i. get_or ls i unlisted) here)
              ∙ sym (take-suc ls k unlisted (omega (arith, s.0.listing.0))) in
              rw (joined-fresh (take k ls) x (omega (arith, place-late ls k x (omega arith))), next)
              (first-from es (suc k) s.1 (omega (arith, s.0.listing.0)) (due-next ls k (suc k) e es (omega arith) (omega arith) u))
        ]
      ]

  numbers-from : (es : List Entry) → AllSound (listed_layouts ls) es → numbered ls es ≡ es
  unfolding numbered
  numbers-from [] s = refl
  numbers-from (e ∷ es) s = cc (renumbered e (place_of ls (listed_of e.shape)) (place-of e s.0), numbers-from es s.1)

-- a settled list is found again, and so are the numbers
module _ (ls : List Listed) (es : List Entry) (t : Settled ls es) (listable : AllListable ls) (s : AllSound (listed_layouts ls) es) where
  pub first-again : first_use [] es ≡ ls
  first-again = first-from ls t.different listable es 0 s (omega arith) record { used = λ i a b. t.used i b; ordered = λ i j a b c. t.ordered i j b c }

  pub numbers-again : numbered ls es ≡ es
  numbers-again = numbers-from ls t.different listable es s
