-- Layouts in order of first use: where each stands, and what a list of them and the records numbered by it keep of the records.
use Prim.Native.Nat.{ℕ, zero, suc, ◌^◌, ◌≤◌, ◌<◌}
use mathlib.Core.Path.{◌≡◌, refl, sym, ap, ◌∙◌}
use mathlib.Core.Bool.{Bool, true, false, cond}
use mathlib.Core.Logic.{inl, inr}
use mathlib.Core.List.{List, [], ◌∷◌, ◌++◌}
use native.Mathlib.Omega.{arith}
use lib.Dec.{eqb}
use lib.ListN.{length, get_or, length-append}
use borrow.Author.Tests.{lt-ltb, le-ltb, eq-eqb, eqb-true}
use Rattle.code.specs.Lists.{Below, same}
use Rattle.code.specs.Cells.{listed}
use Rattle.code.specs.Shape.{shaped, ranges_due, given}
use Rattle.code.specs.LayoutList.{Listed, listed_numbers, listed_by, unlisted, listed_shape, listed_of, uncounted}
use Rattle.code.specs.Dump.{own_layouts, listed_layouts}
use Rattle.code.specs.NewDump.{Entry, entry_head, records_of, place_of, joined, first_use, numbered, foreign}
use Rattle.code.proofs.Tests.{le-or-lt, clash}
use Rattle.code.proofs.HexLines.{same-eq}
use Rattle.code.proofs.Records.{below_at}
use Rattle.code.proofs.Parsed.{Sound, AllSound}
use Rattle.code.proofs.LayoutLists.{Listable, AllListable, listable-at, listed_back, single-shape, single-back}

-- layouts are the same by their numbers
same_self : (xs : List ℕ) → same xs xs ≡ true
unfolding same
same_self [] = refl
same_self (x ∷ xs) = rw (eq-eqb x x refl, same_self xs)

abbrev pub alike : Listed → Listed → Bool
alike k l = same (listed_numbers k) (listed_numbers l)

pub alike_is : (k l : Listed) → alike k l ≡ true → k ≡ l
alike_is k l e = sym (listed_back k) ∙ ap listed_by (same-eq (listed_numbers k) (listed_numbers l) e) ∙ listed_back l

pub alike_self : (l : Listed) → alike l l ≡ true
alike_self l = same_self (listed_numbers l)

pub place-hit : (k : Listed) (ls : List Listed) (l : Listed) → alike k l ≡ true → place_of (k ∷ ls) l ≡ 0
unfolding place_of
place-hit k ls l e = rw e

pub place-miss : (k : Listed) (ls : List Listed) (l : Listed) → alike k l ≡ false → place_of (k ∷ ls) l ≡ suc (place_of ls l)
unfolding place_of
place-miss k ls l e = rw e

-- a layout stands in a list
abbrev pub Lists : List Listed → Listed → Type 0
Lists ls l = place_of ls l < length ls

pub place_found : (ls : List Listed) (l : Listed) → Lists ls l → get_or ls (place_of ls l) unlisted ≡ l
place_found [] l h = absurd (omega arith)
place_found (k ∷ ls) l h = go (alike k l) refl (place_found ls l) h
  where
    go : (b : Bool) → alike k l ≡ b → (Lists ls l → get_or ls (place_of ls l) unlisted ≡ l) → Lists (k ∷ ls) l →
        get_or (k ∷ ls) (place_of (k ∷ ls) l) unlisted ≡ l
    go true e ih h = rw (place-hit k ls l e) (alike_is k l e)
    go false e ih h = let h' = rw (place-miss k ls l e) at h in rw (place-miss k ls l e) (ih (omega arith))

-- more behind changes no place, and a layout put behind stands there if nowhere before
pub place-append : (ls more : List Listed) (l : Listed) → Lists ls l → place_of (ls ++ more) l ≡ place_of ls l
place-append [] more l h = absurd (omega arith)
place-append (k ∷ ls) more l h = go (alike k l) refl (place-append ls more l) h
  where
    go : (b : Bool) → alike k l ≡ b → (Lists ls l → place_of (ls ++ more) l ≡ place_of ls l) → Lists (k ∷ ls) l →
        place_of (k ∷ (ls ++ more)) l ≡ place_of (k ∷ ls) l
    go true e ih h = rw (place-hit k (ls ++ more) l e, place-hit k ls l e)
    go false e ih h =
        let h' = rw (place-miss k ls l e) at h in
        rw (place-miss k (ls ++ more) l e, place-miss k ls l e) (ap suc (ih (omega arith)))

pub place-new : (ls : List Listed) (l : Listed) → length ls ≤ place_of ls l → place_of (ls ++ (l ∷ [])) l ≡ length ls
place-new [] l h = place-hit l [] l (alike_self l)
place-new (k ∷ ls) l h = go (alike k l) refl (place-new ls l) h
  where
    go : (b : Bool) → alike k l ≡ b → (length ls ≤ place_of ls l → place_of (ls ++ (l ∷ [])) l ≡ length ls) → suc (length ls) ≤ place_of (k ∷ ls) l →
        place_of (k ∷ (ls ++ (l ∷ []))) l ≡ suc (length ls)
    go true e ih h = let h' = rw (place-hit k ls l e) at h in absurd (omega arith)
    go false e ih h = let h' = rw (place-miss k ls l e) at h in place-miss k (ls ++ (l ∷ [])) l e ∙ ap suc (ih (omega arith))

pub joined-known : (ls : List Listed) (l : Listed) → Lists ls l → joined ls l ≡ ls
unfolding joined
joined-known ls l h = rw (lt-ltb (place_of ls l) (length ls) h)

pub joined-fresh : (ls : List Listed) (l : Listed) → length ls ≤ place_of ls l → joined ls l ≡ ls ++ (l ∷ [])
unfolding joined
joined-fresh ls l h = rw (le-ltb (place_of ls l) (length ls) h)

-- what holds of a list that has the layout, and of one with the layout put behind, holds of the list joined with it
pub joined_by : (P : List Listed → Type 0) (ls : List Listed) (l : Listed) → (Lists ls l → P ls) → (length ls ≤ place_of ls l → P (ls ++ (l ∷ []))) →
    P (joined ls l)
joined_by P ls l known fresh = elim (le-or-lt (length ls) (place_of ls l)) [
  | inl h ↦ rw (joined-fresh ls l h) (fresh h)
  | inr h ↦ rw (joined-known ls l h) (known h)
]

pub joined-lists : (ls : List Listed) (l : Listed) → Lists (joined ls l) l
joined-lists ls l = joined_by (λ ks. Lists ks l) ls l (λ h. h) (λ h. omega (arith, place-new ls l h, length-append ls (l ∷ [])))

-- what stands in a list keeps its place
pub place-joined : (ls : List Listed) (l k : Listed) → Lists ls k → place_of (joined ls l) k ≡ place_of ls k
place-joined ls l k g = joined_by (λ ks. place_of ks k ≡ place_of ls k) ls l (λ h. refl) (λ h. place-append ls (l ∷ []) k g)

joined-long : (ls : List Listed) (l : Listed) → length ls ≤ length (joined ls l)
joined-long ls l = joined_by (λ ks. length ls ≤ length ks) ls l (λ h. omega arith) (λ h. omega (arith, length-append ls (l ∷ [])))

pub joined_keeps : (ls : List Listed) (l k : Listed) → Lists ls k → Lists (joined ls l) k
joined_keeps ls l k g = omega (arith, place-joined ls l k g, joined-long ls l)

pub place-first : (es : List Entry) (ls : List Listed) (k : Listed) → Lists ls k → place_of (first_use ls es) k ≡ place_of ls k
unfolding first_use
place-first [] ls k g = refl
place-first (e ∷ es) ls k g = let l = listed_of e.shape in place-first es (joined ls l) k (joined_keeps ls l k g) ∙ place-joined ls l k g

pub first-keeps : (es : List Entry) (ls : List Listed) (k : Listed) → Lists ls k → Lists (first_use ls es) k
unfolding first_use
first-keeps [] ls k g = g
first-keeps (e ∷ es) ls k g = let l = listed_of e.shape in first-keeps es (joined ls l) k (joined_keeps ls l k g)

-- the layouts of more records are those so far, joined with theirs
pub first-append : (es more : List Entry) (ls : List Listed) → first_use ls (es ++ more) ≡ first_use (first_use ls es) more
unfolding first_use
first-append [] more ls = refl
first-append (e ∷ es) more ls = first-append es more (joined ls (listed_of e.shape))

pub first_next : (es : List Entry) (e : Entry) (ls : List Listed) → first_use ls (es ++ (e ∷ [])) ≡ joined (first_use ls es) (listed_of e.shape)
unfolding first_use
first_next es e ls = first-append es (e ∷ []) ls

-- every record's layout stands in the list
abbrev pub AllListed : List Listed → List Entry → Type 0
AllListed ls [] = Unit {0}
AllListed ls (e ∷ es) = Lists ls (listed_of e.shape) × AllListed ls es

pub first-lists : (es : List Entry) (ls : List Listed) → AllListed (first_use ls es) es
unfolding first_use
first-lists [] ls = tt
first-lists (e ∷ es) ls = let l = listed_of e.shape in (first-keeps es (joined ls l) l (joined-lists ls l), first-lists es (joined ls l))

-- Old records have layouts of form 0 with one range, and so has a list of these.
pub own-listed : (e : Entry) → Sound own_layouts e →
    listed_of e.shape ≡ record { form = 0; m = e.shape.m; t = e.shape.t; ranges = get_or e.shape.v 0 0 ∷ [] }
unfolding listed_of given listed
own-listed e s = ap listed_of s.listing.1

own-listable : (e : Entry) → Sound own_layouts e → Listable (listed_of e.shape)
unfolding entry_head listed_numbers uncounted ranges_due
own-listable e s = rw (own-listed e s) record { small = (omega arith, s.small.1); counted = refl; due = refl }

own-shape : (e : Entry) → Sound own_layouts e → listed_shape (listed_of e.shape) ≡ e.shape
own-shape e s = rw s.listing.1 (single-back 0 e.shape.m e.shape.t (get_or e.shape.v 0 0))

listable-append : (ls : List Listed) (l : Listed) → AllListable ls → Listable l → AllListable (ls ++ (l ∷ []))
listable-append [] l h s = (s, tt)
listable-append (k ∷ ls) l h s = (h.0, listable-append ls l h.1 s)

pub first-listable : (es : List Entry) (ls : List Listed) → AllSound own_layouts es → AllListable ls → AllListable (first_use ls es)
unfolding first_use
first-listable [] ls s h = h
first-listable (e ∷ es) ls s h =
    let l = listed_of e.shape in
    first-listable es (joined ls l) s.1 (joined_by AllListable ls l (λ g. h) (λ g. listable-append ls l h (own-listable e s.0)))

-- a list without other forms
foreign-plain : (l : Listed) (ls : List Listed) → l.form ≡ 0 → foreign (l ∷ ls) ≡ foreign ls
unfolding foreign
foreign-plain l ls e = rw (eq-eqb l.form 0 e)

pub plain_at : (ls : List Listed) (i : ℕ) → foreign ls ≡ false → (get_or ls i unlisted).form ≡ 0
unfolding foreign
plain_at [] i h = refl
plain_at (l ∷ ls) i h = go (eqb l.form 0) refl h i (plain_at ls)
  where
    go : (b : Bool) → eqb l.form 0 ≡ b → cond b (foreign ls) true ≡ false → (i : ℕ) →
        ((j : ℕ) → foreign ls ≡ false → (get_or ls j unlisted).form ≡ 0) → (get_or (l ∷ ls) i unlisted).form ≡ 0
    go true e h zero ih = eqb-true l.form 0 e
    go true e h (suc i) ih = ih i h
    go false e h i ih = clash (cc)

plain-append : (ls : List Listed) (l : Listed) → foreign ls ≡ false → l.form ≡ 0 → foreign (ls ++ (l ∷ [])) ≡ false
unfolding foreign
plain-append [] l h e = foreign-plain l [] e
plain-append (k ∷ ls) l h e =
    let f : k.form ≡ 0 = plain_at (k ∷ ls) 0 h in
    foreign-plain k (ls ++ (l ∷ [])) f ∙ plain-append ls l (sym (foreign-plain k ls f) ∙ h) e

pub first_plain : (es : List Entry) (ls : List Listed) → AllSound own_layouts es → foreign ls ≡ false → foreign (first_use ls es) ≡ false
unfolding first_use listed_of
first_plain [] ls s h = h
first_plain (e ∷ es) ls s h =
    let l = listed_of e.shape in
    first_plain es (joined ls l) s.1 (joined_by (λ ks. foreign ks ≡ false) ls l (λ g. h) (λ g. plain-append ls l h (ap (λ k. k.form) (own-listed e s.0))))

-- Numbered by a list that has their layouts, old records are sound for a new dump.
listed-shape : (ls : List Listed) (e : Entry) → Sound own_layouts e → Lists ls (listed_of e.shape) →
    e.shape ≡ listed_shape (get_or ls (place_of ls (listed_of e.shape)) unlisted)
listed-shape ls e s h = sym (ap listed_shape (place_found ls (listed_of e.shape) h) ∙ own-shape e s)

pub numbered-sound : (es : List Entry) (ls : List Listed) → length ls ≤ 64 → AllSound own_layouts es → AllListed ls es →
    AllSound (listed_layouts ls) (numbered ls es)
unfolding numbered entry_head
numbered-sound [] ls few s h = tt
numbered-sound (e ∷ es) ls few s h =
    (record { small = (s.0.small.0, (omega (arith, h.0), tt)); listing = (h.0, listed-shape ls e s.0 h.0) }, numbered-sound es ls few s.1 h.1)

-- New records without their numbers are sound for an old dump, if their list has no other form.
listed-old : (ls : List Listed) (e : Entry) → AllListable ls → foreign ls ≡ false → Sound (listed_layouts ls) e →
    let s = e.shape in Below (2 ^ 63) (s.m ∷ s.t ∷ get_or s.v 0 0 ∷ []) × (s ≡ shaped s.m s.t (get_or s.v 0 0))
unfolding listed_numbers ranges_due
listed-old ls e h f s =
    let k : Listed = get_or ls e.layout unlisted in
    let a = listable-at ls e.layout h s.listing.0 in
    let x = a.small.1 in
    let old : k.form ≡ 0 = plain_at ls e.layout f in
    let one : length k.ranges ≡ 1 = a.due ∙ rw old in
    let v : get_or k.ranges 0 0 < 2 ^ 63 = below_at (2 ^ 63) k.ranges 0 x.1.1 (omega arith) in
    let own : listed_shape k ≡ shaped k.m k.t (get_or k.ranges 0 0) = single-shape k one ∙ rw old in
    rw (s.listing.1 ∙ own) ((x.0, (x.1.0, (v, tt))), refl)

pub unnumbered-sound : (es : List Entry) (ls : List Listed) → AllListable ls → foreign ls ≡ false → AllSound (listed_layouts ls) es →
    AllSound own_layouts (numbered [] es)
unfolding numbered place_of entry_head
unnumbered-sound [] ls h f s = tt
unnumbered-sound (e ∷ es) ls h f s =
    let o = listed-old ls e h f s.0 in
    (record { small = (s.0.small.0, o.0); listing = (refl, o.1) }, unnumbered-sound es ls h f s.1)

-- the numbers that records had do not tell
pub numbered-again : (es : List Entry) (ls ks : List Listed) → numbered ls (numbered ks es) ≡ numbered ls es
unfolding numbered
numbered-again [] ls ks = refl
numbered-again (e ∷ es) ls ks = cc (numbered-again es ls ks)

pub first-numbered : (es : List Entry) (ls ks : List Listed) → first_use ls (numbered ks es) ≡ first_use ls es
unfolding numbered first_use
first-numbered [] ls ks = refl
first-numbered (e ∷ es) ls ks = first-numbered es (joined ls (listed_of e.shape)) ks

pub records-numbered : (es : List Entry) (ks : List Listed) → records_of own_layouts (numbered ks es) ≡ records_of own_layouts es
unfolding numbered records_of entry_head
records-numbered [] ks = refl
records-numbered (e ∷ es) ks = rw (records-numbered es ks)

-- a record with its own number is itself
pub renumbered : (e : Entry) (n : ℕ) → n ≡ e.layout → record { serial = e.serial; layout = n; shape = e.shape; cells = e.cells } ≡ e
renumbered e n q = λ i. record { serial = e.serial; layout = q i; shape = e.shape; cells = e.cells }
