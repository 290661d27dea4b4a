-- Layout lists: a written one reads back, and one that reads is what would be written.
use Prim.Native.Nat.{ℕ, zero, suc, ◌+◌, ◌^◌, ◌≤◌, ◌<◌}
use mathlib.Core.Path.{◌≡◌, refl, sym, ap, subst, ◌∙◌}
use mathlib.Core.Logic.{inl, inr}
use mathlib.Core.Bool.{Bool, true, false}
use mathlib.Core.List.{List, [], ◌∷◌, ◌++◌, append_assoc, append-nil}
use native.Mathlib.Omega.{arith}
use native.Mathlib.Nat.{zero-add, add-zero}
use native.Mathlib.Decide.{ℕ_discrete}
use lib.Dec.{leb}
use lib.ListN.{length, get_or, drop, length-append, length-drop}
use lib.Seq.{ext_get_or}
use borrow.Author.Tests.{lt-ltb, le-ltb, leb-true, eq-eqb, ne_eqb, not-false}
use Rattle.code.specs.Lists.{Below}
use Rattle.code.specs.Cells.{listed}
use Rattle.code.specs.Shape.{single, ranges_due, given}
use Rattle.code.specs.Calls.{filled}
use Rattle.code.specs.Numerals.{sevens, numerals_of, Numbers, cut, numbers, read_numbers}
use Rattle.code.specs.LayoutList.{Listed, listed_numbers, listed_by, unlisted, listed_shape, listed_of, layouts_of, Layouts, broken_list, layouts, led_layouts, uncounted}
use Rattle.code.specs.LayoutList.{followed, read_layout, read_layouts, counted_layouts, layout_list}
use Rattle.code.proofs.Tests.{le-or-lt, clash, both_true}
use Rattle.code.proofs.Numbers.{listed-length, listed_at}
use Rattle.code.proofs.ByteLists.{below-append}
use Rattle.code.proofs.LayoutCall.{filled_at}
use Rattle.code.proofs.Wits.{Bytes}
use Rattle.code.proofs.Digits.{sevens-last}
use Rattle.code.proofs.Records.{behind, numerals-append, numerals-read}
use Rattle.code.proofs.Walk.{numbers-ahead, numbers-within}

-- what a list can hold: numbers of at most nine bytes, and as many ranges as the form has, a number of them that can be said
pub record Listable (l : Listed) : Type 0 where
  pub small : Below (2 ^ 63) (listed_numbers l)
  pub counted : uncounted (listed_numbers l) ≡ false
  pub due : length l.ranges ≡ ranges_due l.form l.t

abbrev pub AllListable : List Listed → Type 0
AllListable [] = Unit {0}
AllListable (l ∷ ls) = Listable l × AllListable ls

pub listable-at : (ls : List Listed) (i : ℕ) → AllListable ls → i < length ls → Listable (get_or ls i unlisted)
listable-at [] i h l = absurd (omega arith)
listable-at (k ∷ ls) zero h l = h.0
listable-at (k ∷ ls) (suc i) h l = listable-at ls i h.1 (omega arith)

only_one : (xs : List ℕ) → length xs ≡ 1 → get_or xs 0 0 ∷ [] ≡ xs
only_one [] e = absurd (omega arith)
only_one (x ∷ []) e = refl
only_one (x ∷ y ∷ xs) e = absurd (omega arith)

-- a layout has at most 16 ranges, and one where its form is not 2
pub due-single : (form t : ℕ) → (form ≡ 2 → ⊥) → ranges_due form t ≡ 1
unfolding ranges_due
due-single form t n = rw (ne_eqb form 2 n)

due-most : (xs : List ℕ) → uncounted xs ≡ false → ranges_due (get_or xs 0 0) (get_or xs 2 0) ≤ 16
unfolding uncounted ranges_due
due-most xs h = elim (ℕ_discrete (get_or xs 0 0) 2) [
  | yes two ↦
      let t = get_or xs 2 0 in
      let h' = rw (eq-eqb (get_or xs 0 0) 2 two) at h in
      rw (eq-eqb (get_or xs 0 0) 2 two) (leb-true t 16 (both_true (leb 2 t) (leb t 16) (not-false _ h')).1)
  | no n ↦ rw (ne_eqb (get_or xs 0 0) 2 n) (omega arith)
]

pub listable-few : (l : Listed) → Listable l → length l.ranges ≤ 16
unfolding listed_numbers
listable-few l s = omega (arith, s.due, due-most (listed_numbers l) s.counted)

-- and one at least
pub listable-some : (l : Listed) → Listable l → 0 < length l.ranges
unfolding listed_numbers uncounted ranges_due
listable-some l s = elim (ℕ_discrete l.form 2) [
  | yes two ↦
      let h = rw (eq-eqb l.form 2 two) at s.counted in
      let low = leb-true 2 l.t (both_true (leb 2 l.t) (leb l.t 16) (not-false _ h)).0 in
      omega (arith, rw (eq-eqb l.form 2 two) at s.due)
  | no n ↦ omega (arith, rw (ne_eqb l.form 2 n) at s.due)
]

-- the numbers of a list that is filled up
filled-back : (n : ℕ) (xs : List ℕ) → length xs ≤ n → listed (λ i. get_or (filled n xs) i 0) 0 (length xs) ≡ xs
filled-back n xs h = ext_get_or 0 _ xs (listed-length _ 0 (length xs)) (λ i l.
    let k : i < length xs = omega (arith, listed-length (λ i. get_or (filled n xs) i 0) 0 (length xs)) in
    listed_at (λ i. get_or (filled n xs) i 0) 0 (length xs) i k ∙ rw (zero-add i) (filled_at n xs i (omega arith)))

-- a layout is that of its shape
pub shape-back : (l : Listed) → length l.ranges ≤ 16 → listed_of (listed_shape l) ≡ l
unfolding listed_of listed_shape given
shape-back l few = λ i. record { form = l.form; m = l.m; t = l.t; ranges = filled-back 16 l.ranges few i }

-- a layout with one range has a shape with one, which is its own
pub single-shape : (l : Listed) → length l.ranges ≡ 1 → listed_shape l ≡ single l.form l.m l.t (get_or l.ranges 0 0)
unfolding listed_shape filled
single-shape l one =
    λ i. record { form = l.form; m = l.m; t = l.t; count = one i; v = ap (filled 16) (sym (only_one l.ranges one)) i }

pub single-back : (form m t v : ℕ) → listed_shape (listed_of (single form m t v)) ≡ single form m t v
unfolding listed_shape listed_of given listed filled
single-back form m t v = refl

-- a layout is made of its numbers
pub listed_back : (l : Listed) → listed_by (listed_numbers l) ≡ l
unfolding listed_by listed_numbers
listed_back l = refl

numbers-back : (xs : List ℕ) → 3 ≤ length xs → listed_numbers (listed_by xs) ≡ xs
unfolding listed_by listed_numbers
numbers-back [] h = absurd (omega arith)
numbers-back (a ∷ []) h = absurd (omega arith)
numbers-back (a ∷ b ∷ []) h = absurd (omega arith)
numbers-back (a ∷ b ∷ c ∷ xs) h = refl

pub layouts-append : (ls more : List Listed) → layouts_of (ls ++ more) ≡ layouts_of ls ++ layouts_of more
unfolding layouts_of
layouts-append [] more = refl
layouts-append (l ∷ ls) more = rw (layouts-append ls more, append_assoc)

-- The numbers of a layout: three, and its ranges behind them.
followed-was : (xs : List ℕ) (r : Numbers) (zs : List ℕ) (end : ℕ) → followed xs r ≡ numbers zs end → (ys : List ℕ) × (r ≡ numbers ys end) × (xs ++ ys ≡ zs)
unfolding followed
followed-was xs cut zs end e = clash (cc)
followed-was xs (numbers ys last) zs end e = (ys, cc, cc)

pub layout-cut : (bytes : List ℕ) (at : ℕ) → read_numbers 3 bytes at ≡ cut → read_layout bytes at ≡ cut
unfolding read_layout
layout-cut bytes at q = rw (q, read_layout)

pub layout-uncounted : (bytes : List ℕ) (at : ℕ) (xs : List ℕ) (mid : ℕ) → read_numbers 3 bytes at ≡ numbers xs mid → uncounted xs ≡ true → read_layout bytes at ≡ cut
unfolding read_layout
layout-uncounted bytes at xs mid q c = rw (q, read_layout, c)

pub layout-behind : (bytes : List ℕ) (at : ℕ) (xs : List ℕ) (mid : ℕ) → read_numbers 3 bytes at ≡ numbers xs mid → uncounted xs ≡ false →
    read_layout bytes at ≡ followed xs (read_numbers (ranges_due (get_or xs 0 0) (get_or xs 2 0)) bytes mid)
unfolding read_layout
layout-behind bytes at xs mid q c = rw (q, read_layout, c)

-- what the numbers of a layout are that read
pub record Told (bytes : List ℕ) (at : ℕ) (zs : List ℕ) (end : ℕ) : Type 0 where
  pub three : 3 ≤ length zs
  pub counted : uncounted zs ≡ false
  pub due : length (drop 3 zs) ≡ ranges_due (get_or zs 0 0) (get_or zs 2 0)
  pub further : at < end
  pub inside : end ≤ length bytes
  pub small : Bytes bytes → Below (2 ^ 63) zs
  pub back : Bytes bytes → drop at bytes ≡ numerals_of zs ++ drop end bytes

-- the first three of them and those behind
three-told : (xs ys : List ℕ) → length xs ≡ 3 →
    (get_or (xs ++ ys) 0 0 ≡ get_or xs 0 0) × (get_or (xs ++ ys) 2 0 ≡ get_or xs 2 0) × (drop 3 (xs ++ ys) ≡ ys)
three-told [] ys e = absurd (omega arith)
three-told (a ∷ []) ys e = absurd (omega arith)
three-told (a ∷ b ∷ []) ys e = absurd (omega arith)
three-told (a ∷ b ∷ c ∷ []) ys e = (refl, refl, refl)
three-told (a ∷ b ∷ c ∷ d ∷ xs) ys e = absurd (omega arith)

uncounted-same : (xs zs : List ℕ) → get_or zs 0 0 ≡ get_or xs 0 0 → get_or zs 2 0 ≡ get_or xs 2 0 → uncounted zs ≡ uncounted xs
unfolding uncounted
uncounted-same xs zs a b = rw (a, b)

pub layout-told : (bytes : List ℕ) (at : ℕ) (zs : List ℕ) (end : ℕ) → read_layout bytes at ≡ numbers zs end → Told bytes at zs end
layout-told bytes at zs end e = go (read_numbers 3 bytes at) refl
  where
    made : (xs : List ℕ) (mid : ℕ) → read_numbers 3 bytes at ≡ numbers xs mid → uncounted xs ≡ false →
        followed xs (read_numbers (ranges_due (get_or xs 0 0) (get_or xs 2 0)) bytes mid) ≡ numbers zs end → Told bytes at zs end
    made xs mid q c f =
        let n = ranges_due (get_or xs 0 0) (get_or xs 2 0) in
        let p = followed-was xs (read_numbers n bytes mid) zs end f in
        let ys = p.0 in
        let a = numbers-ahead 3 bytes at xs mid q in
        let r = numbers-ahead n bytes mid ys end p.1 in
        let s = three-told xs ys a.many in
        rw (← p.2) record {
          three = omega (arith, length-append xs ys, a.many);
          counted = uncounted-same xs (xs ++ ys) s.0 s.1 ∙ c;
          due = rw (s.2, s.0, s.1) r.many;
          further = omega (arith, a.further, r.further);
          inside = r.within (numbers-within 2 bytes at xs mid q);
          small = λ b. below-append (2 ^ 63) xs ys (a.small b) (r.small b);
          back = λ b. a.back b ∙ rw (r.back b, numerals-append xs ys) (sym (append_assoc (numerals_of xs) (numerals_of ys) (drop end bytes)));
        }

    behind-three : (xs : List ℕ) (mid : ℕ) (c : Bool) → uncounted xs ≡ c → read_numbers 3 bytes at ≡ numbers xs mid → Told bytes at zs end
    behind-three xs mid true c q = clash (cc (layout-uncounted bytes at xs mid q c))
    behind-three xs mid false c q = made xs mid q c (sym (layout-behind bytes at xs mid q c) ∙ e)

    go : (r : Numbers) → read_numbers 3 bytes at ≡ r → Told bytes at zs end
    go cut q = clash (cc (layout-cut bytes at q))
    go (numbers xs mid) q = behind-three xs mid (uncounted xs) refl q

-- its numbers take a byte at least, and end within the bytes
pub layout-further : (bytes : List ℕ) (at : ℕ) (zs : List ℕ) (end : ℕ) → read_layout bytes at ≡ numbers zs end → (at < end) × (end ≤ length bytes)
layout-further bytes at zs end e = ((layout-told bytes at zs end e).further, (layout-told bytes at zs end e).inside)

-- so a layout that reads can be listed
told-listable : (bytes : List ℕ) (at : ℕ) (zs : List ℕ) (end : ℕ) → Bytes bytes → Told bytes at zs end → Listable (listed_by zs)
unfolding listed_by
told-listable bytes at zs end b a =
    let all : listed_numbers (listed_by zs) ≡ zs = numbers-back zs a.three in
    record { small = subst (Below (2 ^ 63)) (sym all) (a.small b); counted = ap uncounted all ∙ a.counted; due = a.due }

pub layouts-one : (k : ℕ) (bytes : List ℕ) (at : ℕ) (xs : List ℕ) (end : ℕ) → read_layout bytes at ≡ numbers xs end →
    read_layouts (suc k) bytes at ≡ led_layouts (listed_by xs) (read_layouts k bytes end)
unfolding read_layouts
layouts-one k bytes at xs end e = rw (e, read_layouts)

pub layouts-cut : (k : ℕ) (bytes : List ℕ) (at : ℕ) → read_layout bytes at ≡ cut → read_layouts (suc k) bytes at ≡ broken_list
unfolding read_layouts
layouts-cut k bytes at e = rw (e, read_layouts)

-- the numbers of a layout that is written read back
layout-reads : (l : Listed) (bytes : List ℕ) (at : ℕ) (rest : List ℕ) → Listable l → drop at bytes ≡ numerals_of (listed_numbers l) ++ rest →
    read_layout bytes at ≡ numbers (listed_numbers l) (at + length (numerals_of (listed_numbers l)))
unfolding listed_numbers followed
layout-reads l bytes at rest s e =
    let xs : List ℕ = l.form ∷ l.m ∷ l.t ∷ [] in
    let front : List ℕ = numerals_of xs in
    let ranges : List ℕ = numerals_of l.ranges in
    let both : numerals_of (listed_numbers l) ≡ front ++ ranges = numerals-append xs l.ranges in
    let e' : drop at bytes ≡ front ++ (ranges ++ rest) = e ∙ rw both (append_assoc front ranges rest) in
    let three = numerals-read xs bytes at (ranges ++ rest) (s.small.0, (s.small.1.0, (s.small.1.1.0, tt))) e' in
    let more = numerals-read l.ranges bytes (at + length front) rest s.small.1.1.1 (behind bytes at front (ranges ++ rest) e') in
    let n : at + length front + length ranges ≡ at + length (numerals_of (listed_numbers l)) = rw both (omega (arith, length-append front ranges)) in
    let due = rw s.due at more in
    rw (← n) (layout-behind bytes at xs (at + length front) three (uncounted-same (listed_numbers l) xs refl refl ∙ s.counted) ∙ rw due)

-- layouts that are written read back
layouts-read : (ls : List Listed) (bytes : List ℕ) (at : ℕ) (rest : List ℕ) → AllListable ls → drop at bytes ≡ layouts_of ls ++ rest →
    read_layouts (length ls) bytes at ≡ layouts ls (at + length (layouts_of ls))
unfolding layouts_of read_layouts led_layouts
layouts-read [] bytes at rest s e = rw add-zero
layouts-read (l ∷ ls) bytes at rest s e =
    let front : List ℕ = numerals_of (listed_numbers l) in
    let e' : drop at bytes ≡ front ++ (layouts_of ls ++ rest) = e ∙ append_assoc front (layouts_of ls) rest in
    let n : at + length (front ++ layouts_of ls) ≡ at + length front + length (layouts_of ls) = omega (arith, length-append front (layouts_of ls)) in
    layouts-one (length ls) bytes at (listed_numbers l) (at + length front) (layout-reads l bytes at (layouts_of ls ++ rest) s.0 e')
    ∙ rw (listed_back l, layouts-read ls bytes (at + length front) rest s.1 (behind bytes at front (layouts_of ls ++ rest) e'), n)

-- layouts that read are what would be written
record Wrote (bytes : List ℕ) (k at : ℕ) (ls : List Listed) (start : ℕ) : Type 0 where
  many : length ls ≡ k
  listable : AllListable ls
  back : drop at bytes ≡ layouts_of ls ++ drop start bytes

led-was : (l : Listed) (r : Layouts) (ls : List Listed) (start : ℕ) → led_layouts l r ≡ layouts ls start →
    (ks : List Listed) × (r ≡ layouts ks start) × (l ∷ ks ≡ ls)
unfolding led_layouts
led-was l broken_list ls start e = clash (cc)
led-was l (layouts ks last) ls start e = (ks, cc, cc)

layouts-were : (k : ℕ) (bytes : List ℕ) (at : ℕ) (ls : List Listed) (start : ℕ) → Bytes bytes → read_layouts k bytes at ≡ layouts ls start →
    Wrote bytes k at ls start
unfolding read_layouts layouts_of
layouts-were zero bytes at ls start b e =
    let q : at ≡ start = cc in
    let none : [] ≡ ls = cc in
    rw (← q, ← none) record { many = refl; listable = tt; back = refl }
layouts-were (suc k) bytes at ls start b e = go (read_layout bytes at) refl (λ end ks. layouts-were k bytes end ks start b)
  where
    go : (r : Numbers) → read_layout bytes at ≡ r →
        ((end : ℕ) (ks : List Listed) → read_layouts k bytes end ≡ layouts ks start → Wrote bytes k end ks start) → Wrote bytes (suc k) at ls start
    go cut q ih = clash (cc (layouts-cut k bytes at q))
    go (numbers xs end) q ih =
        let l : Listed = listed_by xs in
        let p = led-was l (read_layouts k bytes end) ls start (sym (layouts-one k bytes at xs end q) ∙ e) in
        let w = ih end p.0 p.1 in
        let a = layout-told bytes at xs end q in
        let all : listed_numbers l ≡ xs = numbers-back xs a.three in
        rw (← p.2) record {
          many = ap suc w.many;
          listable = (told-listable bytes at xs end b a, w.listable);
          back = a.back b ∙ rw (w.back, all) (sym (append_assoc (numerals_of xs) (layouts_of p.0) (drop start bytes)));
        }

-- a list ends within the bytes
layouts-within : (k : ℕ) (bytes : List ℕ) (at : ℕ) (ls : List Listed) (start : ℕ) → at ≤ length bytes → read_layouts k bytes at ≡ layouts ls start →
    start ≤ length bytes
unfolding read_layouts
layouts-within zero bytes at ls start h e = let q : at ≡ start = cc in omega arith
layouts-within (suc k) bytes at ls start h e = go (read_layout bytes at) refl (λ end ks. layouts-within k bytes end ks start)
  where
    go : (r : Numbers) → read_layout bytes at ≡ r →
        ((end : ℕ) (ks : List Listed) → end ≤ length bytes → read_layouts k bytes end ≡ layouts ks start → start ≤ length bytes) → start ≤ length bytes
    go cut q ih = clash (cc (layouts-cut k bytes at q))
    go (numbers xs end) q ih =
        let p = led-was (listed_by xs) (read_layouts k bytes end) ls start (sym (layouts-one k bytes at xs end q) ∙ e) in
        ih end p.0 (layout-told bytes at xs end q).inside p.1

pub list-within : (bytes : List ℕ) (ls : List Listed) (start : ℕ) → layout_list bytes ≡ layouts ls start → start ≤ length bytes
unfolding layout_list counted_layouts
list-within bytes ls start e = go (read_numbers 1 bytes 0) refl e
  where
    go : (r : Numbers) → read_numbers 1 bytes 0 ≡ r → counted_layouts bytes r ≡ layouts ls start → start ≤ length bytes
    go cut q e = clash (cc)
    go (numbers xs end) q e = elim (le-or-lt (get_or xs 0 0) 64) [
      | inr h ↦ let e' = rw (lt-ltb 64 (get_or xs 0 0) h) at e in clash (cc)
      | inl h ↦
          let inside = (numbers-ahead 1 bytes 0 xs end q).within (omega arith) in
          layouts-within (get_or xs 0 0) bytes end ls start inside (rw (le-ltb 64 (get_or xs 0 0) h) at e)
    ]

-- a count of layouts is one byte
pub count-byte : (n : ℕ) → n ≤ 64 → numerals_of (n ∷ []) ≡ n ∷ []
unfolding numerals_of
count-byte n h = append-nil (sevens 9 n) ∙ sevens-last 8 n (omega arith)

counted_is : (bytes : List ℕ) (n end : ℕ) → n ≤ 64 → counted_layouts bytes (numbers (n ∷ []) end) ≡ read_layouts n bytes end
unfolding counted_layouts
counted_is bytes n end h = rw (le-ltb 64 n h)

-- a written list reads back
pub list-reads : (ls : List Listed) (rest : List ℕ) → AllListable ls → length ls ≤ 64 →
    layout_list (numerals_of (length ls ∷ []) ++ (layouts_of ls ++ rest)) ≡ layouts ls (1 + length (layouts_of ls))
unfolding layout_list
list-reads ls rest s h =
    let n : ℕ = length ls in
    let bytes : List ℕ = numerals_of (n ∷ []) ++ (layouts_of ls ++ rest) in
    let one : numerals_of (n ∷ []) ≡ n ∷ [] = count-byte n h in
    let read : read_numbers 1 bytes 0 ≡ numbers (n ∷ []) 1 = numerals-read (n ∷ []) bytes 0 (layouts_of ls ++ rest) (omega arith, tt) refl ∙ rw one in
    ap (counted_layouts bytes) read ∙ counted_is bytes n 1 h ∙ layouts-read ls bytes 1 rest s (rw one)

-- a list that reads is what would be written
pub record ListWas (bytes : List ℕ) (ls : List Listed) (start : ℕ) : Type 0 where
  pub few : length ls ≤ 64
  pub listable : AllListable ls
  pub back : bytes ≡ numerals_of (length ls ∷ []) ++ (layouts_of ls ++ drop start bytes)
  pub within : start ≤ length bytes

pub list-was : (bytes : List ℕ) (ls : List Listed) (start : ℕ) → Bytes bytes → layout_list bytes ≡ layouts ls start → ListWas bytes ls start
unfolding layout_list counted_layouts
list-was bytes ls start b whole = go (read_numbers 1 bytes 0) refl whole
  where
    go : (r : Numbers) → read_numbers 1 bytes 0 ≡ r → counted_layouts bytes r ≡ layouts ls start → ListWas bytes ls start
    go cut q e = clash (cc)
    go (numbers xs end) q e = elim (le-or-lt (get_or xs 0 0) 64) [
      | inr h ↦ let e' = rw (lt-ltb 64 (get_or xs 0 0) h) at e in clash (cc)
      | inl h ↦
          let n : ℕ = get_or xs 0 0 in
          let a = numbers-ahead 1 bytes 0 xs end q in
          let w = layouts-were n bytes end ls start b (rw (le-ltb 64 n h) at e) in
          record {
            few = omega (arith, w.many);
            listable = w.listable;
            back = a.back b ∙ rw (w.back, w.many) (ap (λ l. numerals_of l ++ (layouts_of ls ++ drop start bytes)) (sym (only_one xs a.many)));
            within = list-within bytes ls start whole;
          }
    ]
