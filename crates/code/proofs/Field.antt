-- A write reads back, and leaves the field ready for the next.
use Prim.Native.Nat.{ℕ, zero, suc, ◌+◌, ◌-◌, ◌≤◌, ◌<◌}
use mathlib.Core.Path.{◌≡◌, refl, sym, ap, ◌∙◌}
use mathlib.Core.Logic.{◌⊎◌, inl, inr}
use mathlib.Core.Bool.{Bool, true, false, cond, ◌&&◌}
use mathlib.Core.List.{List, [], ◌∷◌}
use native.Mathlib.Omega.{arith}
use lib.ListN.{length, get_or}
use lib.Dec.{ltb, eqb}
use borrow.Author.Tests.{le-leb, lt-leb, lt-ltb, le-ltb, ltb-true, eq-eqb, ne_eqb}
use Rattle.code.specs.Deal.{written, number, deal, plainly}
use Rattle.code.specs.declared.Dealing.{Dealing}
use Rattle.code.specs.declared.Dealing.TheVariants.{Patterns}
use Rattle.code.specs.Code.{Code, erased, width, deals, dealt, generation_at, told, pattern, room}
use Rattle.code.specs.Field.{zeros, past, carriers, Reading, blank, reads, miscounted, beyond, read_at, read, leftmost, erase_by, cleared_by, lay, after_by, after, refused, wrote, write_at, write_on, write}
use Rattle.code.proofs.Groups.{erase}
use Rattle.code.specs.Lists.{Upto}
use Rattle.code.proofs.Tests.{le-or-lt, clash}
use Rattle.code.proofs.Deal.{deal-is, plainly-is, plain-written, blank-number}
use Rattle.code.proofs.Places.{deals-before}
use Rattle.code.proofs.Conditions.{Holds, Layout, head-most, falls, fits}
use Rattle.code.proofs.Groups.{Grows, zeros-written, zeros-blank, blank-zeros, upto-grows, by-wiped, by_length, by-grows, erase-zeros, lay-is, lay-blank, lay-grows}

-- A generation's pattern of a number that it has room for.
pub record Pictured (d : Dealing) (b first h h' x : ℕ) (p : List ℕ) : Type 0 where
  pub long : length p ≡ h
  pub low : first ≤ written p
  pub keeps : h' ≤ zeros p
  pub small : Upto b p
  pub back : told d p ≡ x

pattern-is : (e b first h h' x : ℕ) → 0 < b → e - 1 ≤ b → 0 < e → first ≤ 1 → h' < h → x < room (deals e b first h') h h' →
    Pictured (deals e b first h') b first h h' x (pattern (deals e b first h') h x)
unfolding deals room told pattern
pattern-is e b first h zero x pos eb ep f l hx =
    let p = plainly-is e h (x + 1) ep (omega arith) in
    let w = plain-written e (plainly e h (x + 1)) (omega (arith, p.back)) in
    record {
      long = p.long;
      low = omega arith;
      keeps = omega arith;
      small = upto-grows (e - 1) b eb (plainly e h (x + 1)) p.small;
      back = omega (arith, p.back);
    }
pattern-is e b first h (suc h') x pos eb ep f l hx =
    let d = deal-is b first h (h - suc h') x pos (omega arith) hx in
    record { long = d.long; low = d.low; keeps = omega (arith, d.high, d.long, zeros-written (deal b first h x)); small = d.small; back = d.back }

-- Where the zero groups point.
pub past_next : (hs : List ℕ) (z : ℕ) → get_or hs (suc (past hs z)) 0 ≤ z
unfolding past
past_next [] z = omega arith
past_next (h ∷ hs) z = elim (le-or-lt (get_or hs 0 0) z) [
  | inl l ↦ rw (le-leb (get_or hs 0 0) z l) l
  | inr g ↦ rw (lt-leb (get_or hs 0 0) z g) (past_next hs z)
]

pub past_is : (e b first : ℕ) (hs vs : List ℕ) (n z : ℕ) → Holds e b first hs vs → get_or hs (suc n) 0 ≤ z → (n ≡ 0) ⊎ (z < get_or hs n 0) → past hs z ≡ n
unfolding Holds past
past_is e b first [] vs n z m h (inl q) = sym q
past_is e b first [] vs n z m h (inr q) = absurd (omega arith)
past_is e b first (k ∷ hs) [] n z m h q = absurd m
past_is e b first (k ∷ hs) (v ∷ vs) zero z m h q = rw (le-leb (get_or hs 0 0) z h)
past_is e b first (k ∷ hs) (v ∷ vs) (suc n) z m h (inl q) = absurd (omega arith)
past_is e b first (k ∷ hs) (v ∷ vs) (suc n) z m h (inr q) =
    rw (lt-leb (get_or hs 0 0) z (omega (arith, head-most e (e - 1) 1 hs vs n m.2))) (ap suc (past_is e (e - 1) 1 hs vs n z m.2 h (inr q)))

pub past-below : (h : ℕ) (hs : List ℕ) (z : ℕ) → past (h ∷ hs) z < suc (length hs)
unfolding past
past-below h [] z = rw (le-leb 0 z (omega arith)) (omega arith)
past-below h (k ∷ hs) z = elim (le-or-lt k z) [
  | inl l ↦ rw (le-leb k z l) (omega arith)
  | inr g ↦ rw (lt-leb k z g) (omega (arith, past-below k hs z))
]

pub past-most : (hs : List ℕ) (z : ℕ) → 0 < length hs → past hs z < length hs
past-most [] z h = absurd (omega arith)
past-most (k ∷ hs) z h = past-below k hs z

-- which groups generation n + 1 may be written on
abbrev pub Ready : List ℕ → ℕ → List ℕ → Type 0
Ready hs zero gs = written gs ≡ 0
Ready hs (suc n) gs = get_or hs (suc n) 0 ≤ zeros gs

both : (a b : Bool) (j : ℕ) (ks : List ℕ) (i : ℕ) (gs : List ℕ) → cond (a && b) (wrote j ks) refused ≡ wrote i gs →
    (a ≡ true) × (b ≡ true) × (i ≡ j) × (gs ≡ ks)
both true true j ks i gs h = (refl, refl, cc, cc)
both true false j ks i gs h = let z : ◌≡◌ {A = ℕ} 0 1 = cc in absurd (omega arith)
both false b j ks i gs h = let z : ◌≡◌ {A = ℕ} 0 1 = cc in absurd (omega arith)

-- a reading as generation and number; "All-zero cells read as generation 1, number 0", where generation 1 may write no place
abbrev pub Tells : ℕ → Reading → ℕ → ℕ → Type 0
Tells first blank i x = (first ≡ 0) × (i ≡ 1) × (x ≡ 0)
Tells first (reads j y) i x = (i ≡ j) × (x ≡ y)
Tells first (miscounted j u) i x = ⊥
Tells first (beyond j) i x = ⊥

-- a test and a reading of generation j, which is the one that is read
read-at-which : (t u : Bool) (j x k i y : ℕ) → cond t (cond u (reads j x) (beyond j)) (miscounted j k) ≡ reads i y → i ≡ j
read-at-which true true j x k i y h = cc
read-at-which true false j x k i y h = cc
read-at-which false u j x k i y h = cc

read-at-some : (t u : Bool) (j x k : ℕ) → cond t (cond u (reads j x) (beyond j)) (miscounted j k) ≡ blank → ⊥
read-at-some true true j x k h = clash (cc)
read-at-some true false j x k h = clash (cc)
read-at-some false u j x k h = clash (cc)

module _ (c : Code) where
  -- blank groups read as such, others as they are read where their zero groups point
  pub read-blank : (gs : List ℕ) → written gs ≡ 0 → read c gs ≡ blank
  unfolding read
  read-blank gs z = rw (eq-eqb (written gs) 0 z)

  pub read-at-place : (gs : List ℕ) (n : ℕ) → 0 < written gs → past c.counts (zeros gs) ≡ n → read c gs ≡ read_at c gs n
  unfolding read
  read-at-place gs n w a = rw (ne_eqb (written gs) 0 (λ q. omega arith), a)

  pub read-at-reads : (gs p : List ℕ) (n x : ℕ) → carriers (erased c) n gs ≡ p → length p ≡ (generation_at c n).places → told (generation_at c n).dealing p ≡ x →
      x < (generation_at c n).range → read_at c gs n ≡ reads (suc n) x
  unfolding read_at
  read-at-reads gs p n x k l t h = rw (k, t, eq-eqb (length p) (generation_at c n).places l, lt-ltb x (generation_at c n).range h)

  -- where a reading fails: another count of places, or a number beyond the range
  pub read-at-miscounted : (gs p : List ℕ) (n : ℕ) → carriers (erased c) n gs ≡ p → (length p ≡ (generation_at c n).places → ⊥) →
      read_at c gs n ≡ miscounted (suc n) (length p)
  unfolding read_at
  read-at-miscounted gs p n k d = rw (k, ne_eqb (length p) (generation_at c n).places d)

  pub read-at-beyond : (gs p : List ℕ) (n x : ℕ) → carriers (erased c) n gs ≡ p → length p ≡ (generation_at c n).places → told (generation_at c n).dealing p ≡ x →
      (generation_at c n).range ≤ x → read_at c gs n ≡ beyond (suc n)
  unfolding read_at
  read-at-beyond gs p n x k l t h = rw (k, t, eq-eqb (length p) (generation_at c n).places l, le-ltb x (generation_at c n).range h)

  read_is : (gs p : List ℕ) (n x : ℕ) → 0 < written gs → past c.counts (zeros gs) ≡ n → carriers (erased c) n gs ≡ p → length p ≡ (generation_at c n).places →
      told (generation_at c n).dealing p ≡ x → x < (generation_at c n).range → read c gs ≡ reads (suc n) x
  read_is gs p n x w a k l t h = read-at-place gs n w a ∙ read-at-reads gs p n x k l t h

  pub blank-read : (gs : List ℕ) → read c gs ≡ blank → written gs ≡ 0
  unfolding read_at
  blank-read gs r = elim (le-or-lt (written gs) 0) [
    | inl z ↦ omega arith
    | inr w ↦
        let n = past c.counts (zeros gs) in
        let xs = carriers (erased c) n gs in
        let x = told (generation_at c n).dealing xs in
        absurd (read-at-some (eqb (length xs) (generation_at c n).places) (ltb x (generation_at c n).range) (suc n) x (length xs) (sym (read-at-place gs n w refl) ∙ r))
  ]

  pub read_past : (gs : List ℕ) (i y : ℕ) → read c gs ≡ reads i y → i ≡ suc (past c.counts (zeros gs))
  unfolding read_at
  read_past gs i y r = elim (le-or-lt (written gs) 0) [
    | inl z ↦ clash (cc (read-blank gs (omega arith)))
    | inr w ↦
        let n = past c.counts (zeros gs) in
        let xs = carriers (erased c) n gs in
        let x = told (generation_at c n).dealing xs in
        read-at-which (eqb (length xs) (generation_at c n).places) (ltb x (generation_at c n).range) (suc n) x (length xs) i y (sym (read-at-place gs n w refl) ∙ r)
  ]

  pub read-written : (gs : List ℕ) (i y : ℕ) → read c gs ≡ reads i y → 0 < written gs
  read-written gs i y r = elim (le-or-lt (written gs) 0) [ inl z ↦ clash (cc (read-blank gs (omega arith))) | inr w ↦ w ]

  -- Where a write goes.
  pub write_read : (x : ℕ) (gs : List ℕ) (r : Reading) → read c gs ≡ r → write c x gs ≡ write_on c x gs r
  unfolding write
  write_read x gs r q = rw q

  pub write-blank : (x : ℕ) (gs : List ℕ) → written gs ≡ 0 → write c x gs ≡ write_at c x gs 0
  unfolding write_on
  write-blank x gs z = write_read x gs blank (read-blank gs z)

  pub write-taken : (x : ℕ) (gs : List ℕ) (n : ℕ) → n < length c.counts → x < (generation_at c n).range → write_at c x gs n ≡ wrote (suc n) (after c n x gs)
  unfolding write_at
  write-taken x gs n l h = rw (lt-ltb n (length c.counts) l, lt-ltb x (generation_at c n).range h)

  pub write-at : (x : ℕ) (gs : List ℕ) (n i : ℕ) (gs' : List ℕ) → write_at c x gs n ≡ wrote i gs' →
      (n < length c.counts) × (x < (generation_at c n).range) × (i ≡ suc n) × (gs' ≡ after c n x gs)
  unfolding write_at
  write-at x gs n i gs' w =
      let q = both (ltb n (length c.counts)) (ltb x (generation_at c n).range) (suc n) (after c n x gs) i gs' w in
      (ltb-true n (length c.counts) q.0, ltb-true x (generation_at c n).range q.1, q.2, q.3)

  -- what a write of x at generation n + 1 leaves
  pub record After (n x : ℕ) (gs gs' : List ℕ) : Type 0 where
    pub long : length gs' ≡ length gs
    pub small : Upto (erased c) gs'
    pub back : 0 < written gs' → read c gs' ≡ reads (suc n) x
    pub tells : told (generation_at c n).dealing (carriers (erased c) n gs') ≡ x
    pub ready : (generation_at c n).next ≤ zeros gs'
    pub marked : 0 < n + c.first → 0 < written gs'
    pub grows : Grows (erased c) gs gs'

  -- what an accepted write of x at generation i leaves
  pub record Wrote (x : ℕ) (gs : List ℕ) (i : ℕ) (gs' : List ℕ) : Type 0 where
    pub reading : Tells c.first (read c gs') i x
    pub long : length gs' ≡ length gs
    pub small : Upto (erased c) gs'
    pub grows : Grows (erased c) gs gs'

  -- document 01's choice: the leftmost zero groups, as many as there are more than places
  abbrev pub own : ℕ → List ℕ → List Bool
  own n gs = leftmost (zeros gs - (generation_at c n).places) gs

  module _ (y : Layout c) where
    points : (n z : ℕ) → (generation_at c n).next ≤ z → (n ≡ 0) ⊎ (z < (generation_at c n).places) → past c.counts z ≡ n
    points n z = past_is (erased c) (erased c) c.first c.counts c.ranges n z y.holds

    -- Reading back, over any choice that leaves as many zero groups as the generation has places.
    pub after-by : (n x : ℕ) (ks : List Bool) (gs : List ℕ) → n < length c.counts → x < (generation_at c n).range → length gs ≡ width c →
        zeros (cleared_by (erased c) n ks gs) ≡ (generation_at c n).places → After n x gs (after_by c ks n x gs)
    unfolding after_by cleared_by carriers dealt
    after-by zero x ks gs nl hx l ex =
        let g = generation_at c 0 in
        let p = pattern g.dealing g.places x in
        let e = erased c in
        let q = pattern-is e e c.first g.places g.next x (omega (arith, y.wide)) (omega arith) (omega (arith, y.wide)) y.form (falls c y 0 nl)
        (omega (arith, fits c y 0 nl)) in
        let same : lay gs p ≡ p = lay-blank gs p (zeros-blank gs (ex ∙ sym l)) (q.long ∙ sym l) in
        rw same (record {
          long = q.long ∙ sym l;
          small = q.small;
          back = λ w. read_is p p 0 x w (points 0 (zeros p) q.keeps (inl refl)) refl q.long q.back hx;
          tells = q.back;
          ready = q.keeps;
          marked = λ f. omega (arith, q.low);
          grows = rw same at (lay-grows (erased c) gs p);
        })
    after-by (suc n) x ks gs nl hx l ex =
        let e = erased c in
        let g = generation_at c (suc n) in
        let p = pattern g.dealing g.places x in
        let q = pattern-is e (e - 1) 1 g.places g.next x (omega (arith, y.wide)) (omega arith) (omega (arith, y.wide)) (omega arith) (falls c y (suc n) nl)
        (omega (arith, fits c y (suc n) nl)) in
        let pos : 0 < e = omega (arith, y.wide) in
        let gs' = lay (erase_by e ks gs) p in
        let a = lay-is e (erase_by e ks gs) p pos (by-wiped e ks gs) (q.long ∙ sym ex) q.small in
        let z : zeros p < g.places = omega (arith, zeros-written p, q.long, q.low) in
        record {
          long = a.long ∙ by_length e ks gs;
          small = a.small;
          back = λ w. read_is gs' p (suc n) x w (points (suc n) (zeros gs') (rw a.left q.keeps) (inr (rw a.left z))) a.carried q.long q.back hx;
          tells = rw a.carried q.back;
          ready = rw a.left q.keeps;
          marked = λ f. omega (arith, a.left, a.long, by_length e ks gs, zeros-written gs', head-most e e c.first c.counts c.ranges (suc n) y.holds);
          grows = by-grows e ks gs p pos;
        }

    -- Document 01's choice leaves as many as there are places.
    pub own-exact : (n : ℕ) (gs : List ℕ) → length gs ≡ width c → Ready c.counts n gs → zeros (cleared_by (erased c) n (own n gs) gs) ≡ (generation_at c n).places
    unfolding cleared_by erase
    own-exact zero gs l r = blank-zeros gs r ∙ l
    own-exact (suc n) gs l r =
        omega (arith, erase-zeros (erased c) (zeros gs - (generation_at c (suc n)).places) gs (omega (arith, y.wide)))

    pub after_is : (n x : ℕ) (gs : List ℕ) → n < length c.counts → x < (generation_at c n).range → length gs ≡ width c → Ready c.counts n gs →
        After n x gs (after c n x gs)
    unfolding after
    after_is n x gs nl hx l r = after-by n x (own n gs) gs nl hx l (own-exact n gs l r)

    -- generation 1 deals patterns
    pub first-dealing : (generation_at c 0).dealing ≡ Patterns (erased c) c.first
    unfolding dealt
    first-dealing = deals-before (erased c) (erased c) c.first (get_or c.counts 1 0) (omega (arith, falls c y 1 y.two))

    pub first-tells : (x : ℕ) (gs gs' : List ℕ) → After 0 x gs gs' → number (erased c) c.first gs' ≡ x
    unfolding told carriers
    first-tells x gs gs' a = rw first-dealing at a.tells

    -- cells that a write leaves blank were written at generation 1 with number 0, where that writes no place
    after-blank : (n x : ℕ) (gs gs' : List ℕ) → After n x gs gs' → written gs' ≡ 0 → (c.first ≡ 0) × (n ≡ 0) × (x ≡ 0)
    after-blank zero x gs gs' a z = elim (le-or-lt c.first 0) [
      | inl f ↦ (omega arith, refl, sym (first-tells x gs gs' a) ∙ blank-number (erased c) c.first gs' z)
      | inr f ↦ absurd (omega (arith, a.marked (omega arith)))
    ]
    after-blank (suc n) x gs gs' a z = absurd (omega (arith, a.marked (omega arith)))

    pub after-tells : (n x : ℕ) (gs gs' : List ℕ) → After n x gs gs' → Tells c.first (read c gs') (suc n) x
    after-tells n x gs gs' a = elim (le-or-lt (written gs') 0) [
      | inl z ↦ let q = after-blank n x gs gs' a (omega arith) in rw (read-blank gs' (omega arith)) (q.0, ap suc q.1, q.2)
      | inr w ↦ rw (a.back w) (refl, refl)
    ]

    -- A write at a generation that the groups are ready for reads back as that generation and its number.
    pub write-at-is : (x : ℕ) (gs : List ℕ) (i : ℕ) (gs' : List ℕ) → length gs ≡ width c → (n : ℕ) → Ready c.counts n gs →
        write_at c x gs n ≡ wrote i gs' → Wrote x gs i gs'
    write-at-is x gs i gs' l n r h =
        let q = write-at x gs n i gs' h in
        let a = after_is n x gs q.0 q.1 l r in
        rw (q.2, q.3) (record { reading = after-tells n x gs (after c n x gs) a; long = a.long; small = a.small; grows = a.grows })

    -- An accepted write reads back as its generation and number.
    pub write-is : (x : ℕ) (gs : List ℕ) (i : ℕ) (gs' : List ℕ) → length gs ≡ width c → write c x gs ≡ wrote i gs' → Wrote x gs i gs'
    unfolding write_on
    write-is x gs i gs' l w = by (read c gs) refl
      where
        at : (n : ℕ) → Ready c.counts n gs → write_at c x gs n ≡ wrote i gs' → Wrote x gs i gs'
        at = write-at-is x gs i gs' l

        none : write c x gs ≡ refused → Wrote x gs i gs'
        none h = clash (cc)

        by : (r : Reading) → read c gs ≡ r → Wrote x gs i gs'
        by blank h = at 0 (blank-read gs h) (sym (write_read x gs blank h) ∙ w)
        by (miscounted j u) h = none (write_read x gs (miscounted j u) h)
        by (beyond j) h = none (write_read x gs (beyond j) h)
        by (reads j y) h =
            let q = read_past gs j y h in
            at (suc (past c.counts (zeros gs))) (past_next c.counts (zeros gs)) (rw q at (sym (write_read x gs (reads j y) h) ∙ w))
