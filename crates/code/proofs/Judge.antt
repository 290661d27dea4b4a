-- Document 02, §8, on groups: the tests say yes with x exactly where some choice of spare groups makes the groups after a right write of x.
use Prim.Native.Nat.{ℕ, zero, suc, ◌+◌, ◌-◌, ◌≤◌, ◌<◌}
use mathlib.Core.Path.{◌≡◌, refl, sym, ap, ◌∙◌}
use mathlib.Core.Logic.{inl, inr}
use mathlib.Core.Bool.{Bool, true, false, cond}
use mathlib.Core.List.{List, [], ◌∷◌}
use native.Mathlib.Omega.{arith}
use lib.ListN.{length}
use lib.Dec.{ltb, eqb}
use borrow.Author.Tests.{ltb-true, eq-eqb, eqb-true}
use Rattle.code.specs.Deal.{written, number, deal, plain}
use Rattle.code.specs.declared.Dealing.{Dealing}
use Rattle.code.specs.declared.Dealing.TheVariants.{Patterns, Digits}
use Rattle.code.specs.Code.{Code, erased, width, deals, dealt, generation_at, told, pattern}
use Rattle.code.specs.Field.{zeros, past, carriers, unerased, Reading, blank, reads, miscounted, beyond, read_at, read, lay, after, refused, wrote, write_at, write_on, write, erase_by, cleared_by, after_by}
use Rattle.code.specs.Lists.{Upto}
use Rattle.code.specs.Judge.{RightWrite, Due, Rightly, Verdict, right, wrong, wipes, wiped, read_as, judge_at, judge_on, judges}
use Rattle.code.proofs.Tests.{le-or-lt, clash}
use Rattle.code.proofs.Deal.{deal-back, plainly-back, blank-number}
use Rattle.code.proofs.Conditions.{Layout}
use Rattle.code.proofs.Groups.{Grows, zeros-written, blank-zeros, unerased-zeros, lay-blank}
use Rattle.code.proofs.Choices.{by-wipes, spared, spared-is, unerased-small, written-plain, past-above}
use Rattle.code.proofs.Field.{past_next, past-below, Tells, read-blank, read-at-place, blank-read, read_past, own, own-exact, after-by, first-dealing, after-tells, Ready, write_read, write-at}

-- What a reading tells of its parts.
read-at-parts : (t u : Bool) (j x k i y : ℕ) → cond t (cond u (reads j x) (beyond j)) (miscounted j k) ≡ reads i y → (t ≡ true) × (u ≡ true) × (y ≡ x)
read-at-parts true true j x k i y h = (refl, refl, cc)
read-at-parts true false j x k i y h = clash (cc)
read-at-parts false u j x k i y h = clash (cc)

pub record Parts (c : Code) (n x : ℕ) (gs : List ℕ) : Type 0 where
  pub some : 0 < written gs
  pub points : past c.counts (zeros gs) ≡ n
  pub many : length (carriers (erased c) n gs) ≡ (generation_at c n).places
  pub tells : told (generation_at c n).dealing (carriers (erased c) n gs) ≡ x
  pub ranged : x < (generation_at c n).range

pub read-parts : (c : Code) (n x : ℕ) (gs : List ℕ) → read c gs ≡ reads (suc n) x → Parts c n x gs
unfolding read_at
read-parts c n x gs r = elim (le-or-lt (written gs) 0) [
  | inl z ↦ clash (cc (read-blank c gs (omega arith)))
  | inr w ↦
      let q : past c.counts (zeros gs) ≡ n = omega (arith, read_past c gs (suc n) x r) in
      let g = generation_at c n in
      let xs = carriers (erased c) n gs in
      let y = told g.dealing xs in
      let p = read-at-parts (eqb (length xs) g.places) (ltb y g.range) (suc n) y (length xs) (suc n) x (sym (read-at-place c gs n w q) ∙ r) in
      record {
        some = w;
        points = q;
        many = eqb-true (length xs) g.places p.0;
        tells = sym p.2;
        ranged = rw p.2 (ltb-true y g.range p.1);
      }
]

-- what a place may hold at most, how many are written at least, and digits that have a base
highest : Dealing → ℕ
highest (Patterns b first) = b
highest (Digits e) = e - 1

fewest : Dealing → ℕ
fewest (Patterns b first) = first
fewest (Digits e) = 1

Whole : Dealing → Type 0
Whole (Patterns b first) = Unit {0}
Whole (Digits e) = 0 < e

-- a later generation writes at least one place, none of them all ones
dealt-later : (e first n next : ℕ) → 0 < e → let d = dealt e first (suc n) next in (highest d ≡ e - 1) × (fewest d ≡ 1) × Whole d
unfolding dealt deals highest fewest Whole
dealt-later e first n zero pos = (refl, refl, pos)
dealt-later e first n (suc next) pos = (refl, refl, tt)

-- a pattern comes back from its number

pattern-back : (d : Dealing) (p : List ℕ) → Whole d → Upto (highest d) p → fewest d ≤ written p → pattern d (length p) (told d p) ≡ p
unfolding Whole highest fewest pattern told
pattern-back (Patterns b first) p w u l = deal-back b first p u l
pattern-back (Digits e) p w u l =
    let q : plain e p - 1 + 1 ≡ plain e p = omega (arith, written-plain e p w l) in
    rw q (plainly-back e p w u)

-- a reading as the due generation, both ways
tells_as : (first n x : ℕ) (r : Reading) → Tells first r (suc n) x → read_as first n r ≡ right x
unfolding read_as
tells_as first n x blank t = rw (eq-eqb (first + n) 0 (omega (arith, t.0, t.1)), t.2)
tells_as first n x (reads i y) t = rw (eq-eqb i (suc n) (sym t.0), t.1)
tells_as first n x (miscounted i u) t = absurd t
tells_as first n x (beyond i) t = absurd t

test-true : (t : Bool) (v : Verdict) (x : ℕ) → cond t v wrong ≡ right x → (t ≡ true) × (v ≡ right x)
test-true true v x h = (refl, h)
test-true false v x h = clash (cc)

as-tells : (first n x : ℕ) (r : Reading) → read_as first n r ≡ right x → Tells first r (suc n) x
unfolding read_as
as-tells first n x blank h =
    let q = test-true (eqb (first + n) 0) (right 0) x h in
    let z = eqb-true (first + n) 0 q.0 in
    let y = q.1 in
    (omega arith, omega arith, cc)
as-tells first n x (reads i y) h =
    let q = test-true (eqb i (suc n)) (right y) x h in
    let z = eqb-true i (suc n) q.0 in
    let w = q.1 in
    (sym z, cc)
as-tells first n x (miscounted i u) h = clash (cc)
as-tells first n x (beyond i) h = clash (cc)

past-there : (hs : List ℕ) (z n : ℕ) → past hs z ≡ suc n → suc n < length hs
unfolding past
past-there [] z n q = absurd (omega arith)
past-there (h ∷ hs) z n q = omega (arith, past-below h hs z)

module _ (c : Code) (y : Layout c) where
  positive : 0 < erased c
  positive = omega (arith, y.wide)

  by-wiped-all : (n x : ℕ) (ks : List Bool) (gs : List ℕ) → wiped (erased c) n gs (after_by c ks n x gs) ≡ true
  unfolding wiped after_by cleared_by
  by-wiped-all zero x ks gs = refl
  by-wiped-all (suc n) x ks gs = by-wipes (erased c) ks gs (pattern (generation_at c (suc n)).dealing (generation_at c (suc n)).places x) positive

  -- from a choice to the tests
  pub right-judged : (before : List ℕ) (n x : ℕ) (gs : List ℕ) → length before ≡ width c → RightWrite c before n x gs → judge_at c n before gs ≡ right x
  unfolding judge_at
  right-judged before n x gs l r =
      let gs' = after_by c r.chosen n x before in
      let a = after-by c y n x r.chosen before r.there r.ranged l r.exact in
      rw (r.made, by-wiped-all n x r.chosen before) (tells_as c.first n x (read c gs') (after-tells c y n x before gs' a))

  -- no 1 became 0: each group is as it was, or was zero, or is all ones
  pub right-grows : (before : List ℕ) (n x : ℕ) (gs : List ℕ) → length before ≡ width c → RightWrite c before n x gs → Grows (erased c) before gs
  right-grows before n x gs l r = rw r.made (after-by c y n x r.chosen before r.there r.ranged l r.exact).grows

  -- from the tests to a choice
  module _ (some : 0 < (generation_at c 0).range) (before gs : List ℕ) (l : length before ≡ width c) (lg : length gs ≡ width c) (u : Upto (erased c) gs) where
    record First (x : ℕ) : Type 0 where
      tells : number (erased c) c.first gs ≡ x
      low : c.first ≤ written gs
      ranged : x < (generation_at c 0).range

    first-of : (x : ℕ) (r : Reading) → read c gs ≡ r → Tells c.first r 1 x → First x
    unfolding told carriers
    first-of x blank q t =
        let w = blank-read c gs q in
        record { tells = blank-number (erased c) c.first gs w ∙ sym t.2; low = omega (arith, t.0); ranged = omega (arith, t.2) }
    first-of x (reads i z) q t =
        let q' : read c gs ≡ reads 1 x = q ∙ rw (t.0, t.1) in
        let P = read-parts c 0 x gs q' in
        record { tells = rw (first-dealing c y) at P.tells; low = omega (arith, y.form, P.some); ranged = P.ranged }
    first-of x (miscounted i k) q t = absurd t
    first-of x (beyond i) q t = absurd t

    later_of : (n x : ℕ) (r : Reading) → read c gs ≡ r → Tells c.first r (suc (suc n)) x → Parts c (suc n) x gs
    later_of n x blank q t = absurd (omega (arith, t.1))
    later_of n x (reads i z) q t = read-parts c (suc n) x gs (q ∙ rw (t.0, t.1))
    later_of n x (miscounted i k) q t = absurd t
    later_of n x (beyond i) q t = absurd t

    pub judged-right : (n x : ℕ) → (n ≡ 0 → written before ≡ 0) → judge_at c n before gs ≡ right x → RightWrite c before n x gs
    unfolding judge_at wiped after_by cleared_by pattern carriers
    judged-right zero x b h =
        let g = generation_at c 0 in
        let f = first-of x (read c gs) refl (as-tells c.first 0 x (read c gs) h) in
        let d : deal (erased c) c.first g.places x ≡ gs = rw (lg, f.tells) at (deal-back (erased c) c.first gs u f.low) in
        let p : pattern g.dealing g.places x ≡ gs = rw (first-dealing c y) d in
        record {
          there = omega (arith, y.two);
          ranged = f.ranged;
          chosen = [];
          exact = blank-zeros before (b refl) ∙ l;
          made = sym (ap (lay before) p ∙ lay-blank before gs (b refl) (lg ∙ sym l));
        }
    judged-right (suc n) x b h =
        let e = erased c in
        let g = generation_at c (suc n) in
        let q = test-true (wipes e before gs) (read_as c.first (suc n) (read c gs)) x h in
        let P = later_of n x (read c gs) refl (as-tells c.first (suc n) x (read c gs) q.1) in
        let d = dealt-later e c.first n g.next positive in
        let p = unerased e gs in
        let w : 1 ≤ written p = omega (arith, zeros-written p, unerased-zeros e gs positive, P.many, past-above c.counts (zeros gs) n P.points) in
        let k = pattern-back g.dealing p d.2 (rw d.0 (unerased-small e gs u)) (rw d.1 w) in
        let k' : pattern g.dealing g.places x ≡ p = rw (P.many, P.tells) at k in
        let s = spared-is e before gs positive (l ∙ sym lg) q.0 in
        record {
          there = past-there c.counts (zeros gs) n P.points;
          ranged = P.ranged;
          chosen = spared e gs;
          exact = s.left ∙ P.many;
          made = sym (ap (lay (erase_by e (spared e gs) before)) k' ∙ s.again);
        }

    -- Decided yes with x, then some choice makes these groups a right write of x.
    pub judges-right : (x : ℕ) → judges c before gs ≡ right x → Rightly c before x gs
    unfolding judges judge_on
    judges-right x h = go (read c before) refl h
      where
        go : (r : Reading) → read c before ≡ r → judge_on c before gs r ≡ right x → Rightly c before x gs
        go blank q j = record { place = 0; due = rw q refl; write = judged-right 0 x (λ z. blank-read c before q) j }
        go (reads i k) q j = record { place = i; due = rw q refl; write = judged-right i x (λ z. absurd (omega (arith, read_past c before i k q))) j }
        go (miscounted i k) q j = clash (cc)
        go (beyond i) q j = clash (cc)

  -- Some choice makes these groups a right write of x, then it is decided yes with x.
  pub right-judges : (before : List ℕ) (x : ℕ) (gs : List ℕ) → length before ≡ width c → Rightly c before x gs → judges c before gs ≡ right x
  unfolding judges judge_on
  right-judges before x gs l r = go (read c before) r.due
    where
      go : (k : Reading) → Due k r.place → judge_on c before gs k ≡ right x
      go blank d = right-judged before 0 x gs l (rw d at r.write)
      go (reads i k) d = right-judged before i x gs l (rw d at r.write)
      go (miscounted i k) d = absurd d
      go (beyond i) d = absurd d

  -- the number is the only one, whatever the choices
  pub right-only : (before : List ℕ) (x x' : ℕ) (gs : List ℕ) → length before ≡ width c → Rightly c before x gs → Rightly c before x' gs → x ≡ x'
  right-only before x x' gs l r r' =
      let q = sym (right-judges before x gs l r) ∙ right-judges before x' gs l r' in
      cc

  pub rightly-grows : (before : List ℕ) (x : ℕ) (gs : List ℕ) → length before ≡ width c → Rightly c before x gs → Grows (erased c) before gs
  rightly-grows before x gs l r = right-grows before r.place x gs l r.write

  -- no 1 became 0 follows from a yes
  pub judges-grows : 0 < (generation_at c 0).range → (before gs : List ℕ) (x : ℕ) → length before ≡ width c → length gs ≡ width c → Upto (erased c) gs →
      judges c before gs ≡ right x → Grows (erased c) before gs
  judges-grows some before gs x l lg u h = rightly-grows before x gs l (judges-right some before gs l lg u x h)

  -- Document 01's writer is the choice of the leftmost zero groups.
  pub own-right : (n x : ℕ) (gs : List ℕ) → n < length c.counts → x < (generation_at c n).range → length gs ≡ width c → Ready c.counts n gs →
      RightWrite c gs n x (after c n x gs)
  unfolding after
  own-right n x gs nl hx l r = record { there = nl; ranged = hx; chosen = own c n gs; exact = own-exact c y n gs l r; made = refl }

  -- What an accepted write makes is a right write of its number, so it is decided yes with it.
  pub write-right : (x : ℕ) (gs : List ℕ) (i : ℕ) (gs' : List ℕ) → length gs ≡ width c → write c x gs ≡ wrote i gs' → Rightly c gs x gs'
  unfolding write_on
  write-right x gs i gs' l w = by (read c gs) refl
    where
      at : (n : ℕ) → Due (read c gs) n → Ready c.counts n gs → write_at c x gs n ≡ wrote i gs' → Rightly c gs x gs'
      at n d r h =
          let q = write-at c x gs n i gs' h in
          record { place = n; due = d; write = rw q.3 (own-right n x gs q.0 q.1 l r) }

      none : write c x gs ≡ refused → Rightly c gs x gs'
      none h = clash (cc)

      by : (r : Reading) → read c gs ≡ r → Rightly c gs x gs'
      by blank h = at 0 (rw h refl) (blank-read c gs h) (sym (write_read c x gs blank h) ∙ w)
      by (miscounted j u) h = none (write_read c x gs (miscounted j u) h)
      by (beyond j) h = none (write_read c x gs (beyond j) h)
      by (reads j k) h =
          let q = read_past c gs j k h in
          let a = at (suc (past c.counts (zeros gs))) (rw (h, q) refl) (past_next c.counts (zeros gs)) in
          a (rw q at (sym (write_read c x gs (reads j k) h) ∙ w))

  pub write-judged : (x : ℕ) (gs : List ℕ) (i : ℕ) (gs' : List ℕ) → length gs ≡ width c → write c x gs ≡ wrote i gs' → judges c gs gs' ≡ right x
  write-judged x gs i gs' l w = right-judges gs x gs' l (write-right x gs i gs' l w)

  -- Decided no, then no choice makes a right write of any number; and the other way. Spent cells are decided no.
  pub wrong-none : (before : List ℕ) (x : ℕ) (gs : List ℕ) → length before ≡ width c → judges c before gs ≡ wrong → Rightly c before x gs → ⊥
  wrong-none before x gs l h r = clash (cc (right-judges before x gs l r))

  module _ (some : 0 < (generation_at c 0).range) (before gs : List ℕ) (l : length before ≡ width c) (lg : length gs ≡ width c) (u : Upto (erased c) gs) where
    pub none-wrong : ((x : ℕ) → Rightly c before x gs → ⊥) → judges c before gs ≡ wrong
    none-wrong f = go (judges c before gs) refl
      where
        go : (v : Verdict) → judges c before gs ≡ v → v ≡ wrong
        go (right x) q = absurd (f x (judges-right some before gs l lg u x q))
        go wrong q = refl

    pub spent-wrong : (k : ℕ) → read c before ≡ reads (length c.counts) k → judges c before gs ≡ wrong
    spent-wrong k q = none-wrong (λ x r. let d : r.place ≡ length c.counts = rw q at r.due in omega (arith, r.write.there))
