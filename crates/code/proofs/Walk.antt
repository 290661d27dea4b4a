-- The walk goes forward, so its fuel never tells.
use Prim.Native.Nat.{ℕ, zero, suc, ◌+◌, ◌-◌, ◌^◌, ◌≤◌, ◌<◌}
use mathlib.Core.Path.{◌≡◌, refl, sym, ap, subst, ◌∙◌}
use mathlib.Core.Logic.{inl, inr}
use mathlib.Core.Bool.{Bool, true, false}
use mathlib.Core.List.{List, [], ◌∷◌, ◌++◌, append_assoc}
use native.Mathlib.Omega.{arith}
use lib.ListN.{length, get_or, drop, length-drop, take-append-drop}
use lib.Seq.{drop-drop}
use Rattle.code.specs.declared.Kind.{Kind}
use Rattle.code.specs.Lists.{Below}
use Rattle.code.specs.Numerals.{sevens, numerals_of, Numeral, malformed, numeral, read_sevens, Numbers, cut, numbers, preceded, read_numbers}
use Rattle.code.specs.Dump.{Record, Source, head_length, out_of_list, record_by, broken, record_at, step_in, Step, taken, ended, stopped, Opening, barred, entered, opening, step, walk_from, onward}
use Rattle.code.proofs.Tests.{le-or-lt, clash}
use Rattle.code.proofs.Wits.{Bytes}
use Rattle.code.proofs.ByteLists.{bytes_drop}
use Rattle.code.proofs.Numerals.{read-was}
use Rattle.code.proofs.Records.{numbers-one, numbers-cut, step-inside, step-ended, record-off, record-found, record-short, record-start, record-count, open-oversize, step-barred, step-entered}

preceded-was : (x : ℕ) (r : Numbers) (xs : List ℕ) (end : ℕ) → preceded x r ≡ numbers xs end → (ys : List ℕ) × (r ≡ numbers ys end) × (x ∷ ys ≡ xs)
unfolding preceded
preceded-was x cut xs end e = clash (cc)
preceded-was x (numbers ys last) xs end e = (ys, cc, cc)

-- k numbers that read end at least k bytes further on, and within the bytes; of bytes below 256 they are what would be written
pub record Ahead (bytes : List ℕ) (k at : ℕ) (xs : List ℕ) (end : ℕ) : Type 0 where
  pub further : at + k ≤ end
  pub within : at ≤ length bytes → end ≤ length bytes
  pub many : length xs ≡ k
  pub small : Bytes bytes → Below (2 ^ 63) xs
  pub back : Bytes bytes → drop at bytes ≡ numerals_of xs ++ drop end bytes

pub numbers-ahead : (k : ℕ) (bytes : List ℕ) (at : ℕ) (xs : List ℕ) (end : ℕ) → read_numbers k bytes at ≡ numbers xs end → Ahead bytes k at xs end
unfolding read_numbers numerals_of
numbers-ahead zero bytes at xs end e =
    let q : at ≡ end = cc in
    let none : [] ≡ xs = cc in
    rw (← none) record { further = omega arith; within = λ h. omega arith; many = refl; small = λ b. tt; back = λ b. rw q }
numbers-ahead (suc k) bytes at xs end e = go (read_sevens 9 (drop at bytes)) refl (λ n ys. numbers-ahead k bytes (at + n) ys end)
  where
    go : (r : Numeral) → read_sevens 9 (drop at bytes) ≡ r →
        ((n : ℕ) (ys : List ℕ) → read_numbers k bytes (at + n) ≡ numbers ys end → Ahead bytes k (at + n) ys end) → Ahead bytes (suc k) at xs end
    go malformed q ih = clash (cc (numbers-cut k bytes at q))
    go (numeral x n) q ih =
        let p = preceded-was x (read_numbers k bytes (at + n)) xs end (sym (numbers-one k bytes at x n q) ∙ e) in
        let a = ih n p.0 p.1 in
        let r = read-was 9 (drop at bytes) x n q in
        let l = length-drop at bytes in
        rw (← p.2) record {
          further = omega (arith, r.some, a.further);
          within = λ h. a.within (omega (arith, r.fits));
          many = ap suc a.many;
          small = λ b. (r.small (bytes_drop bytes at b), a.small b);
          back = λ b. sym (take-append-drop n (drop at bytes)) ∙ rw (r.back (bytes_drop bytes at b), drop-drop n at bytes, a.back b)
              (sym (append_assoc (sevens 9 x) (numerals_of p.0) (drop end bytes)));
        }

-- so a number or more that read end within the bytes, wherever they begin
pub numbers-within : (k : ℕ) (bytes : List ℕ) (at : ℕ) (xs : List ℕ) (end : ℕ) → read_numbers (suc k) bytes at ≡ numbers xs end → end ≤ length bytes
unfolding read_sevens
numbers-within k bytes at xs end e = elim (le-or-lt at (length bytes)) [
  | inl h ↦ (numbers-ahead (suc k) bytes at xs end e).within h
  | inr h ↦ clash (cc (numbers-cut k bytes at (rw (none (drop at bytes) (omega (arith, length-drop at bytes))))))
]
  where
    none : (ys : List ℕ) → length ys ≡ 0 → ys ≡ []
    none [] l = refl
    none (y ∷ ys) l = absurd (omega arith)

-- where a step gives a record: its numbers read, its layout is one of the list, and its cells follow
pub record Given (source : Source) (bytes : List ℕ) (at : ℕ) (r : Record) : Type 0 where
  pub numbers-are : List ℕ
  pub end : ℕ
  pub inside : at < length bytes
  pub read : read_numbers (suc (head_length source)) bytes at ≡ numbers numbers-are end
  pub listed : out_of_list source numbers-are ≡ false
  pub enough : get_or numbers-are (head_length source) 0 ≤ length bytes - end
  pub same : record_by source numbers-are end ≡ r

-- a record stands within the dump, and its cells begin behind its numbers
pub record Forward (source : Source) (bytes : List ℕ) (at : ℕ) (r : Record) : Type 0 where
  pub further : at + suc (head_length source) ≤ r.start
  pub within : r.start + r.count ≤ length bytes

module _ (source : Source) (bytes : List ℕ) (at : ℕ) where
  record-given : (ns : Numbers) (r : Record) → at < length bytes → read_numbers (suc (head_length source)) bytes at ≡ ns →
      record_at source bytes at ns ≡ taken r → Given source bytes at r
  unfolding broken
  record-given cut r l q e = clash (cc)
  record-given (numbers xs end) r l q e = go (out_of_list source xs) refl
    where
      go : (o : Bool) → out_of_list source xs ≡ o → Given source bytes at r
      go true o = clash (cc (record-off source bytes at xs end o))
      go false o = elim (le-or-lt (get_or xs (head_length source) 0) (length bytes - end)) [
        | inl h ↦
            let same : record_by source xs end ≡ r = cc (record-found source bytes at xs end o h) in
            record { numbers-are = xs; end = end; inside = l; read = q; listed = o; enough = h; same = same }
        | inr h ↦ clash (cc (record-short source bytes at xs end o h))
      ]

  pub step-in-given : (r : Record) → step_in source bytes at ≡ taken r → Given source bytes at r
  step-in-given r e = elim (le-or-lt (length bytes) at) [
    | inl g ↦ clash (cc (step-ended source bytes at g))
    | inr g ↦ record-given (read_numbers (suc (head_length source)) bytes at) r g refl (sym (step-inside source bytes at g) ∙ e)
  ]

  pub step-in-forward : (r : Record) → step_in source bytes at ≡ taken r → Forward source bytes at r
  step-in-forward r e =
      let g = step-in-given r e in
      let xs : List ℕ = g.numbers-are in
      let a = numbers-ahead (suc (head_length source)) bytes at xs g.end g.read in
      subst (Forward source bytes at) g.same record {
        further = omega (arith, record-start source xs g.end, a.further);
        within = omega (arith, record-start source xs g.end, record-count source xs g.end, a.within (omega (arith, g.inside)), g.enough);
      }

module _ (kind : Kind) (bytes : List ℕ) where
  -- a dump that is opened is short enough
  pub entered-short : (source : Source) (start : ℕ) → opening kind bytes ≡ entered source start → length bytes ≤ 65536
  entered-short source start e = elim (le-or-lt (length bytes) 65536) [ inl h ↦ h | inr h ↦ clash (cc (open-oversize kind bytes h)) ]

  pub step-forward : (at : ℕ) (r : Record) → step kind bytes at ≡ taken r →
      (length bytes ≤ 65536) × (at < r.start + r.count) × (r.start + r.count ≤ length bytes)
  step-forward at r e = go (opening kind bytes) refl
    where
      go : (o : Opening) → opening kind bytes ≡ o → (length bytes ≤ 65536) × (at < r.start + r.count) × (r.start + r.count ≤ length bytes)
      go (barred k carried) q = clash (cc (step-barred kind bytes at k carried q))
      go (entered source start) q =
          let f = step-in-forward source bytes at r (sym (step-entered kind bytes at source start q) ∙ e) in
          (entered-short source start q, omega (arith, f.further), f.within)

  -- what a step makes of the walk
  pub walk-taken : (fuel at : ℕ) (r : Record) → step kind bytes at ≡ taken r →
      walk_from (suc fuel) kind bytes at ≡ taken r ∷ walk_from fuel kind bytes (r.start + r.count)
  unfolding walk_from
  walk-taken fuel at r e = rw (e, walk_from)

  pub walk-ended : (fuel at : ℕ) → step kind bytes at ≡ ended → walk_from (suc fuel) kind bytes at ≡ ended ∷ []
  unfolding walk_from
  walk-ended fuel at e = rw (e, walk_from)

  pub walk-stopped : (fuel at k : ℕ) (carried : List ℕ) → step kind bytes at ≡ stopped k carried → walk_from (suc fuel) kind bytes at ≡ stopped k carried ∷ []
  unfolding walk_from
  walk-stopped fuel at k carried e = rw (e, walk_from)

  -- fuel above what is left of the dump never tells
  pub walk-fuel : (f g at : ℕ) → length bytes - at < f → length bytes - at < g → walk_from f kind bytes at ≡ walk_from g kind bytes at
  walk-fuel zero g at hf hg = absurd (omega arith)
  walk-fuel (suc f) zero at hf hg = absurd (omega arith)
  walk-fuel (suc f) (suc g) at hf hg = go (step kind bytes at) refl (walk-fuel f g)
    where
      go : (s : Step) → step kind bytes at ≡ s →
          ((next : ℕ) → length bytes - next < f → length bytes - next < g → walk_from f kind bytes next ≡ walk_from g kind bytes next) →
          walk_from (suc f) kind bytes at ≡ walk_from (suc g) kind bytes at
      go (taken r) e ih =
          let w = step-forward at r e in
          cc (walk-taken f at r e, walk-taken g at r e, ih (r.start + r.count) (omega arith) (omega arith))
      go ended e ih = cc (walk-ended f at e, walk-ended g at e)
      go (stopped k carried) e ih = cc (walk-stopped f at k carried e, walk-stopped g at k carried e)

  -- after a record the walk goes on behind it
  pub onward-taken : (at : ℕ) (r : Record) → step kind bytes at ≡ taken r → onward kind bytes at ≡ taken r ∷ onward kind bytes (r.start + r.count)
  onward-taken at r e =
      let w = step-forward at r e in
      let next : ℕ = r.start + r.count in
      cc (walk-taken (length bytes - at) at r e, walk-fuel (length bytes - at) (suc (length bytes - next)) next (omega arith) (omega arith))
