-- Demand 3 on groups: which writes of a sequence are accepted.
use Prim.Native.Nat.{ℕ, zero, suc, ◌+◌, ◌-◌, ◌≤◌, ◌<◌, min}
use mathlib.Core.Path.{◌≡◌, refl, sym, ◌∙◌}
use mathlib.Core.Logic.{inl, inr}
use mathlib.Core.Bool.{Bool, true, false}
use mathlib.Core.List.{List, [], ◌∷◌}
use native.Mathlib.Omega.{arith}
use native.Mathlib.Nat.{add-zero, zero-add, sub-zero, pow-zero, min-eq_right}
use lib.ListN.{length, get_or, take, replicate, length-replicate, length-take, get_or-replicate}
use lib.Dec.{leb}
use borrow.Author.Tests.{le-leb, lt-leb, lt-ltb, le-ltb}
use Rattle.code.specs.Count.{choose, fewer}
use Rattle.code.specs.Deal.{written, number}
use Rattle.code.specs.Code.{Code, erased, width, generation_at}
use Rattle.code.specs.Field.{zeros, past, Reading, blank, reads, miscounted, beyond, read, after, Writing, refused, wrote, write_at, write_on, write}
use Rattle.code.specs.Judge.{Due}
use Rattle.code.specs.Run.{kept, run, total, opening_zeros}
use Rattle.code.specs.Lists.{Below}
use Rattle.code.proofs.Tests.{le-or-lt}
use Rattle.code.proofs.Count.{fewer-grows}
use Rattle.code.proofs.Conditions.{Layout, holds-length}
use Rattle.code.proofs.Deal.{blank-number}
use Rattle.code.proofs.Field.{past_next, past-most, Ready, After, after_is, first-tells, blank-read, read_past, read-written, write-blank, write_read}

-- a write that is not refused (RULES 14)
unfoldable pub accepted : Writing → Bool
accepted refused = false
accepted (wrote i cells) = true

-- Where the pattern that writes nothing is allowed, no other has number 0.
fewer-one : (b s : ℕ) → fewer b s 0 1 ≡ 1
unfolding fewer choose
fewer-one b s = rw pow-zero

pub number-blank : (b : ℕ) (p : List ℕ) → number b 0 p ≡ 0 → written p ≡ 0
unfolding number
number-blank b p h = elim (le-or-lt (written p) 0) [
  | inl z ↦ omega arith
  | inr g ↦ absurd (omega (arith, fewer-one b (length p), fewer-grows b (length p) 0 1 (written p) g))
]

-- The generations used once x is tried where c of t are.
unfoldable pub next : ℕ → ℕ → ℕ → ℕ → ℕ
next zero t zero zero = 0
next zero t zero (suc x) = min t 1
next zero t (suc c) x = min t (suc (suc c))
next (suc first) t c x = min t (suc c)

next-most : (first t c x : ℕ) → next first t c x ≤ t
unfolding next
next-most zero t zero zero = omega arith
next-most zero t zero (suc x) = omega arith
next-most zero t (suc c) x = omega arith
next-most (suc first) t c x = omega arith

next_up : (first t c x : ℕ) → 0 < c + first → next first t c x ≡ min t (suc c)
unfolding next
next_up zero t zero x h = absurd (omega arith)
next_up zero t (suc c) x h = refl
next_up (suc first) t c x h = refl

-- tries that leave and count the same, number for number
module _ (f g : ℕ → List ℕ → List ℕ) (same : (x : ℕ) (cells : List ℕ) → f x cells ≡ g x cells) where
  pub run-same : (cells xs : List ℕ) → run f cells xs ≡ run g cells xs
  unfolding run
  run-same cells [] = refl
  run-same cells (x ∷ xs) = rw (same x cells) (run-same (g x cells) xs)

  pub total-same : (a b : ℕ → List ℕ → ℕ) → ((x : ℕ) (cells : List ℕ) → a x cells ≡ b x cells) → (cells xs : List ℕ) → total a f cells xs ≡ total b g cells xs
  unfolding total
  total-same a b also cells [] = refl
  total-same a b also cells (x ∷ xs) = rw (same x cells) (omega (arith, also x cells, total-same a b also (g x cells) xs))

-- the cells and the count after one number more
pub run_more : (f : ℕ → List ℕ → List ℕ) (bs xs : List ℕ) (j : ℕ) → j < length xs → run f bs (take (suc j) xs) ≡ f (get_or xs j 0) (run f bs (take j xs))
unfolding run
run_more f bs [] j l = absurd (omega arith)
run_more f bs (x ∷ xs) zero l = refl
run_more f bs (x ∷ xs) (suc j) l = run_more f (f x bs) xs j (omega arith)

pub total-more : (c : ℕ → List ℕ → ℕ) (f : ℕ → List ℕ → List ℕ) (bs xs : List ℕ) (j : ℕ) → j < length xs
    → total c f bs (take (suc j) xs) ≡ total c f bs (take j xs) + c (get_or xs j 0) (run f bs (take j xs))
unfolding run total
total-more c f bs [] j l = absurd (omega arith)
total-more c f bs (x ∷ xs) zero l = omega arith
total-more c f bs (x ∷ xs) (suc j) l = omega (arith, total-more c f (f x bs) xs j (omega arith))

-- the generations used once each of a list is tried
tally : ℕ → ℕ → ℕ → List ℕ → ℕ
tally first t c [] = c
tally first t c (x ∷ xs) = tally first t (next first t c x) xs

tally-up : (first t c : ℕ) (xs : List ℕ) → 0 < t → 0 < c + first → c ≤ t → tally first t c xs ≡ min t (c + length xs)
unfolding tally
tally-up first t c [] pos h l = omega arith
tally-up first t c (x ∷ xs) pos h l = rw (next_up first t c x h, tally-up first t (min t (suc c)) xs pos (omega arith) (omega arith)) (omega arith)

tally-is : (first t : ℕ) (xs : List ℕ) → 0 < t → tally first t 0 xs ≡ min t (length xs - opening_zeros first xs)
unfolding tally opening_zeros next
tally-is zero t [] pos = omega arith
tally-is zero t (zero ∷ xs) pos = omega (arith, tally-is zero t xs pos)
tally-is zero t (suc x ∷ xs) pos = rw (tally-up 0 t (min t 1) xs pos (omega arith) (omega arith)) (omega arith)
tally-is (suc first) t xs pos = rw (tally-up (suc first) t 0 xs pos (omega arith) (omega arith)) (omega arith)

pub opening-none : (first : ℕ) (xs : List ℕ) → 0 < first → opening_zeros first xs ≡ 0
unfolding opening_zeros
opening-none zero xs h = absurd (omega arith)
opening-none (suc first) xs h = refl

-- the same from any count of generations used: no zero opens a sequence where some are
tally-from : (first t c : ℕ) (xs : List ℕ) → 0 < t → c ≤ t → tally first t c xs ≡ min t (c + (length xs - opening_zeros (c + first) xs))
tally-from first t zero xs pos l = rw (zero-add first, zero-add (length xs - opening_zeros first xs)) (tally-is first t xs pos)
tally-from first t (suc c) xs pos l = rw (opening-none (suc c + first) xs (omega arith), sub-zero) (tally-up first t (suc c) xs pos (omega arith) l)

opening-take : (first : ℕ) (xs : List ℕ) (j : ℕ) → opening_zeros first (take j xs) ≡ min j (opening_zeros first xs)
unfolding opening_zeros
opening-take zero [] zero = omega arith
opening-take zero [] (suc j) = omega arith
opening-take zero (x ∷ xs) zero = omega arith
opening-take zero (zero ∷ xs) (suc j) = omega (arith, opening-take zero xs j)
opening-take zero (suc x ∷ xs) (suc j) = omega arith
opening-take (suc first) xs j = omega arith

-- Each number is below the range of the generation that would take it, or none would.
unfoldable pub InRange : ℕ → List ℕ → ℕ → List ℕ → Type 0
InRange first vs c [] = Unit {0}
InRange first vs c (x ∷ xs) = (c < length vs → x < get_or vs c 0) × InRange first vs (next first (length vs) c x) xs

-- so are those of a sequence up to a place, and the one at it; and those of equal ranges
in-range-at : (first : ℕ) (vs : List ℕ) (c : ℕ) (xs : List ℕ) (j : ℕ) → InRange first vs c xs → j < length xs →
    InRange first vs c (take j xs) × (tally first (length vs) c (take j xs) < length vs → get_or xs j 0 < get_or vs (tally first (length vs) c (take j xs)) 0)
unfolding InRange tally
in-range-at first vs c [] j r h = absurd (omega arith)
in-range-at first vs c (x ∷ xs) zero r h = (tt, r.0)
in-range-at first vs c (x ∷ xs) (suc j) r h =
    let ih = in-range-at first vs (next first (length vs) c x) xs j r.1 (omega arith) in
    ((r.0, ih.0), ih.1)

pub equal-range : (first t v c : ℕ) (xs : List ℕ) → Below v xs → InRange first (replicate t v) c xs
unfolding InRange
equal-range first t v c [] u = tt
equal-range first t v c (x ∷ xs) u = (
  λ l. omega (arith, u.0, get_or-replicate t c v 0 (omega (arith, length-replicate t v))),
  equal-range first t v (next first (length (replicate t v)) c x)
      xs u.1,
)

-- and those of a sequence from blank cells that has no opening_zeros zeros: generation k + 1 would take the number at place k
pub listed-range : (vs : List ℕ) (c : ℕ) (xs : List ℕ) → c ≤ length vs → ((k : ℕ) → k < length xs → c + k < length vs → get_or xs k 0 < get_or vs (c + k) 0) →
    InRange 1 vs c xs
unfolding InRange
listed-range vs c [] l f = tt
listed-range vs c (x ∷ xs) l f =
    let n = next_up 1 (length vs) c x (omega arith) in (
      λ h. rw (add-zero c) at (f 0 (omega arith) (omega arith)),
      rw n (listed-range vs (min (length vs) (suc c)) xs (omega arith) (λ k h g.
          let q : min (length vs) (suc c) + k ≡ c + suc k = omega arith in rw q (f (suc k) (omega arith) (omega arith)))),
    )

pub blank-written : (h : ℕ) → written (replicate h 0) ≡ 0
unfolding written
blank-written zero = refl
blank-written (suc h) = blank-written h

-- the groups that a try of x leaves
unfoldable pub tried : Code → ℕ → List ℕ → List ℕ
tried code x gs = kept gs (write code x gs)

module _ (code : Code) where
  -- groups on which c generations are used
  abbrev pub Stands : ℕ → List ℕ → Type 0
  Stands zero gs = written gs ≡ 0
  Stands (suc n) gs = (0 < written gs) × ((y : ℕ) × (read code gs ≡ reads (suc n) y)) × ((generation_at code n).next ≤ zeros gs)

  stands-ready : (c : ℕ) (gs : List ℕ) → Stands c gs → Ready code.counts c gs
  stands-ready zero gs s = s
  stands-ready (suc n) gs s = s.2

  stands-write : (x c : ℕ) (gs : List ℕ) → Stands c gs → write code x gs ≡ write_at code x gs c
  unfolding write_on
  stands-write x zero gs s = write-blank code x gs s
  stands-write x (suc n) gs s = write_read code x gs (reads (suc n) s.1.0) s.1.1

  stands_up : (c x : ℕ) (gs gs' : List ℕ) → c < length code.counts → 0 < written gs' → After code c x gs gs' → Stands (min (length code.counts) (suc c)) gs'
  stands_up c x gs gs' l w a = rw (min-eq_right l) (w, (x, a.back w), a.ready)

  -- the groups hold their field, and c generations are used
  pub record Held (c : ℕ) (gs : List ℕ) : Type 0 where
    pub long : length gs ≡ width code
    pub most : c ≤ length code.counts
    pub stands : Stands c gs

  pub blank-held : Held 0 (replicate (width code) 0)
  blank-held = record { long = length-replicate (width code) 0; most = omega arith; stands = blank-written (width code) }

  -- a write where no generation is left
  pub spent : (x c : ℕ) (gs : List ℕ) → Held c gs → length code.counts ≤ c → write code x gs ≡ refused
  unfolding write_at
  spent x c gs k h = stands-write x c gs k.stands ∙ rw (le-ltb c (length code.counts) h)

module _ (code : Code) (y : Layout code) where
  -- generation 1 leaves the cells blank exactly where the number is one of the opening_zeros zeros
  after-stands : (first c x : ℕ) (gs gs' : List ℕ) → code.first ≡ first → c < length code.counts → After code c x gs gs' →
      Stands code (next first (length code.counts) c x) gs'
  unfolding next
  after-stands zero zero zero gs gs' q l a = number-blank (erased code) gs' (rw q at (first-tells code y 0 gs gs' a))
  after-stands zero zero (suc x) gs gs' q l a = elim (le-or-lt (written gs') 0) [
    | inl z ↦ absurd (omega (arith, first-tells code y (suc x) gs gs' a, blank-number (erased code) code.first gs' (omega arith)))
    | inr w ↦ stands_up code 0 (suc x) gs gs' l w a
  ]
  after-stands zero (suc c) x gs gs' q l a = stands_up code (suc c) x gs gs' l (a.marked (omega arith)) a
  after-stands (suc first) c x gs gs' q l a = stands_up code c x gs gs' l (a.marked (omega arith)) a

  -- a write where a generation is left
  pub taken : (c x : ℕ) (gs : List ℕ) → Held code c gs → c < length code.counts → x < (generation_at code c).range →
      (write code x gs ≡ wrote (suc c) (after code c x gs)) × After code c x gs (after code c x gs)
  unfolding write_at
  taken c x gs k cl hx =
      let w = stands-write code x c gs k.stands in
      (w ∙ rw (lt-ltb c (length code.counts) cl, lt-ltb x (generation_at code c).range hx), after_is code y c x gs cl hx k.long (stands-ready code c gs k.stands))

  -- the run keeps count
  step : (c x : ℕ) (gs : List ℕ) → Held code c gs → (c < length code.counts → x < (generation_at code c).range) →
      Held code (next code.first (length code.counts) c x) (kept gs (write code x gs))
  unfolding kept
  step c x gs k r = elim (le-or-lt (length code.counts) c) [
    | inl g ↦
        let full : min (length code.counts) (suc c) ≡ c = omega (arith, k.most) in
        rw (spent code x c gs k g, next_up code.first (length code.counts) c x (omega (arith, y.two)), full) k
    | inr l ↦
        let q = taken c x gs k l (r l) in
        rw q.0 (record {
          long = q.1.long
              ∙ k.long;
          most = next-most code.first (length code.counts) c x;
          stands = after-stands code.first c x gs (after code c x gs) refl l q.1;
        })
  ]

  same_length : length code.ranges ≡ length code.counts
  same_length = holds-length (erased code) (erased code) code.first code.counts code.ranges y.holds

  run-held : (c : ℕ) (gs xs : List ℕ) → Held code c gs → InRange code.first code.ranges c xs →
      Held code (tally code.first (length code.counts) c xs) (run (tried code) gs xs)
  unfolding run tried tally InRange
  run-held c gs [] k r = k
  run-held c gs (x ∷ xs) k r =
      let r' : (c < length code.counts → x < (generation_at code c).range) × InRange code.first code.ranges (next code.first (length code.counts) c x) xs = rw same_length at r in
      run-held (next code.first (length code.counts) c x) (kept gs (write code x gs)) xs (step c x gs k r'.0) r'.1

  -- groups that have a reading: as many generations are used as stand before the one that is due
  pub due-held : (c : ℕ) (gs : List ℕ) → length gs ≡ width code → Due (read code gs) c → Held code c gs
  due-held c gs l d = go (read code gs) refl d
    where
      many : 0 < length code.counts
      many = omega (arith, y.two)

      go : (r : Reading) → read code gs ≡ r → Due r c → Held code c gs
      go blank q d = rw d (record { long = l; most = omega arith; stands = blank-read code gs q })
      go (reads i x) q d =
          let z = zeros gs in
          let p : i ≡ suc (past code.counts z) = read_past code gs i x q in
          rw (d, p) (record {
            long = l;
            most = past-most code.counts z many;
            stands = (read-written code gs i x q, (x, rw p at q), past_next code.counts z);
          })
      go (miscounted i u) q d = absurd d
      go (beyond i) q d = absurd d

  -- Demand 3, from any groups on which c generations are used: the write at place j of a sequence, which is write j + 1, is accepted exactly when c and j + 1 are
  -- together at most the number of generations, less the zeros that open the sequence where no generation is used.
  pub accepts-from : (c : ℕ) (gs : List ℕ) → Held code c gs → (xs : List ℕ) (j : ℕ) → InRange code.first code.ranges c xs → j < length xs →
      accepted (write code (get_or xs j 0) (run (tried code) gs (take j xs)))
      ≡ leb (c + (suc j - opening_zeros (c + code.first) xs)) (length code.counts)
  unfolding accepted
  accepts-from c gs held xs j r l =
      let t = length code.counts in
      let two = y.two in
      let most = held.most in
      let used = tally code.first t c (take j xs) in
      let now = run (tried code) gs (take j xs) in
      let o = opening_zeros (c + code.first) xs in
      let i : InRange code.first code.ranges c (take j xs) × (used < t → get_or xs j 0 < (generation_at code used).range) =
      rw same_length at (in-range-at code.first code.ranges c xs j r l) in
      let k = run-held c gs (take j xs) held i.0 in
      let n : used ≡ min t (c + (min j (length xs) - min j o)) = rw (tally-from code.first t c (take j xs) (omega arith) most, length-take, opening-take) in
      let none : 0 < c → o ≡ 0 = λ p. opening-none (c + code.first) xs (omega arith) in
      let low : c + (suc j - o) ≤ t → used < t = λ g. elim (le-or-lt c 0) [ inl z ↦ omega arith | inr p ↦ omega (arith, none p) ] in
      elim (le-or-lt (c + (suc j - o)) t) [
        | inl g ↦ rw (le-leb (c + (suc j - o)) t g, (taken used (get_or xs j 0) now k (low g) (i.1 (low g))).0)
        | inr g ↦ rw (lt-leb (c + (suc j - o)) t g, spent code (get_or xs j 0) used now k (omega arith))
      ]

  -- Demand 3. The write at place j of a sequence from blank cells, which is write j + 1, is accepted exactly when j + 1 less the opening_zeros zeros is at most the
  -- number of generations.
  pub accepts : (xs : List ℕ) (j : ℕ) → InRange code.first code.ranges 0 xs → j < length xs →
      accepted (write code (get_or xs j 0) (run (tried code) (replicate (width code) 0) (take j xs))) ≡ leb (suc j - opening_zeros code.first xs)
      (length code.counts)
  accepts xs j r l =
      let same : 0 + (suc j - opening_zeros (0 + code.first) xs) ≡ suc j - opening_zeros code.first xs = rw (zero-add code.first, zero-add) in
      accepts-from 0 (replicate (width code) 0) (blank-held code) xs j r l ∙ rw same
