-- A resumed write on groups: the generation that it goes to, and that it reads back.
use Prim.Native.Nat.{ℕ, zero, suc, ◌+◌, ◌-◌, ◌≤◌, ◌<◌}
use mathlib.Core.Path.{◌≡◌, refl, sym, ap, ◌∙◌}
use mathlib.Core.Logic.{inl, inr}
use mathlib.Core.Bool.{Bool, true, false, cond}
use mathlib.Core.List.{List, [], ◌∷◌}
use native.Mathlib.Omega.{arith}
use lib.ListN.{length, drop}
use borrow.Author.Tests.{le-leb, lt-leb}
use Rattle.code.specs.Code.{Code, width, generation_at}
use Rattle.code.specs.Field.{zeros, past, Reading, blank, reads, miscounted, beyond, has_reading, read, after, Writing, refused, wrote, write_at}
use Rattle.code.specs.Resume.{first_within, resume_place, resume}
use Rattle.code.proofs.Tests.{le-or-lt, clash}
use Rattle.code.proofs.Conditions.{Layout}
use Rattle.code.proofs.Field.{past_next, Ready, Tells, Wrote, write-at, write-taken, write-at-is}

-- The first count behind the first that is at most the zero groups follows the generation that the zero groups point to.
first_past : (h : ℕ) (hs : List ℕ) (z : ℕ) → first_within z hs ≡ past (h ∷ hs) z
unfolding first_within past
first_past h [] z = rw (le-leb 0 z (omega arith))
first_past h (k ∷ hs) z = elim (le-or-lt k z) [ inl l ↦ rw (le-leb k z l) | inr g ↦ rw (lt-leb k z g) (ap suc (first_past k hs z)) ]

-- what is written where the groups have no reading
unread-wrote : (a : Bool) (w : Writing) (i : ℕ) (gs : List ℕ) → cond a refused w ≡ wrote i gs → (a ≡ false) × (w ≡ wrote i gs)
unread-wrote true w i gs q = clash (cc)
unread-wrote false w i gs q = (refl, q)

module _ (c : Code) where
  pub place_is : (gs : List ℕ) → 0 < length c.counts → resume_place c gs ≡ suc (past c.counts (zeros gs))
  unfolding resume_place
  place_is gs many = go c.counts refl many
    where
      go : (hs : List ℕ) → c.counts ≡ hs → 0 < length hs → suc (first_within (zeros gs) (drop 1 c.counts)) ≡ suc (past c.counts (zeros gs))
      go [] q m = absurd (omega arith)
      go (h ∷ hs) q m = rw q (ap suc (first_past h hs (zeros gs)))

  pub resume-ready : (gs : List ℕ) → 0 < length c.counts → Ready c.counts (resume_place c gs) gs
  resume-ready gs many = rw (place_is gs many) (past_next c.counts (zeros gs))

  pub resume-taken : (x : ℕ) (gs : List ℕ) → has_reading (read c gs) ≡ false → resume_place c gs < length c.counts → x < (generation_at c (resume_place c gs)).range →
      resume c x gs ≡ wrote (suc (resume_place c gs)) (after c (resume_place c gs) x gs)
  unfolding resume
  resume-taken x gs u l h = rw u (write-taken c x gs (resume_place c gs) l h)

  module _ (y : Layout c) (x : ℕ) (gs : List ℕ) (i : ℕ) (gs' : List ℕ) (w : resume c x gs ≡ wrote i gs') where
    many : 0 < length c.counts
    many = omega (arith, y.two)

    at_place : (has_reading (read c gs) ≡ false) × (write_at c x gs (resume_place c gs) ≡ wrote i gs')
    unfolding resume
    at_place = unread-wrote (has_reading (read c gs)) (write_at c x gs (resume_place c gs)) i gs' w

    -- the generation is the one behind that which the zero groups point to
    pub resumed-at : (i ≡ suc (suc (past c.counts (zeros gs)))) × (i ≤ length c.counts)
    resumed-at = let q = write-at c x gs (resume_place c gs) i gs' at_place.1 in (omega (arith, q.2, place_is gs many), omega (arith, q.0, q.2))

    pub resume-is : length gs ≡ width c → Wrote c x gs i gs'
    resume-is l = write-at-is c y x gs i gs' l (resume_place c gs) (resume-ready gs many) at_place.1

    -- and it reads as that generation and the number: blank it is not, since generation 1 is not written
    pub resumed-reads : length gs ≡ width c → read c gs' ≡ reads i x
    resumed-reads l = go (read c gs') refl (resume-is l).reading
      where
        go : (r : Reading) → read c gs' ≡ r → Tells c.first r i x → r ≡ reads i x
        go blank q t = absurd (omega (arith, t.1, resumed-at.0))
        go (reads j z) q t = rw (t.0, t.1)
        go (miscounted j u) q t = absurd t
        go (beyond j) q t = absurd t
