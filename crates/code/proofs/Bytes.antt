-- Reading and writing on bytes: an accepted write reads back, no wit falls, the turned counts add up, and demand 3, for either order of bits, any start of
-- generation 1 and a range for each generation.
use Prim.Native.Nat.{ℕ, zero, suc, ◌+◌, ◌*◌, ◌-◌, ◌^◌, ◌≤◌, ◌<◌}
use mathlib.Core.Path.{◌≡◌, refl, sym, ap, ◌∙◌}
use mathlib.Core.Bool.{Bool, true, false, cond}
use mathlib.Core.List.{List, [], ◌∷◌}
use native.Mathlib.Omega.{arith}
use native.Mathlib.Nat.{le_refl}
use lib.ListN.{length, get_or, take, replicate, length-replicate}
use lib.Dec.{leb}
use Rattle.code.specs.Cells.{wit, sum, opened, size, sound, stored, ones, turned}
use Rattle.code.specs.Code.{Code, erased, width}
use Rattle.code.specs.Field.{Writing, refused, wrote, write}
use Rattle.code.specs.Run.{kept, run, total, opening_zeros}
use Rattle.code.proofs.Run.{accepted}
use Rattle.code.specs.Calls.{groups_in, read_cells, storing, write_cells}
use Rattle.code.specs.Judge.{Due}
use Rattle.code.specs.Lists.{Upto}
use Rattle.code.proofs.Wits.{Bytes}
use Rattle.code.proofs.Cells.{groups-length, sound-told, sound-length, stored-wit, stored_bytes, stored-length, stored-opened, stored-sound, opened-small, grows-wit, turned_ones, blank-wit, blank-stored, upto_all, none-at}
use Rattle.code.proofs.Conditions.{Layout}
use Rattle.code.proofs.Field.{Tells, Wrote, write-is}
use Rattle.code.proofs.Run.{InRange, tried}
use Rattle.code.proofs.Run as groupwise

-- the cells that a try of x leaves
unfoldable pub tried_cells : Code → ℕ → List ℕ → List ℕ
tried_cells c x bs = kept bs (write_cells c x bs)

-- the wits that a try of x turns
abbrev pub turns : Code → ℕ → List ℕ → ℕ
turns c x bs = turned c.order bs (tried_cells c x bs)

pub storing-accepted : (o m : ℕ) (w : Writing) → accepted (storing o m w) ≡ accepted w
unfolding storing accepted
storing-accepted o m refused = refl
storing-accepted o m (wrote i gs) = refl

storing-kept : (o m : ℕ) (gs : List ℕ) (w : Writing) → kept (stored o m gs) (storing o m w) ≡ stored o m (kept gs w)
unfolding storing kept
storing-kept o m gs refused = refl
storing-kept o m gs (wrote i gs') = refl

pub storing-wrote : (o m : ℕ) (a : Bool) (w : Writing) (i : ℕ) (bs : List ℕ) → cond a (storing o m w) refused ≡ wrote i bs →
    (a ≡ true) × (gs : List ℕ) × (w ≡ wrote i gs) × (bs ≡ stored o m gs)
unfolding storing
storing-wrote o m true (wrote j gs) i bs q = (refl, gs, cc, cc)
storing-wrote o m true refused i bs q = (refl, bs, cc, cc)
storing-wrote o m false w i bs q = (cc, bs, cc, cc)

sum-none : (f : ℕ → ℕ) (n : ℕ) → ((k : ℕ) → f k ≡ 0) → sum f n ≡ 0
unfolding sum
sum-none f zero e = refl
sum-none f (suc n) e = omega (arith, sum-none f n e, e n)

pub ones-blank : (o n : ℕ) → ones o (replicate n 0) ≡ 0
unfolding ones
ones-blank o n = sum-none (wit o (replicate n 0)) (8 * length (replicate {A = ℕ} n 0)) (blank-wit o n)

module _ (c : Code) where
  -- what an accepted write of x at generation i leaves, w wits turned
  pub record Accepted (x : ℕ) (bs : List ℕ) (i : ℕ) (bs' : List ℕ) : Type 0 where
    pub right : sound c.order c.m (width c) bs' ≡ true
    pub bytes : Bytes bs'
    pub long : length bs' ≡ length bs
    pub reading : Tells c.first (read_cells c bs') i x
    pub rises : (w : ℕ) → wit c.order bs w ≤ wit c.order bs' w
    pub gained : turned c.order bs bs' + ones c.order bs ≡ ones c.order bs'

  module _ (y : Layout c) (pos : 0 < c.m) where
    -- the buffer of groups is sound and gives them back
    pub record Buffer (gs bs : List ℕ) : Type 0 where
      pub right : sound c.order c.m (width c) bs ≡ true
      pub back : groups_in c bs ≡ gs
      pub bytes : Bytes bs

    pub buffer : (gs : List ℕ) → length gs ≡ width c → Upto (erased c) gs → Buffer gs (stored c.order c.m gs)
    buffer gs l u = record { right = rw l at (stored-sound c.order c.m gs pos); back = rw l at (stored-opened c.order c.m gs pos u); bytes = stored_bytes c.order c.m gs pos }

    stored-write : (x : ℕ) (gs : List ℕ) → length gs ≡ width c → Upto (erased c) gs →
        write_cells c x (stored c.order c.m gs) ≡ storing c.order c.m (write c x gs)
    unfolding write_cells
    stored-write x gs l u = let b = buffer gs l u in rw (b.right, b.back)

    -- What is stored of a write on the groups of a buffer keeps the number of bytes and reads back, no wit falls, and the turned count is the ones after less the
    -- ones before, whatever the groups are written by.
    module _ (x : ℕ) (bs : List ℕ) (w : Writing) (i : ℕ) (bs' : List ℕ) (is : (gs' : List ℕ) → w ≡ wrote i gs' → Wrote c x (groups_in c bs) i gs')
        (q : cond (sound c.order c.m (width c) bs) (storing c.order c.m w) refused ≡ wrote i bs') where
      made-long : length bs' ≡ length bs
      made-long =
          let h = width c in
          let t = storing-wrote c.order c.m (sound c.order c.m h bs) w i bs' q in
          let l : length (groups_in c bs) ≡ h = groups-length c.m h (wit c.order bs) in
          rw t.3 (stored-length c.order c.m t.1 pos ∙ rw ((is t.1 t.2).long, l) (sym (sound-length c.order c.m h bs t.0)))

      pub made-is : Bytes bs → Accepted x bs i bs'
      unfolding read_cells
      made-is B =
          let h = width c in
          let gs = groups_in c bs in
          let t = storing-wrote c.order c.m (sound c.order c.m h bs) w i bs' q in
          let gs' = t.1 in
          let a = is gs' t.2 in
          let b = buffer gs' (a.long ∙ groups-length c.m h (wit c.order bs)) a.small in
          let told = sound-told c.order c.m h bs t.0 B pos in
          let up : (w : ℕ) → wit c.order bs w ≤ wit c.order (stored c.order c.m gs') w = λ w.
          let q : wit c.order bs w ≡ _ = ap (λ (z : List ℕ). wit c.order z w) (sym told) ∙ stored-wit c.order c.m gs pos w in
          rw (q, stored-wit c.order c.m gs' pos w) (grows-wit c.m gs gs' w pos a.grows) in
          let n : length (stored c.order c.m gs') ≡ length bs = rw t.3 at made-long in
          rw t.3 (record {
            right = b.right;
            bytes = b.bytes;
            long = n;
            reading = rw b.back a.reading;
            rises = up;
            gained = turned_ones c.order bs (stored c.order c.m gs') n up;
          })

    -- so does a write
    module _ (x : ℕ) (bs : List ℕ) where
      writes-groups : (i : ℕ) (gs' : List ℕ) → write c x (groups_in c bs) ≡ wrote i gs' → Wrote c x (groups_in c bs) i gs'
      writes-groups i gs' = write-is c y x (groups_in c bs) i gs' (groups-length c.m (width c) (wit c.order bs))

      pub accepted-is : (i : ℕ) (bs' : List ℕ) → Bytes bs → write_cells c x bs ≡ wrote i bs' → Accepted x bs i bs'
      unfolding write_cells
      accepted-is i bs' B w = made-is x bs (write c x (groups_in c bs)) i bs' (writes-groups i) w B

      -- a try keeps the number of bytes
      pub tried-long : length (tried_cells c x bs) ≡ length bs
      unfolding tried_cells kept
      tried-long = go (write_cells c x bs) refl
        where
          go : (w : Writing) → write_cells c x bs ≡ w → length (kept bs w) ≡ length bs
          go refused q = refl
          go (wrote i bs') q = unfold write_cells in made-long x bs (write c x (groups_in c bs)) i bs' (writes-groups i) q

    -- Over any run the turned counts add up to the ones gained.
    left_is : (x : ℕ) (bs : List ℕ) (w : Writing) → Bytes bs → write_cells c x bs ≡ w →
        Bytes (kept bs w) × (turned c.order bs (kept bs w) + ones c.order bs ≡ ones c.order (kept bs w)) × ((k : ℕ) → wit c.order bs k ≤ wit c.order (kept bs w) k)
    unfolding kept
    left_is x bs refused B w = (B, turned_ones c.order bs bs refl (λ k. le_refl (wit c.order bs k)), λ k. le_refl (wit c.order bs k))
    left_is x bs (wrote i bs') B w = let a = accepted-is x bs i bs' B w in (a.bytes, a.gained, a.rises)

    pub tried-is : (x : ℕ) (bs : List ℕ) → Bytes bs →
        Bytes (tried_cells c x bs) × (turned c.order bs (tried_cells c x bs) + ones c.order bs ≡ ones c.order (tried_cells c x bs))
        × ((k : ℕ) → wit c.order bs k ≤ wit c.order (tried_cells c x bs) k)
    unfolding tried_cells
    tried-is x bs B = left_is x bs (write_cells c x bs) B refl

    turned-is : (bs xs : List ℕ) → Bytes bs →
        total (turns c) (tried_cells c) bs xs + ones c.order bs ≡ ones c.order (run (tried_cells c) bs xs)
    unfolding total run
    turned-is bs [] B = omega arith
    turned-is bs (x ∷ xs) B = let q = tried-is x bs B in omega (arith, q.1, turned-is (tried_cells c x bs) xs q.0)

    pub turned-blank : (xs : List ℕ) →
        total (turns c) (tried_cells c) (replicate (size c.m (width c)) 0) xs ≡ ones c.order
        (run (tried_cells c) (replicate (size c.m (width c)) 0) xs)
    turned-blank xs = let n = size c.m (width c) in omega (arith, turned-is (replicate n 0) xs (λ i l. omega (arith, none-at n i)), ones-blank c.order n)

    -- The run of the buffer is that of its groups.
    kept-good : (x : ℕ) (gs : List ℕ) (w : Writing) → length gs ≡ width c → Upto (erased c) gs → write c x gs ≡ w →
        (length (kept gs w) ≡ width c) × Upto (erased c) (kept gs w)
    unfolding kept
    kept-good x gs refused l u q = (l, u)
    kept-good x gs (wrote i gs') l u q = let a = write-is c y x gs i gs' l q in (a.long ∙ l, a.small)

    run-stored : (gs xs : List ℕ) → length gs ≡ width c → Upto (erased c) gs →
        (length (run (tried c) gs xs) ≡ width c) × Upto (erased c) (run (tried c) gs xs)
        × (run (tried_cells c) (stored c.order c.m gs) xs ≡ stored c.order c.m (run (tried c) gs xs))
    unfolding run tried_cells tried
    run-stored gs [] l u = (l, u, refl)
    run-stored gs (x ∷ xs) l u =
        let w = write c x gs in
        let k = kept-good x gs w l u refl in
        rw (stored-write x gs l u, storing-kept c.order c.m gs w) (run-stored (kept gs w) xs k.0 k.1)

    -- Demand 3, from any sound buffer that has a reading, where k generations stand before the one that is due.
    pub accepts-from : (k : ℕ) (bs : List ℕ) → Bytes bs → sound c.order c.m (width c) bs ≡ true → Due (read_cells c bs) k → (xs : List ℕ) (j : ℕ) →
        InRange c.first c.ranges k xs → j < length xs →
        accepted (write_cells c (get_or xs j 0) (run (tried_cells c) bs (take j xs))) ≡ leb (k + (suc j - opening_zeros (k + c.first) xs)) (length c.counts)
    unfolding read_cells
    accepts-from k bs B f d xs j b l =
        let gs = groups_in c bs in
        let long = groups-length c.m (width c) (wit c.order bs) in
        let now = run (tried c) gs (take j xs) in
        let r = run-stored gs (take j xs) long (opened-small c.order c.m (width c) bs) in
        let told = sound-told c.order c.m (width c) bs f B pos in
        let same : run (tried_cells c) bs (take j xs) ≡ stored c.order c.m now = ap (λ z. run (tried_cells c) z (take j xs)) (sym told) ∙ r.2 in
        rw (same, stored-write (get_or xs j 0) now r.0 r.1, storing-accepted c.order c.m (write c (get_or xs j 0) now))
        (groupwise.accepts-from c y k gs (groupwise.due-held c y k gs long d) xs j b l)

    -- Demand 3: from the blank buffer, write j + 1 of a sequence in range is accepted exactly when j + 1 less the opening_zeros zeros is at most the number of
    -- generations.
    pub accepts-is : (xs : List ℕ) (j : ℕ) → InRange c.first c.ranges 0 xs → j < length xs →
        accepted (write_cells c (get_or xs j 0) (run (tried_cells c) (replicate (size c.m (width c)) 0) (take j xs))) ≡ leb
        (suc j - opening_zeros c.first xs) (length c.counts)
    accepts-is xs j b l =
        let h = width c in
        let gs = run (tried c) (replicate h 0) (take j xs) in
        let r = run-stored (replicate h 0) (take j xs) (length-replicate h 0) (upto_all (erased c) (replicate h 0) (λ i k. omega (arith, none-at h i))) in
        rw (← blank-stored c.order c.m h pos, r.2, stored-write (get_or xs j 0) gs r.0 r.1, storing-accepted c.order c.m (write c (get_or xs j 0) gs))
        (groupwise.accepts c y xs j b l)
