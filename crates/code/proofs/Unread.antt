-- Document 02, §6: 15 and 16 come exactly where document 01 has no reading, and what they carry is fixed by the cells. Its sentences are said here on the
-- groups of the cells, and the replies are compared with them.
use Prim.Native.Nat.{ℕ, zero, suc, ◌-◌, ◌^◌, ◌≤◌, ◌<◌}
use mathlib.Core.Path.{◌≡◌, refl, sym, ◌∙◌}
use mathlib.Core.Logic.{◌⊎◌, inl, inr, ◌↔◌}
use mathlib.Core.Bool.{Bool, true, false, true≢false, cond}
use mathlib.Core.List.{List, [], ◌∷◌}
use native.Mathlib.Omega.{arith}
use native.Mathlib.Decide.{ℕ_discrete}
use lib.Dec.{eqb}
use lib.ListN.{length, get_or, get_or-eq_default}
use borrow.Author.Tests.{le-leb, lt-leb}
use Rattle.code.specs.declared.Shape.{Shape}
use Rattle.code.specs.Shape.{first_of, ranges_of, order_of, counts_of, width_of, code_of}
use Rattle.code.specs.Cells.{wit, opened, sound}
use Rattle.code.specs.Deal.{written}
use Rattle.code.specs.Code.{erased, generation_at, told}
use Rattle.code.specs.Field.{zeros, unerased, past, carriers, Reading, blank, reads, miscounted, beyond, has_reading, read_at}
use Rattle.code.specs.Calls.{read_cells, layout_refusal, field_read, numberless, miscounts, exceeds, over_range, generation, holds, left, read_reply, write_reply, refusal_in}
use Rattle.code.proofs.Tests.{le-or-lt, clash}
use Rattle.code.proofs.Cells.{groups-length}
use Rattle.code.proofs.Field.{past_next, past_is, past-most, read-blank, read-at-place, read-at-reads, read-at-miscounted, read-at-beyond}
use Rattle.code.proofs.LayoutCall.{bounded, counts-length, is-layout}
use Rattle.code.proofs.ReadCall.{read-unsound, read_none, read-miscounted, read-beyond, read_found}
use Rattle.code.proofs.WriteCall.{write-miscounted, write-beyond}

-- groups that are all zero are those of which none is written
all-zero : (gs : List ℕ) → ((j : ℕ) → get_or gs j 0 ≡ 0) → written gs ≡ 0
unfolding written
all-zero [] h = refl
all-zero (zero ∷ gs) h = all-zero gs (λ j. h (suc j))
all-zero (suc g ∷ gs) h = absurd (omega (arith, h 0))

zero-all : (gs : List ℕ) → written gs ≡ 0 → (j : ℕ) → get_or gs j 0 ≡ 0
unfolding written
zero-all [] h j = refl
zero-all (zero ∷ gs) h zero = refl
zero-all (zero ∷ gs) h (suc j) = zero-all gs h j
zero-all (suc g ∷ gs) h j = absurd (omega arith)

-- Where the zero groups point there is a generation, and if it is not the first, its count is above them.
past-before : (hs : List ℕ) (z n : ℕ) → past hs z ≡ suc n → z < get_or hs (suc n) 0
unfolding past
past-before [] z n e = absurd (omega arith)
past-before (h ∷ hs) z zero e = elim (le-or-lt (get_or hs 0 0) z) [ inl l ↦ absurd (omega (arith, rw (le-leb (get_or hs 0 0) z l) at e)) | inr g ↦ g ]
past-before (h ∷ hs) z (suc n) e = elim (le-or-lt (get_or hs 0 0) z) [
  | inl l ↦ absurd (omega (arith, rw (le-leb (get_or hs 0 0) z l) at e))
  | inr g ↦ past-before hs z n (omega (arith, rw (lt-leb (get_or hs 0 0) z g) at e))
]

-- Document 01's sentences on reading.
module _ (s : Shape) (bs : List ℕ) where
  -- the groups of the cells, and the value of an erased one
  abbrev pub field : List ℕ
  field = opened (order_of s) s.m (width_of s) bs

  abbrev pub full : ℕ
  full = 2 ^ s.m - 1

  -- "All-zero cells"
  abbrev pub AllZero : Type 0
  AllZero = (j : ℕ) → get_or field j 0 ≡ 0

  -- "Let z be the count of zero groups": the generation i that z points to, by its place, which is i − 1, and by its number
  abbrev pub place : ℕ
  place = past (counts_of s) (zeros field)

  abbrev pub pointed : ℕ
  pointed = suc place

  -- how many groups are unerased
  abbrev pub unerased_many : ℕ
  unerased_many = length (unerased full field)

  -- the number that the places tell at a generation, which are all groups or, from generation 2 on, the unerased ones
  abbrev pub number_at : ℕ → ℕ
  number_at n = told (generation_at (code_of s) n).dealing (carriers full n field)

  -- "From generation 2 on the unerased groups must number exactly h_i."
  abbrev pub RightCount : Type 0
  RightCount = 1 < pointed → unerased_many ≡ get_or (counts_of s) place 0

  -- "The number must be below v", which is v_i since 02, §7
  abbrev pub InRange : Type 0
  InRange = number_at place < get_or (ranges_of s) place 0

  -- "Otherwise the cells have no reading. All-zero cells read as generation 1, number 0."
  abbrev pub HasReading : Type 0
  HasReading = AllZero ⊎ (RightCount × InRange)

  -- "Generation 1 if z ≥ h_2; i if h_i > z ≥ h_(i+1); t if z < h_t"
  abbrev pub Points : ℕ → Type 0
  Points i =
      ((i ≡ 1) × (get_or (counts_of s) 1 0 ≤ zeros field))
      ⊎ (((1 < i) × (i < s.t) × (zeros field < get_or (counts_of s) (i - 1) 0) × (get_or (counts_of s) i 0 ≤ zeros field))
      ⊎ ((i ≡ s.t) × (zeros field < get_or (counts_of s) (s.t - 1) 0)))

  -- what a reading is by these sentences
  all-blank : AllZero → field_read s bs ≡ blank
  unfolding field_read read_cells width_of
  all-blank h = read-blank (code_of s) field (all-zero field h)

  some_written : (AllZero → ⊥) → 0 < written field
  some_written n = elim (le-or-lt (written field) 0) [ inl z ↦ absurd (n (zero-all field (omega arith))) | inr l ↦ l ]

  here-read : (AllZero → ⊥) → field_read s bs ≡ read_at (code_of s) field place
  unfolding field_read read_cells width_of
  here-read n = read-at-place (code_of s) field place (some_written n) refl

  -- as many places as the generation has: at generation 1 all groups are
  places-right : (n : ℕ) → (1 < suc n → unerased_many ≡ get_or (counts_of s) n 0) → length (carriers full n field) ≡ get_or (counts_of s) n 0
  unfolding carriers width_of
  places-right zero c = groups-length s.m (width_of s) (wit (order_of s) bs)
  places-right (suc n) c = c (omega arith)

  places-later : (n : ℕ) → 1 < suc n → carriers full n field ≡ unerased full field
  unfolding carriers
  places-later zero l = absurd (omega arith)
  places-later (suc n) l = refl

  module _ (n : AllZero → ⊥) where
    found_number : RightCount → InRange → field_read s bs ≡ reads pointed (number_at place)
    found_number c v = here-read n ∙ read-at-reads (code_of s) field _ place (number_at place) refl (places-right place c) refl v

    found-beyond : RightCount → get_or (ranges_of s) place 0 ≤ number_at place → field_read s bs ≡ beyond pointed
    found-beyond c v = here-read n ∙ read-at-beyond (code_of s) field _ place (number_at place) refl (places-right place c) refl v

    found-miscounted : 1 < pointed → (unerased_many ≡ get_or (counts_of s) place 0 → ⊥) → field_read s bs ≡ miscounted pointed unerased_many
    found-miscounted l d = here-read n ∙ read-at-miscounted (code_of s) field (unerased full field) place (places-later place l) d

  -- a reading is told by these sentences: blank, a number, or the reason why there is none
  by-sentences : (P : Reading → Type 0) → (AllZero → P blank) → ((AllZero → ⊥) → RightCount → InRange → P (reads pointed (number_at place))) →
      ((AllZero → ⊥) → 1 < pointed → (unerased_many ≡ get_or (counts_of s) place 0 → ⊥) → P (miscounted pointed unerased_many)) →
      ((AllZero → ⊥) → RightCount → get_or (ranges_of s) place 0 ≤ number_at place → P (beyond pointed)) → P (field_read s bs)
  by-sentences P empty number few high = elim (le-or-lt (written field) 0) [
    | inl z ↦ let all = zero-all field (omega arith) in rw (all-blank all) (empty all)
    | inr w ↦ counted (λ all. omega (arith, all-zero field all)) (le-or-lt pointed 1) (ℕ_discrete unerased_many (get_or (counts_of s) place 0))
  ]
    where
      ranged : (AllZero → ⊥) → RightCount → P (field_read s bs)
      ranged n c = elim (le-or-lt (get_or (ranges_of s) place 0) (number_at place)) [
        | inl v ↦ rw (found-beyond n c v) (high n c v)
        | inr v ↦ rw (found_number n c v) (number n c v)
      ]

      counted : (AllZero → ⊥) → (pointed ≤ 1) ⊎ (1 < pointed) → Dec (unerased_many ≡ get_or (counts_of s) place 0) → P (field_read s bs)
      counted n (inl l) d = ranged n (λ g. absurd (omega arith))
      counted n (inr l) (yes e) = ranged n (λ g. e)
      counted n (inr l) (no d) = rw (found-miscounted n l d) (few n l d)

  -- the cells have a reading by these sentences exactly where the definition says so, which refusal 17 of a resumed write goes by (02, §9)
  pub has-exactly : HasReading ↔ (has_reading (field_read s bs) ≡ true)
  unfolding has_reading
  has-exactly =
      by-sentences (λ r. HasReading ↔ (has_reading r ≡ true))
      (λ z. (λ h. refl, λ q. inl z)) (λ n c v. (λ h. refl, λ q. inr (c, v)))
      (λ n l d. (λ h. absurd (elim h [ inl z ↦ n z | inr w ↦ d (w.0 l) ]), λ q. absurd (true≢false (sym q))))
      (λ n c v. (λ h. absurd (elim h [ inl z ↦ n z | inr w ↦ omega (arith, w.1) ]), λ q. absurd (true≢false (sym q))))

  -- cells without a reading are one or the other
  why-unread : (HasReading → ⊥) → (field_read s bs ≡ miscounted pointed unerased_many) ⊎ (field_read s bs ≡ beyond pointed)
  why-unread u =
      by-sentences (λ r. field_read s bs ≡ r → (field_read s bs ≡ miscounted pointed unerased_many) ⊎ (field_read s bs ≡ beyond pointed))
      (λ z f. absurd (u (inl z))) (λ n c v f. absurd (u (inr (c, v)))) (λ n l d f. inl f) (λ n c v f. inr f) refl

  -- 15 carries the generation that the zero count points to, which is not the first, and the unerased count, which is not that generation's.
  pub miscounted-cells : (i u : ℕ) → field_read s bs ≡ miscounted i u →
      (AllZero → ⊥) × (i ≡ pointed) × (1 < i) × (u ≡ unerased_many) × (u ≡ get_or (counts_of s) place 0 → ⊥)
  miscounted-cells i u =
      by-sentences (λ r. r ≡ miscounted i u → (AllZero → ⊥) × (i ≡ pointed) × (1 < i) × (u ≡ unerased_many) × (u ≡ get_or (counts_of s) place 0 → ⊥))
      (λ z e. clash (cc)) (λ n c v e. clash (cc))
      (λ n l d e. let a : pointed ≡ i = cc in let b : unerased_many ≡ u = cc in (n, sym a, rw a at l, sym b, λ z. d (b ∙ z)))
      (λ n c v e. clash (cc))

  -- 16 carries that generation too; its unerased groups are as many as it has, from generation 2 on, and its number is not below the range.
  pub beyond-cells : (i : ℕ) → field_read s bs ≡ beyond i → (AllZero → ⊥) × (i ≡ pointed) × RightCount × (get_or (ranges_of s) place 0 ≤ number_at place)
  beyond-cells i =
      by-sentences (λ r. r ≡ beyond i → (AllZero → ⊥) × (i ≡ pointed) × RightCount × (get_or (ranges_of s) place 0 ≤ number_at place))
      (λ z e. clash (cc)) (λ n c v e. clash (cc)) (λ n l d e. clash (cc))
      (λ n c v e. let a : pointed ≡ i = cc in (n, sym a, c, v))

  abbrev whole : Bool
  whole = sound (order_of s) s.m (width_of s) bs

  module _ (ok : layout_refusal s 256 ≡ []) where
    -- blank cells are read or refused with 11
    blank-not : whole ≡ true → field_read s bs ≡ blank → (k : ℕ) (carried : List ℕ) → 11 < k → read_reply s bs ≡ k ∷ carried → ⊥
    unfolding miscounts exceeds
    blank-not q f k carried l e = go (numberless s blank) refl
      where
        go : (a : Bool) → numberless s blank ≡ a → ⊥
        go true n =
            let r = sym (read_none s bs ok q (rw f n)) ∙ e in
            let z : 11 ≡ k = cc in
            omega arith
        go false n =
            let r = sym (read_found s bs ok q blank f n refl refl) ∙ e in
            let z : 0 ≡ k = cc in
            omega arith

    -- what 15 tells, and what 16
    pub fifteen-told : (i u : ℕ) → read_reply s bs ≡ 15 ∷ i ∷ u ∷ [] → (whole ≡ true) × (field_read s bs ≡ miscounted i u)
    unfolding numberless miscounts exceeds
    fifteen-told i u e = go whole refl (field_read s bs) refl
      where
        go : (a : Bool) → whole ≡ a → (r : Reading) → field_read s bs ≡ r → (whole ≡ true) × (field_read s bs ≡ miscounted i u)
        go false q r f = clash (cc (read-unsound s bs ok q))
        go true q blank f = absurd (blank-not q f 15 (i ∷ u ∷ []) (omega arith) e)
        go true q (reads j x) f = clash (cc (read_found s bs ok q (reads j x) f refl refl refl))
        go true q (miscounted j n) f =
            let a = sym (read-miscounted s bs ok q j n f) ∙ e in
            let b : j ≡ i = cc in
            let c : n ≡ u = cc in
            (q, f ∙ rw (b, c))
        go true q (beyond j) f = clash (cc (read-beyond s bs ok q j f))

    pub sixteen-told : (i : ℕ) → read_reply s bs ≡ 16 ∷ i ∷ [] → (whole ≡ true) × (field_read s bs ≡ beyond i)
    unfolding numberless miscounts exceeds
    sixteen-told i e = go whole refl (field_read s bs) refl
      where
        go : (a : Bool) → whole ≡ a → (r : Reading) → field_read s bs ≡ r → (whole ≡ true) × (field_read s bs ≡ beyond i)
        go false q r f = clash (cc (read-unsound s bs ok q))
        go true q blank f = absurd (blank-not q f 16 (i ∷ []) (omega arith) e)
        go true q (reads j x) f = clash (cc (read_found s bs ok q (reads j x) f refl refl refl))
        go true q (miscounted j n) f = clash (cc (read-miscounted s bs ok q j n f))
        go true q (beyond j) f =
            let a = sym (read-beyond s bs ok q j f) ∙ e in
            let b : j ≡ i = cc in
            (q, f ∙ rw b)

    -- the generation by document 01's words
    pub pointed-exactly : (i : ℕ) → Points i ↔ (i ≡ pointed)
    pointed-exactly i = (there, λ e. rw e (back place refl))
      where
        hs : List ℕ
        hs = counts_of s

        many : length hs ≡ s.t
        many = counts-length s ok

        is-past : (n : ℕ) → get_or hs (suc n) 0 ≤ zeros field → (n ≡ 0) ⊎ (zeros field < get_or hs n 0) → place ≡ n
        is-past n h g = let c = code_of s in past_is (erased c) (erased c) (first_of s) hs (ranges_of s) n (zeros field) (is-layout s ok).holds h g

        there : Points i → i ≡ pointed
        there (inl (e, h)) = rw (is-past 0 h (inl refl)) e
        there (inr (inl (l, m, g, h))) =
            let e : suc (i - 1) ≡ i = omega arith in
            rw (is-past (i - 1) (rw e h) (inr g)) (sym e)
        there (inr (inr (e, g))) =
            let t : suc (s.t - 1) ≡ s.t = omega (arith, (bounded s ok).t-low) in
            let none : get_or hs s.t 0 ≡ 0 = get_or-eq_default hs 0 {n = s.t} (omega (arith, many)) in
            rw (is-past (s.t - 1) (rw (t, none) (omega arith)) (inr g), t) e

        back : (n : ℕ) → place ≡ n → Points (suc n)
        back zero e = inl (refl, rw e at (past_next hs (zeros field)))
        back (suc n) e =
            let g : zeros field < get_or hs (suc n) 0 = past-before hs (zeros field) n e in
            let later = past_next hs (zeros field) in
            elim (le-or-lt s.t (suc (suc n))) [
              | inl h ↦
                  let last : suc (suc n) ≡ s.t = omega (arith, past-most hs (zeros field) (omega (arith, many, (bounded s ok).t-low)), many) in
                  let p : s.t - 1 ≡ suc n = omega arith in
                  inr (inr (last, rw p g))
              | inr h ↦ let p : suc (suc n) - 1 ≡ suc n = omega arith in inr (inl (omega arith, h, rw p g, rw e at later))
            ]

    -- Sound cells, which refusal 3 is not for.
    module _ (q : whole ≡ true) where
      -- "All-zero cells read as generation 1, number 0" with t writes left, and as 11 in the forms in which they have no number (02, §2)
      pub blank-told : AllZero → read_reply s bs ≡ cond (eqb s.form 0) (0 ∷ 1 ∷ 0 ∷ s.t ∷ []) (11 ∷ [])
      unfolding numberless miscounts exceeds generation holds left
      blank-told z = go (eqb s.form 0) refl
        where
          go : (old : Bool) → eqb s.form 0 ≡ old → read_reply s bs ≡ cond old (0 ∷ 1 ∷ 0 ∷ s.t ∷ []) (11 ∷ [])
          go true e = read_found s bs ok q blank (all-blank z) (rw e) refl refl
          go false e = read_none s bs ok q (rw (all-blank z, e))

      -- cells that have a reading are read, or are blank ones of such a form
      readable : HasReading → (refusal_in (read_reply s bs) ≡ 0) ⊎ (refusal_in (read_reply s bs) ≡ 11)
      unfolding numberless miscounts exceeds
      readable h =
          by-sentences (λ r. field_read s bs ≡ r → (refusal_in (read_reply s bs) ≡ 0) ⊎ (refusal_in (read_reply s bs) ≡ 11))
          (λ z f. rw (blank-told z) (go (eqb s.form 0)))
          (λ n c v f. inl (rw (read_found s bs ok q (reads pointed (number_at place)) f refl refl refl)))
          (λ n l d f. absurd (elim h [ inl z ↦ n z | inr w ↦ d (w.0 l) ]))
          (λ n c v f. absurd (elim h [ inl z ↦ n z | inr w ↦ omega (arith, w.1) ])) refl
        where
          go : (old : Bool) → (refusal_in (cond old (0 ∷ 1 ∷ 0 ∷ s.t ∷ []) (11 ∷ [])) ≡ 0) ⊎ (refusal_in (cond old (0 ∷ 1 ∷ 0 ∷ s.t ∷ []) (11 ∷ [])) ≡ 11)
          go true = inl refl
          go false = inr refl

      -- 15 with a generation and an unerased count
      pub fifteen-exactly : (i u : ℕ) → (read_reply s bs ≡ 15 ∷ i ∷ u ∷ []) ↔
          ((AllZero → ⊥) × (i ≡ pointed) × (1 < i) × (u ≡ unerased_many) × (u ≡ get_or (counts_of s) place 0 → ⊥))
      fifteen-exactly i u = (
        λ e. miscounted-cells i u (fifteen-told i u e).1,
        λ h. read-miscounted s bs ok q i u (found-miscounted h.0 (rw h.1 at h.2) (λ z. h.4 (h.3 ∙ z)) ∙ rw (h.1, h.3)),
      )

      -- 16 with a generation
      pub sixteen-exactly : (i : ℕ) → (read_reply s bs ≡ 16 ∷ i ∷ []) ↔
          ((AllZero → ⊥) × (i ≡ pointed) × RightCount × (get_or (ranges_of s) place 0 ≤ number_at place))
      sixteen-exactly i = (
        λ e. beyond-cells i (sixteen-told i e).1,
        λ h. read-beyond s bs ok q i (found-beyond h.0 h.2 h.3 ∙ rw h.1),
      )

      -- of cells that are not all zero the answer is a generation and a number exactly where document 01 gives them
      pub read-exactly : (AllZero → ⊥) → (i x : ℕ) → (read_reply s bs ≡ 0 ∷ i ∷ x ∷ (s.t - i) ∷ []) ↔
          ((i ≡ pointed) × (x ≡ number_at place) × RightCount × InRange)
      unfolding numberless miscounts exceeds generation holds left
      read-exactly n i x = (
        by-sentences (λ r. field_read s bs ≡ r → read_reply s bs ≡ 0 ∷ i ∷ x ∷ (s.t - i) ∷ [] → (i ≡ pointed) × (x ≡ number_at place) × RightCount × InRange)
            (λ z f e. absurd (n z))
            (λ m c v f e. let e' = sym (read_found s bs ok q (reads pointed (number_at place)) f refl refl refl) ∙ e in
            let a : pointed ≡ i = cc in let b : number_at place ≡ x = cc in (sym a, sym b, c, v))
            (λ m l d f e. clash (cc (read-miscounted s bs ok q pointed unerased_many f)))
            (λ m c v f e. clash (cc (read-beyond s bs ok q pointed f))) refl,
        λ h. rw (h.0, h.1) (read_found s bs ok q (reads pointed (number_at place)) (found_number n h.2 h.3) refl refl refl),
      )

      -- one of the two comes exactly where document 01 has no reading
      pub unread-exactly : ((refusal_in (read_reply s bs) ≡ 15) ⊎ (refusal_in (read_reply s bs) ≡ 16)) ↔ (HasReading → ⊥)
      unread-exactly = (
        both,
        λ u. elim (why-unread u) [
          | inl f ↦ inl (rw (read-miscounted s bs ok q pointed unerased_many f))
          | inr f ↦ inr (rw (read-beyond s bs ok q pointed f))
        ],
      )
        where
          both : (refusal_in (read_reply s bs) ≡ 15) ⊎ (refusal_in (read_reply s bs) ≡ 16) → HasReading → ⊥
          both (inl e) h = elim (readable h) [ inl z ↦ omega arith | inr z ↦ omega arith ]
          both (inr e) h = elim (readable h) [ inl z ↦ omega arith | inr z ↦ omega arith ]

      -- and writing a number in range is then refused as reading is
      pub write-as-read : (x : ℕ) → over_range s x ≡ false → (HasReading → ⊥) → write_reply s x bs ≡ read_reply s bs
      write-as-read x l u = elim (why-unread u) [
        | inl f ↦ (write-miscounted s x bs ok q l pointed unerased_many f).0 ∙ sym (read-miscounted s bs ok q pointed unerased_many f)
        | inr f ↦ (write-beyond s x bs ok q l pointed f).0 ∙ sym (read-beyond s bs ok q pointed f)
      ]

      -- which is where the definition gives them none
      pub unread-told : ((refusal_in (read_reply s bs) ≡ 15) ⊎ (refusal_in (read_reply s bs) ≡ 16)) ↔ (has_reading (field_read s bs) ≡ false)
      unread-told = (
        λ e. none (has_reading (field_read s bs)) refl (unread-exactly.0 e),
        λ u. unread-exactly.1 (λ h. true≢false (sym (has-exactly.0 h) ∙ u)),
      )
        where
          none : (b : Bool) → has_reading (field_read s bs) ≡ b → (HasReading → ⊥) → b ≡ false
          none true q n = absurd (n (has-exactly.1 q))
          none false q n = refl
