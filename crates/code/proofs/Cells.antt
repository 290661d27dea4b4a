-- Bytes and groups determine each other, for either order of bits.
use mathlib.Core.Path.{◌≡◌, refl, sym, ap, ◌∙◌}
use mathlib.Core.Logic.{◌⊎◌, inl, inr}
use mathlib.Core.Bool.{true}
use mathlib.Core.List.{List, [], ◌∷◌, ◌++◌}
use Prim.Native.Nat.{ℕ, zero, suc, ◌+◌, ◌*◌, ◌-◌, ◌^◌, ◌/◌, ◌%◌, ◌≤◌, ◌<◌}
use native.Mathlib.Omega.{arith}
use native.Mathlib.Decide.{dec_lt}
use native.Mathlib.Nat.{lt_of_not-le, le_refl, zero-add, div-add-mod, div-lt_iff_lt-mul, mul_comm, mod-lt, le-div_iff_mul-le, zero-div, mul-add-div, div-eq_of_lt, add-zero, mul-add-mod_self_left, mod-eq_of_lt}
use lib.Dec.{eqb}
use borrow.Author.Tests.{eq-eqb, eqb-true}
use lib.Pow.{pow_pos}
use lib.ListN.{length, get_or, replicate, length-append, length-replicate, get_or-eq_default}
use lib.Seq.{ext_get_or}
use Rattle.code.specs.Lists.{Upto}
use Rattle.code.specs.Cells.{bit_place, wit, value, listed, sum, group, groups, opened, size, sound, wit_of, byte_of, stored, ones, turned}
use Rattle.code.proofs.Tests.{both_true}
use Rattle.code.proofs.Numbers.{bit, bit-full, value-byte, value-bit, value-lt, value-is, value-zero, value_none, listed-length, listed_at}
use Rattle.code.proofs.Numbers.{sum-most, sum-difference, sum-split, sum_same}
use Rattle.code.proofs.Wits.{Bytes, wit-lt, wit-past, wit-front, wit-behind, wit-ext, place-lt, place-place}
use Rattle.code.proofs.Groups.{Grows}

-- n bytes of the wits f
abbrev bytes_of : ℕ → ℕ → (ℕ → ℕ) → List ℕ
bytes_of o n f = listed (byte_of o f) 0 n

-- a byte from its high bit down
byte-is : (o : ℕ) (f : ℕ → ℕ) (i : ℕ) → byte_of o f i ≡ value (λ k. f (8 * i + bit_place o (7 - k))) 0 8
unfolding byte_of sum value bit_place
byte-is zero f i = omega arith
byte-is (suc o) f i = omega arith

-- bytes of wits have those wits
bytes-wit : (o n : ℕ) (f : ℕ → ℕ) (w : ℕ) → ((k : ℕ) → f k < 2) → w < 8 * n → wit o (bytes_of o n f) w ≡ f w
unfolding wit
bytes-wit o n f w b h =
    let i : ℕ = w / 8 in
    let q : ℕ = bit_place o w in
    let l : q < 8 = place-lt o w in
    let p : 7 - (0 + (7 - q)) ≡ q = omega arith in
    let s : 8 * i + w % 8 ≡ w = omega arith in
    rw (listed_at (byte_of o f) 0 n i (omega arith), zero-add i, byte-is)
    (value-bit (λ k. f (8 * i + bit_place o (7 - k))) 0 (7 - q) q 8 (λ k. b (8 * i + bit_place o (7 - k))) (omega arith) ∙ rw (p, place-place, s))

bytes-are : (o n : ℕ) (f : ℕ → ℕ) → ((k : ℕ) → f k < 2) → Bytes (bytes_of o n f)
bytes-are o n f b i h = rw (listed_at (byte_of o f) 0 n i (omega (arith, listed-length (byte_of o f) 0 n)), byte-is)
    (value-byte (λ k. f (8 * (0 + i) + bit_place o (7 - k))) 0 8 (λ k. b (8 * (0 + i) + bit_place o (7 - k))) (omega arith))

pub groups-length : (m h : ℕ) (f : ℕ → ℕ) → length (groups m h f) ≡ h
unfolding groups
groups-length m h f = listed-length (group m f) 0 h

pub groups-at : (m h : ℕ) (f : ℕ → ℕ) (j : ℕ) → j < h → get_or (groups m h f) j 0 ≡ group m f j
unfolding groups
groups-at m h f j l = listed_at (group m f) 0 h j l ∙ rw (zero-add j)

-- groups of wits have those wits
pub groups-wit : (m h : ℕ) (f : ℕ → ℕ) (w : ℕ) → ((k : ℕ) → f k < 2) → 0 < m → w < m * h → wit_of m (groups m h f) w ≡ f w
unfolding wit_of groups group
groups-wit m h f w b pos l =
    let r : w % m < m = mod-lt w pos in
    rw (listed_at (group m f) 0 h (w / m) ((div-lt_iff_lt-mul pos).1 (rw (mul_comm h m) l)), zero-add (w / m))
    (value-bit f (m * (w / m)) (w % m) (m - 1 - w % m) m b (omega arith) ∙ rw div-add-mod)

pub wit_of-lt : (m : ℕ) (gs : List ℕ) (w : ℕ) → wit_of m gs w < 2
unfolding wit_of
wit_of-lt m gs w = omega arith

wit_of-past : (m : ℕ) (gs : List ℕ) (w : ℕ) → 0 < m → m * length gs ≤ w → wit_of m gs w ≡ 0
unfolding wit_of
wit_of-past m gs w pos l = rw (get_or-eq_default gs 0 {n = w / m} ((le-div_iff_mul-le pos).1 (rw (mul_comm (length gs) m) l)), zero-div)

-- document 01's byte count: it holds the wits, and none smaller does
pub size_holds : (m h : ℕ) → m * h ≤ 8 * size m h
size_holds m h = omega arith

pub size-least : (m h n : ℕ) → m * h ≤ 8 * n → size m h ≤ n
size-least m h n l = omega arith

-- what a sound buffer is
module _ (o m h : ℕ) (bs : List ℕ) (F : sound o m h bs ≡ true) where
  parts : (eqb (length bs) (size m h) ≡ true) × (eqb (value (wit o bs) (m * h) (8 * length bs - m * h)) 0 ≡ true)
  unfolding sound
  parts = both_true (eqb (length bs) (size m h)) (eqb (value (wit o bs) (m * h) (8 * length bs - m * h)) 0) F

  pub sound-length : length bs ≡ size m h
  sound-length = eqb-true (length bs) (size m h) parts.0

  -- every wit past the groups is 0
  pub sound-past : (w : ℕ) → m * h ≤ w → wit o bs w ≡ 0
  sound-past w l = elim (dec_lt w (8 * length bs)) [
    | yes u ↦
        let e : m * h + (w - m * h) ≡ w = omega arith in
        let z : value (wit o bs) (m * h) (8 * length bs - m * h) ≡ 0 = eqb-true (value (wit o bs) (m * h) (8 * length bs - m * h)) 0 parts.1 in
        rw e at (value-zero (wit o bs) (m * h) (8 * length bs - m * h) (w - m * h) z (omega arith))
    | no u ↦ wit-past o bs w (omega (arith, lt_of_not-le u))
  ]

  -- the buffer is that of its groups
  pub sound-told : Bytes bs → 0 < m → stored o m (opened o m h bs) ≡ bs
  unfolding stored
  sound-told B pos =
      let gs : List ℕ = opened o m h bs in
      let f : ℕ → ℕ = wit_of m gs in
      let n : size m (length gs) ≡ length bs = rw groups-length (sym sound-length) in
      rw n (wit-ext o (bytes_of o (length bs) f) bs (listed-length (byte_of o f) 0 (length bs)) (bytes-are o (length bs) f (wit_of-lt m gs)) B
      (λ w l. bytes-wit o (length bs) f w (wit_of-lt m gs) (omega (arith, listed-length (byte_of o f) 0 (length bs))) ∙ elim (dec_lt w (m * h)) [
        | yes u ↦ groups-wit m h (wit o bs) w (wit-lt o bs) pos u
        | no u ↦ wit_of-past m gs w pos (rw groups-length (omega (arith, lt_of_not-le u))) ∙ sym (sound-past w (omega (arith, lt_of_not-le u)))
      ]))

-- sound buffers are equal where their groups are
pub sound-same : (o m h : ℕ) (xs ys : List ℕ) → sound o m h xs ≡ true → sound o m h ys ≡ true → Bytes xs → Bytes ys → 0 < m
    → opened o m h xs ≡ opened o m h ys → xs ≡ ys
sound-same o m h xs ys F G B C pos e = sym (sound-told o m h xs F B pos) ∙ ap (stored o m) e ∙ sound-told o m h ys G C pos

-- a bound on every number, by list and by place
pub upto-at : (b : ℕ) (xs : List ℕ) (i : ℕ) → Upto b xs → get_or xs i 0 ≤ b
upto-at b [] i u = omega arith
upto-at b (x ∷ xs) zero u = u.0
upto-at b (x ∷ xs) (suc i) u = upto-at b xs i u.1

pub upto_all : (b : ℕ) (xs : List ℕ) → ((i : ℕ) → i < length xs → get_or xs i 0 ≤ b) → Upto b xs
upto_all b [] e = tt
upto_all b (x ∷ xs) e = (e 0 (omega arith), upto_all b xs (λ i l. e (suc i) (omega arith)))

pub opened-small : (o m h : ℕ) (bs : List ℕ) → Upto (2 ^ m - 1) (opened o m h bs)
unfolding group
opened-small o m h bs = upto_all (2 ^ m - 1) (opened o m h bs) (λ i l.
    rw (groups-at m h (wit o bs) i (omega (arith, groups-length m h (wit o bs)))) (omega (arith, value-lt (wit o bs) (m * i) m (wit-lt o bs))))

-- every list of groups has its buffer
module _ (o m : ℕ) (gs : List ℕ) (pos : 0 < m) where
  stored-wits : (w : ℕ) → w < 8 * size m (length gs) → wit o (stored o m gs) w ≡ wit_of m gs w
  unfolding stored
  stored-wits w l = bytes-wit o (size m (length gs)) (wit_of m gs) w (wit_of-lt m gs) l

  pub stored-length : length (stored o m gs) ≡ size m (length gs)
  unfolding stored
  stored-length = listed-length (byte_of o (wit_of m gs)) 0 (size m (length gs))

  -- past the bytes both are 0
  pub stored-wit : (w : ℕ) → wit o (stored o m gs) w ≡ wit_of m gs w
  stored-wit w = elim (dec_lt w (8 * size m (length gs))) [
    | yes u ↦ stored-wits w u
    | no u ↦ wit-past o (stored o m gs) w (omega (arith, lt_of_not-le u, stored-length)) ∙ sym (wit_of-past m gs w pos (omega (arith, lt_of_not-le u)))
  ]

  pub stored_bytes : Bytes (stored o m gs)
  unfolding stored
  stored_bytes = bytes-are o (size m (length gs)) (wit_of m gs) (wit_of-lt m gs)

  wit_of-at : (j i : ℕ) → i < m → wit_of m gs (m * j + i) ≡ bit (m - 1 - i) (get_or gs j 0)
  unfolding wit_of
  wit_of-at j i l = rw (mul-add-div pos j i, div-eq_of_lt l, add-zero, mul-add-mod_self_left m j i, mod-eq_of_lt l)

  pub stored-opened : Upto (2 ^ m - 1) gs → opened o m (length gs) (stored o m gs) ≡ gs
  unfolding group
  stored-opened u =
      let f : ℕ → ℕ = wit o (stored o m gs) in
      ext_get_or 0 (groups m (length gs) f) gs (groups-length m (length gs) f) (λ j k.
      let h : j < length gs = omega (arith, groups-length m (length gs) f) in
      groups-at m (length gs) f j h ∙ value-is f (m * j) m (get_or gs j 0) (wit-lt o (stored o m gs)) (omega (arith, upto-at (2 ^ m - 1) gs j u, pow_pos m))
      (λ i k. stored-wit (m * j + i) ∙ wit_of-at j i k))

  pub stored-sound : sound o m (length gs) (stored o m gs) ≡ true
  unfolding sound
  stored-sound =
      let bs : List ℕ = stored o m gs in
      rw (eq-eqb (length bs) (size m (length gs)) stored-length) (eq-eqb (value (wit o bs) (m * length gs) (8 * length bs - m * length gs)) 0
      (value_none (wit o bs) (m * length gs) (8 * length bs - m * length gs)
      (λ i l. stored-wit (m * length gs + i) ∙ wit_of-past m gs (m * length gs + i) pos (omega arith))))

-- where groups grow, no wit falls
grows_at : (e : ℕ) (xs ys : List ℕ) (j : ℕ) → Grows e xs ys → (get_or xs j 0 ≡ 0) ⊎ ((get_or ys j 0 ≡ get_or xs j 0) ⊎ (get_or ys j 0 ≡ e))
grows_at e [] [] j g = inl refl
grows_at e [] (y ∷ ys) j g = absurd g
grows_at e (x ∷ xs) [] j g = absurd g
grows_at e (x ∷ xs) (y ∷ ys) zero g = g.0
grows_at e (x ∷ xs) (y ∷ ys) (suc j) g = grows_at e xs ys j g.1

pub grows-wit : (m : ℕ) (xs ys : List ℕ) (w : ℕ) → 0 < m → Grows (2 ^ m - 1) xs ys → wit_of m xs w ≤ wit_of m ys w
unfolding wit_of
grows-wit m xs ys w pos g = elim (grows_at (2 ^ m - 1) xs ys (w / m) g) [
  | inl z ↦ rw (z, zero-div) (omega arith)
  | inr (inl q) ↦ rw q (le_refl _)
  | inr (inr q) ↦ rw (q, bit-full m (m - 1 - w % m) (omega arith)) (omega arith)
]

-- the turned count is the ones after less the ones before
pub turned_ones : (o : ℕ) (before after : List ℕ) → length after ≡ length before → ((w : ℕ) → wit o before w ≤ wit o after w) →
    turned o before after + ones o before ≡ ones o after
unfolding turned ones
turned_ones o before after n g = rw n (sum-difference (wit o before) (wit o after) (8 * length before) g)

-- no more wits turn than there are
pub turned-most : (o : ℕ) (before after : List ℕ) → turned o before after ≤ 8 * length before
unfolding turned
turned-most o before after = sum-most (λ w. wit o after w - wit o before w) (8 * length before) (λ w. omega (arith, wit-lt o after w))

-- the ones of two buffers end to end
pub ones-append : (o : ℕ) (xs ys : List ℕ) → ones o (xs ++ ys) ≡ ones o xs + ones o ys
unfolding ones
ones-append o xs ys =
    let f : ℕ → ℕ = wit o (xs ++ ys) in
    let l : 8 * length (xs ++ ys) ≡ 8 * length xs + 8 * length ys = omega (arith, length-append xs ys) in
    let front : sum f (8 * length xs) ≡ sum (wit o xs) (8 * length xs) = sum_same f (wit o xs) (8 * length xs) (wit-front o xs ys) in
    let behind = sum_same (λ k. f (8 * length xs + k)) (wit o ys) (8 * length ys) (λ k h. wit-behind o xs ys k) in
    rw (l, sum-split f (8 * length xs) (8 * length ys), front, behind)

-- the blank buffer is that of blank groups
pub none-at : (n i : ℕ) → ◌≡◌ {A = ℕ} (get_or (replicate n 0) i 0) 0
none-at zero i = refl
none-at (suc n) zero = refl
none-at (suc n) (suc i) = none-at n i

pub blank-wit : (o n w : ℕ) → wit o (replicate n 0) w ≡ 0
unfolding wit
blank-wit o n w = rw (none-at n (w / 8), zero-div)

pub blank-stored : (o m h : ℕ) → 0 < m → stored o m (replicate h 0) ≡ replicate (size m h) 0
unfolding wit_of
blank-stored o m h pos =
    let gs : List ℕ = replicate h 0 in
    let bs : List ℕ = replicate (size m h) 0 in
    let k : length gs ≡ h = length-replicate h 0 in
    let l : length (stored o m gs) ≡ length bs = stored-length o m gs pos ∙ rw (k, length-replicate {A = ℕ} (size m h) 0) in
    wit-ext o (stored o m gs) bs l (stored_bytes o m gs pos) (λ i u. omega (arith, none-at (size m h) i))
    (λ w u. stored-wit o m gs pos w ∙ rw (none-at h (w / m), zero-div, blank-wit o (size m h) w))
