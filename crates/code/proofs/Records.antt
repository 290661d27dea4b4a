-- Records in a dump: a record that is written reads back.
use Prim.Native.Nat.{ℕ, zero, suc, ◌+◌, ◌*◌, ◌-◌, ◌^◌, ◌≤◌, ◌<◌}
use mathlib.Core.Path.{◌≡◌, refl, sym, ap, ◌∙◌}
use mathlib.Core.List.{List, [], ◌∷◌, ◌++◌, append_assoc, append-nil}
use native.Mathlib.Omega.{arith}
use native.Mathlib.Nat.{add_assoc, add-zero}
use native.Mathlib.Numerals.{add-one}
use lib.ListN.{length, get_or, take, drop, length-append, length-drop, take-append-drop}
use lib.Seq.{take-suc, drop-drop, drop-append_seam, take-append_seam, get_or-append-add}
use mathlib.Core.Bool.{true, false}
use borrow.Author.Tests.{lt-ltb, le-ltb}
use Rattle.code.specs.declared.Kind.{Kind}
use Rattle.code.specs.Lists.{Below}
use Rattle.code.specs.Numerals.{sevens, numerals_of, malformed, numeral, read_sevens, cut, numbers, preceded, read_numbers}
use Rattle.code.specs.Export.{record_of}
use Rattle.code.specs.Dump.{Source, own_layouts, listed_layouts, head_length, taken, ended, stopped, record_by, out_of_list, broken, found, record_at, step_in}
use Rattle.code.specs.Dump.{barred, entered, opening_as, opening, step_on, step}
use Rattle.code.proofs.Digits.{sevens-some, sevens-few}
use Rattle.code.proofs.Numerals.{number-reads}

pub below_at : (b : ℕ) (xs : List ℕ) (i : ℕ) → Below b xs → i < length xs → get_or xs i 0 < b
below_at b [] i h l = absurd (omega arith)
below_at b (x ∷ xs) zero h l = h.0
below_at b (x ∷ xs) (suc i) h l = below_at b xs i h.1 (omega arith)

pub numerals-append : (xs ys : List ℕ) → numerals_of (xs ++ ys) ≡ numerals_of xs ++ numerals_of ys
unfolding numerals_of
numerals-append [] ys = refl
numerals-append (x ∷ xs) ys = rw (numerals-append xs ys, append_assoc)

pub numerals-many : (xs : List ℕ) → length xs ≤ length (numerals_of xs)
unfolding numerals_of
numerals-many [] = omega arith
numerals-many (x ∷ xs) = omega (arith, length-append (sevens 9 x) (numerals_of xs), sevens-some 8 x, numerals-many xs)

pub numerals-few : (xs : List ℕ) → length (numerals_of xs) ≤ 9 * length xs
unfolding numerals_of
numerals-few [] = omega arith
numerals-few (x ∷ xs) = omega (arith, length-append (sevens 9 x) (numerals_of xs), sevens-few 9 x, numerals-few xs)

-- the first i + 1 numbers are the first i and one more
pub numerals-next : (xs : List ℕ) (i : ℕ) → i < length xs → numerals_of (take (i + 1) xs) ≡ numerals_of (take i xs) ++ sevens 9 (get_or xs i 0)
unfolding numerals_of
numerals-next xs i l = rw (add-one, take-suc xs i 0 l, numerals-append, append-nil)

pub length-next : (xs : List ℕ) (i : ℕ) → i < length xs →
    length (numerals_of (take (i + 1) xs)) ≡ length (numerals_of (take i xs)) + length (sevens 9 (get_or xs i 0))
length-next xs i l = ap length (numerals-next xs i l) ∙ length-append (numerals_of (take i xs)) (sevens 9 (get_or xs i 0))

pub numerals-part : (xs : List ℕ) (i : ℕ) → length (numerals_of (take i xs)) ≤ length (numerals_of xs)
numerals-part xs i =
    let parts = ap length (sym (numerals-append (take i xs) (drop i xs)) ∙ ap numerals_of (take-append-drop i xs)) in
    omega (arith, length-append (numerals_of (take i xs)) (numerals_of (drop i xs)))

-- what the bytes from a place on begin with stands there, and what follows it stands after it
pub behind : (bytes : List ℕ) (at : ℕ) (front rest : List ℕ) → drop at bytes ≡ front ++ rest → drop (at + length front) bytes ≡ rest
behind bytes at front rest e = rw (← drop-drop (length front) at bytes, e, drop-append_seam front rest)

pub numbers-one : (k : ℕ) (bytes : List ℕ) (at x n : ℕ) → read_sevens 9 (drop at bytes) ≡ numeral x n →
    read_numbers (suc k) bytes at ≡ preceded x (read_numbers k bytes (at + n))
unfolding read_numbers
numbers-one k bytes at x n e = rw (e, read_numbers)

pub numbers-cut : (k : ℕ) (bytes : List ℕ) (at : ℕ) → read_sevens 9 (drop at bytes) ≡ malformed → read_numbers (suc k) bytes at ≡ cut
unfolding read_numbers
numbers-cut k bytes at e = rw (e, read_numbers)

pub numerals-read : (xs bytes : List ℕ) (at : ℕ) (rest : List ℕ) → Below (2 ^ 63) xs → drop at bytes ≡ numerals_of xs ++ rest →
    read_numbers (length xs) bytes at ≡ numbers xs (at + length (numerals_of xs))
unfolding numerals_of read_numbers preceded
numerals-read [] bytes at rest b e = rw add-zero
numerals-read (x ∷ xs) bytes at rest b e =
    let s : List ℕ = sevens 9 x in
    let e' : drop at bytes ≡ s ++ (numerals_of xs ++ rest) = e ∙ append_assoc s (numerals_of xs) rest in
    rw (numbers-one (length xs) bytes at x (length s) (rw e' (number-reads x (numerals_of xs ++ rest) b.0)))
    (rw (numerals-read xs bytes (at + length s) rest b.1 (behind bytes at s (numerals_of xs ++ rest) e'), length-append, add_assoc))

-- the numbers of a record, which stand in front of its cells
abbrev pub head_of : List ℕ → List ℕ → List ℕ
head_of head cells = head ++ (length cells ∷ [])

pub record-length : (head cells : List ℕ) → length (record_of head cells) ≡ length (numerals_of (head_of head cells)) + length cells
unfolding record_of
record-length head cells = length-append (numerals_of (head_of head cells)) cells

-- the same with n apart
pub record-parts : (head cells : List ℕ) → record_of head cells ≡ (numerals_of head ++ sevens 9 (length cells)) ++ cells
unfolding record_of numerals_of
record-parts head cells = rw (numerals-append head (length cells ∷ []), append-nil)

pub record-size : (head cells : List ℕ) → length (record_of head cells) ≡ length (numerals_of head) + length (sevens 9 (length cells)) + length cells
record-size head cells = rw (record-parts head cells) (simp length-append)

module _ (source : Source) (bytes : List ℕ) (at : ℕ) where
  -- the two places of a step: before the end and at it
  pub step-inside : at < length bytes → step_in source bytes at ≡ record_at source bytes at (read_numbers (suc (head_length source)) bytes at)
  unfolding step_in
  step-inside l = rw (lt-ltb at (length bytes) l)

  pub step-ended : length bytes ≤ at → step_in source bytes at ≡ ended
  unfolding step_in
  step-ended h = rw (le-ltb at (length bytes) h)

  -- numbers with a listed layout and their cells behind them are a record
  module _ (xs : List ℕ) (start : ℕ) where
    pub record-off : out_of_list source xs ≡ true → record_at source bytes at (numbers xs start) ≡ stopped 7 (at ∷ [])
    unfolding broken
    record-off o = rw o

    module _ (o : out_of_list source xs ≡ false) where
      pub record-found : get_or xs (head_length source) 0 ≤ length bytes - start → record_at source bytes at (numbers xs start) ≡ taken (record_by source xs start)
      unfolding broken found
      record-found h = rw (o, le-ltb (length bytes - start) (get_or xs (head_length source) 0) h)

      pub record-short : length bytes - start < get_or xs (head_length source) 0 → record_at source bytes at (numbers xs start) ≡ stopped 7 (at ∷ [])
      unfolding broken
      record-short h = rw (o, lt-ltb (length bytes - start) (get_or xs (head_length source) 0) h)

-- a record's cells lie where its numbers say
pub record-start : (source : Source) (xs : List ℕ) (start : ℕ) → (record_by source xs start).start ≡ start
unfolding record_by
record-start own_layouts xs start = refl
record-start (listed_layouts ls) xs start = refl

pub record-count : (source : Source) (xs : List ℕ) (start : ℕ) → (record_by source xs start).count ≡ get_or xs (head_length source) 0
unfolding record_by
record-count own_layouts xs start = refl
record-count (listed_layouts ls) xs start = refl

module _ (kind : Kind) (bytes : List ℕ) where
  pub open-oversize : 65536 < length bytes → opening kind bytes ≡ barred 8 []
  unfolding opening
  open-oversize h = rw (lt-ltb 65536 (length bytes) h)

  pub open-short : length bytes ≤ 65536 → opening kind bytes ≡ opening_as kind bytes
  unfolding opening
  open-short h = rw (le-ltb 65536 (length bytes) h)

  pub step-barred : (at k : ℕ) (carried : List ℕ) → opening kind bytes ≡ barred k carried → step kind bytes at ≡ stopped k carried
  unfolding step step_on
  step-barred at k carried e = rw e

  pub step-entered : (at : ℕ) (source : Source) (start : ℕ) → opening kind bytes ≡ entered source start → step kind bytes at ≡ step_in source bytes at
  unfolding step step_on
  step-entered at source start e = rw e

-- a record that stands at a place of a dump: the step there gives it, and its cells are a part of the dump
pub record Stands (source : Source) (bytes : List ℕ) (at : ℕ) (head cells : List ℕ) : Type 0 where
  pub stepped : step_in source bytes at ≡ taken (record_by source (head_of head cells) (at + length (numerals_of (head_of head cells))))
  pub part : take (length cells) (drop (at + length (numerals_of (head_of head cells))) bytes) ≡ cells

below-append : (b : ℕ) (xs ys : List ℕ) → Below b xs → Below b ys → Below b (xs ++ ys)
below-append b [] ys h g = g
below-append b (x ∷ xs) ys h g = (h.0, below-append b xs ys h.1 g)

pub record-stands : (source : Source) (bytes : List ℕ) (at : ℕ) (head cells post : List ℕ) → length head ≡ head_length source →
    out_of_list source (head_of head cells) ≡ false → Below (2 ^ 63) head → length bytes ≤ 65536 →
    drop at bytes ≡ record_of head cells ++ post → Stands source bytes at head cells
unfolding record_of
record-stands source bytes at head cells post long o b short e =
    let xs : List ℕ = head_of head cells in
    let front : List ℕ = numerals_of xs in
    let e' : drop at bytes ≡ front ++ (cells ++ post) = e ∙ append_assoc front cells post in
    let rest : drop (at + length front) bytes ≡ cells ++ post = behind bytes at front (cells ++ post) e' in
    let after : length bytes - (at + length front) ≡ length cells + length post = sym (length-drop (at + length front) bytes)
    ∙ rw rest (length-append cells post) in
    let many : length xs ≡ suc (head_length source) = omega (arith, length-append head (length cells ∷ [])) in
    let some : 0 < length front = omega (arith, numerals-many xs) in
    let inside : 0 < length bytes - at = omega (arith, simp length-append at (ap length e'), length-drop at bytes) in
    let count : get_or xs (head_length source) 0 ≡ length cells =
    ap (λ i. get_or xs i 0) (sym long ∙ sym (add-zero (length head))) ∙ get_or-append-add head (length cells ∷ []) 0 0 in
    let all : Below (2 ^ 63) xs = below-append (2 ^ 63) head (length cells ∷ []) b (omega arith, tt) in
    let read : read_numbers (suc (head_length source)) bytes at ≡ numbers xs (at + length front) =
    ap (λ k. read_numbers k bytes at) (sym many) ∙ numerals-read xs bytes at (cells ++ post) all e' in
    record {
      stepped = step-inside source bytes at (omega arith) ∙ rw read (record-found source bytes at xs (at + length front) o (omega arith));
      part = rw (rest, take-append_seam cells post);
    }
