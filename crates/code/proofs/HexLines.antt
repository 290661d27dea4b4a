-- Intel HEX: a line's bytes by its characters, its shape, and its refusal test by test.
use Prim.Native.Nat.{ℕ, zero, suc, ◌+◌, ◌*◌, ◌-◌, ◌/◌, ◌%◌, ◌≤◌, ◌<◌}
use mathlib.Core.Path.{◌≡◌, refl, sym, ap, ◌∙◌}
use mathlib.Core.Logic.{inl, inr}
use mathlib.Core.Bool.{Bool, true, false, cond, not, ◌&&◌}
use mathlib.Core.List.{List, [], ◌∷◌}
use native.Mathlib.Omega.{arith}
use native.Mathlib.Nat.{mod-eq_of_lt}
use lib.ListN.{length, get_or, take, drop, length-take, length-drop}
use lib.Seq.{get_or-take, get_or-drop, drop-drop}
use lib.Dec.{leb, ltb, eqb}
use borrow.Author.Tests.{lt-ltb, le-ltb, le-leb, lt-leb, eq-eqb, ne_eqb, ltb-true, ltb-false, leb-true, eqb-true, eqb-false, not-false}
use Rattle.code.specs.Calls.{refusal}
use Rattle.code.specs.Lists.{ascii}
use Rattle.code.specs.Hex.{end_record, digit_number, spelled_byte, spelled_bytes, line_bytes, data_count, data_address, line_type, line_data}
use Rattle.code.specs.Lists.{same, list_sum}
use Rattle.code.specs.Hex.{line_end, behind_bytes, next_line, all_spelled, misshapen, laden_end, wrong_sum, displaced, line_refusal, is_end}
use Rattle.code.proofs.Tests.{le-or-lt, both_true, clash}
use Rattle.code.proofs.LayoutCall.{passed}

-- byte i behind a line's colon
abbrev pub byte_at : List ℕ → ℕ → ℕ
byte_at line i = spelled_byte (get_or line (2 * i + 1) 0) (get_or line (2 * i + 2) 0)

-- the characters of a line with its end
abbrev pub line_size : List ℕ → ℕ
line_size line = 11 + 2 * data_count line + line_end (drop (11 + 2 * data_count line) line)

-- a line whose shape is not "bad"
pub record Shaped (line : List ℕ) : Type 0 where
  pub colon : get_or line 0 0 ≡ 58
  pub bytes : all_spelled (line_bytes line) ≡ true
  pub finish : 0 < line_end (drop (11 + 2 * data_count line) line)

pub spelled-length : (n : ℕ) (text : List ℕ) → length (spelled_bytes n text) ≡ n
unfolding spelled_bytes
spelled-length zero text = refl
spelled-length (suc n) text = ap suc (spelled-length n (drop 2 text))

spelled_at : (n : ℕ) (text : List ℕ) (i : ℕ) → i < n → get_or (spelled_bytes n text) i 0 ≡ spelled_byte (get_or text (2 * i) 0) (get_or text (2 * i + 1) 0)
unfolding spelled_bytes
spelled_at zero text i h = absurd (omega arith)
spelled_at (suc n) text zero h = refl
spelled_at (suc n) text (suc i) h =
    let a : 2 * suc i ≡ 2 + 2 * i = omega arith in
    let b : 2 * suc i + 1 ≡ 2 + (2 * i + 1) = omega arith in
    spelled_at n (drop 2 text) i (omega arith) ∙ rw (b, a, get_or-drop 2 text (2 * i) 0, get_or-drop 2 text (2 * i + 1) 0)

pub behind-colon : (line : List ℕ) (n i : ℕ) → i < n → get_or (spelled_bytes n (drop 1 line)) i 0 ≡ byte_at line i
behind-colon line n i h =
    let a : 2 * i + 1 ≡ 1 + 2 * i = omega arith in
    let b : 2 * i + 2 ≡ 1 + (2 * i + 1) = omega arith in
    cc (spelled_at n (drop 1 line) i h, get_or-drop 1 line (2 * i) 0, get_or-drop 1 line (2 * i + 1) 0)

module _ (line : List ℕ) where
  pub count-is : data_count line ≡ byte_at line 0
  unfolding data_count line_bytes
  count-is = behind-colon line (5 + byte_at line 0) 0 (omega arith)

  pub bytes-are : line_bytes line ≡ spelled_bytes (5 + data_count line) (drop 1 line)
  unfolding line_bytes
  bytes-are = rw count-is

  pub bytes-length : length (line_bytes line) ≡ 5 + data_count line
  bytes-length = rw bytes-are (spelled-length (5 + data_count line) (drop 1 line))

  pub byte-at : (i : ℕ) → i < 5 + data_count line → get_or (line_bytes line) i 0 ≡ byte_at line i
  byte-at i h = rw bytes-are (behind-colon line (5 + data_count line) i h)

  pub type-is : line_type line ≡ byte_at line 3
  unfolding line_type
  type-is = byte-at 3 (omega arith)

  pub address_is : data_address line ≡ 256 * byte_at line 1 + byte_at line 2
  unfolding data_address
  address_is = rw (byte-at 1 (omega arith), byte-at 2 (omega arith))

  pub behind-is : behind_bytes line ≡ drop (11 + 2 * data_count line) line
  unfolding behind_bytes
  behind-is = let e : 1 + 2 * length (line_bytes line) ≡ 11 + 2 * data_count line = omega (arith, bytes-length) in rw e

  pub next-is : next_line line ≡ drop (line_size line) line
  unfolding next_line
  next-is = rw behind-is (drop-drop (line_end (drop (11 + 2 * data_count line) line)) (11 + 2 * data_count line) line)

  pub data-length : length (line_data line) ≡ data_count line
  unfolding line_data
  data-length = omega (arith, length-take (data_count line) (drop 4 (line_bytes line)), length-drop 4 (line_bytes line), bytes-length)

  pub data-at : (i : ℕ) → i < data_count line → get_or (line_data line) i 0 ≡ byte_at line (4 + i)
  unfolding line_data
  data-at i h =
      get_or-take (data_count line) (drop 4 (line_bytes line)) i 0 h ∙ get_or-drop 4 (line_bytes line) i 0 ∙ byte-at (4 + i) (omega arith)

-- bytes that are all spelled are below 256, and a byte that is not spelled shows
pub spelled-small : (bytes : List ℕ) → all_spelled bytes ≡ true → (i : ℕ) → i < length bytes → get_or bytes i 0 < 256
unfolding all_spelled
spelled-small [] h i l = absurd (omega arith)
spelled-small (b ∷ bytes) h zero l = ltb-true b 256 (both_true (ltb b 256) (all_spelled bytes) h).0
spelled-small (b ∷ bytes) h (suc i) l = spelled-small bytes (both_true (ltb b 256) (all_spelled bytes) h).1 i (omega arith)

-- a data byte of a line whose bytes are all spelled
pub data-small : (line : List ℕ) (i : ℕ) → all_spelled (line_bytes line) ≡ true → i < data_count line → byte_at line (4 + i) < 256
data-small line i h l = omega (arith, spelled-small (line_bytes line) h (4 + i) (omega (arith, bytes-length line)), byte-at line (4 + i) (omega arith))

-- a byte that is spelled, by its digits, and a digit in one formula
pub spelled-digits : (a b : ℕ) → spelled_byte a b < 256 → (digit_number a < 16) × (digit_number b < 16) × (spelled_byte a b ≡ 16 * digit_number a + digit_number b)
unfolding spelled_byte
spelled-digits a b h = elim (le-or-lt 16 (digit_number a)) [
  | inl l ↦ let none = rw (le-ltb (digit_number a) 16 l) at h in absurd (omega arith)
  | inr l ↦ elim (le-or-lt 16 (digit_number b)) [
    | inl k ↦ let none = rw (lt-ltb (digit_number a) 16 l, le-ltb (digit_number b) 16 k) at h in absurd (omega arith)
    | inr k ↦ (l, k, rw (lt-ltb (digit_number a) 16 l, lt-ltb (digit_number b) 16 k))
  ]
]

pub digit-known : (c : ℕ) → digit_number c < 16 → digit_number c ≡ c % 16 + 9 * (c / 64)
unfolding digit_number
digit-known c h = elim (le-or-lt c 57) [
  | inl l ↦ elim (le-or-lt 48 c) [
    | inl k ↦ rw (le-leb 48 c k, le-leb c 57 l) (omega arith)
    | inr k ↦ let none = rw (lt-leb 48 c k, lt-leb 65 c (omega arith), lt-leb 97 c (omega arith)) at h in absurd (omega arith)
  ]
  | inr l ↦ letter (le-leb 48 c (omega arith)) (lt-leb c 57 l)
]
  where
    small : leb 48 c ≡ true → leb c 57 ≡ false → leb 65 c ≡ true → leb c 70 ≡ false → 97 ≤ c → digit_number c ≡ c % 16 + 9 * (c / 64)
    small a b d e k = elim (le-or-lt c 102) [
      | inl l ↦ rw (a, b, d, e, le-leb 97 c k, le-leb c 102 l) (omega arith)
      | inr l ↦ let none = rw (a, b, d, e, le-leb 97 c k, lt-leb c 102 l) at h in absurd (omega arith)
    ]

    letter : leb 48 c ≡ true → leb c 57 ≡ false → digit_number c ≡ c % 16 + 9 * (c / 64)
    letter a b = elim (le-or-lt c 70) [
      | inl l ↦ elim (le-or-lt 65 c) [
        | inl k ↦ rw (a, b, le-leb 65 c k, le-leb c 70 l) (omega arith)
        | inr k ↦ let none = rw (a, b, lt-leb 65 c k, lt-leb 97 c (omega arith)) at h in absurd (omega arith)
      ]
      | inr l ↦ elim (le-or-lt 97 c) [
        | inr k ↦ let none = rw (a, b, le-leb 65 c (omega arith), lt-leb c 70 l, lt-leb 97 c k) at h in absurd (omega arith)
        | inl k ↦ small a b (le-leb 65 c (omega arith)) (lt-leb c 70 l) k
      ]
    ]

pub is_true : (b : Bool) → (b ≡ false → ⊥) → b ≡ true
is_true true h = refl
is_true false h = absurd (h refl)

pub is_false : (b : Bool) → (b ≡ true → ⊥) → b ≡ false
is_false true h = absurd (h refl)
is_false false h = refl

-- the characters of a line's end: one or two, and they are there
pub end-most : (text : List ℕ) → line_end text ≤ 2
unfolding line_end
end-most text = go (eqb (get_or text 0 0) 10) (eqb (get_or text 0 0) 13 && eqb (get_or text 1 0) 10)
  where
    go : (p q : Bool) → cond p 1 (cond q 2 0) ≤ 2
    go true q = omega arith
    go false true = omega arith
    go false false = omega arith

end-within : (text : List ℕ) → line_end text ≤ length text
unfolding line_end
end-within [] = omega arith
end-within (a ∷ []) = go (eqb a 10) (eqb a 13)
  where
    go : (p q : Bool) → cond p 1 (cond (q && false) 2 0) ≤ 1
    go true q = omega arith
    go false true = omega arith
    go false false = omega arith
end-within (a ∷ b ∷ text) = omega (arith, end-most (a ∷ b ∷ text))

module _ (line : List ℕ) where
  pub shaped-is : misshapen line ≡ false → Shaped line
  unfolding misshapen
  shaped-is h =
      let a = both_true (eqb (get_or line 0 0) 58 && all_spelled (line_bytes line)) (ltb 0 (line_end (behind_bytes line))) (not-false _ h) in
      let b = both_true (eqb (get_or line 0 0) 58) (all_spelled (line_bytes line)) a.0 in
      record { colon = eqb-true (get_or line 0 0) 58 b.0; bytes = b.1; finish = rw (behind-is line) at (ltb-true 0 (line_end (behind_bytes line)) a.1) }

  is-shaped : Shaped line → misshapen line ≡ false
  unfolding misshapen
  is-shaped s = rw (s.colon, s.bytes, behind-is line, lt-ltb 0 (line_end (drop (11 + 2 * data_count line) line)) s.finish)

  -- a line's characters are there, and the rest is left behind them
  pub size-within : Shaped line → line_size line ≤ length line
  size-within s = omega (arith, end-within (drop (11 + 2 * data_count line) line), s.finish, length-drop (11 + 2 * data_count line) line)

  pub next-length : Shaped line → length (next_line line) + line_size line ≡ length line
  next-length s = omega (arith, size-within s, ap length (next-is line), length-drop (line_size line) line)

  pub shaped-count : Shaped line → data_count line < 256
  unfolding data_count
  shaped-count s = spelled-small (line_bytes line) s.bytes 0 (omega (arith, bytes-length line))

pub same-eq : (xs ys : List ℕ) → same xs ys ≡ true → xs ≡ ys
unfolding same
same-eq [] [] h = refl
same-eq [] (y ∷ ys) h = clash (cc)
same-eq (x ∷ xs) [] h = clash (cc)
same-eq (x ∷ xs) (y ∷ ys) h =
    let b = both_true (eqb x y) (same xs ys) h in
    cc (eqb-true x y b.0, same-eq xs ys b.1)

-- the bytes of the end record
end_bytes : line_bytes end_record ≡ 0 ∷ 0 ∷ 0 ∷ 1 ∷ 255 ∷ []
unfolding end_record ascii line_bytes spelled_bytes spelled_byte digit_number
end_bytes = refl

pub end-type : (line : List ℕ) → is_end line ≡ true → line_type line ≡ 1
unfolding is_end line_type
end-type line h = rw (same-eq (line_bytes line) (line_bytes end_record) h, end_bytes)

five : (xs : List ℕ) → length xs ≡ 5 → xs ≡ get_or xs 0 0 ∷ get_or xs 1 0 ∷ get_or xs 2 0 ∷ get_or xs 3 0 ∷ get_or xs 4 0 ∷ []
five [] h = absurd (omega arith)
five (a ∷ []) h = absurd (omega arith)
five (a ∷ b ∷ []) h = absurd (omega arith)
five (a ∷ b ∷ c ∷ []) h = absurd (omega arith)
five (a ∷ b ∷ c ∷ d ∷ []) h = absurd (omega arith)
five (a ∷ b ∷ c ∷ d ∷ e ∷ []) h = refl
five (a ∷ b ∷ c ∷ d ∷ e ∷ f ∷ xs) h = absurd (omega arith)

end-listed : (line : List ℕ) → line_bytes line ≡ 0 ∷ 0 ∷ 0 ∷ 1 ∷ 255 ∷ [] → is_end line ≡ true
unfolding is_end same
end-listed line e = rw (e, end_bytes)

-- the end record compared byte by byte
pub end_is : (line : List ℕ) → ((i : ℕ) → i < 5 → byte_at line i ≡ byte_at end_record i) → is_end line ≡ true
unfolding end_record ascii spelled_byte digit_number
end_is line h =
    let c : data_count line ≡ 0 = count-is line ∙ h 0 (omega arith) in
    let at : (i : ℕ) → i < 5 → get_or (line_bytes line) i 0 ≡ byte_at end_record i = λ i l. byte-at line i (omega arith) ∙ h i l in
    end-listed line (five (line_bytes line) (omega (arith, bytes-length line))
    ∙ rw (at 0 (omega arith), at 1 (omega arith), at 2 (omega arith), at 3 (omega arith), at 4 (omega arith)))

pub not_end : (line : List ℕ) (i : ℕ) → i < 5 → (byte_at line i ≡ byte_at end_record i → ⊥) → is_end line ≡ false
unfolding is_end
not_end line i l n = is_false (is_end line) (λ e. n (
    sym (byte-at line i (omega arith)) ∙ ap (λ (bytes : List ℕ). get_or bytes i 0) (same-eq (line_bytes line) (line_bytes end_record) e)
    ∙ byte-at end_record i (omega arith)))

-- what is known of a line that passes every test
pub record GoodLine (n : ℕ) (line : List ℕ) : Type 0 where
  pub shaped : Shaped line
  pub bare : laden_end line ≡ false
  pub summed : wrong_sum line ≡ false
  pub placed : displaced n line ≡ false
  pub known : line_type line ≤ 1

module _ (n : ℕ) (line : List ℕ) where
  pub line-passed : line_refusal n line ≡ [] → GoodLine n line
  unfolding line_refusal
  line-passed h =
      let a = passed 23 [] (eqb (length line) 0) _ h in
      let b = passed 20 [] (misshapen line) _ a.1 in
      let c = passed 20 [] (laden_end line) _ b.1 in
      let d = passed 21 [] (wrong_sum line) _ c.1 in
      let e = passed 22 [] (displaced n line) _ d.1 in
      let f = passed 24 [] (ltb 1 (line_type line)) [] e.1 in
      record { shaped = shaped-is line b.0; bare = c.0; summed = d.0; placed = e.0; known = ltb-false 1 (line_type line) f.0 }

  -- the tests in their order
  pub refuse-none : length line ≡ 0 → line_refusal n line ≡ 23 ∷ []
  unfolding line_refusal refusal
  refuse-none h = rw (eq-eqb (length line) 0 h)

  pub refuse-shape : 0 < length line → (Shaped line → ⊥) → line_refusal n line ≡ 20 ∷ []
  unfolding line_refusal refusal
  refuse-shape l s = rw (ne_eqb (length line) 0 (λ z. omega arith), is_true (misshapen line) (λ f. s (shaped-is line f)))

  module _ (s : Shaped line) where
    some : eqb (length line) 0 ≡ false
    some = ne_eqb (length line) 0 (λ z. omega (arith, size-within line s))

    pub refuse-laden : laden_end line ≡ true → line_refusal n line ≡ 20 ∷ []
    unfolding line_refusal refusal
    refuse-laden a = rw (some, is-shaped line s, a)

    module _ (a : laden_end line ≡ false) where
      pub refuse-sum : wrong_sum line ≡ true → line_refusal n line ≡ 21 ∷ []
      unfolding line_refusal refusal
      refuse-sum b = rw (some, is-shaped line s, a, b)

      module _ (b : wrong_sum line ≡ false) where
        pub refuse-place : displaced n line ≡ true → line_refusal n line ≡ 22 ∷ []
        unfolding line_refusal refusal
        refuse-place c = rw (some, is-shaped line s, a, b, c)

        module _ (c : displaced n line ≡ false) where
          pub refuse-type : 1 < line_type line → line_refusal n line ≡ 24 ∷ []
          unfolding line_refusal refusal
          refuse-type d = rw (some, is-shaped line s, a, b, c, lt-ltb 1 (line_type line) d)

          pub line-passes : line_type line ≤ 1 → line_refusal n line ≡ []
          unfolding line_refusal refusal
          line-passes d = rw (some, is-shaped line s, a, b, c, le-ltb 1 (line_type line) d)

-- each test by the line's numbers
module _ (line : List ℕ) where
  pub not-laden : (line_type line ≡ 1 → (data_count line ≡ 0) × (data_address line ≡ 0)) → laden_end line ≡ false
  unfolding laden_end
  not-laden h = go (eqb (line_type line) 1) refl
    where
      go : (b : Bool) → eqb (line_type line) 1 ≡ b → (b && not (eqb (data_count line) 0 && eqb (data_address line) 0)) ≡ false
      go true q = let e = h (eqb-true (line_type line) 1 q) in rw (e.0, e.1)
      go false q = refl

  pub laden-what : laden_end line ≡ false → line_type line ≡ 1 → (data_count line ≡ 0) × (data_address line ≡ 0)
  unfolding laden_end
  laden-what h k =
      let e : (eqb (data_count line) 0 && eqb (data_address line) 0) ≡ true = not-false _ (rw k at h) in
      let b = both_true (eqb (data_count line) 0) (eqb (data_address line) 0) e in
      (eqb-true (data_count line) 0 b.0, eqb-true (data_address line) 0 b.1)

  pub sum-what : wrong_sum line ≡ false → list_sum (line_bytes line) % 256 ≡ 0
  unfolding wrong_sum
  sum-what h = eqb-true (list_sum (line_bytes line) % 256) 0 (not-false _ h)

  pub placed-what : (n : ℕ) → displaced n line ≡ false → line_type line ≡ 0 → 0 < data_count line → (data_address line ≡ n) × (n + data_count line ≤ 65536)
  unfolding displaced
  placed-what n h k c =
      let e : (eqb (data_address line) n && leb (n + data_count line) 65536) ≡ true = not-false _ (rw (k, lt-ltb 0 (data_count line) c) at h) in
      let b = both_true (eqb (data_address line) n) (leb (n + data_count line) 65536) e in
      (eqb-true (data_address line) n b.0, leb-true (n + data_count line) 65536 b.1)

  pub not-displaced : (n : ℕ) → (line_type line ≡ 0 → 0 < data_count line → (data_address line ≡ n) × (n + data_count line ≤ 65536)) → displaced n line ≡ false
  unfolding displaced
  not-displaced n h = go (eqb (line_type line) 0) refl (ltb 0 (data_count line)) refl
    where
      go : (b : Bool) → eqb (line_type line) 0 ≡ b → (c : Bool) → ltb 0 (data_count line) ≡ c →
          (b && c && not (eqb (data_address line) n && leb (n + data_count line) 65536)) ≡ false
      go true q true r =
          let e = h (eqb-true (line_type line) 0 q) (ltb-true 0 (data_count line) r) in
          rw (eq-eqb (data_address line) n e.0, le-leb (n + data_count line) 65536 e.1)
      go true q false r = refl
      go false q c r = refl

-- a line that passes leaves no more bytes than there are addresses
pub passed-few : (n : ℕ) (line : List ℕ) → GoodLine n line → n ≤ 65536 → n + data_count line ≤ 65536
passed-few n line p h = elim (le-or-lt 1 (line_type line)) [
  | inl k ↦ omega (arith, (laden-what line p.bare (omega (arith, p.known))).0)
  | inr k ↦ elim (le-or-lt 1 (data_count line)) [ inl c ↦ (placed-what line n p.placed (omega arith) c).1 | inr c ↦ omega arith ]
]

rounds : (x : ℕ) → x < 256 → suc x % 256 ≡ 0 → x ≡ 255
rounds x h e = elim (le-or-lt 255 x) [ inl l ↦ omega arith | inr l ↦ let q : suc x < 256 = omega arith in absurd (omega (arith, mod-eq_of_lt q)) ]

-- a line of type 01 that passes is the end record, in some letter case
pub end-told : (n : ℕ) (line : List ℕ) → GoodLine n line → line_type line ≡ 1 → is_end line ≡ true
unfolding list_sum line_type data_count data_address
end-told n line p k =
    let bare = laden-what line p.bare k in
    let l = five (line_bytes line) (omega (arith, bytes-length line, bare.0)) in
    let last = spelled-small (line_bytes line) p.shaped.bytes 4 (omega (arith, bytes-length line)) in
    let b : get_or (line_bytes line) 1 0 ≡ 0 = omega (arith, bare.1) in
    let c : get_or (line_bytes line) 2 0 ≡ 0 = omega (arith, bare.1) in
    let sum : list_sum (line_bytes line) ≡ suc (get_or (line_bytes line) 4 0) = ap list_sum l ∙ omega (arith, bare.0) in
    let e = rounds (get_or (line_bytes line) 4 0) last (rw sum at (sum-what line p.summed)) in
    end-listed line (l ∙ rw (bare.0, b, c, k, e))
