-- A wit of bytes: its place, and bytes told by their wits. Only the laws of `place` look at the order.
use mathlib.Core.Path.{◌≡◌, ap, ◌∙◌}
use mathlib.Core.Logic.{inl, inr}
use mathlib.Core.List.{List, ◌++◌}
use Prim.Native.Nat.{ℕ, zero, suc, ◌+◌, ◌*◌, ◌-◌, ◌^◌, ◌/◌, ◌%◌, ◌≤◌, ◌<◌}
use native.Mathlib.Omega.{arith}
use native.Mathlib.Nat.{zero-div, mod-eq_of_lt}
use lib.ListN.{length, get_or, get_or-eq_default, get_or-append}
use lib.Seq.{ext_get_or, get_or-append-add}
use Rattle.code.specs.Cells.{bit_place, wit}
use Rattle.code.proofs.Tests.{le-or-lt}
use Rattle.code.proofs.Numbers.{bit-lt, bits-ext}

pub place-lt : (o w : ℕ) → bit_place o w < 8
unfolding bit_place
place-lt zero w = omega arith
place-lt (suc o) w = omega arith

-- the place of a place is the wit again, and a whole byte changes nothing
pub place-place : (o w : ℕ) → bit_place o (bit_place o w) ≡ w % 8
unfolding bit_place
place-place zero w = omega arith
place-place (suc o) w = omega arith

pub place_byte : (o i w : ℕ) → bit_place o (8 * i + w) ≡ bit_place o w
unfolding bit_place
place_byte zero i w = omega arith
place_byte (suc o) i w = omega arith

pub wit-lt : (o : ℕ) (bs : List ℕ) (w : ℕ) → wit o bs w < 2
unfolding wit
wit-lt o bs w = bit-lt (bit_place o w) (get_or bs (w / 8) 0)

pub wit-past : (o : ℕ) (bs : List ℕ) (w : ℕ) → 8 * length bs ≤ w → wit o bs w ≡ 0
unfolding wit
wit-past o bs w h = rw (get_or-eq_default bs 0 {n = w / 8} (omega arith), zero-div)

-- the wits of two buffers end to end
pub wit-front : (o : ℕ) (xs ys : List ℕ) (w : ℕ) → w < 8 * length xs → wit o (xs ++ ys) w ≡ wit o xs w
unfolding wit
wit-front o xs ys w h = rw (get_or-append xs ys 0 (w / 8) (omega arith))

pub wit-behind : (o : ℕ) (xs ys : List ℕ) (w : ℕ) → wit o (xs ++ ys) (8 * length xs + w) ≡ wit o ys w
unfolding wit
wit-behind o xs ys w =
    let e : (8 * length xs + w) / 8 ≡ length xs + w / 8 = omega arith in
    rw (e, get_or-append-add xs ys (w / 8) 0, place_byte o (length xs) w)

-- no wit falls where none falls in either of them
pub wit-rises : (o : ℕ) (xs ys xs' ys' : List ℕ) → length xs ≡ length xs' → ((w : ℕ) → wit o xs w ≤ wit o xs' w) → ((w : ℕ) → wit o ys w ≤ wit o ys' w) →
    (w : ℕ) → wit o (xs ++ ys) w ≤ wit o (xs' ++ ys') w
wit-rises o xs ys xs' ys' n f g w = elim (le-or-lt (8 * length xs) w) [
  | inr h ↦ omega (arith, wit-front o xs ys w h, wit-front o xs' ys' w (omega arith), f w)
  | inl h ↦
      let k : ℕ = w - 8 * length xs in
      let e : w ≡ 8 * length xs + k = omega arith in
      let e' : w ≡ 8 * length xs' + k = omega arith in
      let p : wit o (xs ++ ys) w ≡ wit o ys k = ap (wit o (xs ++ ys)) e ∙ wit-behind o xs ys k in
      let q : wit o (xs' ++ ys') w ≡ wit o ys' k = ap (wit o (xs' ++ ys')) e' ∙ wit-behind o xs' ys' k in
      rw (p, q) (g k)
]

-- every byte of a list is below 256
abbrev pub Bytes : List ℕ → Type 0
Bytes bs = (i : ℕ) → i < length bs → get_or bs i 0 < 256

-- bytes told by their wits
pub wit-ext : (o : ℕ) (xs ys : List ℕ) → length xs ≡ length ys → Bytes xs → Bytes ys → ((w : ℕ) → w < 8 * length xs → wit o xs w ≡ wit o ys w) → xs ≡ ys
unfolding wit
wit-ext o xs ys n hx hy e = ext_get_or 0 xs ys n
    (λ i h. bits-ext 8 (get_or xs i 0) (get_or ys i 0) (hx i h) (hy i (omega arith)) (λ q hq.
    let w : ℕ = 8 * i + bit_place o q in
    let b : bit_place o q < 8 = place-lt o q in
    let s : w / 8 ≡ i = omega arith in
    let p : bit_place o w ≡ q = place_byte o i (bit_place o q) ∙ place-place o q ∙ mod-eq_of_lt hq in
    let t : get_or xs (w / 8) 0 / 2 ^ bit_place o w % 2 ≡ get_or ys (w / 8) 0 / 2 ^ bit_place o w % 2 = e w (omega arith) in
    rw (s, p) at t))
