-- Laws of telling a pattern's number, as the loops have it. Assumes nothing.
use mathlib.Core.Path.{◌≡◌, refl}
use mathlib.Core.List.{List}
use mathlib.Core.Logic.{inl, inr}
use Prim.Native.Nat.{ℕ, zero, suc, ◌+◌, ◌-◌, ◌*◌, ◌^◌, ◌≤◌, ◌<◌}
use native.Mathlib.Nat.{pow-zero, le-mul_of_pos_right, one-le-pow}
use native.Mathlib.Numerals.{add-one}
use native.Mathlib.Omega.{arith}
use lib.Dec.{lit≤}
use lib.ListN.{length, get_or, take, drop, length-drop}
use lib.Seq.{drop-cons, drop-length, length-take-le, get_or-take}
use Rattle.code.specs.Count.{choose, fewer}
use Rattle.code.specs.Deal.{plain}
use Rattle.code.proofs.Chosen.{ranked, pattern_most}
use Rattle.code.proofs.Tests.{le-or-lt}
use Rattle.code.proofs.Count.{choose-up, fewer-step, fewer-grows}
use Rattle.code.proofs.Sums.{fewer-threes}
use Rattle.code.proofs.Places.{plain_from, plain-from}
use Rattle.counting.specs.Cap.{cap, sat}
use Rattle.counting.proofs.Laws.{plus-sat}

-- a count of patterns with fewer written places that is below the cap is one of few written places: 3^36 is above 2^56 + 2
pub few : (b s first k : ℕ) → 1 < b → first ≤ 1 → k ≤ s → fewer b s first k < cap → k ≤ 36
few b s first k hb hf hs l = elim (le-or-lt k 36) [
  | inl h ↦ h
  | inr g ↦ absurd (omega (arith, fewer-threes b s first 36 hb hf (omega arith), fewer-grows b s first 37 k g))
]

-- and the arrays have room for them whatever the base: of 65 places 32 are written in more than 2^56 ways
many-ways : cap ≤ choose 65 32
unfolding choose
many-ways = lit≤ tt

pub room : (b s first k : ℕ) → 0 < b → first ≤ 1 → k ≤ s → fewer b s first k < cap → k ≤ pattern_most
room b s first k pos hf hs l = elim (le-or-lt k pattern_most) [
  | inl h ↦ h
  | inr g ↦
      let ways : choose 65 32 ≤ choose s 32 = choose-up 65 s 32 (omega arith) in
      let all = le-mul_of_pos_right (choose s 32) (one-le-pow 32 b pos) in
      absurd (omega (arith, many-ways, fewer-step b s first 32 (omega arith), fewer-grows b s first 33 k (omega arith)))
]

-- the first of the labels from `at` on, of which `left` are left
pub ranked-none : (l : List ℕ) → ranked (take 0 l) ≡ 0
unfolding ranked
ranked-none l = refl

pub ranked-first : (l : List ℕ) (at left : ℕ) → 0 < left → at + left ≤ length l →
    ranked (take left (drop at l)) ≡ choose (get_or l at 0) left + ranked (take (left - 1) (drop (at + 1) l))
unfolding ranked
ranked-first l at zero p h = absurd (omega arith)
ranked-first l at (suc q) p h =
    let u : suc q - 1 ≡ q = omega arith in
    let n : length (take q (drop (suc at) l)) ≡ q = length-take-le q (drop (suc at) l) (omega (arith, length-drop (suc at) l)) in
    rw (drop-cons l at 0 (omega arith), u, add-one at, n)

-- a sum of numbers up to the cap
pub ranked-more : (x y c r left : ℕ) → c ≡ sat x → sat r ≡ sat y → r ≤ (left - 1) * cap → 0 < left → (sat (c + r) ≡ sat (x + y)) × (c + r ≤ left * cap)
ranked-more x y c r left ec er h p = (omega arith, omega arith)

-- one digit more, and how little the digits that follow can take away
plain-next : (b : ℕ) (xs : List ℕ) (i x : ℕ) → i < length xs → plain_from b (drop (i + 1) xs) (x * b + get_or xs i 0) ≡ plain_from b (drop i xs) x
plain-next b xs i x h = rw (drop-cons xs i 0 h, add-one i) (plain-from b (get_or xs i 0) x (drop (suc i) xs))

plain-grows : (b : ℕ) (xs : List ℕ) (x : ℕ) → 0 < b → x ≤ plain_from b xs x
plain-grows b xs x pos = omega (arith, le-mul_of_pos_right x (one-le-pow (length xs) b pos))

pub plain_end : (e : ℕ) (xs : List ℕ) (i x : ℕ) → i ≡ length xs → plain_from e (drop i xs) x ≡ x
unfolding plain
plain_end e xs i x z = rw (z, drop-length xs, pow-zero) (omega arith)

-- the first i of the k digits in l are read on from d and make x
pub record Reading (b k d : ℕ) (l : List ℕ) (i x : ℕ) : Type 0 where
  pub to : i ≤ k
  pub whole : plain_from b (drop i (take k l)) x ≡ d * b ^ k + plain b (take k l)

module _ (b k d : ℕ) (l : List ℕ) (h : k ≤ length l) where
  many : length (take k l) ≡ k
  many = length-take-le k l h

  module _ (i x : ℕ) (R : Reading b k d l i x) where
    pub read-end : k ≤ i → x ≡ d * b ^ k + plain b (take k l)
    read-end g = omega (arith, R.whole, plain_end b (take k l) i x (omega (arith, R.to, many)))

    -- the digits that follow take nothing away
    pub read-over : 0 < b → x ≤ d * b ^ k + plain b (take k l)
    read-over pos = omega (arith, R.whole, plain-grows b (drop i (take k l)) x pos)

    -- one digit more, and two
    pub read_one : i < k → Reading b k d l (i + 1) (x * b + get_or l i 0)
    read_one g = record { to = omega arith; whole = rw (← get_or-take k l i 0 g, plain-next b (take k l) i x (omega (arith, many))) R.whole }

  pub read-two : (i x y : ℕ) → Reading b k d l i x → i + 1 < k → y ≡ x * (b * b) + (get_or l i 0 * b + get_or l (i + 1) 0) → Reading b k d l (i + 2) y
  read-two i x y R g e =
      let u : i + 2 ≡ i + 1 + 1 = omega arith in
      let v : y ≡ (x * b + get_or l i 0) * b + get_or l (i + 1) 0 = omega arith in
      rw (u, v) (read_one (i + 1) (x * b + get_or l i 0) (read_one i x R (omega arith)) g)

-- a pattern's number from the count f, the rank x, the power p and the digits q, where the code has them up to the cap
pub number-over : (f x p q r : ℕ) → 0 < p → sat r ≡ sat x → cap ≤ r → cap ≡ sat (f + (x * p + q))
number-over f x p q r pos e over = omega (arith, le-mul_of_pos_right x pos)

pub number-sum : (f x p q r : ℕ) {g d y : ℕ} → sat r ≡ sat x → r < cap → g ≡ sat f → d ≡ sat (r * p + q) → y ≡ sat (g + d) → y ≡ sat (f + (x * p + q))
number-sum f x p q r er small eg ed ey = let z : x ≡ r = omega arith in rw z (plus-sat f (r * p + q) eg ed ey)
