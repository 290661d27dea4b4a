-- Digits read part by part, the pattern of a number whose k is known, what the count of the next generation decides, and what the code asks of a dealing.
use Prim.Native.Nat.{ℕ, zero, suc, ◌+◌, ◌*◌, ◌-◌, ◌^◌, ◌/◌, ◌%◌, ◌≤◌, ◌<◌}
use mathlib.Core.Path.{◌≡◌, refl}
use mathlib.Core.List.{List, ◌∷◌}
use native.Mathlib.Omega.{arith}
use native.Mathlib.Nat.{pow-suc, one-le-pow, div-lt_iff_lt-mul, mod-lt, div-add-mod'}
use lib.ListN.{length}
use lib.Pow.{pow_mono}
use Rattle.code.specs.Count.{choose, fewer}
use Rattle.code.specs.Deal.{number, laid, deal, plain, plainly}
use Rattle.code.specs.declared.Dealing.{Dealing}
use Rattle.code.specs.declared.Dealing.TheVariants.{Patterns, Digits}
use Rattle.code.specs.Code.{deals, dealt}
use Rattle.code.proofs.Count.{fewer-grows}
use Rattle.code.proofs.Deal.{laid-is, deal-back}

-- the number that digits make when they are read on from one that was read before them
abbrev pub plain_from : ℕ → List ℕ → ℕ → ℕ
plain_from e xs x = x * e ^ length xs + plain e xs

pub plain-from : (e y x : ℕ) (xs : List ℕ) → plain_from e xs (x * e + y) ≡ plain_from e (y ∷ xs) x
unfolding plain
plain-from e y x xs = rw pow-suc (omega arith)

-- the pattern of a number whose k is known
pub deal-laid : (b first s n k rest : ℕ) → 0 < b → first ≤ k → n ≡ fewer b s first k + rest → rest < choose s k * b ^ k →
    deal b first s n ≡ laid b s k (rest / b ^ k) (rest % b ^ k)
deal-laid b first s n k rest pos low e h =
    let z = one-le-pow k b pos in
    let L = laid-is b pos s k (rest / b ^ k) (rest % b ^ k) ((div-lt_iff_lt-mul z).1 h) (mod-lt rest z) in
    let p = laid b s k (rest / b ^ k) (rest % b ^ k) in
    let q : number b first p ≡ n = unfold number in rw (L.long, L.marks, L.ranked, L.digit) (omega (arith, div-add-mod' rest (b ^ k))) in
    rw (L.long, q) at (deal-back b first p L.small (rw L.marks low))

-- a generation before the last
pub deals-before : (e b first next : ℕ) → 0 < next → deals e b first next ≡ Patterns b first
unfolding deals
deals-before e b first zero p = absurd (omega arith)
deals-before e b first (suc next) p = refl

-- a dealing that values of m wits and the digits of a byte are enough for; only the last generation, which none follows, deals digits
abbrev pub Dealable : ℕ → Dealing → ℕ → Type 0
Dealable m (Patterns b fewest) next = (1 < b) × (b ≤ 15) × (b ≤ 2 ^ m - 1) × (fewest ≤ 1)
Dealable m (Digits e) next = (0 < e) × (e ≤ 15) × (e ≡ 2 ^ m - 1) × (next ≡ 0)

deals-dealable : (m b fewest next : ℕ) → 2 ≤ m → m ≤ 4 → 1 < b → b ≤ 2 ^ m - 1 → fewest ≤ 1 → Dealable m (deals (2 ^ m - 1) b fewest next) next
unfolding deals
deals-dealable m b fewest zero l h p q f = (omega (arith, pow_mono l), omega (arith, pow_mono h), refl, refl)
deals-dealable m b fewest (suc next) l h p q f = (p, omega (arith, pow_mono h), q, f)

-- so is every generation's
pub dealt-dealable : (m first n next : ℕ) → 2 ≤ m → m ≤ 4 → first ≤ 1 → Dealable m (dealt (2 ^ m - 1) first n next) next
unfolding dealt
dealt-dealable m first zero next l h f = deals-dealable m (2 ^ m - 1) first next l h (omega (arith, pow_mono l)) (omega arith) f
dealt-dealable m first (suc n) next l h f = deals-dealable m (2 ^ m - 1 - 1) 1 next l h (omega (arith, pow_mono l)) (omega arith) (omega arith)
