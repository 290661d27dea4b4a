-- Words made of their groups.
use mathlib.Core.Path.{◌≡◌, refl, sym, ap, ap₂, ◌∙◌}
use mathlib.Core.List.{List, [], ◌∷◌}
use Prim.Native.Nat.{ℕ, zero, suc, ◌+◌, ◌*◌, ◌-◌, ◌/◌, ◌%◌, ◌^◌, ◌≤◌, ◌<◌}
use native.Mathlib.Omega.{arith}
use native.Mathlib.Nat.{mul-suc, mul-le-mul_right, mod-lt, mod-eq_of_lt, add_comm, mod-one, mul-zero}
use lib.Pow.{pow_pos, pow-add, high, low, field, mod-mod-pow, mod-pow-add}
use lib.ListN.{length}
use Rattle.code.specs.Lists.{Upto}
use Rattle.words.specs.Words.{groups_of}
use Rattle.words.proofs.Masks.{groups-long}

-- the word of groups
unfoldable pub packed : ℕ → List ℕ → ℕ
packed m [] = 0
packed m (g ∷ gs) = g * 2 ^ (m * length gs) + packed m gs

-- the groups of a word are those of its last bits
groups-low : (m n w t : ℕ) → m * n ≤ t → groups_of m n (w % 2 ^ t) ≡ groups_of m n w
unfolding groups_of
groups-low m zero w t h = refl
groups-low m (suc n) w t h =
    let k : ℕ = m * n in
    let s = mul-suc m n in
    let c : ℕ = t - k - m in
    let p : t ≡ c + m + k = omega arith in
    ap₂ (λ (a : ℕ) (l : List ℕ). a ∷ l) (rw p (ap (λ (x : ℕ). x % 2 ^ m) (field w (c + m) k) ∙ mod-mod-pow (w / 2 ^ k) c m)) (groups-low m n w t (omega arith))

pub packed_lt : (m : ℕ) (gs : List ℕ) → Upto (2 ^ m - 1) gs → packed m gs < 2 ^ (m * length gs)
unfolding packed
packed_lt m [] u = pow_pos (m * 0)
packed_lt m (g ∷ gs) u =
    let q : ℕ = 2 ^ (m * length gs) in
    let a : 2 ^ (m * suc (length gs)) ≡ 2 ^ m * q = ap (λ (x : ℕ). 2 ^ x) (mul-suc m (length gs) ∙ add_comm (m * length gs) m) ∙ pow-add 2 m (m * length gs) in
    let b : suc g * q ≤ 2 ^ m * q = mul-le-mul_right q (omega (arith, u.0, pow_pos m)) in
    omega (arith, a, b, packed_lt m gs u.1)

-- a word of groups has them, and a word is that of its groups
pub groups-packed : (m : ℕ) (gs : List ℕ) → Upto (2 ^ m - 1) gs → groups_of m (length gs) (packed m gs) ≡ gs
unfolding groups_of packed
groups-packed m [] u = refl
groups-packed m (g ∷ gs) u =
    let k : ℕ = m * length gs in
    let l : packed m gs < 2 ^ k = packed_lt m gs u.1 in
    let here : (g * 2 ^ k + packed m gs) / 2 ^ k % 2 ^ m ≡ g = ap (λ (x : ℕ). x % 2 ^ m) (high g k l) ∙ mod-eq_of_lt (omega (arith, u.0, pow_pos m)) in
    let rest = sym (groups-low m (length gs) (g * 2 ^ k + packed m gs) k (omega arith)) ∙ ap (groups_of m (length gs)) (low g k l) ∙ groups-packed m gs u.1 in
    ap₂ (λ (a : ℕ) (t : List ℕ). a ∷ t) here rest

pub packed-groups : (m n w : ℕ) → packed m (groups_of m n w) ≡ w % 2 ^ (m * n)
unfolding groups_of packed
packed-groups m zero w = rw (mul-zero m) (sym (mod-one w))
packed-groups m (suc n) w = rw (groups-long m n w, packed-groups m n w, mul-suc m n, add_comm (m * n) m) (sym (mod-pow-add w m (m * n)))

pub groups-upto : (m n w : ℕ) → Upto (2 ^ m - 1) (groups_of m n w)
unfolding groups_of
groups-upto m zero w = tt
groups-upto m (suc n) w = (omega (arith, mod-lt (w / 2 ^ (m * n)) (pow_pos m)), groups-upto m n w)
