-- The steps between the counts of the granted list: each is at most 57, and for equal ranges they never grow from the last generations towards the first
-- (003, Proposition 1).
use mathlib.Core.Path.{◌≡◌}
use Prim.Native.Nat.{ℕ, zero, suc, ◌+◌, ◌-◌, ◌^◌, ◌≤◌, ◌<◌}
use native.Mathlib.Nat.{le_trans, add-sub_cancel_left, mul-le-mul, pow-le-pow_left}
use lib.Pow.{pow_mono}
use native.Mathlib.Omega.{arith}
use lib.Dec.{leb}
use lib.ListN.{get_or, replicate}
use borrow.Author.Tests.{le-leb, leb-true}
use mathlib.Core.List.{List, [], ◌∷◌}
use Rattle.code.specs.Count.{choose, least}
use Rattle.code.specs.Code.{room, deals}
use Rattle.code.specs.Layout.{room_by, counts, grant}
use Rattle.code.proofs.Tests.{least-low, least-le, least-passes}
use Rattle.code.specs.Lists.{Upto}
use Rattle.code.proofs.Count.{fewer-step, fewer-more}
use Rattle.code.proofs.Conditions.{head-most}
use Rattle.code.proofs.Grant.{counts-hold}

-- a step that has room above one count has room above the next, also with more values or an earlier start: (12) to (14) of 003
step-again : (e b first low x v : ℕ) → e - 1 ≤ b → first ≤ 1 → 0 < low → 0 < x → v ≤ room_by e (e - 1) 1 x low → v ≤ room_by e b first (x + (x - low)) x
unfolding room deals
step-again e b first zero x v hb hf p q h = absurd (omega arith)
step-again e b first (suc low) zero v hb hf p q h = absurd (omega arith)
step-again e b first (suc low) (suc x) v hb hf p q h =
    let d = suc x - suc low in
    rw (add-sub_cancel_left (suc x) d) (le_trans h (fewer-more (e - 1) b (suc x) (suc x + d) 1 first (suc d) hb (omega arith) hf))

module _ (g e : ℕ) where
  -- the count before h', which is the least above h''
  first_step : (b first v w : ℕ) (vs : List ℕ) → e - 1 ≤ b → first ≤ 1 → get_or (counts g e (e - 1) 1 (v ∷ w ∷ vs)) 0 0 ≤ g →
      get_or (counts g e b first (v ∷ v ∷ w ∷ vs)) 0 0 - get_or (counts g e b first (v ∷ v ∷ w ∷ vs)) 1 0
      ≤ get_or (counts g e b first (v ∷ v ∷ w ∷ vs)) 1 0 - get_or (counts g e b first (v ∷ v ∷ w ∷ vs)) 2 0
  unfolding counts
  first_step b first v w vs hb hf fits =
      let c = get_or (counts g e (e - 1) 1 vs) 0 0 in
      let h'' = least (λ (x : ℕ). leb w (room_by e (e - 1) 1 x c)) (suc c) g in
      let h' = least (λ (x : ℕ). leb v (room_by e (e - 1) 1 x h'')) (suc h'') g in
      let low'' = least-low (λ (x : ℕ). leb w (room_by e (e - 1) 1 x c)) (suc c) g in
      let low' = least-low (λ (x : ℕ). leb v (room_by e (e - 1) 1 x h'')) (suc h'') g in
      let passes = leb-true v (room_by e (e - 1) 1 h' h'') (least-passes (λ (x : ℕ). leb v (room_by e (e - 1) 1 x h'')) (suc h'') g (omega arith)) in
      let more = step-again e b first h'' h' v hb hf (omega arith) (omega arith) passes in
      let top = h' + (h' - h'') in
      omega (arith, least-le (λ (x : ℕ). leb v (room_by e b first x h')) (suc h') g top (omega arith) (le-leb v (room_by e b first top h') more))

  steps : (b first v t i : ℕ) → e - 1 ≤ b → first ≤ 1 → suc (suc i) < t → get_or (counts g e b first (replicate t v)) (suc i) 0 ≤ g →
      get_or (counts g e b first (replicate t v)) i 0 - get_or (counts g e b first (replicate t v)) (suc i) 0
      ≤ get_or (counts g e b first (replicate t v)) (suc i) 0 - get_or (counts g e b first (replicate t v)) (suc (suc i)) 0
  unfolding counts
  steps b first v zero i hb hf l fits = absurd (omega arith)
  steps b first v (suc zero) i hb hf l fits = absurd (omega arith)
  steps b first v (suc (suc zero)) i hb hf l fits = absurd (omega arith)
  steps b first v (suc (suc (suc t))) zero hb hf l fits = first_step b first v v (replicate t v) hb hf fits
  steps b first v (suc (suc (suc t))) (suc i) hb hf l fits = steps (e - 1) 1 v (suc (suc t)) i (omega arith) (omega arith) (omega arith) fits

-- h_(i+1) − h_(i+2) is at most h_(i+2) − h_(i+3), for every i from 0 on: the first pair of steps and all after it
pub steps-never-grow : (g m first v t i : ℕ) → first ≤ 1 → suc (suc i) < t → get_or (grant g m first (replicate t v)) 0 0 ≤ g →
    get_or (grant g m first (replicate t v)) i 0 - get_or (grant g m first (replicate t v)) (suc i) 0
    ≤ get_or (grant g m first (replicate t v)) (suc i) 0 - get_or (grant g m first (replicate t v)) (suc (suc i)) 0
unfolding grant
steps-never-grow g m first v t i hf l fits =
    let e = 2 ^ m - 1 in
    let hs = counts g e e first (replicate t v) in
    let most = head-most e e first hs (replicate t v) (suc i) (counts-hold g e e first (replicate t v) fits) in
    steps g e e first v t i (omega arith) hf l (le_trans most fits)

-- 57 groups above the next count hold every number of a range: the patterns that write all of them are 2^57 or more
choose-some : (n k : ℕ) → k ≤ n → 1 ≤ choose n k
unfolding choose
choose-some n zero l = omega arith
choose-some zero (suc k) l = absurd (omega arith)
choose-some (suc n) (suc k) l = omega (arith, choose-some n k (omega arith))

power-large : (b : ℕ) → 2 ≤ b → 2 ^ 57 ≤ b ^ 57
power-large b h = pow-le-pow_left h 57

room-wide : (e b first c v : ℕ) → 2 ≤ e → 2 ≤ b → first ≤ 1 → v ≤ 2 ^ 56 → v ≤ room_by e b first (c + 57) c
unfolding room deals
room-wide e b first zero v he hb hf hv = omega (arith, power-large e he)
room-wide e b first (suc c) v he hb hf hv =
    let d : suc c + 57 - suc c ≡ 57 = omega arith in
    let t = mul-le-mul (choose-some (suc c + 57) 57 (omega arith)) (power-large b hb) in
    rw d (omega (arith, t, fewer-step b (suc c + 57) first 57 (omega arith)))

counts-near : (g e b first : ℕ) (vs : List ℕ) (i : ℕ) → 3 ≤ e → 2 ≤ b → first ≤ 1 → Upto (2 ^ 56) vs →
    get_or (counts g e b first vs) i 0 ≤ get_or (counts g e b first vs) (suc i) 0 + 57
unfolding counts
counts-near g e b first [] i he hb hf u = omega arith
counts-near g e b first (v ∷ vs) zero he hb hf u =
    let c = get_or (counts g e (e - 1) 1 vs) 0 0 in
    least-le (λ (x : ℕ). leb v (room_by e b first x c)) (suc c) g (c + 57) (omega arith)
    (le-leb v (room_by e b first (c + 57) c) (room-wide e b first c v (omega arith) hb hf u.0))
counts-near g e b first (v ∷ vs) (suc i) he hb hf u = counts-near g e (e - 1) 1 vs i he (omega arith) (omega arith) u.1

pub steps-few : (g m first : ℕ) (vs : List ℕ) (i : ℕ) → 2 ≤ m → first ≤ 1 → Upto (2 ^ 56) vs →
    get_or (grant g m first vs) i 0 ≤ get_or (grant g m first vs) (suc i) 0 + 57
unfolding grant
steps-few g m first vs i h f u = let e = 2 ^ m - 1 in counts-near g e e first vs i (omega (arith, pow_mono h)) (omega (arith, pow_mono h)) f u
