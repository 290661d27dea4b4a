-- Granted lists by the rows of Pascal's triangle, which compute in few steps.
use Prim.Native.Nat.{ℕ, zero, suc, ◌+◌, ◌*◌, ◌-◌, ◌^◌, ◌≤◌, ◌<◌}
use mathlib.Core.Path.{◌≡◌, refl, sym, ap, ◌∙◌}
use mathlib.Core.Bool.{Bool, true, false}
use mathlib.Core.List.{List, [], ◌∷◌}
use native.Mathlib.Omega.{arith}
use native.Mathlib.Nat.{pow-suc, add-zero, zero-add}
use lib.ListN.{length, get_or, drop, replicate, length-replicate, length-drop}
use lib.Dec.{leb}
use Rattle.code.specs.Count.{choose, fewer, least}
use Rattle.code.specs.Code.{room, deals}
use Rattle.code.specs.Layout.{room_by, counts, grant}
use Rattle.code.proofs.Count.{fewer-none, fewer-step}

-- from prev = C(n, k) and C(n, k + 1), .. to C(n + 1, k + 1), ..
unfoldable pub along : ℕ → List ℕ → List ℕ
along prev [] = []
along prev (x ∷ xs) = (prev + x) ∷ along x xs

-- C(n, 0) to C(n, d)
unfoldable pub row : ℕ → ℕ → List ℕ
row zero d = 1 ∷ replicate d 0
row (suc n) d = along 0 (row n d)

-- x₀·p + x₁·p·b + x₂·p·b² + ..
unfoldable pub weigh : ℕ → ℕ → List ℕ → ℕ
weigh b p [] = 0
weigh b p (x ∷ xs) = x * p + weigh b (p * b) xs

-- the numbers are C(n, k), C(n, k + 1), ..
Rowed : ℕ → ℕ → List ℕ → Type 0
Rowed n k [] = Unit {0}
Rowed n k (x ∷ xs) = (x ≡ choose n k) × Rowed n (suc k) xs

along-rowed : (n k prev : ℕ) (xs : List ℕ) → prev ≡ choose n k → Rowed n (suc k) xs → Rowed (suc n) (suc k) (along prev xs)
unfolding Rowed along choose
along-rowed n k prev [] q r = tt
along-rowed n k prev (x ∷ xs) q r = (omega (arith, r.0), along-rowed n (suc k) x xs r.0 r.1)

row-tail : (k d : ℕ) → Rowed 0 (suc k) (replicate d 0)
unfolding Rowed choose
row-tail k zero = tt
row-tail k (suc d) = (refl, row-tail (suc k) d)

row-rowed : (n d : ℕ) → Rowed n 0 (row n d)
unfolding Rowed row choose along
row-rowed zero d = (refl, row-tail 0 d)
row-rowed (suc n) d = go (row n d) (row-rowed n d)
  where
    go : (xs : List ℕ) → Rowed n 0 xs → Rowed (suc n) 0 (along 0 xs)
    go [] r = tt
    go (x ∷ xs) r = (omega (arith, r.0), along-rowed n 0 x xs r.0 r.1)

rowed-drop : (n k i : ℕ) (xs : List ℕ) → Rowed n k xs → Rowed n (k + i) (drop i xs)
unfolding Rowed
rowed-drop n k zero xs r = rw (add-zero k) r
rowed-drop n k (suc i) [] r = tt
rowed-drop n k (suc i) (x ∷ xs) r = let q : k + suc i ≡ suc k + i = omega arith in rw q (rowed-drop n (suc k) i xs r.1)

pub row-length : (n d : ℕ) → length (row n d) ≡ suc d
unfolding row along
row-length zero d = ap suc (length-replicate d 0)
row-length (suc n) d = along-length 0 (row n d) ∙ row-length n d
  where
    along-length : (prev : ℕ) (xs : List ℕ) → length (along prev xs) ≡ length xs
    along-length prev [] = refl
    along-length prev (x ∷ xs) = ap suc (along-length x xs)

-- so a number of the row is a binomial
rowed-at : (n k : ℕ) (xs : List ℕ) (i : ℕ) → Rowed n k xs → i < length xs → get_or xs i 0 ≡ choose n (k + i)
unfolding Rowed
rowed-at n k [] i r h = absurd (omega arith)
rowed-at n k (x ∷ xs) zero r h = rw (add-zero k) r.0
rowed-at n k (x ∷ xs) (suc i) r h = let q : k + suc i ≡ suc k + i = omega arith in rw q (rowed-at n (suc k) xs i r.1 (omega arith))

pub row_at : (n d k : ℕ) → k ≤ d → get_or (row n d) k 0 ≡ choose n k
row_at n d k h = rw zero-add at (rowed-at n 0 (row n d) k (row-rowed n d) (omega (arith, row-length n d)))

weigh-is : (b s k : ℕ) (xs : List ℕ) (first : ℕ) → first ≤ k → Rowed s k xs → fewer b s first k + weigh b (b ^ k) xs ≡ fewer b s first (k + length xs)
unfolding Rowed weigh
weigh-is b s k [] first h r = let q : k + 0 ≡ k = omega arith in rw q (omega arith)
weigh-is b s k (x ∷ xs) first h r =
    let q : k + suc (length xs) ≡ suc k + length xs = omega arith in
    rw (q, ← pow-suc b k, r.0) (omega (arith, fewer-step b s first k h, weigh-is b s (suc k) xs first (omega arith) r.1))

pub fewer-row : (b s first d : ℕ) → first ≤ 1 → weigh b (b ^ first) (drop first (row s d)) ≡ fewer b s first (suc d)
fewer-row b s first d f =
    let xs = drop first (row s d) in
    let r : Rowed s first xs = rw zero-add at (rowed-drop s 0 first (row s d) (row-rowed s d)) in
    let n : first + length xs ≡ suc d = omega (arith, length-drop first (row s d), row-length s d) in
    omega (arith, fewer-none b s first first (omega arith), rw n at (weigh-is b s first xs first (omega arith) r))

-- the granted list with its sums by rows
unfoldable pub room_by_row : ℕ → ℕ → ℕ → ℕ → ℕ → ℕ
room_by_row e b first h zero = e ^ h - 1
room_by_row e b first h (suc h') = weigh b (b ^ first) (drop first (row h (h - suc h')))

room_row : (e b first h h' : ℕ) → first ≤ 1 → room_by_row e b first h h' ≡ room_by e b first h h'
unfolding room deals room_by_row
room_row e b first h zero f = refl
room_row e b first h (suc h') f = fewer-row b h first (h - suc h') f

unfoldable pub counts_by_row : ℕ → ℕ → ℕ → ℕ → List ℕ → List ℕ
counts_by_row fuel e b first [] = []
counts_by_row fuel e b first (v ∷ vs) =
    let rest = counts_by_row fuel e (e - 1) 1 vs in
    least (λ h. leb v (room_by_row e b first h (get_or rest 0 0))) (suc (get_or rest 0 0)) fuel ∷ rest

least-same : (f g : ℕ → Bool) (from fuel : ℕ) → ((n : ℕ) → f n ≡ g n) → least f from fuel ≡ least g from fuel
unfolding least
least-same f g from zero e = refl
least-same f g from (suc fuel) e = go (g from) refl (least-same f g (suc from) fuel e)
  where
    go : (b : Bool) → g from ≡ b → least f (suc from) fuel ≡ least g (suc from) fuel → least f from (suc fuel) ≡ least g from (suc fuel)
    go true q ih = rw (e from ∙ q, q, least)
    go false q ih = rw (e from ∙ q, q, least) ih

counts-row : (fuel e b first : ℕ) (vs : List ℕ) → first ≤ 1 → counts fuel e b first vs ≡ counts_by_row fuel e b first vs
unfolding counts counts_by_row
counts-row fuel e b first [] f = refl
counts-row fuel e b first (v ∷ vs) f =
    rw (counts-row fuel e (e - 1) 1 vs (omega arith))
    (ap (λ (h : ℕ). h ∷ counts_by_row fuel e (e - 1) 1 vs)
    (least-same _ _ (suc (get_or (counts_by_row fuel e (e - 1) 1 vs) 0 0)) fuel
    (λ h. ap (leb v) (sym (room_row e b first h (get_or (counts_by_row fuel e (e - 1) 1 vs) 0 0) f)))))

pub grant-row : (g m first : ℕ) (vs : List ℕ) → first ≤ 1 → grant g m first vs ≡ counts_by_row g (2 ^ m - 1) (2 ^ m - 1) first vs
unfolding grant
grant-row g m first vs f = counts-row g (2 ^ m - 1) (2 ^ m - 1) first vs f
