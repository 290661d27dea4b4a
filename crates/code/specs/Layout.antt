-- Document 01, "Layout", and Theorem 1 of 003 (RULES 2): the conditions on a list of counts, and the least list. Place i of a list is the documents' i + 1.
use Rattle.std.specs.Prelude.{ℕ, zero, suc, ◌-◌, ◌^◌, ◌<◌, ◌≤◌, ◌≡◌, List, [], ◌∷◌, leb, length, get_or}
use Rattle.code.specs.Count.{fewer, least}
use Rattle.code.specs.Code.{deals, room}

-- 01, Layout; 003, Theorem 1; RULES 2: conditions a to d on the counts hs = h_1 .. h_t with a range for each generation; document 01 has t equal ranges and
-- first = 0
pub record Meets (m first : ℕ) (hs vs : List ℕ) : Type 0 where
  pub many : length hs ≡ length vs
  pub a-falls : (i : ℕ) → suc i < length hs → get_or hs (suc i) 0 < get_or hs i 0
  pub a-ends : 0 < get_or hs (length hs - 1) 0
  pub b : get_or vs 0 0 ≤ fewer (2 ^ m - 1) (get_or hs 0 0) first (suc (get_or hs 0 0 - get_or hs 1 0))
  pub c : (i : ℕ) → 0 < i → suc i < length hs → get_or vs i 0 ≤ fewer (2 ^ m - 2) (get_or hs i 0) 1 (suc (get_or hs i 0 - get_or hs (suc i) 0))
  pub d : get_or vs (length hs - 1) 0 ≤ (2 ^ m - 1) ^ get_or hs (length hs - 1) 0 - 1

-- b, c and d as one, by the next generation's count
abbrev pub room_by : ℕ → ℕ → ℕ → ℕ → ℕ → ℕ
room_by e b first h h' = room (deals e b first h') h h'

-- 01, Layout; RULES 2: "every count is the least", the last found first; fuel bounds the search for each
unfoldable pub counts : ℕ → ℕ → ℕ → ℕ → List ℕ → List ℕ
counts fuel e b first [] = []
counts fuel e b first (v ∷ vs) =
    let rest = counts fuel e (e - 1) 1 vs in
    least (λ h. leb v (room_by e b first h (get_or rest 0 0))) (suc (get_or rest 0 0)) fuel ∷ rest

-- 01, Layout; RULES 2: "The granted list is the one whose every count is the least among all lists that meet a to d"
unfoldable pub grant : ℕ → ℕ → ℕ → List ℕ → List ℕ
grant g m first vs = counts g (2 ^ m - 1) (2 ^ m - 1) first vs
