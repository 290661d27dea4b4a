-- What one function leaves, as the next asks for it.
use mathlib.Core.Path.{◌≡◌, ap}
use mathlib.Core.List.{List}
use Prim.Native.Nat.{ℕ, ◌≤◌}
use native.Mathlib.Omega.{arith}
use lib.ListN.{length, length-take}
use Rattle.code.proofs.Chosen.{Chosen}
use Rattle.code.proofs.Chosen.{scattered-back}
use Rattle.words.specs.Words.{front_groups}
use Rattle.words.specs.declared.Seen.{Seen}
use Rattle.words.specs.Marks.{Viewed, Fronted, Pickable, pattern_of}

module _ (m n : ℕ) (ws os : List ℕ) (hm : 2 ≤ m) (lm : m ≤ 4) (few : n ≤ 16) (long : length ws ≡ 16) where
  -- the unerased groups that were seen can be picked
  pub seen-pickable : (r : Seen) → Viewed m n ws os r → r.unerased ≤ 256 → Pickable m n ws os
  seen-pickable r seen h =
      record {
        wide = hm;
        narrow = lm;
        few = few;
        long = long;
        room = seen.long;
        marks = seen.marks;
        most = omega (arith, seen.many, ap length seen.held);
      }

  -- the first h groups can
  pub front-pickable : (h : ℕ) → Fronted m n h os → h ≤ 256 → Pickable m n ws os
  front-pickable h F l =
      let most = length-take h (front_groups m n ws) in
      record { wide = hm; narrow = lm; few = few; long = long; room = F.long; marks = F.marks; most = omega (arith, ap length (F.held ws long)) }

-- labels and values of a pattern of s places give it back
pub pattern-back : (ps at less : List ℕ) (k s : ℕ) → Chosen ps at less k → length ps ≡ s → pattern_of s at less k ≡ ps
pattern-back ps at less k s C l = rw (C.places, C.marks, ← l) (scattered-back ps)
