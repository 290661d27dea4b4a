-- The promise of `part` leaves no choice: two answers that it allows are equal. Those of the other calls are of the crates that they come from.
use Prim.Native.Nat.{ℕ}
use mathlib.Core.Path.{◌≡◌, sym, ◌∙◌}
use mathlib.Core.List.{List}
use lib.ListN.{take, drop}

pub unique-part : (bytes : List ℕ) (start count : ℕ) (r r' : List ℕ) → r ≡ take count (drop start bytes) → r' ≡ take count (drop start bytes) → r ≡ r'
unique-part bytes start count r r' p p' = p ∙ sym p'
