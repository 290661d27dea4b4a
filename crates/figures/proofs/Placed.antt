-- Groups in bytes, computed in either order of bits: groups of two wits in one byte, and groups of three across two bytes.
use mathlib.Core.Path.{◌≡◌, refl}
use mathlib.Core.Bool.{true, false}
use mathlib.Core.List.{[], ◌∷◌}
use Rattle.code.specs.Cells.{bit_place, wit, value, listed, sum, group, groups, opened, sound, wit_of, byte_of, stored}

pub placed :
    (opened 0 2 4 (0x4F ∷ []) ≡ 1 ∷ 0 ∷ 3 ∷ 3 ∷ [])
    × (opened 1 2 4 (0x4F ∷ []) ≡ 3 ∷ 3 ∷ 0 ∷ 2 ∷ [])
    × (opened 0 3 5 (0x12 ∷ 0x34 ∷ []) ≡ 0 ∷ 4 ∷ 4 ∷ 3 ∷ 2 ∷ [])
    × (opened 1 3 5 (0x12 ∷ 0x34 ∷ []) ≡ 2 ∷ 2 ∷ 0 ∷ 2 ∷ 6 ∷ [])
    × (stored 0 3 (0 ∷ 4 ∷ 4 ∷ 3 ∷ 2 ∷ []) ≡ 0x12 ∷ 0x34 ∷ [])
    × (stored 1 3 (2 ∷ 2 ∷ 0 ∷ 2 ∷ 6 ∷ []) ≡ 0x12 ∷ 0x34 ∷ [])
    × (sound 0 3 5 (0x12 ∷ 0x35 ∷ []) ≡ false)
    × (sound 1 3 5 (0x12 ∷ 0x35 ∷ []) ≡ true)
unfolding bit_place wit value listed sum group groups sound wit_of byte_of stored
placed = (refl, refl, refl, refl, refl, refl, refl, refl)
