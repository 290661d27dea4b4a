-- What a walk tells of its records is what their entries say.
use Prim.Native.Nat.{ℕ}
use mathlib.Core.Path.{◌≡◌, refl}
use mathlib.Core.List.{List, [], ◌∷◌, ◌++◌}
use Rattle.code.specs.Calls.{read_reply}
use Rattle.code.specs.Dump.{Step, taken, ended, stopped, cells_of, shape_numbers, outcome}
use Rattle.code.specs.NewDump.{Entry, entries_of}

-- of each record its serial, the form, m, t and v, the reply to reading its cells, and the cells
unfoldable pub told_of : List ℕ → List Step → List (List ℕ × List ℕ)
told_of bytes [] = []
told_of bytes (taken r ∷ steps) = (r.serial ∷ (shape_numbers r.shape ++ outcome bytes r), cells_of bytes r) ∷ told_of bytes steps
told_of bytes (ended ∷ steps) = []
told_of bytes (stopped k carried ∷ steps) = []

-- the same of entries; the number of a layout is not told
unfoldable pub told_by : List Entry → List (List ℕ × List ℕ)
told_by [] = []
told_by (e ∷ es) = (e.serial ∷ (shape_numbers e.shape ++ read_reply e.shape e.cells), e.cells) ∷ told_by es

pub told-by : (bytes : List ℕ) (steps : List Step) → told_of bytes steps ≡ told_by (entries_of bytes steps)
unfolding told_of told_by entries_of outcome
told-by bytes [] = refl
told-by bytes (taken r ∷ steps) = cc (told-by bytes steps)
told-by bytes (ended ∷ steps) = refl
told-by bytes (stopped k carried ∷ steps) = refl
