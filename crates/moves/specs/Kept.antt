-- Document 02, §3 (RULES 9): layouts that a move to new keeps by their numbers: form, m, t, v of each, one after the other; and the one that a move
-- to old keeps from record to record.
use Rattle.std.specs.Prelude.{ℕ, zero, suc, ◌+◌, ◌*◌, ◌≤◌, ◌<◌, ◌≡◌, List, [], ◌∷◌, ◌++◌, length, get_or}
use Rattle.code.specs.LayoutList.{Listed}
use Rattle.code.specs.Dump.{Source}
use Rattle.records.specs.declared.Said.{Said}
use Rattle.records.specs.Head.{said_shape}

-- the layout at a place
unfoldable pub kept_at : List ℕ → ℕ → Listed
kept_at xs i = record { form = get_or xs (4 * i) 0; m = get_or xs (4 * i + 1) 0; t = get_or xs (4 * i + 2) 0; ranges = get_or xs (4 * i + 3) 0 ∷ [] }

-- the layout that a record of an old dump says: "m, t, v", of form 0
abbrev pub said_listed : Said → Listed
said_listed s = record { form = 0; m = s.m; t = s.t; ranges = s.v ∷ [] }

-- the first so many
unfoldable pub kept_layouts : ℕ → List ℕ → List Listed
kept_layouts zero xs = []
kept_layouts (suc k) xs = kept_layouts k xs ++ (kept_at xs k ∷ [])

-- a list of layouts is kept, where it is of "at most 64"; a count of 65 says that it is longer
pub record Keeps (count : ℕ) (xs : List ℕ) (ls : List Listed) : Type 0 where
  pub long : length xs ≡ 256
  pub few : count ≤ 65
  pub same : count ≤ 64 → ls ≡ kept_layouts count xs
  pub over : 64 < count → 64 < length ls

-- "serial, m, t, v": the numbers before n of a record of an old dump, by what it says of its layout
abbrev pub said_head : ℕ → Said → List ℕ
said_head serial k = serial ∷ k.m ∷ k.t ∷ k.v ∷ []

-- what is said stands for the layout that has its number, up to the first range
pub record SaysOld (source : Source) (k : Said) : Type 0 where
  pub same-m : k.m ≡ (said_shape source k).m
  pub same-t : k.t ≡ (said_shape source k).t
  pub same-v : k.v ≡ get_or (said_shape source k).v 0 0
