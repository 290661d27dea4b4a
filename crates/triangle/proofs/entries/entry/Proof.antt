-- `triangle::entries::entry` meets its contract: its arms are the rows of the triangle. Assumes nothing.
use Prim.Native.Nat.{ℕ}
use mathlib.Core.Path.{◌≡◌, refl, ap, ◌∙◌, subst⁻¹}
use mathlib.Core.List.{List, [], ◌∷◌}
use native.Mathlib.Omega.{arith}
use lib.Dec.{T}
use lib.ListN.{get_or}
use mir.Syntax.{Fn}
use prog.Wp.{WpFn}
use contract.Running.{tables_of}
use denote.Triple.Statement.{Triple}
use borrow.Fn.Function.{plain_of}
use borrow.Fn.Run.{Over}
use borrow.Fn.World.{World}
use borrow.Fn.Written.{close}
use Rattle.triangle.proofs.Match.{ps, r, matching, fit, gives-entry}
use Rattle.code.proofs.Rows.{along, row}
use Rattle.triangle.proofs.Rule.{triangle, carried}
use Rattle.triangle.specs.contracts.entries.entry.Key.{name}
use Rattle.triangle.proofs.entries.entry.Code as code
use Rattle.triangle.proofs.entries.entry.Reads as reads
use Rattle.triangle.proofs.entries.entry.Statement.{statement}

-- the test, one computation over all 1,891 numbers: the arms of the code are the rows, their edges and their sums
tested : code.function ≡ matching (triangle 61)
unfolding triangle row along
tested = refl

small : T (fit (triangle 61))
unfolding triangle row along
small = tt

pub entry_spec : {M : Type 1} → statement M
unfolding tables_of
entry_spec 𝓤 𝓛 𝓜 𝓡 wired =
    let w : World = record { M = _; 𝓤 = 𝓤; 𝓛 = 𝓛; 𝓜 = 𝓜; 𝓡 = 𝓡 } in
    close 0 ps r reads.Ghost reads.requires reads.ensures reads.pre_read reads.Pinned reads.Owned reads.post_read w 𝓡.env name code.function
    (code.unfolded 𝓤 𝓛.H 𝓜 𝓡 wired) (λ κs a g. tt) (λ κs. reads.owns κs w) (reads.passes w)
    (λ g. subst⁻¹ (λ (f : Fn). Triple 𝓤 (WpFn 𝓤 𝓛.H (Over 𝓛 𝓜 𝓡 𝓡.env).C (Over 𝓛 𝓜 𝓡 𝓡.env).Λ f) (plain_of 𝓛 0 ps r reads.Pre reads.Post)) tested
    (gives-entry 𝓛 (Over 𝓛 𝓜 𝓡 𝓡.env) (triangle 61) small reads.Pre reads.Post
    (λ κs a e y here n k h l i. here ∙ ap (λ (j : ℕ). get_or (triangle 61) j 0) i ∙ carried 61 n k (omega arith) l)))
