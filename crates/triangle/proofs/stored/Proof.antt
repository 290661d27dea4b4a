-- `triangle::stored` meets its contract. Assumes nothing.
use Prim.Native.Nat.{ℕ, ◌+◌, ◌*◌, ◌≤◌}
use mathlib.Core.Path.{refl}
use native.Mathlib.Nat.{mul-le-mul}
use native.Mathlib.Omega.{arith}
use borrow.Author.Rules.{rules}
use Rattle.triangle.proofs.stored.Statement.{statement}
use Rattle.triangle.proofs.stored.Tie as tie

product : (n : ℕ) → n ≤ 60 → n * (n + 1) ≤ 60 * 61
product n h = mul-le-mul {n₁ = n} {m₁ = n + 1} {n₂ = 60} {m₂ = 61} h (omega arith)

pub stored_spec : {M : Type 1} → statement M
stored_spec =
    tie.close
    (tie.spec
    (λ c. search rules)
    (λ c. record { fits = omega (arith, product c.args.n c.requires.0) })
    (λ c. record { fits = omega (arith, product c.args.n c.requires.0) })
    (λ c κs. search rules)
    -- returns
    (λ c. let s = c.before in c.entry.ensures s.args.n s.args.k s.requires.0 s.requires.1 refl))
