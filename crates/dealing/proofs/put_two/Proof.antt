-- `dealing::put_two` meets its contract. Assumes nothing.
use mathlib.Core.Path.{◌≡◌}
use Prim.Native.Nat.{◌*◌, ◌/◌, ◌<◌}
use native.Mathlib.Nat.{mul-le-mul, div-le_self, div-mul-le_self, mod-eq-sub-div-mul}
use native.Mathlib.Omega.{arith}
use borrow.Author.Rules.{rules}
use Rattle.dealing.proofs.Drawing.{by_part}
use Rattle.dealing.proofs.put_two.Statement.{statement}
use Rattle.dealing.proofs.put_two.Tie as tie

small : (c : tie.Start) → c.args.z < 225
small c = let e = c.args.e in omega (arith, mul-le-mul {n₁ = e} {m₁ = e} {n₂ = 15} {m₂ = 15} (omega arith) (omega arith))

quotient : (c : tie.Start) → c.args.z * c.args.part / 65536 ≡ c.args.z / c.args.e
quotient c =
    let a = c.args in
    let h = small c in
    rw c.requires.4 (by_part 65536 a.e a.z (omega arith)
    (omega (arith, mul-le-mul {n₁ = a.z} {m₁ = a.e} {n₂ = 225} {m₂ = 15} (omega arith) (omega arith))))

pub put_two_spec : {M : Type 1} → statement M
put_two_spec =
    tie.close
    (tie.spec
    -- overflow_mul-high
    (λ c.
    let a = c.args in
    let h = small c in
    omega (arith, mul-le-mul {n₁ = a.z} {m₁ = a.part} {n₂ = 225} {m₂ = 65537} (omega arith) (omega (arith, div-le_self 65536 a.e))))
    -- overflow_mul-values
    (λ c. rw (quotient c) (omega (arith, small c, div-mul-le_self c.args.z c.args.e)))
    -- overflow_sub-values
    (λ c. rw (quotient c) (div-mul-le_self c.args.z c.args.e))
    -- overflow_cast-values
    (λ c. omega (arith, small c))
    -- overflow_add-values
    (λ c. search rules)
    -- element-write-values
    (λ c. search rules)
    -- overflow_cast-values-2
    (λ c. rw (quotient c.before) (omega (arith, small c.before, div-le_self c.args.z c.args.e)))
    -- element-write-values-2
    (λ c. search rules)
    -- returns
    (λ c. rw (quotient c.before, mod-eq-sub-div-mul c.args.z c.args.e)))
