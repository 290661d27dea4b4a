-- What a write of one field answers fits the rows of an answer to many.
use Prim.Native.Nat.{ℕ, ◌<◌}
use mathlib.Core.Path.{◌≡◌}
use mathlib.Core.List.{List, [], ◌∷◌}
use native.Mathlib.Omega.{arith}
use native.Mathlib.Nat.{mul-le-mul}
use lib.ListN.{get_or, take, length-take}
use Rattle.code.specs.declared.Shape.{Shape}
use Rattle.code.specs.Shape.{counts_of, width_of}
use Rattle.code.specs.Calls.{write_reply}
use Rattle.code.specs.Many.{field_bytes}
use Rattle.code.proofs.WriteCall.{written_small}
use Rattle.layout.specs.Plan.{Granted}

-- a field has at most 128 bytes, so both numbers of a write have at most sixteen bits
pub field-small : (s : Shape) {h : List ℕ} → Granted s h → (x i k : ℕ) (rest : List ℕ) → 0 ∷ i ∷ k ∷ [] ≡ write_reply s x (take (field_bytes s) rest) →
    (i < 65536) × (k < 65536)
unfolding field_bytes width_of
field-small s G x i k rest e =
    let small = written_small s x i k (take (field_bytes s) rest) e in
    let long = length-take (field_bytes s) rest in
    let wide = mul-le-mul {n₁ = s.m} {m₁ = get_or (counts_of s) 0 0} {n₂ = 4} {m₂ = 256} G.bounds.m-high (rw (G.each 0) at (G.small 0)) in
    (omega (arith, small.0, G.many, G.bounds.t-high), omega (arith, small.1, long, wide))
