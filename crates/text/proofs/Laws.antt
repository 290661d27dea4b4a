-- Laws of text stored piece by piece.
use mathlib.Core.Path.{◌≡◌}
use mathlib.Core.List.{List, ◌++◌}
use Prim.Native.Nat.{ℕ, ◌+◌, ◌≤◌}
use native.Mathlib.Omega.{arith}
use lib.ListN.{length}
use Rattle.storing.specs.Put.{Put}
use Rattle.storing.proofs.Put.{put_then}
use Rattle.text.specs.Within.{PutWithin}

pub exactly : {b c ys : List ℕ} {at n : ℕ} → Put b c at ys n → PutWithin (length ys) b c at ys n
exactly p = record { put = p; few = omega (arith, p.ends) }

pub within-then : {m k : ℕ} {b c d ys zs : List ℕ} {at n p : ℕ} → PutWithin m b c at ys n → PutWithin k c d n zs p → PutWithin (m + k) b d at (ys ++ zs) p
within-then v w = record { put = put_then v.put w.put; few = omega (arith, v.few, w.few) }

pub wider : {m k : ℕ} {b c ys : List ℕ} {at n : ℕ} → m ≤ k → PutWithin m b c at ys n → PutWithin k b c at ys n
wider h p = record { put = p.put; few = omega (arith, p.few) }

pub within_same : {m : ℕ} {b c ys zs : List ℕ} {at n : ℕ} → PutWithin m b c at ys n → ys ≡ zs → PutWithin m b c at zs n
within_same p e = rw (← e) p
