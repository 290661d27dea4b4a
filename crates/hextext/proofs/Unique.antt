-- The promises of `hex_export` and `hex_import` leave no choice: two answers that one of them allows are equal, and so is the output afterwards.
use mathlib.Core.Path.{◌≡◌}
use mathlib.Core.List.{List}
use Prim.Native.Nat.{ℕ}
use Rattle.std.specs.Prelude.{Result}
use Rattle.code.specs.declared.Refusal.{Refusal}
use Rattle.code.specs.Hex.{hex_export_reply, hex_export_leaves, hex_import_reply, hex_import_leaves}
use Rattle.storing.specs.Answers.{made_of}
use Rattle.storing.proofs.Unique.{made_alike}

pub unique-hex-export : (bytes out after after' : List ℕ) (r r' : Result ℕ Refusal) →
    made_of r ≡ hex_export_reply bytes out → after ≡ hex_export_leaves bytes out →
    made_of r' ≡ hex_export_reply bytes out → after' ≡ hex_export_leaves bytes out → (r ≡ r') × (after ≡ after')
unique-hex-export bytes out = made_alike (hex_export_reply bytes out) (hex_export_leaves bytes out)

pub unique-hex-import : (text out after after' : List ℕ) (r r' : Result ℕ Refusal) →
    made_of r ≡ hex_import_reply text out → after ≡ hex_import_leaves text out →
    made_of r' ≡ hex_import_reply text out → after' ≡ hex_import_leaves text out → (r ≡ r') × (after ≡ after')
unique-hex-import text out = made_alike (hex_import_reply text out) (hex_import_leaves text out)
