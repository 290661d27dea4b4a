-- The HEX calls made one after the other, by any answers and outputs that their promises allow: 02, §1, "Export then import gives the same cells; import then
-- export gives one standard file".
use Prim.Native.Nat.{ℕ, ◌+◌, ◌*◌, ◌≤◌, ◌<◌}
use mathlib.Core.Path.{◌≡◌, sym, ap, ◌∙◌}
use mathlib.Core.List.{List, ◌++◌}
use native.Mathlib.Omega.{arith}
use lib.ListN.{length, take, drop}
use lib.Seq.{take-append_seam}
use Rattle.code.specs.Calls.{refusal_in}
use Rattle.code.specs.Hex.{line_count, hex_text, gives, hex_import, hex_export_reply, hex_export_leaves, hex_import_reply, hex_import_leaves}
use Rattle.code.proofs.Wits.{Bytes}
use Rattle.code.proofs.ByteLists.{below_each}
use Rattle.code.proofs.Records.{below_at}
use Rattle.code.proofs.HexText.{text-length}
use Rattle.code.proofs.HexImport as Texts
use Rattle.code.proofs.HexImport.{import-held}
use Rattle.code.proofs.HexCalls.{export-many, export-short, export-stored, export-told, import-short, import-stored, import-told}
use Rattle.storing.specs.Answers.{made_of}
use Rattle.std.specs.Prelude.{Result, Ok, Err}
use Rattle.code.specs.declared.Refusal.{Refusal}
use Rattle.code.specs.declared.Refusal.TheVariants.{TooLong, Output}
use Rattle.hextext.proofs.Unique.{unique-hex-export, unique-hex-import}

-- a call gives these bytes: they stand at the front of its output, those behind them are as they were, and their count is the answer
pub record Gives (made : List ℕ) (r : Result ℕ Refusal) (after out : List ℕ) : Type 0 where
  pub answers : r ≡ Ok (length made)
  pub stores : after ≡ made ++ drop (length made) out

-- or it is refused and stores nothing
pub record Refuses (k : Refusal) (r : Result ℕ Refusal) (after out : List ℕ) : Type 0 where
  pub answers : r ≡ Err k
  pub stores : after ≡ out

-- the characters that the text of so many bytes has: twelve for each line of sixteen bytes and for the end, and two for each byte
abbrev pub characters : ℕ → ℕ
characters n = 12 * line_count n + 2 * n + 12

-- what a caller takes of an output
front_of : (made after out : List ℕ) → after ≡ made ++ drop (length made) out → take (length made) after ≡ made
front_of made after out a = rw a (take-append_seam made (drop (length made) out))

-- Any answer to an export, by its room.
module _ (bytes out after : List ℕ) (r : Result ℕ Refusal) (p : made_of r ≡ hex_export_reply bytes out) (a : after ≡ hex_export_leaves bytes out) where
  pub export-refused : 65536 < length bytes → Refuses TooLong r after out
  export-refused h =
      let w = export-many bytes out h in
      let u = unique-hex-export bytes out after out r (Err TooLong) p a w.0 w.1 in
      record { answers = u.0; stores = u.1 }

  pub export-crowded : length bytes ≤ 65536 → length out < characters (length bytes) → Refuses Output r after out
  export-crowded few h =
      let w = export-short bytes out few (rw (text-length bytes) h) in
      let u = unique-hex-export bytes out after out r (Err Output) p a w.0 w.1 in
      record { answers = u.0; stores = u.1 }

  pub export-gives : length bytes ≤ 65536 → characters (length bytes) ≤ length out → Gives (hex_text bytes) r after out
  export-gives few h =
      let text : List ℕ = hex_text bytes in
      let w = export-stored bytes out few (rw (text-length bytes) h) in
      let u = unique-hex-export bytes out after (text ++ drop (length text) out) r (Ok (length text)) p a w.0 w.1 in
      record { answers = u.0; stores = u.1 }

-- Any answer to an import of a text that gives bytes.
module _ (text bytes out after : List ℕ) (r : Result ℕ Refusal) (h : hex_import text ≡ gives bytes) (p : made_of r ≡ hex_import_reply text out)
    (a : after ≡ hex_import_leaves text out) where
  pub import-crowded : length out < length bytes → Refuses Output r after out
  import-crowded l =
      let w = import-short text out bytes h l in
      let u = unique-hex-import text out after out r (Err Output) p a w.0 w.1 in
      record { answers = u.0; stores = u.1 }

  pub import-gives : length bytes ≤ length out → Gives bytes r after out
  import-gives l =
      let w = import-stored text out bytes h l in
      let u = unique-hex-import text out after (bytes ++ drop (length bytes) out) r (Ok (length bytes)) p a w.0 w.1 in
      record { answers = u.0; stores = u.1 }

stored_same : (n m : ℕ) → ◌≡◌ {A = Result ℕ Refusal} (Ok n) (Ok m) → n ≡ m
stored_same n m e = cc

-- An export that stored n characters.
module _ (bytes out after : List ℕ) (n : ℕ) (p : made_of (Ok n) ≡ hex_export_reply bytes out) (a : after ≡ hex_export_leaves bytes out) where
  told : (length bytes ≤ 65536) × (length (hex_text bytes) ≤ length out)
  told = export-told bytes out (ap (λ reply. refusal_in reply) (sym p))

  made : Gives (hex_text bytes) (Ok n) after out
  made = export-gives bytes out after (Ok n) p a told.0 (rw (text-length bytes) at told.1)

  -- the bytes were not too many, and the text of them has the length answered
  pub exported : (length bytes ≤ 65536) × (n ≡ characters (length bytes)) × (take n after ≡ hex_text bytes)
  exported =
      let e : n ≡ length (hex_text bytes) = stored_same n (length (hex_text bytes)) made.answers in
      (told.0, e ∙ text-length bytes, rw e (front_of (hex_text bytes) after out made.stores))

  -- it imports to the same bytes
  module _ (b : Bytes bytes) (back last : List ℕ) (r : Result ℕ Refusal) (q : made_of r ≡ hex_import_reply (take n after) back)
      (l : last ≡ hex_import_leaves (take n after) back) where
    imports : hex_import (take n after) ≡ gives bytes
    imports = rw exported.2 (Texts.export-import bytes (below_each 256 bytes b) told.0)

    pub there_and_back : length bytes ≤ length back → Gives bytes r last back
    there_and_back = import-gives (take n after) bytes back last r imports q l

    pub there-and-back-room : length back < length bytes → Refuses Output r last back
    there-and-back-room = import-crowded (take n after) bytes back last r imports q l

-- An import that stored n bytes.
module _ (text out after : List ℕ) (n : ℕ) (p : made_of (Ok n) ≡ hex_import_reply text out) (a : after ≡ hex_import_leaves text out) where
  given : (bytes : List ℕ) × (hex_import text ≡ gives bytes) × (length bytes ≤ length out)
  given = import-told text out (ap (λ reply. refusal_in reply) (sym p))

  -- they are what the text gives, each a byte, and not too many to be exported
  pub imported : (hex_import text ≡ gives (take n after)) × (length (take n after) ≡ n) × (n ≤ 65536) × Bytes (take n after)
  imported =
      let bytes : List ℕ = given.0 in
      let g = import-gives text bytes out after (Ok n) given.1 p a given.2 in
      let e : n ≡ length bytes = stored_same n (length bytes) g.answers in
      let front : take n after ≡ bytes = ap (λ k. take k after) e ∙ front_of bytes after out g.stores in
      let held = import-held text bytes given.1 in
      rw front (given.1, sym e, omega (arith, held.1), λ i l. below_at 256 bytes i held.0 l)

  -- exported they are one text, whatever text was imported
  module _ (back last : List ℕ) (r : Result ℕ Refusal) (q : made_of r ≡ hex_export_reply (take n after) back) (l : last ≡ hex_export_leaves (take n after) back) where
    pub back-and-there : characters n ≤ length back → Gives (hex_text (take n after)) r last back
    back-and-there h = export-gives (take n after) back last r q l (omega (arith, imported.1, imported.2)) (rw imported.1 h)

    pub back-and-there-room : length back < characters n → Refuses Output r last back
    back-and-there-room h = export-crowded (take n after) back last r q l (omega (arith, imported.1, imported.2)) (rw imported.1 h)

  -- which imports again to the same bytes
  module _ (back last : List ℕ) (m : ℕ) (q : made_of (Ok m) ≡ hex_export_reply (take n after) back) (l : last ≡ hex_export_leaves (take n after) back) where
    pub standard : (m ≡ characters n) × (take m last ≡ hex_text (take n after))
    standard =
        let x = exported (take n after) back last m q l in
        (x.1 ∙ ap characters imported.1, x.2)

    module _ (again final : List ℕ) (r : Result ℕ Refusal) (q' : made_of r ≡ hex_import_reply (take m last) again) (l' : final ≡ hex_import_leaves (take m last) again) where
      pub standard-again : n ≤ length again → Gives (take n after) r final again
      standard-again h = there_and_back (take n after) back last m q l imported.3 again final r q' l' (rw imported.1 h)

      pub standard-again-room : length again < n → Refuses Output r final again
      standard-again-room h = there-and-back-room (take n after) back last m q l imported.3 again final r q' l' (rw imported.1 h)

-- Two texts that import to the same bytes are exported as one file.
module _ (text other out out' after after' : List ℕ) (n n' : ℕ)
    (p : made_of (Ok n) ≡ hex_import_reply text out) (a : after ≡ hex_import_leaves text out)
    (p' : made_of (Ok n') ≡ hex_import_reply other out') (a' : after' ≡ hex_import_leaves other out') (same : take n after ≡ take n' after')
    (back back' last last' : List ℕ) (m m' : ℕ)
    (q : made_of (Ok m) ≡ hex_export_reply (take n after) back) (l : last ≡ hex_export_leaves (take n after) back)
    (q' : made_of (Ok m') ≡ hex_export_reply (take n' after') back') (l' : last' ≡ hex_export_leaves (take n' after') back') where
  pub one-file : (m ≡ m') × (take m last ≡ take m' last')
  one-file =
      let x = standard text out after n p a back last m q l in
      let y = standard other out' after' n' p' a' back' last' m' q' l' in
      let many : n ≡ n' = sym (imported text out after n p a).1 ∙ ap length same ∙ (imported other out' after' n' p' a').1 in
      (x.0 ∙ ap characters many ∙ sym y.0, x.1 ∙ ap hex_text same ∙ sym y.1)
