-- The calls on Intel HEX, test by test, as a program comes to them, and the round trips of the calls.
use Prim.Native.Nat.{ℕ, ◌≤◌, ◌<◌}
use mathlib.Core.Path.{◌≡◌, refl, sym, ap}
use mathlib.Core.Logic.{inl, inr}
use mathlib.Core.List.{List, [], ◌∷◌, ◌++◌}
use native.Mathlib.Omega.{arith}
use lib.ListN.{length, get_or, take, drop, replicate, length-replicate}
use lib.Seq.{take-append_seam}
use borrow.Author.Tests.{lt-ltb, le-ltb}
use Rattle.code.specs.Lists.{Below}
use Rattle.code.specs.Calls.{refusal, answer, leaves, refusal_in, length_in}
use Rattle.code.specs.Hex.{hex_text, hex_export_refusal, hex_export_reply, hex_export_leaves}
use Rattle.code.specs.Hex.{Import, faulty, gives, hex_import, bytes_of, import_refusal, hex_import_reply, hex_import_leaves}
use Rattle.code.proofs.Tests.{le-or-lt}
use Rattle.code.proofs.HexImport.{export-import, import-held, import-refusing}

module _ (bytes out : List ℕ) where
  -- the reply, and the output afterwards
  abbrev pub HexExports : List ℕ → List ℕ → Type 0
  HexExports reply after = (reply ≡ hex_export_reply bytes out) × (after ≡ hex_export_leaves bytes out)

  refuses : (k : ℕ) → hex_export_refusal bytes out ≡ k ∷ [] → HexExports (k ∷ []) out
  unfolding hex_export_reply hex_export_leaves answer leaves
  refuses k q = (rw q, rw q)

  pub export-many : 65536 < length bytes → HexExports (8 ∷ []) out
  unfolding hex_export_refusal refusal
  export-many h = refuses 8 (rw (lt-ltb 65536 (length bytes) h))

  module _ (few : length bytes ≤ 65536) where
    pub export-short : length out < length (hex_text bytes) → HexExports (9 ∷ []) out
    unfolding hex_export_refusal refusal
    export-short h = refuses 9 (rw (le-ltb 65536 (length bytes) few, lt-ltb (length out) (length (hex_text bytes)) h))

    pub export-stored : length (hex_text bytes) ≤ length out → HexExports (0 ∷ length (hex_text bytes) ∷ []) (hex_text bytes ++ drop (length (hex_text bytes)) out)
    unfolding hex_export_refusal refusal hex_export_reply hex_export_leaves answer leaves
    export-stored h =
        let z : hex_export_refusal bytes out ≡ [] = rw (le-ltb 65536 (length bytes) few, le-ltb (length out) (length (hex_text bytes)) h) in
        (rw z, rw z)

  -- an export that is accepted: its bytes are not too many, and there is room for the text
  pub export-told : refusal_in (hex_export_reply bytes out) ≡ 0 → (length bytes ≤ 65536) × (length (hex_text bytes) ≤ length out)
  export-told e = elim (le-or-lt (length bytes) 65536) [
    | inr h ↦ absurd (omega (arith, ap (λ reply. refusal_in reply) (export-many h).0))
    | inl few ↦ (
      few,
      elim (le-or-lt (length (hex_text bytes)) (length out)) [
        | inr h ↦ absurd (omega (arith, ap (λ reply. refusal_in reply) (export-short few h).0))
        | inl h ↦ h
      ],
    )
  ]

module _ (text out : List ℕ) where
  abbrev pub HexImports : List ℕ → List ℕ → Type 0
  HexImports reply after = (reply ≡ hex_import_reply text out) × (after ≡ hex_import_leaves text out)

  pub import-faulty : (k : ℕ) (carried : List ℕ) → hex_import text ≡ faulty (k ∷ carried) → HexImports (k ∷ carried) out
  unfolding import_refusal hex_import_reply hex_import_leaves answer leaves
  import-faulty k carried h = (rw h, rw h)

  module _ (bytes : List ℕ) (h : hex_import text ≡ gives bytes) where
    pub import-short : length out < length bytes → HexImports (9 ∷ []) out
    unfolding import_refusal refusal bytes_of hex_import_reply hex_import_leaves answer leaves
    import-short l =
        let q = lt-ltb (length out) (length bytes) l in
        (rw (h, q), rw (h, q))

    pub import-stored : length bytes ≤ length out → HexImports (0 ∷ length bytes ∷ []) (bytes ++ drop (length bytes) out)
    unfolding import_refusal refusal bytes_of hex_import_reply hex_import_leaves answer leaves
    import-stored l =
        let q = le-ltb (length out) (length bytes) l in
        (rw (h, q), rw (h, q))

  -- an import that is accepted: the text gives bytes, and there is room for them
  pub import-told : refusal_in (hex_import_reply text out) ≡ 0 → (bytes : List ℕ) × (hex_import text ≡ gives bytes) × (length bytes ≤ length out)
  unfolding hex_import_reply import_refusal refusal answer
  import-told e = go (hex_import text) refl e
    where
      refused : (k values : List ℕ) → 0 < get_or k 0 0 → refusal_in (answer k values) ≡ 0 → ⊥
      refused [] values p e = omega arith
      refused (j ∷ carried) values p e = omega arith

      go : (r : Import) → hex_import text ≡ r → refusal_in (answer (import_refusal r out) (length (bytes_of r) ∷ [])) ≡ 0 →
          (bytes : List ℕ) × (hex_import text ≡ gives bytes) × (length bytes ≤ length out)
      go (faulty k) q e = absurd (refused k (length (bytes_of (faulty k)) ∷ []) (import-refusing text k q) e)
      go (gives bytes) q e = (
        bytes,
        q,
        elim (le-or-lt (length bytes) (length out)) [
          | inr h ↦ absurd (omega (arith, rw (lt-ltb (length out) (length bytes) h) at e))
          | inl h ↦ h
        ],
      )

-- "Export then import gives the same cells", of the calls: the text is what the export stored
pub calls-round : (bytes out back : List ℕ) → Below 256 bytes → length bytes ≤ 65536 → length (hex_text bytes) ≤ length out → length bytes ≤ length back →
    HexImports (take (length_in (hex_export_reply bytes out)) (hex_export_leaves bytes out)) back (0 ∷ length bytes ∷ []) (bytes ++ drop (length bytes) back)
calls-round bytes out back u few room fits =
    let x = export-stored bytes out few room in
    let stored : take (length_in (hex_export_reply bytes out)) (hex_export_leaves bytes out) ≡ hex_text bytes =
    rw (← x.0, ← x.1) (take-append_seam (hex_text bytes) (drop (length (hex_text bytes)) out)) in
    rw stored (import-stored (hex_text bytes) back bytes (export-import bytes u few) fits)

-- "import then export gives one standard file", of the calls: what an import stored is exported as the one text of these bytes
pub calls-standard : (text bytes out back : List ℕ) → hex_import text ≡ gives bytes → length bytes ≤ length out → length (hex_text bytes) ≤ length back →
    HexExports (take (length_in (hex_import_reply text out)) (hex_import_leaves text out)) back
    (0 ∷ length (hex_text bytes) ∷ []) (hex_text bytes ++ drop (length (hex_text bytes)) back)
calls-standard text bytes out back h fits room =
    let x = import-stored text out bytes h fits in
    let stored : take (length_in (hex_import_reply text out)) (hex_import_leaves text out) ≡ bytes =
    rw (← x.0, ← x.1) (take-append_seam bytes (drop (length bytes) out)) in
    rw stored (export-stored bytes back (import-held text bytes h).1 room)

-- 65,537 bytes are too many
pub too_many : hex_export_reply (replicate 65537 0) [] ≡ 8 ∷ []
too_many = sym (export-many (replicate 65537 0) [] (omega (arith, length-replicate {A = ℕ} 65537 0))).0
