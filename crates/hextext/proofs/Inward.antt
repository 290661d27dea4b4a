-- Laws of an import: a line tested test by test, a text checked line by line, its data stored.
use mathlib.Core.Path.{◌≡◌, refl, sym, ◌∙◌}
use mathlib.Core.Logic.{inl, inr}
use mathlib.Core.Bool.{true, false, not, ◌&&◌}
use mathlib.Core.List.{List, [], ◌∷◌, ◌++◌}
use Prim.Native.Nat.{ℕ, ◌+◌, ◌*◌, ◌-◌, ◌%◌, ◌≤◌, ◌<◌}
use native.Mathlib.Omega.{arith}
use native.Mathlib.Numerals.{add-one}
use lib.ListN.{length, get_or, take}
use lib.Seq.{take-suc}
use lib.Dec.{leb, ltb, eqb}
use borrow.Author.Tests.{lt-ltb, le-ltb, le-leb, lt-leb, eq-eqb, eqb-true, not-false}
use Rattle.code.specs.Lists.{ascii}
use Rattle.code.specs.Hex.{end_record, digit_number, spelled_byte, spelled_bytes, line_bytes, data_count, line_refusal, all_spelled, laden_end, wrong_sum, displaced}
use Rattle.code.proofs.Tests.{le-or-lt, both_true, clash}
use Rattle.code.proofs.HexLines.{byte_at, Shaped, bytes-length, byte-at, is_false, spelled-small, next-is, size-within, line-passes}
use Rattle.hextext.specs.declared.import.Line.{Line}
use Rattle.std.specs.Prelude.{Option, None, Some}
use Rattle.std.specs.Option.{option_eq}
use Rattle.hextext.specs.Answers.{TellsBelow, Measured, Spans}

-- what holds below i and at i holds below i + 1
pub one_more : (P : ℕ → Type 0) (i : ℕ) → ((k : ℕ) → k < i → P k) → P i → (k : ℕ) → k < i + 1 → P k
one_more P i h p k l = elim (le-or-lt i k) [ inl g ↦ let e : k ≡ i = omega arith in rw e p | inr g ↦ h k g ]

-- digits spell the bytes of the end record
pub end-small : (i : ℕ) → i < 5 → byte_at end_record i < 256
unfolding end_record ascii line_bytes spelled_bytes spelled_byte digit_number all_spelled
end-small i l = omega (arith, spelled-small (line_bytes end_record) refl i l, byte-at end_record i (omega arith))

-- two bytes, the second of which is spelled, are alike where the same is told of them
pub alike : {a b : ℕ} (p q : Option ℕ) → TellsBelow 256 a p → TellsBelow 256 b q → b < 256 → false ≡ not (option_eq eqb p q) → a ≡ b
alike p None s t l h = absurd (omega arith)
alike None (Some k) s t l h = clash (cc)
alike (Some j) (Some k) s t l h = s.0 ∙ eqb-true j k (not-false (eqb j k) (sym h)) ∙ sym t.0

-- and are not where something else is
pub unlike : {a b : ℕ} (p q : Option ℕ) → TellsBelow 256 a p → TellsBelow 256 b q → b < 256 → true ≡ not (option_eq eqb p q) → a ≡ b → ⊥
unlike p None s t l h e = absurd (omega arith)
unlike None (Some k) s t l h e = absurd (omega (arith, t.1))
unlike (Some j) (Some k) s t l h e = let same : j ≡ k = sym s.0 ∙ e ∙ t.0 in clash (cc (rw (same, eq-eqb k k refl) at h))

spelled-last : (xs : List ℕ) (b : ℕ) → all_spelled xs ≡ true → b < 256 → all_spelled (xs ++ (b ∷ [])) ≡ true
unfolding all_spelled
spelled-last [] b e h = rw (lt-ltb b 256 h)
spelled-last (x ∷ xs) b e h = let t = both_true (ltb x 256) (all_spelled xs) e in rw (t.0, spelled-last xs b t.1 h)

-- one byte more is spelled, or is not
pub spelled-next : (bytes : List ℕ) (i : ℕ) → i < length bytes → all_spelled (take i bytes) ≡ true → get_or bytes i 0 < 256 → all_spelled (take (i + 1) bytes) ≡ true
spelled-next bytes i l h b = rw (add-one i, take-suc bytes i 0 l) (spelled-last (take i bytes) (get_or bytes i 0) h b)

pub not-spelled : (bytes : List ℕ) (i : ℕ) → i < length bytes → 256 ≤ get_or bytes i 0 → all_spelled bytes ≡ false
not-spelled bytes i l h = is_false (all_spelled bytes) (λ e. absurd (omega (arith, spelled-small bytes e i l)))

-- no address is left for so many bytes after n
pub room-left : (n count : ℕ) → n ≤ 65536 → ltb (65536 - n) count ≡ not (leb (n + count) 65536)
room-left n count h = elim (le-or-lt (n + count) 65536) [
  | inl l ↦ rw (le-leb (n + count) 65536 l, le-ltb (65536 - n) count (omega arith))
  | inr l ↦ rw (lt-leb (n + count) 65536 l, lt-ltb (65536 - n) count (omega arith))
]

-- a line of the right shape goes on behind its data
pub shaped-room : (line : List ℕ) → Shaped line → 11 + 2 * data_count line < length line
shaped-room line s = omega (arith, size-within line s, s.finish)

-- and digits spell its first bytes
pub shaped-byte : (line : List ℕ) → Shaped line → (i : ℕ) → i < 5 → byte_at line i < 256
shaped-byte line s i l = omega (arith, spelled-small (line_bytes line) s.bytes i (omega (arith, bytes-length line)), byte-at line i (omega arith))

-- a line of the right shape: the tests by its numbers, its characters
module _ {line : List ℕ} {l : Line} (s : Measured line l) where
  pub laden-is : laden_end line ≡ (eqb l.kind 1 && not (eqb l.count 0 && eqb l.address 0))
  unfolding laden_end
  laden-is = rw (s.type-told, s.count-told, s.address-told)

  pub sum_is : wrong_sum line ≡ not (eqb (l.sum % 256) 0)
  unfolding wrong_sum
  sum_is = rw s.sum_told

  pub displaced-is : (n : ℕ) → displaced n line ≡ (eqb l.kind 0 && ltb 0 l.count && not (eqb l.address n && leb (n + l.count) 65536))
  unfolding displaced
  displaced-is n = rw (s.type-told, s.count-told, s.address-told)

  pub measured-passes : (n : ℕ) → false ≡ (eqb l.kind 1 && not (eqb l.count 0 && eqb l.address 0)) → l.sum % 256 ≡ 0 →
      false ≡ (eqb l.kind 0 && ltb 0 l.count && not (eqb l.address n && leb (n + l.count) 65536)) → l.kind ≤ 1 → line_refusal n line ≡ []
  measured-passes n bare summed placed known =
      line-passes n line s.shaped (laden-is ∙ sym bare) (sum_is ∙ rw summed) (displaced-is n ∙ sym placed) (omega (arith, s.type-told))

  pub measured-spans : Spans line l.size
  measured-spans = (rw s.size-told at (next-is line), omega (arith, s.size-told), omega (arith, size-within line s.shaped, s.size-told))
