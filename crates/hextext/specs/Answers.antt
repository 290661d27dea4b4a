-- Document 02, §1 (RULES 11): what the steps of an import tell of a line and of a text.
use Rattle.std.specs.Prelude.{ℕ, ◌+◌, ◌*◌, ◌≤◌, ◌<◌, ◌≡◌, true, false, List, [], length, drop, Option, None, Some, Result, Ok, Err}
use Rattle.code.specs.Hex.{line_bytes, data_count, data_address, line_type, line_end, next_line, all_spelled, line_refusal, is_end, faulty, gives, hex_import}
use Rattle.code.specs.Lists.{list_sum}
use Rattle.code.specs.Refusals.{refusal_reply}
use Rattle.code.specs.declared.Refusal.{Refusal}
use Rattle.code.proofs.HexLines.{Shaped, line_size}
use Rattle.hextext.specs.declared.import.Line.{Line}
use Rattle.hextext.specs.declared.import.Tested.{Tested}
use Rattle.hextext.specs.declared.import.Tested.TheVariants.{Data, End}

-- a number below a bound, or none
abbrev pub TellsBelow : ℕ → ℕ → Option ℕ → Type 0
TellsBelow most n None = most ≤ n
TellsBelow most n (Some k) = (n ≡ k) × (k < most)

-- the characters of a line's end at the front of a text, if one stands there
abbrev pub Ends : List ℕ → Option ℕ → Type 0
Ends text None = line_end text ≡ 0
Ends text (Some n) = (line_end text ≡ n) × (0 < n) × (n ≤ length text)

-- what bytes add up to, where digits spell them all
abbrev pub Sums : List ℕ → Option ℕ → Type 0
Sums bytes None = all_spelled bytes ≡ false
Sums bytes (Some n) = (all_spelled bytes ≡ true) × (list_sum bytes ≡ n)

-- a line of the right shape with its numbers
pub record Measured (line : List ℕ) (l : Line) : Type 0 where
  pub shaped : Shaped line
  pub count-told : data_count line ≡ l.count
  pub address-told : data_address line ≡ l.address
  pub type-told : line_type line ≡ l.kind
  pub sum_told : list_sum (line_bytes line) ≡ l.sum
  pub size-told : line_size line ≡ l.size

abbrev pub TellsShape : List ℕ → Option Line → Type 0
TellsShape line None = Shaped line → ⊥
TellsShape line (Some l) = Measured line l

-- the characters that a line takes, and the text behind them
abbrev pub Spans : List ℕ → ℕ → Type 0
Spans line size = (next_line line ≡ drop size line) × (0 < size) × (size ≤ length line)

-- a line after n bytes: a data record with the count of its data, the end record, or its refusal
abbrev pub TestsLine : ℕ → List ℕ → Result Tested Refusal → Type 0
TestsLine n line (Ok (Data count size)) = (line_refusal n line ≡ []) × (is_end line ≡ false) × (data_count line ≡ count) × Spans line size
TestsLine n line (Ok (End size)) = (line_refusal n line ≡ []) × (is_end line ≡ true) × Spans line size
TestsLine n line (Err k) = line_refusal n line ≡ refusal_reply k

-- a text's refusal, or the count of the bytes that it gives
abbrev pub Counts : List ℕ → Result ℕ Refusal → Type 0
Counts text (Err k) = hex_import text ≡ faulty (refusal_reply k)
Counts text (Ok n) = (bytes : List ℕ) × (hex_import text ≡ gives bytes) × (length bytes ≡ n)

-- a line of so many data bytes, all of which digits spell
abbrev pub HasData : List ℕ → ℕ → Type 0
HasData line count = (data_count line ≡ count) × (all_spelled (line_bytes line) ≡ true)

-- the count of a line's data, read anew: the line and the room have so much, and in a line of the right shape with enough room it is the line's own
abbrev pub Recounts : List ℕ → ℕ → Option ℕ → Type 0
Recounts line room None = Shaped line → data_count line ≤ room → ⊥
Recounts line room (Some count) = (count ≤ room) × (11 + 2 * count < length line) × (Shaped line → data_count line ≤ room → count ≡ data_count line)
