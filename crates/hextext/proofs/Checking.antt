-- Laws of an import line by line: a text that is checked, and its data that is stored.
use mathlib.Core.Path.{◌≡◌, refl, sym, ap, ◌∙◌}
use mathlib.Core.Bool.{false}
use mathlib.Core.List.{List, [], ◌∷◌, ◌++◌}
use Rattle.std.specs.Prelude.{Ok, Err}
use Prim.Native.Nat.{ℕ, ◌+◌, ◌-◌, ◌≤◌, ◌<◌}
use native.Mathlib.Omega.{arith}
use lib.ListN.{length, get_or, take, drop, length-append, length-take, length-drop}
use lib.Seq.{take_all, drop-drop}
use borrow.Author.Tests.{eq-eqb, ne_eqb}
use Rattle.code.specs.Hex.{data_count, line_data, next_line, line_refusal, is_end, faulty, gives, closed, hex_import, bytes_of}
use Rattle.code.proofs.HexLines.{line_size, Shaped}
use Rattle.code.proofs.HexLines.{line-passed, data-length, next-is, size-within}
use Rattle.code.proofs.HexImport.{import_on, import-refused, import-ended, import-taken, Addressed, held_more, import-front, import-going}
use Rattle.code.proofs.HexCalls.{HexImports, import-faulty, import-short, import-stored}
use Rattle.code.proofs.Refused.{refused-some}
use Rattle.code.specs.Refusals.{refusal_reply}
use Rattle.code.specs.declared.Refusal.{Refusal}
use Rattle.code.specs.declared.Refusal.TheVariants.{RecordType}
use Rattle.storing.specs.Put.{Put}
use Rattle.storing.proofs.Put.{put-none, put_then, put-pastes}
use Rattle.hextext.specs.Answers.{TestsLine, Counts}
use Rattle.hextext.specs.declared.import.Tested.TheVariants.{Data, End}

-- the text from a place on, as the code takes it
pub part-is : (text : List ℕ) (at : ℕ) → take (length text - at) (drop at text) ≡ drop at text
part-is text at = take_all (length text - at) (drop at text) (omega (arith, length-drop at text))

-- a line that is refused
line_refused : (done text r : List ℕ) → 0 < get_or r 0 0 → line_refusal (length done) text ≡ r → import_on done text ≡ faulty r
line_refused done text [] h q = absurd (omega arith)
line_refused done text (k ∷ carried) h q = import-refused done text k carried q

-- the lines before place `at` are taken, which gave `done` bytes
pub record Checking (text : List ℕ) (at done : ℕ) : Type 0 where
  pub within : at ≤ length text
  pub bytes : List ℕ
  pub goes : hex_import text ≡ import_on bytes (drop at text)
  pub held : Addressed bytes
  pub many : length bytes ≡ done

pub checking-begin : (text : List ℕ) → Checking text 0 0
unfolding hex_import
checking-begin text = record { within = omega arith; bytes = []; goes = refl; held = (tt, omega arith); many = refl }

module _ {text : List ℕ} {at done : ℕ} (s : Checking text at done) where
  pub checking-wrong : (k : Refusal) → TestsLine done (drop at text) (Err k) → Counts text (Err k)
  checking-wrong k j = s.goes ∙ line_refused s.bytes (drop at text) (refusal_reply k) (refused-some k) (rw s.many j)

  closes : (size : ℕ) → TestsLine done (drop at text) (Ok (End size)) → hex_import text ≡ closed s.bytes (drop size (drop at text))
  closes size j = rw j.2.0 at (s.goes ∙ import-ended s.bytes (drop at text) (rw s.many j.0) j.1)

  pub checking-more : (size : ℕ) → TestsLine done (drop at text) (Ok (End size)) → size < length text - at → Counts text (Err RecordType)
  unfolding closed
  checking-more size j l =
      let rest = length-drop size (drop at text) in
      let line = length-drop at text in
      closes size j ∙ rw (ne_eqb (length (drop size (drop at text))) 0 (λ z. omega arith))

  pub checking-right : (size : ℕ) → TestsLine done (drop at text) (Ok (End size)) → length text - at ≤ size → Counts text (Ok done)
  unfolding closed
  checking-right size j l =
      let rest = length-drop size (drop at text) in
      let line = length-drop at text in
      (s.bytes, closes size j ∙ rw (eq-eqb (length (drop size (drop at text))) 0 (omega arith)), s.many)

  pub checking-next : (count size : ℕ) → TestsLine done (drop at text) (Ok (Data count size)) → Checking text (at + size) (done + count)
  checking-next count size j =
      let line : List ℕ = drop at text in
      let q : line_refusal (length s.bytes) line ≡ [] = rw s.many j.0 in
      record {
        within = omega (arith, j.3.2, length-drop at text, s.within);
        bytes = s.bytes ++ line_data line;
        goes = s.goes ∙ import-taken s.bytes line q j.1 ∙ ap (import_on (s.bytes ++ line_data line)) (j.3.0 ∙ drop-drop size at text);
        held = held_more s.bytes line q s.held;
        many = length-append s.bytes (line_data line) ∙ omega (arith, s.many, data-length line, j.2);
      }

-- the data of the lines before place `at` is stored
pub record DataStored (before text after : List ℕ) (at done all : ℕ) : Type 0 where
  pub checking : Checking text at done
  pub put : Put before after 0 checking.bytes done
  pub whole : Counts text (Ok all)

pub loaded-begin : (b text : List ℕ) (all : ℕ) → Counts text (Ok all) → DataStored b text b 0 0 all
unfolding checking-begin
loaded-begin b text all w = record { checking = checking-begin text; put = put-none b 0; whole = w }

module _ {b text c : List ℕ} {at done all : ℕ} (s : DataStored b text c at done all) where
  abbrev line : List ℕ
  line = drop at text

  goes_on : import_on s.checking.bytes line ≡ gives s.whole.0
  goes_on = sym s.checking.goes ∙ s.whole.1

  -- where bytes are still to come, the line at the place is a data record that has room
  module _ (h : done < all) where
    loaded-line : (line_refusal done line ≡ []) × (is_end line ≡ false)
    loaded-line = rw s.checking.many at (import-going s.checking.bytes line s.whole.0 goes_on (omega (arith, s.checking.many, s.whole.2)))

    pub loaded-shaped : Shaped line
    loaded-shaped = (line-passed done line loaded-line.0).shaped

    pub loaded-tested : TestsLine done line (Ok (Data (data_count line) (line_size line)))
    loaded-tested = (loaded-line.0, loaded-line.1, refl, (next-is line, omega arith, size-within line loaded-shaped))

    pub loaded-room : done + data_count line ≤ all
    loaded-room =
        let bytes = s.checking.bytes in
        let i = sym (import-taken bytes line (rw s.checking.many loaded-line.0) loaded-line.1) ∙ goes_on in
        let f = import-front (bytes ++ line_data line) (next_line line) s.whole.0 i in
        let few = length-take (length (bytes ++ line_data line)) s.whole.0 in
        omega (arith, ap length f, few, length-append bytes (line_data line), data-length line, s.checking.many, s.whole.2)

    pub loaded-next : (d : List ℕ) (n : ℕ) → Put c d done (line_data line) n → DataStored b text d (at + line_size line) n all
    unfolding checking-next
    loaded-next d n p =
        let e : n ≡ done + data_count line = omega (arith, p.ends, data-length line) in
        rw e record {
          checking = checking-next s.checking (data_count line) (line_size line) loaded-tested;
          put = put_then s.put (rw e at p);
          whole = s.whole;
        }

  pub loaded-end : all ≤ done → Put b c 0 (bytes_of (hex_import text)) done
  unfolding bytes_of
  loaded-end h =
      let front = rw s.checking.many at (import-front s.checking.bytes line s.whole.0 goes_on) in
      let f : s.whole.0 ≡ s.checking.bytes = sym (take_all done s.whole.0 (omega (arith, s.whole.2))) ∙ front in
      rw (s.whole.1, f) s.put

-- the import by what its lines come to
imports_faulty : (text out r : List ℕ) → 0 < get_or r 0 0 → hex_import text ≡ faulty r → HexImports text out r out
imports_faulty text out [] h q = absurd (omega arith)
imports_faulty text out (k ∷ carried) h q = import-faulty text out k carried q

pub imports-wrong : (text out : List ℕ) (k : Refusal) → Counts text (Err k) → HexImports text out (refusal_reply k) out
imports-wrong text out k w = imports_faulty text out (refusal_reply k) (refused-some k) w

pub imports-short : (text out : List ℕ) (all : ℕ) → Counts text (Ok all) → length out < all → HexImports text out (9 ∷ []) out
imports-short text out all w h = import-short text out w.0 w.1 (omega (arith, w.2))

pub imports-right : (text : List ℕ) {b c : List ℕ} (all : ℕ) {n : ℕ} → Counts text (Ok all) → all ≤ length b →
    Put b c 0 (bytes_of (hex_import text)) n → HexImports text b (0 ∷ n ∷ []) c
unfolding bytes_of
imports-right text {b} {c} all {n} w h p =
    let q : Put b c 0 w.0 n = rw w.1 at p in
    let e : n ≡ length w.0 = omega (arith, q.ends) in
    let made : c ≡ w.0 ++ drop n b = put-pastes q (omega (arith, w.2)) in
    rw (made, e) (import-stored text b w.0 w.1 (omega (arith, w.2)))
