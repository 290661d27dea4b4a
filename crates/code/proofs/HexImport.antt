-- Intel HEX: an import line by line; export then import gives the same bytes, import then export gives one standard file.
use Prim.Native.Nat.{ℕ, zero, suc, ◌+◌, ◌≤◌, ◌<◌}
use mathlib.Core.Path.{◌≡◌, refl, sym, ap, ◌∙◌}
use mathlib.Core.Bool.{Bool, true, false}
use mathlib.Core.List.{List, [], ◌∷◌, ◌++◌, append_assoc, append-nil}
use native.Mathlib.Omega.{arith}
use lib.ListN.{length, get_or, take, drop, length-append, length-take, length-drop, take-append-drop}
use lib.Seq.{take-take, take-length, take-append_seam}
use lib.Dec.{ltb}
use borrow.Author.Tests.{ne_eqb, ltb-true}
use Rattle.code.specs.Lists.{Below, list_sum}
use Rattle.code.specs.Calls.{refusal}
use Rattle.code.specs.Lists.{ascii}
use Rattle.code.specs.Hex.{data_line, data_lines, line_count, end_record, hex_text, digit_number, spelled_byte, spelled_bytes, line_bytes}
use Rattle.code.specs.Hex.{data_count, data_address, line_type, line_data, line_end, behind_bytes, next_line, all_spelled, misshapen, laden_end, wrong_sum}
use Rattle.code.specs.Lists.{same}
use Rattle.code.specs.Hex.{displaced, line_refusal, is_end, Import, faulty, gives, closed, import_from, hex_import, bytes_of}
use Rattle.code.proofs.Tests.{both_true, clash}
use Rattle.code.proofs.LayoutCall.{refusal-some}
use Rattle.code.proofs.HexLines.{Shaped}
use Rattle.code.proofs.HexLines.{line-passed, next-length, data-length, passed-few}
use Rattle.code.proofs.ByteLists.{below-append}
use Rattle.code.proofs.HexText.{line-next, line-data, line-accepted, line-open}

-- the next line, with any fuel
module _ (fuel : ℕ) (done text : List ℕ) where
  from-refused : (k : ℕ) (carried : List ℕ) → line_refusal (length done) text ≡ k ∷ carried → import_from (suc fuel) done text ≡ faulty (k ∷ carried)
  unfolding import_from
  from-refused k carried h = rw (h, import_from)

  from-ended : line_refusal (length done) text ≡ [] → is_end text ≡ true → import_from (suc fuel) done text ≡ closed done (next_line text)
  unfolding import_from
  from-ended h e = rw (h, e, import_from)

  from-taken : line_refusal (length done) text ≡ [] → is_end text ≡ false →
      import_from (suc fuel) done text ≡ import_from fuel (done ++ line_data text) (next_line text)
  unfolding import_from
  from-taken h e = rw (h, e, import_from)

-- fuel above the text's length is as good as any
from-enough : (f g : ℕ) (done text : List ℕ) → length text < f → length text < g → import_from f done text ≡ import_from g done text
from-enough zero g done text h l = absurd (omega arith)
from-enough (suc f) zero done text h l = absurd (omega arith)
from-enough (suc f) (suc g) done text h l =
    go (line_refusal (length done) text) refl (is_end text) refl (from-enough f g (done ++ line_data text) (next_line text))
  where
    go : (r : List ℕ) → line_refusal (length done) text ≡ r → (b : Bool) → is_end text ≡ b →
        (length (next_line text) < f → length (next_line text) < g →
        import_from f (done ++ line_data text) (next_line text) ≡ import_from g (done ++ line_data text) (next_line text)) →
        import_from (suc f) done text ≡ import_from (suc g) done text
    go (k ∷ carried) q b e ih = cc (from-refused f done text k carried q, from-refused g done text k carried q)
    go [] q true e ih = cc (from-ended f done text q e, from-ended g done text q e)
    go [] q false e ih =
        let w = next-length text (line-passed (length done) text q).shaped in
        cc (from-taken f done text q e, from-taken g done text q e, ih (omega arith) (omega arith))

-- an import after the bytes of earlier lines, with just enough fuel
abbrev pub import_on : List ℕ → List ℕ → Import
import_on done text = import_from (suc (length text)) done text

module _ (done text : List ℕ) where
  pub import-refused : (k : ℕ) (carried : List ℕ) → line_refusal (length done) text ≡ k ∷ carried → import_on done text ≡ faulty (k ∷ carried)
  import-refused = from-refused (length text) done text

  pub import-ended : line_refusal (length done) text ≡ [] → is_end text ≡ true → import_on done text ≡ closed done (next_line text)
  import-ended = from-ended (length text) done text

  pub import-taken : line_refusal (length done) text ≡ [] → is_end text ≡ false → import_on done text ≡ import_on (done ++ line_data text) (next_line text)
  import-taken q e =
      let w = next-length text (line-passed (length done) text q).shaped in
      from-taken (length text) done text q e
      ∙ from-enough (length text) (suc (length (next_line text))) (done ++ line_data text) (next_line text) (omega arith) (omega arith)

below-take : (b n : ℕ) (xs : List ℕ) → Below b xs → Below b (take n xs)
below-take b zero xs u = tt
below-take b (suc n) [] u = tt
below-take b (suc n) (x ∷ xs) u = (u.0, below-take b n xs u.1)

below-drop : (b n : ℕ) (xs : List ℕ) → Below b xs → Below b (drop n xs)
below-drop b zero xs u = u
below-drop b (suc n) [] u = tt
below-drop b (suc n) (x ∷ xs) u = below-drop b n xs u.1

-- a data record is taken
data-taken : (done bytes rest : List ℕ) → Below 256 bytes → length bytes < 256 → length done < 65536 → length done + length bytes ≤ 65536 →
    import_on done (data_line (length done) bytes ++ rest) ≡ import_on (done ++ bytes) rest
data-taken done bytes rest u few low h =
    import-taken done (data_line (length done) bytes ++ rest) (line-accepted (length done) bytes rest u few low h) (line-open (length done) bytes rest u few low)
    ∙ rw (line-data (length done) bytes rest u few low, line-next (length done) bytes rest u few low)

-- the end record closes
end-closes : (done : List ℕ) → import_on done end_record ≡ gives done
unfolding end_record ascii refusal digit_number spelled_byte spelled_bytes line_bytes data_count data_address line_type line_end behind_bytes next_line all_spelled misshapen laden_end wrong_sum displaced line_refusal same is_end closed list_sum
end-closes done = import-ended done end_record refl refl

-- lines of data are taken, whatever text stands behind them
lines-taken : (n at : ℕ) (done bytes rest : List ℕ) → line_count (length bytes) ≡ n → (0 < length bytes → at ≡ length done) → Below 256 bytes →
    length done + length bytes ≤ 65536 → import_on done (data_lines n at bytes ++ rest) ≡ import_on (done ++ bytes) rest
unfolding data_lines
lines-taken zero at done [] rest e a u h = ap (λ (d : List ℕ). import_on d rest) (sym (append-nil done))
lines-taken zero at done (x ∷ bytes) rest e a u h = absurd (omega arith)
lines-taken (suc n) at done bytes rest e a u h =
    let p : at ≡ length done = a (omega arith) in
    let few = length-take 16 bytes in
    let less = length-drop 16 bytes in
    let more = length-append done (take 16 bytes) in
    let later : List ℕ = data_lines n (at + 16) (drop 16 bytes) in
    let first = data-taken done (take 16 bytes) (later ++ rest) (below-take 256 16 bytes u) (omega arith) (omega arith) (omega arith) in
    let whole : (done ++ take 16 bytes) ++ drop 16 bytes ≡ done ++ bytes =
    append_assoc done (take 16 bytes) (drop 16 bytes) ∙ ap (λ (r : List ℕ). done ++ r) (take-append-drop 16 bytes) in
    ap (import_on done) (append_assoc (data_line at (take 16 bytes)) later rest)
    ∙ rw (← p) at first
    ∙ lines-taken n (at + 16) (done ++ take 16 bytes) (drop 16 bytes) rest (omega arith) (λ z. omega arith) (below-drop 256 16 bytes u) (omega arith)
    ∙ ap (λ (d : List ℕ). import_on d rest) whole

-- "Export then import gives the same cells"
pub export-import : (bytes : List ℕ) → Below 256 bytes → length bytes ≤ 65536 → hex_import (hex_text bytes) ≡ gives bytes
unfolding hex_import hex_text
export-import bytes u h = lines-taken (line_count (length bytes)) 0 [] bytes end_record refl (λ z. refl) u (omega arith) ∙ end-closes bytes

-- the last address takes a byte
pub last-address : (done : List ℕ) (b : ℕ) → Below 256 done → b < 256 → length done ≡ 65535 →
    hex_import (data_lines 4096 0 done ++ (data_line 65535 (b ∷ []) ++ end_record)) ≡ gives (done ++ (b ∷ []))
unfolding hex_import
last-address done b u small e =
    lines-taken 4096 0 [] done (data_line 65535 (b ∷ []) ++ end_record) (rw e) (λ z. refl) u (omega arith)
    ∙ rw e at (data-taken done (b ∷ []) end_record (small, tt) (omega arith) (omega arith) (omega arith))
    ∙ end-closes (done ++ (b ∷ []))

-- bytes, and no more than there are addresses
abbrev pub Addressed : List ℕ → Type 0
Addressed bytes = Below 256 bytes × (length bytes ≤ 65536)

spelled-below : (bytes : List ℕ) → all_spelled bytes ≡ true → Below 256 bytes
unfolding all_spelled
spelled-below [] h = tt
spelled-below (b ∷ bytes) h = let t = both_true (ltb b 256) (all_spelled bytes) h in (ltb-true b 256 t.0, spelled-below bytes t.1)

data-below : (line : List ℕ) → Shaped line → Below 256 (line_data line)
unfolding line_data
data-below line s = below-take 256 (data_count line) (drop 4 (line_bytes line)) (below-drop 256 4 (line_bytes line) (spelled-below (line_bytes line) s.bytes))

pub held_more : (done line : List ℕ) → line_refusal (length done) line ≡ [] → Addressed done → Addressed (done ++ line_data line)
held_more done line q u =
    let p = line-passed (length done) line q in
    let few = passed-few (length done) line p u.1 in
    (below-append 256 done (line_data line) u.0 (data-below line p.shaped), omega (arith, length-append done (line_data line), data-length line))

pub closed-gives : (done text bytes : List ℕ) → closed done text ≡ gives bytes → done ≡ bytes
unfolding closed
closed-gives done [] bytes h = cc
closed-gives done (x ∷ text) bytes h = let h' = rw (ne_eqb (suc (length text)) 0 (λ z. omega arith)) at h in clash (cc)

-- what an import keeps with every line that it takes, its bytes have
module _ (P : List ℕ → List ℕ → Type 0) (here : (bytes : List ℕ) → P bytes bytes)
    (back : (done bytes line : List ℕ) → line_refusal (length done) line ≡ [] → P (done ++ line_data line) bytes → P done bytes) where
  from-keeps : (fuel : ℕ) (done text bytes : List ℕ) → import_from fuel done text ≡ gives bytes → P done bytes
  unfolding import_from
  from-keeps zero done text bytes h = clash (cc)
  from-keeps (suc fuel) done text bytes h =
      go (line_refusal (length done) text) refl (is_end text) refl (from-keeps fuel (done ++ line_data text) (next_line text) bytes)
    where
      go : (r : List ℕ) → line_refusal (length done) text ≡ r → (b : Bool) → is_end text ≡ b →
          (import_from fuel (done ++ line_data text) (next_line text) ≡ gives bytes → P (done ++ line_data text) bytes) → P done bytes
      go (k ∷ carried) q b e ih = clash (cc (from-refused fuel done text k carried q))
      go [] q true e ih = rw (closed-gives done (next_line text) bytes (sym (from-ended fuel done text q e) ∙ h)) (here bytes)
      go [] q false e ih = back done bytes text q (ih (sym (from-taken fuel done text q e) ∙ h))

-- what a faulty text is refused with has a number above 0
closed-faulty : (done text k : List ℕ) → closed done text ≡ faulty k → 0 < get_or k 0 0
unfolding closed
closed-faulty done [] k h = clash (cc)
closed-faulty done (x ∷ text) k h =
    let h' = rw (ne_eqb (suc (length text)) 0 (λ z. omega arith)) at h in
    let z : 24 ∷ [] ≡ k = cc in
    rw (← z) (omega arith)

line_refused : (n : ℕ) (line : List ℕ) (k : ℕ) (carried : List ℕ) → line_refusal n line ≡ k ∷ carried → 0 < k
unfolding line_refusal
line_refused n line k carried q =
    refusal-some _ (omega arith, (omega arith, (omega arith, (omega arith, (omega arith, (omega arith, tt)))))) k carried q

from-faulty : (fuel : ℕ) (done text k : List ℕ) → import_from fuel done text ≡ faulty k → 0 < get_or k 0 0
unfolding import_from
from-faulty zero done text k h = let z : 23 ∷ [] ≡ k = cc in rw (← z) (omega arith)
from-faulty (suc fuel) done text k h =
    go (line_refusal (length done) text) refl (is_end text) refl (from-faulty fuel (done ++ line_data text) (next_line text) k)
  where
    go : (r : List ℕ) → line_refusal (length done) text ≡ r → (b : Bool) → is_end text ≡ b →
        (import_from fuel (done ++ line_data text) (next_line text) ≡ faulty k → 0 < get_or k 0 0) → 0 < get_or k 0 0
    go (j ∷ carried) q b e ih =
        let f = sym (from-refused fuel done text j carried q) ∙ h in
        let z : j ∷ carried ≡ k = cc in
        rw (← z) (line_refused (length done) text j carried q)
    go [] q true e ih = closed-faulty done (next_line text) k (sym (from-ended fuel done text q e) ∙ h)
    go [] q false e ih = ih (sym (from-taken fuel done text q e) ∙ h)

pub import-refusing : (text k : List ℕ) → hex_import text ≡ faulty k → 0 < get_or k 0 0
unfolding hex_import
import-refusing text k = from-faulty (suc (length text)) [] text k

-- what a text gives are bytes, at most 65,536 of them
pub import-held : (text bytes : List ℕ) → hex_import text ≡ gives bytes → Addressed bytes
unfolding hex_import
import-held text bytes h =
    from-keeps (λ done all. Addressed done → Addressed all) (λ all u. u) (λ done all line q f u. f (held_more done line q u)) (suc (length text)) [] text bytes h
    (tt, omega arith)

prefix-less : (xs ys all : List ℕ) → take (length (xs ++ ys)) all ≡ xs ++ ys → take (length xs) all ≡ xs
prefix-less xs ys all h =
    let e : take (length xs) (take (length (xs ++ ys)) all) ≡ take (length xs) (xs ++ ys) = ap (take (length xs)) h in
    sym (take-take (length xs) (length (xs ++ ys)) all (omega (arith, length-append xs ys))) ∙ e ∙ take-append_seam xs ys

-- the bytes of earlier lines stand in front of what a text gives
pub import-front : (done text bytes : List ℕ) → import_on done text ≡ gives bytes → take (length done) bytes ≡ done
import-front done text =
    from-keeps (λ xs all. take (length xs) all ≡ xs) take-length (λ xs all line q f. prefix-less xs (line_data line) all f) (suc (length text)) done text

-- where bytes are still to come, the next line is a data record
pub import-going : (done text bytes : List ℕ) → import_on done text ≡ gives bytes → length done < length bytes →
    (line_refusal (length done) text ≡ []) × (is_end text ≡ false)
import-going done text bytes h l = go (line_refusal (length done) text) refl (is_end text) refl
  where
    go : (r : List ℕ) → line_refusal (length done) text ≡ r → (b : Bool) → is_end text ≡ b → (line_refusal (length done) text ≡ []) × (is_end text ≡ false)
    go (k ∷ carried) q b e = clash (cc (import-refused done text k carried q))
    go [] q true e = absurd (omega (arith, ap length (closed-gives done (next_line text) bytes (sym (import-ended done text q e) ∙ h))))
    go [] q false e = (q, e)

-- "import then export gives one standard file": two texts that give the same bytes give one text again, and it gives the bytes
pub import-export : (text other bytes : List ℕ) → hex_import text ≡ gives bytes → hex_import other ≡ gives bytes →
    (hex_text (bytes_of (hex_import text)) ≡ hex_text (bytes_of (hex_import other))) × (hex_import (hex_text (bytes_of (hex_import text))) ≡ gives bytes)
unfolding bytes_of
import-export text other bytes h k =
    let u = import-held text bytes h in
    (rw (h, k), rw h (export-import bytes u.0 u.1))
