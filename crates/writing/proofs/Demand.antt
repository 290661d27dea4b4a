-- The demands on the second half of the code, of the calls: over all answers and cells at exit that their promises allow.
use Rattle.std.proofs.Common.{Result, Ok, Err, is_ok}
use Prim.Native.Nat.{ℕ, zero, suc, ◌+◌, ◌-◌, ◌≤◌, ◌<◌}
use mathlib.Core.Path.{◌≡◌, refl, sym, ap, ◌∙◌}
use mathlib.Core.Bool.{true, false, true≢false}
use mathlib.Core.List.{List, [], ◌∷◌}
use native.Mathlib.Omega.{arith}
use native.Mathlib.Nat.{le_refl}
use lib.ListN.{length, get_or, take, length-replicate, get_or-replicate}
use lib.Dec.{leb}
use Rattle.code.specs.declared.Shape.{Shape}
use Rattle.code.specs.declared.Refusal.{Refusal}
use Rattle.code.specs.Shape.{first_of, ranges_of, order_of, width_of, code_of}
use Rattle.code.specs.Lists.{Below}
use Rattle.code.specs.Cells.{wit, size, sound, ones}
use Rattle.code.specs.Judge.{Due}
use Rattle.code.specs.Run.{run, total, opening_zeros}
use Rattle.code.specs.Calls.{passes, layout_refusal, field_read, left, read_reply, write_refusal, write_reply, turned_by, write_leaves, generation_in}
use Rattle.code.proofs.Wits.{Bytes}
use Rattle.code.proofs.Bytes.{tried-is}
use Rattle.code.proofs.Run.{InRange, run_more, total-more}
use Rattle.code.proofs.LayoutCall.{bounded, is-layout, layout-which}
use Rattle.code.proofs.WriteCall.{write-no-layout, leaves-is}
use Rattle.code.proofs.Demand as Code
use Rattle.reading.specs.declared.Reading.{Reading}
use Rattle.reading.specs.Answers.{reading_of}
use Rattle.reading.proofs.Unique.{same-reading}
use Rattle.reading.proofs.Demand.{told}
use Rattle.writing.specs.declared.Written.{Written}
use Rattle.writing.specs.Answers.{writing_of}
use Rattle.writing.proofs.Rewriting.{Answers}
use Rattle.writing.proofs.Accepted.{wrote, turns, accepts-is, turns-is, granted-first, made-with-none}

module _ (s : Shape) (x : ℕ) (bs : List ℕ) (B : Bytes bs) (r : Result Written Refusal) (after : List ℕ) (promise : Answers s x bs (writing_of r) after) where
  -- After an accepted write every answer that read's promise allows is the generation answered and the number just written.
  pub reads-back : (i n : ℕ) (a : Result Reading Refusal) → r ≡ wrote i n → reading_of a ≡ read_reply s after → a ≡ Ok (told i x (left s.t (field_read s after)))
  reads-back i n a made p =
      let q : 0 ∷ i ∷ n ∷ [] ≡ write_reply s x bs = rw made at promise.0 in
      let at : generation_in (write_reply s x bs) ≡ i = rw (← q) in
      let w = Code.reads-back s (granted-first s x i n bs q) x bs B (made-with-none s x i n bs q) in
      same-reading a (Ok (told i x (left s.t (field_read s after)))) (p ∙ rw (at, ← promise.1) at w)

  -- No wit falls, whatever the answer.
  pub never-falls : (w : ℕ) → wit (order_of s) bs w ≤ wit (order_of s) after w
  never-falls w = rw promise.1 (go (layout_refusal s 256) refl)
    where
      go : (k : List ℕ) → layout_refusal s 256 ≡ k → wit (order_of s) bs w ≤ wit (order_of s) (write_leaves s x bs) w
      go [] z = Code.never-falls s z x bs w B
      go (k ∷ carried) z = rw (write-no-layout s x bs k (z ∙ rw (layout-which s 256 k carried z))).1 (le_refl (wit (order_of s) bs w))

  -- The turned count is the ones after less the ones before.
  pub turned-are : (i n : ℕ) → r ≡ wrote i n → n + ones (order_of s) bs ≡ ones (order_of s) after
  turned-are i n made =
      let q : 0 ∷ i ∷ n ∷ [] ≡ write_reply s x bs = rw made at promise.0 in
      rw (turns-is s x bs (wrote i n) q, promise.1) (Code.turned-are s (granted-first s x i n bs q) x bs B)

  -- Demand 1: a refused write leaves the cells as they were.
  pub refused-keeps : (k : Refusal) → r ≡ Err k → after ≡ bs
  unfolding passes
  refused-keeps k made = promise.1 ∙ go (write_refusal s x bs) refl (rw made at (accepts-is s x bs r promise.0))
    where
      go : (l : List ℕ) → write_refusal s x bs ≡ l → false ≡ passes l → write_leaves s x bs ≡ bs
      go [] e f = absurd (true≢false (sym f))
      go (j ∷ carried) e f = Code.refused-write-keeps s x bs j carried e

-- A run of calls from any cells: call j gets the cells that the call before left, and its answer is one that its promise allows.
pub record CallsFrom (s : Shape) (start xs : List ℕ) (cells : ℕ → List ℕ) (answers : ℕ → Result Written Refusal) : Type 0 where
  pub first : cells 0 ≡ start
  pub each : (j : ℕ) → j < length xs → Answers s (get_or xs j 0) (cells j) (writing_of (answers j)) (cells (suc j))

-- A run of calls from blank cells: call j gets the cells that the call before left, and its answer is one that its promise allows.
pub record Calls (s : Shape) (xs : List ℕ) (cells : ℕ → List ℕ) (answers : ℕ → Result Written Refusal) : Type 0 where
  pub blank : cells 0 ≡ Code.blank_cells s
  pub each : (j : ℕ) → j < length xs → Answers s (get_or xs j 0) (cells j) (writing_of (answers j)) (cells (suc j))

-- which is one from any cells
abbrev from_blank : {s : Shape} {xs : List ℕ} {cells : ℕ → List ℕ} {answers : ℕ → Result Written Refusal} → Calls s xs cells answers →
    CallsFrom s (Code.blank_cells s) xs cells answers
from_blank C = record { first = C.blank; each = C.each }

-- what the first j calls answer as turned
unfoldable pub turned_sum : (ℕ → Result Written Refusal) → ℕ → ℕ
turned_sum answers zero = 0
turned_sum answers (suc j) = turned_sum answers j + turns (answers j)

module _ (s : Shape) (ok : layout_refusal s 256 ≡ []) (start xs : List ℕ) (cells : ℕ → List ℕ) (answers : ℕ → Result Written Refusal) (C : CallsFrom s start xs cells answers) where
  cells_are : (j : ℕ) → j ≤ length xs → cells j ≡ run (write_leaves s) start (take j xs)
  unfolding run
  cells_are zero l = C.first
  cells_are (suc j) l = (C.each j (omega arith)).1 ∙ rw (cells_are j (omega arith), run_more (write_leaves s) start xs j (omega arith))

  passes-is : (j : ℕ) → j < length xs → is_ok (answers j) ≡ passes (write_refusal s (get_or xs j 0) (run (write_leaves s) start (take j xs)))
  passes-is j l = accepts-is s (get_or xs j 0) (cells j) (answers j) (C.each j l).0 ∙ rw (cells_are j (omega arith))

  -- From any sound cells that have a reading, where k generations stand before the one that is due, blank cells being one start and a resumed field another: call j,
  -- the first being call 0, is accepted exactly when k + j + 1 is at most t, less the zeros that open the sequence on blank cells.
  pub accepted-from : Bytes start → sound (order_of s) s.m (width_of s) start ≡ true → (k : ℕ) → Due (field_read s start) k → (j : ℕ) →
      InRange (first_of s) (ranges_of s) k xs → j < length xs → is_ok (answers j) ≡ leb (k + (suc j - opening_zeros (k + first_of s) xs)) s.t
  accepted-from B f k d j r l = passes-is j l ∙ Code.accepted-from s ok start B f k d xs j r l

module _ (s : Shape) (ok : layout_refusal s 256 ≡ []) (xs : List ℕ) (cells : ℕ → List ℕ) (answers : ℕ → Result Written Refusal) (C : Calls s xs cells answers) where
  abbrev passed : (j : ℕ) → j < length xs →
      is_ok (answers j) ≡ passes (write_refusal s (get_or xs j 0) (run (write_leaves s) (Code.blank_cells s) (take j xs)))
  passed = passes-is s ok (Code.blank_cells s) xs cells answers (from_blank C)

  -- Of the forms that have one v: call j, the first being call 0, is accepted exactly when j + 1 less the zeros that open the sequence is at most t.
  pub accepted-exactly : (s.form ≡ 2 → ⊥) → (j : ℕ) → Below (get_or s.v 0 0) xs → j < length xs →
      is_ok (answers j) ≡ leb (suc j - opening_zeros (first_of s) xs) s.t
  accepted-exactly one j b l = passed j l ∙ Code.accepted-exactly s ok one xs j b l

  -- 02, §2, of a new drive: call j is accepted exactly when j + 1 is at most t.
  pub accepted-new : s.form ≡ 1 → (j : ℕ) → Below (get_or s.v 0 0) xs → j < length xs → is_ok (answers j) ≡ leb (suc j) s.t
  accepted-new new j b l = passed j l ∙ Code.accepted-new s ok new xs j b l

  -- 02, §7, of a range for each generation: the same, where every number that a generation would take is below its range.
  pub accepted-listed : s.form ≡ 2 → (j : ℕ) → ((k : ℕ) → k < length xs → k < s.t → get_or xs k 0 < get_or (ranges_of s) k 0) → j < length xs →
      is_ok (answers j) ≡ leb (suc j) s.t
  accepted-listed two j f l = passed j l ∙ Code.accepted-listed s ok two xs j f l

  are-bytes : (j : ℕ) → j ≤ length xs → Bytes (cells j)
  are-bytes zero l =
      let n = size s.m (width_of s) in
      rw C.blank (λ i b. omega (arith, get_or-replicate {A = ℕ} n i 0 0 (rw (length-replicate {A = ℕ} n 0) at b)))
  are-bytes (suc j) l =
      rw ((C.each j (omega arith)).1, leaves-is s ok (get_or xs j 0) (cells j))
      (tried-is (code_of s) (is-layout s ok) (omega (arith, (bounded s ok).m-low)) (get_or xs j 0) (cells j)
      (are-bytes j (omega arith))).0

  -- After each accepted call reading gives the generation answered and the number just written.
  pub reads-after-each : (j i n : ℕ) (a : Result Reading Refusal) → j < length xs → answers j ≡ wrote i n → reading_of a ≡ read_reply s (cells (suc j))
      → a ≡ Ok (told i (get_or xs j 0) (left s.t (field_read s (cells (suc j)))))
  reads-after-each j i n a l = reads-back s (get_or xs j 0) (cells j) (are-bytes j (omega arith)) (answers j) (cells (suc j)) (C.each j l) i n a

  counted : (j : ℕ) → j ≤ length xs → total (λ x bs. turned_by (write_reply s x bs)) (write_leaves s) (Code.blank_cells s) (take j xs) ≡ turned_sum answers j
  unfolding turned_sum total
  counted zero l = refl
  counted (suc j) l =
      let more = total-more (λ x bs. turned_by (write_reply s x bs)) (write_leaves s) (Code.blank_cells s) xs j (omega arith) in
      let n = rw (cells_are s ok (Code.blank_cells s) xs cells answers (from_blank C) j (omega arith)) at (turns-is s (get_or xs j 0) (cells j) (answers j) (C.each j (omega arith)).0) in
      omega (arith, more, n, counted j (omega arith))

  -- The turned counts answered add up to the ones in the cells.
  pub turned-add-up : (j : ℕ) → j ≤ length xs → turned_sum answers j ≡ ones (order_of s) (cells j)
  turned-add-up j l = sym (counted j l) ∙ Code.turned-add-up s ok (take j xs) ∙ ap (ones (order_of s)) (sym (cells_are s ok (Code.blank_cells s) xs cells answers (from_blank C) j l))
