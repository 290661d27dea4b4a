-- The demands on a write of many numbers, of the call: over any answer and cells at exit that its promise allows, beside any single writes and reads of its
-- fields.
use Prim.Native.Nat.{ℕ, zero, suc, ◌+◌, ◌*◌, ◌-◌, ◌≤◌, ◌<◌}
use mathlib.Core.Path.{◌≡◌, refl, sym, ap, ◌∙◌}
use mathlib.Core.Logic.{◌⊎◌, inl, inr}
use mathlib.Core.Bool.{false, cond}
use mathlib.Core.List.{List, [], ◌∷◌, map}
use native.Mathlib.Omega.{arith}
use native.Mathlib.Nat.{le_refl}
use lib.Dec.{ltb}
use lib.ListN.{length, get_or, take, drop, replicate, length-map, get_or-map, get_or-eq_default}
use lib.Seq.{get_or-take, get_or-drop}
use borrow.Author.Tests.{ltb-false}
use Rattle.std.proofs.Common.{Result, Ok, Err}
use Rattle.code.specs.declared.Shape.{Shape}
use Rattle.code.specs.declared.Refusal.{Refusal}
use Rattle.code.specs.Refusals.{refusal_reply}
use Rattle.code.specs.Shape.{order_of}
use Rattle.code.specs.Cells.{wit, ones}
use Rattle.code.specs.Lists.{list_sum}
use Rattle.code.specs.Calls.{answer, passes, filled, refusal_in, generation_in, turned_in, unerased_in}
use Rattle.code.specs.Calls.{field_read, left, read_reply, write_refusal, write_reply, write_leaves}
use Rattle.code.specs.Many.{field_bytes, many_replies, many_cells, many_refusal, made_replies, stop_reply, many_numbers, many_told, many_reply, many_leaves}
use Rattle.code.proofs.Wits.{Bytes}
use Rattle.code.proofs.LayoutCall.{passed, refusal-some, padded, filled_at}
use Rattle.code.proofs.HexText.{sum-append}
use Rattle.code.proofs.WriteCall.{write-some}
use Rattle.code.proofs.Many as Code
use Rattle.code.proofs.Many.{field_of, reply-single, cells-single, stopped-keeps, stopped-at, made-accepted, made-single, made-most, made-tried}
use Rattle.code.proofs.Many.{barred-keeps, unbarred-leaves, turned-sum, many-never-falls, many-reads-back}
use Rattle.reading.specs.declared.Reading.{Reading}
use Rattle.reading.specs.Answers.{reading_of}
use Rattle.reading.proofs.Demand.{told}
use Rattle.reading.proofs.Unique.{same-reading}
use Rattle.writing.specs.declared.Written.{Written}
use Rattle.writing.proofs.Accepted.{wrote}
use Rattle.writing.specs.Answers.{writing_of}
use Rattle.writing.proofs.Unique.{same-writing}
use Rattle.many.specs.declared.Many.{Many}
use Rattle.many.specs.Answers.{many_of}

-- zeros add nothing
zeros-sum : (n : ℕ) → list_sum (replicate n 0) ≡ 0
unfolding list_sum
zeros-sum zero = refl
zeros-sum (suc n) = omega (arith, zeros-sum n)

filled-sum : (n : ℕ) (xs : List ℕ) → length xs ≤ n → list_sum (filled n xs) ≡ list_sum xs
unfolding filled
filled-sum n xs h = rw (padded n n xs h (le_refl n), sum-append) (omega (arith, zeros-sum (n - length xs)))

-- the three numbers of a refusal are its reply, 0 in those that it lacks
three-filled : (reply : List ℕ) → refusal_in reply ∷ generation_in reply ∷ unerased_in reply ∷ [] ≡ filled 3 reply
unfolding filled
three-filled [] = refl
three-filled (a ∷ []) = refl
three-filled (a ∷ b ∷ []) = refl
three-filled (a ∷ b ∷ c ∷ reply) = refl

-- an accepted write's reply is its generation and its turned count
accepted-parts : (s : Shape) (x : ℕ) (bs : List ℕ) → write_refusal s x bs ≡ [] →
    write_reply s x bs ≡ 0 ∷ generation_in (write_reply s x bs) ∷ turned_in (write_reply s x bs) ∷ []
unfolding write_reply answer
accepted-parts s x bs z = rw z

-- what a call that is not refused before any write, and one that is, tell of the first tests
unbarred-few : (s : Shape) (xs bytes : List ℕ) → many_refusal s xs bytes ≡ [] → length xs ≤ 64
unfolding many_refusal
unbarred-few s xs bytes q = ltb-false 64 (length xs) (passed 14 [] (ltb 64 (length xs)) _ q).0

barred-some : (s : Shape) (xs bytes : List ℕ) (k : ℕ) (carried : List ℕ) → many_refusal s xs bytes ≡ k ∷ carried → 0 < k
unfolding many_refusal
barred-some s xs bytes k carried q = refusal-some _ (omega arith, (omega arith, (omega arith, (omega arith, tt)))) k carried q

module _ (s : Shape) (numbers cells after : List ℕ) (a : Many) (p : many_of a ≡ many_reply s numbers cells) (l : after ≡ many_leaves s numbers cells) where
  -- the single write of a field: its number into its bytes as they were
  abbrev pub single_reply : ℕ → List ℕ
  single_reply j = write_reply s (get_or numbers j 0) (field_of s j cells)

  abbrev pub single_leaves : ℕ → List ℕ
  single_leaves j = write_leaves s (get_or numbers j 0) (field_of s j cells)

  -- what the answer tells: the replies of the fields that were written
  record Tells : Type 0 where
    made : List (List ℕ)
    few : length made ≤ 64
    many : a.written ≡ length made
    generations : take 64 a.rows ≡ filled 64 (map (λ reply. generation_in reply) made)
    turns : drop 64 a.rows ≡ filled 64 (map (λ reply. turned_in reply) made)
    replies : (j : ℕ) → j < length made → get_or made j [] ≡ single_reply j
    accepted : (j : ℕ) → j < length made → write_refusal s (get_or numbers j 0) (field_of s j cells) ≡ []
    leaves : (j : ℕ) → j < length made → field_of s j after ≡ single_leaves j
    kept : drop (length made * field_bytes s) after ≡ drop (length made * field_bytes s) cells
    sum : Bytes cells → list_sum (map (λ reply. turned_in reply) made) + ones (order_of s) cells ≡ ones (order_of s) after
    rises : Bytes cells → (w : ℕ) → wit (order_of s) cells w ≤ wit (order_of s) after w
    reads : Bytes cells → (j : ℕ) → j < length made →
        read_reply s (field_of s j after) ≡ 0 ∷ generation_in (single_reply j) ∷ get_or numbers j 0 ∷ left s.t (field_read s (field_of s j after)) ∷ []

  abbrev tried : List (List ℕ)
  tried = many_replies s numbers cells

  -- not refused before any write
  module _ (q : many_refusal s numbers cells ≡ []) where
    answer-open : many_of a ≡ many_numbers (cond (passes (stop_reply tried)) 0 1) (stop_reply tried) (made_replies tried)
    unfolding many_reply many_told passes
    answer-open = p ∙ rw q

    after_open : after ≡ many_cells s numbers cells
    after_open = l ∙ unbarred-leaves s numbers cells q

    tells-open : Tells
    unfolding many_numbers
    tells-open =
        let o = answer-open in
        let tried_here : (j : ℕ) → j < length (made_replies tried) → j < length tried = λ j h. omega (arith, made-tried s numbers cells) in
        record {
          made = made_replies tried;
          few = omega (arith, made-most s numbers cells, unbarred-few s numbers cells q);
          many = cc;
          generations = cc;
          turns = cc;
          replies = made-single s numbers cells;
          accepted = made-accepted s numbers cells;
          leaves = λ j h. rw after_open (cells-single s numbers cells j (tried_here j h));
          kept = rw after_open (stopped-keeps s numbers cells);
          sum = λ B. rw after_open (turned-sum s numbers cells B);
          rises = λ B w. rw after_open (many-never-falls s numbers cells B w);
          reads = λ B j h. rw after_open (rw (reply-single s numbers cells j (tried_here j h)) at (many-reads-back s numbers cells B j h));
        }

  -- refused so
  module _ (k : ℕ) (carried : List ℕ) (q : many_refusal s numbers cells ≡ k ∷ carried) where
    answer-barred : many_of a ≡ many_numbers 0 (k ∷ carried) []
    unfolding many_reply passes
    answer-barred = p ∙ rw q

    after-barred : after ≡ cells
    after-barred = l ∙ barred-keeps s numbers cells k carried q

    tells-barred : Tells
    unfolding many_numbers list_sum
    tells-barred =
        let o = answer-barred in
        record {
          made = [];
          few = omega arith;
          many = cc;
          generations = cc;
          turns = cc;
          replies = λ j h. absurd (omega arith);
          accepted = λ j h. absurd (omega arith);
          leaves = λ j h. absurd (omega arith);
          kept = rw after-barred;
          sum = λ B. rw after-barred (omega arith);
          rises = λ B w. rw after-barred (le_refl (wit (order_of s) cells w));
          reads = λ B j h. absurd (omega arith);
        }

  tells : Tells
  tells = go (many_refusal s numbers cells) refl
    where
      go : (r : List ℕ) → many_refusal s numbers cells ≡ r → Tells
      go [] q = tells-open q
      go (k ∷ carried) q = tells-barred k carried q

  -- the rows, by the replies
  generation-at : (j : ℕ) → j < 64 → get_or a.rows j 0 ≡ generation_in (get_or tells.made j [])
  generation-at j h =
      sym (get_or-take 64 a.rows j 0 h) ∙ rw tells.generations (filled_at 64 (map (λ reply. generation_in reply) tells.made) j h)
      ∙ get_or-map (λ reply. generation_in reply) tells.made j []

  turned-at : (j : ℕ) → j < 64 → get_or a.rows (64 + j) 0 ≡ turned_in (get_or tells.made j [])
  turned-at j h =
      sym (get_or-drop 64 a.rows j 0) ∙ rw tells.turns (filled_at 64 (map (λ reply. turned_in reply) tells.made) j h)
      ∙ get_or-map (λ reply. turned_in reply) tells.made j []

  -- A field that was written: the reply of the single write of it is what the rows tell, and its bytes are those that the single write leaves.
  pub written-reply : (j : ℕ) → j < a.written →
      (single_reply j ≡ 0 ∷ get_or a.rows j 0 ∷ get_or a.rows (64 + j) 0 ∷ []) × (field_of s j after ≡ single_leaves j)
  written-reply j h =
      let low : j < length tells.made = omega (arith, tells.many) in
      let high : j < 64 = omega (arith, tells.few) in
      let i : get_or a.rows j 0 ≡ generation_in (single_reply j) = generation-at j high ∙ rw (tells.replies j low) in
      let n : get_or a.rows (64 + j) 0 ≡ turned_in (single_reply j) = turned-at j high ∙ rw (tells.replies j low) in
      (accepted-parts s (get_or numbers j 0) (field_of s j cells) (tells.accepted j low) ∙ rw (i, n), tells.leaves j low)

  -- So any answer that the promise of the single write allows is the one in the rows, and it leaves the same bytes.
  pub written-singly : (j : ℕ) → j < a.written → (w : Result Written Refusal) (there : List ℕ) → writing_of w ≡ single_reply j → there ≡ single_leaves j →
      (w ≡ wrote (get_or a.rows j 0) (get_or a.rows (64 + j) 0)) × (field_of s j after ≡ there)
  written-singly j h w there q e =
      let one = written-reply j h in
      (same-writing w (wrote (get_or a.rows j 0) (get_or a.rows (64 + j) 0)) (q ∙ one.0), one.1 ∙ sym e)

  -- Behind those written the rows are 0.
  pub rows_behind : (j : ℕ) → a.written ≤ j → j < 64 → (get_or a.rows j 0 ≡ 0) × (get_or a.rows (64 + j) 0 ≡ 0)
  rows_behind j h high =
      let none : get_or tells.made j [] ≡ [] = get_or-eq_default tells.made [] {n = j} (omega (arith, tells.many)) in
      (generation-at j high ∙ rw none, turned-at j high ∙ rw none)

  -- A field that was written reads back: any answer of a read of its bytes is the generation told in its row and its number.
  pub reads-back : Bytes cells → (j : ℕ) → j < a.written → (b : Result Reading Refusal) → reading_of b ≡ read_reply s (field_of s j after) →
      b ≡ Ok (told (get_or a.rows j 0) (get_or numbers j 0) (left s.t (field_read s (field_of s j after))))
  reads-back B j h b q =
      let low : j < length tells.made = omega (arith, tells.many) in
      let row : generation_in (single_reply j) ≡ get_or a.rows j 0 = sym (generation-at j (omega (arith, tells.few)) ∙ rw (tells.replies j low)) in
      same-reading b (Ok (told (get_or a.rows j 0) (get_or numbers j 0) (left s.t (field_read s (field_of s j after))))) (q ∙ rw row at (tells.reads B j low))

  -- The turned counts in the row add up to the ones after less the ones before, of all the cells.
  pub turned-add-up : Bytes cells → list_sum (drop 64 a.rows) + ones (order_of s) cells ≡ ones (order_of s) after
  turned-add-up B =
      let counts = map (λ reply. turned_in reply) tells.made in
      let e : list_sum (drop 64 a.rows) ≡ list_sum counts =
      rw tells.turns (filled-sum 64 counts (omega (arith, length-map tells.made (λ reply. turned_in reply), tells.few))) in
      rw e (tells.sum B)

  -- No wit goes from 1 to 0, refused or not.
  pub never-falls : Bytes cells → (w : ℕ) → wit (order_of s) cells w ≤ wit (order_of s) after w
  never-falls = tells.rises

  -- The fields behind those written are as they were, the refused one among them.
  pub behind-kept : drop (a.written * field_bytes s) after ≡ drop (a.written * field_bytes s) cells
  behind-kept = rw tells.many tells.kept

  -- the end of the writes, where none was refused and where one was
  module _ (q : many_refusal s numbers cells ≡ []) where
    ended-open : stop_reply tried ≡ [] → (a.stopped ≡ 0) × (a.refusal ≡ 0)
    unfolding many_numbers passes
    ended-open e = let o = rw e at (answer-open q) in (cc, cc)

    stopped-open : (k : ℕ) (carried : List ℕ) → stop_reply tried ≡ k ∷ carried →
        (a.stopped ≡ 1) × (a.field ≡ length (made_replies tried)) × (a.written ≡ length (made_replies tried))
        × (a.refusal ∷ a.reached ∷ a.unerased ∷ [] ≡ filled 3 (stop_reply tried))
    unfolding many_numbers passes
    stopped-open k carried e =
        let refused : passes (stop_reply tried) ≡ false = rw e in
        let o = rw refused at (answer-open q) in
        let z : a.field ≡ 1 * length (made_replies tried) = cc in
        let stop = stop_reply tried in
        let three : a.refusal ∷ a.reached ∷ a.unerased ∷ [] ≡ refusal_in stop ∷ generation_in stop ∷ unerased_in stop ∷ [] = cc in
        (cc, omega arith, cc, three ∙ three-filled (stop_reply tried))

  -- stopped is 0 or 1
  pub stopped-or-not : (a.stopped ≡ 0) ⊎ (a.stopped ≡ 1)
  unfolding many_numbers
  stopped-or-not = go (many_refusal s numbers cells) refl (stop_reply tried) refl
    where
      go : (r : List ℕ) → many_refusal s numbers cells ≡ r → (stop : List ℕ) → stop_reply tried ≡ stop → (a.stopped ≡ 0) ⊎ (a.stopped ≡ 1)
      go (k ∷ carried) q stop e = let o = answer-barred k carried q in inl (cc)
      go [] q [] e = inl (ended-open q e).0
      go [] q (k ∷ carried) e = inr (stopped-open q k carried e).0

  -- a field is refused as a single write of it is, by any answer that its promise allows: the same refusal, with what it carries
  abbrev pub RefusedSingly : ℕ → Type 0
  RefusedSingly j = (w : Result Written Refusal) → writing_of w ≡ single_reply j →
      (k : Refusal) × (w ≡ Err k) × (a.refusal ∷ a.reached ∷ a.unerased ∷ [] ≡ filled 3 (refusal_reply k))

  refused-singly : (j : ℕ) → 0 < a.refusal → a.refusal ∷ a.reached ∷ a.unerased ∷ [] ≡ filled 3 (single_reply j) → RefusedSingly j
  unfolding filled
  refused-singly j some three (Ok made) e =
      let x = three ∙ ap (filled 3) (sym e) in
      let y : a.refusal ≡ 0 = cc in
      absurd (omega arith)
  refused-singly j some three (Err r) e = (r, refl, three ∙ ap (filled 3) (sym e))

  -- Where stopped is 1, the field told is the one behind those written, and it is refused as the single write of it is.
  pub stopped-singly : a.stopped ≡ 1 → (a.field ≡ a.written) × (a.field < length numbers) × (0 < a.refusal)
      × (a.refusal ∷ a.reached ∷ a.unerased ∷ [] ≡ filled 3 (single_reply a.field)) × RefusedSingly a.field
  unfolding many_numbers filled
  stopped-singly one = go (many_refusal s numbers cells) refl (stop_reply tried) refl
    where
      go : (r : List ℕ) → many_refusal s numbers cells ≡ r → (stop : List ℕ) → stop_reply tried ≡ stop →
          (a.field ≡ a.written) × (a.field < length numbers) × (0 < a.refusal)
          × (a.refusal ∷ a.reached ∷ a.unerased ∷ [] ≡ filled 3 (single_reply a.field)) × RefusedSingly a.field
      go (k ∷ carried) q stop e = let o = answer-barred k carried q in let z : a.stopped ≡ 0 = cc in absurd (omega arith)
      go [] q [] e = absurd (omega (arith, (ended-open q e).0))
      go [] q (k ∷ carried) e =
          let o = stopped-open q k carried e in
          let h = stopped-at s numbers cells k carried e in
          let j : ℕ = length (made_replies tried) in
          let three : a.refusal ∷ a.reached ∷ a.unerased ∷ [] ≡ filled 3 (single_reply a.field) = rw o.1 (o.3 ∙ ap (filled 3) h.2) in
          let r : a.refusal ≡ k = ap (λ l. get_or l 0 0) o.3 ∙ rw e in
          let some : 0 < a.refusal = rw r (write-some s (get_or numbers j 0) (field_of s j cells) k carried h.1) in
          (o.1 ∙ sym o.2, omega (arith, h.0, o.1), some, three, refused-singly a.field some three)

  -- Where it is 0, all numbers are written, or the call was refused before any write and left the cells.
  pub written_all : a.stopped ≡ 0 → a.refusal ≡ 0 → a.written ≡ length numbers
  unfolding many_numbers
  written_all none zero-refusal = go (many_refusal s numbers cells) refl (stop_reply tried) refl
    where
      go : (r : List ℕ) → many_refusal s numbers cells ≡ r → (stop : List ℕ) → stop_reply tried ≡ stop → a.written ≡ length numbers
      go (k ∷ carried) q stop e =
          let o = answer-barred k carried q in
          let z : a.refusal ≡ k = cc in
          absurd (omega (arith, barred-some s numbers cells k carried q))
      go [] q [] e = let o = answer-open q in let z : a.written ≡ length (made_replies tried) = cc in z ∙ Code.written_all s numbers cells e
      go [] q (k ∷ carried) e = absurd (omega (arith, (stopped-open q k carried e).0))

  pub barred-leaves : a.stopped ≡ 0 → 0 < a.refusal → (a.written ≡ 0) × (after ≡ cells) × (refusal_in (many_refusal s numbers cells) ≡ a.refusal)
  unfolding many_numbers
  barred-leaves none some = go (many_refusal s numbers cells) refl (stop_reply tried) refl
    where
      go : (r : List ℕ) → many_refusal s numbers cells ≡ r → (stop : List ℕ) → stop_reply tried ≡ stop →
          (a.written ≡ 0) × (after ≡ cells) × (refusal_in (many_refusal s numbers cells) ≡ a.refusal)
      go (k ∷ carried) q stop e =
          let o = answer-barred k carried q in
          let z : a.refusal ≡ k = cc in
          (cc, after-barred k carried q, rw q (sym z))
      go [] q [] e = absurd (omega (arith, (ended-open q e).1))
      go [] q (k ∷ carried) e = absurd (omega (arith, (stopped-open q k carried e).0))
