-- Document 02, §5: a write of many numbers is single writes done one after another, up to the first that is refused.
use Prim.Native.Nat.{ℕ, zero, suc, ◌+◌, ◌*◌, ◌≤◌, ◌<◌}
use mathlib.Core.Path.{◌≡◌, refl, sym, ap, ◌∙◌}
use mathlib.Core.Logic.{◌⊎◌, inl, inr}
use mathlib.Core.Bool.{true}
use mathlib.Core.List.{List, [], ◌∷◌, ◌++◌, map}
use native.Mathlib.Omega.{arith}
use native.Mathlib.Nat.{le_refl, zero-mul}
use lib.Dec.{eqb}
use lib.ListN.{length, get_or, take, drop, length-append, take-append-drop}
use lib.Seq.{take_at, drop_at, drop-drop}
use borrow.Author.Tests.{not-false, ne_eqb}
use Rattle.code.specs.declared.Shape.{Shape}
use Rattle.code.specs.Shape.{first_of, ranges_of, order_of, outside, granted, misfit, counts_of, width_of, code_of}
use Rattle.code.specs.Cells.{wit, sound, ones}
use Rattle.code.specs.Lists.{list_sum}
use Rattle.code.specs.Calls.{refusal, answer, passes, leaves, layout_refusal, unsound, field_read, left, read_reply, refusal_in, turned_in}
use Rattle.code.specs.Calls.{write_refusal, write_reply, turned_by, write_leaves}
use Rattle.code.specs.Many.{field_bytes, many_replies, many_cells, many_refusal, made_replies, stop_reply, many_leaves}
use Rattle.code.proofs.Tests.{clash}
use Rattle.code.proofs.Wits.{Bytes, wit-rises}
use Rattle.code.proofs.Cells.{sound-length, ones-append}
use Rattle.code.proofs.Bytes.{tried-long, tried-is}
use Rattle.code.proofs.LayoutCall.{passed, bounded, is-layout}
use Rattle.code.proofs.WriteCall.{write-some, leaves-is}
use Rattle.code.proofs.ByteLists.{bytes_take, bytes_drop, bytes-append}
use Rattle.code.proofs.Demand.{reads-back, never-falls, turned-are, refused-write-keeps}

-- field j of those that lie end to end
abbrev pub field_of : Shape → ℕ → List ℕ → List ℕ
field_of s j bytes = take (field_bytes s) (drop (j * field_bytes s) bytes)

module _ (s : Shape) (x : ℕ) (bs : List ℕ) where
  refused-reply : (k : ℕ) (carried : List ℕ) → write_refusal s x bs ≡ k ∷ carried → write_reply s x bs ≡ k ∷ carried
  unfolding write_reply answer
  refused-reply k carried q = rw q

  -- what an accepted write tells: its layout is granted, its field is as long as the layout says, and it leaves as many bytes
  module _ (z : write_refusal s x bs ≡ []) where
    accepted-reply : eqb (refusal_in (write_reply s x bs)) 0 ≡ true
    unfolding write_reply answer
    accepted-reply = rw z

    accepted-turned : turned_by (write_reply s x bs) ≡ turned_in (write_reply s x bs)
    unfolding turned_by
    accepted-turned = rw accepted-reply

    accepted-tests : (layout_refusal s 256 ≡ []) × (sound (order_of s) s.m (width_of s) bs ≡ true)
    unfolding write_refusal layout_refusal counts_of unsound
    accepted-tests =
        let a = passed 1 [] (outside s 256) _ z in
        let b = passed 2 [] (misfit 256 (granted s 256)) _ a.1 in
        let c = passed 3 [] (unsound s bs) _ b.1 in
        (unfold refusal in rw (a.0, b.0), not-false _ c.0)

    accepted-size : length bs ≡ field_bytes s
    unfolding field_bytes
    accepted-size = sound-length (order_of s) s.m (width_of s) bs accepted-tests.1

    leaves-are : (length (write_leaves s x bs) ≡ length bs) × (Bytes bs → Bytes (write_leaves s x bs))
    leaves-are =
        let ok = accepted-tests.0 in
        let some : 0 < s.m = omega (arith, (bounded s ok).m-low) in
        let long = tried-long (code_of s) (is-layout s ok) some x bs in
        rw (leaves-is s ok x bs) (long, λ B. (tried-is (code_of s) (is-layout s ok) some x bs B).0)

-- a write leaves as many bytes as it was lent
pub leaves-length : (s : Shape) (x : ℕ) (bs : List ℕ) → length (write_leaves s x bs) ≡ length bs
leaves-length s x bs = go (write_refusal s x bs) refl
  where
    go : (r : List ℕ) → write_refusal s x bs ≡ r → length (write_leaves s x bs) ≡ length bs
    go [] q = (leaves-are s x bs q).0
    go (k ∷ carried) q = ap length (refused-write-keeps s x bs k carried q)

module _ (s : Shape) where
  abbrev front : List ℕ → List ℕ
  front bytes = take (field_bytes s) bytes

  abbrev rest : List ℕ → List ℕ
  rest bytes = drop (field_bytes s) bytes

  -- the first field, and what lies behind field j
  field-first : (bytes : List ℕ) → field_of s 0 bytes ≡ front bytes
  field-first bytes = rw zero-mul

  behind-next : (j : ℕ) (bytes : List ℕ) → drop (suc j * field_bytes s) bytes ≡ drop (j * field_bytes s) (rest bytes)
  behind-next j bytes =
      let e : suc j * field_bytes s ≡ field_bytes s + j * field_bytes s = omega arith in
      rw (e, drop-drop (j * field_bytes s) (field_bytes s) bytes)

  -- The first of the writes is refused and the cells stay as they are, or it is made and the others go on behind its field.
  record Stops (x : ℕ) (xs bytes : List ℕ) : Type 0 where
    number : ℕ
    carried : List ℕ
    refused : write_refusal s x (front bytes) ≡ number ∷ carried
    replies : many_replies s (x ∷ xs) bytes ≡ write_reply s x (front bytes) ∷ []
    made : made_replies (many_replies s (x ∷ xs) bytes) ≡ []
    stop : stop_reply (many_replies s (x ∷ xs) bytes) ≡ number ∷ carried
    cells : many_cells s (x ∷ xs) bytes ≡ bytes

  record Goes (x : ℕ) (xs bytes : List ℕ) : Type 0 where
    accepted : write_refusal s x (front bytes) ≡ []
    replies : many_replies s (x ∷ xs) bytes ≡ write_reply s x (front bytes) ∷ many_replies s xs (rest bytes)
    made : made_replies (many_replies s (x ∷ xs) bytes) ≡ write_reply s x (front bytes) ∷ made_replies (many_replies s xs (rest bytes))
    stop : stop_reply (many_replies s (x ∷ xs) bytes) ≡ stop_reply (many_replies s xs (rest bytes))
    cells : many_cells s (x ∷ xs) bytes ≡ write_leaves s x (front bytes) ++ many_cells s xs (rest bytes)

  stops-or-goes : (x : ℕ) (xs bytes : List ℕ) → Stops x xs bytes ⊎ Goes x xs bytes
  unfolding many_replies many_cells made_replies stop_reply passes
  stops-or-goes x xs bytes = go (write_refusal s x (front bytes)) refl
    where
      go : (r : List ℕ) → write_refusal s x (front bytes) ≡ r → Stops x xs bytes ⊎ Goes x xs bytes
      go [] q = let e = accepted-reply s x (front bytes) q in inr record { accepted = q; replies = rw q; made = rw (e, q); stop = rw (e, q); cells = rw q }
      go (k ∷ carried) q =
          let r = refused-reply s x (front bytes) k carried q in
          let e = ne_eqb k 0 (λ z. omega (arith, write-some s x (front bytes) k carried q)) in
          let c : many_cells s (x ∷ xs) bytes ≡ bytes = rw (q, refused-write-keeps s x (front bytes) k carried q) (take-append-drop (field_bytes s) bytes) in
          inl record { number = k; carried = carried; refused = q; replies = rw q; made = rw (r, e); stop = rw (r, e); cells = c }

  -- what lies behind the first field, where it is written
  leaves-long : (x : ℕ) (xs bytes : List ℕ) → Goes x xs bytes → length (write_leaves s x (front bytes)) ≡ field_bytes s
  leaves-long x xs bytes w = (leaves-are s x (front bytes) w.accepted).0 ∙ accepted-size s x (front bytes) w.accepted

  behind-made : (x : ℕ) (xs bytes : List ℕ) → Goes x xs bytes → (j : ℕ) →
      drop (suc j * field_bytes s) (many_cells s (x ∷ xs) bytes) ≡ drop (j * field_bytes s) (many_cells s xs (rest bytes))
  behind-made x xs bytes w j =
      rw (w.cells, behind-next j (write_leaves s x (front bytes) ++ many_cells s xs (rest bytes)))
      (rw (drop_at (write_leaves s x (front bytes)) (many_cells s xs (rest bytes)) (field_bytes s) (leaves-long x xs bytes w)))

  -- "The result equals single writes done one after another": the reply of each field that is tried is that of a single write.
  pub reply-single : (xs bytes : List ℕ) (j : ℕ) → j < length (many_replies s xs bytes) →
      get_or (many_replies s xs bytes) j [] ≡ write_reply s (get_or xs j 0) (field_of s j bytes)
  unfolding many_replies
  reply-single [] bytes j l = absurd (omega arith)
  reply-single (x ∷ xs) bytes zero l = rw (field-first bytes)
  reply-single (x ∷ xs) bytes (suc j) l = elim (stops-or-goes x xs bytes) [
    | inl w ↦ absurd (omega (arith, ap length w.replies))
    | inr w ↦ rw (w.replies, behind-next j bytes) (reply-single xs (rest bytes) j (omega (arith, ap length w.replies)))
  ]

  -- "The result equals single writes done one after another": so are the cells of each field that is tried.
  pub cells-single : (xs bytes : List ℕ) (j : ℕ) → j < length (many_replies s xs bytes) →
      field_of s j (many_cells s xs bytes) ≡ write_leaves s (get_or xs j 0) (field_of s j bytes)
  unfolding many_replies
  cells-single [] bytes j l = absurd (omega arith)
  cells-single (x ∷ xs) bytes zero l = elim (stops-or-goes x xs bytes) [
    | inl w ↦ rw (w.cells, field-first bytes) (sym (refused-write-keeps s x (front bytes) w.number w.carried w.refused))
    | inr w ↦
        rw (w.cells, field-first (write_leaves s x (front bytes) ++ many_cells s xs (rest bytes)), field-first bytes)
        (take_at (write_leaves s x (front bytes)) (many_cells s xs (rest bytes)) (field_bytes s) (leaves-long x xs bytes w))
  ]
  cells-single (x ∷ xs) bytes (suc j) l = elim (stops-or-goes x xs bytes) [
    | inl w ↦ absurd (omega (arith, ap length w.replies))
    | inr w ↦ rw (behind-made x xs bytes w j, behind-next j bytes) (cells-single xs (rest bytes) j (omega (arith, ap length w.replies)))
  ]

  -- Demand 1's "turns no cell" holds from then on for the refused field and all after it; where none is refused, behind the last.
  pub stopped-keeps : (xs bytes : List ℕ) →
      let written = length (made_replies (many_replies s xs bytes)) * field_bytes s in
      drop written (many_cells s xs bytes) ≡ drop written bytes
  unfolding many_cells
  stopped-keeps [] bytes = refl
  stopped-keeps (x ∷ xs) bytes = elim (stops-or-goes x xs bytes) [
    | inl w ↦ rw w.cells
    | inr w ↦
        let made = length (made_replies (many_replies s xs (rest bytes))) in
        rw (w.made, behind-made x xs bytes w made, behind-next made bytes) (stopped-keeps xs (rest bytes))
  ]

  -- Where no field is refused, all are written.
  pub written_all : (xs bytes : List ℕ) → stop_reply (many_replies s xs bytes) ≡ [] → length (made_replies (many_replies s xs bytes)) ≡ length xs
  unfolding many_replies made_replies
  written_all [] bytes e = refl
  written_all (x ∷ xs) bytes e = elim (stops-or-goes x xs bytes) [
    | inl w ↦ clash (cc w.stop)
    | inr w ↦ rw w.made (ap suc (written_all xs (rest bytes) (sym w.stop ∙ e)))
  ]

  -- Otherwise the field behind those written is refused as a single write refuses it.
  pub stopped-at : (xs bytes : List ℕ) (k : ℕ) (carried : List ℕ) → stop_reply (many_replies s xs bytes) ≡ k ∷ carried →
      let j = length (made_replies (many_replies s xs bytes)) in
      (j < length xs) × (write_refusal s (get_or xs j 0) (field_of s j bytes) ≡ k ∷ carried)
      × (stop_reply (many_replies s xs bytes) ≡ write_reply s (get_or xs j 0) (field_of s j bytes))
  unfolding many_replies stop_reply
  stopped-at [] bytes k carried e = clash (cc)
  stopped-at (x ∷ xs) bytes k carried e = elim (stops-or-goes x xs bytes) [
    | inl w ↦
        rw (w.made, field-first bytes) (omega arith, w.refused ∙ sym w.stop ∙ e, w.stop ∙ sym (refused-reply s x (front bytes) _ _ w.refused))
    | inr w ↦
        let ih = stopped-at xs (rest bytes) k carried (sym w.stop ∙ e) in
        rw (w.made, behind-next (length (made_replies (many_replies s xs (rest bytes)))) bytes) (omega (arith, ih.0), ih.1, w.stop ∙ ih.2)
  ]

  -- Every field that is written is accepted as a single write.
  pub made-accepted : (xs bytes : List ℕ) (j : ℕ) → j < length (made_replies (many_replies s xs bytes)) →
      write_refusal s (get_or xs j 0) (field_of s j bytes) ≡ []
  unfolding many_replies made_replies
  made-accepted [] bytes j l = absurd (omega arith)
  made-accepted (x ∷ xs) bytes zero l = elim (stops-or-goes x xs bytes) [
    | inl w ↦ absurd (omega (arith, ap length w.made))
    | inr w ↦ rw (field-first bytes) w.accepted
  ]
  made-accepted (x ∷ xs) bytes (suc j) l = elim (stops-or-goes x xs bytes) [
    | inl w ↦ absurd (omega (arith, ap length w.made))
    | inr w ↦ rw (behind-next j bytes) (made-accepted xs (rest bytes) j (omega (arith, ap length w.made)))
  ]

  -- Its reply is that of the single write.
  pub made-single : (xs bytes : List ℕ) (j : ℕ) → j < length (made_replies (many_replies s xs bytes)) →
      get_or (made_replies (many_replies s xs bytes)) j [] ≡ write_reply s (get_or xs j 0) (field_of s j bytes)
  unfolding many_replies made_replies
  made-single [] bytes j l = absurd (omega arith)
  made-single (x ∷ xs) bytes j l = elim (stops-or-goes x xs bytes) [
    | inl w ↦ absurd (omega (arith, ap length w.made))
    | inr w ↦ go w j l (made-single xs (rest bytes))
  ]
    where
      go : Goes x xs bytes → (j : ℕ) → j < length (made_replies (many_replies s (x ∷ xs) bytes)) →
          ((j : ℕ) → j < length (made_replies (many_replies s xs (rest bytes))) →
          get_or (made_replies (many_replies s xs (rest bytes))) j [] ≡ write_reply s (get_or xs j 0) (field_of s j (rest bytes))) →
          get_or (made_replies (many_replies s (x ∷ xs) bytes)) j [] ≡ write_reply s (get_or (x ∷ xs) j 0) (field_of s j bytes)
      go w zero l ih = rw (w.made, field-first bytes)
      go w (suc j) l ih = rw (w.made, behind-next j bytes) (ih j (omega (arith, ap length w.made)))

  -- No more fields are written than there are numbers.
  pub made-most : (xs bytes : List ℕ) → length (made_replies (many_replies s xs bytes)) ≤ length xs
  unfolding many_replies made_replies
  made-most [] bytes = omega arith
  made-most (x ∷ xs) bytes = elim (stops-or-goes x xs bytes) [
    | inl w ↦ omega (arith, ap length w.made)
    | inr w ↦ omega (arith, ap length w.made, made-most xs (rest bytes))
  ]

  -- what is written has been tried
  pub made-tried : (xs bytes : List ℕ) → length (made_replies (many_replies s xs bytes)) ≤ length (many_replies s xs bytes)
  unfolding many_replies made_replies
  made-tried [] bytes = omega arith
  made-tried (x ∷ xs) bytes = elim (stops-or-goes x xs bytes) [
    | inl w ↦ omega (arith, ap length w.made)
    | inr w ↦ omega (arith, ap length w.made, ap length w.replies, made-tried xs (rest bytes))
  ]

  -- The cells stay as many.
  pub cells-length : (xs bytes : List ℕ) → length (many_cells s xs bytes) ≡ length bytes
  unfolding many_cells
  cells-length [] bytes = refl
  cells-length (x ∷ xs) bytes = elim (stops-or-goes x xs bytes) [
    | inl w ↦ ap length w.cells
    | inr w ↦
        let parts = length-append (write_leaves s x (front bytes)) (many_cells s xs (rest bytes)) in
        let same = (leaves-are s x (front bytes) w.accepted).0 in
        let whole = ap length (take-append-drop (field_bytes s) bytes) in
        rw w.cells (omega (arith, parts, same, cells-length xs (rest bytes), length-append (front bytes) (rest bytes), whole))
  ]

  -- The cells stay bytes.
  pub cells-bytes : (xs bytes : List ℕ) → Bytes bytes → Bytes (many_cells s xs bytes)
  unfolding many_cells
  cells-bytes [] bytes B = B
  cells-bytes (x ∷ xs) bytes B = elim (stops-or-goes x xs bytes) [
    | inl w ↦ rw w.cells B
    | inr w ↦
        let after = (leaves-are s x (front bytes) w.accepted).1 (bytes_take (field_bytes s) bytes B) in
        let others = cells-bytes xs (rest bytes) (bytes_drop bytes (field_bytes s) B) in
        rw w.cells (bytes-append (write_leaves s x (front bytes)) (many_cells s xs (rest bytes)) after others)
  ]

  -- "With no numbers and no refusal it changes nothing."
  pub none-changes : (bytes : List ℕ) → many_leaves s [] bytes ≡ bytes
  unfolding many_leaves many_cells leaves
  none-changes bytes = go (many_refusal s [] bytes)
    where
      go : (r : List ℕ) → leaves r bytes bytes ≡ bytes
      go [] = refl
      go (k ∷ carried) = refl

  -- Refused before any write, the call leaves the cells as they were.
  pub barred-keeps : (xs bytes : List ℕ) (k : ℕ) (carried : List ℕ) → many_refusal s xs bytes ≡ k ∷ carried → many_leaves s xs bytes ≡ bytes
  unfolding many_leaves leaves
  barred-keeps xs bytes k carried q = rw q

  -- Not refused so, it leaves those of the single writes.
  pub unbarred-leaves : (xs bytes : List ℕ) → many_refusal s xs bytes ≡ [] → many_leaves s xs bytes ≡ many_cells s xs bytes
  unfolding many_leaves leaves
  unbarred-leaves xs bytes q = rw q

  -- ".. also in the turned counts": those answered add up to the ones that the cells gain.
  pub turned-sum : (xs bytes : List ℕ) → Bytes bytes →
      list_sum (map (λ reply. turned_in reply) (made_replies (many_replies s xs bytes))) + ones (order_of s) bytes ≡ ones (order_of s) (many_cells s xs bytes)
  unfolding many_replies many_cells made_replies list_sum
  turned-sum [] bytes B = omega arith
  turned-sum (x ∷ xs) bytes B = elim (stops-or-goes x xs bytes) [
    | inl w ↦ rw (w.made, w.cells) (omega arith)
    | inr w ↦
        let one = turned-are s (accepted-tests s x (front bytes) w.accepted).0 x (front bytes) (bytes_take (field_bytes s) bytes B) in
        let others = turned-sum xs (rest bytes) (bytes_drop bytes (field_bytes s) B) in
        let before = ap (ones (order_of s)) (take-append-drop (field_bytes s) bytes) in
        rw (w.made, w.cells, ones-append (order_of s) (write_leaves s x (front bytes)) (many_cells s xs (rest bytes)))
        (omega (arith, one, others, before, ones-append (order_of s) (front bytes) (rest bytes), accepted-turned s x (front bytes) w.accepted))
  ]

  -- The same of the call, where it is not refused before any write.
  pub turned_left : (xs bytes : List ℕ) → Bytes bytes → many_refusal s xs bytes ≡ [] →
      list_sum (map (λ reply. turned_in reply) (made_replies (many_replies s xs bytes))) + ones (order_of s) bytes ≡ ones (order_of s) (many_leaves s xs bytes)
  turned_left xs bytes B q = rw (unbarred-leaves xs bytes q) (turned-sum xs bytes B)

  -- No cell goes from 1 to 0, whether a field is refused or not.
  pub many-never-falls : (xs bytes : List ℕ) → Bytes bytes → (w : ℕ) → wit (order_of s) bytes w ≤ wit (order_of s) (many_cells s xs bytes) w
  unfolding many_cells
  many-never-falls [] bytes B w = le_refl (wit (order_of s) bytes w)
  many-never-falls (x ∷ xs) bytes B w = elim (stops-or-goes x xs bytes) [
    | inl v ↦ rw v.cells (le_refl (wit (order_of s) bytes w))
    | inr v ↦
        let z = v.accepted in
        let same = sym (leaves-are s x (front bytes) z).0 in
        let one : (k : ℕ) → wit (order_of s) (front bytes) k ≤ wit (order_of s) (write_leaves s x (front bytes)) k =
        λ k. never-falls s (accepted-tests s x (front bytes) z).0 x (front bytes) k (bytes_take (field_bytes s) bytes B) in
        let others = many-never-falls xs (rest bytes) (bytes_drop bytes (field_bytes s) B) in
        let all = wit-rises (order_of s) (front bytes) (rest bytes) (write_leaves s x (front bytes)) (many_cells s xs (rest bytes)) same one others w in
        rw v.cells (rw (take-append-drop (field_bytes s) bytes) at all)
  ]

  -- Every field that is written reads as the generation answered for it and its number.
  pub many-reads-back : (xs bytes : List ℕ) → Bytes bytes → (j : ℕ) → j < length (made_replies (many_replies s xs bytes)) →
      let i = get_or (get_or (many_replies s xs bytes) j []) 1 0 in
      let after = field_of s j (many_cells s xs bytes) in
      read_reply s after ≡ 0 ∷ i ∷ get_or xs j 0 ∷ left s.t (field_read s after) ∷ []
  many-reads-back xs bytes B j l =
      let field = field_of s j bytes in
      let z = made-accepted xs bytes j l in
      let tried : j < length (many_replies s xs bytes) = omega (arith, made-tried xs bytes) in
      let b : Bytes field = bytes_take (field_bytes s) (drop (j * field_bytes s) bytes) (bytes_drop bytes (j * field_bytes s) B) in
      rw (reply-single xs bytes j tried, cells-single xs bytes j tried) (reads-back s (accepted-tests s (get_or xs j 0) field z).0 (get_or xs j 0) field b z)
