-- Document 02, §7: "Equal ranges must equal form 1 but for the order of refusals", of the other calls: the write of many numbers, the export of a new record,
-- and the walk of a new dump.
use Prim.Native.Nat.{ℕ, zero, suc, ◌+◌, ◌<◌}
use mathlib.Core.Path.{◌≡◌, refl, sym, ap, subst, ◌∙◌}
use mathlib.Core.Logic.{◌⊎◌, inl, inr}
use mathlib.Core.Bool.{Bool, true, false, cond}
use mathlib.Core.List.Memᴰ
use mathlib.Core.List.{List, [], ◌∷◌, Memᴰ}
use native.Mathlib.Omega.{arith}
use lib.Dec.{eqb}
use lib.ListN.{length, get_or, take, drop, replicate, length-replicate, get_or-replicate}
use borrow.Author.Tests.{ne_eqb}
use Rattle.code.specs.declared.Kind.{Kind}
use Rattle.code.specs.declared.Kind.TheVariants.{New}
use Rattle.code.specs.declared.Shape.{Shape}
use Rattle.code.specs.Lists.{Below}
use Rattle.code.specs.Shape.{single, outside}
use Rattle.code.specs.Calls.{filled, refusal, passes, layout_refusal, refusal_in, read_reply, write_refusal, write_reply}
use Rattle.code.specs.Many.{field_bytes, many_replies, many_cells, many_refusal, made_replies, stop_reply, many_numbers, many_told, many_reply, many_leaves}
use Rattle.code.specs.LayoutList.{Listed, unlisted, listed_shape}
use Rattle.code.specs.Export.{new_export, export_reply, export_leaves}
use Rattle.code.specs.Dump.{Record, listed_layouts, Step, taken, ended, stopped, record_by, entered, opening, step, cells_of, outcome, walk_from, walk}
use Rattle.code.proofs.Tests.{le-or-lt}
use Rattle.code.proofs.LayoutCall.{filled_at, outside-within}
use Rattle.code.proofs.ReadCall.{read-no-layout}
use Rattle.code.proofs.SameCode as Code
use Rattle.code.proofs.SameCode.{SameCode}
use Rattle.code.proofs.EqualRanges.{one, one_code, passes_same, leaves-same, Later, SameOrLater, replies-alike, reply-same, read_same}
use Rattle.code.proofs.Records.{step-entered}
use Rattle.code.proofs.Walk.{step-in-given, walk-taken, walk-ended, walk-stopped}

-- a reply with one of these numbers is a refusal
refused-later : (reply : List ℕ) → Later (refusal_in reply) → (passes reply ≡ false) × (eqb (refusal_in reply) 0 ≡ false)
unfolding passes
refused-later [] (inl e) = absurd (omega arith)
refused-later [] (inr (inl e)) = absurd (omega arith)
refused-later [] (inr (inr e)) = absurd (omega arith)
refused-later (k ∷ carried) (inl e) = (refl, ne_eqb k 0 (λ z. omega arith))
refused-later (k ∷ carried) (inr (inl e)) = (refl, ne_eqb k 0 (λ z. omega arith))
refused-later (k ∷ carried) (inr (inr e)) = (refl, ne_eqb k 0 (λ z. omega arith))

-- replies of form 2 and of form 1, as many and one by one
abbrev pub AllAlike : List (List ℕ) → List (List ℕ) → Type 0
AllAlike [] [] = Unit {0}
AllAlike [] (other ∷ others) = ⊥
AllAlike (reply ∷ replies) [] = ⊥
AllAlike (reply ∷ replies) (other ∷ others) = SameOrLater reply other × AllAlike replies others

alike-behind : (b : Bool) (replies others : List (List ℕ)) → AllAlike replies others → AllAlike (cond b replies []) (cond b others [])
alike-behind true replies others h = h
alike-behind false replies others h = tt

-- the fields written have the same replies, and the one that stopped the call the same or later
alike-made : (replies others : List (List ℕ)) → AllAlike replies others → made_replies replies ≡ made_replies others
unfolding made_replies
alike-made [] [] h = refl
alike-made [] (other ∷ others) h = absurd h
alike-made (reply ∷ replies) [] h = absurd h
alike-made (reply ∷ replies) (other ∷ others) h = elim h.0 [
  | inl e ↦ rw (e, alike-made replies others h.1)
  | inr (six, later) ↦ rw ((refused-later reply later).1, six)
]

alike-stop : (replies others : List (List ℕ)) → AllAlike replies others → SameOrLater (stop_reply replies) (stop_reply others)
unfolding stop_reply
alike-stop [] [] h = inl refl
alike-stop [] (other ∷ others) h = absurd h
alike-stop (reply ∷ replies) [] h = absurd h
alike-stop (reply ∷ replies) (other ∷ others) h = elim h.0 [
  | inl e ↦ rw e (go (eqb (refusal_in other) 0) (alike-stop replies others h.1))
  | inr (six, later) ↦ rw ((refused-later reply later).1, six) (inr (refl, later))
]
  where
    go : (b : Bool) → SameOrLater (stop_reply replies) (stop_reply others) → SameOrLater (cond b (stop_reply replies) other) (cond b (stop_reply others) other)
    go true h = h
    go false h = inl refl

-- a shape of form 2 whose t ranges are all v, and the one of form 1 with that range
module _ (s : Shape) (v : ℕ) (two : s.form ≡ 2) (many : s.count ≡ s.t) (all : (i : ℕ) → i < s.t → get_or s.v i 0 ≡ v) where
  abbrev pub alone : Shape
  alone = one s v two many all

  code : SameCode s alone
  code = one_code s v two many all

  -- the export of a record, which has the number of its layout and not the shape
  pub export-same : (serial layout : ℕ) (cells out : List ℕ) →
      (export_reply (new_export serial layout s) cells out ≡ export_reply (new_export serial layout alone) cells out)
      × (export_leaves (new_export serial layout s) cells out ≡ export_leaves (new_export serial layout alone) cells out)
  export-same serial layout cells out = (Code.export-same s alone code serial layout cells out, Code.export-leaves-same s alone code serial layout cells out)

  -- A write of many numbers: the tests before any write, and the cells that it leaves.
  barred-same : (xs bytes : List ℕ) → many_refusal s xs bytes ≡ many_refusal alone xs bytes
  unfolding many_refusal
  barred-same xs bytes = rw (code.outside-same 256, Code.counts_same s alone code, Code.bytes_same s alone code)

  cells_same : (xs bytes : List ℕ) → many_cells s xs bytes ≡ many_cells alone xs bytes
  unfolding many_cells
  cells_same [] bytes = refl
  cells_same (x ∷ xs) bytes =
      let n = field_bytes alone in
      let left = leaves-same s v two many all x (take n bytes) in
      rw (Code.bytes_same s alone code, left, passes_same s v two many all x (take n bytes), cells_same xs (drop n bytes))

  pub many-leaves-same : (xs bytes : List ℕ) → many_leaves s xs bytes ≡ many_leaves alone xs bytes
  unfolding many_leaves
  many-leaves-same xs bytes = rw (barred-same xs bytes, cells_same xs bytes)

  -- where every number is below the range, the whole answer is the same
  replies-same : (xs bytes : List ℕ) → Below v xs → many_replies s xs bytes ≡ many_replies alone xs bytes
  unfolding many_replies
  replies-same [] bytes b = refl
  replies-same (x ∷ xs) bytes b =
      let n = field_bytes alone in
      let reply = reply-same s v two many all x (take n bytes) b.0 in
      rw (Code.bytes_same s alone code, reply, passes_same s v two many all x (take n bytes), replies-same xs (drop n bytes) b.1)

  pub many-same : (xs bytes : List ℕ) → Below v xs → many_reply s xs bytes ≡ many_reply alone xs bytes
  unfolding many_reply
  many-same xs bytes b = rw (barred-same xs bytes, replies-same xs bytes b)

  -- of any numbers: the replies of the fields are as many, and each is the same or later
  replies-next : (x : ℕ) (xs bytes : List ℕ) → many_replies s (x ∷ xs) bytes ≡
      write_reply s x (take (field_bytes alone) bytes) ∷
      cond (passes (write_refusal alone x (take (field_bytes alone) bytes))) (many_replies s xs (drop (field_bytes alone) bytes)) []
  unfolding many_replies
  replies-next x xs bytes = rw (Code.bytes_same s alone code, passes_same s v two many all x (take (field_bytes alone) bytes))

  pub many-replies-alike : (xs bytes : List ℕ) → AllAlike (many_replies s xs bytes) (many_replies alone xs bytes)
  unfolding many_replies
  many-replies-alike [] bytes = tt
  many-replies-alike (x ∷ xs) bytes =
      let field : List ℕ = take (field_bytes alone) bytes in
      let rest : List ℕ = drop (field_bytes alone) bytes in
      subst (λ replies. AllAlike replies (many_replies alone (x ∷ xs) bytes)) (sym (replies-next x xs bytes)) (
        replies-alike s v two many all x field,
        alike-behind (passes (write_refusal alone x field)) (many_replies s xs rest) (many_replies alone xs rest) (many-replies-alike xs rest),
      )

  -- so the answer is the same, or both stop at the same field with the same rows, form 1 with 6 and form 2 with 15, 16 or 5
  abbrev pub ManyAlike : List ℕ → List ℕ → Type 0
  ManyAlike xs bytes =
      let made = made_replies (many_replies alone xs bytes) in
      let stop = stop_reply (many_replies s xs bytes) in
      (many_reply s xs bytes ≡ many_reply alone xs bytes)
      ⊎ ((many_reply alone xs bytes ≡ many_numbers 1 (6 ∷ []) made) × (many_reply s xs bytes ≡ many_numbers 1 stop made) × Later (refusal_in stop))

  pub many-alike : (xs bytes : List ℕ) → ManyAlike xs bytes
  unfolding many_reply many_told passes
  many-alike xs bytes = go (many_refusal alone xs bytes) refl (alike-stop tried others (many-replies-alike xs bytes))
    where
      tried : List (List ℕ)
      tried = many_replies s xs bytes

      others : List (List ℕ)
      others = many_replies alone xs bytes

      made : made_replies tried ≡ made_replies others
      made = alike-made tried others (many-replies-alike xs bytes)

      go : (r : List ℕ) → many_refusal alone xs bytes ≡ r → SameOrLater (stop_reply tried) (stop_reply others) → ManyAlike xs bytes
      go [] q (inl e) = inl (rw (barred-same xs bytes, q, made, e))
      go [] q (inr (six, later)) = inr (rw (q, six), rw (barred-same xs bytes, q, made, (refused-later (stop_reply tried) later).0), later)
      go (k ∷ carried) q e = inl (rw (barred-same xs bytes, q))

-- Of a listed layout with form 2 and t equal ranges the cells are read as by form 1 with that range.
outside-wide : (s : Shape) (g : ℕ) → 16 < s.t → outside s g ≡ true
outside-wide s g h = go (outside s g) refl
  where
    go : (b : Bool) → outside s g ≡ b → b ≡ true
    go true e = refl
    go false e = absurd (omega (arith, (outside-within s g e).bounds.t-high))

read_wide : (s : Shape) (bs : List ℕ) → 16 < s.t → read_reply s bs ≡ 1 ∷ []
unfolding layout_refusal refusal
read_wide s bs h = read-no-layout s bs 1 (rw (outside-wide s 256 h))

pub listed_same : (l : Listed) (v : ℕ) → l.form ≡ 2 → l.ranges ≡ replicate l.t v → (bs : List ℕ) →
    read_reply (listed_shape l) bs ≡ read_reply (single 1 l.m l.t v) bs
unfolding listed_shape
listed_same l v two equal bs = elim (le-or-lt l.t 16) [
  | inr h ↦ read_wide (listed_shape l) bs h ∙ sym (read_wide (single 1 l.m l.t v) bs h)
  | inl h ↦
      let many : length l.ranges ≡ l.t = rw equal (length-replicate l.t v) in
      let range : (i : ℕ) → i < l.t → get_or (filled 16 l.ranges) i 0 ≡ v =
      λ i k. filled_at 16 l.ranges i (omega arith) ∙ rw equal (get_or-replicate l.t i v 0 k) in
      read_same (listed_shape l) v two many range bs
]

-- a record of the walk is given by a step
walked_step : (kind : Kind) (bytes : List ℕ) (fuel at : ℕ) (r : Record) → Memᴰ (taken r) (walk_from fuel kind bytes at) →
    (place : ℕ) × (step kind bytes place ≡ taken r)
unfolding walk_from
walked_step kind bytes zero at r m = absurd (Memᴰ.not-nil m)
walked_step kind bytes (suc fuel) at r m = go (step kind bytes at) refl (λ next. walked_step kind bytes fuel next r)
  where
    go : (x : Step) → step kind bytes at ≡ x →
        ((next : ℕ) → Memᴰ (taken r) (walk_from fuel kind bytes next) → (place : ℕ) × (step kind bytes place ≡ taken r)) →
        (place : ℕ) × (step kind bytes place ≡ taken r)
    go (taken r') q ih = elim (Memᴰ.cases_cons (rw (walk-taken kind bytes fuel at r' q) at m)) [
      | inl e ↦ (at, q ∙ sym e)
      | inr m' ↦ ih (r'.start + r'.count) m'
    ]
    go ended q ih = elim (Memᴰ.cases_cons (rw (walk-ended kind bytes fuel at q) at m)) [ inl e ↦ (at, q ∙ sym e) | inr m' ↦ absurd (Memᴰ.not-nil m') ]
    go (stopped k carried) q ih =
        elim (Memᴰ.cases_cons (rw (walk-stopped kind bytes fuel at k carried q) at m)) [ inl e ↦ (at, q ∙ sym e) | inr m' ↦ absurd (Memᴰ.not-nil m') ]

-- A new dump that lists such a layout: its walk, and any step, reads the cells of the layout's records as by form 1.
module _ (dump : List ℕ) (ls : List Listed) (start : ℕ) (o : opening New dump ≡ entered (listed_layouts ls) start) (r : Record) where
  -- the layout of a record
  abbrev pub said : Listed
  said = get_or ls r.layout unlisted

  step-shape : (at : ℕ) → step New dump at ≡ taken r → r.shape ≡ listed_shape said
  unfolding record_by
  step-shape at e =
      let g = step-in-given (listed_layouts ls) dump at r (sym (step-entered New dump at (listed_layouts ls) start o) ∙ e) in
      let number : get_or g.numbers-are 1 0 ≡ r.layout = ap (λ (x : Record). x.layout) g.same in
      sym (ap (λ (x : Record). x.shape) g.same) ∙ ap (λ i. listed_shape (get_or ls i unlisted)) number

  module _ (v : ℕ) (two : said.form ≡ 2) (equal : said.ranges ≡ replicate said.t v) where
    pub step_same : (at : ℕ) → step New dump at ≡ taken r → outcome dump r ≡ read_reply (single 1 said.m said.t v) (cells_of dump r)
    unfolding outcome
    step_same at e = ap (λ s. read_reply s (cells_of dump r)) (step-shape at e) ∙ listed_same said v two equal (cells_of dump r)

    pub walk_same : Memᴰ (taken r) (walk New dump) → outcome dump r ≡ read_reply (single 1 said.m said.t v) (cells_of dump r)
    unfolding walk
    walk_same m = let w = walked_step New dump _ _ r m in step_same w.0 w.1
