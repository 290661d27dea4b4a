-- What moving to old makes of the records of a new dump.
use Prim.Native.Nat.{ℕ, suc, ◌+◌, ◌^◌, ◌≤◌, ◌<◌}
use mathlib.Core.Path.{◌≡◌, refl, ap, subst, ◌∙◌}
use mathlib.Core.Bool.{true, false}
use mathlib.Core.List.{List, [], ◌∷◌}
use native.Mathlib.Omega.{arith}
use native.Mathlib.Numerals.{add-one}
use lib.ListN.{length, get_or, drop, drop_of_length-le}
use lib.Seq.{drop-cons}
use borrow.Author.Tests.{eq-eqb, ne_eqb}
use Rattle.code.specs.declared.Kind.TheVariants.{New}
use Rattle.code.specs.declared.Shape.{Shape}
use Rattle.code.specs.Shape.{shaped}
use Rattle.code.specs.LayoutList.{Listed, unlisted, listed_shape, layout_list}
use Rattle.code.specs.Dump.{Record, Source, listed_many, own_layouts, cells_of, walk}
use Rattle.code.specs.Export.{record_of}
use Rattle.code.specs.NewDump.{entry_head, stop_of, listed_in, foreign, to_old, to_old_refusal, to_old_reply, to_old_leaves}
use Rattle.code.proofs.FirstUse.{records-numbered}
use Rattle.records.specs.declared.Said.{Said}
use Rattle.records.specs.declared.Head.{Head}
use Rattle.records.specs.Source.{layout_at, layouts_at, source_of}
use Rattle.records.specs.Head.{said_shape, head_record}
use Rattle.storing.specs.Put.{Put, fitting}
use Rattle.dump.specs.Kept.{none_said}
use Rattle.dump.proofs.Keeping.{none_said_lem}
use Rattle.moves.specs.Kept.{said_head, SaysOld}
use Rattle.moves.specs.Passes.{Begins, entries_in, said_by, old_head}
use Rattle.moves.proofs.Heads.{list-opened}
use Rattle.moves.proofs.Storing.{moved_at}
use Rattle.code.specs.declared.Refusal.TheVariants.{Form}
use Rattle.std.proofs.Common.{Result, Err}
use Rattle.code.specs.Refusals.{refusal_reply}
use Rattle.code.specs.declared.Refusal.{Refusal}
use Rattle.dump.specs.Answers.{halt_of, refusal_of}
use Rattle.dump.specs.declared.Halt.{Halt}
use Rattle.moves.specs.Passes.{refused_by, length_refusal}
use Rattle.moves.proofs.Moving.{Moves, move-halted, move-own, move-refused, move-room, move-stored}

pub old-said : (bytes : List ℕ) → said_by own_layouts [] (entries_in New bytes) ≡ to_old bytes
unfolding to_old
old-said bytes = records-numbered (entries_in New bytes) []

pub old-at : (ls : List Listed) (bytes : List ℕ) (r : Record) → record_of (old_head r) (cells_of bytes r) ≡ moved_at own_layouts ls bytes r
unfolding entry_head
old-at ls bytes r = refl

-- a number that no list has
pub none-says : (source : Source) → listed_many source < 2 ^ 64 → SaysOld source none_said
none-says source h =
    let none : shaped 0 0 0 ≡ said_shape source none_said = none_said_lem source h in
    record { same-m = ap (λ (s : Shape). s.m) none; same-t = ap (λ (s : Shape). s.t) none; same-v = ap (λ (s : Shape). get_or s.v 0 0) none }

-- what stands in the list under a number
module _ (bytes places : List ℕ) where
  -- a new dump's layout goes by its number alone
  by_number : (a b : Said) → a.layout ≡ b.layout → said_shape (source_of New bytes places) a ≡ said_shape (source_of New bytes places) b
  unfolding source_of said_shape
  by_number a b e = ap (λ n. listed_shape (get_or (layouts_at bytes places) n unlisted)) e

  pub says-old : {s : Shape} (said : Said) → s ≡ said_shape (source_of New bytes places) said →
      SaysOld (source_of New bytes places) (record { layout = said.layout; m = s.m; t = s.t; v = get_or s.v 0 0 })
  says-old {s} said e =
      let k : Said = record { layout = said.layout; m = s.m; t = s.t; v = get_or s.v 0 0 } in
      let q : s ≡ said_shape (source_of New bytes places) k = e ∙ by_number said k refl in
      record { same-m = ap (λ (x : Shape). x.m) q; same-t = ap (λ (x : Shape). x.t) q; same-v = ap (λ (x : Shape). get_or x.v 0 0) q }

  pub old-head : (head : Head) (k : Said) → SaysOld (source_of New bytes places) k → k.layout ≡ head.said.layout →
      said_head head.serial k ≡ old_head (head_record (source_of New bytes places) head)
  old-head head k K e =
      let q = by_number k head.said e in
      let s = said_shape (source_of New bytes places) head.said in
      let m : k.m ≡ s.m = K.same-m ∙ ap (λ (x : Shape). x.m) q in
      let t : k.t ≡ s.t = K.same-t ∙ ap (λ (x : Shape). x.t) q in
      let v : k.v ≡ get_or s.v 0 0 = K.same-v ∙ ap (λ (x : Shape). get_or x.v 0 0) q in
      rw (m, t, v)

pub put_same : {before after xs ys : List ℕ} (cells : List ℕ) {place r : ℕ} → xs ≡ ys → Put before after place (fitting before place (record_of xs cells)) r →
    Put before after place (fitting before place (record_of ys cells)) r
put_same {before} {after} cells {place} {r} e p = subst (λ n. Put before after place (fitting before place (record_of n cells)) r) e p

-- the layouts from place i on, one by one
module _ (bytes places : List ℕ) (i : ℕ) (h : i < length places) where
  one-layout : layouts_at bytes (drop i places) ≡ layout_at bytes (get_or places i 0) ∷ layouts_at bytes (drop (suc i) places)
  unfolding layouts_at
  one-layout = rw (drop-cons places i 0 h)

  module _ {s : Shape} (e : s ≡ listed_shape (layout_at bytes (get_or places i 0))) where
    form-here : s.form ≡ (layout_at bytes (get_or places i 0)).form
    unfolding listed_shape
    form-here = ap (λ (p : Shape). p.form) e

    pub foreign-here : 0 < s.form → foreign (layouts_at bytes (drop i places)) ≡ true
    unfolding foreign
    foreign-here f = rw (one-layout, ne_eqb (layout_at bytes (get_or places i 0)).form 0 (λ q. omega (arith, form-here)))

    pub foreign_next : s.form ≡ 0 → foreign (layouts_at bytes (drop i places)) ≡ foreign (layouts_at bytes (drop (i + 1) places))
    unfolding foreign
    foreign_next f = rw (add-one i, one-layout, eq-eqb (layout_at bytes (get_or places i 0)).form 0 (omega (arith, form-here)))

pub foreign-none : (bytes places : List ℕ) (i : ℕ) → length places ≤ i → foreign (layouts_at bytes (drop i places)) ≡ false
unfolding foreign layouts_at
foreign-none bytes places i h = rw (drop_of_length-le places h)

-- the layouts that are kept are those that are listed
pub foreign-listed : (bytes places : List ℕ) (start : ℕ) → Begins New bytes places start →
    foreign (layouts_at bytes places) ≡ foreign (listed_in (layout_list bytes))
unfolding listed_in
foreign-listed bytes places start o = rw (list-opened bytes places start o)

-- a move to old by the move's own terms
module _ (bytes out : List ℕ) where
  abbrev pub MovesOld : List ℕ → List ℕ → Type 0
  MovesOld reply after = (reply ≡ to_old_reply bytes out) × (after ≡ to_old_leaves bytes out)

  moves-old : {reply after : List ℕ} → Moves (stop_of (walk New bytes)) Form (foreign (listed_in (layout_list bytes))) (to_old bytes) out reply after →
      MovesOld reply after
  unfolding to_old_reply to_old_leaves to_old_refusal
  moves-old m = m

  -- so it answers and leaves what is due: where the walk stops, by its own test, by its length, and stored
  pub old-halted : (halt : Halt) → stop_of (walk New bytes) ≡ halt_of halt → MovesOld (refusal_reply (refusal_of halt)) out
  old-halted halt e = moves-old (move-halted _ Form (foreign (listed_in (layout_list bytes))) (to_old bytes) out halt e)

  module _ (whole : stop_of (walk New bytes) ≡ []) where
    pub old-own : foreign (listed_in (layout_list bytes)) ≡ true → MovesOld (refusal_reply Form) out
    old-own t = moves-old (move-own _ Form (foreign (listed_in (layout_list bytes))) (to_old bytes) out whole t)

    module _ (passes : foreign (listed_in (layout_list bytes)) ≡ false) (r : Result (Unit {0}) Refusal) (long : ℕ) (is : long ≡ length (to_old bytes))
        (late : refused_by r ≡ length_refusal long (length out)) where
      pub old-refused : (e : Refusal) → r ≡ Err e → MovesOld (refusal_reply e) out
      old-refused e q = moves-old (move-refused _ Form (foreign (listed_in (layout_list bytes))) (to_old bytes) out whole passes r long is late e q)

      module _ (q : refused_by r ≡ []) where
        pub old-room : length (to_old bytes) ≤ length out
        old-room = move-room _ Form (foreign (listed_in (layout_list bytes))) (to_old bytes) out whole passes r long is late q

        pub old-stored : {after : List ℕ} {end : ℕ} → Put out after 0 (to_old bytes) end → MovesOld (0 ∷ end ∷ []) after
        old-stored p = moves-old (move-stored _ Form (foreign (listed_in (layout_list bytes))) (to_old bytes) out whole passes r long is late q p)
