-- Moves of dumps: there and back, and back and there for settled dumps, give the same bytes.
use Prim.Native.Nat.{ℕ, zero, suc, ◌+◌, ◌≤◌, ◌<◌}
use mathlib.Core.Path.{◌≡◌, refl, ap, ◌∙◌}
use mathlib.Core.Bool.{Bool, false}
use mathlib.Core.List.{List, [], ◌∷◌, ◌++◌}
use native.Mathlib.Omega.{arith}
use lib.Dec.{ltb}
use lib.ListN.{length, get_or, take, drop}
use borrow.Author.Tests.{lt-ltb, le-ltb, ltb-false}
use Rattle.code.specs.declared.Kind.{Kind}
use Rattle.code.specs.declared.Kind.TheVariants.{Old, New}
use Rattle.code.specs.Calls.{refusal, answer, leaves, length_in, refusal_in}
use Rattle.code.specs.LayoutList.{Listed, layout_list}
use Rattle.code.specs.Dump.{own_layouts, Step, taken, ended, stopped, step, walk_from, walk}
use Rattle.code.specs.NewDump.{Entry, records_of, new_dump_of, entries_of, stop_of, listed_in, first_use, numbered, foreign, first_refusal, move_refusal}
use Rattle.code.specs.NewDump.{to_new, to_new_refusal, to_new_reply, to_new_leaves, to_old, to_old_refusal, to_old_reply, to_old_leaves}
use Rattle.code.proofs.Tests.{clash}
use Rattle.code.proofs.Wits.{Bytes}
use Rattle.code.proofs.LayoutCall.{passed}
use Rattle.code.proofs.Stores.{Refuses, tests-refuse, reply-told, refused-keeps, Accepted, accepted, stored-made}
use Rattle.code.proofs.Walk.{walk-taken, walk-ended, walk-stopped}
use Rattle.code.proofs.Steps.{Refusing, step-refusing}
use Rattle.code.proofs.Dumps.{dump-parsed, dump-was, new-parsed, new-printed}
use Rattle.code.proofs.FirstUse.{first-lists, first-listable, first_plain, numbered-sound, unnumbered-sound, first-numbered, numbered-again, records-numbered}
use Rattle.code.proofs.Settling.{Settled, first-again, numbers-again}

-- what stops a walk is a refusal
stop-refuses : (fuel : ℕ) (kind : Kind) (bytes : List ℕ) (at : ℕ) → Refuses (stop_of (walk_from fuel kind bytes at))
unfolding stop_of walk_from
stop-refuses zero kind bytes at = tt
stop-refuses (suc fuel) kind bytes at = go (step kind bytes at) refl (step-refusing kind bytes at) (stop-refuses fuel kind bytes)
  where
    go : (s : Step) → step kind bytes at ≡ s → Refusing s → ((next : ℕ) → Refuses (stop_of (walk_from fuel kind bytes next))) →
        Refuses (stop_of (walk_from (suc fuel) kind bytes at))
    go (taken r) q p ih = rw (walk-taken kind bytes fuel at r q) (ih (r.start + r.count))
    go ended q p ih = rw (walk-ended kind bytes fuel at q) tt
    go (stopped k carried) q p ih = rw (walk-stopped kind bytes fuel at k carried q) p.0

walk-refuses : (kind : Kind) (bytes : List ℕ) → Refuses (stop_of (walk kind bytes))
unfolding walk
walk-refuses kind bytes = stop-refuses _ kind bytes _

-- A move in either direction: what stops the walk, the test of its own with its number, and what is made.
module _ (stop : List ℕ) (k : ℕ) (test : Bool) (made out : List ℕ) where
  abbrev refused : List ℕ
  refused = move_refusal stop (suc k ∷ [], test) made out

  record Moves : Type 0 where
    whole : stop ≡ []
    passes : test ≡ false
    short : length made ≤ 65536
    fits : length made ≤ length out

  abbrev tests : List (List ℕ × Bool)
  tests = (suc k ∷ [], test) ∷ (8 ∷ [], ltb 65536 (length made)) ∷ (9 ∷ [], ltb (length out) (length made)) ∷ []

  move-refuses : Refuses stop → Refuses refused
  unfolding move_refusal first_refusal
  move-refuses r = go stop r
    where
      go : (s : List ℕ) → Refuses s → Refuses (first_refusal s (refusal tests))
      go [] r = tests-refuse tests (omega arith, (omega arith, (omega arith, tt)))
      go (j ∷ carried) r = r

  -- what a reply of 0 tells
  move-told : Refuses stop → get_or (answer refused (length made ∷ [])) 0 0 ≡ 0 → Moves
  unfolding move_refusal first_refusal
  move-told r e = go stop refl (reply-told refused (length made ∷ []) (move-refuses r) e)
    where
      go : (s : List ℕ) → stop ≡ s → first_refusal s (refusal tests) ≡ [] → Moves
      go [] q n =
          let a = passed (suc k) [] test _ n in
          let b = passed 8 [] (ltb 65536 (length made)) _ a.1 in
          let c = passed 9 [] (ltb (length out) (length made)) [] b.1 in
          record { whole = q; passes = a.0; short = ltb-false 65536 (length made) b.0; fits = ltb-false (length out) (length made) c.0 }
      go (j ∷ carried) q n = clash (cc)

  move-accepted : Moves → Accepted made (answer refused (length made ∷ [])) (leaves refused (made ++ drop (length made) out) out) out
  unfolding move_refusal first_refusal refusal
  move-accepted m =
      let none : refused ≡ [] = rw (m.whole, m.passes, le-ltb 65536 (length made) m.short, le-ltb (length out) (length made) m.fits) in
      accepted refused made out none m.fits

  move-nine : stop ≡ [] → test ≡ false → length made ≤ 65536 → length out < length made → answer refused (length made ∷ []) ≡ 9 ∷ []
  unfolding move_refusal first_refusal refusal answer
  move-nine w p s f = rw (w, p, le-ltb 65536 (length made) s, lt-ltb (length out) (length made) f)

-- the records and the layouts of a dump
abbrev pub entries_in : Kind → List ℕ → List Entry
entries_in kind bytes = entries_of bytes (walk kind bytes)

abbrev pub layouts_in : List ℕ → List Listed
layouts_in bytes = listed_in (layout_list bytes)

-- an old dump that moves, and a new one that moves back, where the output has room
pub record MovesNew (bytes : List ℕ) : Type 0 where
  pub whole : stop_of (walk Old bytes) ≡ []
  pub few : length (first_use [] (entries_in Old bytes)) ≤ 64
  pub short : length (to_new bytes) ≤ 65536

pub record MovesOld (bytes : List ℕ) : Type 0 where
  pub whole : stop_of (walk New bytes) ≡ []
  pub plain : foreign (layouts_in bytes) ≡ false
  pub short : length (to_old bytes) ≤ 65536

module _ (bytes out : List ℕ) where
  abbrev over : Bool
  over = ltb 64 (length (first_use [] (entries_in Old bytes)))

  pub new_told : refusal_in (to_new_reply bytes out) ≡ 0 → MovesNew bytes × (length (to_new bytes) ≤ length out)
  unfolding to_new_reply to_new_refusal
  new_told e =
      let m = move-told (stop_of (walk Old bytes)) 12 over (to_new bytes) out (walk-refuses Old bytes) e in
      (record { whole = m.whole; few = ltb-false 64 (length (first_use [] (entries_in Old bytes))) m.passes; short = m.short }, m.fits)

  module _ (m : MovesNew bytes) where
    within : over ≡ false
    within = le-ltb 64 (length (first_use [] (entries_in Old bytes))) m.few

    pub new-accepted : length (to_new bytes) ≤ length out → Accepted (to_new bytes) (to_new_reply bytes out) (to_new_leaves bytes out) out
    unfolding to_new_reply to_new_leaves to_new_refusal
    new-accepted f = move-accepted (stop_of (walk Old bytes)) 12 over (to_new bytes) out record { whole = m.whole; passes = within; short = m.short; fits = f }

    pub new-nine : length out < length (to_new bytes) → to_new_reply bytes out ≡ 9 ∷ []
    unfolding to_new_reply to_new_refusal
    new-nine f = move-nine (stop_of (walk Old bytes)) 12 over (to_new bytes) out m.whole within m.short f

  pub old-told : refusal_in (to_old_reply bytes out) ≡ 0 → MovesOld bytes × (length (to_old bytes) ≤ length out)
  unfolding to_old_reply to_old_refusal
  old-told e =
      let m = move-told (stop_of (walk New bytes)) 11 (foreign (layouts_in bytes)) (to_old bytes) out (walk-refuses New bytes) e in
      (record { whole = m.whole; plain = m.passes; short = m.short }, m.fits)

  module _ (m : MovesOld bytes) where
    pub old-accepted : length (to_old bytes) ≤ length out → Accepted (to_old bytes) (to_old_reply bytes out) (to_old_leaves bytes out) out
    unfolding to_old_reply to_old_leaves to_old_refusal
    old-accepted f =
        move-accepted (stop_of (walk New bytes)) 11 (foreign (layouts_in bytes)) (to_old bytes) out
        record { whole = m.whole; passes = m.plain; short = m.short; fits = f }

    pub old-nine : length out < length (to_old bytes) → to_old_reply bytes out ≡ 9 ∷ []
    unfolding to_old_reply to_old_refusal
    old-nine f = move-nine (stop_of (walk New bytes)) 11 (foreign (layouts_in bytes)) (to_old bytes) out m.whole m.plain m.short f

  -- a refusal "stores nothing in cells or output"
  pub new-refused-stores : (refusal_in (to_new_reply bytes out) ≡ 0 → ⊥) → to_new_leaves bytes out ≡ out
  unfolding to_new_reply to_new_leaves
  new-refused-stores n = refused-keeps (to_new_refusal bytes out) (length (to_new bytes) ∷ []) (to_new bytes ++ drop (length (to_new bytes)) out) out n

  pub old-refused-stores : (refusal_in (to_old_reply bytes out) ≡ 0 → ⊥) → to_old_leaves bytes out ≡ out
  unfolding to_old_reply to_old_leaves
  old-refused-stores n = refused-keeps (to_old_refusal bytes out) (length (to_old bytes) ∷ []) (to_old bytes ++ drop (length (to_old bytes)) out) out n

  -- what a caller takes of the output of a move
  abbrev pub stored_new : List ℕ
  stored_new = take (length_in (to_new_reply bytes out)) (to_new_leaves bytes out)

  abbrev pub stored_old : List ℕ
  stored_old = take (length_in (to_old_reply bytes out)) (to_old_leaves bytes out)

  pub stored-new : refusal_in (to_new_reply bytes out) ≡ 0 → stored_new ≡ to_new bytes
  stored-new e =
      let w = new_told e in
      stored-made (to_new bytes) (to_new_reply bytes out) (to_new_leaves bytes out) out (new-accepted w.0 w.1)

  pub stored-old : refusal_in (to_old_reply bytes out) ≡ 0 → stored_old ≡ to_old bytes
  stored-old e =
      let w = old-told e in
      stored-made (to_old bytes) (to_old_reply bytes out) (to_old_leaves bytes out) out (old-accepted w.0 w.1)

-- An old dump that moves: the new dump reads to its records with the numbers of their layouts, and moves back.
pub record There (bytes : List ℕ) : Type 0 where
  pub listed : layouts_in (to_new bytes) ≡ first_use [] (entries_in Old bytes)
  pub parsed : entries_in New (to_new bytes) ≡ numbered (first_use [] (entries_in Old bytes)) (entries_in Old bytes)
  pub back : to_old (to_new bytes) ≡ bytes
  pub moves : MovesOld (to_new bytes)

pub there : (bytes : List ℕ) → Bytes bytes → MovesNew bytes → There bytes
unfolding to_new to_old foreign
there bytes b m =
    let es : List Entry = entries_in Old bytes in
    let ls : List Listed = first_use [] es in
    let w = dump-was Old bytes b m.whole in
    let sound = numbered-sound es ls m.few w.sound (first-lists es []) in
    let r = new-parsed ls (numbered ls es) (first-listable es [] w.sound tt) m.few sound m.short in
    let source = r.named in
    let listed : layouts_in (new_dump_of ls (numbered ls es)) ≡ ls = cc in
    let back : records_of own_layouts (entries_in New (new_dump_of ls (numbered ls es))) ≡ bytes =
    ap (records_of own_layouts) r.parsed ∙ records-numbered es ls ∙ w.back in
    record {
      listed = listed;
      parsed = r.parsed;
      back = back;
      moves = record { whole = r.whole; plain = ap foreign listed ∙ first_plain es [] w.sound refl; short = rw back w.short };
    }

module _ (bytes out again : List ℕ) (b : Bytes bytes) (e : refusal_in (to_new_reply bytes out) ≡ 0) where
  -- "There and back gives the old bytes of any old dump that moves"
  pub there_and_back : length bytes ≤ length again → Accepted bytes (to_old_reply (stored_new bytes out) again) (to_old_leaves (stored_new bytes out) again) again
  there_and_back h =
      let t = there bytes b (new_told bytes out e).0 in
      rw (stored-new bytes out e) (rw t.back at (old-accepted (to_new bytes) again t.moves (rw t.back h)))

  pub there-and-back-room : length again < length bytes → to_old_reply (stored_new bytes out) again ≡ 9 ∷ []
  there-and-back-room h =
      let t = there bytes b (new_told bytes out e).0 in
      rw (stored-new bytes out e) (old-nine (to_new bytes) again t.moves (rw t.back h))

-- A new dump that moves back: the old dump reads to its records without numbers.
pub record Back (bytes : List ℕ) : Type 0 where
  pub whole : stop_of (walk Old (to_old bytes)) ≡ []
  pub parsed : entries_in Old (to_old bytes) ≡ numbered [] (entries_in New bytes)

pub back : (bytes : List ℕ) → Bytes bytes → MovesOld bytes → Back bytes
unfolding to_old
back bytes b m =
    let es : List Entry = entries_in New bytes in
    let w = dump-was New bytes b m.whole in
    let sound = unnumbered-sound es (layouts_in bytes) w.sayable.0 m.plain w.sound in
    let same : records_of own_layouts (numbered [] es) ≡ records_of own_layouts es = records-numbered es [] in
    let r = dump-parsed own_layouts (numbered [] es) tt sound (rw same m.short) in
    record { whole = rw same at r.whole; parsed = rw same at r.parsed }

-- a dump whose layouts "are all used, different and in first-use order"
abbrev pub SettledDump : List ℕ → Type 0
SettledDump bytes = Settled (layouts_in bytes) (entries_in New bytes)

pub record Again (bytes : List ℕ) : Type 0 where
  pub there : to_new (to_old bytes) ≡ bytes
  pub moves : MovesNew (to_old bytes)

pub again : (bytes : List ℕ) → Bytes bytes → MovesOld bytes → SettledDump bytes → Again bytes
unfolding to_new
again bytes b m t =
    let es : List Entry = entries_in New bytes in
    let ls : List Listed = layouts_in bytes in
    let w = dump-was New bytes b m.whole in
    let k = back bytes b m in
    let first : first_use [] (entries_in Old (to_old bytes)) ≡ ls =
    ap (first_use []) k.parsed ∙ first-numbered es [] [] ∙ first-again ls es t w.sayable.0 w.sound in
    let numbers : numbered ls (entries_in Old (to_old bytes)) ≡ es =
    ap (numbered ls) k.parsed ∙ numbered-again es ls [] ∙ numbers-again ls es t w.sayable.0 w.sound in
    let same : to_new (to_old bytes) ≡ bytes = rw (first, numbers) (new-printed bytes b m.whole) in
    record { there = same; moves = record { whole = k.whole; few = rw first w.sayable.1; short = rw same w.short } }

module _ (bytes out over : List ℕ) (b : Bytes bytes) (e : refusal_in (to_old_reply bytes out) ≡ 0) (t : SettledDump bytes) where
  -- "back and there gives the new bytes if the dump moves back and its layouts are all used, different and in first-use order"
  pub back-and-there : length bytes ≤ length over → Accepted bytes (to_new_reply (stored_old bytes out) over) (to_new_leaves (stored_old bytes out) over) over
  back-and-there h =
      let a = again bytes b (old-told bytes out e).0 t in
      rw (stored-old bytes out e) (rw a.there at (new-accepted (to_old bytes) over a.moves (rw a.there h)))

  pub back-and-there-room : length over < length bytes → to_new_reply (stored_old bytes out) over ≡ 9 ∷ []
  back-and-there-room h =
      let a = again bytes b (old-told bytes out e).0 t in
      rw (stored-old bytes out e) (new-nine (to_old bytes) over a.moves (rw a.there h))
