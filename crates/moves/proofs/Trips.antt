-- The moves made one after the other, by any answers and outputs that their promises allow: 02, §3, "There and back gives the old bytes of any old dump that
-- moves; back and there gives the new bytes if the dump moves back and its layouts are all used, different and in first-use order".
use Prim.Native.Nat.{ℕ, ◌≤◌, ◌<◌}
use mathlib.Core.Path.{◌≡◌, sym, ap, ◌∙◌}
use mathlib.Core.List.{List, [], ◌∷◌}
use native.Mathlib.Omega.{arith}
use lib.ListN.{length, get_or, take, drop}
use lib.Seq.{take-append_seam}
use Rattle.code.specs.declared.Kind.TheVariants.{Old, New}
use Rattle.code.specs.Dump.{walk}
use Rattle.code.specs.NewDump.{to_new_reply, to_new_leaves, to_old_reply, to_old_leaves}
use Rattle.code.proofs.Wits.{Bytes}
use Rattle.code.proofs.Stores.{Accepted}
use Rattle.code.proofs.Told.{told_of}
use Rattle.code.proofs.Moves as Moves
use Rattle.code.proofs.Moves.{stored_new, stored_old, stored-new, stored-old, SettledDump, new-refused-stores, old-refused-stores}
use Rattle.code.proofs.MovedTold.{moved_told, back-told}
use Rattle.code.specs.Calls.{refusal_in}
use Rattle.moves.specs.Answers.{moved_of}
use Rattle.std.proofs.Common.{Result, Ok, Err}
use Rattle.code.specs.declared.Refusal.{Refusal}
use Rattle.code.specs.declared.Refusal.TheVariants.{Output}
use Rattle.moves.proofs.Unique.{same-moved}

-- a second move gives these bytes, at the front of its output
pub record Gives (bytes : List ℕ) (r : Result ℕ Refusal) (after : List ℕ) : Type 0 where
  pub answers : r ≡ Ok (length bytes)
  pub stores : take (length bytes) after ≡ bytes

-- or it is refused 9 and stores nothing
pub record NoRoom (r : Result ℕ Refusal) (after out : List ℕ) : Type 0 where
  pub answers : r ≡ Err Output
  pub stores : after ≡ out

gives : (bytes reply leaves out after : List ℕ) (r : Result ℕ Refusal) → Accepted bytes reply leaves out → moved_of r ≡ reply → after ≡ leaves → Gives bytes r after
gives bytes reply leaves out after r a p l =
    let q : moved_of r ≡ 0 ∷ length bytes ∷ [] = p ∙ a.replies in
    record {
      answers = same-moved r (Ok (length bytes)) q;
      stores = rw (l, a.stores) (take-append_seam bytes (drop (length bytes) out));
    }

no_room : (reply leaves out after : List ℕ) (r : Result ℕ Refusal) → reply ≡ 9 ∷ [] → ((refusal_in reply ≡ 0 → ⊥) → leaves ≡ out) → moved_of r ≡ reply →
    after ≡ leaves → NoRoom r after out
no_room reply leaves out after r n k p l =
    let q : moved_of r ≡ 9 ∷ [] = p ∙ n in
    record {
      answers = same-moved r (Err Output) q;
      stores = l ∙ k (λ e. let z : refusal_in reply ≡ 9 = ap (λ xs. get_or xs 0 0) n in omega arith);
    }

-- An old dump that moves: what was stored tells the same, and moves back to the old bytes.
module _ (bytes out after : List ℕ) (n : ℕ) (b : Bytes bytes) (p : moved_of (Ok n) ≡ to_new_reply bytes out) (a : after ≡ to_new_leaves bytes out) where
  moved : refusal_in (to_new_reply bytes out) ≡ 0
  moved = ap (λ xs. get_or xs 0 0) (sym p)

  stored : take n after ≡ stored_new bytes out
  stored = rw (a, ap (λ xs. get_or xs 1 0) p)

  pub told-there : told_of (take n after) (walk New (take n after)) ≡ told_of bytes (walk Old bytes)
  told-there = rw (stored ∙ stored-new bytes out moved) (moved_told bytes out b moved)

  module _ (again last : List ℕ) (r : Result ℕ Refusal) (q : moved_of r ≡ to_old_reply (take n after) again) (l : last ≡ to_old_leaves (take n after) again) where
    pub there_and_back : length bytes ≤ length again → Gives bytes r last
    there_and_back h = gives bytes _ _ again last r (Moves.there_and_back bytes out again b moved h) (rw stored at q) (rw stored at l)

    pub there-and-back-room : length again < length bytes → NoRoom r last again
    there-and-back-room h =
        no_room _ _ again last r (Moves.there-and-back-room bytes out again b moved h) (old-refused-stores (stored_new bytes out) again)
        (rw stored at q) (rw stored at l)

-- A new dump that moves back: what was stored tells the same, and where the dump was settled it moves to the new bytes.
module _ (bytes out after : List ℕ) (n : ℕ) (b : Bytes bytes) (p : moved_of (Ok n) ≡ to_old_reply bytes out) (a : after ≡ to_old_leaves bytes out) where
  returned : refusal_in (to_old_reply bytes out) ≡ 0
  returned = ap (λ xs. get_or xs 0 0) (sym p)

  restored : take n after ≡ stored_old bytes out
  restored = rw (a, ap (λ xs. get_or xs 1 0) p)

  pub told_back : told_of (take n after) (walk Old (take n after)) ≡ told_of bytes (walk New bytes)
  told_back = rw (restored ∙ stored-old bytes out returned) (back-told bytes out b returned)

  module _ (t : SettledDump bytes) (again last : List ℕ) (r : Result ℕ Refusal) (q : moved_of r ≡ to_new_reply (take n after) again)
      (l : last ≡ to_new_leaves (take n after) again) where
    pub back-and-there : length bytes ≤ length again → Gives bytes r last
    back-and-there h = gives bytes _ _ again last r (Moves.back-and-there bytes out again b returned t h) (rw restored at q) (rw restored at l)

    pub back-and-there-room : length again < length bytes → NoRoom r last again
    back-and-there-room h =
        no_room _ _ again last r (Moves.back-and-there-room bytes out again b returned t h) (new-refused-stores (stored_old bytes out) again)
        (rw restored at q) (rw restored at l)
