-- Walks made one after the other, by a few rows at a time: they come to an end.
use Prim.Native.Nat.{ℕ, ◌*◌, ◌≤◌, ◌<◌}
use mathlib.Core.Path.{◌≡◌, refl, sym, ap, ◌∙◌}
use mathlib.Core.Bool.{Bool, false}
use mathlib.Core.List.{List, [], ◌∷◌}
use lib.ListN.{length, get_or}
use Rattle.std.specs.Prelude.{Result, Ok, Err}
use Rattle.code.specs.declared.Kind.{Kind}
use Rattle.dump.specs.declared.Halt.{Halt}
use Rattle.code.specs.Dump.{row_length, walk_reply}
use Rattle.code.proofs.Closing.{walk-few, walk-onward}
use Rattle.walking.specs.Answers.{walked_of, walk_fields_of}
use Rattle.walking.specs.declared.Walked.{Walked}
use Rattle.walking.specs.declared.WalkFields.{WalkFields}

-- A walk fills no more rows than fit; and one that has room, and meets neither the end nor a refusal, goes on, so that walks from each `next` come to an end.
module _ (kind : Kind) (bytes : List ℕ) (at : ℕ) (rows : List ℕ) (w : Walked) (e : walked_of w ≡ walk_reply kind bytes at rows) where
  -- what it answers has the rows and the next step at their places
  stands : (ended : Result Bool Halt) → w.ended ≡ ended → (get_or (walked_of w) 2 0 ≡ w.rows) × (get_or (walked_of w) 3 0 ≡ w.next)
  stands (Ok ended) q = (rw q, rw q)
  stands (Err halt) q = (rw q, rw q)

  pub walked-few : row_length kind * w.rows ≤ length rows
  walked-few = rw (← (stands w.ended refl).0, e) (walk-few kind bytes at rows)

  pub walked-onward : row_length kind ≤ length rows → at ≤ length bytes → w.ended ≡ Ok false → (at < w.next) × (w.next ≤ length bytes)
  walked-onward some l f =
      let told : walk_reply kind bytes at rows ≡ 0 ∷ 0 ∷ w.rows ∷ w.next ∷ 0 ∷ [] = rw f at (sym e) in
      rw (ap (λ l. get_or l 3 0) (sym told)) (walk-onward kind bytes at rows some l (ap (λ l. get_or l 0 0) told) (ap (λ l. get_or l 4 0) told))

-- The same of the struct that C gets, which tells 0 or the refusal, and whether the end was reached, by fields of its own.
module _ (kind : Kind) (bytes : List ℕ) (at : ℕ) (rows : List ℕ) (w : WalkFields) (e : walk_fields_of w ≡ walk_reply kind bytes at rows) where
  pub walked-few-fields : row_length kind * w.rows ≤ length rows
  walked-few-fields = rw (ap (λ l. get_or l 2 0) e) (walk-few kind bytes at rows)

  pub walked-onward-fields : row_length kind ≤ length rows → at ≤ length bytes → w.refusal ≡ 0 → w.ended ≡ 0 → (at < w.next) × (w.next ≤ length bytes)
  walked-onward-fields some l r f =
      rw (ap (λ l. get_or l 3 0) e) (walk-onward kind bytes at rows some l (ap (λ l. get_or l 0 0) (sym e) ∙ r) (ap (λ l. get_or l 4 0) (sym e) ∙ f))
