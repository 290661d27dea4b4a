-- The tests of a move, one after the other: what it answers and what it leaves.
use Prim.Native.Nat.{ℕ, ◌≤◌, ◌<◌}
use mathlib.Core.Path.{◌≡◌, sym, ap, ◌∙◌}
use mathlib.Core.Bool.{Bool, true, false}
use mathlib.Core.List.{List, [], ◌∷◌, ◌++◌}
use native.Mathlib.Omega.{arith}
use lib.Dec.{ltb}
use lib.ListN.{length, get_or, drop}
use Rattle.std.proofs.Common.{Result, Err}
use Rattle.code.specs.Refusals.{refusal_reply}
use Rattle.code.specs.declared.Refusal.{Refusal}
use Rattle.code.proofs.Refused.{refused-some}
use borrow.Author.Tests.{ltb-false}
use Rattle.code.specs.Calls.{refusal, answer, leaves}
use Rattle.code.specs.NewDump.{first_refusal, move_refusal}
use Rattle.code.proofs.LayoutCall.{passed}
use Rattle.storing.specs.Put.{Put}
use Rattle.storing.proofs.Put.{put-pastes}
use Rattle.dump.specs.Answers.{halt_of, refusal_of}
use Rattle.dump.specs.declared.Halt.TheVariants.{Malformed, Oversize}
use Rattle.dump.specs.declared.Halt.{Halt}
use Rattle.moves.specs.Passes.{refused_by, length_refusal}

-- what a move answers and leaves by its refusal and what it makes
abbrev pub Moving : List ℕ → List ℕ → List ℕ → List ℕ → List ℕ → Type 0
Moving refused made out reply after = (reply ≡ answer refused (length made ∷ [])) × (after ≡ leaves refused (made ++ drop (length made) out) out)

moving-refused : (refused made out : List ℕ) (e : Refusal) → refused ≡ refusal_reply e → Moving refused made out (refusal_reply e) out
unfolding answer leaves
moving-refused refused made out e q = go (refusal_reply e) (refused-some e) q
  where
    go : (xs : List ℕ) → 0 < get_or xs 0 0 → refused ≡ xs → Moving refused made out xs out
    go [] some q = absurd (omega arith)
    go (k ∷ carried) some q = (rw q, rw q)

moving-stored : (refused made out : List ℕ) {after : List ℕ} {end : ℕ} → refused ≡ [] → length made ≤ length out → Put out after 0 made end →
    Moving refused made out (0 ∷ end ∷ []) after
unfolding answer leaves
moving-stored refused made out {after} {end} q h p =
    let e : end ≡ length made = omega (arith, p.ends) in
    (rw q (ap (λ n. 0 ∷ n ∷ []) e), rw q (rw e at (put-pastes p (omega arith))))

-- what stops the walk, the test of the move's own with its number, what is made, and the output
module _ (stop : List ℕ) (own : Refusal) (test : Bool) (made out : List ℕ) where
  abbrev pub Moves : List ℕ → List ℕ → Type 0
  Moves = Moving (move_refusal stop (refusal_reply own, test) made out) made out

  pub move-halted : (halt : Halt) → stop ≡ halt_of halt → Moves (refusal_reply (refusal_of halt)) out
  unfolding move_refusal first_refusal
  move-halted (Malformed offset) e = moving-refused _ made out (refusal_of (Malformed offset)) (rw e)
  move-halted Oversize e = moving-refused _ made out (refusal_of Oversize) (rw e)

  module _ (whole : stop ≡ []) where
    pub move-own : test ≡ true → Moves (refusal_reply own) out
    unfolding move_refusal first_refusal refusal
    move-own t = moving-refused _ made out own (rw (whole, t))

    module _ (passes : test ≡ false) (r : Result (Unit {0}) Refusal) (long : ℕ) (is : long ≡ length made) (late : refused_by r ≡ length_refusal long (length out)) where
      by_length : move_refusal stop (refusal_reply own, test) made out ≡ refused_by r
      unfolding move_refusal first_refusal refusal length_refusal
      by_length = rw (whole, passes) (sym (rw is at late))

      pub move-refused : (e : Refusal) → r ≡ Err e → Moves (refusal_reply e) out
      move-refused e q = moving-refused _ made out e (by_length ∙ ap refused_by q)

      module _ (q : refused_by r ≡ []) where
        pub move-room : length made ≤ length out
        unfolding length_refusal
        move-room =
            let a = passed 8 [] (ltb 65536 (length made)) _ (sym (rw is at late) ∙ q) in
            let b = passed 9 [] (ltb (length out) (length made)) [] a.1 in
            ltb-false (length out) (length made) b.0

        pub move-stored : {after : List ℕ} {end : ℕ} → Put out after 0 made end → Moves (0 ∷ end ∷ []) after
        move-stored p = moving-stored _ made out (by_length ∙ q) move-room p
