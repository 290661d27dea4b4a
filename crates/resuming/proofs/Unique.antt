-- The promise of `resume` leaves no choice: two answers that it allows are equal, and so are the cells at exit.
use Rattle.std.proofs.Common.{◌≡◌, sym, ap, ◌∙◌, ℕ, ◌<◌, List, get_or, drop, arith, Result, Ok, Err}
use Rattle.std.proofs.lemmas.List.{get_or_append_left}
use Rattle.code.specs.declared.Shape.{Shape}
use Rattle.code.specs.declared.Refusal.{Refusal}
use Rattle.code.specs.Refusals.{refusal_reply}
use Rattle.code.specs.Calls.{filled}
use Rattle.code.specs.Resume.{resume_reply, resume_leaves, resume_fields}
use Rattle.code.proofs.LayoutCall.{filled_at, filled-length}
use Rattle.code.proofs.Refused.{three-alike, refused-some}
use Rattle.resuming.specs.declared.Resumed.{Resumed}
use Rattle.resuming.specs.declared.ResumeFields.{ResumeFields}
use Rattle.resuming.specs.Answers.{resumed_of, resume_fields_of}

-- the first four of the fields are those of the reply
pub fields-at : (reply : List ℕ) (n : ℕ) → n < 4 → get_or (resume_fields reply) n 0 ≡ get_or reply n 0
unfolding resume_fields
fields-at reply n l = get_or_append_left (filled 4 reply) _ 0 n (rw (filled-length 4 reply) l) ∙ filled_at 4 reply n l

-- the answer whose fields are given: an accepted one is that of its own fields
abbrev resumed_with : List ℕ → Resumed
resumed_with xs = record { generation = get_or xs 1 0; turned = get_or xs 2 0; count = get_or xs 3 0; erased = drop 4 xs }

pub same-resumed : (r r' : Result Resumed Refusal) → resumed_of r ≡ resumed_of r' → r ≡ r'
same-resumed (Ok a) (Ok a') q = rw (ap resumed_with q)
same-resumed (Ok a) (Err k) q = absurd (omega (arith, refused-some k, ap (λ xs. get_or xs 0 0) q, fields-at (refusal_reply k) 0 (omega arith)))
same-resumed (Err k) (Ok a) q = absurd (omega (arith, refused-some k, ap (λ xs. get_or xs 0 0) q, fields-at (refusal_reply k) 0 (omega arith)))
same-resumed (Err k) (Err k') q =
    let at = λ (n : ℕ) (l : n < 3). sym (fields-at (refusal_reply k) n (omega arith)) ∙ ap (λ xs. get_or xs n 0) q ∙ fields-at (refusal_reply k') n (omega arith) in
    rw (three-alike k k' at)

pub unique-resume : (s : Shape) (x : ℕ) (cells after after' : List ℕ) (r r' : Result Resumed Refusal)
    → resumed_of r ≡ resume_fields (resume_reply s x cells) → after ≡ resume_leaves s x cells
    → resumed_of r' ≡ resume_fields (resume_reply s x cells) → after' ≡ resume_leaves s x cells → (r ≡ r') × (after ≡ after')
unique-resume s x cells after after' r r' p l p' l' = (same-resumed r r' (p ∙ sym p'), l ∙ sym l')

-- and so do the fields that C is told
abbrev fields_with : List ℕ → ResumeFields
fields_with xs = record { refusal = get_or xs 0 0; generation = get_or xs 1 0; turned = get_or xs 2 0; count = get_or xs 3 0; erased = drop 4 xs }

pub unique-resume-fields : (s : Shape) (x : ℕ) (cells after after' : List ℕ) (r r' : ResumeFields)
    → resume_fields_of r ≡ resume_fields (resume_reply s x cells) → after ≡ resume_leaves s x cells
    → resume_fields_of r' ≡ resume_fields (resume_reply s x cells) → after' ≡ resume_leaves s x cells → (r ≡ r') × (after ≡ after')
unique-resume-fields s x cells after after' r r' p l p' l' = (ap fields_with (p ∙ sym p'), l ∙ sym l')
