-- Laws of refusals and replies: no two refusals have one reply, and none has that of an accepted call.
use Rattle.std.proofs.Common.{◌≡◌, ℕ, suc, ◌<◌, ◌≤◌, length, refl, sym, ap, ◌∙◌, List, [], ◌∷◌, get_or, cond, false, eqb, arith, Result, Ok, Err}
use borrow.Author.Tests.{ne_eqb}
use Rattle.code.specs.Calls.{filled, read_fields, write_fields}
use Rattle.code.specs.Refusals.{refusal_reply, reply_of}
use Rattle.code.specs.declared.RefusalFields.{RefusalFields}
use Rattle.code.proofs.LayoutCall.{filled_at}
use Rattle.std.proofs.Common.{◌≡◌, ℕ, suc, ◌<◌, refl, sym, ap, ◌∙◌, List, [], ◌∷◌, get_or, drop, cond, eqb, arith, Result, Ok, Err}
use Rattle.code.specs.Refusals.{refusal_reply, number_of, reply_of}
use Rattle.code.specs.declared.Refusal.{Refusal}
use Rattle.code.specs.declared.Refusal.TheVariants.{Bounds, NoRoom, Cells, Spent, Number, Malformed, TooLong, Output, Serial, Blank, Form}
use Rattle.code.specs.declared.Refusal.TheVariants.{Layouts, Numbers, Miscounted, Beyond, Readable, Unequal, Line, Sum, Address, NoEnd, RecordType}

-- the refusal that has a number, and carries two
abbrev replied : ℕ → ℕ → ℕ → Refusal
replied n a b =
    cond (eqb n 7) (Malformed a) (cond (eqb n 15) (Miscounted a b) (cond (eqb n 16) (Beyond a) (plain n)))
  where
    plain : ℕ → Refusal
    plain n =
        cond (eqb n 1) Bounds (
        cond (eqb n 2) NoRoom (
        cond (eqb n 3) Cells (
        cond (eqb n 5) Spent (
        cond (eqb n 6) Number (
        cond (eqb n 8) TooLong (
        cond (eqb n 9) Output (
        cond (eqb n 10) Serial (
        cond (eqb n 11) Blank (
        cond (eqb n 12) Form (
        cond (eqb n 13) Layouts (
        cond (eqb n 14) Numbers (
        cond (eqb n 17) Readable (
        cond (eqb n 18) Unequal (
        cond (eqb n 20) Line (
        cond (eqb n 21) Sum (
        cond (eqb n 22) Address (
        cond (eqb n 23) NoEnd (RecordType))))))))))))))))))

replied-refusal : (k : Refusal) → replied (get_or (refusal_reply k) 0 0) (get_or (refusal_reply k) 1 0) (get_or (refusal_reply k) 2 0) ≡ k
replied-refusal Bounds = refl
replied-refusal NoRoom = refl
replied-refusal Cells = refl
replied-refusal Spent = refl
replied-refusal Number = refl
replied-refusal (Malformed offset) = refl
replied-refusal TooLong = refl
replied-refusal Output = refl
replied-refusal Serial = refl
replied-refusal Blank = refl
replied-refusal Form = refl
replied-refusal Layouts = refl
replied-refusal Numbers = refl
replied-refusal (Miscounted i u) = refl
replied-refusal (Beyond i) = refl
replied-refusal Readable = refl
replied-refusal Unequal = refl
replied-refusal Line = refl
replied-refusal Sum = refl
replied-refusal Address = refl
replied-refusal NoEnd = refl
replied-refusal RecordType = refl

-- its first three numbers tell it
pub three-alike : (k k' : Refusal) → ((n : ℕ) → n < 3 → get_or (refusal_reply k) n 0 ≡ get_or (refusal_reply k') n 0) → k ≡ k'
three-alike k k' q =
    sym (replied-refusal k) ∙ rw (q 0 (omega arith), q 1 (omega arith), q 2 (omega arith)) (replied-refusal k')

pub refusal-alike : (k k' : Refusal) → refusal_reply k ≡ refusal_reply k' → k ≡ k'
refusal-alike k k' q = three-alike k k' (λ n l. rw q)

-- a refusal's number is not 0
pub refused-some : (k : Refusal) → 0 < get_or (refusal_reply k) 0 0
refused-some Bounds = omega arith
refused-some NoRoom = omega arith
refused-some Cells = omega arith
refused-some Spent = omega arith
refused-some Number = omega arith
refused-some (Malformed offset) = omega arith
refused-some TooLong = omega arith
refused-some Output = omega arith
refused-some Serial = omega arith
refused-some Blank = omega arith
refused-some Form = omega arith
refused-some Layouts = omega arith
refused-some Numbers = omega arith
refused-some (Miscounted i u) = omega arith
refused-some (Beyond i) = omega arith
refused-some Readable = omega arith
refused-some Unequal = omega arith
refused-some Line = omega arith
refused-some Sum = omega arith
refused-some Address = omega arith
refused-some NoEnd = omega arith
refused-some RecordType = omega arith

-- all but three refusals are a number alone
pub refused-alone : (k : Refusal) → ((offset : ℕ) → k ≡ Malformed offset → ⊥) → ((i u : ℕ) → k ≡ Miscounted i u → ⊥) → ((i : ℕ) → k ≡ Beyond i → ⊥) →
    refusal_reply k ≡ get_or (refusal_reply k) 0 0 ∷ []
refused-alone Bounds m c b = refl
refused-alone NoRoom m c b = refl
refused-alone Cells m c b = refl
refused-alone Spent m c b = refl
refused-alone Number m c b = refl
refused-alone (Malformed offset) m c b = absurd (m offset refl)
refused-alone TooLong m c b = refl
refused-alone Output m c b = refl
refused-alone Serial m c b = refl
refused-alone Blank m c b = refl
refused-alone Form m c b = refl
refused-alone Layouts m c b = refl
refused-alone Numbers m c b = refl
refused-alone (Miscounted i u) m c b = absurd (c i u refl)
refused-alone (Beyond i) m c b = absurd (b i refl)
refused-alone Readable m c b = refl
refused-alone Unequal m c b = refl
refused-alone Line m c b = refl
refused-alone Sum m c b = refl
refused-alone Address m c b = refl
refused-alone NoEnd m c b = refl
refused-alone RecordType m c b = refl

-- as those before 7 are
pub refused-early : (k : Refusal) → get_or (refusal_reply k) 0 0 < 7 → refusal_reply k ≡ get_or (refusal_reply k) 0 0 ∷ []
refused-early k l =
    refused-alone k (λ offset e. absurd (omega (arith, ap (λ k. get_or (refusal_reply k) 0 0) e))) (λ i u e. absurd (omega (arith, ap (λ k. get_or (refusal_reply k) 0 0) e)))
    (λ i e. absurd (omega (arith, ap (λ k. get_or (refusal_reply k) 0 0) e)))

-- its reply is its number and what it carries
pub reply-split : (k : Refusal) → refusal_reply k ≡ number_of k ∷ drop 1 (refusal_reply k)
reply-split Bounds = refl
reply-split NoRoom = refl
reply-split Cells = refl
reply-split Spent = refl
reply-split Number = refl
reply-split (Malformed offset) = refl
reply-split TooLong = refl
reply-split Output = refl
reply-split Serial = refl
reply-split Blank = refl
reply-split Form = refl
reply-split Layouts = refl
reply-split Numbers = refl
reply-split (Miscounted i u) = refl
reply-split (Beyond i) = refl
reply-split Readable = refl
reply-split Unequal = refl
reply-split Line = refl
reply-split Sum = refl
reply-split Address = refl
reply-split NoEnd = refl
reply-split RecordType = refl

-- no refusal carries more than two numbers
pub refusal-short : (k : Refusal) → length (refusal_reply k) ≤ 3
refusal-short Bounds = omega arith
refusal-short NoRoom = omega arith
refusal-short Cells = omega arith
refusal-short Spent = omega arith
refusal-short Number = omega arith
refusal-short (Malformed offset) = omega arith
refusal-short TooLong = omega arith
refusal-short Output = omega arith
refusal-short Serial = omega arith
refusal-short Blank = omega arith
refusal-short Form = omega arith
refusal-short Layouts = omega arith
refusal-short Numbers = omega arith
refusal-short (Miscounted i u) = omega arith
refusal-short (Beyond i) = omega arith
refusal-short Readable = omega arith
refusal-short Unequal = omega arith
refusal-short Line = omega arith
refusal-short Sum = omega arith
refusal-short Address = omega arith
refusal-short NoEnd = omega arith
refusal-short RecordType = omega arith

-- two results with one reply are one, where equal values are of equal answers
module _ {A : Type 0} (values : A → List ℕ) (alike : (a a' : A) → values a ≡ values a' → a ≡ a') where
  pub reply-alike : (r r' : Result A Refusal) → reply_of values r ≡ reply_of values r' → r ≡ r'
  reply-alike (Ok a) (Ok a') q =
      let e : values a ≡ values a' = cc in
      rw (alike a a' e)
  reply-alike (Ok a) (Err k) q = absurd (omega (arith, refused-some k, ap (λ r. get_or r 0 0) q))
  reply-alike (Err k) (Ok a) q = absurd (omega (arith, refused-some k, ap (λ r. get_or r 0 0) q))
  reply-alike (Err k) (Err k') q = rw (refusal-alike k k' q)

-- a refusal in three numbers
abbrev pub refusal_fields_of : RefusalFields → List ℕ
refusal_fields_of c = c.number ∷ c.first ∷ c.second ∷ []

-- the fields of a refused reading, and of a refused write
module _ (k : Refusal) (c : RefusalFields) (told : refusal_fields_of c ≡ filled 3 (refusal_reply k)) where
  pub fields-told : (c.number ≡ get_or (refusal_reply k) 0 0) × (c.first ≡ get_or (refusal_reply k) 1 0) × (c.second ≡ get_or (refusal_reply k) 2 0)
  fields-told =
      let at : (n : ℕ) → n < 3 → get_or (refusal_fields_of c) n 0 ≡ get_or (refusal_reply k) n 0 =
      λ n l. ap (λ r. get_or r n 0) told ∙ filled_at 3 (refusal_reply k) n l in
      (at 0 (omega arith), at 1 (omega arith), at 2 (omega arith))

  pub numbered : eqb (get_or (refusal_reply k) 0 0) 0 ≡ false
  numbered = ne_eqb (get_or (refusal_reply k) 0 0) 0 (λ z. omega (arith, refused-some k))

  pub read-refused : c.number ∷ c.first ∷ 0 ∷ 0 ∷ c.second ∷ [] ≡ read_fields (refusal_reply k)
  unfolding read_fields
  read-refused = rw (fields-told.0, fields-told.1, fields-told.2, numbered)

  pub write-refused : c.number ∷ c.first ∷ 0 ∷ c.second ∷ [] ≡ write_fields (refusal_reply k)
  unfolding write_fields
  write-refused = rw (fields-told.0, fields-told.1, fields-told.2, numbered)

-- a result whose reply begins with 0 is no refusal
pub refused-not : (k : Refusal) {values : List ℕ} → refusal_reply k ≡ 0 ∷ values → ⊥
refused-not k q = omega (arith, refused-some k, ap (λ r. get_or r 0 0) q)
