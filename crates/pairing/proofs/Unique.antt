-- The promises of `read_pair` and `write_pair` leave no choice: two answers that one of them allows are equal, and so are the cells of both fields at exit.
use Prim.Native.Nat.{ℕ}
use mathlib.Core.Path.{◌≡◌, refl, sym, ◌∙◌}
use mathlib.Core.List.{List}
use native.Mathlib.Omega.{arith}
use Rattle.std.specs.Prelude.{Result}
use Rattle.code.specs.declared.Pair.{Pair}
use Rattle.code.specs.declared.Refusal.{Refusal}
use Rattle.code.specs.Pair.{pair_read_reply, pair_write_reply, pair_first_leaves, pair_second_leaves}
use Rattle.code.proofs.Refused.{reply-alike}
use Rattle.pairing.specs.declared.Side.{Side}
use Rattle.pairing.specs.declared.Side.TheVariants.{First, Second}
use Rattle.pairing.specs.declared.PairRead.{PairRead}
use Rattle.pairing.specs.declared.PairWritten.{PairWritten}
use Rattle.pairing.specs.Answers.{field_of, pair_values, written_values, pair_reading_of, pair_writing_of}

same-side : (s s' : Side) → field_of s ≡ field_of s' → s ≡ s'
same-side First First q = refl
same-side First Second q = absurd (omega (arith, q))
same-side Second First q = absurd (omega (arith, q))
same-side Second Second q = refl

same-read : (r r' : PairRead) → pair_values r ≡ pair_values r' → r ≡ r'
same-read r r' q =
    let a : r.number ≡ r'.number = cc in
    let b : r.left ≡ r'.left = cc in
    rw (a, b)

same-written : (w w' : PairWritten) → written_values w ≡ written_values w' → w ≡ w'
same-written w w' q =
    let f : field_of w.side ≡ field_of w'.side = cc in
    let a : w.side ≡ w'.side = same-side w.side w'.side f in
    let b : w.generation ≡ w'.generation = cc in
    let c : w.turned ≡ w'.turned = cc in
    rw (a, b, c)

pub same-pair-reading : (r r' : Result PairRead Refusal) → pair_reading_of r ≡ pair_reading_of r' → r ≡ r'
same-pair-reading = reply-alike pair_values same-read

pub same-pair-writing : (r r' : Result PairWritten Refusal) → pair_writing_of r ≡ pair_writing_of r' → r ≡ r'
same-pair-writing = reply-alike written_values same-written

pub unique-pair-reading : (p : Pair) (first second : List ℕ) (r r' : Result PairRead Refusal) →
    pair_reading_of r ≡ pair_read_reply p first second → pair_reading_of r' ≡ pair_read_reply p first second → r ≡ r'
unique-pair-reading p first second r r' q q' = same-pair-reading r r' (q ∙ sym q')

pub unique-pair-writing : (p : Pair) (x : ℕ) (first second one one' two two' : List ℕ) (r r' : Result PairWritten Refusal) →
    pair_writing_of r ≡ pair_write_reply p x first second → one ≡ pair_first_leaves p x first second → two ≡ pair_second_leaves p x first second →
    pair_writing_of r' ≡ pair_write_reply p x first second → one' ≡ pair_first_leaves p x first second → two' ≡ pair_second_leaves p x first second →
    (r ≡ r') × (one ≡ one') × (two ≡ two')
unique-pair-writing p x first second one one' two two' r r' q a b q' a' b' = (same-pair-writing r r' (q ∙ sym q'), a ∙ sym a', b ∙ sym b')
