-- Groups that are all ones now and were not before, told by the marks of both words.
use Prim.Native.Nat.{ℕ, ◌-◌, ◌^◌, ◌≤◌, ◌<◌}
use mathlib.Core.Path.{◌≡◌, sym, ◌∙◌}
use mathlib.Core.Bool.{Bool, true, false, cond, not, ◌&&◌}
use mathlib.Core.List.{List, [], ◌∷◌}
use native.Mathlib.Omega.{arith}
use lib.Bits.{bit_and, and_zero_l, and_zero_r, and_self}
use lib.Dec.{eqb}
use lib.ListN.{length}
use Rattle.code.specs.Lists.{Upto}
use Rattle.code.specs.Resume.{freshly}
use Rattle.code.proofs.Report.{freshly-long, freshly-flags}
use Rattle.words.specs.Words.{word_groups}
use Rattle.words.specs.Marks.{marks_of, word_marks, groups_in, open_group, erased_group}
use Rattle.words.proofs.Masks.{groups-long}
use Rattle.words.proofs.Packed.{packed, groups-packed}
use Rattle.words.proofs.Erasing.{full-some}
use Rattle.words.proofs.Wiped.{joined}

upto-more : (b c : ℕ) (xs : List ℕ) → b ≤ c → Upto b xs → Upto c xs
upto-more b c [] h u = tt
upto-more b c (x ∷ xs) h u = (omega (arith, u.0), upto-more b c xs h u.1)

flag-both : (a b : Bool) → bit_and (cond (not a) 1 0) (cond b 1 0) ≡ cond (b && not a) 1 0
flag-both true true = and_zero_l 1
flag-both true false = and_zero_l 0
flag-both false true = and_self 1
flag-both false false = and_zero_r 1

-- the marks in both words are the flags, a group for each
marks-fresh : (m e : ℕ) (xs ys : List ℕ) → 0 < m → length xs ≡ length ys →
    bit_and (marks_of m (open_group e) xs) (marks_of m (erased_group e) ys) ≡ packed m (freshly e xs ys)
unfolding marks_of freshly packed
marks-fresh m e [] [] pos l = and_zero_l 0
marks-fresh m e [] (y ∷ ys) pos l = absurd (omega arith)
marks-fresh m e (x ∷ xs) [] pos l = absurd (omega arith)
marks-fresh m e (x ∷ xs) (y ∷ ys) pos l =
    joined m (open_group e) (erased_group e) xs ys (cond (open_group e x) 1 0) (cond (erased_group e y) 1 0) pos (omega arith)
    ∙ rw (flag-both (eqb x e) (eqb y e), marks-fresh m e xs ys pos (omega arith), freshly-long e xs ys (omega arith))

pub fresh-groups : (m before after a b : ℕ) → 2 ≤ m → m ≤ 4 →
    a ≡ word_marks m (open_group (2 ^ m - 1)) before → b ≡ word_marks m (erased_group (2 ^ m - 1)) after →
    groups_in m (bit_and a b) ≡ freshly (2 ^ m - 1) (groups_in m before) (groups_in m after)
fresh-groups m before after a b h l qa qb =
    let e : ℕ = 2 ^ m - 1 in
    let xs = groups_in m before in
    let ys = groups_in m after in
    let same : length xs ≡ length ys = groups-long m (word_groups m) before ∙ sym (groups-long m (word_groups m) after) in
    let long : length (freshly e xs ys) ≡ word_groups m = freshly-long e xs ys same ∙ groups-long m (word_groups m) before in
    let flags = upto-more 1 e (freshly e xs ys) (full-some m h l) (freshly-flags e xs ys) in
    rw (qa, qb, marks-fresh m e xs ys (omega arith) same) (rw long at (groups-packed m (freshly e xs ys) flags))
