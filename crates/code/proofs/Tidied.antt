-- What stands behind the ranges of a shape is not looked at: shapes of the same form, m and t with the same ranges given are read alike, among them a shape and
-- what a dump gives back of it.
use Prim.Native.Nat.{ℕ, ◌<◌}
use mathlib.Core.Path.{◌≡◌, sym, ap, ◌∙◌}
use mathlib.Core.List.{List}
use native.Mathlib.Omega.{arith}
use lib.ListN.{length, get_or}
use Rattle.code.specs.declared.Shape.{Shape}
use Rattle.code.specs.Shape.{given, ranges_of, outside}
use Rattle.code.specs.Calls.{read_reply}
use Rattle.code.specs.LayoutList.{Listed, listed_shape, listed_of}
use Rattle.code.specs.Dump.{shape_numbers}
use Rattle.code.proofs.LayoutCall.{Bounds, given-length, given-at, count-some, count-few}
use Rattle.code.proofs.SameCode.{SameCode, read_same}
use Rattle.code.proofs.LayoutLists.{shape-back}

module _ (s r : Shape) (same : listed_of s ≡ listed_of r) (some : 0 < s.count) where
  form-same : s.form ≡ r.form
  unfolding listed_of
  form-same = ap (λ (l : Listed). l.form) same

  m-same : s.m ≡ r.m
  unfolding listed_of
  m-same = ap (λ (l : Listed). l.m) same

  t_same : s.t ≡ r.t
  unfolding listed_of
  t_same = ap (λ (l : Listed). l.t) same

  given-same : given s ≡ given r
  unfolding listed_of
  given-same = ap (λ (l : Listed). l.ranges) same

  count_same : s.count ≡ r.count
  count_same = sym (given-length s) ∙ ap length given-same ∙ given-length r

  first_range : get_or s.v 0 0 ≡ get_or r.v 0 0
  first_range = sym (given-at s 0 some) ∙ rw given-same (given-at r 0 (omega (arith, count_same)))

  given-code : SameCode s r
  unfolding outside ranges_of
  given-code = record {
    m-same = m-same;
    t_same = t_same;
    blank-same = rw form-same;
    outside-same = λ g. rw (given-same, form-same, m-same, t_same, count_same);
    ranges-same = rw (given-same, form-same, t_same, first_range);
  }

  -- they read alike, and their numbers are the same
  pub read-given : (bs : List ℕ) → read_reply s bs ≡ read_reply r bs
  read-given = read_same s r given-code

  pub numbers-given : shape_numbers s ≡ shape_numbers r
  numbers-given = rw (form-same, m-same, t_same, first_range)

-- A shape as a dump gives it back: with its ranges, and 0 behind them.
abbrev pub tidied : Shape → Shape
tidied s = listed_shape (listed_of s)

module _ (s : Shape) (b : Bounds s) where
  tidied-given : listed_of (tidied s) ≡ listed_of s
  unfolding listed_of
  tidied-given = shape-back (listed_of s) (omega (arith, given-length s, count-few s b))

  tidied-some : 0 < (tidied s).count
  unfolding listed_shape listed_of
  tidied-some = omega (arith, given-length s, count-some s b)

  -- it reads as the shape, and its numbers are the same
  pub read-tidied : (bs : List ℕ) → read_reply (tidied s) bs ≡ read_reply s bs
  read-tidied = read-given (tidied s) s tidied-given tidied-some

  pub numbers-tidied : shape_numbers (tidied s) ≡ shape_numbers s
  numbers-tidied = numbers-given (tidied s) s tidied-given tidied-some
