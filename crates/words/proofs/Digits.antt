-- The next values of an array, laid into the zero groups of a word.
use mathlib.Core.Path.{◌≡◌}
use mathlib.Core.List.{List, [], ◌∷◌, ◌++◌}
use Prim.Native.Nat.{ℕ, suc, ◌+◌, ◌*◌, ◌-◌, ◌^◌, ◌≤◌, ◌<◌}
use native.Mathlib.Omega.{arith}
use native.Mathlib.Nat.{sub_self}
use lib.Count.{ones, ones_in}
use lib.ListN.{length, get_or, take, drop, length-take, length-drop}
use lib.Seq.{take-suc, length-take-le, get_or-drop, get_or-take}
use Rattle.code.proofs.Chosen.{pattern_most}
use Rattle.code.specs.Field.{zeros}
use Rattle.code.specs.Lists.{Upto}
use Rattle.code.proofs.Cells.{upto-at, upto_all}
use Rattle.words.specs.Marks.{groups_in, top_of, Blanks, WordLaid}
use Rattle.words.proofs.Laying.{Laying, laying-none, laying-ones, laying-some, laying-more, laying-all}

-- the values before i are laid
pub record Digits (m w : ℕ) (values : List ℕ) (at word left i : ℕ) : Type 0 where
  pub long : length values ≡ pattern_most
  pub from : at ≤ i
  pub upto : i ≤ at + zeros (groups_in m w)
  pub few : at + zeros (groups_in m w) ≤ pattern_most
  pub small : Upto (2 ^ m - 1) (take (zeros (groups_in m w)) (drop at values))
  pub laid : Laying m w (take (i - at) (drop at values)) word left

pub digits-none : {m w o : ℕ} {values : List ℕ} {at : ℕ} → Blanks m w o → length values ≡ pattern_most → at + zeros (groups_in m w) ≤ pattern_most
    → Upto (2 ^ m - 1) (take (zeros (groups_in m w)) (drop at values)) → Digits m w values at w o at
digits-none {m} {w} {o} {values} {at} B l f u = record {
  long = l;
  from = omega arith;
  upto = omega arith;
  few = f;
  small = u;
  laid = rw (sub_self at) (laying-none B.wide B.narrow B.tidy B.marked);
}

module _ {m w : ℕ} {values : List ℕ} {at word left i : ℕ} (C : Digits m w values at word left i) where
  laid-long : length (take (i - at) (drop at values)) ≡ i - at
  laid-long = length-take-le (i - at) (drop at values) (rw (length-drop at values) (omega (arith, C.long, C.upto, C.few)))

  module _ (h : 0 < left) where
    more : i - at < zeros (groups_in m w)
    more = omega (arith, laid-long, laying-some C.laid h)

    pub digits-room : i < pattern_most
    digits-room = omega (arith, more, C.from, C.few)

    small-here : get_or values i 0 ≤ 2 ^ m - 1
    small-here =
        let z = zeros (groups_in m w) in
        let e : at + (i - at) ≡ i = omega (arith, C.from) in
        rw (get_or-take z (drop at values) (i - at) 0 more, get_or-drop at values (i - at) 0, e) at
        (upto-at (2 ^ m - 1) (take z (drop at values)) (i - at) C.small)

    next : take (i + 1 - at) (drop at values) ≡ take (i - at) (drop at values) ++ get_or values i 0 ∷ []
    next =
        let s : i + 1 - at ≡ suc (i - at) = omega (arith, C.from) in
        let e : at + (i - at) ≡ i = omega (arith, C.from) in
        let l : i - at < length (drop at values) = rw (length-drop at values) (omega (arith, C.long, digits-room, C.from)) in
        rw (s, take-suc (drop at values) (i - at) 0 l, get_or-drop at values (i - at) 0, e)

    pub digits_more : Digits m w values at (word + get_or values i 0 * 2 ^ top_of left) (left - 2 ^ top_of left) (i + 1)
    digits_more = record {
      long = C.long;
      from = omega (arith, C.from);
      upto = omega (arith, more, C.from);
      few = C.few;
      small = C.small;
      laid = rw next (laying-more C.laid (get_or values i 0) (rw laid-long more) small-here);
    }

    pub digits-fits : word + get_or values i 0 * 2 ^ top_of left < 2 ^ 64
    digits-fits = (laying-all digits_more.laid).2

  pub digits-all : left ≡ 0 → WordLaid m w (take (zeros (groups_in m w)) (drop at values)) word × (i ≡ at + zeros (groups_in m w))
  unfolding ones ones_in
  digits-all z =
      let o : ones left ≡ 0 = rw z in
      let n : i - at ≡ zeros (groups_in m w) = omega (arith, laid-long, laying-ones C.laid, C.upto, C.from) in
      let l = laying-all C.laid in
      (record { tidy = l.1; made = rw (← n) l.0 }, omega (arith, C.from))

-- a part of values that are small
pub upto-part : (e : ℕ) (xs : List ℕ) (s a b : ℕ) → a + b ≤ s → Upto e (take s xs) → Upto e (take b (drop a xs))
upto-part e xs s a b h u = upto_all e (take b (drop a xs)) (λ i l.
    let k : i < b = omega (arith, length-take b (drop a xs)) in
    rw (get_or-take b (drop a xs) i 0 k, get_or-drop a xs i 0, ← get_or-take s xs (a + i) 0 (omega arith)) (upto-at e (take s xs) (a + i) u))
