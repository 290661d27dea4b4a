-- The call that tells a listed layout: in its fields, and by the way that a dump opens.
use Prim.Native.Nat.{ℕ, zero, suc, ◌≤◌, ◌<◌}
use mathlib.Core.Path.{◌≡◌, refl, sym, ap, ◌∙◌}
use mathlib.Core.Bool.{Bool, true, false, cond}
use mathlib.Core.List.{List, [], ◌∷◌, ◌++◌}
use native.Mathlib.Omega.{arith}
use lib.Dec.{ltb, leb}
use lib.ListN.{length, get_or, take, replicate}
use borrow.Author.Tests.{le-leb, lt-leb}
use Rattle.code.specs.declared.Kind.TheVariants.{New}
use Rattle.code.specs.declared.Shape.{Shape}
use Rattle.code.specs.Calls.{filled, refusal, answer}
use Rattle.code.specs.LayoutList.{Listed, unlisted, listed_shape, Layouts, broken_list, layouts, layout_list}
use Rattle.code.specs.Dump.{barred, entered, behind_list, opening_as, opening}
use Rattle.code.specs.NewDump.{listed_as, listed_behind, listed_reply, listed_fields}
use Rattle.records.specs.Source.{layouts_at, source_of}
use Rattle.code.specs.declared.Refusal.{Refusal}
use Rattle.code.specs.declared.Refusal.TheVariants.{Bounds}
use Rattle.code.specs.Refusals.{refusal_reply, number_of}
use Rattle.code.proofs.Refused.{refused-some}
use Rattle.code.proofs.LayoutCall.{filled_at}
use Rattle.dump.specs.Answers.{refusal_of, opened_of, Opens}
use Rattle.dump.specs.Listed.{listed_of, Listing}
use Rattle.dump.specs.declared.Halt.TheVariants.{Malformed, Oversize}
use Rattle.dump.specs.declared.Halt.{Halt}
use Rattle.dump.specs.declared.Opened.{Opened}
use Rattle.std.proofs.Common.{Result, Ok, Err}
use Rattle.dump.proofs.Walking.{opened-barred}

-- so many places of a list with zeros behind it, however many these are
zeros-enough : (n j k : ℕ) (xs : List ℕ) → n ≤ j → n ≤ k → take n (xs ++ replicate j 0) ≡ take n (xs ++ replicate k 0)
zeros-enough zero j k xs a b = refl
zeros-enough (suc n) zero k xs a b = absurd (omega arith)
zeros-enough (suc n) (suc j) zero xs a b = absurd (omega arith)
zeros-enough (suc n) (suc j) (suc k) [] a b = ap (◌∷◌ 0) (zeros-enough n j k [] (omega arith) (omega arith))
zeros-enough (suc n) (suc j) (suc k) (x ∷ xs) a b = ap (◌∷◌ x) (zeros-enough n (suc j) (suc k) xs (omega arith) (omega arith))

module _ (ls : List Listed) (number : ℕ) where
  pub listed-none : length ls ≤ number → listed_of (Err Bounds) ≡ filled listed_fields (listed_as ls number)
  unfolding listed_as filled refusal answer
  listed-none h = rw (le-leb (length ls) number h)

  pub listed-some : (s : Shape) → number < length ls → s ≡ listed_shape (get_or ls number unlisted) →
      listed_of (Ok s) ≡ filled listed_fields (listed_as ls number)
  unfolding listed_as listed_shape filled refusal answer
  listed-some s h e =
      let l : Listed = get_or ls number unlisted in
      let front : List ℕ → List ℕ = λ v. 0 ∷ l.form ∷ l.m ∷ l.t ∷ length l.ranges ∷ v in
      rw (e, lt-leb (length ls) number h) (ap front (zeros-enough 16 16 21 l.ranges (omega arith) (omega arith)))

-- a new dump that opens, and one that is refused as a whole
module _ {bytes places : List ℕ} {r : Result Opened Halt} (number : ℕ) (o : Opens New bytes places r) where
  pub listed-opened : (d : Opened) → r ≡ Ok d →
      filled listed_fields (listed_as (layouts_at bytes (take d.layouts places)) number) ≡ filled listed_fields (listed_reply bytes number)
  unfolding listed_reply listed_behind source_of
  listed-opened d e =
      let q : entered (source_of New bytes (take d.layouts places)) d.start ≡ opening New bytes = ap (opened_of New bytes places) (sym e) ∙ o.opens in
      ap (λ w. filled listed_fields (listed_behind w number)) q

  pub listed-barred : {halt : Halt} → r ≡ Err halt → listed_of (Err (refusal_of halt)) ≡ filled listed_fields (listed_reply bytes number)
  unfolding listed_reply listed_behind opening opening_as behind_list filled
  listed-barred {halt = Malformed offset} e = ap (λ w. filled listed_fields (listed_behind w number)) (opened-barred o e)
  listed-barred {halt = Oversize} e = ap (λ w. filled listed_fields (listed_behind w number)) (opened-barred o e)

-- what this call is refused with carries nothing but 0
pub listed-bare : (bytes : List ℕ) (number : ℕ) → Listing (listed_reply bytes number)
unfolding listed_reply listed_behind opening opening_as behind_list listed_as filled refusal answer
listed-bare bytes number = go (ltb 65536 (length bytes)) (layout_list bytes)
  where
    go : (long : Bool) (list : Layouts) → Listing (listed_behind (cond long (barred 8 []) (behind_list list)) number)
    go true list some = refl
    go false broken_list some = refl
    go false (layouts ls start) some = on (leb (length ls) number) some
      where
        on : (off : Bool) → Listing (answer (refusal ((1 ∷ [], off) ∷ [])) (let l = get_or ls number unlisted in l.form ∷ l.m ∷ l.t ∷ length l.ranges ∷ l.ranges))
        on true some = refl
        on false some = absurd (omega arith)

-- a refusal in the fields of the struct
pub flat-bare : (reply : List ℕ) (k : Refusal) → Listing reply → listed_of (Err k) ≡ filled listed_fields reply → number_of k ∷ replicate 20 0 ≡ filled listed_fields reply
flat-bare reply k bare told =
    let same : get_or reply 0 0 ≡ number_of k = sym (filled_at listed_fields reply 0 (omega arith)) ∙ ap (λ l. get_or l 0 0) (sym told)
    ∙ filled_at listed_fields (refusal_reply k) 0 (omega arith) in
    rw (bare (omega (arith, refused-some k)), same)
