-- The reply of a step, case by case, and what a reply tells of the step.
use Prim.Native.Nat.{ℕ, suc, ◌≤◌, ◌<◌}
use mathlib.Core.Path.{◌≡◌, refl, ap, sym, ◌∙◌}
use mathlib.Core.Bool.{Bool, true, false, cond}
use mathlib.Core.List.{List, [], ◌∷◌, ◌++◌}
use native.Mathlib.Omega.{arith}
use lib.Dec.{ltb}
use lib.ListN.{length, length-append}
use Rattle.code.specs.declared.Kind.{Kind}
use Rattle.code.specs.declared.Kind.TheVariants.{Old, New}
use Rattle.code.specs.Numerals.{Numbers, cut, numbers, read_numbers}
use Rattle.code.specs.LayoutList.{Layouts, broken_list, layouts, layout_list}
use Rattle.code.specs.Dump.{Record, Source, head_length, broken, found, record_at, step_in, Step, taken, ended, stopped, Opening, barred, entered, behind_list, opening_as, opening, step_on, step}
use Rattle.code.specs.Dump.{record_numbers, outcome, step_values, step_reply}
use Rattle.code.proofs.Tests.{clash}

-- two lists are the same in front, where they are as long there, and behind
append-same : (xs ys more rest : List ℕ) → length xs ≡ length ys → xs ++ more ≡ ys ++ rest → (xs ≡ ys) × (more ≡ rest)
append-same [] [] more rest l e = (refl, e)
append-same [] (y ∷ ys) more rest l e = absurd (omega arith)
append-same (x ∷ xs) [] more rest l e = absurd (omega arith)
append-same (x ∷ xs) (y ∷ ys) more rest l e =
    let h : x ≡ y = cc in
    let w = append-same xs ys more rest (omega arith) (cc) in
    (rw (h, w.0), w.1)

-- a step stops, and a dump is barred, with a refusal that carries one number at most
abbrev pub Refusing : Step → Type 0
Refusing (taken r) = Unit {0}
Refusing ended = Unit {0}
Refusing (stopped k carried) = (0 < k) × (length carried ≤ 1)

abbrev pub Barring : Opening → Type 0
Barring (barred k carried) = (0 < k) × (length carried ≤ 1)
Barring (entered source start) = Unit {0}

module _ (kind : Kind) (bytes : List ℕ) where
  pub open-barring : Barring (opening kind bytes)
  unfolding opening opening_as behind_list
  open-barring = go (ltb 65536 (length bytes)) kind (layout_list bytes)
    where
      behind : (ls : Layouts) → Barring (behind_list ls)
      behind broken_list = (omega arith, omega arith)
      behind (layouts ls start) = tt

      go : (long : Bool) (kind : Kind) (ls : Layouts) → Barring (cond long (barred 8 []) (opening_as kind bytes))
      go true kind ls = (omega arith, omega arith)
      go false Old ls = tt
      go false New ls = behind (layout_list bytes)

  pub step-refusing : (at : ℕ) → Refusing (step kind bytes at)
  unfolding step step_on step_in found
  step-refusing at = go (opening kind bytes) open-barring
    where
      inside : (source : Source) (b c : Bool) (ns : Numbers) → Refusing (cond b (cond c (stopped 7 (at ∷ [])) (found source ns)) ended)
      inside source true true ns = (omega arith, omega arith)
      inside source true false cut = tt
      inside source true false (numbers xs start) = tt
      inside source false c ns = tt

      go : (o : Opening) → Barring o → Refusing (step_on o bytes at)
      go (barred k carried) p = p
      go (entered source start) p =
          let ns = read_numbers (suc (head_length source)) bytes at in
          inside source (ltb at (length bytes)) (broken source bytes ns) ns

  module _ (at : ℕ) where
    -- the record that a reply tells of, by its eight numbers
    pub told-record : (xs reply : List ℕ) → length xs ≡ 8 → 0 ∷ (xs ++ reply) ≡ step_reply kind bytes at →
        (r : Record) × (step kind bytes at ≡ taken r) × (record_numbers r ≡ xs) × (outcome bytes r ≡ reply)
    unfolding step_reply step_values record_numbers
    told-record xs reply l e = go (step kind bytes at) refl (step-refusing at) e
      where
        go : (s : Step) → step kind bytes at ≡ s → Refusing s → 0 ∷ (xs ++ reply) ≡ step_values bytes s →
            (r : Record) × (step kind bytes at ≡ taken r) × (record_numbers r ≡ xs) × (outcome bytes r ≡ reply)
        go (taken r) q _ e =
            let w = append-same xs (record_numbers r) reply (outcome bytes r) l (cc) in
            (r, q, sym w.0, sym w.1)
        go ended q _ e = absurd (omega (arith, ap length e, length-append xs reply))
        go (stopped k carried) q p e = let z : 0 ≡ k = cc in absurd (omega (arith, p.0))

    pub told-ended : 0 ∷ [] ≡ step_reply kind bytes at → step kind bytes at ≡ ended
    unfolding step_reply step_values record_numbers
    told-ended e = go (step kind bytes at) refl (step-refusing at) e
      where
        go : (s : Step) → step kind bytes at ≡ s → Refusing s → 0 ∷ [] ≡ step_values bytes s → step kind bytes at ≡ ended
        go (taken r) q _ e = clash (cc)
        go ended q _ e = q
        go (stopped k carried) q p e = let z : 0 ≡ k = cc in absurd (omega (arith, p.0))

    pub told-stopped : (k : ℕ) (carried : List ℕ) → 0 < k → k ∷ carried ≡ step_reply kind bytes at → step kind bytes at ≡ stopped k carried
    unfolding step_reply step_values
    told-stopped k carried p e = go (step kind bytes at) refl e
      where
        go : (s : Step) → step kind bytes at ≡ s → k ∷ carried ≡ step_values bytes s → step kind bytes at ≡ stopped k carried
        go (taken r) q e = let z : k ≡ 0 = cc in absurd (omega arith)
        go ended q e = let z : k ≡ 0 = cc in absurd (omega arith)
        go (stopped j xs) q e = cc
