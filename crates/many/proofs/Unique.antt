-- The promise of `write_many` leaves no choice: two answers that it allows are equal, and so are the cells at exit.
use Prim.Native.Nat.{ℕ}
use mathlib.Core.Path.{◌≡◌, sym, ◌∙◌}
use mathlib.Core.List.{List}
use lib.ListN.{take, drop, take-append-drop}
use Rattle.code.specs.declared.Shape.{Shape}
use Rattle.code.specs.Many.{many_reply, many_leaves}
use Rattle.many.specs.declared.Many.{Many}
use Rattle.many.specs.Answers.{many_of}

same-many : (r r' : Many) → many_of r ≡ many_of r' → r ≡ r'
same-many r r' q =
    let a : r.refusal ≡ r'.refusal = cc in
    let b : r.stopped ≡ r'.stopped = cc in
    let c : r.field ≡ r'.field = cc in
    let d : r.written ≡ r'.written = cc in
    let g : r.reached ≡ r'.reached = cc in
    let u : r.unerased ≡ r'.unerased = cc in
    let e : take 64 r.rows ≡ take 64 r'.rows = cc in
    let f : drop 64 r.rows ≡ drop 64 r'.rows = cc in
    let both : r.rows ≡ r'.rows = sym (take-append-drop 64 r.rows) ∙ rw (e, f) (take-append-drop 64 r'.rows) in
    λ i. record { refusal = a i; stopped = b i; field = c i; written = d i; reached = g i; unerased = u i; rows = both i }

pub unique-write-many : (s : Shape) (numbers cells after after' : List ℕ) (r r' : Many)
    → many_of r ≡ many_reply s numbers cells → after ≡ many_leaves s numbers cells
    → many_of r' ≡ many_reply s numbers cells → after' ≡ many_leaves s numbers cells → (r ≡ r') × (after ≡ after')
unique-write-many s numbers cells after after' r r' p l p' l' = (same-many r r' (p ∙ sym p'), l ∙ sym l')
