-- What the loop over the fields knows: begun, a field more, stopped at one, at the end.
use Prim.Native.Nat.{ℕ, suc, ◌+◌, ◌*◌, ◌-◌, ◌≤◌, ◌<◌}
use mathlib.Core.Path.{◌≡◌, refl, sym, ap, ◌∙◌}
use mathlib.Core.Bool.{true, false}
use mathlib.Core.List.{List, [], ◌∷◌, ◌++◌, map, append_assoc, append-nil}
use native.Mathlib.Omega.{arith}
use native.Mathlib.Nat.{zero-mul, mul-le-mul}
use native.Mathlib.Numerals.{add-one}
use lib.ListN.{length, get_or, take, drop, set, replicate, length-append, length-map, length-drop, length-replicate, replicate-append-replicate, drop_of_length-le, take-append-drop}
use lib.Seq.{take_at, drop_at, drop-cons, take-append-add, set-append_seam, take-set-le, take-set-lt, drop-set-add, drop-set-lt}
use lib.Dec.{eqb}
use borrow.Author.Tests.{ne_eqb}
use Rattle.code.specs.declared.Shape.{Shape}
use Rattle.code.specs.Calls.{answer, passes, filled, write_refusal, write_reply, write_leaves, generation_in, turned_in}
use Rattle.code.specs.Many.{numbers_most, field_bytes, many_replies, many_cells, made_replies, stop_reply, many_numbers, many_told}
use Rattle.code.proofs.WriteCall.{write-some}
use Rattle.std.proofs.Common.{Some}
use Rattle.code.specs.declared.Refusal.{Refusal}
use Rattle.code.specs.Refusals.{refusal_reply}
use Rattle.code.proofs.Refused.{refused-some}
use Rattle.many.specs.Answers.{stopped_at}
use Rattle.code.proofs.Many.{leaves-length}

-- a list that is filled up with zeros, and a number more in it
filled_is : (n : ℕ) (xs : List ℕ) → length xs ≤ n → filled n xs ≡ xs ++ replicate (n - length xs) 0
unfolding filled
filled_is n xs h =
    let rest = n - length xs in
    let e : n ≡ length xs + rest = omega arith in
    let e' : n ≡ rest + length xs = omega arith in
    let zeros : replicate {A = ℕ} n 0 ≡ replicate rest 0 ++ replicate (length xs) 0 =
    ap (λ (k : ℕ). replicate {A = ℕ} k 0) e' ∙ sym (replicate-append-replicate rest (length xs) 0) in
    ap (λ k. take k (xs ++ replicate n 0)) e ∙ take-append-add xs (replicate n 0) rest
    ∙ ap (◌++◌ xs) (ap (take rest) zeros ∙ take_at (replicate rest 0) (replicate (length xs) 0) rest (length-replicate rest 0))

filled_more : (n x : ℕ) (xs : List ℕ) → length xs < n → set (filled n xs) (length xs) x ≡ filled n (xs ++ (x ∷ []))
filled_more n x xs h =
    let rest = n - suc (length xs) in
    let e : n - length xs ≡ suc rest = omega arith in
    let long : length (xs ++ (x ∷ [])) ≡ suc (length xs) = omega (arith, length-append xs (x ∷ [])) in
    let e' : n - length (xs ++ (x ∷ [])) ≡ rest = omega (arith, long) in
    ap (λ l. set l (length xs) x) (filled_is n xs (omega arith) ∙ ap (λ k. xs ++ replicate k 0) e)
    ∙ set-append_seam xs 0 (replicate rest 0) x
    ∙ sym (filled_is n (xs ++ (x ∷ [])) (omega (arith, long)) ∙ ap (λ k. (xs ++ (x ∷ [])) ++ replicate k 0) e' ∙ append_assoc xs (x ∷ []) (replicate rest 0))

map_more : (f : List ℕ → ℕ) (xs : List (List ℕ)) (y : List ℕ) → map f (xs ++ (y ∷ [])) ≡ map f xs ++ (f y ∷ [])
map_more f [] y = refl
map_more f (x ∷ xs) y = ap (◌∷◌ (f x)) (map_more f xs y)

-- a column of the answer, and the number of one reply more
column-more : (f : List ℕ → ℕ) (made : List (List ℕ)) (reply column : List ℕ) (j : ℕ) → length made ≡ j → j < numbers_most →
    column ≡ filled numbers_most (map f made) → set column j (f reply) ≡ filled numbers_most (map f (made ++ (reply ∷ [])))
column-more f made reply column j many low e =
    let long : length (map f made) ≡ j = length-map made f ∙ many in
    ap (λ l. set l j (f reply)) e ∙ ap (λ n. set (filled numbers_most (map f made)) n (f reply)) (sym long)
    ∙ filled_more numbers_most (f reply) (map f made) (omega (arith, long)) ∙ ap (filled numbers_most) (sym (map_more f made reply))

-- the generations and the turned counts of replies
abbrev pub generations_of : List (List ℕ) → List ℕ
generations_of made = map (λ reply. generation_in reply) made

abbrev pub turned_of : List (List ℕ) → List ℕ
turned_of made = map (λ reply. turned_in reply) made

-- j fields are written: their replies are made, and what the definitions say of all is those and what they say of the rest
pub record Going (s : Shape) (xs bytes cells generations turned : List ℕ) (j : ℕ) : Type 0 where
  pub made : List (List ℕ)
  pub many : length made ≡ j
  pub few : j ≤ length xs
  pub same : length cells ≡ length bytes
  pub replies : many_replies s xs bytes ≡ made ++ many_replies s (drop j xs) (drop (j * field_bytes s) cells)
  pub accepted : (rest : List (List ℕ)) → (made_replies (made ++ rest) ≡ made ++ made_replies rest) × (stop_reply (made ++ rest) ≡ stop_reply rest)
  pub leaves : many_cells s xs bytes ≡ take (j * field_bytes s) cells ++ many_cells s (drop j xs) (drop (j * field_bytes s) cells)
  pub generation : generations ≡ filled numbers_most (generations_of made)
  pub turns : turned ≡ filled numbers_most (turned_of made)

pub going-begin : (s : Shape) (xs bytes zeros zeros' : List ℕ) → zeros ≡ replicate 64 0 → zeros' ≡ replicate 64 0 → Going s xs bytes bytes zeros zeros' 0
unfolding filled
going-begin s xs bytes zeros zeros' z z' = record {
  made = [];
  many = refl;
  few = omega arith;
  same = refl;
  replies = rw zero-mul;
  accepted = λ rest. (refl, refl);
  leaves = rw zero-mul;
  generation = z;
  turns = z';
}

refusal-passes : (k : Refusal) → passes (refusal_reply k) ≡ false
unfolding passes
refusal-passes k = go (refusal_reply k) (refused-some k)
  where
    go : (r : List ℕ) → 0 < get_or r 0 0 → passes r ≡ false
    go [] l = absurd (omega arith)
    go (n ∷ carried) l = refl

-- what a single write's reply tells: no refusal where it begins with 0, and one where it has a number alone
written-passes : (s : Shape) (x i k : ℕ) (bs : List ℕ) → 0 ∷ i ∷ k ∷ [] ≡ write_reply s x bs → passes (write_refusal s x bs) ≡ true
unfolding write_reply answer passes
written-passes s x i k bs e = go (write_refusal s x bs) refl _ e
  where
    go : (r : List ℕ) → write_refusal s x bs ≡ r → (values : List ℕ) → 0 ∷ i ∷ k ∷ [] ≡ answer r values → passes r ≡ true
    go [] q values e = refl
    go (n ∷ carried) q values e = let z : 0 ≡ n = cc in absurd (omega (arith, write-some s x bs n carried q))

refused-not : (s : Shape) (x : ℕ) (k : Refusal) (bs : List ℕ) → refusal_reply k ≡ write_reply s x bs →
    (passes (write_refusal s x bs) ≡ false) × (0 < get_or (refusal_reply k) 0 0)
unfolding write_reply answer passes
refused-not s x k bs e = go (write_refusal s x bs) refl _ _ e
  where
    go : (r : List ℕ) → write_refusal s x bs ≡ r → (a b : ℕ) → refusal_reply k ≡ answer r (a ∷ b ∷ []) → (passes r ≡ false) × (0 < get_or (refusal_reply k) 0 0)
    go [] q a b e = absurd (omega (arith, refused-some k, ap (λ r. get_or r 0 0) e))
    go (n ∷ carried) q a b e = (refl, rw e (write-some s x bs n carried q))

-- the field at j and what is behind it
module _ {s : Shape} {xs bytes cells generations turned : List ℕ} {j : ℕ} (g : Going s xs bytes cells generations turned j) (more : j < length xs) where
  abbrev size : ℕ
  size = field_bytes s

  abbrev rest : List ℕ
  rest = drop (j * size) cells

  abbrev x : ℕ
  x = get_or xs j 0

  ahead : drop j xs ≡ x ∷ drop (suc j) xs
  ahead = drop-cons xs j 0 more

  -- the cells up to the next field, written
  abbrev front : List ℕ
  front = take (j * size) cells ++ write_leaves s x (take size rest)

  module _ (after : List ℕ) (left : after ≡ take (j * size) cells ++ (write_leaves s x (take size rest) ++ drop size rest)) where
    after_is : after ≡ front ++ drop size rest
    after_is = left ∙ sym (append_assoc (take (j * size) cells) (write_leaves s x (take size rest)) (drop size rest))

    pub after_same : length after ≡ length cells
    after_same =
        let a = ap length after_is ∙ length-append front (drop size rest) in
        let b = length-append (take (j * size) cells) (write_leaves s x (take size rest)) in
        let c = sym (length-append (take (j * size) cells) rest) ∙ ap length (take-append-drop (j * size) cells) in
        let d = sym (length-append (take size rest) (drop size rest)) ∙ ap length (take-append-drop size rest) in
        omega (arith, a, b, c, d, leaves-length s x (take size rest))

    front_long : length bytes ≡ length xs * size → length front ≡ (j + 1) * size
    front_long long =
        let within = mul-le-mul {n₁ = j + 1} {m₁ = size} {n₂ = length xs} {m₂ = size} (omega arith) (omega arith) in
        let all = ap length after_is ∙ length-append front (drop size rest) in
        omega (arith, within, all, after_same, long, g.same, length-drop size rest, length-drop (j * size) cells)

    pub going_next : (i k : ℕ) → j < numbers_most → length bytes ≡ length xs * size →
        0 ∷ i ∷ k ∷ [] ≡ write_reply s x (take size rest) → Going s xs bytes after (set generations j i) (set turned j k) (j + 1)
    unfolding many_replies many_cells made_replies stop_reply
    going_next i k low long reply =
        let one : List ℕ = 0 ∷ i ∷ k ∷ [] in
        let made = g.made in
        let p = written-passes s x i k (take size rest) reply in
        let dropped : drop ((j + 1) * size) after ≡ drop size rest = ap (drop ((j + 1) * size)) after_is ∙ drop_at front (drop size rest) _ (front_long long) in
        let taken : take ((j + 1) * size) after ≡ front = ap (take ((j + 1) * size)) after_is ∙ take_at front (drop size rest) _ (front_long long) in
        let step : many_replies s (drop j xs) rest ≡ one ∷ many_replies s (drop (suc j) xs) (drop size rest) = rw (ahead, p, ← reply) in
        let step' : many_cells s (drop j xs) rest ≡ write_leaves s x (take size rest) ++ many_cells s (drop (suc j) xs) (drop size rest) = rw (ahead, p) in
        record {
          made = made ++ (one ∷ []);
          many = omega (arith, length-append made (one ∷ []), g.many);
          few = omega arith;
          same = after_same ∙ g.same;
          replies = g.replies ∙ ap (◌++◌ made) step ∙ rw (dropped, add-one j) (sym (append_assoc made (one ∷ []) (many_replies s (drop (suc j) xs) (drop size rest))));
          accepted = λ rest.
              let e = append_assoc made (one ∷ []) rest in
              (ap made_replies e ∙ (g.accepted (one ∷ rest)).0 ∙ sym (append_assoc made (one ∷ []) (made_replies rest)), ap stop_reply e ∙ (g.accepted (one ∷ rest)).1);
          leaves = g.leaves ∙ ap (◌++◌ (take (j * size) cells)) step' ∙ rw (dropped, taken, add-one j) (sym (append_assoc (take (j * size) cells) (write_leaves s x (take size rest)) (many_cells s (drop (suc j) xs) (drop size rest))));
          generation = column-more (λ reply. generation_in reply) made one generations j g.many low g.generation;
          turns = column-more (λ reply. turned_in reply) made one turned j g.many low g.turns;
        }

    -- the field is refused: the answer tells it, and the cells are as they are left
    pub going-stop : (k : Refusal) → refusal_reply k ≡ write_reply s x (take size rest) →
        (stopped_at (refusal_reply k) (Some j) ∷ generations ∷ turned ∷ [] ≡ many_told (many_replies s xs bytes)) × (after ≡ many_cells s xs bytes)
    unfolding many_replies many_cells made_replies stop_reply many_numbers many_told passes
    going-stop k reply =
        let one : List ℕ = refusal_reply k in
        let made = g.made in
        let p = refused-not s x k (take size rest) reply in
        let some : eqb (get_or one 0 0) 0 ≡ false = ne_eqb (get_or one 0 0) 0 (λ z. omega (arith, p.1)) in
        let stopped : passes one ≡ false = refusal-passes k in
        let step : many_replies s xs bytes ≡ made ++ (one ∷ []) = g.replies ∙ ap (◌++◌ made) (rw (ahead, p.0, ← reply)) in
        let stop : stop_reply (many_replies s xs bytes) ≡ one = ap stop_reply step ∙ (g.accepted (one ∷ [])).1 ∙ rw some in
        let all : made_replies (many_replies s xs bytes) ≡ made = ap made_replies step ∙ (g.accepted (one ∷ [])).0 ∙ rw some (append-nil made) in
        let j-times : 1 * length made ≡ j = omega (arith, g.many) in
        (rw (stop, all, stopped, j-times, g.many, g.generation, g.turns), left ∙ sym (g.leaves ∙ ap (◌++◌ (take (j * size) cells)) (rw (ahead, p.0))))

-- all fields are written
pub going_end : {s : Shape} {xs bytes cells generations turned : List ℕ} {j : ℕ} → Going s xs bytes cells generations turned j → length xs ≤ j →
    ((0 ∷ 0 ∷ 0 ∷ j ∷ 0 ∷ 0 ∷ []) ∷ generations ∷ turned ∷ [] ≡ many_told (many_replies s xs bytes)) × (cells ≡ many_cells s xs bytes)
unfolding many_replies many_cells made_replies stop_reply many_numbers many_told passes
going_end {s} {xs} {bytes} {cells} {j = j} g h =
    let made = g.made in
    let none : drop j xs ≡ [] = drop_of_length-le xs h in
    let step : many_replies s xs bytes ≡ made ++ [] = g.replies ∙ ap (◌++◌ made) (rw none) in
    let stop : stop_reply (many_replies s xs bytes) ≡ [] = ap stop_reply step ∙ (g.accepted []).1 in
    let all : made_replies (many_replies s xs bytes) ≡ made = ap made_replies step ∙ (g.accepted []).0 ∙ append-nil made in (
      rw (stop, all, zero-mul, g.many, g.generation, g.turns),
      sym (g.leaves ∙ ap (◌++◌ (take (j * field_bytes s) cells)) (rw none) ∙ take-append-drop (j * field_bytes s) cells),
    )

-- the two rows stand one behind the other: a number more in the first, and one in the second
pub rows_next : {s : Shape} {xs bytes cells : List ℕ} {n : ℕ} (rows : List ℕ) (j i k : ℕ) → j < 64 →
    Going s xs bytes cells (set (take 64 rows) j i) (set (drop 64 rows) j k) n →
    Going s xs bytes cells (take 64 (set (set rows j i) (64 + j) k)) (drop 64 (set (set rows j i) (64 + j) k)) n
rows_next rows j i k low g =
    rw (take-set-le 64 (set rows j i) (64 + j) k (omega arith), take-set-lt 64 rows j i low, drop-set-add 64 (set rows j i) j k, drop-set-lt 64 rows j i low) g

-- no number yet
pub rows_none : {rows : List ℕ} → rows ≡ replicate 128 0 → (take 64 rows ≡ replicate 64 0) × (drop 64 rows ≡ replicate 64 0)
rows_none e = (ap (take 64) e, ap (drop 64) e)
