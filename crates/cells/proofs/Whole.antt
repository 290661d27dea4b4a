-- The field's groups are the first of all words' groups.
use mathlib.Core.Path.{◌≡◌, refl, sym, ap, ◌∙◌}
use mathlib.Core.List.{List, [], ◌∷◌, ◌++◌, append_assoc}
use Prim.Native.Nat.{ℕ}
use lib.ListN.{length, take, drop, take-append-drop}
use lib.Seq.{take_at}
use Rattle.words.specs.Words.{groups_of, all_groups}

all_append : (m n : ℕ) (xs ys : List ℕ) → all_groups m n (xs ++ ys) ≡ all_groups m n xs ++ all_groups m n ys
unfolding all_groups
all_append m n [] ys = refl
all_append m n (x ∷ xs) ys =
    ap (λ (l : List ℕ). groups_of m n x ++ l) (all_append m n xs ys) ∙ sym (append_assoc (groups_of m n x) (all_groups m n xs) (all_groups m n ys))

-- what the first r words hold is stored where it starts with as many groups as the field has
pub field-front : (m n r : ℕ) (ws gs ps : List ℕ) → all_groups m n (take r ws) ≡ gs ++ ps → take (length gs) (all_groups m n ws) ≡ gs
field-front m n r ws gs ps e =
    let rest : List ℕ = all_groups m n (drop r ws) in
    let q : all_groups m n ws ≡ gs ++ (ps ++ rest) =
    ap (all_groups m n) (sym (take-append-drop r ws)) ∙ all_append m n (take r ws) (drop r ws) ∙ ap (λ (x : List ℕ). x ++ rest) e ∙ append_assoc gs ps rest in
    rw q (take_at gs (ps ++ rest) (length gs) refl)
