-- What a resumed write reports: the groups that are all ones now and were not before, as a list, as bits and by their count.
use Prim.Native.Nat.{ℕ, zero, suc, ◌+◌, ◌*◌, ◌-◌, ◌^◌, ◌/◌, ◌%◌, ◌≤◌, ◌<◌}
use mathlib.Core.Path.{◌≡◌, refl, sym, ap, ◌∙◌}
use mathlib.Core.Bool.{Bool, true, false, cond, not, ◌&&◌}
use mathlib.Core.List.Memᴰ
use mathlib.Core.List.{List, [], ◌∷◌, ◌++◌, append-nil, Memᴰ}
use mathlib.Core.Logic.{◌↔◌, ⊎_elim}
use native.Mathlib.Omega.{arith}
use native.Mathlib.Decide.{dec_lt, ℕ_discrete}
use native.Mathlib.Nat.{add-zero, add-suc, zero-mul, zero-add, pow-suc}
use lib.Count.{ones, ones_in, ones_step}
use lib.Dec.{eqb}
use lib.ListN.{length, get_or, replicate, set, length-append, length-set}
use lib.Pow.{pow_pos, pow_mono, shl_exact}
use lib.Seq.{ext_get_or, get_or-set_same, get_or-set_other}
use borrow.Author.Tests.{eq-eqb, ne_eqb}
use Rattle.code.specs.Cells.{listed}
use Rattle.code.specs.Lists.{Upto}
use Rattle.code.specs.Resume.{freshly, places_from, bits_at}
use Rattle.code.proofs.Tests.{and-false}
use Rattle.code.proofs.Numbers.{listed-length, listed_at}

-- the list is strictly rising: each number is at least b, the next one more than it at least, and so on
abbrev pub RisingFrom : ℕ → List ℕ → Type 0
RisingFrom b [] = Unit {0}
RisingFrom b (j ∷ js) = (b ≤ j) × RisingFrom (suc j) js

rising-lower : (b : ℕ) (js : List ℕ) → RisingFrom (suc b) js → RisingFrom b js
rising-lower b [] r = tt
rising-lower b (j ∷ js) r = (omega (arith, r.0), r.1)

pub rising : (b : ℕ) (fs : List ℕ) → RisingFrom b (places_from b fs)
unfolding places_from
rising b [] = tt
rising b (zero ∷ fs) = rising-lower b (places_from (suc b) fs) (rising (suc b) fs)
rising b (suc f ∷ fs) = (omega arith, rising (suc b) fs)

-- a number stands in it exactly where its flag is set
flag-listed : (b : ℕ) (fs : List ℕ) (i : ℕ) → 0 < get_or fs i 0 → Memᴰ (b + i) (places_from b fs)
unfolding places_from
flag-listed b [] i h = absurd (omega arith)
flag-listed b (zero ∷ fs) zero h = absurd (omega arith)
flag-listed b (suc f ∷ fs) zero h = Memᴰ.head (add-zero b)
flag-listed b (zero ∷ fs) (suc i) h = let e : b + suc i ≡ suc b + i = omega arith in rw e (flag-listed (suc b) fs i h)
flag-listed b (suc f ∷ fs) (suc i) h = let e : b + suc i ≡ suc b + i = omega arith in rw e (Memᴰ.tail (flag-listed (suc b) fs i h))

listed-flag : (b : ℕ) (fs : List ℕ) (j : ℕ) → Memᴰ j (places_from b fs) → (i : ℕ) × (j ≡ b + i) × (0 < get_or fs i 0)
unfolding places_from
listed-flag b [] j q = absurd (Memᴰ.not-nil q)
listed-flag b (zero ∷ fs) j q = let r = listed-flag (suc b) fs j q in (suc r.0, omega (arith, r.1), r.2)
listed-flag b (suc f ∷ fs) j q = ⊎_elim
    (λ e. (0, omega arith, omega arith))
    (λ t. let r = listed-flag (suc b) fs j t in (suc r.0, omega (arith, r.1), r.2)) (Memᴰ.cases_cons q)

-- and it is set exactly where a group is all ones and was not before
abbrev pub Fresh : ℕ → List ℕ → List ℕ → ℕ → Type 0
Fresh e xs ys j = (j < length ys) × (get_or ys j 0 ≡ e) × (get_or xs j 0 ≡ e → ⊥)

flag-fresh : (e : ℕ) (xs ys : List ℕ) (j : ℕ) → 0 < get_or (freshly e xs ys) j 0 → Fresh e xs ys j
unfolding freshly
flag-fresh e [] ys j h = absurd (omega arith)
flag-fresh e (x ∷ xs) [] j h = absurd (omega arith)
flag-fresh e (x ∷ xs) (y ∷ ys) zero h = elim (ℕ_discrete y e) [
  | yes q ↦ (omega arith, q, λ r. let z = rw (eq-eqb y e q, eq-eqb x e r) at h in omega arith)
  | no q ↦ let z = rw (ne_eqb y e q) at h in absurd (omega arith)
]
flag-fresh e (x ∷ xs) (y ∷ ys) (suc j) h = let r = flag-fresh e xs ys j h in (omega (arith, r.0), r.1, r.2)

fresh-flag : (e : ℕ) (xs ys : List ℕ) (j : ℕ) → length xs ≡ length ys → Fresh e xs ys j → 0 < get_or (freshly e xs ys) j 0
unfolding freshly
fresh-flag e [] ys j l h = absurd (omega (arith, h.0))
fresh-flag e (x ∷ xs) [] j l h = absurd (omega (arith, h.0))
fresh-flag e (x ∷ xs) (y ∷ ys) zero l h = rw (eq-eqb y e h.1, ne_eqb x e h.2) (omega arith)
fresh-flag e (x ∷ xs) (y ∷ ys) (suc j) l h = fresh-flag e xs ys j (omega arith) (omega (arith, h.0), h.1, h.2)

-- 02, §9; RULES 18: the report lists exactly "the groups all ones now and not before"
pub listed-exactly : (e : ℕ) (xs ys : List ℕ) (j : ℕ) → length xs ≡ length ys → Memᴰ j (places_from 0 (freshly e xs ys)) ↔ Fresh e xs ys j
listed-exactly e xs ys j l = (
  λ q.
      let r = listed-flag 0 (freshly e xs ys) j q in
      let i : r.0 ≡ j = omega (arith, r.1) in
      flag-fresh e xs ys j (rw i at r.2),
  λ h. rw zero-add at (flag-listed 0 (freshly e xs ys) j (fresh-flag e xs ys j l h)),
)

-- flags, one field behind another
pub freshly-append : (e : ℕ) (xs ys us vs : List ℕ) → length xs ≡ length ys → freshly e (xs ++ us) (ys ++ vs) ≡ freshly e xs ys ++ freshly e us vs
unfolding freshly
freshly-append e [] [] us vs l = refl
freshly-append e [] (y ∷ ys) us vs l = absurd (omega arith)
freshly-append e (x ∷ xs) [] us vs l = absurd (omega arith)
freshly-append e (x ∷ xs) (y ∷ ys) us vs l = rw (freshly-append e xs ys us vs (omega arith))

pub freshly-long : (e : ℕ) (xs ys : List ℕ) → length xs ≡ length ys → length (freshly e xs ys) ≡ length xs
unfolding freshly
freshly-long e [] ys l = refl
freshly-long e (x ∷ xs) [] l = absurd (omega arith)
freshly-long e (x ∷ xs) (y ∷ ys) l = ap suc (freshly-long e xs ys (omega arith))

flag_small : (b : Bool) → cond b 1 0 ≤ 1
flag_small true = omega arith
flag_small false = omega arith

pub freshly-flags : (e : ℕ) (xs ys : List ℕ) → Upto 1 (freshly e xs ys)
unfolding freshly
freshly-flags e [] ys = tt
freshly-flags e (x ∷ xs) [] = tt
freshly-flags e (x ∷ xs) (y ∷ ys) = (flag_small (eqb y e && not (eqb x e)), freshly-flags e xs ys)

-- places, one part behind another
places-append : (j : ℕ) (fs gs : List ℕ) → places_from j (fs ++ gs) ≡ places_from j fs ++ places_from (j + length fs) gs
unfolding places_from
places-append j [] gs = rw (add-zero j)
places-append j (zero ∷ fs) gs = let e : j + suc (length fs) ≡ suc j + length fs = omega arith in rw e (places-append (suc j) fs gs)
places-append j (suc f ∷ fs) gs =
    let e : j + suc (length fs) ≡ suc j + length fs = omega arith in rw e (ap (λ (l : List ℕ). j ∷ l) (places-append (suc j) fs gs))

-- groups of all ones behind the field before are not listed, whatever stands there after
none-listed : (e j k : ℕ) (ys : List ℕ) → places_from j (freshly e (replicate k e) ys) ≡ []
unfolding freshly places_from
none-listed e j zero ys = refl
none-listed e j (suc k) [] = refl
none-listed e j (suc k) (y ∷ ys) = rw (eq-eqb e e refl, and-false (eqb y e)) (none-listed e (suc j) k ys)

pub places-padded : (e k : ℕ) (xs ys behind : List ℕ) → length xs ≡ length ys →
    places_from 0 (freshly e (xs ++ replicate k e) (ys ++ behind)) ≡ places_from 0 (freshly e xs ys)
places-padded e k xs ys behind l =
    let fs = freshly e xs ys in
    rw (freshly-append e xs ys (replicate k e) behind l, places-append 0 fs (freshly e (replicate k e) behind), none-listed e (0 + length fs) k behind)
    (append-nil (places_from 0 fs))

-- bits, those of one part and of another
bits-append : (w : ℕ) (js ks : List ℕ) → bits_at w (js ++ ks) ≡ bits_at w js + bits_at w ks
unfolding bits_at
bits-append w [] ks = sym (zero-add (bits_at w ks))
bits-append w (j ∷ js) ks = omega (arith, bits-append w js ks)

-- flags as a word, the first at its lowest bit
unfoldable pub flag_word : List ℕ → ℕ
flag_word [] = 0
flag_word (f ∷ fs) = f + 2 * flag_word fs

pub flags-lt : (fs : List ℕ) → Upto 1 fs → flag_word fs < 2 ^ length fs
unfolding flag_word
flags-lt [] u = pow_pos 0
flags-lt (f ∷ fs) u = omega (arith, u.0, flags-lt fs u.1, pow-suc 2 (length fs))

pub flags-shift : (fs : List ℕ) (p : ℕ) → Upto 1 fs → p + length fs ≤ 64 → flag_word fs * 2 ^ p % 2 ^ 64 ≡ flag_word fs * 2 ^ p
flags-shift fs p u h = shl_exact {a = flag_word fs} (length fs) p 64 (flags-lt fs u) (omega arith)

-- flags that fall into one word are bits of it, and of no other
module _ (v w : ℕ) where
  word_of : (p : ℕ) → p < 64 → cond (eqb ((64 * v + p) / 64) w) (2 ^ ((64 * v + p) % 64)) 0 ≡ cond (eqb v w) (2 ^ p) 0
  word_of p h =
      let q : (64 * v + p) / 64 ≡ v = omega arith in
      let r : (64 * v + p) % 64 ≡ p = omega arith in
      rw (q, r)

  bits-block : (p : ℕ) (fs : List ℕ) → Upto 1 fs → p + length fs ≤ 64 → bits_at w (places_from (64 * v + p) fs) ≡ cond (eqb v w) (flag_word fs * 2 ^ p) 0
  unfolding bits_at places_from flag_word
  bits-block p [] u h = rw (zero-mul (2 ^ p)) (none (eqb v w))
    where
      none : (b : Bool) → ◌≡◌ {A = ℕ} 0 (cond b 0 0)
      none true = refl
      none false = refl
  bits-block p (zero ∷ fs) u h = rw (← add-suc (64 * v) p, bits-block (suc p) fs u.1 (omega arith)) (go (eqb v w))
    where
      go : (b : Bool) → cond b (flag_word fs * 2 ^ suc p) 0 ≡ cond b ((0 + 2 * flag_word fs) * 2 ^ p) 0
      go true = rw (pow-suc 2 p) (omega arith)
      go false = refl
  bits-block p (suc zero ∷ fs) u h = rw (word_of p (omega arith), ← add-suc (64 * v) p, bits-block (suc p) fs u.1 (omega arith)) (go (eqb v w))
    where
      go : (b : Bool) → cond b (2 ^ p) 0 + cond b (flag_word fs * 2 ^ suc p) 0 ≡ cond b ((1 + 2 * flag_word fs) * 2 ^ p) 0
      go true = rw (pow-suc 2 p) (omega arith)
      go false = refl
  bits-block p (suc (suc f) ∷ fs) u h = absurd (omega (arith, u.0))

-- the flags up to the end of a word leave bits of it alone
bits-room : (w j : ℕ) (fs : List ℕ) → j + length fs ≤ 64 * w + 64 → bits_at w (places_from j fs) + 2 ^ (j - 64 * w) ≤ 2 ^ 64
unfolding bits_at places_from
bits-room w j [] h = omega (arith, pow_mono {i = j - 64 * w} {j = 64} (omega arith))
bits-room w j (zero ∷ fs) h = omega (arith, bits-room w (suc j) fs (omega arith), pow_mono {i = j - 64 * w} {j = suc j - 64 * w} (omega arith))
bits-room w j (suc f ∷ fs) h = elim (dec_lt j (64 * w)) [
  | yes b ↦
      rw (ne_eqb (j / 64) w (λ e. omega arith))
      (omega (arith, bits-room w (suc j) fs (omega arith), pow_mono {i = j - 64 * w} {j = suc j - 64 * w} (omega arith)))
  | no b ↦
      let q : j / 64 ≡ w = omega arith in
      let r : j % 64 ≡ j - 64 * w = omega arith in
      let s : suc j - 64 * w ≡ suc (j - 64 * w) = omega arith in
      let rest = rw s at (bits-room w (suc j) fs (omega arith)) in
      rw (eq-eqb (j / 64) w q, r) (omega (arith, rest, pow-suc 2 (j - 64 * w)))
]

-- how many places there are is how many bits are set
places_count : (j : ℕ) (fs : List ℕ) → Upto 1 fs → length (places_from j fs) ≡ ones (flag_word fs)
unfolding places_from flag_word
places_count j [] u = unfold ones ones_in in refl
places_count j (zero ∷ fs) u =
    let d : (0 + 2 * flag_word fs) / 2 ≡ flag_word fs = omega arith in
    places_count (suc j) fs u.1 ∙ sym (ones_step (0 + 2 * flag_word fs) ∙ rw d (omega arith))
places_count j (suc zero ∷ fs) u =
    let d : (1 + 2 * flag_word fs) / 2 ≡ flag_word fs = omega arith in
    ap suc (places_count (suc j) fs u.1) ∙ sym (ones_step (1 + 2 * flag_word fs) ∙ rw d (omega arith))
places_count j (suc (suc f) ∷ fs) u = absurd (omega (arith, u.0))

pub count-more : (fs gs : List ℕ) → Upto 1 gs → length (places_from 0 (fs ++ gs)) ≡ length (places_from 0 fs) + ones (flag_word gs)
count-more fs gs u = rw (places-append 0 fs gs, length-append (places_from 0 fs) (places_from (0 + length fs) gs), places_count (0 + length fs) gs u)

-- the four words of the report, and what a word of flags behind others adds to them
abbrev pub report_of : List ℕ → List ℕ
report_of fs = listed (λ w. bits_at w (places_from 0 fs)) 0 4

module _ (fs gs : List ℕ) (v p : ℕ) (u : Upto 1 gs) (at : length fs ≡ 64 * v + p) (room : p + length gs ≤ 64) where
  bits-more : (w : ℕ) → bits_at w (places_from 0 (fs ++ gs)) ≡ bits_at w (places_from 0 fs) + cond (eqb v w) (flag_word gs * 2 ^ p) 0
  bits-more w = rw (places-append 0 fs gs, bits-append w (places_from 0 fs) (places_from (0 + length fs) gs), zero-add, at, bits-block v w p gs u room)

  pub bits_fit : v < 4 → get_or (report_of fs) v 0 + flag_word gs * 2 ^ p < 2 ^ 64
  bits_fit h =
      let f : ℕ → ℕ = λ w. bits_at w (places_from 0 fs) in
      let few : 0 + length (fs ++ gs) ≤ 64 * v + 64 = rw (length-append fs gs) (omega arith) in
      let here = rw (bits-more v, eq-eqb v v refl) at (bits-room v 0 (fs ++ gs) few) in
      rw (listed_at f 0 4 v h, zero-add) (omega (arith, here, pow_pos (0 - 64 * v)))

  pub report-more : v < 4 → report_of (fs ++ gs) ≡ set (report_of fs) v (get_or (report_of fs) v 0 + flag_word gs * 2 ^ p)
  report-more h =
      let f : ℕ → ℕ = λ w. bits_at w (places_from 0 fs) in
      let g : ℕ → ℕ = λ w. bits_at w (places_from 0 (fs ++ gs)) in
      let x : ℕ = get_or (report_of fs) v 0 + flag_word gs * 2 ^ p in
      ext_get_or 0 (report_of (fs ++ gs)) (set (report_of fs) v x) (listed-length g 0 4 ∙ sym (length-set (report_of fs) v x ∙ listed-length f 0 4)) (λ w l.
      let k : w < 4 = omega (arith, listed-length g 0 4) in
      rw (listed_at g 0 4 w k, zero-add) (elim (ℕ_discrete w v) [
        | yes e ↦ rw (e, get_or-set_same (report_of fs) v x 0 (omega (arith, listed-length f 0 4)), listed_at f 0 4 v h, zero-add, bits-more v, eq-eqb v v refl)
        | no e ↦ rw (get_or-set_other (report_of fs) v w x 0 e, listed_at f 0 4 w k, zero-add, bits-more w, ne_eqb v w (λ q. e (sym q))) (add-zero _)
      ]))
