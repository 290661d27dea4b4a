-- Written places laid into the zero groups of a word, by label, and the words of a pattern, one after the other.
use mathlib.Core.Path.{◌≡◌, refl, sym, ap, ◌∙◌}
use mathlib.Core.Bool.{Bool, true, false, cond}
use mathlib.Core.List.{List, [], ◌∷◌, ◌++◌, append_assoc}
use Prim.Native.Nat.{ℕ, zero, suc, ◌+◌, ◌*◌, ◌-◌, ◌^◌, ◌≤◌, ◌<◌}
use native.Mathlib.Omega.{arith}
use native.Mathlib.Decide.{ℕ_discrete}
use native.Mathlib.Numerals.{add-one}
use lib.Count.{ones}
use lib.Dec.{eqb}
use lib.ListN.{length, get_or, take, drop, replicate, length-take, length-append, length-replicate, drop_of_length-le, set}
use lib.Seq.{take_at, drop_at, take_all, drop-drop, set-get_or}
use Rattle.code.specs.Field.{zeros, lay}
use Rattle.code.specs.Lists.{Upto}
use Rattle.code.proofs.Chosen.{labels, values, scattered, Chosen}
use Rattle.code.proofs.Chosen.{scattered-back}
use Rattle.words.specs.Marks.{groups_in, top_of, stripped, Blanks, WordLaid, Remaining, rest_of, Scattered, blanks_to, ZeroMarked, Layered}
use Rattle.words.proofs.Front.{drop-front}
use Rattle.words.proofs.Highest.{stripped-some}
use Rattle.words.proofs.Laying.{Laying, laying-none, laying-marks, laying-ones, laying-skip, laying-more, laying-all, lay-nothing, zeros-none}
use Rattle.words.proofs.Laying.{zeros-next, Laid, laid_none, laid_more, laid-blanks, laid-few, laid-all}
use Rattle.words.proofs.Seeing.{zeros-ones}

either-long : (b : Bool) (s : ℕ) (x y : ℕ) (xs ys : List ℕ) → length xs ≡ s → length ys ≡ s → length (cond b (x ∷ xs) (y ∷ ys)) ≡ suc s
either-long true s x y xs ys p q = ap suc p
either-long false s x y xs ys p q = ap suc q

pub scattered-long : (s : ℕ) (is xs : List ℕ) → length (scattered s is xs) ≡ s
unfolding scattered
scattered-long zero is xs = refl
scattered-long (suc s) [] xs = ap suc (scattered-long s [] xs)
scattered-long (suc s) (i ∷ is) [] = ap suc (scattered-long s (i ∷ is) [])
scattered-long (suc s) (i ∷ is) (x ∷ xs) =
    either-long (eqb i s) s (suc x) 0 (scattered s is xs) (scattered s (i ∷ is) (x ∷ xs)) (scattered-long s is xs) (scattered-long s (i ∷ is) (x ∷ xs))

pub rest-is : {m : ℕ} {ls vs : List ℕ} {k i next : ℕ} {rs : List ℕ} → Remaining m ls vs k i next rs → rest_of ls vs k i next ≡ rs
rest-is {rs = rs} R = rw (R.places, R.marks, ← R.long) (scattered-back rs)

-- a pattern up to its first written place
record First (rs : List ℕ) (i : ℕ) (is : List ℕ) (x : ℕ) (xs rest : List ℕ) : Type 0 where
  parts : rs ≡ replicate (length rs - suc i) 0 ++ suc x ∷ rest
  below : i < length rs
  long : length rest ≡ i
  places : is ≡ labels rest
  marks : xs ≡ values rest

first-written : (rs : List ℕ) (i : ℕ) (is : List ℕ) (x : ℕ) (xs : List ℕ) → i ∷ is ≡ labels rs → x ∷ xs ≡ values rs → (rest : List ℕ) × First rs i is x xs rest
unfolding labels values
first-written [] i is x xs p q = let z : ◌≡◌ {A = ℕ} 0 1 = cc in absurd (omega arith)
first-written (zero ∷ rs) i is x xs p q =
    let f = first-written rs i is x xs p q in
    let h : i < length rs = f.1.below in
    let e : suc (length rs) - suc i ≡ suc (length rs - suc i) = omega arith in (
      f.0,
      record {
        parts = rw e (ap (λ (l : List ℕ). 0 ∷ l) f.1.parts);
        below = omega arith;
        long = f.1.long;
        places = f.1.places;
        marks = f.1.marks;
      },
    )
first-written (suc y ∷ rs) i is x xs p q =
    let a : i ≡ length rs = cc in
    let b : x ≡ y = cc in
    let e : suc (length rs) - suc i ≡ 0 = omega arith in
    (rs, record { parts = rw (e, b); below = omega arith; long = sym a; places = cc; marks = cc })

-- the first label, if there is one, is below
abbrev pub Ahead : ℕ → List ℕ → Type 0
Ahead right [] = Unit {0}
Ahead right (i ∷ is) = i < right

-- a pattern whose first places are not written
record Behind (rs : List ℕ) (right : ℕ) (rest : List ℕ) : Type 0 where
  parts : rs ≡ replicate (length rs - right) 0 ++ rest
  long : length rest ≡ right
  places : labels rs ≡ labels rest
  marks : values rs ≡ values rest

behind-all : (rs : List ℕ) (right : ℕ) → length rs ≡ right → Behind rs right rs
behind-all rs right e = let z : length rs - right ≡ 0 = omega arith in record { parts = rw z; long = e; places = refl; marks = refl }

behind-is : (rs : List ℕ) (right : ℕ) → right ≤ length rs → Ahead right (labels rs) → (rest : List ℕ) × Behind rs right rest
unfolding labels values
behind-is [] right h a = ([], behind-all [] right (omega arith))
behind-is (suc x ∷ rs) right h a = (suc x ∷ rs, behind-all (suc x ∷ rs) right (omega (arith, a)))
behind-is (zero ∷ rs) right h a = elim (ℕ_discrete right (suc (length rs))) [
  | yes e ↦ (0 ∷ rs, behind-all (0 ∷ rs) right (sym e))
  | no n ↦
      let b = behind-is rs right (omega arith) a in
      let e : suc (length rs) - right ≡ suc (length rs - right) = omega arith in
      (b.0, record { parts = rw e (ap (λ (l : List ℕ). 0 ∷ l) b.1.parts); long = b.1.long; places = b.1.places; marks = b.1.marks })
]

upto-last : (e : ℕ) (xs ys : List ℕ) → Upto e (xs ++ ys) → Upto e ys
upto-last e [] ys u = u
upto-last e (x ∷ xs) ys u = upto-last e xs ys u.1

-- of the pattern `all`, of which the places from `right` on go into the word w₀, qs is laid and rs is left, of `next` places
pub record Scattering (m w₀ : ℕ) (ls vs : List ℕ) (k right : ℕ) (all : List ℕ) (word left next i : ℕ) : Type 0 where
  pub qs : List ℕ
  pub rs : List ℕ
  pub parts : all ≡ qs ++ rs
  pub whole : length all ≡ right + zeros (groups_in m w₀)
  pub rest : Remaining m ls vs k i next rs
  pub laid : Laying m w₀ qs word left
  pub from : right ≤ next
  pub within : i ≤ k

pub scattering-none : {m w₀ o : ℕ} {ls vs : List ℕ} {k right : ℕ} {all : List ℕ} {next i : ℕ} → Blanks m w₀ o → Remaining m ls vs k i next all
    → next ≡ right + zeros (groups_in m w₀) → i ≤ k → Scattering m w₀ ls vs k right all w₀ o next i
scattering-none {all = all} B R e h = record {
  qs = [];
  rs = all;
  parts = refl;
  whole = R.long ∙ e;
  rest = R;
  laid = laying-none B.wide B.narrow B.tidy B.marked;
  from = omega arith;
  within = h;
}

module _ {m w₀ : ℕ} {ls vs : List ℕ} {k right : ℕ} {all : List ℕ} {word left next i : ℕ} (C : Scattering m w₀ ls vs k right all word left next i) where
  counted : length C.qs + next ≡ right + zeros (groups_in m w₀)
  counted = omega (arith, C.whole, ap length C.parts, length-append C.qs C.rs, C.rest.long)

  ones-left : ones left ≡ next - right
  ones-left = omega (arith, laying-ones C.laid, counted, C.from)

  -- where no label is left for the word
  pub scattering-all : Ahead right (drop i (take k ls))
      → WordLaid m w₀ (take (zeros (groups_in m w₀)) all) word × Remaining m ls vs k i right (drop (zeros (groups_in m w₀)) all)
  scattering-all a =
      let R = C.rest in
      let b = behind-is C.rs right (omega (arith, R.long, C.from)) (rw R.places at a) in
      let d : ℕ = length C.rs - right in
      let zs : List ℕ = replicate d 0 in
      let n : length (C.qs ++ zs) ≡ zeros (groups_in m w₀) = omega (arith, length-append C.qs zs, length-replicate {A = ℕ} d 0, counted, R.long, C.from) in
      let e : all ≡ (C.qs ++ zs) ++ b.0 = C.parts ∙ ap (λ (l : List ℕ). C.qs ++ l) b.1.parts ∙ sym (append_assoc C.qs zs b.0) in
      let f : take (zeros (groups_in m w₀)) all ≡ C.qs ++ zs = rw e (take_at (C.qs ++ zs) b.0 (zeros (groups_in m w₀)) n) in
      let g : drop (zeros (groups_in m w₀)) all ≡ b.0 = rw e (drop_at (C.qs ++ zs) b.0 (zeros (groups_in m w₀)) n) in
      let l = laying-all (laying-skip C.laid d) in (
        record { tidy = l.1; made = rw f l.0 },
        rw g (record {
          long = b.1.long;
          places = R.places ∙ b.1.places;
          marks = R.marks ∙ b.1.marks;
          small = upto-last (2 ^ m - 1) zs b.0 (rw b.1.parts at R.small);
        }),
      )

  pub ahead_none : k ≤ i → Ahead right (drop i (take k ls))
  ahead_none h = rw (drop_of_length-le (take k ls) {i = i} (omega (arith, length-take k ls))) tt

  -- the next label and value
  module _ (h : i < k) (kl : k ≤ length ls) (kv : k ≤ length vs) (label x : ℕ) (el : label ≡ get_or ls i 0) (ex : x ≡ get_or vs i 0) where
    pub ahead-some : label < right → Ahead right (drop i (take k ls))
    ahead-some l = rw (drop-front k i ls kl h, ← el) l

    first : (rest : List ℕ) × First C.rs label (drop (i + 1) (take k ls)) x (drop (i + 1) (take k vs)) rest
    first = first-written C.rs label (drop (i + 1) (take k ls)) x (drop (i + 1) (take k vs))
        (rw el (sym (drop-front k i ls kl h) ∙ C.rest.places)) (rw ex (sym (drop-front k i vs kv h) ∙ C.rest.marks))

    pub label-below : label < next
    label-below = omega (arith, first.1.below, C.rest.long)

    module _ (r : right ≤ label) where
      pub skips : next - 1 - label < ones left
      skips = omega (arith, ones-left, label-below)

      pub skip-some : 0 < stripped (next - 1 - label) left
      skip-some = stripped-some (next - 1 - label) left (laying-marks C.laid) skips

      pub scattering-more : (p : ℕ) → p ≡ top_of (stripped (next - 1 - label) left)
          → Scattering m w₀ ls vs k right all (word + (x + 1) * 2 ^ p)
          (stripped (next - 1 - label) left - 2 ^ top_of (stripped (next - 1 - label) left)) label (i + 1)
      scattering-more p e =
          let F = first.1 in
          let d : ℕ = next - 1 - label in
          let zs : List ℕ = replicate d 0 in
          let q : length C.rs - suc label ≡ d = omega (arith, C.rest.long) in
          let parts : C.rs ≡ zs ++ suc x ∷ first.0 = rw q at F.parts in
          let u = upto-last (2 ^ m - 1) zs (suc x ∷ first.0) (rw parts at C.rest.small) in
          let n : length (C.qs ++ zs) < zeros (groups_in m w₀) = omega (arith, length-append C.qs zs, length-replicate {A = ℕ} d 0, counted, label-below) in
          record {
            qs = (C.qs ++ zs) ++ suc x ∷ [];
            rs = first.0;
            parts = C.parts ∙ ap (λ (l : List ℕ). C.qs ++ l) parts ∙ simp append_assoc;
            whole = C.whole;
            rest = record { long = F.long; places = F.places; marks = F.marks; small = u.1 };
            laid = rw (add-one x, e) (laying-more (laying-skip C.laid d) (suc x) n u.0);
            from = r;
            within = omega arith;
          }

      pub scattering-fits : (p : ℕ) → p ≡ top_of (stripped (next - 1 - label) left) → word + (x + 1) * 2 ^ p < 2 ^ 64
      scattering-fits p e = (laying-all (scattering-more p e).laid).2

pub scattered-word : {m w₀ : ℕ} {ls vs : List ℕ} {k right at next₀ word left next i : ℕ}
    → Scattering m w₀ ls vs k right (rest_of ls vs k at next₀) word left next i → Ahead right (drop i (take k ls)) → Scattered m w₀ right ls vs k at next₀ word i
scattered-word C a = let s = scattering-all C a in record { within = C.within; here = s.0; rest = s.1 }

-- where a label is left there is a place
pub remaining-some : {m : ℕ} {ls vs : List ℕ} {k i next : ℕ} {rs : List ℕ} → Remaining m ls vs k i next rs → i < k → k ≤ length ls → k ≤ length vs → 0 < next
remaining-some {ls = ls} {vs = vs} {k = k} {i = i} {rs = rs} R h kl kv =
    let f = first-written rs (get_or ls i 0) (drop (i + 1) (take k ls)) (get_or vs i 0) (drop (i + 1) (take k vs))
    (sym (drop-front k i ls kl h) ∙ R.places) (sym (drop-front k i vs kv h) ∙ R.marks) in
    omega (arith, f.1.below, R.long)

-- a pattern without written places changes nothing
lay-blank : (gs rs : List ℕ) (z : ℕ) → labels rs ≡ [] → lay gs (take z rs) ≡ gs
unfolding lay labels
lay-blank [] rs z e = refl
lay-blank (suc g ∷ gs) rs z e = ap (λ (l : List ℕ). suc g ∷ l) (lay-blank gs rs z e)
lay-blank (zero ∷ gs) rs zero e = lay-nothing (0 ∷ gs)
lay-blank (zero ∷ gs) [] (suc z) e = lay-nothing (0 ∷ gs)
lay-blank (zero ∷ gs) (zero ∷ rs) (suc z) e = ap (λ (l : List ℕ). 0 ∷ l) (lay-blank gs rs z e)
lay-blank (zero ∷ gs) (suc x ∷ rs) (suc z) e = let q : ◌≡◌ {A = ℕ} 0 1 = cc in absurd (omega arith)

blank-drop : (rs : List ℕ) (z : ℕ) → labels rs ≡ [] → labels (drop z rs) ≡ []
unfolding labels
blank-drop rs zero e = e
blank-drop [] (suc z) e = e
blank-drop (zero ∷ rs) (suc z) e = blank-drop rs z e
blank-drop (suc x ∷ rs) (suc z) e = let q : ◌≡◌ {A = ℕ} 0 1 = cc in absurd (omega arith)

module _ {m n : ℕ} {ps before os : List ℕ} (Z : ZeroMarked m n before os) where
  idle : {i : ℕ} {ws : List ℕ} → Laid m ps before i ws → i < n → blanks_to m n before ≤ length ps → labels (drop (blanks_to m i before) ps) ≡ []
      → Laid m ps before (i + 1) ws × (labels (drop (blanks_to m (i + 1) before) ps) ≡ [])
  idle {i} {ws} C h l e =
      let w = get_or ws i 0 in
      let gs = groups_in m w in
      let at = blanks_to m i before in
      let b = laid-blanks Z C h in
      let f = laid-few Z C h at refl in
      let r = drop at ps in
      let F : WordLaid m w (take (zeros gs) r) w = record { tidy = b.tidy; made = sym (lay-blank gs r (zeros gs) e) } in
      let more = laid_more C (omega (arith, Z.few)) w at refl (omega arith) F in
      let t : blanks_to m (i + 1) before ≡ at + zeros gs = sym (zeros-next C (omega (arith, Z.few)) at (at + zeros gs) refl refl) in
      (rw (set-get_or ws i 0) at more, rw (t, ← drop-drop (zeros gs) at ps) (blank-drop r (zeros gs) e))

  idle-on : (d : ℕ) {i : ℕ} {ws : List ℕ} → Laid m ps before i ws → i + d ≡ n → blanks_to m n before ≤ length ps → labels (drop (blanks_to m i before) ps) ≡ []
      → Laid m ps before n ws
  idle-on zero {i} {ws} C s l e = let q : i ≡ n = omega arith in rw q at C
  idle-on (suc d) {i} {ws} C s l e = let k = idle C (omega arith) l e in idle-on d k.0 (omega arith) l k.1

-- the first i words have the pattern's values; its written places from `at` on are left, in `next` places
pub record Spread (m n : ℕ) (ps before ls vs : List ℕ) (k : ℕ) (ws : List ℕ) (next at i : ℕ) : Type 0 where
  pub laid : Laid m ps before i ws
  pub long : length ps ≡ blanks_to m n before
  pub left : next + blanks_to m i before ≡ blanks_to m n before
  pub rest : Remaining m ls vs k at next (drop (blanks_to m i before) ps)
  pub within : at ≤ k
  pub upto : i ≤ n

module _ {m n : ℕ} {before os : List ℕ} (Z : ZeroMarked m n before os) where
  pub spread_none : (ls vs : List ℕ) (k s : ℕ) → s ≡ blanks_to m n before → Chosen (scattered s (take k ls) (take k vs)) ls vs k
      → Upto (2 ^ m - 1) (scattered s (take k ls) (take k vs)) → Spread m n (scattered s (take k ls) (take k vs)) before ls vs k before s 0 0
  spread_none ls vs k s e H u =
      let ps = scattered s (take k ls) (take k vs) in
      let l : length ps ≡ s = scattered-long s (take k ls) (take k vs) in
      let z = zeros-none m before in
      record {
        laid = laid_none m ps before Z.long;
        long = l ∙ e;
        left = omega arith;
        rest = rw (← z) (record { long = l; places = H.places; marks = H.marks; small = u });
        within = omega arith;
        upto = omega arith;
      }

  module _ {ps ls vs : List ℕ} {k : ℕ} {ws : List ℕ} {next at i : ℕ} (C : Spread m n ps before ls vs k ws next at i) where
    pub spread-inside : at < k → k ≤ length ls → k ≤ length vs → i < n
    spread-inside h kl kv = elim (ℕ_discrete i n) [
      | yes e ↦ absurd (omega (arith, remaining-some C.rest h kl kv, rw e at C.left))
      | no e ↦ omega (arith, C.upto)
    ]

    -- where no written place is left
    pub spread-all : k ≤ at → Layered m n ps before ws
    spread-all h =
        let none : labels (drop (blanks_to m i before) ps) ≡ [] = sym C.rest.places
        ∙ drop_of_length-le (take k ls) {i = at} (omega (arith, length-take k ls)) in
        let all = laid-all refl (idle-on Z (n - i) C.laid (omega (arith, C.upto)) (omega (arith, C.long)) none) in
        rw (take_all (blanks_to m n before) ps (omega (arith, C.long))) at all

    module _ (h : i < n) where
      pub spread-blanks : Blanks m (get_or ws i 0) (get_or os i 0)
      spread-blanks = laid-blanks Z C.laid h

      spread-ones : ones (get_or os i 0) ≡ zeros (groups_in m (get_or ws i 0))
      spread-ones = ap ones spread-blanks.marked ∙ zeros-ones m (groups_in m (get_or ws i 0)) (omega (arith, Z.wide))

      pub spread-right : (ones (get_or os i 0) ≤ next) × (next ≡ next - ones (get_or os i 0) + zeros (groups_in m (get_or ws i 0)))
      spread-right =
          let f = laid-few Z C.laid h (blanks_to m i before) refl in
          (omega (arith, f, C.left, spread-ones), omega (arith, f, C.left, spread-ones))

      pub spread-rest : Remaining m ls vs k at next (rest_of ls vs k at next)
      spread-rest = rw (rest-is C.rest) C.rest

      pub spread-more : (x right at' : ℕ) → next ≡ right + zeros (groups_in m (get_or ws i 0)) → Scattered m (get_or ws i 0) right ls vs k at next x at'
          → Spread m n ps before ls vs k (set ws i x) right at' (i + 1)
      spread-more x right at' e S =
          let here = rw (rest-is C.rest) at S.here in
          let rest = rw (rest-is C.rest) at S.rest in
          let a = blanks_to m i before in
          let z = zeros (groups_in m (get_or ws i 0)) in
          let f = laid-few Z C.laid h a refl in
          let t : blanks_to m (i + 1) before ≡ a + z = sym (zeros-next C.laid (omega (arith, Z.few)) a (a + z) refl refl) in
          record {
            laid = laid_more C.laid (omega (arith, Z.few)) x a refl (omega (arith, f, C.long)) here;
            long = C.long;
            left = omega (arith, t, C.left);
            rest = rw (t, ← drop-drop z a ps) rest;
            within = S.within;
            upto = omega arith;
          }
