-- What is written, from what the calls between have found.
use mathlib.Core.Path.{◌≡◌, refl, sym, ap, ◌∙◌}
use mathlib.Core.List.{List, ◌++◌}
use Prim.Native.Nat.{ℕ, zero, suc, ◌+◌, ◌*◌, ◌-◌, ◌^◌, ◌≤◌, ◌<◌}
use native.Mathlib.Omega.{arith}
use lib.ListN.{length, get_or, take, replicate}
use Rattle.code.specs.declared.Shape.{Shape}
use Rattle.code.specs.Shape.{first_of, ranges_of, counts_of, width_of, code_of}
use Rattle.code.specs.Lists.{Upto}
use Rattle.code.specs.Count.{fewer}
use Rattle.code.specs.Deal.{deal, plainly}
use Rattle.code.specs.declared.Dealing.TheVariants.{Patterns, Digits}
use Rattle.code.specs.declared.Generation.{Generation}
use Rattle.code.proofs.Chosen.{pattern_most}
use Rattle.code.specs.Code.{generation_at, pattern, room}
use Rattle.counting.specs.Cap.{cap}
use Rattle.code.specs.Field as Field
use Rattle.code.proofs.Groups.{erase}
use Rattle.code.proofs.Deal.{deal-is, plainly-is}
use Rattle.code.proofs.Groups.{upto-grows, erase-zeros, erase-length, zeros-padded, erase-padded, lay-padded, lay-length}
use Rattle.code.proofs.Field as Code
use Rattle.code.proofs.Places.{Dealable, dealt-dealable}
use Rattle.code.proofs.WriteCall.{room_for, after-erased}
use Rattle.code.proofs.LayoutCall.{range-within, counts-near, first-form}
use Rattle.code.proofs.Count.{fewer-grows}
use lib.Pow.{pow_mono}
use Rattle.words.specs.Words.{all_groups, word_groups, front_groups}
use Rattle.cells.proofs.Whole.{field-front}
use Rattle.words.specs.Marks.{Erased, Layered}
use Rattle.layout.specs.Plan.{Granted}
use Rattle.reading.specs.Answers.{field_groups, Holds}
use Rattle.writing.specs.declared.Held.{Held}
use Rattle.writing.specs.Answers.{after_in, laid_by, wits_of, groups_held, Due, Carries, Layable, Takes}

-- a dealt pattern has so many places, of values up to b
pub dealt-is : (b fewest s x : ℕ) → 0 < b → x < fewer b s fewest (suc s) → (length (deal b fewest s x) ≡ s) × Upto b (deal b fewest s x)
dealt-is b fewest s x pos h = let d = deal-is b fewest s s x pos (omega arith) h in (d.long, d.small)

pub digits_are : (e s x : ℕ) → 0 < e → x < e ^ s → (length (plainly e s x) ≡ s) × Upto e (plainly e s x)
digits_are e s x pos h = let d = plainly-is e s x pos h in (d.long, upto-grows (e - 1) e (omega arith) (plainly e s x) d.small)

-- the two ways to deal
module _ {m x : ℕ} {g : Generation} (L : Layable m g x) where
  module _ {e : ℕ} (q : g.dealing ≡ Digits e) where
    pub digits-ask : (g.places ≤ pattern_most) × (0 < e) × (e ≤ 15) × (e ≡ 2 ^ m - 1) × (x + 1 < e ^ g.places)
    unfolding room
    digits-ask =
        let k : Dealable m (Digits e) g.next = rw q at L.deals in
        let f : x < e ^ g.places - 1 = rw q at L.fits in
        (omega (arith, L.near, k.3), k.0, k.1, k.2, omega arith)

    pub digits-laid : plainly e g.places (x + 1) ≡ pattern g.dealing g.places x
    unfolding pattern
    digits-laid = rw q

  module _ {b fewest : ℕ} (q : g.dealing ≡ Patterns b fewest) where
    pub patterns-ask : (0 < b) × (b ≤ 15) × (b ≤ 2 ^ m - 1) × (fewest ≤ 1) × (x < cap) × (x < fewer b g.places fewest (suc g.places))
    unfolding room
    patterns-ask =
        let k : Dealable m (Patterns b fewest) g.next = rw q at L.deals in
        let f : x < fewer b g.places fewest (suc (g.places - g.next)) = rw q at L.fits in
        (omega arith, k.1, k.2, k.3, L.below, omega (arith, fewer-grows b g.places fewest (suc (g.places - g.next)) (suc g.places) (omega arith)))

    pub patterns-laid : deal b fewest g.places x ≡ pattern g.dealing g.places x
    unfolding pattern
    patterns-laid = rw q

-- a number in range has room at its generation
pub layable : {s : Shape} {h : List ℕ} → Granted s h → (i x : ℕ) (g : Generation) → i < s.t → x < get_or (ranges_of s) i 0 → g ≡ generation_at (code_of s) i →
    Layable s.m g x
layable {s} G i x g l r q = rw q (record {
  few = omega (arith, G.each i, G.small i);
  near = omega (arith, counts-near s G.ok i);
  below = omega (arith, (range-within s G.bounds i l).1);
  fits = room_for s G.ok i x l r;
  deals = dealt-dealable s.m (first_of s) i (get_or (counts_of s) (suc i) 0) G.bounds.m-low G.bounds.m-high (first-form s);
})

-- Erasing leaves as many zero groups as the generation has places.
module _ {f : Held} {g : Generation} {x : ℕ} {words : List ℕ} (T : Takes f g x words) where
  full : 2 ^ wits_of f - 1 ≡ suc (2 ^ wits_of f - 2)
  full = omega (arith, pow_mono T.holds.ends.wide)

  -- the groups behind the field's
  behind : ℕ
  behind = word_groups (wits_of f) * f.n - f.groups

  module _ {erased marks : List ℕ} (E : Erased (wits_of f) f.n (f.zeros - g.places) words erased marks) where
    abbrev cleared : List ℕ
    cleared = erase (2 ^ wits_of f - 1) (f.zeros - g.places) (groups_held f words)

    erased-padded : front_groups (wits_of f) f.n erased ≡ cleared ++ replicate behind (2 ^ wits_of f - 1)
    unfolding behind
    erased-padded =
        E.made ∙ ap (erase (2 ^ wits_of f - 1) (f.zeros - g.places)) T.holds.padded
        ∙ rw full (erase-padded (2 ^ wits_of f - 2) (f.zeros - g.places) (word_groups (wits_of f) * f.n - f.groups) (groups_held f words))

    pub places-are : g.places ≡ Field.zeros (front_groups (wits_of f) f.n erased)
    places-are =
        let e : Field.zeros (front_groups (wits_of f) f.n erased) ≡ Field.zeros cleared =
        ap Field.zeros erased-padded ∙ rw full (zeros-padded (2 ^ wits_of f - 2) behind (erase (suc (2 ^ wits_of f - 2)) (f.zeros - g.places) (groups_held f words))) in
        omega (arith, e, erase-zeros (2 ^ wits_of f - 1) (f.zeros - g.places) (groups_held f words) (omega (arith, full)), T.none, T.enough)

    -- what is laid into them makes the groups that the write leaves
    pub laid-over : (after : List ℕ) → Layered (wits_of f) f.n (pattern g.dealing g.places x) erased after →
        Carries (wits_of f) f.groups f.n (laid_by (wits_of f) g x (groups_held f words)) after
    laid-over after L =
        let ps = pattern g.dealing g.places x in
        let pad = replicate behind (2 ^ wits_of f - 1) in
        let made : front_groups (wits_of f) f.n after ≡ Field.lay cleared ps ++ pad =
        L.made ∙ ap (λ l. Field.lay l ps) erased-padded
        ∙ rw full (lay-padded (2 ^ wits_of f - 2) behind (erase (suc (2 ^ wits_of f - 2)) (f.zeros - g.places) (groups_held f words)) ps) in
        let long = lay-length cleared ps ∙ erase-length (2 ^ wits_of f - 1) (f.zeros - g.places) (groups_held f words) ∙ T.holds.many in
        let same : Field.lay cleared ps ≡ laid_by (wits_of f) g x (groups_held f words) = rw T.none in
        record { long = L.long; many = ap length (sym same) ∙ long; behind = pad; made = made ∙ ap (λ l. l ++ pad) same }

-- what is stored of the words is the field's groups
pub stored-groups : {m h n : ℕ} {gs words : List ℕ} → Carries m h n gs words → take h (all_groups m (word_groups m) words) ≡ gs
stored-groups {m} {h} {n} {gs} {words} C = rw (← C.many) (field-front m (word_groups m) n words gs C.behind C.made)

-- A field that was looked at takes a number in range at the place where it is due, and is left as the rules say.
module _ {s : Shape} {h : List ℕ} (G : Granted s h) (i x : ℕ) {g : Generation} (q : g ≡ generation_at (code_of s) i) where
  places-due : g.places ≡ get_or (counts_of s) i 0
  places-due = ap (λ (g : Generation). g.places) q

  module _ {z : ℕ} {gs : List ℕ} (R : Due s i z gs) where
    code-ready : (j : ℕ) → i ≡ j → Code.Ready (counts_of s) j gs
    code-ready zero e = R.blank e
    code-ready (suc j) e = let w : get_or (counts_of s) i 0 ≤ Field.zeros gs = omega (arith, R.enough, R.none) in rw e at w

    pub laid-after : length gs ≡ width_of s → laid_by s.m g x gs ≡ after_in s i x gs
    laid-after many = sym (after-erased s G.ok i x gs (code-ready i refl) many ∙ rw q)

  pub takes : {f : Held} {words : List ℕ} → wits_of f ≡ s.m → f.groups ≡ width_of s → Holds s.m (width_of s) f.n words →
      Due s i f.zeros (field_groups s f.n words) → i < s.t → x < get_or (ranges_of s) i 0 → Takes f g x words
  takes {f} {words} m w H R l r =
      let same : groups_held f words ≡ field_groups s f.n words = rw (m, w) in
      record {
        holds = rw (m, w) H;
        none = R.none ∙ ap Field.zeros (sym same);
        enough = omega (arith, places-due, R.enough);
        lays = rw m (layable G i x g l r q);
      }
