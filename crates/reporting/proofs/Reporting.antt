-- The report, a word of the field more at a time.
use Prim.Native.Nat.{ℕ, ◌+◌, ◌*◌, ◌-◌, ◌/◌, ◌%◌, ◌^◌, ◌≤◌, ◌<◌}
use mathlib.Core.Path.{◌≡◌, refl, sym, ◌∙◌}
use mathlib.Core.List.{List, [], ◌∷◌, ◌++◌}
use native.Mathlib.Omega.{arith}
use lib.Count.{ones}
use lib.ListN.{length, get_or, set}
use Rattle.code.specs.Cells.{listed}
use Rattle.code.specs.Lists.{Upto}
use Rattle.code.specs.Resume.{freshly, places_from, bits_at}
use Rattle.code.proofs.Report.{flag_word, report_of, freshly-append, freshly-long, freshly-flags, report-more, count-more, bits_fit, flags-shift}
use Rattle.words.specs.Words.{word_groups, front_groups, all_groups}
use Rattle.words.specs.Marks.{groups_in}
use Rattle.words.proofs.Masks.{groups-long}
use Rattle.words.proofs.Front.{front-more, front_long}
use Rattle.reporting.specs.Report.{flags_of, word_flags}
use Rattle.reporting.proofs.Sizes.{groups-room, groups-within}

-- the first i words are reported
pub record Reporting (m : ℕ) (before after : List ℕ) (i : ℕ) (bits : List ℕ) (count : ℕ) : Type 0 where
  pub few : count ≤ 64 * i
  pub made : bits ≡ report_of (flags_of m i before after)
  pub told : count ≡ length (places_from 0 (flags_of m i before after))

pub reporting-none : (m : ℕ) (before after : List ℕ) → Reporting m before after 0 (0 ∷ 0 ∷ 0 ∷ 0 ∷ []) 0
unfolding all_groups freshly places_from listed bits_at
reporting-none m before after = record { few = omega arith; made = refl; told = refl }

-- the flags of word i, behind those of the words before it
module _ (m i : ℕ) (before after : List ℕ) where
  fronts-alike : i < length before → i < length after → length (front_groups m i before) ≡ length (front_groups m i after)
  fronts-alike kb ka = front_long m i before (omega arith) ∙ sym (front_long m i after (omega arith))

  flags-more : i < length before → i < length after
      → flags_of m (i + 1) before after ≡ flags_of m i before after ++ word_flags m (get_or before i 0) (get_or after i 0)
  flags-more kb ka = rw (front-more m i before kb, front-more m i after ka) (freshly-append (2 ^ m - 1) _ _ _ _ (fronts-alike kb ka))

  flags-before : i < length before → i < length after → length (flags_of m i before after) ≡ 64 * (word_groups m * i / 64) + word_groups m * i % 64
  flags-before kb ka =
      let l : length (flags_of m i before after) ≡ word_groups m * i = freshly-long (2 ^ m - 1) _ _ (fronts-alike kb ka) ∙ front_long m i before (omega arith) in
      omega arith

  flags-room : 2 ≤ m → m ≤ 4 → word_groups m * i % 64 + length (word_flags m (get_or before i 0) (get_or after i 0)) ≤ 64
  flags-room hm lm =
      let b = groups-long m (word_groups m) (get_or before i 0) in
      let a = groups-long m (word_groups m) (get_or after i 0) in
      rw (freshly-long (2 ^ m - 1) (groups_in m (get_or before i 0)) (groups_in m (get_or after i 0)) (b ∙ sym a), b) (groups-room m i hm lm)

-- what it takes to report word i, with its flags r, at bit `at` of the report
pub record Reportable (m : ℕ) (before after : List ℕ) (i : ℕ) (bits : List ℕ) (count at r : ℕ) : Type 0 where
  pub within : at / 64 < 4
  pub fits : get_or bits (at / 64) 0 + r * 2 ^ (at % 64) % 2 ^ 64 < 2 ^ 64
  pub more : (c : ℕ) → (c ≡ ones r) × (c ≤ 64)
      → Reporting m before after (i + 1) (set bits (at / 64) (get_or bits (at / 64) 0 + r * 2 ^ (at % 64) % 2 ^ 64)) (count + c)

pub reporting-more : {m : ℕ} {before after : List ℕ} {i : ℕ} {bits : List ℕ} {count : ℕ} → Reporting m before after i bits count → (n at r : ℕ)
    → 2 ≤ m → m ≤ 4 → i < length before → i < length after → i < n → word_groups m * n ≤ 256
    → at ≡ word_groups m * i → r ≡ flag_word (word_flags m (get_or before i 0) (get_or after i 0)) → Reportable m before after i bits count at r
reporting-more {m} {before} {after} {i} {bits} {count} C n at r hm lm kb ka k fit place word =
    let p : ℕ = word_groups m * i % 64 in
    let fs = flags_of m i before after in
    let gs = word_flags m (get_or before i 0) (get_or after i 0) in
    let flags : Upto 1 gs = freshly-flags (2 ^ m - 1) (groups_in m (get_or before i 0)) (groups_in m (get_or after i 0)) in
    let front = flags-before m i before after kb ka in
    let room = flags-room m i before after hm lm in
    let four = groups-within m i n hm lm k fit in
    let shifted : r * 2 ^ (at % 64) % 2 ^ 64 ≡ flag_word gs * 2 ^ p = rw (place, word) (flags-shift gs p flags room) in
    let next = flags-more m i before after kb ka in
    record {
      within = rw place four;
      fits = rw (shifted, place, C.made) (bits_fit fs gs _ p flags front room four);
      more = λ c q. record {
        few = omega (arith, C.few, q.1);
        made = rw (next, shifted, place, C.made) (sym (report-more fs gs _ p flags front room four));
        told = rw (next, C.told, q.0, word) (sym (count-more fs gs flags));
      };
    }
