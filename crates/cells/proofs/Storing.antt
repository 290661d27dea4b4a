-- The loop that stores words: their groups' wits before the field's end, and 0 behind it.
use mathlib.Core.Path.{◌≡◌, refl, sym, ap, ◌∙◌}
use mathlib.Core.Logic.{◌⊎◌, inl, inr}
use mathlib.Core.List.{List}
use Prim.Native.Nat.{ℕ, suc, ◌+◌, ◌*◌, ◌-◌, ◌^◌, ◌/◌, ◌%◌, ◌≤◌, ◌<◌}
use native.Mathlib.Omega.{arith}
use native.Mathlib.Decide.{dec_lt}
use native.Mathlib.Nat.{mul-suc, mul_assoc, lt_of_mul-lt-mul_left, mul-zero, add-zero, zero-add}
use lib.ListN.{length, get_or, take}
use lib.Seq.{take_at}
use Rattle.code.specs.Cells.{wit, value, listed, group, groups, wit_of, stored, turned}
use Rattle.code.proofs.Wits.{Bytes, wit-lt, wit-ext}
use Rattle.code.proofs.Numbers.{value_same, value_none, listed-length, value-split, value-front}
use Rattle.code.proofs.Cells.{groups-wit, wit_of-lt, sound-past, stored-wit, stored-length, stored-sound, stored_bytes}
use Rattle.words.specs.Words.{all_groups, word_bytes, word_groups}
use Rattle.cells.specs.Cells.{Storable, Swapped, Stored}
use Rattle.cells.proofs.Values.{value_tells, shift-left}
use Rattle.cells.proofs.Counting.{turned_none, turned_more}
use Rattle.cells.proofs.Regroup.{listed-append, all_words, wit_of-value}
use Rattle.words.proofs.Sizes.{word_fits}
use Rattle.cells.proofs.Sizes.{Sizes, sizes-none, sizes-more, wits-at}

-- the field's groups in words, and the buffer that they make
abbrev pub field : ℕ → ℕ → List ℕ → List ℕ
field m h ws = take h (all_groups m (word_groups m) ws)

abbrev pub target : ℕ → ℕ → ℕ → List ℕ → List ℕ
target o m h ws = stored o m (field m h ws)

-- the first i words are stored, up to byte `at`, which turned n wits
pub record Storing (o m h : ℕ) (bs cs ws : List ℕ) (size i at n : ℕ) : Type 0 where
  pub sizes : Sizes m h (length bs) size i at
  pub same : length cs ≡ length bs
  pub count : n ≡ turned o bs cs
  pub few : n ≤ 64 * i
  pub done : (k : ℕ) → k < 8 * at → wit o cs k ≡ wit o (target o m h ws) k
  pub rest : (k : ℕ) → 8 * at ≤ k → wit o cs k ≡ wit o bs k

module _ (o : ℕ) {m h : ℕ} {bs : List ℕ} (S : Storable m h bs) (ws : List ℕ) (long : length ws ≡ 16) where
  abbrev t : ℕ
  t = 8 * word_bytes m

  pos : (0 < m) × (0 < t)
  pos = (omega (arith, S.low), omega (arith, (word_fits m S.low S.high).1))

  -- the words' wits make the field's groups
  field_is : field m h ws ≡ groups m h (wit_of t ws)
  unfolding groups
  field_is =
      let f = wit_of t ws in
      let n = word_groups m in
      let w = word_fits m S.low S.high in
      let all : all_groups m n ws ≡ listed (group m f) (n * 0) (n * length ws) = all_words f (wit_of-lt t ws) m n ws 0
      (λ j l. rw (w.0, zero-add j) (wit_of-value ws t pos.1 j)) in
      let many : m * (n * 16) ≡ 16 * t = rw (← mul_assoc m n 16, w.0) (omega arith) in
      let room : h < suc (n * 16) = lt_of_mul-lt-mul_left m {m = h} {n = suc (n * 16)} (omega (arith, mul-suc m (n * 16), w.4 h S.few, S.low)) in
      let cut : n * 16 ≡ h + (n * 16 - h) = omega arith in
      rw (all, mul-zero n, long, cut, listed-append (group m f) 0 h (n * 16 - h))
      (take_at (listed (group m f) 0 h) (listed (group m f) (0 + h) (n * 16 - h)) h (listed-length (group m f) 0 h))

  field-long : length (field m h ws) ≡ h
  unfolding groups
  field-long = ap length field_is ∙ listed-length (group m (wit_of t ws)) 0 h

  -- the wits of the buffer
  before : (k : ℕ) → k < m * h → wit o (target o m h ws) k ≡ wit_of t ws k
  before k l = stored-wit o m (field m h ws) pos.0 k ∙ rw field_is (groups-wit m h (wit_of t ws) k (wit_of-lt t ws) pos.0 l)

  behind : (k : ℕ) → m * h ≤ k → wit o (target o m h ws) k ≡ 0
  behind = sound-past o m h (target o m h ws) (rw field-long at (stored-sound o m (field m h ws) pos.0))

  -- the buffer's part of word i, which ends d bits before the word does
  part : (i d : ℕ) → d ≤ t → t * i + (t - d) ≤ m * h → (d ≡ 0) ⊎ (m * h ≤ t * i + (t - d))
      → value (wit o (target o m h ws)) (t * i) t ≡ get_or ws i 0 / 2 ^ d * 2 ^ d % 2 ^ t
  part i d l a b =
      let f = wit_of t ws in
      let g = wit o (target o m h ws) in
      let w = get_or ws i 0 in
      let p : t - d + d ≡ t = omega arith in
      let none : value g (t * i + (t - d)) d ≡ 0 = value_none g (t * i + (t - d)) d
      (λ k u. elim b [ inl z ↦ absurd (omega arith) | inr z ↦ behind (t * i + (t - d) + k) (omega arith) ]) in
      let same : value g (t * i) (t - d) ≡ value f (t * i) (t - d) = value_same g f (t * i) (t - d) (λ k u. before (t * i + k) (omega arith)) in
      let front : w / 2 ^ d % 2 ^ (t - d) ≡ value f (t * i) (t - d) = (value-front f (t * i) (t - d) w d (wit_of-lt t ws)
      (rw p (wit_of-value ws t pos.1 i))).0 in
      let whole : value g (t * i) (t - d + d) ≡ w / 2 ^ d * 2 ^ d % 2 ^ (t - d + d) = rw (value-split g (t * i) (t - d) d, none, same, ← front, add-zero)
      (sym (shift-left (w / 2 ^ d) (t - d) d)) in
      rw p at whole

  pub storing-none : (size : ℕ) → size ≡ word_bytes m → Storing o m h bs bs ws size 0 0 0
  storing-none size e = record {
    sizes = sizes-none S size e;
    same = refl;
    count = sym (turned_none o bs);
    few = omega arith;
    done = λ k l. absurd
        (omega arith);
    rest = λ k l. refl;
  }

  module _ {cs : List ℕ} {size i at n : ℕ} (C : Storing o m h bs cs ws size i at n) where
    abbrev z : Sizes m h (length bs) size i at
    z = C.sizes

    module _ {ds : List ℕ} (d r : ℕ) (W : Swapped o cs ds (8 * at) (8 * size) d (get_or ws i 0) r) where
      step_count : n + r ≡ turned o bs ds
      step_count =
          let each : (k : ℕ) → (wit o cs k ≡ wit o bs k) ⊎ (wit o ds k ≡ wit o cs k) = λ k. elim
          (dec_lt k (8 * at)) [ yes u ↦ inr (W.done.front k u) | no u ↦ inl (C.rest k (omega arith)) ] in
          omega (arith, C.count, W.count, turned_more o bs cs ds C.same each)

      step-done : d ≤ 8 * size → 8 * (at + size) - d ≤ m * h → (d ≡ 0) ⊎ (m * h ≤ 8 * (at + size) - d) → (k : ℕ) → k < 8 * (at + size)
          → wit o ds k ≡ wit o (target o m h ws) k
      step-done l a b k u =
          let p : 8 * size ≡ t = ap (λ (x : ℕ). 8 * x) z.wide in
          let q : 8 * at ≡ t * i = rw (← p) (wits-at z) in
          let e : t * i + (t - d) ≡ 8 * (at + size) - d = omega arith in
          let v : value (wit o ds) (8 * at) (8 * size) ≡ value (wit o (target o m h ws)) (8 * at) (8 * size) =
          W.done.made ∙ sym (rw (p, q) (part i d (omega arith) (rw e a) (rw e b))) in
          elim (dec_lt k (8 * at)) [
            | yes s ↦ W.done.front k s ∙ C.done k s
            | no s ↦
                let f : 8 * at + (k - 8 * at) ≡ k = omega arith in
                rw f at (value_tells (wit o ds) (wit o (target o m h ws)) (8 * at) (8 * size) (wit-lt o ds) (wit-lt o (target o m h ws)) v (k - 8 * at)
                (omega arith))
          ]

    pub storing-more : {ds : List ℕ} (r : ℕ) → Swapped o cs ds (8 * at) (8 * size) 0 (get_or ws i 0) r → at + size < length bs
        → Storing o m h bs ds ws size (i + 1) (at + size) (n + r)
    storing-more {ds} r W l = record {
      sizes = sizes-more S z l;
      same = W.done.long ∙ C.same;
      count = step_count 0 r W;
      few = omega (arith, C.few, W.few);
      done = step-done 0 r W (omega arith) (omega (arith, z.tight)) (inl refl);
      rest = λ k u. W.done.rest k (omega arith) ∙ C.rest k (omega arith);
    }

    pub storing-all : {ds : List ℕ} (r : ℕ) → Swapped o cs ds (8 * at) (8 * size) (8 * (at + size) - m * h) (get_or ws i 0) r → length bs ≤ at + size → Bytes ds
        → Stored o m (field m h ws) bs ds (n + r)
    storing-all {ds} r W l B =
        let d : ℕ = 8 * (at + size) - m * h in
        let gs : List ℕ = field m h ws in
        let long-ds : length ds ≡ length bs = W.done.long ∙ C.same in
        let long-ts : length (target o m h ws) ≡ length bs = stored-length o m gs pos.0 ∙ rw field-long (sym S.fit) in
        let told = step-done d r W (omega (arith, z.tight, z.inside)) (omega (arith, z.held)) (inr (omega (arith, z.held))) in
        record {
          bytes = wit-ext o ds (target o m h ws) (long-ds ∙ sym long-ts) B (stored_bytes o m gs pos.0) (λ k u. told k (omega arith));
          count = step_count d r W;
        }
