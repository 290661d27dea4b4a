-- Document 02, §8, on bytes: the same theorem of the cells, no wit falls, and what a write leaves is accepted.
use Prim.Native.Nat.{ℕ, suc, ◌*◌, ◌-◌, ◌^◌, ◌≤◌, ◌<◌}
use mathlib.Core.Path.{◌≡◌, refl, sym, ap, ◌∙◌}
use mathlib.Core.Bool.{true}
use mathlib.Core.List.{List}
use native.Mathlib.Omega.{arith}
use lib.ListN.{length}
use Rattle.code.specs.Cells.{wit, group, groups, opened, sound}
use Rattle.code.specs.Code.{Code, erased, width, generation_at}
use Rattle.code.specs.Field.{write, wrote, after_by}
use Rattle.code.specs.Calls.{groups_in, read_cells, write_cells}
use Rattle.code.specs.Lists.{Upto}
use Rattle.code.specs.Judge.{Rightly, right}
use Rattle.code.specs.JudgeCall.{RightCells, judge_cells}
use Rattle.code.proofs.Wits.{Bytes}
use Rattle.code.proofs.Cells.{groups-length, opened-small, sound-told, stored-wit, grows-wit}
use Rattle.code.proofs.Conditions.{Layout}
use Rattle.code.proofs.Field.{Tells, after-by, after-tells}
use Rattle.code.proofs.Bytes.{buffer, storing-wrote}
use Rattle.code.proofs.Judge.{judges-right, right-judges, rightly-grows, write-right}

module _ (c : Code) (y : Layout c) (pos : 0 < c.m) where
  pub long-in : (bs : List ℕ) → length (groups_in c bs) ≡ width c
  long-in bs = groups-length c.m (width c) (wit c.order bs)

  rightly-sized : (gs : List ℕ) (x : ℕ) (gs' : List ℕ) → length gs ≡ width c → Rightly c gs x gs' → (length gs' ≡ width c) × Upto (erased c) gs'
  rightly-sized gs x gs' l r =
      let w = r.write in
      let a = after-by c y r.place x w.chosen gs w.there w.ranged l w.exact in
      rw w.made (a.long ∙ l, a.small)

  -- from the tests to a choice
  pub cells_right : 0 < (generation_at c 0).range → (before : List ℕ) (x : ℕ) (bs : List ℕ) → Bytes bs → sound c.order c.m (width c) bs ≡ true →
      judge_cells c before bs ≡ right x → RightCells c before x bs
  unfolding judge_cells
  cells_right some before x bs B q h = record {
    groups = groups_in c bs;
    rightly = judges-right c y some (groups_in c before) (groups_in c bs) (long-in before) (long-in bs) (opened-small c.order c.m (width c) bs) x h;
    laid = sym (sound-told c.order c.m (width c) bs q B pos);
  }

  -- from a choice to the tests, in a sound buffer
  pub right-cells : (before : List ℕ) (x : ℕ) (bs : List ℕ) → RightCells c before x bs →
      (judge_cells c before bs ≡ right x) × (sound c.order c.m (width c) bs ≡ true)
  unfolding judge_cells
  right-cells before x bs r =
      let z = rightly-sized (groups_in c before) x r.groups (long-in before) r.rightly in
      let b = buffer c y pos r.groups z.0 z.1 in
      rw (r.laid, b.back, b.right) (right-judges c y (groups_in c before) x r.groups (long-in before) r.rightly, refl)

  pub cells-only : (before : List ℕ) (x x' : ℕ) (bs : List ℕ) → RightCells c before x bs → RightCells c before x' bs → x ≡ x'
  cells-only before x x' bs r r' = let q = sym (right-cells before x bs r).0 ∙ (right-cells before x' bs r').0 in cc

  -- no 1 became 0
  pub cells-rise : (before : List ℕ) (x : ℕ) (bs : List ℕ) → Bytes before → sound c.order c.m (width c) before ≡ true → RightCells c before x bs →
      (w : ℕ) → wit c.order before w ≤ wit c.order bs w
  cells-rise before x bs B q r w =
      let gs = groups_in c before in
      let told = sound-told c.order c.m (width c) before q B pos in
      let k : wit c.order before w ≡ _ = ap (λ (z : List ℕ). wit c.order z w) (sym told) ∙ stored-wit c.order c.m gs pos w in
      rw (r.laid, k, stored-wit c.order c.m r.groups pos w)
      (grows-wit c.m gs r.groups w pos (rightly-grows c y gs x r.groups (long-in before) r.rightly))

  -- what an accepted write leaves
  pub write-cells : (x : ℕ) (bs : List ℕ) (i : ℕ) (bs' : List ℕ) → write_cells c x bs ≡ wrote i bs' → RightCells c bs x bs'
  unfolding write_cells
  write-cells x bs i bs' w =
      let gs = groups_in c bs in
      let t = storing-wrote c.order c.m (sound c.order c.m (width c) bs) (write c x gs) i bs' w in
      record { groups = t.1; rightly = write-right c y x gs i t.1 (long-in bs) t.2; laid = t.3 }

  -- what the cells after read as
  pub right-tells : (before : List ℕ) (x : ℕ) (bs : List ℕ) → (r : RightCells c before x bs) → Tells c.first (read_cells c bs) (suc r.rightly.place) x
  unfolding read_cells
  right-tells before x bs r =
      let gs = groups_in c before in
      let z = rightly-sized gs x r.groups (long-in before) r.rightly in
      let b = buffer c y pos r.groups z.0 z.1 in
      let w = r.rightly.write in
      let n = r.rightly.place in
      let a = after-by c y n x w.chosen gs w.there w.ranged (long-in before) w.exact in
      rw (r.laid, b.back, w.made) (after-tells c y n x gs (after_by c w.chosen n x gs) a)
