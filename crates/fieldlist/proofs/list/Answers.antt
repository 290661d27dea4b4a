use native.Mathlib.Omega.{arith}
use Rattle.dump.proofs.Walking.{opened-ready, opened-start}
use Rattle.fieldlist.proofs.list.Goals as goal

pub list_records-requires : goal.list_records-requires
list_records-requires c =
    let o = c.«open».ensures in
    let e = c.in-Ok.is in
    let s = opened-start o _ e in
    (opened-ready o _ e, s.0, omega (arith, s.1, s.2))
