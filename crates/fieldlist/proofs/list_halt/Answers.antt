use native.Mathlib.Omega.{arith}
use Rattle.fieldlist.proofs.Pieces.{halt-part, halt-all}
use Rattle.fieldlist.proofs.list_halt.Goals as goal

pub hand_out-requires : goal.hand_out-requires
hand_out-requires c =
    let p = c.put_halt_lines-count.ensures in
    halt-part _ _ c.args.halt c.requires p (omega (arith, p.few))

pub returns : goal.returns
returns c = halt-all _ _ c.args.halt c.requires c.put_halt_lines-count.ensures
