use native.Mathlib.Omega.{arith}
use Rattle.text.proofs.Laws.{exactly, within-then, wider}
use Rattle.handbook.specs.Rows.{row_text}
use Rattle.handbook.proofs.put_row.Goals as goal

pub returns : goal.returns
unfolding row_text
returns c =
    let front = within-then c.put_decimal-named.ensures (exactly c.put_byte-first.ensures) in
    let rest = within-then c.put_entries-end.ensures (exactly c.put_byte.ensures) in
    wider (omega arith) (within-then front rest)
