use Rattle.std.proofs.Common.{◌+◌, drop, length}
use Rattle.code.specs.Hex.{line_data}
use Rattle.storing.proofs.Put.{Storing}
use Rattle.hextext.specs.Answers.{HasData}
use Rattle.hextext.proofs.import.put_data.Given as goal

abbrev pub invariant-loop-i : goal.invariant-loop-i
invariant-loop-i l =
    let bytes = line_data l.line in
    HasData l.line l.count → Storing l.initial.out l.at bytes l.out (l.at + l.i) (drop l.i bytes) (l.at + length bytes)
