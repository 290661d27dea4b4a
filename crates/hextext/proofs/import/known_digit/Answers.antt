use mathlib.Core.Path.{sym}
use native.Mathlib.Omega.{arith}
use Rattle.code.proofs.HexLines.{digit-known}
use Rattle.hextext.proofs.import.known_digit.Goals as goal

pub returns : goal.returns
returns c = (λ h. sym (digit-known c.args.c h), omega arith)
