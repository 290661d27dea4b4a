use Rattle.std.proofs.Common.{◌*◌, length, rules}
use Rattle.std.proofs.lemmas.Str.{IsUtf8-from_ascii, IsAscii-take}
use Rattle.lines.proofs.HexDisplay.fmt.Goals as goal

pub unwrap-requires : goal.unwrap-requires
unwrap-requires g c =
    let digits = c.digits_of-digits in
    let text = IsUtf8-from_ascii _ (IsAscii-take digits.result (2 * length c.in-Some.part.now) digits.ensures) in
    search rules
