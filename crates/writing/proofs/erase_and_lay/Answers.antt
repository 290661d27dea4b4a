use Rattle.writing.proofs.Laying.{places-are, laid-over}
use Rattle.writing.proofs.erase_and_lay.Goals as goal

pub lay_number-requires : goal.lay_number-requires
lay_number-requires c = let T = c.requires.0 in (c.erase.ensures.ready, places-are T c.erase.ensures, T.lays)

pub returns : goal.returns
returns c = laid-over c.requires.0 c.erase.ensures _ c.lay_number.ensures
