use Rattle.dump.proofs.Walking.{list-opens, list-broken}
use Rattle.dump.proofs.open_list.Goals as goal

pub returns-in_default : goal.returns-in_default
returns-in_default c = list-broken _ _ c.requires.0 c.read_list.ensures c.in_default.is

pub returns : goal.returns
returns c = list-opens _ _ c.requires.0 c.read_list.ensures _ c.in-Some.is
