use Rattle.dump.proofs.Walking.{first-within}
use Rattle.answers.proofs.walks.Dump.first_record.Goals as goal

pub returns-in_ok-opened-in-New : goal.returns-in_ok-opened-in-New
returns-in_ok-opened-in-New c = first-within _ c.in_ok-opened-in-New.opened c.in_ok-opened-in-New.ensures
