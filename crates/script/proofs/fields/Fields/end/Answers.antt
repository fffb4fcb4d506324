use Rattle.script.proofs.Faulty.{is_extra}
use Rattle.script.proofs.fields.Fields.end.Goals as goal

pub returns-in-Some : goal.returns-in-Some
returns-in-Some c = is_extra c.in-Some.ensures c.fault.ensures
