use Rattle.script.proofs.Faulty.{is_missing, is_misnamed}
use Rattle.script.proofs.fields.Fields.value.Goals as goal

pub returns-in_default : goal.returns-in_default
returns-in_default c = is_missing c.args.name c.in_default.ensures c.missing.ensures

pub returns-in_default-value_after : goal.returns-in_default-value_after
returns-in_default-value_after c = is_misnamed c.args.name c.in-Some.ensures c.fault.ensures c.in_default-value_after.ensures
