use Rattle.script.specs.Grammar.Slot.{a_number}
use Rattle.script.proofs.Faulty.{is_unfit, no_number}
use Rattle.script.proofs.fields.Fields.number.Goals as goal

pub returns-in_default : goal.returns-in_default
returns-in_default c = is_unfit (a_number c.args.name) _ c.in_ok-value.ensures c.fault.ensures (no_number c.args.name _ c.in_default.ensures)
