use Rattle.script.specs.Grammar.Slot.{a_book}
use Rattle.script.proofs.Faulty.{is_unfit, no_book}
use Rattle.script.proofs.fields.Fields.book.Goals as goal

pub returns-in_default : goal.returns-in_default
returns-in_default c = is_unfit a_book _ c.in_ok-value.ensures c.fault.ensures (no_book _ c.in_default.ensures)
