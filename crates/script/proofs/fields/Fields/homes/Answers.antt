use Rattle.std.proofs.Common.{rules}
use Rattle.script.specs.Grammar.Slot.{some_homes}
use Rattle.script.proofs.Faulty.{is_unfit}
use Rattle.script.proofs.fields.Fields.homes.Goals as goal

pub returns-then-not-all_digits : goal.returns-then-not-all_digits
returns-then-not-all_digits c = is_unfit some_homes _ c.in_ok-value.ensures c.fault.ensures (λ d. search rules)
