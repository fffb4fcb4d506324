use Rattle.std.proofs.Common.{rules}
use Rattle.words.proofs.Numbers.{none_at_empty, none_at_zero, number-none, number-some}
use Rattle.words.proofs.number.Goals as goal

pub returns-in-empty : goal.returns-in-empty
returns-in-empty c = search (rules, none_at_empty)

pub returns-in-48 : goal.returns-in-48
returns-in-48 c = search (rules, none_at_zero)

pub returns-in_default : goal.returns-in_default
returns-in_default c = search (rules, number-none, number-some)
