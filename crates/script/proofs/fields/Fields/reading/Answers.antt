-- A rule set of these lemmas was tried in place of the terms; the goals at a `?` stayed open, as in the other fields' answers.
use Rattle.std.proofs.Common.{arith}
use Rattle.words.specs.declared.Name.TheVariants.{Tx}
use Rattle.script.proofs.Faulty.{at_break, then-number}
use Rattle.script.proofs.fields.Fields.reading.Goals as goal

pub returns-in_err-key : goal.returns-in_err-key
returns-in_err-key c =
    at_break _ _ _ _ c.from_residual-in_err-key.ensures.1
    (then-number Tx _ c.in_ok-tx.ensures (omega arith) c.in_err-key.ensures)
