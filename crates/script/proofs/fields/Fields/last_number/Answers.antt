use Rattle.std.proofs.Common.{arith}
use Rattle.script.proofs.Faulty.{at_break, then-number}
use Rattle.script.proofs.fields.Fields.last_number.Goals as goal

pub returns-in_err-end : goal.returns-in_err-end
returns-in_err-end c =
    at_break _ _ _ _ c.from_residual-in_err-end.ensures.1
    (then-number c.args.name _ c.in_ok-n.ensures (omega arith) c.in_err-end.ensures)
