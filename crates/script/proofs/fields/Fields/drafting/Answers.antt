use Rattle.std.proofs.Common.{arith}
use Rattle.words.specs.declared.Name.TheVariants.{Tx, Key}
use Rattle.script.proofs.Faulty.{at_break, then-number}
use Rattle.script.proofs.fields.Fields.drafting.Goals as goal

pub returns-in_err-key : goal.returns-in_err-key
returns-in_err-key c =
    at_break _ _ _ _ c.from_residual-in_err-key.ensures.1
    (then-number Tx _ c.in_ok-tx.ensures (omega arith) (c.in_err-key.ensures _))

pub returns-in_err-value : goal.returns-in_err-value
returns-in_err-value c =
    at_break _ _ _ _ c.from_residual-in_err-value.ensures.1
    (then-number Tx _ c.in_ok-tx.ensures (omega arith)
    (then-number Key _ c.in_ok-key.ensures (omega arith) c.in_err-value.ensures))
