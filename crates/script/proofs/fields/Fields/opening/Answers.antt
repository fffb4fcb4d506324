use Rattle.std.proofs.Common.{arith}
use Rattle.words.specs.declared.Name.TheVariants.{Towers, Depth}
use Rattle.script.proofs.Faulty.{at_break, then-number, then_homes, then-book}
use Rattle.script.proofs.fields.Fields.opening.Goals as goal

pub returns-in_err-homes : goal.returns-in_err-homes
returns-in_err-homes c =
    at_break _ _ _ _ c.from_residual-in_err-homes.ensures.1
    (then-number Towers _ c.in_ok-towers.ensures (grind arith) (c.in_err-homes.ensures _))

pub returns-in_err-depth : goal.returns-in_err-depth
returns-in_err-depth c =
    at_break _ _ _ _ c.from_residual-in_err-depth.ensures.1
    (then-number Towers _ c.in_ok-towers.ensures (grind arith)
    (then_homes _ c.in_ok-homes.ensures (c.in_err-depth.ensures _)))

pub returns-in_err-book : goal.returns-in_err-book
returns-in_err-book c =
    at_break _ _ _ _ c.from_residual-in_err-book.ensures.1
    (then-number Towers _ c.in_ok-towers.ensures (grind arith)
    (then_homes _ c.in_ok-homes.ensures
    (then-number Depth _ c.in_ok-depth.ensures (grind arith) (c.in_err-book.ensures _))))

pub returns-in_err-end : goal.returns-in_err-end
returns-in_err-end c =
    at_break _ _ _ _ c.from_residual-in_err-end.ensures.1
    (then-number Towers _ c.in_ok-towers.ensures (grind arith)
    (then_homes _ c.in_ok-homes.ensures
    (then-number Depth _ c.in_ok-depth.ensures (grind arith)
    (then-book _ c.in_ok-book.ensures c.in_err-end.ensures))))
