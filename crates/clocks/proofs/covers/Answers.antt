use Rattle.std.proofs.Common.{rules, true, false, inl, inr, arith}
use Rattle.std.proofs.lemmas.Bool.{cases_lt}
use Rattle.std.proofs.lemmas.List.{get_or_past}
use Rattle.clocks.specs.Clocks.{Covers}
use Rattle.clocks.proofs.Covering.{covers-value}
use Rattle.clocks.proofs.covers.Goals as goal

pub returns-then-unwrap_or-least-clause-value : goal.returns-then-unwrap_or-least-clause-value
returns-then-unwrap_or-least-clause-value c = covers-value false c.args.clock.now c.args.bound.now (search rules)

pub returns : goal.returns
returns c =
    let all : Covers c.args.clock.now c.args.bound.now = λ j. elim (cases_lt j c.loop-i.i) [
      | inl below ↦ c.loop-i.invariant j below
      | inr past ↦ omega (arith, get_or_past c.args.bound.now j 0 (omega arith))
    ] in
    record { rule = all; value = covers-value true _ _ all }
