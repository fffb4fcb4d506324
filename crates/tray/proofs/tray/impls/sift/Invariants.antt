use Rattle.std.proofs.Common.{◌≤◌, Bool}
use Rattle.std.proofs.lemmas.List.Filters.{FiltersInPlace}
use Rattle.tray.specs.Contents.{Computes}
use Rattle.tray.proofs.tray.impls.sift.Given as goal

abbrev pub invariant-loop-i : goal.invariant-loop-i
invariant-loop-i g l =
    (l.passed ≤ l.i)
    × ((keeps : g.row.T.Denot → Bool) → Computes g.F.Fn l.rule keeps → FiltersInPlace keeps l.initial.items l.items l.passed l.i)
