use Rattle.std.proofs.Common.{◌≡◌, ◌≤◌, length, take}
use Rattle.journal.specs.Records.{list_of}
use Rattle.journal.proofs.search.count_of.Given as goal

abbrev pub invariant-loop-r : goal.invariant-loop-r
invariant-loop-r l = (l.n ≡ length (list_of (take l.r-index l.records) l.key)) × (l.n ≤ l.r-index)
