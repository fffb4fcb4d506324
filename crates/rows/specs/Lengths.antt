-- No row is longer than the depth, whatever its count says.
use Rattle.std.specs.Prelude.{ℕ, ◌≤◌, Bool, true, false, cond, min, List, [], length, take, nat_lt, drop, slice_index, ◌*◌}
use Rattle.std.proofs.Common.{arith}
use Rattle.std.proofs.lemmas.List.{length-take}
use Rattle.clocks.specs.declared.Version.{Version}
use Rattle.rows.specs.Places.{row_of}

pub row_short : (counts : List ℕ) (versions : List Version) (keys depth k : ℕ) → length (row_of counts versions keys depth k) ≤ depth
row_short counts versions keys depth k = part_short (nat_lt k keys)
  where
    part_short : (there : Bool) → length (cond there (take (min (slice_index counts k) depth) (drop (k * depth) versions)) []) ≤ depth
    part_short true = let e = length-take (min (slice_index counts k) depth) (drop (k * depth) versions) in omega arith
    part_short false = omega arith
