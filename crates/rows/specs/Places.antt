-- The places of a key.
use Rattle.std.specs.Prelude.{ℕ, ◌*◌, min, cond, List, [], take, drop, nat_lt, slice_index}
use Rattle.clocks.specs.declared.Version.{Version}

-- the list of a key: as many of its places as its count says, and none where the key is not there
abbrev pub row_of : List ℕ → List Version → ℕ → ℕ → ℕ → List Version
row_of counts versions keys depth k = cond (nat_lt k keys) (take (min (slice_index counts k) depth) (drop (k * depth) versions)) []
