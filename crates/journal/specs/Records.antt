-- The lists of versions that a run of records stands for.
use Rattle.std.specs.Prelude.{ℕ, cond, List, [], ◌∷◌, ◌==◌}
use Rattle.clocks.specs.declared.Version.{Version}
use Rattle.journal.specs.declared.record.Record.{Record}

-- the versions of a key, in the order of their arrival
abbrev pub list_of : List Record → ℕ → List Version
list_of [] k = []
list_of (r ∷ rs) k = cond (r.key == k) (r.version ∷ list_of rs k) (list_of rs k)
