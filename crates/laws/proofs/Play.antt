-- The run of any list of calls, computed. Assumes nothing.
use Rattle.std.proofs.Common.{List, [], ◌∷◌}
use Rattle.tables.specs.declared.Call.{Call}
use Rattle.laws.specs.Net.{Net}
use Rattle.laws.specs.Words.{Event}
use Rattle.laws.specs.State.{Visible, new}
use Rattle.laws.specs.Faults.{first_fault}
use Rattle.laws.specs.Rules.{Run, start, then}
use Rattle.laws.proofs.Determined.{answer_of, answered}

pub record Played : Type 0 where
  pub history : List Event
  pub state : Visible

-- the net after the calls, the newest of which stands first
abbrev pub play : Net → List Call → Played
play net [] = record { history = []; state = new }
play net (c ∷ cs) =
    let s = play net cs in
    let r = answer_of net s.state c (first_fault net s.state c) in
    record { history = record { call = c; told = r.told } ∷ s.history; state = r.state }

pub played : (net : Net) (cs : List Call) → Run net (play net cs).history (play net cs).state
played net [] = start
played net (c ∷ cs) = then (played net cs) (answered net (play net cs).history (play net cs).state (played net cs) c)
