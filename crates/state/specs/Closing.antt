-- What close answers, and the state then.
use Rattle.std.specs.Prelude.{ℕ, ◌+◌, Bool, cond, List, ◌++◌, length, None, Ok, Err, Result, ◌==◌, nat_le}
use Rattle.faults.specs.declared.Fault.{Fault}
use Rattle.faults.specs.declared.Cause.TheVariants.{Air as NoAir}
use Rattle.messages.specs.Drafting.{counted}
use Rattle.frames.specs.declared.hold.Frame.{Frame}
use Rattle.tables.specs.declared.Phase.TheVariants.{Closing, Granted}
use Rattle.tables.specs.declared.Told.TheVariants.{Sent, ReadOnly}
use Rattle.state.specs.declared.Record.{Record}
use Rattle.state.specs.declared.Purpose.TheVariants.{Prepare}
use Rattle.state.specs.State.{State, Answer, refuse, tells, where_fitting, Table, holding, with_air}
use Rattle.state.specs.Calls.{voting, amended, opened_at}
use Rattle.state.specs.Letters.{letter_to, sealed}

-- there are places for n more
abbrev pub places_for : {X : Type 0} → Table X → ℕ → Bool
places_for t n = nat_le (length t.items + n) t.room

abbrev pub all_sent : State → ℕ → Record → Result (List Frame) Fault → Answer
all_sent s tx r (Err e) = (Err e, s)
all_sent s tx r (Ok fs) =
    cond (places_for s.air (length fs))
    (tells (Sent (length fs)) (with_air (amended s tx (voting Closing (length fs) None r)) (holding s.air (s.air.items ++ fs))))
    (refuse s NoAir)

abbrev pub closed_by : State → ℕ → Result Record Fault → Answer
closed_by s tx (Err e) = (Err e, s)
closed_by s tx (Ok r) =
    cond (length (counted r.drafts) == 0)
    (tells ReadOnly (amended s tx (voting Granted 0 None r)))
    (all_sent s tx r (sealed (letter_to s.net.homes tx r Prepare) s.net.count))

abbrev pub closed : State → ℕ → Answer
closed s tx = where_fitting s (closed_by s tx (opened_at s.records.items tx))
