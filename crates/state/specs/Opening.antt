-- What opening answers, and the state then; and what any call does.
use Rattle.std.specs.Prelude.{ℕ, ◌-◌, Bool, true, cond, ◌&&◌, List, [], ◌∷◌, ◌++◌, length, replicate, Ok, Err, Result, nat_le, nat_lt}
use Rattle.faults.specs.Table.{plain}
use Rattle.faults.specs.declared.Fault.{Fault}
use Rattle.faults.specs.declared.Cause.{Cause}
use Rattle.faults.specs.declared.Cause.TheVariants.{Opening}
use Rattle.clocks.specs.Clocks.{tower_limit}
use Rattle.book.specs.Books.{blank_kept}
use Rattle.book.specs.Limits.{key_limit}
use Rattle.tables.specs.declared.Call.{Call}
use Rattle.tables.specs.declared.Call.TheVariants.{Begin, Read, Draft, Close, Drop, Deliver}
use Rattle.tables.specs.declared.Told.{Told}
use Rattle.state.specs.declared.Tower.{Tower}
use Rattle.state.specs.declared.Inner.{Inner}
use Rattle.state.specs.State.{State, Answer, holding, fitting}
use Rattle.state.specs.Calls.{begun, read_on, drafted, dropped}
use Rattle.state.specs.Closing.{closed}
use Rattle.state.specs.Delivery.{delivered}

-- every home is a tower of the net
abbrev pub housed : ℕ → List ℕ → Bool
housed towers [] = true
housed towers (h ∷ hs) = nat_lt h towers && housed towers hs

abbrev pub new_tower : Tower
new_tower = record { clock = record { entries = replicate tower_limit 0 } }

-- no transactions, and every clock at 0
abbrev pub new_net : ℕ → List ℕ → Inner
new_net towers homes = record { towers = replicate tower_limit new_tower; count = towers; homes = homes ++ replicate (key_limit - length homes) 0; keys = length homes; last = 0 }

-- the tables are empty
abbrev pub emptied : Inner → State → State
emptied n s = record { net = n; records = holding s.records []; air = holding s.air []; held = holding s.held []; readings = holding s.readings []; book = s.book }

-- there are not too many towers and homes, every home is a tower, the net fits the tables and the book, and the book is blank
abbrev pub opens : ℕ → List ℕ → State → Bool
opens towers homes s =
    nat_le towers tower_limit
    && (nat_le (length homes) key_limit
    && (housed towers homes
    && (fitting (emptied (new_net towers homes) s) && blank_kept s.book)))

-- the net, with empty tables, or the refusal, with the tables as they were; the net that the state has before does not matter
abbrev pub opened : ℕ → List ℕ → State → Result Inner Fault × State
opened towers homes s = cond (opens towers homes s) (Ok (new_net towers homes), emptied (new_net towers homes) s) (Err (plain Opening), s)

-- ## Any call

abbrev pub called : State → Call → Answer
called s (Begin tower) = begun s tower
called s (Read tx key) = read_on s tx key
called s (Draft tx key content) = drafted s tx key content
called s (Close tx) = closed s tx
called s (Drop tx) = dropped s tx
called s (Deliver position) = delivered s position

-- what stands in the list of what was told
abbrev pub told_of : Result Told Fault → Result Told Cause
told_of (Ok told) = Ok told
told_of (Err f) = Err f.cause
