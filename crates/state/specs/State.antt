-- All that a call can change, as one value.
use Rattle.std.specs.Prelude.{ℕ, Bool, cond, ◌&&◌, List, [], length, Ok, Err, Result, ◌==◌, nat_le, nat_lt, slice_index, slice_index_or, slice_set}
use Rattle.std.specs.List.{remove}
use Rattle.faults.specs.Table.{plain}
use Rattle.faults.specs.declared.Fault.{Fault}
use Rattle.faults.specs.declared.Cause.{Cause}
use Rattle.faults.specs.declared.Cause.TheVariants.{Opening}
use Rattle.clocks.specs.Clocks.{tower_limit}
use Rattle.tray.specs.declared.tray.Tray.{Tray}
use Rattle.tray.specs.Contents.{contents, room, pushed}
use Rattle.book.specs.Books.{Kept}
use Rattle.book.specs.Limits.{key_limit}
use Rattle.messages.specs.Limits.{transaction_limit}
use Rattle.frames.specs.declared.hold.Frame.{Frame}
use Rattle.tables.specs.declared.Held.{Held}
use Rattle.tables.specs.declared.Reading.{Reading}
use Rattle.tables.specs.declared.Told.{Told}
use Rattle.state.specs.declared.Record.{Record}
use Rattle.state.specs.declared.Tower.{Tower}
use Rattle.state.specs.declared.Inner.{Inner}
use Rattle.state.specs.declared.Tables.{Tables}

-- a table: what it holds, oldest first, and how many places it has
pub record Table (X : Type 0) : Type 0 where
  pub items : List X
  pub room : ℕ

abbrev pub table_of : {X : Type 0} → Tray X → Table X
table_of t = record { items = contents t; room = room t }

-- a place is left
abbrev pub has_place : {X : Type 0} → Table X → Bool
has_place t = nat_lt (length t.items) t.room

abbrev pub more : {X : Type 0} → Table X → X → Table X
more t x = record { items = pushed t.items x; room = t.room }

abbrev pub with_item : {X : Type 0} → Table X → ℕ → X → Table X
with_item t i x = record { items = slice_set t.items i x; room = t.room }

abbrev pub holding : {X : Type 0} → Table X → List X → Table X
holding t xs = record { items = xs; room = t.room }

abbrev pub less_item : {X : Type 0} → Table X → ℕ → Table X
less_item t i = holding t (remove t.items i)

pub record State : Type 0 where
  pub net : Inner
  pub records : Table Record
  pub air : Table Frame
  pub held : Table Held
  pub readings : Table Reading
  pub book : Kept

abbrev pub state_of : Inner → Tables → Kept → State
state_of n t k = record { net = n; records = table_of t.records; air = table_of t.air; held = table_of t.held; readings = table_of t.readings; book = k }

-- ## A state, changed at one place

abbrev pub with_records : State → Table Record → State
with_records s t = record { net = s.net; records = t; air = s.air; held = s.held; readings = s.readings; book = s.book }

abbrev pub with_air : State → Table Frame → State
with_air s t = record { net = s.net; records = s.records; air = t; held = s.held; readings = s.readings; book = s.book }

abbrev pub with_held : State → Table Held → State
with_held s t = record { net = s.net; records = s.records; air = s.air; held = t; readings = s.readings; book = s.book }

abbrev pub with_readings : State → Table Reading → State
with_readings s t = record { net = s.net; records = s.records; air = s.air; held = s.held; readings = t; book = s.book }

-- ## Parts of a state

abbrev pub no_tower : Tower
no_tower = record { clock = record { entries = [] } }

abbrev pub tower_at : Inner → ℕ → Tower
tower_at n t = slice_index_or n.towers t no_tower

abbrev pub home_of : List ℕ → ℕ → ℕ
home_of homes key = slice_index homes key

-- ## The sizes of net, tables and book fit together

-- the most frames in the air, and the most entries of a reading list
abbrev pub frame_limit : ℕ
frame_limit = 512

abbrev pub reading_limit : ℕ
reading_limit = 4096

abbrev pub ranged : ℕ → ℕ → Bool
ranged n most = nat_le 1 n && nat_le n most

abbrev pub fit_net : ℕ → ℕ → ℕ → Bool
fit_net count keys bookKeys = ranged count tower_limit && (ranged bookKeys key_limit && bookKeys == keys)

abbrev pub fit_tables : ℕ → ℕ → ℕ → ℕ → ℕ → Bool
fit_tables keys held records air readings = held == keys && (ranged records transaction_limit && (ranged air frame_limit && ranged readings reading_limit))

unfoldable pub fitting : State → Bool
fitting s = fit_net s.net.count s.net.keys s.book.keys && fit_tables s.net.keys s.held.room s.records.room s.air.room s.readings.room

-- ## What a call answers, with the state after it

abbrev pub Answer : Type 0
Answer = Result Told Fault × State

abbrev pub refuse : State → Cause → Answer
refuse s cause = (Err (plain cause), s)

abbrev pub tells : Told → State → Answer
tells told s = (Ok told, s)

-- sizes that do not fit together turn every call down
abbrev pub where_fitting : State → Answer → Answer
where_fitting s a = cond (fitting s) a (refuse s Opening)
