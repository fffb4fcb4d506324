-- What the towers, the tables, the book and the air hold, changed at one place.
use Rattle.std.specs.Prelude.{ℕ, suc, List, [], ◌∷◌, ◌++◌, Some, None}
use Rattle.clocks.specs.declared.Version.{Version}
use Rattle.messages.specs.declared.Draft.{Draft}
use Rattle.tables.specs.declared.Held.{Held}
use Rattle.tables.specs.declared.Reading.{Reading}
use Rattle.tables.specs.declared.Phase.TheVariants.{Granted}
use Rattle.laws.specs.Lists.{put, without}
use Rattle.laws.specs.Net.{Clock, Record, Message, Placement, written}
use Rattle.laws.specs.Words.{blank, placed_as}

pub record Visible : Type 0 where
  -- how many transactions were given, and the last place
  pub begun : ℕ
  pub last : ℕ
  pub records : ℕ → Record
  pub clocks : ℕ → Clock
  pub book : ℕ → List Version
  pub held : List Held
  pub air : List Message
  -- the oldest first
  pub readings : List Reading

-- ## A state, changed at one place

abbrev pub amended : Visible → ℕ → Record → Visible
amended v i r = record { begun = v.begun; last = v.last; records = put v.records i r; clocks = v.clocks; book = v.book; held = v.held; air = v.air; readings = v.readings }

abbrev pub sent : Visible → List Message → Visible
sent v ms = record { begun = v.begun; last = v.last; records = v.records; clocks = v.clocks; book = v.book; held = v.held; air = v.air ++ ms; readings = v.readings }

abbrev pub removed : Visible → ℕ → Visible
removed v p = record { begun = v.begun; last = v.last; records = v.records; clocks = v.clocks; book = v.book; held = v.held; air = without v.air p; readings = v.readings }

abbrev pub holding : Visible → List Held → Visible
holding v hs = record { begun = v.begun; last = v.last; records = v.records; clocks = v.clocks; book = v.book; held = hs; air = v.air; readings = v.readings }

-- tower t takes in what the transaction w wrote there, and its clock passes it
abbrev pub took_in : Visible → ℕ → ℕ → ℕ → ℕ → List Draft → Visible
took_in v t w o n lines = record { begun = v.begun; last = v.last; records = v.records; clocks = put v.clocks t (put (v.clocks t) o n); book = λ k. v.book k ++ written w o n lines k; held = v.held; air = v.air; readings = v.readings }

abbrev pub read : Visible → Reading → Visible
read v d = record { begun = v.begun; last = v.last; records = v.records; clocks = v.clocks; book = v.book; held = v.held; air = v.air; readings = v.readings ++ d ∷ [] }

abbrev pub placing : Visible → Visible
placing v = record { begun = v.begun; last = suc v.last; records = v.records; clocks = v.clocks; book = v.book; held = v.held; air = v.air; readings = v.readings }

-- the net at first
abbrev pub new : Visible
new = record { begun = 0; last = 0; records = λ _. blank; clocks = λ _ _. 0; book = λ _. []; held = []; air = []; readings = [] }

-- the transaction i, as the last vote grants it: with the number that its origin's clock expects next, and the next place
abbrev pub granted_record : Visible → ℕ → Record
granted_record v i =
    let r = v.records i in
    record { origin = r.origin; phase = Granted; bound = r.bound; answered = r.answered; drafts = r.drafts; awaited = 0; named = None; number = Some (suc (v.clocks r.origin r.origin)); place = Some (suc v.last) }

abbrev pub placement : Visible → ℕ → Placement
placement v i = placed_as i (granted_record v i)
