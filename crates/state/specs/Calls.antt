-- What begin, read, draft and drop answer, and the state then.
use Rattle.std.specs.Prelude.{ℕ, false, cond, not, List, [], length, Some, None, Ok, Err, Option, Result, nat_le, nat_lt}
use Rattle.std.specs.List.{slice_get}
use Rattle.faults.specs.Table.{plain}
use Rattle.faults.specs.declared.Fault.{Fault}
use Rattle.faults.specs.declared.Cause.TheVariants.{Tower as NoTower, Unknown, Key as NoKey, Phase as WrongPhase, Full, Drafts as TooMany, Air as NoAir}
use Rattle.clocks.specs.declared.Clock.{Clock}
use Rattle.clocks.specs.declared.Content.{Content}
use Rattle.messages.specs.Limits.{line_limit, transaction_limit}
use Rattle.messages.specs.Drafting.{counted, drafts_of}
use Rattle.messages.specs.declared.Draft.{Draft}
use Rattle.messages.specs.declared.Drafts.{Drafts}
use Rattle.messages.specs.declared.Message.{Message}
use Rattle.messages.specs.declared.Body.TheVariants.{Query}
use Rattle.messages.specs.declared.Objection.{Objection}
use Rattle.frames.specs.Answers.{written}
use Rattle.frames.specs.declared.hold.Frame.{Frame}
use Rattle.tables.specs.declared.Phase.{Phase}
use Rattle.tables.specs.declared.Phase.TheVariants.{Open, Waiting, Closing, Granted, Refused, Dropped}
use Rattle.tables.specs.declared.Told.TheVariants.{Begun, Own, Sent, Drafts as Drafted, Dropped as ToldDropped}
use Rattle.laws.specs.Words.{draft_of, redrafted}
use Rattle.state.specs.declared.Record.{Record}
use Rattle.state.specs.State.{State, Answer, refuse, tells, where_fitting, has_place, more, with_item, with_records, with_air, tower_at, home_of}

-- ## A record, changed at one place

abbrev pub new_record : ℕ → Clock → Record
new_record tower clock = record { origin = tower; phase = Open; bound = clock; answered = false; drafts = drafts_of []; awaited = 0; named = None; number = None; place = None }

abbrev pub in_phase : Phase → Record → Record
in_phase p r = record { origin = r.origin; phase = p; bound = r.bound; answered = r.answered; drafts = r.drafts; awaited = r.awaited; named = r.named; number = r.number; place = r.place }

abbrev pub drafting : Drafts → Record → Record
drafting d r = record { origin = r.origin; phase = r.phase; bound = r.bound; answered = r.answered; drafts = d; awaited = r.awaited; named = r.named; number = r.number; place = r.place }

-- in this phase, with so many votes awaited and the vote against that is kept
abbrev pub voting : Phase → ℕ → Option Objection → Record → Record
voting p awaited named r = record { origin = r.origin; phase = p; bound = r.bound; answered = r.answered; drafts = r.drafts; awaited = awaited; named = named; number = r.number; place = r.place }

abbrev pub amended : State → ℕ → Record → State
amended s tx r = with_records s (with_item s.records tx r)

-- ## begin

abbrev pub begun : State → ℕ → Answer
begun s tower = where_fitting s
    (cond (nat_lt tower s.net.count)
    (cond (has_place s.records)
    (tells (Begun (length s.records.items)) (with_records s (more s.records (new_record tower (tower_at s.net tower).clock))))
    (refuse s Full))
    (refuse s NoTower))

-- ## The record of a transaction that is open

abbrev pub open_only : Record → Phase → Result Record Fault
open_only r Open = Ok r
open_only r Waiting = Err (plain WrongPhase)
open_only r Closing = Err (plain WrongPhase)
open_only r Granted = Err (plain WrongPhase)
open_only r Refused = Err (plain WrongPhase)
open_only r Dropped = Err (plain WrongPhase)

abbrev pub open_record : Option Record → Result Record Fault
open_record None = Err (plain Unknown)
open_record (Some r) = open_only r r.phase

abbrev pub opened_at : List Record → ℕ → Result Record Fault
opened_at rs tx = cond (nat_lt tx transaction_limit) (open_record (slice_get rs tx)) (Err (plain Unknown))

-- ## read

abbrev pub query_of : State → ℕ → ℕ → Record → Message
query_of s tx key r = record { sender = r.origin; receiver = home_of s.net.homes key; tx = tx; clock = r.bound; body = Query key (not r.answered) }

abbrev pub asked : State → ℕ → Record → Result Frame Fault → Answer
asked s tx r (Err e) = (Err e, s)
asked s tx r (Ok f) = tells (Sent 1) (with_air (amended s tx (in_phase Waiting r)) (more s.air f))

abbrev pub read_draft : State → ℕ → ℕ → Record → Option Draft → Answer
read_draft s tx key r (Some d) = tells (Own d.content) s
read_draft s tx key r None = cond (has_place s.air) (asked s tx r (written (query_of s tx key r))) (refuse s NoAir)

abbrev pub read_by : State → ℕ → ℕ → Result Record Fault → Answer
read_by s tx key (Err e) = (Err e, s)
read_by s tx key (Ok r) = cond (nat_lt key s.book.keys) (read_draft s tx key r (draft_of key (counted r.drafts))) (refuse s NoKey)

abbrev pub read_on : State → ℕ → ℕ → Answer
read_on s tx key = where_fitting s (read_by s tx key (opened_at s.records.items tx))

-- ## draft

abbrev pub redrafted_as : List Draft → ℕ → Content → Result Drafts Fault
redrafted_as ds key content = cond (nat_le (length (redrafted key content ds)) line_limit) (Ok (drafts_of (redrafted key content ds))) (Err (plain TooMany))

abbrev pub drafted_as : State → ℕ → Record → Result Drafts Fault → Answer
drafted_as s tx r (Err e) = (Err e, s)
drafted_as s tx r (Ok d) = tells (Drafted (length (counted d))) (amended s tx (drafting d r))

abbrev pub drafted_by : State → ℕ → ℕ → Content → Result Record Fault → Answer
drafted_by s tx key content (Err e) = (Err e, s)
drafted_by s tx key content (Ok r) = cond (nat_lt key s.book.keys) (drafted_as s tx r (redrafted_as (counted r.drafts) key content)) (refuse s NoKey)

abbrev pub drafted : State → ℕ → ℕ → Content → Answer
drafted s tx key content = where_fitting s (drafted_by s tx key content (opened_at s.records.items tx))

-- ## drop

abbrev pub dropped_by : State → ℕ → Result Record Fault → Answer
dropped_by s tx (Err e) = (Err e, s)
dropped_by s tx (Ok r) = tells (ToldDropped tx) (amended s tx (in_phase Dropped r))

abbrev pub dropped : State → ℕ → Answer
dropped s tx = where_fitting s (dropped_by s tx (opened_at s.records.items tx))
