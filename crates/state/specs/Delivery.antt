-- What the delivery of a message answers, and the state then.
use Rattle.std.specs.Prelude.{ℕ, ◌+◌, ◌-◌, ◌^◌, Bool, true, cond, ◌&&◌, List, [], ◌∷◌, ◌++◌, length, Some, None, Ok, Err, Option, Result, ◌==◌, nat_le, nat_lt, slice_index}
use Rattle.std.specs.Option.{option_or}
use Rattle.std.specs.List.{remove, slice_get}
use Rattle.faults.specs.declared.Fault.{Fault}
use Rattle.faults.specs.declared.Cause.TheVariants.{Air as NoAir, Message as NoMessage, Early, List as ListFull}
use Rattle.clocks.specs.Clocks.{covers}
use Rattle.clocks.specs.declared.Clock.{Clock}
use Rattle.clocks.specs.declared.Version.{Version}
use Rattle.book.specs.Newest.{newest}
use Rattle.messages.specs.Table.{conflict_mark}
use Rattle.messages.specs.Drafting.{counted}
use Rattle.messages.specs.declared.Draft.{Draft}
use Rattle.messages.specs.declared.Objection.{Objection}
use Rattle.messages.specs.declared.Message.{Message}
use Rattle.messages.specs.declared.Body.{Body}
use Rattle.messages.specs.declared.Body.TheVariants.{Query, Answer as AnswerBody, Prepare as PrepareBody, Vote as VoteBody, Outcome as OutcomeBody}
use Rattle.frames.specs.Answers.{written, read_of, bytes_of}
use Rattle.frames.specs.declared.hold.Frame.{Frame}
use Rattle.tables.specs.declared.Phase.{Phase}
use Rattle.tables.specs.declared.Phase.TheVariants.{Open, Waiting, Closing, Granted, Refused, Dropped}
use Rattle.tables.specs.declared.Told.{Told}
use Rattle.tables.specs.declared.Told.TheVariants.{Queried, Shown, Prepared, Awaiting, Placed, Refused as ToldRefused, Ended}
use Rattle.laws.specs.Net.{content_of, writer_of}
use Rattle.laws.specs.Words.{holds_of}
use Rattle.state.specs.declared.Record.{Record}
use Rattle.state.specs.declared.Purpose.TheVariants.{Grant, Refuse}
use Rattle.state.specs.State.{State, Answer, refuse, tells, where_fitting, Table, has_place, more, with_item, holding, less_item, with_air, with_held, with_readings, tower_at}
use Rattle.state.specs.Calls.{voting, amended}
use Rattle.state.specs.Closing.{places_for}
use Rattle.state.specs.Letters.{homed, letter_to, sealed}
use Rattle.state.specs.Conflicts.{objection_to, has_keys}
use Rattle.state.specs.TakingIn.{fit_lines, posted, with_clock, with_last, let_go}

-- ## Ripeness

abbrev pub ripe_by : Clock → Message → Body → Bool
ripe_by c m (Query key first) = covers c.entries m.clock.entries
ripe_by c m (AnswerBody key shown) = true
ripe_by c m (PrepareBody drafts) = covers c.entries m.clock.entries
ripe_by c m (VoteBody against) = covers c.entries m.clock.entries
ripe_by c m (OutcomeBody (Some grant)) = covers c.entries m.clock.entries && slice_index c.entries m.sender + 1 == grant.number
ripe_by c m (OutcomeBody None) = true

-- the message can be delivered at a tower with this clock
abbrev pub ripe_at : Clock → Message → Bool
ripe_at c m = ripe_by c m m.body

-- the phase in which a message finds its transaction
abbrev pub phase_for : Body → Phase
phase_for (Query key first) = Waiting
phase_for (AnswerBody key shown) = Waiting
phase_for (PrepareBody drafts) = Closing
phase_for (VoteBody against) = Closing
phase_for (OutcomeBody (Some grant)) = Granted
phase_for (OutcomeBody None) = Refused

abbrev pub phase_number : Phase → ℕ
phase_number Open = 0
phase_number Waiting = 1
phase_number Closing = 2
phase_number Granted = 3
phase_number Refused = 4
phase_number Dropped = 5

abbrev pub awaits : Phase → Body → Bool
awaits p body = phase_number p == phase_number (phase_for body)

-- ## The air: the frame that is delivered leaves, then others join at the end

abbrev pub sent_air : Table Frame → ℕ → List Frame → Table Frame
sent_air t at fs = holding t (remove t.items at ++ fs)

-- the place of the frame that is delivered is free again
abbrev pub space_for : Table Frame → ℕ → Bool
space_for t n = nat_le (length t.items + n) (t.room + 1)

-- what is told, where one frame could be written and has a place
abbrev pub one_sent : State → ℕ → Told → (Table Frame → State) → Result Frame Fault → Answer
one_sent s at told next (Err e) = (Err e, s)
one_sent s at told next (Ok f) = cond (space_for s.air 1) (tells told (next (sent_air s.air at (f ∷ [])))) (refuse s NoAir)

abbrev pub reply : Message → Clock → Body → Message
reply m clock body = record { sender = m.receiver; receiver = m.sender; tx = m.tx; clock = clock; body = body }

-- ## A query, at the key's home

-- the first query of a transaction is answered by the home's clock, a later one by the bound
abbrev pub used_clock : State → Message → Bool → Clock
used_clock s m first = cond first (tower_at s.net m.receiver).clock m.clock

abbrev pub answer_of : State → Message → ℕ → Clock → Message
answer_of s m key used = reply m used (AnswerBody key (newest used (s.book.lists key)))

abbrev pub queried : State → ℕ → Message → ℕ → Bool → Answer
queried s at m key first =
    cond (nat_lt key s.book.keys)
    (one_sent s at (Queried m.tx) (with_air s) (written (answer_of s m key (used_clock s m first))))
    (refuse s NoMessage)

-- ## An answer, at the origin

abbrev pub reading_at : Clock → Record → Record
reading_at c r = record { origin = r.origin; phase = Open; bound = c; answered = true; drafts = r.drafts; awaited = r.awaited; named = r.named; number = r.number; place = r.place }

abbrev pub shown_to : State → ℕ → Message → Record → ℕ → Option Version → Answer
shown_to s at m r key shown =
    cond (has_place s.readings)
    (tells (Shown m.tx key (content_of shown))
    (with_readings (with_air (amended s m.tx (reading_at m.clock r)) (less_item s.air at)) (more s.readings (record { tx = m.tx; key = key; writer = writer_of shown }))))
    (refuse s ListFull)

-- ## A prepare, at a home

abbrev pub voted_as : State → ℕ → Message → List Draft → Option Objection → Answer
voted_as s at m lines (Some against) =
    one_sent s at (Prepared m.tx (conflict_mark against.conflict)) (with_air s) (written (reply m m.clock (VoteBody (Some against))))
voted_as s at m lines None =
    cond (places_for s.held (length lines))
    (one_sent s at (Prepared m.tx 0)
    (λ air. with_held (with_air s air) (holding s.held (s.held.items ++ holds_of m.tx m.sender lines)))
    (written (reply m m.clock (VoteBody None))))
    (refuse s NoMessage)

abbrev pub voted : State → ℕ → Message → List Draft → Answer
voted s at m lines =
    cond (has_keys s.book lines)
    (voted_as s at m lines (objection_to s.held.items s.book m.tx m.clock lines))
    (refuse s NoMessage)

-- ## A vote, at the origin

-- numbers and places are 32 bits
abbrev pub last_number : ℕ
last_number = 2 ^ 32 - 1

abbrev pub own_drafts : State → Record → List Draft
own_drafts s r = homed s.net.homes r.origin (counted r.drafts)

-- how many of its own transactions the record's origin has taken in
abbrev pub own_count : State → Record → ℕ
own_count s r = slice_index (tower_at s.net r.origin).clock.entries r.origin

abbrev pub granted_record : ℕ → ℕ → Record → Record
granted_record number place r = record { origin = r.origin; phase = Granted; bound = r.bound; answered = r.answered; drafts = r.drafts; awaited = 0; named = None; number = Some number; place = Some place }

abbrev pub granted_state : State → ℕ → ℕ → Record → ℕ → List Frame → State
granted_state s at tx r number fs = record {
  net = with_last (with_clock s.net r.origin r.origin number) (s.net.last + 1);
  records = with_item s.records tx (granted_record number (s.net.last + 1) r);
  air = sent_air s.air at fs;
  held = let_go s tx r.origin;
  readings = s.readings;
  book = posted (record { writer = tx; origin = r.origin; number = number }) s.book (own_drafts s r);
}

abbrev pub grant_sent : State → ℕ → ℕ → Record → ℕ → Result (List Frame) Fault → Answer
grant_sent s at tx r number (Err e) = (Err e, s)
grant_sent s at tx r number (Ok fs) =
    cond (space_for s.air (length fs)) (tells (Placed tx (s.net.last + 1)) (granted_state s at tx r number fs)) (refuse s NoAir)

-- all votes were for it
abbrev pub granted : State → ℕ → ℕ → Record → Answer
granted s at tx r =
    cond (nat_lt (own_count s r) last_number && (nat_lt s.net.last last_number && fit_lines s.book (own_drafts s r)))
    (grant_sent s at tx r (own_count s r + 1) (sealed (letter_to s.net.homes tx r (Grant (own_count s r + 1))) s.net.count))
    (refuse s NoMessage)

abbrev pub refusal_sent : State → ℕ → ℕ → Record → Objection → Result (List Frame) Fault → Answer
refusal_sent s at tx r against (Err e) = (Err e, s)
refusal_sent s at tx r against (Ok fs) =
    cond (space_for s.air (length fs))
    (tells (ToldRefused tx against.key) (with_held (with_air (amended s tx (voting Refused 0 (Some against) r)) (sent_air s.air at fs)) (let_go s tx r.origin)))
    (refuse s NoAir)

-- some vote was against it
abbrev pub refused : State → ℕ → ℕ → Record → Objection → Answer
refused s at tx r against = refusal_sent s at tx r against (sealed (letter_to s.net.homes tx r Refuse) s.net.count)

abbrev pub decided : State → ℕ → ℕ → Record → Option Objection → Answer
decided s at tx r None = granted s at tx r
decided s at tx r (Some against) = refused s at tx r against

-- the vote is the last, or others are awaited; the first vote against is kept
abbrev pub counting : State → ℕ → ℕ → Record → Option Objection → Answer
counting s at tx r named =
    cond (r.awaited == 0) (refuse s NoMessage)
    (cond (r.awaited == 1) (decided s at tx r named)
    (tells (Awaiting tx) (with_air (amended s tx (voting Closing (r.awaited - 1) named r)) (less_item s.air at))))

-- ## An outcome, at another tower

abbrev pub taken_in : State → ℕ → Message → ℕ → List Draft → Answer
taken_in s at m number lines =
    cond (fit_lines s.book lines)
    (tells (Ended m.tx m.receiver) (record {
      net = with_clock s.net m.receiver m.sender number;
      records = s.records;
      air = less_item s.air at;
      held = let_go s m.tx m.receiver;
      readings = s.readings;
      book = posted (record { writer = m.tx; origin = m.sender; number = number }) s.book lines;
    }))
    (refuse s NoMessage)

abbrev pub released : State → ℕ → Message → Answer
released s at m = tells (Ended m.tx m.receiver) (with_held (with_air s (less_item s.air at)) (let_go s m.tx m.receiver))

-- ## A message, by its kind

abbrev pub on_body : State → ℕ → Message → Record → Body → Answer
on_body s at m r (Query key first) = queried s at m key first
on_body s at m r (AnswerBody key shown) = shown_to s at m r key shown
on_body s at m r (PrepareBody drafts) = voted s at m (counted drafts)
on_body s at m r (VoteBody against) = counting s at m.tx r (option_or r.named against)
on_body s at m r (OutcomeBody (Some grant)) = taken_in s at m grant.number (counted grant.drafts)
on_body s at m r (OutcomeBody None) = released s at m

-- the transaction awaits the message
abbrev pub on_phase : State → ℕ → Message → Record → Answer
on_phase s at m r = cond (awaits r.phase m.body) (on_body s at m r m.body) (refuse s NoMessage)

abbrev pub on_record : State → ℕ → Message → Option Record → Answer
on_record s at m None = refuse s NoMessage
on_record s at m (Some r) =
    cond (nat_lt r.origin s.net.count && nat_lt m.receiver s.net.count)
    (cond (ripe_at (tower_at s.net m.receiver).clock m) (on_phase s at m r) (refuse s Early))
    (refuse s NoMessage)

abbrev pub on_message : State → ℕ → Result Message Fault → Answer
on_message s at (Err e) = (Err e, s)
on_message s at (Ok m) = on_record s at m (slice_get s.records.items m.tx)

abbrev pub on_frame : State → ℕ → Option Frame → Answer
on_frame s at None = refuse s NoMessage
on_frame s at (Some f) = on_message s at (read_of (bytes_of f))

abbrev pub delivered : State → ℕ → Answer
delivered s at = where_fitting s (on_frame s at (slice_get s.air.items at))
