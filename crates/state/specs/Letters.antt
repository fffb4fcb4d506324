-- What a transaction sends to several towers, and the frames of it.
use Rattle.std.specs.Prelude.{ℕ, zero, suc, cond, List, [], length, take, Some, None, Ok, Err, filter, Option, Result, ◌==◌, nat_eq}
use Rattle.faults.specs.declared.Fault.{Fault}
use Rattle.tray.specs.Contents.{pushed}
use Rattle.messages.specs.Drafting.{counted, drafts_of}
use Rattle.messages.specs.declared.Draft.{Draft}
use Rattle.messages.specs.declared.Message.{Message}
use Rattle.messages.specs.declared.Body.{Body}
use Rattle.messages.specs.declared.Body.TheVariants.{Prepare as PrepareBody, Outcome as OutcomeBody}
use Rattle.frames.specs.Answers.{written}
use Rattle.frames.specs.declared.hold.Frame.{Frame}
use Rattle.state.specs.State.{home_of}
use Rattle.state.specs.declared.Record.{Record}
use Rattle.state.specs.declared.Batch.{Batch}
use Rattle.state.specs.declared.Purpose.{Purpose}
use Rattle.state.specs.declared.Purpose.TheVariants.{Prepare, Grant, Refuse}

-- the drafts whose keys have their home at the tower
abbrev pub homed : List ℕ → ℕ → List Draft → List Draft
homed homes tower ds = filter (λ d. nat_eq (home_of homes d.key) tower) ds

abbrev pub letter : ℕ → Record → ℕ → Body → Message
letter tx r tower body = record { sender = r.origin; receiver = tower; tx = tx; clock = r.bound; body = body }

abbrev pub unless_none : List Draft → Message → Option Message
unless_none ds m = cond (length ds == 0) None (Some m)

-- A prepare goes to each home of a drafted key; a granted outcome to each other tower, a refused one to each other home of a drafted key.
abbrev pub letter_to : List ℕ → ℕ → Record → Purpose → ℕ → Option Message
letter_to homes tx r Prepare tower =
    let own = homed homes tower (counted r.drafts) in
    unless_none own (letter tx r tower (PrepareBody (drafts_of own)))
letter_to homes tx r (Grant number) tower =
    cond (tower == r.origin) None (Some (letter tx r tower (OutcomeBody (Some (record { number = number; drafts = drafts_of (homed homes tower (counted r.drafts)) })))))
letter_to homes tx r Refuse tower =
    cond (tower == r.origin) None (unless_none (homed homes tower (counted r.drafts)) (letter tx r tower (OutcomeBody None)))

abbrev pub push_to : List Frame → Result Frame Fault → Result (List Frame) Fault
push_to fs (Ok f) = Ok (pushed fs f)
push_to fs (Err e) = Err e

abbrev pub join_one : Result (List Frame) Fault → Option Message → Result (List Frame) Fault
join_one (Err e) m = Err e
join_one (Ok fs) None = Ok fs
join_one (Ok fs) (Some m) = push_to fs (written m)

-- the frames of the letters to the first n towers, by rising receiver
unfoldable pub sealed : (ℕ → Option Message) → ℕ → Result (List Frame) Fault
sealed f zero = Ok []
sealed f (suc n) = join_one (sealed f n) (f n)

abbrev pub batched : Batch → List Frame
batched b = take b.len b.frames

abbrev pub frames_of : Result Batch Fault → Result (List Frame) Fault
frames_of (Ok b) = Ok (batched b)
frames_of (Err e) = Err e
