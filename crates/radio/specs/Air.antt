-- The messages of the rules as the frames that are in the air.
use Rattle.std.specs.Prelude.{◌≡◌, ℕ, zero, suc, ◌^◌, ◌≤◌, Bool, List, [], ◌∷◌, Some, None, Ok, Err, Option, Result, nat_lt}
use Rattle.faults.specs.declared.Fault.{Fault}
use Rattle.clocks.specs.Clocks.{tower_limit}
use Rattle.clocks.specs.declared.Content.{Content}
use Rattle.messages.specs.Limits.{line_limit, transaction_limit}
use Rattle.messages.specs.Drafting.{drafts_of}
use Rattle.messages.specs.declared.Message.{Message as Sent}
use Rattle.messages.specs.declared.Body.{Body as SentBody}
use Rattle.messages.specs.declared.Body.TheVariants.{Query, Answer, Prepare, Vote, Outcome}
use Rattle.frames.specs.Layout.{frame_of}
use Rattle.frames.specs.Answers.{read_of}
use Rattle.laws.specs.Net.{Clock, Body, query, answer, prepare, vote, granted, refused, Message, Net}
use Rattle.laws.specs.Words.{Event}
use Rattle.laws.specs.View.{message_of}
use Rattle.laws.specs.Frames.{Codec, Framed, CallsOk, RunF, Carried}

-- the first n entries of a clock
abbrev pub entries_of : ℕ → Clock → List ℕ
entries_of zero c = []
entries_of (suc n) c = c 0 ∷ entries_of n (λ j. c (suc j))

-- a message as it is sent
abbrev pub sent_body : Body → SentBody
sent_body (query key first) = Query key first
sent_body (answer key shown) = Answer key shown
sent_body (prepare lines) = Prepare (drafts_of lines)
sent_body (vote against) = Vote against
sent_body (granted number lines) = Outcome (Some (record { number = number; drafts = drafts_of lines }))
sent_body refused = Outcome None

abbrev pub sent_as : Message → Sent
sent_as m = record { sender = m.from; receiver = m.to; tx = m.tx; clock = record { entries = entries_of tower_limit m.bound }; body = sent_body m.body }

-- a message as it is understood
abbrev pub heard_as : Result Sent Fault → Option Message
heard_as (Ok m) = Some (message_of m)
heard_as (Err f) = None

-- a net whose numbers fit the fields of a frame
pub record FitsFrames (net : Net) : Type 0 where
  pub towers : net.towers ≤ tower_limit
  pub transactions : net.transactions ≤ transaction_limit
  pub drafts : net.most ≤ line_limit

-- a content whose value fits
abbrev pub small : Content → Bool
small c = nat_lt c.value (2 ^ 32)

-- the way to write and read messages that the radio uses
abbrev pub ReadsBack : Net → Type 0
ReadsBack net = (codec : Codec net small) × ((m : Message) → codec.frame_of m ≡ frame_of (sent_as m)) × ((bs : List ℕ) → codec.read_of bs ≡ heard_as (read_of bs))

-- Whatever is called, every frame in the air is the one frame of a message, reading it gives that message, and the laws hold.
abbrev pub AirOfFrames : Type 0
AirOfFrames =
    (net : Net) → FitsFrames net → (codec : ReadsBack net)
    × ((h : List Event) (f : Framed) → CallsOk small h → RunF net small codec.0 h f → Carried net small codec.0 h f)
