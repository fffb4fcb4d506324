-- What a frame can carry, and an air of frames.
use Rattle.std.specs.Prelude.{◌≡◌, ℕ, ◌<◌, ◌≤◌, Bool, true, List, [], ◌∷◌, map, length, Some, None, Option, Result}
use Rattle.clocks.specs.declared.Content.{Content}
use Rattle.clocks.specs.declared.Version.{Version}
use Rattle.messages.specs.declared.Draft.{Draft}
use Rattle.messages.specs.declared.Objection.{Objection}
use Rattle.messages.specs.declared.Conflict.{Conflict}
use Rattle.messages.specs.declared.Conflict.TheVariants.{Held as HeldBy, Newer, Full}
use Rattle.tables.specs.declared.Reading.{Reading}
use Rattle.tables.specs.declared.Held.{Held}
use Rattle.tables.specs.declared.Call.{Call}
use Rattle.tables.specs.declared.Call.TheVariants.{Begin, Read, Draft as DraftCall, Close, Drop as DropCall, Deliver}
use Rattle.faults.specs.declared.Cause.{Cause}
use Rattle.tables.specs.declared.Told.{Told}
use Rattle.laws.specs.Lists.{In}
use Rattle.laws.specs.Net.{Clock, Record, Body, query, answer, prepare, vote, granted, refused, Message, Net}
use Rattle.laws.specs.Words.{Event}
use Rattle.laws.specs.State.{Visible, new}
use Rattle.laws.specs.Rules.{Step, Run}
use Rattle.laws.specs.Laws.{Laws}

-- ## Numbers in range

-- no entry is above the number of transactions, and those of towers that the net lacks are 0
pub record FitClock (net : Net) (c : Clock) : Type 0 where
  pub small : (j : ℕ) → c j ≤ net.transactions
  pub beyond : (j : ℕ) → net.towers ≤ j → c j ≡ 0

pub record FitVersion (net : Net) (ok : Content → Bool) (x : Version) : Type 0 where
  pub writer : x.writer < net.transactions
  pub origin : x.origin < net.towers
  pub counted : 1 ≤ x.number
  pub small : x.number ≤ net.transactions
  pub content : ok x.content ≡ true

pub record FitLines (net : Net) (ok : Content → Bool) (ds : List Draft) : Type 0 where
  pub each : (d : Draft) → In d ds → (d.key < net.keys) × (ok d.content ≡ true)
  pub few : length ds ≤ net.most

abbrev pub FitShown : Net → (Content → Bool) → Option Version → Type 0
FitShown net ok (Some x) = FitVersion net ok x
FitShown net ok None = Unit {0}

abbrev pub FitConflict : Net → Conflict → Type 0
FitConflict net (HeldBy o w) = (o < net.towers) × (w < net.transactions)
FitConflict net (Newer o w n) = (o < net.towers) × (w < net.transactions) × (1 ≤ n) × (n ≤ net.transactions)
FitConflict net Full = Unit {0}

abbrev pub FitNamed : Net → Option Objection → Type 0
FitNamed net (Some a) = (a.key < net.keys) × FitConflict net a.conflict
FitNamed net None = Unit {0}

abbrev pub FitBody : Net → (Content → Bool) → Body → Type 0
FitBody net ok (query k first) = k < net.keys
FitBody net ok (answer k shown) = (k < net.keys) × FitShown net ok shown
FitBody net ok (prepare ls) = FitLines net ok ls × (1 ≤ length ls)
FitBody net ok (vote named) = FitNamed net named
FitBody net ok (granted n ls) = (1 ≤ n) × (n ≤ net.transactions) × FitLines net ok ls
FitBody net ok refused = Unit {0}

-- a message that a frame can carry
pub record Fit (net : Net) (ok : Content → Bool) (m : Message) : Type 0 where
  pub tx : m.tx < net.transactions
  pub from : m.from < net.towers
  pub to : m.to < net.towers
  pub bound : FitClock net m.bound
  pub body : FitBody net ok m.body

pub record FitRecord (net : Net) (ok : Content → Bool) (r : Record) : Type 0 where
  pub origin : r.origin < net.towers
  pub bound : FitClock net r.bound
  pub drafts : FitLines net ok r.drafts
  pub named : FitNamed net r.named

pub record FitHeld (net : Net) (x : Held) : Type 0 where
  pub key : x.key < net.keys
  pub tx : x.tx < net.transactions
  pub origin : x.origin < net.towers

-- whatever the net holds is in range
pub record InRange (net : Net) (ok : Content → Bool) (v : Visible) : Type 0 where
  pub begun : v.begun ≤ net.transactions
  pub clocks : (t : ℕ) → FitClock net (v.clocks t)
  pub records : (i : ℕ) → FitRecord net ok (v.records i)
  pub book : (k : ℕ) (x : Version) → In x (v.book k) → FitVersion net ok x
  pub held : (x : Held) → In x v.held → FitHeld net x
  pub air : (m : Message) → In m v.air → Fit net ok m

-- every content that was to be drafted passes a test
abbrev pub CallOk : (Content → Bool) → Call → Type 0
CallOk ok (DraftCall i k x) = ok x ≡ true
CallOk ok (Begin t) = Unit {0}
CallOk ok (Read i k) = Unit {0}
CallOk ok (Close i) = Unit {0}
CallOk ok (DropCall i) = Unit {0}
CallOk ok (Deliver p) = Unit {0}

abbrev pub CallsOk : (Content → Bool) → List Event → Type 0
CallsOk ok [] = Unit {0}
CallsOk ok (e ∷ h) = CallOk ok e.call × CallsOk ok h

abbrev pub NumbersInRange : Net → List Event → Visible → Type 0
NumbersInRange net h v = (ok : Content → Bool) → CallsOk ok h → InRange net ok v

-- ## An air of frames

-- a way to write messages as bytes and to read them, which reads back whatever a frame can carry
pub record Codec (net : Net) (ok : Content → Bool) : Type 0 where
  pub frame_of : Message → List ℕ
  pub read_of : List ℕ → Option Message
  pub back : (m : Message) → Fit net ok m → read_of (frame_of m) ≡ Some m

-- what the net holds, where the air has frames
pub record Framed : Type 0 where
  pub begun : ℕ
  pub last : ℕ
  pub records : ℕ → Record
  pub clocks : ℕ → Clock
  pub book : ℕ → List Version
  pub held : List Held
  pub frames : List (List ℕ)
  pub readings : List Reading

abbrev pub with_frames : Visible → List (List ℕ) → Framed
with_frames v bs = record { begun = v.begun; last = v.last; records = v.records; clocks = v.clocks; book = v.book; held = v.held; frames = bs; readings = v.readings }

-- each frame reads as the message at its place
abbrev pub ReadAs : (List ℕ → Option Message) → List (List ℕ) → List Message → Type 0
ReadAs r [] [] = Unit {0}
ReadAs r [] (m ∷ ms) = ⊥
ReadAs r (b ∷ bs) [] = ⊥
ReadAs r (b ∷ bs) (m ∷ ms) = (r b ≡ Some m) × ReadAs r bs ms

module _ (net : Net) (ok : Content → Bool) (codec : Codec net ok) where
  abbrev pub framed : Visible → Framed
  framed v = with_frames v (map codec.frame_of v.air)

  -- the frames are read, a call does with the messages what it does, and what is then in the air is written
  pub record StepF (f f' : Framed) (c : Call) (a : Result Told Cause) : Type 0 where
    pub before : Visible
    pub after : Visible
    pub same : f ≡ with_frames before f.frames
    pub read : ReadAs codec.read_of f.frames before.air
    pub step : Step net before after c a
    pub written : f' ≡ framed after

  pub data RunF : List Event → Framed → Type 0 where
    start : RunF [] (framed new)
    then : {h : List Event} {f f' : Framed} {c : Call} {a : Result Told Cause} → RunF h f → StepF f f' c a → RunF (record { call = c; told = a } ∷ h) f'

  -- every frame in the air reads back as its message, and the laws hold
  pub record Carried (h : List Event) (f : Framed) : Type 0 where
    pub seen : Visible
    pub run : Run net h seen
    pub shown : f ≡ framed seen
    pub laws : Laws net h seen
    pub carried : (b : List ℕ) → In b f.frames → (m : Message) × In m seen.air × (b ≡ codec.frame_of m) × (codec.read_of b ≡ Some m)

abbrev pub FramesCarry : Type 0
FramesCarry = (net : Net) (ok : Content → Bool) (codec : Codec net ok) (h : List Event) (f : Framed) → CallsOk ok h → RunF net ok codec h f → Carried net ok codec h f
