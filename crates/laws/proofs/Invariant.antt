-- What holds after every call. Assumes nothing.
use Rattle.std.proofs.Common.{◌≡◌, ℕ, ◌<◌, ◌≤◌, Bool, true, false, cond, not, ◌&&◌, eqb, ◌≢◌, ◌⊎◌, List, [], length, Some, None, Option}
use Rattle.clocks.specs.declared.Version.{Version}
use Rattle.messages.specs.declared.Draft.{Draft}
use Rattle.messages.specs.declared.Objection.{Objection}
use Rattle.tables.specs.declared.Held.{Held}
use Rattle.tables.specs.declared.Phase.TheVariants.{Waiting, Closing, Granted, Refused}
use Rattle.laws.proofs.Conflicts.{Any}
use Rattle.laws.proofs.Log.{IsPlaced, versions, taken, count, Seen}
use Rattle.laws.specs.Laws.{Says}
use Rattle.laws.specs.Lists.{In, tally}
use Rattle.laws.specs.Net.{Clock, Record, Body, query, answer, prepare, vote, granted, refused, Message, Placement, Net, ◌⊑◌, Drafted, newest_within, has_closed}
use Rattle.laws.proofs.Model.{Answered, State}
use Rattle.laws.specs.Words.{blank, placed_as, homed, granted_to}
use Rattle.laws.proofs.Placed.{Numbered, Ordered, Closed}
pub use Rattle.laws.specs.Net.{is_ballot, ballots, is_granted}

-- ## What a transaction asked its grant for: nothing, until it closes

pub record Intent : Type 0 where
  pub bound : Clock
  pub drafts : List Draft

abbrev pub intent : Record → Intent
intent r = cond (has_closed r.phase) (record { bound = r.bound; drafts = r.drafts }) (record { bound = λ _. 0; drafts = [] })

abbrev pub Intents : Type 0
Intents = ℕ → Intent

abbrev pub intents : (ℕ → Record) → Intents
intents rs i = intent (rs i)

-- ## Messages

abbrev pub is_read : Body → Bool
is_read (query k f) = true
is_read (answer k v) = true
is_read (prepare ls) = false
is_read (vote n) = false
is_read (granted n ls) = false
is_read refused = false

-- the home that a prepare goes to, or a vote comes from
abbrev pub polled : Message → ℕ
polled m = elim m.body [ query k f ↦ m.to | answer k v ↦ m.to | prepare ls ↦ m.to | vote n ↦ m.from | granted n ls ↦ m.to | refused ↦ m.to ]

abbrev pub reads : ℕ → List Message → ℕ
reads i air = tally (λ m. eqb m.tx i && is_read m.body) air

-- ## The groups

-- the transactions placed
pub record Order (P : List Placement) : Type 0 where
  pub numbered : Numbered P
  pub ordered : Ordered P

-- no clock is ahead of the placed, a tower has seen its own, and a clock is closed
pub record Clocks (P : List Placement) (clocks : ℕ → Clock) : Type 0 where
  pub behind : (t : ℕ) → clocks t ⊑ count P
  pub own : (j : ℕ) → clocks j j ≡ count P j
  pub closed : (t : ℕ) → Closed P (clocks t)

-- a bound, wherever it stands
pub record Fair (P : List Placement) (b : Clock) : Type 0 where
  pub behind : b ⊑ count P
  pub closed : Closed P b

abbrev pub Bounds : List Placement → (ℕ → Record) → Type 0
Bounds P rs = (i : ℕ) → Fair P (rs i).bound

abbrev pub Books : Net → List Placement → (ℕ → Clock) → (ℕ → List Version) → Type 0
Books net P clocks book = (k : ℕ) → book k ≡ taken (clocks (net.home k)) P k

abbrev pub Holds : List Held → ℕ → ℕ → Type 0
Holds hs k i = (h : Held) × In h hs × (h.key ≡ k) × (h.tx ≡ i)

pub record Holders (net : Net) (I : Intents) (P : List Placement) (clocks : ℕ → Clock) (book : ℕ → List Version) (held : List Held) : Type 0 where
  -- a key is held by one transaction, which means to write it
  pub meant : (k i : ℕ) → Holds held k i → Drafted (I i).drafts k
  pub sole : (k i j : ℕ) → Holds held k i → Holds held k j → i ≡ j
  -- there is room for it
  pub room : (k i : ℕ) → Holds held k i → length (book k) ≡ net.depth → ⊥
  -- it has seen every other that is placed and wrote the key
  pub ahead : (k i : ℕ) (E : Placement) → Holds held k i → In E P → Drafted E.drafts k → E.tx ≢ i → Seen E (I i).bound
  -- a placed one holds a key exactly until the key's home takes it in
  pub until : (k : ℕ) (E : Placement) → In E P → Drafted E.drafts k → (Seen E (clocks (net.home k)) → ⊥) → Holds held k E.tx
  pub after : (k : ℕ) (E : Placement) → In E P → Holds held k E.tx → Seen E (clocks (net.home k)) → ⊥

-- each placed one is granted as it stands in the list
abbrev pub Granteds : List Placement → (ℕ → Record) → Type 0
Granteds P rs = (E : Placement) → In E P → ((rs E.tx).phase ≡ Granted) × (E ≡ placed_as E.tx (rs E.tx))

-- what has not begun
abbrev pub Unbegun : ℕ → (ℕ → Record) → Type 0
Unbegun n rs = (i : ℕ) → n ≤ i → rs i ≡ blank

-- a prepare or a vote
pub record Ballot (net : Net) (r : Record) (held : List Held) (m : Message) : Type 0 where
  pub closing : r.phase ≡ Closing
  pub bound : m.bound ≡ r.bound
  pub asker : (ls : List Draft) → m.body ≡ prepare ls → m.from ≡ r.origin
  pub asked : (n : Option Objection) → m.body ≡ vote n → m.to ≡ r.origin
  pub lines : (ls : List Draft) → m.body ≡ prepare ls → ls ≡ homed net m.to r.drafts
  pub holds : m.body ≡ vote None → (k : ℕ) → Drafted r.drafts k → net.home k ≡ m.from → Holds held k m.tx

pub record Votes (net : Net) (rs : ℕ → Record) (held : List Held) (air : List Message) : Type 0 where
  pub sound : (m : Message) → In m air → is_ballot m.body ≡ true → Ballot net (rs m.tx) held m
  pub awaited : (i : ℕ) → (rs i).phase ≡ Closing → (rs i).awaited ≡ ballots i air
  pub pending : (i k : ℕ) → (rs i).phase ≡ Closing → Drafted (rs i).drafts k → (rs i).named ≡ None →
      Holds held k i ⊎ ((m : Message) × In m air × (m.tx ≡ i) × (is_ballot m.body ≡ true) × (polled m ≡ net.home k))
  pub over : (m : Message) → In m air → m.body ≡ refused → (rs m.tx).phase ≡ Refused

-- a query or an answer
pub record Reads (net : Net) (P : List Placement) (rs : ℕ → Record) (air : List Message) (readings : List Answered) : Type 0 where
  pub waiting : (m : Message) → In m air → is_read m.body ≡ true → (rs m.tx).phase ≡ Waiting
  pub single : (i : ℕ) → reads i air ≤ 1
  pub asked : (m : Message) (k : ℕ) (first : Bool) → In m air → m.body ≡ query k first → (m.bound ≡ (rs m.tx).bound) × (first ≡ not (rs m.tx).answered) × (m.to ≡ net.home k)
  pub fair : (m : Message) (k : ℕ) (v : Option Version) → In m air → m.body ≡ answer k v → Fair P m.bound
  pub right : (m : Message) (k : ℕ) (v : Option Version) → In m air → m.body ≡ answer k v → v ≡ newest_within m.bound (versions P k)
  pub again : (m : Message) (k : ℕ) (v : Option Version) → In m air → m.body ≡ answer k v → (rs m.tx).answered ≡ true → m.bound ≡ (rs m.tx).bound
  pub told : (d : Answered) → In d readings → (rs d.tx).answered ≡ true
  pub shown : (d : Answered) → In d readings → d.shown ≡ newest_within (rs d.tx).bound (versions P d.key)

pub record Outcomes (net : Net) (P : List Placement) (clocks : ℕ → Clock) (air : List Message) : Type 0 where
  pub coming : (E : Placement) (t : ℕ) → In E P → t < net.towers → t ≢ E.origin → (Seen E (clocks t) → ⊥) → In (granted_to net E t) air
  pub meant : (m : Message) (n : ℕ) (ls : List Draft) → In m air → m.body ≡ granted n ls → (E : Placement) × In E P × (m ≡ granted_to net E m.to)

-- another that asked to write the key, and that i has not seen
pub record Rival (I : Intents) (P : List Placement) (i k j : ℕ) : Type 0 where
  pub other : j ≢ i
  pub drafted : Drafted (I j).drafts k
  pub outside : (E : Placement) → In E P → E.tx ≡ j → Seen E (I i).bound → ⊥

pub record Justified (net : Net) (I : Intents) (P : List Placement) (book : ℕ → List Version) (i : ℕ) (a : Objection) : Type 0 where
  pub drafted : Drafted (I i).drafts a.key
  pub cause : Says (Rival I P i a.key) Any (IsPlaced P) (length (book a.key) ≡ net.depth) a.conflict

pub record Refusals (net : Net) (P : List Placement) (rs : ℕ → Record) (book : ℕ → List Version) (air : List Message) : Type 0 where
  pub voted : (m : Message) (k : Objection) → In m air → m.body ≡ vote (Some k) → Justified net (intents rs) P book m.tx k
  pub named : (i : ℕ) (k : Objection) → has_closed (rs i).phase ≡ true → (rs i).named ≡ Some k → Justified net (intents rs) P book i k
  pub refused : (i : ℕ) → (rs i).phase ≡ Refused → (k : Objection) × ((rs i).named ≡ Some k)

pub record Invariant (net : Net) (s : State) : Type 0 where
  pub order : Order s.placed
  pub clocks : Clocks s.placed s.vis.clocks
  pub bounds : Bounds s.placed s.vis.records
  pub books : Books net s.placed s.vis.clocks s.vis.book
  pub holders : Holders net (intents s.vis.records) s.placed s.vis.clocks s.vis.book s.vis.held
  pub granteds : Granteds s.placed s.vis.records
  pub unbegun : Unbegun s.vis.begun s.vis.records
  pub votes : Votes net s.vis.records s.vis.held s.vis.air
  pub reads : Reads net s.placed s.vis.records s.vis.air s.readings
  pub outcomes : Outcomes net s.placed s.vis.clocks s.vis.air
  pub refusals : Refusals net s.placed s.vis.records s.vis.book s.vis.air
