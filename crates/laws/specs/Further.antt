-- Further laws, each by its name.
use Rattle.std.specs.Prelude.{◌≡◌, ℕ, ◌+◌, ◌<◌, ◌≤◌, true, ◌≢◌, ◌⊎◌, List, [], ◌∷◌, length, None, Option, Result, nat_eq}
use Rattle.std.specs.Option.{option_or}
use Rattle.clocks.specs.declared.Version.{Version}
use Rattle.messages.specs.declared.Draft.{Draft}
use Rattle.messages.specs.declared.Objection.{Objection}
use Rattle.tables.specs.declared.Call.{Call}
use Rattle.faults.specs.declared.Cause.{Cause}
use Rattle.tables.specs.declared.Told.{Told}
use Rattle.tables.specs.declared.Phase.{Phase}
use Rattle.tables.specs.declared.Phase.TheVariants.{Waiting, Closing, Granted, Refused}
use Rattle.laws.specs.Lists.{In, At, tally}
use Rattle.laws.specs.Net.{Body, query, answer, prepare, vote, granted, refused, Message, Net, ◌⊑◌, Drafted, has_closed, ballots, is_ballot, pending_of}
use Rattle.laws.specs.Words.{Event}
use Rattle.laws.specs.History.{placed_in, begun_in, placed_before_in, origin_in, drafts_in, number_in, place_in, Within, Outside}
use Rattle.laws.specs.State.{Visible}
use Rattle.laws.specs.Rules.{Step, Run}

-- it holds of every history, and of what the net then holds
abbrev pub Always : (Net → List Event → Visible → Type 0) → Type 0
Always Q = (net : Net) (h : List Event) (v : Visible) → Run net h v → Q net h v

-- a clock or a bound that has a transaction has all that the transaction's bound has
pub record CausallyClosed (net : Net) (h : List Event) (v : Visible) : Type 0 where
  pub clocks : (x t : ℕ) → Within h x (v.clocks t) → (v.records x).bound ⊑ v.clocks t
  pub bounds : (x y : ℕ) → Within h x (v.records y).bound → (v.records x).bound ⊑ (v.records y).bound

-- a granted outcome of x to the tower t is in the air
abbrev pub OutcomePending : Visible → ℕ → ℕ → Type 0
OutcomePending v x t = (m : Message) × (n : ℕ) × (ls : List Draft) × In m v.air × (m.tx ≡ x) × (m.to ≡ t) × (m.body ≡ granted n ls)

-- a tower lacks a placed transaction exactly while its outcome to that tower is in the air
pub record Accounted (net : Net) (h : List Event) (v : Visible) : Type 0 where
  pub own : (x : ℕ) → In x (placed_in h) → Within h x (v.clocks (origin_in h x))
  pub lacking : (x t : ℕ) → In x (placed_in h) → t < net.towers → t ≢ origin_in h x → Outside h x (v.clocks t) → OutcomePending v x t
  pub pending : (x t : ℕ) → OutcomePending v x t → In x (placed_in h) × (t ≢ origin_in h x) × Outside h x (v.clocks t)
  -- what a clock says of a tower, and the outcomes of that tower's on their way, are all that the tower placed
  pub balance : (t o : ℕ) → t < net.towers → v.clocks t o + tally (pending_of o t) v.air ≡ tally (λ i. nat_eq (origin_in h i) o) (placed_in h)

-- every version in a list is within the clock of the key's home
abbrev pub VersionsWithinClock : Net → List Event → Visible → Type 0
VersionsWithinClock net h v = (k : ℕ) (x : Version) → In x (v.book k) → x.number ≤ v.clocks (net.home k) x.origin

-- a closing transaction awaits as many votes as it has prepares and votes in the air, and there is one
pub record Awaited (v : Visible) (i : ℕ) : Type 0 where
  pub counted : (v.records i).awaited ≡ ballots i v.air
  pub some : 0 < (v.records i).awaited
  pub one : (m : Message) × In m v.air × (m.tx ≡ i) × (is_ballot m.body ≡ true)

abbrev pub ClosingAwaits : Net → List Event → Visible → Type 0
ClosingAwaits net h v = (i : ℕ) → (v.records i).phase ≡ Closing → Awaited v i

-- the list of a key that is about to be taken in has room, and its key stands in one line
pub record FindsRoom (net : Net) (h : List Event) (v : Visible) : Type 0 where
  pub never_over : (k : ℕ) → length (v.book k) ≤ net.depth
  pub at_outcome : (m : Message) (n : ℕ) (ls : List Draft) (k : ℕ) → In m v.air → m.body ≡ granted n ls → Drafted ls k → length (v.book k) < net.depth
  pub at_grant : (p : ℕ) (m : Message) (named : Option Objection) (k : ℕ) → At v.air p m → m.body ≡ vote named → (v.records m.tx).awaited ≡ 1 → option_or (v.records m.tx).named named ≡ None → Drafted (v.records m.tx).drafts k → length (v.book k) < net.depth
  pub one_line : (m : Message) (n : ℕ) (ls : List Draft) (k : ℕ) → In m v.air → m.body ≡ granted n ls → tally (λ d. nat_eq d.key k) ls ≤ 1
  pub one_draft : (i k : ℕ) → tally (λ d. nat_eq d.key k) (v.records i).drafts ≤ 1

-- what its own tower had placed before a transaction began is within its bound
abbrev pub OwnTowerSeen : Net → List Event → Visible → Type 0
OwnTowerSeen net h v = (x y : ℕ) → In x (placed_before_in h y) → origin_in h x ≡ origin_in h y → Within h x (v.records y).bound

-- the phase in which a message finds its transaction
abbrev pub phase_for : Body → Phase
phase_for (query k f) = Waiting
phase_for (answer k s) = Waiting
phase_for (prepare ls) = Closing
phase_for (vote n) = Closing
phase_for (granted n ls) = Granted
phase_for refused = Refused

-- every message has its transaction and its towers, and its transaction awaits it
pub record AtHome (net : Net) (h : List Event) (v : Visible) (m : Message) : Type 0 where
  pub begun : m.tx < begun_in h
  pub to : m.to < net.towers
  pub from : m.from < net.towers
  pub phase : (v.records m.tx).phase ≡ phase_for m.body

abbrev pub MessagesAtHome : Net → List Event → Visible → Type 0
MessagesAtHome net h v = (m : Message) → In m v.air → AtHome net h v m

-- whatever is called, there is something to tell
abbrev pub EveryCallAnswered : Net → List Event → Visible → Type 0
EveryCallAnswered net h v = (c : Call) → (a : Result Told Cause) × (v' : Visible) × Step net v v' c a

-- a call tells one thing, and does one thing
pub record SameAnswer (a b : Result Told Cause) (v w : Visible) : Type 0 where
  pub told : a ≡ b
  pub state : v ≡ w

abbrev pub AnswersDetermined : Type 0
AnswersDetermined = (net : Net) (v v' v'' : Visible) (c : Call) (a b : Result Told Cause) → Step net v v' c a → Step net v v'' c b → SameAnswer a b v' v''

-- checks turn down what the tables have no place for
pub record WithinCapacity (net : Net) (h : List Event) (v : Visible) : Type 0 where
  pub begun : v.begun ≤ net.transactions
  pub air : length v.air ≤ net.air_places
  pub readings : length v.readings ≤ net.reading_places

-- a key is held once, so that a place for each key is enough
pub record HeldOnce (net : Net) (h : List Event) (v : Visible) : Type 0 where
  pub once : (k : ℕ) → tally (λ x. nat_eq x.key k) v.held ≤ 1
  pub enough : length v.held ≤ net.keys

-- the net's counts and its records say what the history tells, and what is granted with drafts is placed
pub record RecordsAgree (net : Net) (h : List Event) (v : Visible) : Type 0 where
  pub begun : v.begun ≡ begun_in h
  pub last : v.last ≡ length (placed_in h)
  pub origin : (i : ℕ) → (v.records i).origin ≡ origin_in h i
  pub drafts : (i : ℕ) → (v.records i).drafts ≡ drafts_in h i
  pub number : (i : ℕ) → number_in h i ≡ (v.records i).number
  pub place : (i : ℕ) → place_in h i ≡ (v.records i).place
  pub placed : (x : ℕ) → In x (placed_in h) → (v.records x).phase ≡ Granted
  pub granted : (i : ℕ) → (v.records i).phase ≡ Granted → (drafts_in h i ≡ []) ⊎ In i (placed_in h)

-- ## Two transactions alone, in a net whose lists have room for one version

pub record TwoAlone (net : Net) (h : List Event) (v : Visible) : Type 0 where
  pub one_deep : net.depth ≡ 1
  pub two : begun_in h ≡ 2
  pub first : Draft
  pub second : Draft
  pub first_drafts : drafts_in h 0 ≡ first ∷ []
  pub second_drafts : drafts_in h 1 ≡ second ∷ []
  pub apart : first.key ≢ second.key
  pub first_closed : has_closed (v.records 0).phase ≡ true
  pub second_closed : has_closed (v.records 1).phase ≡ true
  pub air_empty : v.air ≡ []

abbrev pub BothGranted : Net → List Event → Visible → Type 0
BothGranted net h v = TwoAlone net h v → ((v.records 0).phase ≡ Granted) × ((v.records 1).phase ≡ Granted)
