-- The laws: what holds of every history and of what the net then holds.
use Rattle.std.specs.Prelude.{◌≡◌, ℕ, ◌<◌, ◌≤◌, true, ◌≢◌, ◌⊎◌, List, [], ◌∷◌, ◌++◌, length, Some, None, Option}
use Rattle.clocks.specs.declared.Version.{Version}
use Rattle.messages.specs.declared.Draft.{Draft}
use Rattle.messages.specs.declared.Objection.{Objection}
use Rattle.messages.specs.declared.Conflict.{Conflict}
use Rattle.messages.specs.declared.Conflict.TheVariants.{Held as HeldBy, Newer, Full}
use Rattle.tables.specs.declared.Reading.{Reading}
use Rattle.tables.specs.declared.Phase.TheVariants.{Refused}
use Rattle.laws.specs.Lists.{In}
use Rattle.laws.specs.Net.{Clock, Message, granted, Net, Drafted, has_closed, content_of, writer_of}
use Rattle.laws.specs.Words.{Event}
use Rattle.laws.specs.History.{placed_in, Earlier, begun_in, Counted, drafts_in, Within, Outside, versions_in, Received, reads_in, origin_in, number_in}
use Rattle.laws.specs.State.{Visible}
use Rattle.laws.specs.Rules.{Run}

-- no granted outcome is in the air
abbrev pub NoGrantPending : Visible → Type 0
NoGrantPending v = (m : Message) (n : ℕ) (ls : List Draft) → In m v.air → m.body ≢ granted n ls

-- a version is within a bound
abbrev pub VersionWithin : Version → Clock → Type 0
VersionWithin x b = x.number ≤ b x.origin

-- of these versions this is the last within the bound, or none is within it
abbrev pub LastWithin : Clock → List Version → Option Version → Type 0
LastWithin b xs None = (x : Version) → In x xs → VersionWithin x b → ⊥
LastWithin b xs (Some x) = (before : List Version) × (after : List Version) × (xs ≡ before ++ x ∷ after) × VersionWithin x b × ((y : Version) → In y after → VersionWithin y b → ⊥)

-- an answered read, with its entry in the reading list, showed what it ought
pub record Showed (h : List Event) (v : Visible) (d : Received) (e : Reading) : Type 0 where
  pub same_tx : e.tx ≡ d.tx
  pub same_key : e.key ≡ d.key
  pub newest : Option Version
  pub last : LastWithin (v.records d.tx).bound (versions_in h d.key) newest
  pub content : d.content ≡ content_of newest
  pub writer : e.writer ≡ writer_of newest

-- one by one, in order
abbrev pub EachShowed : List Event → Visible → List Received → List Reading → Type 0
EachShowed h v [] [] = Unit {0}
EachShowed h v [] (e ∷ es) = ⊥
EachShowed h v (d ∷ ds) [] = ⊥
EachShowed h v (d ∷ ds) (e ∷ es) = Showed h v d e × EachShowed h v ds es

-- the transaction j stands in the way of i at the key k
pub record Rival (h : List Event) (v : Visible) (i k j : ℕ) : Type 0 where
  pub other : j ≢ i
  pub closed : has_closed (v.records j).phase ≡ true
  pub drafted : Drafted (drafts_in h j) k
  pub outside : Outside h j (v.records i).bound

-- what a conflict says: of whom it names, of the holder's origin, of the version that it names, or of the list
abbrev pub Says : (ℕ → Type 0) → (ℕ → ℕ → Type 0) → (ℕ → ℕ → ℕ → Type 0) → Type 0 → Conflict → Type 0
Says Who Whose Which Depth (HeldBy origin writer) = Who writer × Whose origin writer
Says Who Whose Which Depth (Newer origin writer number) = Who writer × Which origin writer number
Says Who Whose Which Depth Full = Depth

-- why the transaction i was refused: a rival drafted the key that the vote against names, or its list is at the depth;
-- and the one or the other is as the vote says
pub record Cause (net : Net) (h : List Event) (v : Visible) (i : ℕ) (against : Objection) : Type 0 where
  pub named : (v.records i).named ≡ Some against
  pub drafted : Drafted (drafts_in h i) against.key
  pub cause : ((j : ℕ) × Rival h v i against.key j) ⊎ (length (v.book against.key) ≡ net.depth)
  pub told : Says
      (Rival h v i against.key)
      (λ origin writer. origin_in h writer ≡ origin)
      (λ origin writer number. (origin_in h writer ≡ origin) × (number_in h writer ≡ Some number))
      (length (v.book against.key) ≡ net.depth)
      against.conflict

pub record Laws (net : Net) (h : List Event) (v : Visible) : Type 0 where
  -- transactions and places are told by counting; what is placed had begun, and nothing is placed twice
  pub counted : Counted h
  pub began : (x : ℕ) → In x (placed_in h) → x < begun_in h
  pub once : (x : ℕ) → Earlier x x (placed_in h) → ⊥
  -- the book replays the grants; of two placed that drafted one key, the later has the earlier within its bound
  pub replay : NoGrantPending v → (k : ℕ) → v.book k ≡ versions_in h k
  pub ordered : (x y k : ℕ) → Earlier x y (placed_in h) → Drafted (drafts_in h x) k → Drafted (drafts_in h y) k → Within h x (v.records y).bound
  -- answered reads show the newest within the bound
  pub shown : EachShowed h v (reads_in h) v.readings
  -- a refusal has a cause, and without drafts nothing is refused
  pub refused : (i : ℕ) → (v.records i).phase ≡ Refused → (against : Objection) × Cause net h v i against
  pub undrafted : (i : ℕ) → drafts_in h i ≡ [] → (v.records i).phase ≢ Refused

abbrev pub LawsStand : Type 0
LawsStand = (net : Net) (h : List Event) (v : Visible) → Run net h v → Laws net h v
