-- What holds of the model after every list of calls. Assumes nothing.
use Rattle.std.proofs.Common.{◌≡◌, ℕ, suc, true, ◌≢◌, ◌⊎◌, List, [], ◌∷◌, length, Some, None, Option}
use Rattle.clocks.specs.declared.Version.{Version}
use Rattle.messages.specs.declared.Draft.{Draft}
use Rattle.tables.specs.declared.Phase.TheVariants.{Granted, Refused}
use Rattle.messages.specs.declared.Objection.{Objection}
use Rattle.messages.specs.declared.Conflict.TheVariants.{Held as HeldBy}
use Rattle.laws.proofs.Conflicts.{Any}
use Rattle.laws.specs.Laws.{Says}
use Rattle.laws.proofs.Log.{IsPlaced, versions, wrote, count, Seen}
use Rattle.laws.specs.Lists.{In}
use Rattle.laws.specs.Net.{Clock, Message, granted, Placement, Net, Drafted, has_closed}
use Rattle.laws.proofs.Model.{Answered, Logged, State}
use Rattle.laws.specs.Words.{Event, placed_as}

-- ## The facts

-- E stands before T among the placed, the newest first
abbrev pub Before : Placement → Placement → List Placement → Type 0
Before E T [] = ⊥
Before E T (X ∷ P) = ((X ≡ T) × In E P) ⊎ Before E T P

-- each number is one more than the count of those of its tower before it
abbrev pub Numbered : List Placement → Type 0
Numbered [] = Unit {0}
Numbered (T ∷ P) = (T.number ≡ suc (count P T.origin)) × Numbered P

-- of the versions of k by those that the clock has passed, v is the one with the highest place
pub record Newest (P : List Placement) (b : Clock) (k : ℕ) (v : Version) : Type 0 where
  pub by : Placement
  pub placed : In by P
  pub wrote : In v (wrote by k)
  pub within : Seen by b
  pub last : (F : Placement) → Before by F P → Drafted F.drafts k → Seen F b → ⊥

-- what a reader with this bound is to be shown
abbrev pub Right : List Placement → Clock → ℕ → Option Version → Type 0
Right P b k (Some v) = Newest P b k v
Right P b k None = (E : Placement) → In E P → Drafted E.drafts k → Seen E b → ⊥

-- another that has asked to write the key, and that the transaction i had not seen
pub record UnseenRival (s : State) (i k j : ℕ) : Type 0 where
  pub other : j ≢ i
  pub asked : has_closed (s.vis.records j).phase ≡ true
  pub drafted : Drafted (s.vis.records j).drafts k
  pub outside : (E : Placement) → In E s.placed → E.tx ≡ j → Seen E (s.vis.records i).bound → ⊥

-- why a transaction is refused
pub record RefusedFor (net : Net) (s : State) (i : ℕ) (a : Objection) : Type 0 where
  pub named : (s.vis.records i).named ≡ Some a
  pub drafted : Drafted (s.vis.records i).drafts a.key
  pub cause : Says (UnseenRival s i a.key) Any (IsPlaced s.placed) (length (s.vis.book a.key) ≡ net.depth) a.conflict
  pub holder : (o w : ℕ) → a.conflict ≡ HeldBy o w → (s.vis.records w).origin ≡ o

-- every tower has taken in whatever is placed
abbrev pub Settled : State → Type 0
Settled s = (m : Message) (n : ℕ) (ls : List Draft) → In m s.vis.air → m.body ≡ granted n ls → ⊥

pub record Facts (net : Net) (s : State) : Type 0 where
  -- each placed transaction stands in the list as its record says
  pub as_recorded : (E : Placement) → In E s.placed → ((s.vis.records E.tx).phase ≡ Granted) × (E ≡ placed_as E.tx (s.vis.records E.tx))
  pub numbered : Numbered s.placed
  -- one order of the placed: a settled book has every version in it, and the later of two that write a key has seen the earlier
  pub books : Settled s → (k : ℕ) → s.vis.book k ≡ versions s.placed k
  pub seen : (E T : Placement) (k : ℕ) → Before E T s.placed → Drafted E.drafts k → Drafted T.drafts k → Seen E T.bound
  -- each answer showed the newest of the versions within the transaction's bound
  pub shown : (d : Answered) → In d s.readings → Right s.placed (s.vis.records d.tx).bound d.key d.shown
  -- each refusal has its cause
  pub refused : (i : ℕ) → (s.vis.records i).phase ≡ Refused → (a : Objection) × RefusedFor net s i a

abbrev pub FactsStand : Type 0
FactsStand = (net : Net) (h : List Event) (s : State) → Logged net h s → Facts net s
