-- Records and messages, as the calls change and send them.
use Rattle.std.specs.Prelude.{ℕ, zero, suc, Bool, true, false, cond, not, ◌&&◌, List, [], ◌∷◌, ◌++◌, length, Some, None, filter, find, Option, Result, ◌==◌, nat_eq}
use Rattle.std.specs.Option.{option_or, unwrap_or}
use Rattle.laws.specs.Net.{Clock, Record, Body, prepare, granted, refused, Message, Placement, Net, inside, newest}
use Rattle.clocks.specs.declared.Content.{Content}
use Rattle.clocks.specs.declared.Version.{Version}
use Rattle.messages.specs.declared.Draft.{Draft}
use Rattle.messages.specs.declared.Objection.{Objection}
use Rattle.messages.specs.declared.Conflict.{Conflict}
use Rattle.messages.specs.declared.Conflict.TheVariants.{Held as HeldBy, Newer, Full}
use Rattle.tables.specs.declared.Held.{Held}
use Rattle.tables.specs.declared.Phase.{Phase}
use Rattle.tables.specs.declared.Phase.TheVariants.{Open, Dropped}
use Rattle.tables.specs.declared.Call.{Call}
use Rattle.faults.specs.declared.Cause.{Cause}
use Rattle.tables.specs.declared.Told.{Told}

-- ## A record, changed at one place

abbrev pub blank : Record
blank = record { origin = 0; phase = Dropped; bound = λ _. 0; answered = false; drafts = []; awaited = 0; named = None; number = None; place = None }

abbrev pub opened : ℕ → Clock → Record
opened t c = record { origin = t; phase = Open; bound = c; answered = false; drafts = []; awaited = 0; named = None; number = None; place = None }

abbrev pub in_phase : Phase → Record → Record
in_phase p r = record { origin = r.origin; phase = p; bound = r.bound; answered = r.answered; drafts = r.drafts; awaited = r.awaited; named = r.named; number = r.number; place = r.place }

abbrev pub drafting : List Draft → Record → Record
drafting ds r = record { origin = r.origin; phase = r.phase; bound = r.bound; answered = r.answered; drafts = ds; awaited = r.awaited; named = r.named; number = r.number; place = r.place }

abbrev pub reading_at : Clock → Record → Record
reading_at c r = record { origin = r.origin; phase = Open; bound = c; answered = true; drafts = r.drafts; awaited = r.awaited; named = r.named; number = r.number; place = r.place }

-- in this phase, with so many votes awaited and the vote against that is kept
abbrev pub voting : Phase → ℕ → Option Objection → Record → Record
voting p a o r = record { origin = r.origin; phase = p; bound = r.bound; answered = r.answered; drafts = r.drafts; awaited = a; named = o; number = r.number; place = r.place }

-- the transaction i, as its record says; one that is placed has a number
abbrev pub placed_as : ℕ → Record → Placement
placed_as i r = record { tx = i; origin = r.origin; number = unwrap_or r.number 0; bound = r.bound; drafts = r.drafts }

-- ## What is sent

abbrev pub message : ℕ → ℕ → ℕ → Clock → Body → Message
message i f t b body = record { tx = i; from = f; to = t; bound = b; body = body }

-- the first draft of the key is replaced, or one is added
abbrev pub redrafted : ℕ → Content → List Draft → List Draft
redrafted k v [] = record { key = k; content = v } ∷ []
redrafted k v (d ∷ ds) = cond (d.key == k) (record { key = k; content = v } ∷ ds) (d ∷ redrafted k v ds)

-- the draft of a key
abbrev pub draft_of : ℕ → List Draft → Option Draft
draft_of k ds = find (λ d. nat_eq d.key k) ds

abbrev pub unless_none : List Draft → Message → List Message
unless_none [] m = []
unless_none (d ∷ ds) m = m ∷ []

-- the transaction i of the tower o holds the keys of these lines
abbrev pub holds_of : ℕ → ℕ → List Draft → List Held
holds_of i o [] = []
holds_of i o (d ∷ ds) = record { key = d.key; tx = i; origin = o } ∷ holds_of i o ds

-- ## What stands in the way of a line of the transaction i at the key k, by what is held, the key's versions and the room for them

abbrev pub held_conflict : Option Held → Option Conflict
held_conflict (Some h) = Some (HeldBy h.origin h.tx)
held_conflict None = None

abbrev pub newer_conflict : Clock → Option Version → Option Conflict
newer_conflict bound (Some v) = cond (inside bound v) None (Some (Newer v.origin v.writer v.number))
newer_conflict bound None = None

-- another transaction than i holds the key
abbrev pub another_holds : ℕ → ℕ → Held → Bool
another_holds i k h = h.key == k && not (h.tx == i)

-- the lowest-numbered of the key's conflicts
abbrev pub conflict_at : ℕ → List Held → List Version → Clock → ℕ → ℕ → Option Conflict
conflict_at depth held versions bound i k =
    option_or (held_conflict (find (another_holds i k) held))
    (option_or (newer_conflict bound (newest versions))
    (cond (length versions == depth) (Some Full) None))

abbrev pub objection_at : ℕ → Option Conflict → Option Objection
objection_at k (Some c) = Some (record { key = k; conflict = c })
objection_at k None = None

-- the first key of the lines that has a conflict, and the conflict
abbrev pub first_objection : (ℕ → Option Conflict) → List Draft → Option Objection
first_objection c [] = None
first_objection c (d ∷ ds) = option_or (objection_at d.key (c d.key)) (first_objection c ds)

module _ (net : Net) where
  -- the drafts whose keys live at tower t
  abbrev pub homed : ℕ → List Draft → List Draft
  homed t ds = filter (λ d. nat_eq (net.home d.key) t) ds

  -- the keys of tower t that the transaction holds are let go
  abbrev pub freed : ℕ → ℕ → List Held → List Held
  freed i t hs = filter (λ h. not (h.tx == i && net.home h.key == t)) hs

  abbrev pub prepare_to : ℕ → Record → ℕ → Message
  prepare_to i r t = message i r.origin t r.bound (prepare (homed t r.drafts))

  abbrev pub granted_to : Placement → ℕ → Message
  granted_to T t = message T.tx T.origin t T.bound (granted T.number (homed t T.drafts))

  abbrev pub refused_to : ℕ → Record → ℕ → Message
  refused_to i r t = message i r.origin t r.bound refused

  -- one to each home of a drafted key, among the first n towers
  abbrev pub prepares : ℕ → Record → ℕ → List Message
  prepares i r zero = []
  prepares i r (suc t) = prepares i r t ++ unless_none (homed t r.drafts) (prepare_to i r t)

  -- one to each other tower
  abbrev pub grants_to : Placement → ℕ → List Message
  grants_to T zero = []
  grants_to T (suc t) = grants_to T t ++ cond (t == T.origin) [] (granted_to T t ∷ [])

  -- one to each other home of a drafted key
  abbrev pub refusals_to : ℕ → Record → ℕ → List Message
  refusals_to i r zero = []
  refusals_to i r (suc t) =
      refusals_to i r t ++ cond (t == r.origin) [] (unless_none (homed t r.drafts) (refused_to i r t))

-- a history: each call with what it told, the newest first
pub record Event : Type 0 where
  pub call : Call
  pub told : Result Told Cause
