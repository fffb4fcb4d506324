-- What a history tells. A history has each call with what it told, the newest first.
use Rattle.std.specs.Prelude.{◌≡◌, ℕ, suc, ◌<◌, ◌≤◌, Bool, true, false, cond, ◌⊎◌, List, [], ◌∷◌, ◌++◌, length, Some, None, Ok, Err, Option, Result, ◌==◌, nat_eq}
use Rattle.clocks.specs.declared.Content.{Content}
use Rattle.clocks.specs.declared.Version.{Version}
use Rattle.messages.specs.declared.Draft.{Draft}
use Rattle.tables.specs.declared.Call.{Call}
use Rattle.tables.specs.declared.Call.TheVariants.{Begin, Read, Draft as DraftCall, Close, Drop as DropCall, Deliver}
use Rattle.faults.specs.declared.Cause.{Cause}
use Rattle.tables.specs.declared.Told.{Told}
use Rattle.tables.specs.declared.Told.TheVariants.{Begun, Own, Sent, Drafts, ReadOnly, Dropped as ToldDropped, Queried, Shown, Prepared, Awaiting, Placed, Refused as ToldRefused, Ended}
use Rattle.laws.specs.Lists.{In, tally}
use Rattle.laws.specs.Net.{Clock, written}
use Rattle.laws.specs.Words.{Event, redrafted}

-- what a history counts of what a call told
pub data Note : Type 0 where
  is_begun : (tx : ℕ) → Note
  is_shown : (tx key : ℕ) (content : Option Content) → Note
  is_placed : (tx place : ℕ) → Note
  is_other : Note
  is_fault : Note

abbrev pub note : Result Told Cause → Note
note (Ok (Begun i)) = is_begun i
note (Ok (Own x)) = is_other
note (Ok (Sent n)) = is_other
note (Ok (Drafts n)) = is_other
note (Ok ReadOnly) = is_other
note (Ok (ToldDropped i)) = is_other
note (Ok (Queried i)) = is_other
note (Ok (Shown i k x)) = is_shown i k x
note (Ok (Prepared i n)) = is_other
note (Ok (Awaiting i)) = is_other
note (Ok (Placed i p)) = is_placed i p
note (Ok (ToldRefused i k)) = is_other
note (Ok (Ended i t)) = is_other
note (Err f) = is_fault

-- a call that was not turned down
abbrev pub obeyed : Note → Bool
obeyed (is_begun i) = true
obeyed (is_shown i k x) = true
obeyed (is_placed i p) = true
obeyed is_other = true
obeyed is_fault = false

-- ## The transactions placed

abbrev pub placed_by : Note → List ℕ → List ℕ
placed_by (is_begun i) l = l
placed_by (is_shown i k x) l = l
placed_by (is_placed i p) l = i ∷ l
placed_by is_other l = l
placed_by is_fault l = l

-- the transactions of the votes that told granted, the newest first
abbrev pub placed_in : List Event → List ℕ
placed_in [] = []
placed_in (e ∷ h) = placed_by (note e.told) (placed_in h)

-- the first comes before the second, where the newest stands first
abbrev pub Earlier : ℕ → ℕ → List ℕ → Type 0
Earlier x y [] = ⊥
Earlier x y (i ∷ is) = ((i ≡ y) × In x is) ⊎ Earlier x y is

-- how many began
abbrev pub begun_by : Note → ℕ → ℕ
begun_by (is_begun i) n = suc n
begun_by (is_shown i k x) n = n
begun_by (is_placed i p) n = n
begun_by is_other n = n
begun_by is_fault n = n

abbrev pub begun_in : List Event → ℕ
begun_in [] = 0
begun_in (e ∷ h) = begun_by (note e.told) (begun_in h)

-- a begin tells the next transaction, from 0, and a vote that grants the next place, from 1
abbrev pub NextTold : ℕ → ℕ → Note → Type 0
NextTold b p (is_begun i) = i ≡ b
NextTold b p (is_shown i k x) = Unit {0}
NextTold b p (is_placed i q) = q ≡ suc p
NextTold b p is_other = Unit {0}
NextTold b p is_fault = Unit {0}

-- every transaction and every place told is a count of what was told before
abbrev pub Counted : List Event → Type 0
Counted [] = Unit {0}
Counted (e ∷ h) = NextTold (begun_in h) (length (placed_in h)) (note e.told) × Counted h

-- the transactions that were placed before this one began
abbrev pub before_by : Note → ℕ → List ℕ → List ℕ → List ℕ
before_by (is_begun j) y now l = cond (j == y) now l
before_by (is_shown i k x) y now l = l
before_by (is_placed i p) y now l = l
before_by is_other y now l = l
before_by is_fault y now l = l

abbrev pub placed_before_in : List Event → ℕ → List ℕ
placed_before_in [] y = []
placed_before_in (e ∷ h) y = before_by (note e.told) y (placed_in h) (placed_before_in h y)

-- ## Where a transaction began

abbrev pub tower_of : Call → ℕ → ℕ
tower_of (Begin t) o = t
tower_of (Read i k) o = o
tower_of (DraftCall i k x) o = o
tower_of (Close i) o = o
tower_of (DropCall i) o = o
tower_of (Deliver p) o = o

abbrev pub origin_by : Call → Note → ℕ → ℕ → ℕ
origin_by c (is_begun j) i o = cond (j == i) (tower_of c o) o
origin_by c (is_shown j k x) i o = o
origin_by c (is_placed j p) i o = o
origin_by c is_other i o = o
origin_by c is_fault i o = o

-- the tower of the begin that told this transaction
abbrev pub origin_in : List Event → ℕ → ℕ
origin_in [] i = 0
origin_in (e ∷ h) i = origin_by e.call (note e.told) i (origin_in h i)

-- ## What it drafted: a second draft of a key stands where the first stood

abbrev pub drafted_by : Call → ℕ → List Draft → List Draft
drafted_by (Begin t) i ds = ds
drafted_by (Read j k) i ds = ds
drafted_by (DraftCall j k x) i ds = cond (j == i) (redrafted k x ds) ds
drafted_by (Close j) i ds = ds
drafted_by (DropCall j) i ds = ds
drafted_by (Deliver p) i ds = ds

abbrev pub drafts_in : List Event → ℕ → List Draft
drafts_in [] i = []
drafts_in (e ∷ h) i = cond (obeyed (note e.told)) (drafted_by e.call i (drafts_in h i)) (drafts_in h i)

-- ## Numbers: a placed transaction is counted at its origin

-- the number of one that is placed after these
abbrev pub number_after : List Event → ℕ → List ℕ → ℕ
number_after h i is = suc (tally (λ j. nat_eq (origin_in h j) (origin_in h i)) is)

abbrev pub number_of : List Event → ℕ → List ℕ → Option ℕ
number_of h i [] = None
number_of h i (j ∷ js) = cond (j == i) (Some (number_after h j js)) (number_of h i js)

-- the number of a transaction; none, unless it is placed
abbrev pub number_in : List Event → ℕ → Option ℕ
number_in h i = number_of h i (placed_in h)

-- the place of a transaction; none, unless it is placed
abbrev pub place_of : ℕ → List ℕ → Option ℕ
place_of i [] = None
place_of i (j ∷ js) = cond (j == i) (Some (suc (length js))) (place_of i js)

abbrev pub place_in : List Event → ℕ → Option ℕ
place_in h i = place_of i (placed_in h)

-- a transaction is within a bound, or outside it: it has no number, or one above the entry of its origin
abbrev pub Within : List Event → ℕ → Clock → Type 0
Within h i b = (n : ℕ) × (number_in h i ≡ Some n) × (n ≤ b (origin_in h i))

abbrev pub Outside : List Event → ℕ → Clock → Type 0
Outside h i b = (n : ℕ) → number_in h i ≡ Some n → b (origin_in h i) < n

-- ## The versions of a key

abbrev pub versions_of : List Event → List ℕ → ℕ → List Version
versions_of h [] k = []
versions_of h (i ∷ is) k = versions_of h is k ++ written i (origin_in h i) (number_after h i is) (drafts_in h i) k

-- what the placed transactions drafted of it, one after another, the oldest first
abbrev pub versions_in : List Event → ℕ → List Version
versions_in h k = versions_of h (placed_in h) k

-- ## The reads that were answered

-- an answer delivered: the content told, or blank
pub record Received : Type 0 where
  pub tx : ℕ
  pub key : ℕ
  pub content : Option Content

abbrev pub read_by : Note → List Received → List Received
read_by (is_begun i) l = l
read_by (is_shown i k x) l = l ++ record { tx = i; key = k; content = x } ∷ []
read_by (is_placed i p) l = l
read_by is_other l = l
read_by is_fault l = l

-- the oldest first
abbrev pub reads_in : List Event → List Received
reads_in [] = []
reads_in (e ∷ h) = read_by (note e.told) (reads_in h)
