-- What the towers, the transactions and the air hold.
use Rattle.std.specs.Prelude.{◌≡◌, ℕ, ◌<◌, ◌≤◌, Bool, true, false, cond, ◌&&◌, ◌⊎◌, List, [], ◌∷◌, Some, None, Option, ◌==◌, nat_le}
use Rattle.laws.specs.Lists.{tally, last_of}
use Rattle.clocks.specs.declared.Content.{Content}
use Rattle.clocks.specs.declared.Version.{Version}
use Rattle.messages.specs.declared.Draft.{Draft}
use Rattle.messages.specs.declared.Objection.{Objection}
use Rattle.tables.specs.declared.Phase.{Phase}
use Rattle.tables.specs.declared.Phase.TheVariants.{Open, Waiting, Closing, Granted, Refused, Dropped}

-- an entry for each tower: how many of its placed transactions are taken in
abbrev pub Clock : Type 0
Clock = ℕ → ℕ

-- a transaction
pub record Record : Type 0 where
  pub origin : ℕ
  pub phase : Phase
  pub bound : Clock
  pub answered : Bool
  pub drafts : List Draft
  pub awaited : ℕ
  -- the first vote against that was delivered
  pub named : Option Objection
  -- its count at its origin, and its place among all that were granted with drafts
  pub number : Option ℕ
  pub place : Option ℕ

-- what a message says
pub data Body : Type 0 where
  query : (key : ℕ) (first : Bool) → Body
  answer : (key : ℕ) (shown : Option Version) → Body
  prepare : (lines : List Draft) → Body
  vote : (named : Option Objection) → Body
  granted : (number : ℕ) (lines : List Draft) → Body
  refused : Body

pub record Message : Type 0 where
  pub tx : ℕ
  pub from : ℕ
  pub to : ℕ
  pub bound : Clock
  pub body : Body

-- a granted transaction with drafts
pub record Placement : Type 0 where
  pub tx : ℕ
  pub origin : ℕ
  pub number : ℕ
  pub bound : Clock
  pub drafts : List Draft

-- the net: each key's home, how many towers there are, how many versions a book has room for
pub record Net : Type 0 where
  pub home : ℕ → ℕ
  pub towers : ℕ
  pub depth : ℕ
  pub housed : (k : ℕ) → home k < towers
  -- how many keys there are, how many transactions there can be, and how many keys one may draft
  pub keys : ℕ
  pub transactions : ℕ
  pub most : ℕ
  -- how many messages the air has places for, and how many entries the reading list
  pub air_places : ℕ
  pub reading_places : ℕ
  -- how many entries a clock has
  pub entries : ℕ
  pub enough : towers ≤ entries

-- ## Words

infix 50 ◌⊑◌
-- the second clock covers the first
abbrev pub ◌⊑◌ : Clock → Clock → Type 0
b ⊑ c = (j : ℕ) → b j ≤ c j

-- the version is within the clock
abbrev pub inside : Clock → Version → Bool
inside c v = nat_le v.number (c v.origin)

-- the drafts write the key
abbrev pub Drafted : List Draft → ℕ → Type 0
Drafted [] k = ⊥
Drafted (d ∷ ds) k = (d.key ≡ k) ⊎ Drafted ds k

-- the versions of k that drafts make
abbrev pub written : ℕ → ℕ → ℕ → List Draft → ℕ → List Version
written w o n [] k = []
written w o n (d ∷ ds) k =
    cond (d.key == k)
    (record { writer = w; origin = o; number = n; content = d.content } ∷ written w o n ds k)
    (written w o n ds k)

-- of versions, the oldest first, the last within the clock: what a reader is shown
abbrev pub newest_within : Clock → List Version → Option Version
newest_within c vs = last_of (inside c) vs

abbrev pub newest : List Version → Option Version
newest vs = last_of (λ _. true) vs

-- what is told of a version shown, and what is noted of it
abbrev pub content_of : Option Version → Option Content
content_of (Some x) = Some x.content
content_of None = None

abbrev pub writer_of : Option Version → Option ℕ
writer_of (Some x) = Some x.writer
writer_of None = None

-- a transaction has closed, whatever came of it
abbrev pub has_closed : Phase → Bool
has_closed Open = false
has_closed Waiting = false
has_closed Closing = true
has_closed Granted = true
has_closed Refused = true
has_closed Dropped = false

-- ## Messages

-- a prepare or a vote
abbrev pub is_ballot : Body → Bool
is_ballot (query k f) = false
is_ballot (answer k v) = false
is_ballot (prepare ls) = true
is_ballot (vote n) = true
is_ballot (granted n ls) = false
is_ballot refused = false

abbrev pub is_granted : Body → Bool
is_granted (query k f) = false
is_granted (answer k v) = false
is_granted (prepare ls) = false
is_granted (vote n) = false
is_granted (granted n ls) = true
is_granted refused = false

-- how many prepares and votes of the transaction are in the air
abbrev pub ballots : ℕ → List Message → ℕ
ballots i air = tally (λ m. (m.tx == i) && is_ballot m.body) air

-- a granted outcome of this tower's, to that tower
abbrev pub pending_of : ℕ → ℕ → Message → Bool
pending_of o t m = m.from == o && (m.to == t && is_granted m.body)
