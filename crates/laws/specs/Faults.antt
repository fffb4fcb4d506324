-- Which fault turns a call down: the first of its checks that fails, in their order.
use Rattle.std.specs.Prelude.{ℕ, zero, suc, ◌+◌, Bool, true, false, cond, ◌&&◌, List, [], ◌∷◌, length, Some, None, Option, ◌==◌, nat_le, nat_lt}
use Rattle.std.specs.Option.{option_or}
use Rattle.std.specs.List.{slice_get}
use Rattle.faults.specs.declared.Cause.{Cause}
use Rattle.faults.specs.declared.Cause.TheVariants.{Tower, Unknown, Key, Phase as PhaseFault, Full, Drafts as TooMany, Air, Message as NoMessage, Early, List as ListFull}
use Rattle.messages.specs.declared.Draft.{Draft}
use Rattle.messages.specs.declared.Objection.{Objection}
use Rattle.tables.specs.declared.Phase.{Phase}
use Rattle.tables.specs.declared.Phase.TheVariants.{Open, Waiting, Closing, Granted, Refused, Dropped}
use Rattle.tables.specs.declared.Call.{Call}
use Rattle.tables.specs.declared.Call.TheVariants.{Begin, Read, Draft as DraftCall, Close, Drop as DropCall, Deliver}
use Rattle.laws.specs.Lists.{without}
use Rattle.laws.specs.Net.{Clock, Body, query, answer, prepare, vote, granted, refused, Message, Net}
use Rattle.laws.specs.Words.{draft_of, redrafted, prepares, grants_to, refusals_to}
use Rattle.laws.specs.State.{Visible, placement}

-- the fault, unless the check passes; then what the checks after it say
abbrev pub unless : Bool → Cause → Option Cause → Option Cause
unless passes fault others = cond passes others (Some fault)

abbrev pub is_open : Phase → Bool
is_open Open = true
is_open Waiting = false
is_open Closing = false
is_open Granted = false
is_open Refused = false
is_open Dropped = false

-- ## Ripeness

-- none of the first n entries of the clock is smaller than the bound's
abbrev pub covers_first : ℕ → Clock → Clock → Bool
covers_first zero c b = true
covers_first (suc n) c b = nat_le (b n) (c n) && covers_first n c b

-- by whether the receiver's clock covers the bound, and the number that the clock expects of the sender
abbrev pub ripe_body : Bool → ℕ → Body → Bool
ripe_body covered next (query k first) = covered
ripe_body covered next (answer k shown) = true
ripe_body covered next (prepare lines) = covered
ripe_body covered next (vote named) = covered
ripe_body covered next (granted n lines) = covered && next == n
ripe_body covered next refused = true

-- the message can be delivered at a receiver whose clock, of n entries, is c
abbrev pub ripe : ℕ → Clock → Message → Bool
ripe n c m = ripe_body (covers_first n c m.bound) (suc (c m.from)) m.body

module _ (net : Net) (v : Visible) where
  -- there are places for n more messages
  abbrev pub room : ℕ → List Message → Bool
  room n air = nat_le (length air + n) net.air_places

  -- a transaction that was given and is open; then what the checks after it say
  abbrev pub unless_open : ℕ → Option Cause → Option Cause
  unless_open i others = unless (nat_lt i v.begun) Unknown (unless (is_open (v.records i).phase) PhaseFault others)

  abbrev pub unless_room : Bool → Option Cause
  unless_room b = unless b Air None

  -- a read of a drafted key sends nothing
  abbrev pub read_fault : Option Draft → Option Cause
  read_fault (Some d) = None
  read_fault None = unless_room (room 1 v.air)

  -- a close without drafts sends nothing
  abbrev pub close_fault : ℕ → List Draft → Option Cause
  close_fault i [] = None
  close_fault i (d ∷ ds) = unless_room (room (length (prepares net i (v.records i) net.towers)) v.air)

  -- what the last vote sends
  abbrev pub outcomes_of : ℕ → Option Objection → List Message
  outcomes_of i None = grants_to net (placement v i) net.towers
  outcomes_of i (Some against) = refusals_to net i (v.records i) net.towers

  -- the place of the message that is delivered is free again
  abbrev pub delivery_fault : ℕ → Message → Body → Option Cause
  delivery_fault p m (query k first) = None
  delivery_fault p m (answer k shown) = unless (nat_lt (length v.readings) net.reading_places) ListFull None
  delivery_fault p m (prepare lines) = None
  delivery_fault p m (vote named) = cond ((v.records m.tx).awaited == 1) (unless_room (room (length (outcomes_of m.tx (option_or (v.records m.tx).named named))) (without v.air p))) None
  delivery_fault p m (granted n lines) = None
  delivery_fault p m refused = None

  abbrev pub message_fault : ℕ → Option Message → Option Cause
  message_fault p None = Some NoMessage
  message_fault p (Some m) = unless (ripe net.entries (v.clocks m.to) m) Early (delivery_fault p m m.body)

  -- ## The fault of a call, or none

  abbrev pub first_fault : Call → Option Cause
  first_fault (Begin t) = unless (nat_lt t net.towers) Tower (unless (nat_lt v.begun net.transactions) Full None)
  first_fault (Read i k) = unless_open i (unless (nat_lt k net.keys) Key (read_fault (draft_of k (v.records i).drafts)))
  first_fault (DraftCall i k x) = unless_open i (unless (nat_lt k net.keys) Key (unless (nat_le (length (redrafted k x (v.records i).drafts)) net.most) TooMany None))
  first_fault (Close i) = unless_open i (close_fault i (v.records i).drafts)
  first_fault (DropCall i) = unless_open i None
  first_fault (Deliver p) = message_fault p (slice_get v.air p)
