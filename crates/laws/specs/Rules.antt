-- What each call does to what the towers, the tables and the air hold.
use Rattle.std.specs.Prelude.{◌≡◌, ℕ, suc, pred, ◌<◌, ◌≤◌, Bool, cond, not, ◌≢◌, List, [], ◌∷◌, ◌++◌, length, Some, None, Ok, Err, Option, Result}
use Rattle.std.specs.Option.{option_or}
use Rattle.laws.specs.Lists.{put, At}
use Rattle.laws.specs.Net.{Clock, query, answer, prepare, vote, granted, refused, Message, Net, ◌⊑◌, newest_within, content_of, writer_of}
use Rattle.laws.specs.State.{Visible, amended, sent, removed, holding, took_in, read, placing, new, granted_record, placement}
use Rattle.laws.specs.Faults.{first_fault}
use Rattle.laws.specs.Words.{draft_of, opened, in_phase, drafting, reading_at, voting, message, redrafted, holds_of, conflict_at, first_objection, homed, freed, prepares, grants_to, refusals_to, Event}
use Rattle.clocks.specs.declared.Version.{Version}
use Rattle.messages.specs.declared.Draft.{Draft}
use Rattle.messages.specs.Table.{conflict_mark}
use Rattle.clocks.specs.declared.Content.{Content}
use Rattle.faults.specs.declared.Cause.{Cause}
use Rattle.messages.specs.declared.Objection.{Objection}
use Rattle.tables.specs.declared.Phase.TheVariants.{Open, Waiting, Closing, Granted, Refused, Dropped}
use Rattle.tables.specs.declared.Call.{Call}
use Rattle.tables.specs.declared.Call.TheVariants.{Begin, Read, Draft as DraftCall, Close, Drop as DropCall, Deliver}
use Rattle.tables.specs.declared.Told.{Told}
use Rattle.tables.specs.declared.Told.TheVariants.{Begun, Own, Sent, Drafts, ReadOnly, Dropped as ToldDropped, Queried, Shown, Prepared, Awaiting, Placed, Refused as ToldRefused, Ended}

module _ (net : Net) where
  -- ## The calls

  abbrev pub begun_at : Visible → ℕ → Visible
  begun_at v t = record { begun = suc v.begun; last = v.last; records = put v.records v.begun (opened t (v.clocks t)); clocks = v.clocks; book = v.book; held = v.held; air = v.air; readings = v.readings }

  abbrev pub asked : Visible → ℕ → ℕ → Visible
  asked v i k =
      let r = v.records i in
      sent (amended v i (in_phase Waiting r)) (message i r.origin (net.home k) r.bound (query k (not r.answered)) ∷ [])

  abbrev pub closed : Visible → ℕ → Visible
  closed v i =
      let r = v.records i in
      let ms = prepares net i r net.towers in
      sent (amended v i (voting Closing (length ms) None r)) ms

  -- the message m, at the place p of the air, is a query
  abbrev pub replied : Visible → ℕ → Message → ℕ → Bool → Visible
  replied v p m k first =
      let c : Clock = cond first (v.clocks m.to) m.bound in
      sent (removed v p) (message m.tx m.to m.from c (answer k (newest_within c (v.book k))) ∷ [])

  -- .. an answer
  abbrev pub received : Visible → ℕ → Message → ℕ → Option Version → Visible
  received v p m k shown =
      read (amended (removed v p) m.tx (reading_at m.bound (v.records m.tx))) (record { tx = m.tx; key = k; writer = writer_of shown })

  -- .. a prepare
  abbrev pub voted : Visible → ℕ → Message → Option Objection → Visible
  voted v p m named = sent (removed v p) (message m.tx m.to m.from m.bound (vote named) ∷ [])

  -- .. a vote, and not the last
  abbrev pub counted : Visible → ℕ → Message → Option Objection → Visible
  counted v p m named =
      let r = v.records m.tx in
      amended (removed v p) m.tx (voting Closing (pred r.awaited) (option_or r.named named) r)

  -- .. the last vote, and none was a no
  abbrev pub granting : Visible → ℕ → Message → Visible
  granting v p m =
      let i = m.tx in
      let o = (v.records i).origin in
      let T = placement v i in
      sent (holding (took_in (placing (amended (removed v p) i (granted_record v i))) o i o T.number (homed net o T.drafts)) (freed net i o v.held))
      (grants_to net T net.towers)

  -- .. the last vote, and one was a no
  abbrev pub refusing : Visible → ℕ → Message → Objection → Visible
  refusing v p m against =
      let i = m.tx in
      let r = voting Refused 0 (Some against) (v.records i) in
      sent (holding (amended (removed v p) i r) (freed net i r.origin v.held)) (refusals_to net i (v.records i) net.towers)

  -- .. a granted outcome
  abbrev pub took : Visible → ℕ → Message → ℕ → List Draft → Visible
  took v p m n lines =
      holding (took_in (removed v p) m.to m.tx m.from n lines) (freed net m.tx m.to v.held)

  -- .. a refused outcome
  abbrev pub released : Visible → ℕ → Message → Visible
  released v p m = holding (removed v p) (freed net m.tx m.to v.held)

  -- what a home has against the lines of a prepare
  abbrev pub objection : Visible → Message → List Draft → Option Objection
  objection v m lines = first_objection (λ k. conflict_at net.depth v.held (v.book k) m.bound m.tx k) lines

  -- the message at the place p of the air can be delivered
  pub record Ripe (v : Visible) (p : ℕ) (m : Message) : Type 0 where
    pub there : At v.air p m
    pub caught_up : m.bound ⊑ v.clocks m.to

  -- ## What a call that is obeyed tells, and the state after it

  pub data Rule (v v' : Visible) : Call → Told → Type 0 where
    begins : (t : ℕ) → t < net.towers → v.begun < net.transactions →
        v' ≡ begun_at v t → Rule v v' (Begin t) (Begun v.begun)
    reads_own : (i k : ℕ) (d : Draft) → (v.records i).phase ≡ Open → draft_of k (v.records i).drafts ≡ Some d →
        v' ≡ v → Rule v v' (Read i k) (Own d.content)
    asks : (i k : ℕ) → (v.records i).phase ≡ Open → k < net.keys → draft_of k (v.records i).drafts ≡ None →
        v' ≡ asked v i k → Rule v v' (Read i k) (Sent 1)
    drafts : (i k : ℕ) (x : Content) → (v.records i).phase ≡ Open → k < net.keys → length (redrafted k x (v.records i).drafts) ≤ net.most →
        v' ≡ amended v i (drafting (redrafted k x (v.records i).drafts) (v.records i)) → Rule v v' (DraftCall i k x) (Drafts (length (redrafted k x (v.records i).drafts)))
    drops : (i : ℕ) → (v.records i).phase ≡ Open →
        v' ≡ amended v i (in_phase Dropped (v.records i)) → Rule v v' (DropCall i) (ToldDropped i)
    closes_empty : (i : ℕ) → (v.records i).phase ≡ Open → (v.records i).drafts ≡ [] →
        v' ≡ amended v i (voting Granted 0 None (v.records i)) → Rule v v' (Close i) ReadOnly
    closes : (i : ℕ) → (v.records i).phase ≡ Open → (v.records i).drafts ≢ [] →
        v' ≡ closed v i → Rule v v' (Close i) (Sent (length (prepares net i (v.records i) net.towers)))
    replies : (p : ℕ) (m : Message) (k : ℕ) (first : Bool) → Ripe v p m → m.body ≡ query k first →
        v' ≡ replied v p m k first → Rule v v' (Deliver p) (Queried m.tx)
    receives : (p : ℕ) (m : Message) (k : ℕ) (shown : Option Version) → At v.air p m → m.body ≡ answer k shown →
        v' ≡ received v p m k shown → Rule v v' (Deliver p) (Shown m.tx k (content_of shown))
    agrees : (p : ℕ) (m : Message) (lines : List Draft) → Ripe v p m → m.body ≡ prepare lines → objection v m lines ≡ None →
        v' ≡ holding (voted v p m None) (v.held ++ holds_of m.tx m.from lines) → Rule v v' (Deliver p) (Prepared m.tx 0)
    objects : (p : ℕ) (m : Message) (lines : List Draft) (against : Objection) → Ripe v p m → m.body ≡ prepare lines → objection v m lines ≡ Some against →
        v' ≡ voted v p m (Some against) → Rule v v' (Deliver p) (Prepared m.tx (conflict_mark against.conflict))
    counts : (p : ℕ) (m : Message) (named : Option Objection) → Ripe v p m → m.body ≡ vote named → 1 < (v.records m.tx).awaited →
        v' ≡ counted v p m named → Rule v v' (Deliver p) (Awaiting m.tx)
    grants : (p : ℕ) (m : Message) (named : Option Objection) → Ripe v p m → m.body ≡ vote named → (v.records m.tx).awaited ≡ 1 → option_or (v.records m.tx).named named ≡ None →
        v' ≡ granting v p m → Rule v v' (Deliver p) (Placed m.tx (suc v.last))
    refuses : (p : ℕ) (m : Message) (named : Option Objection) (against : Objection) → Ripe v p m → m.body ≡ vote named → (v.records m.tx).awaited ≡ 1 → option_or (v.records m.tx).named named ≡ Some against →
        v' ≡ refusing v p m against → Rule v v' (Deliver p) (ToldRefused m.tx against.key)
    takes_in : (p : ℕ) (m : Message) (n : ℕ) (lines : List Draft) → Ripe v p m → m.body ≡ granted n lines → suc (v.clocks m.to m.from) ≡ n →
        v' ≡ took v p m n lines → Rule v v' (Deliver p) (Ended m.tx m.to)
    releases : (p : ℕ) (m : Message) → At v.air p m → m.body ≡ refused →
        v' ≡ released v p m → Rule v v' (Deliver p) (Ended m.tx m.to)

  -- ## A call is turned down, and nothing changes, or it is obeyed

  pub data Step (v v' : Visible) (c : Call) : Result Told Cause → Type 0 where
    fails : (f : Cause) → first_fault net v c ≡ Some f → v' ≡ v → Step v v' c (Err f)
    obeys : {a : Told} → first_fault net v c ≡ None → Rule v v' c a → Step v v' c (Ok a)

-- the net after the calls of a history
pub data Run (net : Net) : List Event → Visible → Type 0 where
  start : Run net [] new
  then : {h : List Event} {v v' : Visible} {c : Call} {a : Result Told Cause} → Run net h v → Step net v v' c a → Run net (record { call = c; told = a } ∷ h) v'
