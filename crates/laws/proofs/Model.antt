-- A visible state with a log of what was placed and shown, and the log of a run. Assumes nothing.
use Rattle.std.proofs.Common.{◌≡◌, ℕ, List, [], ◌∷◌, ◌++◌, Some, None, Option, Result, sym, refl, subst}
use Rattle.clocks.specs.declared.Version.{Version}
use Rattle.tables.specs.declared.Phase.TheVariants.{Granted, Dropped}
use Rattle.tables.specs.declared.Call.{Call}
use Rattle.faults.specs.declared.Cause.{Cause}
use Rattle.tables.specs.declared.Told.{Told}
use Rattle.laws.specs.Net.{Placement, Net}
use Rattle.laws.specs.Words.{drafting, in_phase, voting, redrafted, holds_of, Event}
use Rattle.laws.specs.State.{placement, Visible, new, amended, holding}
use Rattle.laws.specs.Rules.{begun_at, asked, closed, replied, received, voted, counted, granting, refusing, took, released, Rule, Step, fails, obeys, begins, reads_own, asks, drafts, drops, closes_empty, closes, replies, receives, agrees, objects, counts, grants, refuses, takes_in, releases}
use Rattle.laws.specs.Rules as rules

-- an answer that was delivered
pub record Answered : Type 0 where
  pub tx : ℕ
  pub key : ℕ
  pub shown : Option Version

pub record State : Type 0 where
  pub vis : Visible
  -- the newest first
  pub placed : List Placement
  pub readings : List Answered

-- a state with nothing logged
abbrev pub bare : Visible → State
bare v = record { vis = v; placed = []; readings = [] }

-- the same log of another state
abbrev pub on : State → Visible → State
on s w = record { vis = w; placed = s.placed; readings = s.readings }

abbrev pub placing : State → Placement → Visible → State
placing s T w = record { vis = w; placed = T ∷ s.placed; readings = s.readings }

abbrev pub noting : State → Answered → Visible → State
noting s d w = record { vis = w; placed = s.placed; readings = d ∷ s.readings }

-- what a rule makes of it
abbrev pub next : (net : Net) (s : State) {v' : Visible} {c : Call} {a : Told} → Rule net s.vis v' c a → State
next net s (receives p m k shown x b e) = noting s (record { tx = m.tx; key = k; shown = shown }) (received net s.vis p m k shown)
next net s (grants p m named r b l q e) = placing s (placement s.vis m.tx) (granting net s.vis p m)
next net s (begins t l b e) = on s (begun_at net s.vis t)
next net s (reads_own i k d o q e) = s
next net s (asks i k o l n e) = on s (asked net s.vis i k)
next net s (drafts i k x o l n e) = on s (amended s.vis i (drafting (redrafted k x (s.vis.records i).drafts) (s.vis.records i)))
next net s (drops i o e) = on s (amended s.vis i (in_phase Dropped (s.vis.records i)))
next net s (closes_empty i o n e) = on s (amended s.vis i (voting Granted 0 None (s.vis.records i)))
next net s (closes i o n e) = on s (closed net s.vis i)
next net s (replies p m k f r b e) = on s (replied net s.vis p m k f)
next net s (agrees p m ls r b n e) = on s (holding (voted net s.vis p m None) (s.vis.held ++ holds_of m.tx m.from ls))
next net s (objects p m ls n r b x e) = on s (voted net s.vis p m (Some n))
next net s (counts p m n r b l e) = on s (counted net s.vis p m n)
next net s (refuses p m n x r b l q e) = on s (refusing net s.vis p m x)
next net s (takes_in p m n ls r b l e) = on s (took net s.vis p m n ls)
next net s (releases p m x b e) = on s (released net s.vis p m)

abbrev pub after-step : (net : Net) (s : State) {v' : Visible} {c : Call} {a : Result Told Cause} → Step net s.vis v' c a → State
after-step net s (fails f q e) = s
after-step net s (obeys q x) = next net s x

abbrev pub first : State
first = bare new

pub data Logged (net : Net) : List Event → State → Type 0 where
  start : Logged net [] first
  then : {h : List Event} {s : State} {v' : Visible} {c : Call} {a : Result Told Cause} → Logged net h s → (x : Step net s.vis v' c a) → Logged net (record { call = c; told = a } ∷ h) (after-step net s x)

-- what every rule keeps, a step keeps
pub by_step : (net : Net) (Q : State → Type 0) (s : State) {v' : Visible} {c : Call} {a : Result Told Cause} → Q s → ((b : Told) (x : Rule net s.vis v' c b) → Q (next net s x)) → (x : Step net s.vis v' c a) → Q (after-step net s x)
by_step net Q s q f (fails _ _ _) = q
by_step net Q s q f (obeys _ x) = f _ x

vis_next : (net : Net) (s : State) {v' : Visible} {c : Call} {a : Told} (x : Rule net s.vis v' c a) → (next net s x).vis ≡ v'
vis_next net s (receives _ _ _ _ _ _ e) = sym e
vis_next net s (grants _ _ _ _ _ _ _ e) = sym e
vis_next net s (begins _ _ _ e) = sym e
vis_next net s (reads_own _ _ _ _ _ e) = sym e
vis_next net s (asks _ _ _ _ _ e) = sym e
vis_next net s (drafts _ _ _ _ _ _ e) = sym e
vis_next net s (drops _ _ e) = sym e
vis_next net s (closes_empty _ _ _ e) = sym e
vis_next net s (closes _ _ _ e) = sym e
vis_next net s (replies _ _ _ _ _ _ e) = sym e
vis_next net s (agrees _ _ _ _ _ _ e) = sym e
vis_next net s (objects _ _ _ _ _ _ _ e) = sym e
vis_next net s (counts _ _ _ _ _ _ e) = sym e
vis_next net s (refuses _ _ _ _ _ _ _ _ e) = sym e
vis_next net s (takes_in _ _ _ _ _ _ _ e) = sym e
vis_next net s (releases _ _ _ _ e) = sym e

-- what holds of what a rule makes holds after it
pub by_rule : (net : Net) (Q : Visible → Type 0) (v : Visible) {v' : Visible} {c : Call} {a : Told} (x : Rule net v v' c a) → Q (next net (bare v) x).vis → Q v'
by_rule net Q v x q = subst Q (vis_next net (bare v) x) q

-- every run has its log
pub log_of : (net : Net) {h : List Event} {v : Visible} → rules.Run net h v → (s : State) × Logged net h s × (s.vis ≡ v)
log_of net rules.start = (first, start, refl)
log_of net (rules.then {v = v} {v' = v'} {c = c} {a = a} r x) =
    let ih = log_of net r in
    let y = subst (λ (w : Visible). Step net w v' c a) (sym ih.2) x in
    (after-step net ih.0 y, then ih.1 y, vis_after net ih.0 y)
  where
    vis_after : (net : Net) (s : State) {v' : Visible} {c : Call} {a : Result Told Cause} (x : Step net s.vis v' c a) → (after-step net s x).vis ≡ v'
    vis_after net s (fails f q e) = sym e
    vis_after net s (obeys q x) = vis_next net s x
