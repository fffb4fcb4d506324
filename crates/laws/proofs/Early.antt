-- What its own tower had placed before a transaction began is within its bound. Assumes nothing.
use Rattle.std.proofs.Common.{◌≡◌, ℕ, suc, pred, ◌<◌, ◌≤◌, cond, eqb, ◌⊎◌, List, [], ◌∷◌, length, Some, None, Ok, Result, sym, refl, ap, ◌∙◌, subst, inl, inr, arith}
use Rattle.std.specs.Option.{option_or}
use Rattle.std.proofs.lemmas.Bool.{eq-eqb, ne_eqb, eqb-true, cases_eq, cases_Bool}
use Rattle.tables.specs.declared.Call.{Call}
use Rattle.faults.specs.declared.Cause.{Cause}
use Rattle.tables.specs.declared.Told.{Told}
use Rattle.tables.specs.declared.Phase.TheVariants.{Waiting, Closing, Granted, Refused, Dropped}
use Rattle.laws.specs.Lists.{put, In}
use Rattle.laws.specs.Net.{Record, Placement, Net, ◌⊑◌, is_ballot}
use Rattle.laws.proofs.Log.{Seen}
use Rattle.laws.proofs.Model.{Logged, State, after-step, next, start, then}
use Rattle.laws.specs.Rules.{Rule, Step, agrees, asks, begins, closes, closes_empty, counts, drafts, drops, fails, grants, receives, releases, reads_own, obeys, objects, refuses, replies, takes_in}
use Rattle.laws.specs.State.{granted_record, Visible}
use Rattle.laws.specs.Words.{opened, in_phase, drafting, reading_at, voting, redrafted, placed_as, prepares, Event}
use Rattle.laws.specs.History.{Note, note, is_begun, is_shown, is_placed, is_other, is_fault, placed_by, begun_by, placed_in, begun_in, NextTold, Counted, before_by, placed_before_in, origin_in}
use Rattle.laws.proofs.Lists.{put_case, put_same, put_other, in_at}
use Rattle.laws.proofs.Placed.{number_le}
use Rattle.laws.proofs.Invariant.{Invariant}
use Rattle.laws.proofs.Frames.{differ, placed-other}
use Rattle.laws.proofs.Stand.{run_holds}
use Rattle.laws.proofs.More.{More, run_more}
use Rattle.laws.proofs.Histories.{Linked, run_linked}
use Rattle.laws.proofs.Lawful.{placed_at}

-- ## The histories

pub before-placed : (h : List Event) (x y : ℕ) → In x (placed_before_in h y) → In x (placed_in h)
before-placed [] x y g = absurd g
before-placed (e ∷ h) x y g = go (note e.told) (before-placed h x y) g
  where
    go : (a : Note) → (In x (placed_before_in h y) → In x (placed_in h)) → In x (before_by a y (placed_in h) (placed_before_in h y)) → In x (placed_by a (placed_in h))
    go (is_begun j) ih g = elim (cases_Bool (eqb j y)) [ inl q ↦ rw q at g | inr q ↦ ih (rw q at g) ]
    go (is_shown i k x) ih g = ih g
    go (is_placed i p) ih g = inr (ih g)
    go is_other ih g = ih g
    go is_fault ih g = ih g

pub before-begun : (h : List Event) (x y : ℕ) → Counted h → In x (placed_before_in h y) → y < begun_in h
before-begun [] x y c g = absurd g
before-begun (e ∷ h) x y c g = go (note e.told) (before-begun h x y c.1) c.0 g
  where
    go : (a : Note) → (In x (placed_before_in h y) → y < begun_in h) → NextTold (begun_in h) (length (placed_in h)) a → In x (before_by a y (placed_in h) (placed_before_in h y)) → y < begun_by a (begun_in h)
    go (is_begun j) ih n g = elim (cases_Bool (eqb j y)) [ inl q ↦ omega (arith, eqb-true j y q, n) | inr q ↦ omega (arith, ih (rw q at g)) ]
    go (is_shown i k x) ih n g = ih g
    go (is_placed i p) ih n g = ih g
    go is_other ih n g = ih g
    go is_fault ih n g = ih g

-- ## The runs

abbrev Early : List Event → ℕ → List Placement → (ℕ → Record) → Type 0
Early h n P rs = (y : ℕ) (E : Placement) → y < n → In E P → In E.tx (placed_before_in h y) → E.origin ≡ origin_in h y → Seen E (rs y).bound

abbrev EarlyIn : List Event → State → Type 0
EarlyIn h s = Early h s.vis.begun s.placed s.vis.records

early_put : (h : List Event) (n : ℕ) (P : List Placement) (rs : ℕ → Record) (i : ℕ) (r : Record) → (rs i).bound ⊑ r.bound → Early h n P rs → Early h n P (put rs i r)
early_put h n P rs i r b g y E l m q o = put_case (λ j x. Seen E (rs j).bound → Seen E x.bound) rs i r (λ u. omega (arith, u, b E.origin)) (λ j _ u. u) y (g y E l m q o)

same : (rs : ℕ → Record) (i : ℕ) → (rs i).bound ⊑ (rs i).bound
same rs i j = omega arith

abbrev after : Call → Result Told Cause → List Event → List Event
after c a h = record { call = c; told = a } ∷ h

early_rule : (net : Net) {s : State} {v' : Visible} {c : Call} {a : Told} (h : List Event) → Invariant net s → More net s → Linked h s → EarlyIn h s → (x : Rule net s.vis v' c a) → EarlyIn (after c (Ok a) h) (next net s x)
early_rule net {s} h v g l x (begins t b _ e) = λ y E lt m. go y E lt m (cases_eq s.vis.begun y)
  where
    r : Record
    r = opened t (s.vis.clocks t)

    go : (y : ℕ) (E : Placement) → y < suc s.vis.begun → In E s.placed → (s.vis.begun ≡ y) ⊎ (s.vis.begun ≡ y → ⊥) → In E.tx (cond (eqb s.vis.begun y) (placed_in h) (placed_before_in h y)) → E.origin ≡ cond (eqb s.vis.begun y) t (origin_in h y) → Seen E (put s.vis.records s.vis.begun (opened t (s.vis.clocks t)) y).bound
    go y E lt m (inl q) i o =
        let o' : E.origin ≡ t = rw (eq-eqb s.vis.begun y q) at o in
        let u : E.number ≤ s.vis.clocks t t = subst (λ (w : ℕ). E.number ≤ s.vis.clocks w w) o' (omega (arith, v.clocks.own E.origin, number_le s.placed E v.order.numbered m)) in
        let u' : E.number ≤ s.vis.clocks t E.origin = subst (λ (w : ℕ). E.number ≤ s.vis.clocks t w) (sym o') u in
        rw (put_same s.vis.records s.vis.begun (opened t (s.vis.clocks t)) y q) u'
    go y E lt m (inr n) i o =
        rw (put_other s.vis.records s.vis.begun (opened t (s.vis.clocks t)) y n) (x y E (omega (arith, lt, n)) m (rw (ne_eqb s.vis.begun y n) at i) (rw (ne_eqb s.vis.begun y n) at o))
early_rule net {s} h v g l x (reads_own i k d o q e) = x
early_rule net {s} h v g l x (asks i k o _ n e) = early_put h s.vis.begun s.placed s.vis.records i (in_phase Waiting (s.vis.records i)) (same s.vis.records i) x
early_rule net {s} h v g l x (drafts i k w o _ _ e) = early_put h s.vis.begun s.placed s.vis.records i (drafting (redrafted k w (s.vis.records i).drafts) (s.vis.records i)) (same s.vis.records i) x
early_rule net {s} h v g l x (drops i o e) = early_put h s.vis.begun s.placed s.vis.records i (in_phase Dropped (s.vis.records i)) (same s.vis.records i) x
early_rule net {s} h v g l x (closes_empty i o n e) = early_put h s.vis.begun s.placed s.vis.records i (voting Granted 0 None (s.vis.records i)) (same s.vis.records i) x
early_rule net {s} h v g l x (closes i o n e) = early_put h s.vis.begun s.placed s.vis.records i (voting Closing (length (prepares net i (s.vis.records i) net.towers)) None (s.vis.records i)) (same s.vis.records i) x
early_rule net {s} h v g l x (replies p m k first r b e) = x
early_rule net {s} h v g l x (receives p m k shown a b e) = early_put h s.vis.begun s.placed s.vis.records m.tx (reading_at m.bound (s.vis.records m.tx)) (g.growing m k shown (in_at s.vis.air p m a) b) x
early_rule net {s} h v g l x (agrees p m lines r b n e) = x
early_rule net {s} h v g l x (objects p m lines k r b y e) = x
early_rule net {s} h v g l x (counts p m named r b q e) = early_put h s.vis.begun s.placed s.vis.records m.tx (voting Closing (pred (s.vis.records m.tx).awaited) (option_or (s.vis.records m.tx).named named) (s.vis.records m.tx)) (same s.vis.records m.tx) x
early_rule net {s} h v g l x (grants p m named r b one q e) =
    let o = (s.vis.records m.tx).origin in
    let w = granted_record s.vis m.tx in
    let y = early_put h s.vis.begun s.placed s.vis.records m.tx w (same s.vis.records m.tx) x in
    let T = placed_as m.tx w in
    let c = (v.votes.sound m (in_at s.vis.air p m r.there) (ap is_ballot b)).closing in
    let not_yet : (z : ℕ) (E : Placement) → E ≡ T → In E.tx (placed_before_in h z) → ⊥ = λ z E d i.
    let f = placed_at s.placed E.tx (subst (In E.tx) (sym l.placed) (before-placed h E.tx z i)) in
    placed-other s.placed s.vis.records f.0 m.tx v.granteds f.1 (differ Closing Granted refl c) (f.2 ∙ ap (λ (F : Placement). F.tx) d) in
    λ z E lt k i. elim k [ inl d ↦ absurd (not_yet z E d i) | inr k ↦ y z E lt k i ]
early_rule net {s} h v g l x (refuses p m named k r b one q e) = early_put h s.vis.begun s.placed s.vis.records m.tx (voting Refused 0 (Some k) (s.vis.records m.tx)) (same s.vis.records m.tx) x
early_rule net {s} h v g l x (takes_in p m n lines r b q e) = x
early_rule net {s} h v g l x (releases p m a b e) = x

early_step : (net : Net) {s : State} {v' : Visible} {c : Call} {a : Result Told Cause} (h : List Event) → Invariant net s → More net s → Linked h s → EarlyIn h s → (x : Step net s.vis v' c a) → EarlyIn (after c a h) (after-step net s x)
early_step net {s} h v g l x (fails f _ e) = x
early_step net h v g l x (obeys _ y) = early_rule net h v g l x y

pub run_early : (net : Net) {h : List Event} {s : State} → Logged net h s → (y : ℕ) (E : Placement) → y < s.vis.begun → In E s.placed → In E.tx (placed_before_in h y) → E.origin ≡ origin_in h y → Seen E (s.vis.records y).bound
run_early net start = λ y E l m. absurd m
run_early net (then {h = h} r x) = early_step net h (run_holds net r) (run_more net r) (run_linked net r) (run_early net r) x
