-- The invariant holds after every list of calls, and the facts follow. Assumes nothing.
use Rattle.std.proofs.Common.{◌≡◌, ℕ, true, false, ◌⊎◌, List, [], ◌∷◌, Some, refl, ap, ◌∙◌, subst, inl, inr, arith}
use Rattle.std.proofs.lemmas.Bool.{cases_eq, cases_Bool, leb-true, leb-false}
use Rattle.tables.specs.declared.Phase.TheVariants.{Closing, Refused, Dropped}
use Rattle.messages.specs.declared.Objection.{Objection}
use Rattle.laws.proofs.Conflicts.{unopposed, opposed, says_map}
use Rattle.laws.proofs.Origins.{Sound, OriginsOf, rule_origins}
use Rattle.laws.specs.Lists.{In}
use Rattle.laws.specs.Net.{Record, Placement, Net, Drafted, has_closed}
use Rattle.laws.proofs.Log.{Seen, seen}
use Rattle.laws.proofs.Model.{Logged, State, by_step, first, next, start, then}
use Rattle.laws.specs.Rules.{Rule, agrees, asks, begins, closes, closes_empty, counts, drafts, drops, grants, receives, releases, reads_own, objects, refuses, replies, takes_in}
use Rattle.laws.specs.State.{Visible}
use Rattle.laws.specs.Words.{redrafted, homed, granted_to, Event}
use Rattle.laws.proofs.Placed.{Ordered, number_le, taken_all}
use Rattle.laws.proofs.Invariant.{Intent, intent, intents, Justified, Invariant}
use Rattle.laws.proofs.Frames.{no_intent, differ, intent_shut}
use Rattle.tables.specs.declared.Call.{Call}
use Rattle.tables.specs.declared.Told.{Told}
use Rattle.laws.proofs.Facts.{Before, RefusedFor, Settled, FactsStand}
use Rattle.laws.proofs.Calls.{begins_keeps, asks_keeps, drafts_keeps, drops_keeps, closes_empty_keeps, closes_keeps}
use Rattle.laws.proofs.Reading.{replies_keeps, receives_keeps}
use Rattle.laws.proofs.Voting.{agrees_keeps, objects_keeps, counts_keeps, refuses_keeps, releases_keeps}
use Rattle.laws.proofs.Shown.{shown_right}
use Rattle.laws.proofs.Granting.{takes_in_keeps, grants_keeps}

rule_keeps : (net : Net) {s : State} {v' : Visible} {c : Call} {a : Told} → Invariant net s → (x : Rule net s.vis v' c a) → Invariant net (next net s x)
rule_keeps net {s} v (begins t l _ e) = begins_keeps net s t v
rule_keeps net {s} v (reads_own i k d o h e) = v
rule_keeps net {s} v (asks i k o _ n e) = asks_keeps net s i k v o
rule_keeps net {s} v (drafts i k w o _ _ e) = drafts_keeps net s i (redrafted k w (s.vis.records i).drafts) v o
rule_keeps net {s} v (drops i o e) = drops_keeps net s i v o
rule_keeps net {s} v (closes_empty i o n e) = closes_empty_keeps net s i v o
rule_keeps net {s} v (closes i o n e) = closes_keeps net s i v o
rule_keeps net {s} v (replies p m k first r b e) = replies_keeps net s p m k first v r b
rule_keeps net {s} v (receives p m k shown a b e) = receives_keeps net s p m k shown v a b
rule_keeps net {s} v (agrees p m lines r b n e) = agrees_keeps net s p m lines v r b (unopposed net s.vis m lines n)
rule_keeps net {s} v (objects p m lines k r b y e) = let o = opposed net s.vis m lines k y in objects_keeps net s p m lines k v r b o.0 o.1
rule_keeps net {s} v (counts p m named r b l e) = counts_keeps net s p m named v r b
rule_keeps net {s} v (grants p m named r b l q e) = grants_keeps net s p m named v r b l q
rule_keeps net {s} v (refuses p m named k r b l q e) = refuses_keeps net s p m named k v r b l q
rule_keeps net {s} v (takes_in p m n lines r b l e) = takes_in_keeps net s p m n lines v r b l
rule_keeps net {s} v (releases p m a b e) = releases_keeps net s p m v a b

pub new_holds : (net : Net) → Invariant net first
new_holds net = record {
  order = record { numbered = tt; ordered = tt };
  clocks = record { behind = λ t j. omega arith; own = λ j. refl; closed = λ t E h. absurd h };
  bounds = λ i. record { behind = λ j. omega arith; closed = λ E h. absurd h };
  books = λ k. refl;
  holders = record {
    meant = λ k i h. absurd h.1;
    sole = λ k i j h. absurd h.1;
    room = λ k i h. absurd h.1;
    ahead = λ k i E h. absurd h.1;
    until = λ k E h. absurd h;
    after = λ k E h. absurd h;
  };
  granteds = λ E h. absurd h;
  unbegun = λ i l. refl;
  votes = record {
    sound = λ m h. absurd h;
    awaited = λ i c. absurd (differ Dropped Closing refl refl c);
    pending = λ i k c. absurd (differ Dropped Closing refl refl c);
    over = λ m h. absurd h;
  };
  reads = record {
    waiting = λ m h. absurd h;
    single = λ i. omega arith;
    asked = λ m k f h. absurd h;
    fair = λ m k w h. absurd h;
    right = λ m k w h. absurd h;
    again = λ m k w h. absurd h;
    told = λ d h. absurd h;
    shown = λ d h. absurd h;
  };
  outcomes = record { coming = λ E t h. absurd h; meant = λ m n ls h. absurd h };
  refusals = record {
    voted = λ m k h. absurd h;
    named = λ i k c. absurd (cc c);
    refused = λ i c. absurd (differ Dropped Refused refl refl c);
  };
}

pub run_holds : (net : Net) {h : List Event} {s : State} → Logged net h s → Invariant net s
run_holds net start = new_holds net
run_holds net (then {s = s} r x) = by_step net (Invariant net) s (run_holds net r) (λ _. rule_keeps net (run_holds net r)) x

pub run_origins : (net : Net) {h : List Event} {s : State} → Logged net h s → OriginsOf s
run_origins net start = record { held = λ h q. absurd q; voted = λ m a q. absurd q; named = λ i a q. absurd (cc q) }
run_origins net (then {s = s} r x) = by_step net OriginsOf s (run_origins net r) (λ _. rule_origins net s (run_holds net r) (run_origins net r)) x

-- ## The facts

before-seen : (P : List Placement) (E T : Placement) (k : ℕ) → Ordered P → Before E T P → Drafted E.drafts k → Drafted T.drafts k → Seen E T.bound
before-seen [] E T k o b d w = absurd b
before-seen (X ∷ P) E T k o (inl b) d w = subst (λ (X : Placement). Drafted X.drafts k → Seen E X.bound) b.0 (o.0 E k b.1 d) w
before-seen (X ∷ P) E T k o (inr b) d w = before-seen P E T k o.1 b d w

-- every tower has seen whatever is placed
settled_seen : (net : Net) (s : State) → Invariant net s → Settled s → (k : ℕ) (E : Placement) → In E s.placed → Seen E (s.vis.clocks (net.home k))
settled_seen net s v st k E h = go (cases_eq (net.home k) E.origin) (cases_Bool (seen E (s.vis.clocks (net.home k))))
  where
    go : (net.home k ≡ E.origin) ⊎ (net.home k ≡ E.origin → ⊥) → (seen E (s.vis.clocks (net.home k)) ≡ true) ⊎ (seen E (s.vis.clocks (net.home k)) ≡ false) → Seen E (s.vis.clocks (net.home k))
    go q (inl b) = leb-true _ _ b
    go (inl q) (inr b) = rw q (omega (arith, v.clocks.own E.origin, number_le s.placed E v.order.numbered h))
    go (inr q) (inr b) = absurd (st (granted_to net E (net.home k)) E.number (homed net (net.home k) E.drafts)
        (v.outcomes.coming E (net.home k) h (net.housed k) q (λ u. omega (arith, u, leb-false _ _ b))) refl)

-- a draft of an intent is a draft of a shut record
pub intent_drafted : (r : Record) (k : ℕ) → Drafted (intent r).drafts k → (has_closed r.phase ≡ true) × Drafted r.drafts k
intent_drafted r k d = elim (cases_Bool (has_closed r.phase)) [
  | inl e ↦ (e, subst (λ (x : Intent). Drafted x.drafts k) (intent_shut r e) d)
  | inr e ↦ absurd (no_intent r k e d)
]

refused_for : (net : Net) (s : State) (i : ℕ) (k : Objection) → (s.vis.records i).phase ≡ Refused → (s.vis.records i).named ≡ Some k → Justified net (intents s.vis.records) s.placed s.vis.book i k → Sound s.vis.begun s.vis.records k → RefusedFor net s i k
refused_for net s i k c n g hs =
    let is = intent_shut (s.vis.records i) (ap has_closed c) in
    record {
      named = n;
      drafted = (intent_drafted (s.vis.records i) k.key g.drafted).1;
      cause = says_map (λ j x.
          let d = intent_drafted (s.vis.records j) k.key x.drafted in
          record { other = x.other; asked = d.0; drafted = d.1; outside = λ E h t u. x.outside E h t (rw is u) }) (λ o w n x. x) (λ x. x) k.conflict (λ o w _. tt) g.cause;
      holder = λ o w e. (hs o w e).1;
    }

pub facts_stand : FactsStand
facts_stand net h s r =
    let v = run_holds net r in
    record {
      as_recorded = v.granteds;
      numbered = v.order.numbered;
      books = λ st k. v.books k ∙ taken_all (s.vis.clocks (net.home k)) s.placed k (settled_seen net s v st k);
      seen = λ E T k. before-seen s.placed E T k v.order.ordered;
      shown = λ d l. rw (v.reads.shown d l) (shown_right s.placed (s.vis.records d.tx).bound d.key v.order.numbered);
      refused = λ i c. let n = v.refusals.refused i c in (n.0, refused_for net s i n.0 c n.1 (v.refusals.named i n.0 (ap has_closed c) n.1) ((run_origins net r).named i n.0 n.1));
    }
