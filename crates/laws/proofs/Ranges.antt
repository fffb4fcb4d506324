-- Every tower that a record or a message names is a tower of the net, and every message is of a transaction that has begun.
-- A second invariant, beside the first. Assumes nothing.
use Rattle.std.proofs.Common.{◌≡◌, ℕ, ◌<◌, ◌≤◌, ◌≢◌, List, [], ◌∷◌, ◌++◌, length, None, sym, refl, ap, ◌∙◌, subst, inl, inr, arith}
use Rattle.std.proofs.lemmas.Bool.{cases_lt}
use Rattle.tables.specs.declared.Call.{Call}
use Rattle.tables.specs.declared.Told.{Told}
use Rattle.tables.specs.declared.Phase.TheVariants.{Waiting, Closing, Granted, Refused, Dropped}
use Rattle.laws.specs.Lists.{put, In, without}
use Rattle.laws.specs.Net.{Record, Body, query, answer, prepare, vote, granted, refused, Message, Placement, Net}
use Rattle.laws.proofs.Model.{Logged, State, by_step, next, start, then}
use Rattle.laws.specs.Rules.{Rule, agrees, asks, begins, closes, closes_empty, counts, drafts, drops, grants, receives, releases, reads_own, objects, refuses, replies, takes_in}
use Rattle.laws.specs.State.{Visible}
use Rattle.laws.specs.Words.{in_phase, drafting, reading_at, voting, redrafted, prepares, grants_to, refusals_to, Event}
use Rattle.laws.proofs.Lists.{put_all, in_at, each_append, each_without}
use Rattle.laws.proofs.Sent.{in_grants, in_prepares, in_refusals}
use Rattle.laws.proofs.Frames.{only, differ}
use Rattle.laws.proofs.Invariant.{Invariant, is_read, is_ballot}

abbrev Origins : Net → (ℕ → Record) → Type 0
Origins net rs = (i : ℕ) → (rs i).origin < net.towers

abbrev Posted : Net → Message → Type 0
Posted net m = (m.to < net.towers) × (m.from < net.towers)

abbrev Mail : Net → List Message → Type 0
Mail net air = (m : Message) → In m air → Posted net m

pub record Ranges (net : Net) (s : State) : Type 0 where
  pub origins : Origins net s.vis.records
  pub mail : Mail net s.vis.air

-- ## The parts

origins_put : (net : Net) (rs : ℕ → Record) (i : ℕ) (r : Record) → Origins net rs → r.origin < net.towers → Origins net (put rs i r)
origins_put net rs i r g l = put_all (λ x. x.origin < net.towers) rs i r l g

mail_prepares : (net : Net) (i : ℕ) (r : Record) (n : ℕ) → r.origin < net.towers → n ≤ net.towers → Mail net (prepares net i r n)
mail_prepares net i r n o l x h = let p = in_prepares net i r n x h in subst (Posted net) (sym p.3) (omega (arith, p.1, l), o)

mail_grants : (net : Net) (T : Placement) (n : ℕ) → T.origin < net.towers → n ≤ net.towers → Mail net (grants_to net T n)
mail_grants net T n o l x h = let p = in_grants net T n x h in subst (Posted net) (sym p.3) (omega (arith, p.1, l), o)

mail_refusals : (net : Net) (i : ℕ) (r : Record) (n : ℕ) → r.origin < net.towers → n ≤ net.towers → Mail net (refusals_to net i r n)
mail_refusals net i r n o l x h = let p = in_refusals net i r n x h in subst (Posted net) (sym p.2) (omega (arith, p.1, l), o)

-- ## The steps

-- a message that lands is answered by one that goes back
answered_by : (net : Net) (s : State) (p : ℕ) (m q : Message) → Ranges net s → In m s.vis.air → q.to ≡ m.from → q.from ≡ m.to → Mail net (without s.vis.air p ++ q ∷ [])
answered_by net s p m q g h t f =
    each_append (Posted net) (without s.vis.air p) (q ∷ []) (each_without (Posted net) s.vis.air p g.mail) (only (Posted net) q (rw t (g.mail m h).1, rw f (g.mail m h).0))

rule_ranges : (net : Net) {s : State} {v' : Visible} {c : Call} {a : Told} → Ranges net s → (x : Rule net s.vis v' c a) → Ranges net (next net s x)
rule_ranges net {s} g (begins t l _ e) = record { origins = origins_put net s.vis.records s.vis.begun _ g.origins l; mail = g.mail }
rule_ranges net {s} g (reads_own i k d o h e) = g
rule_ranges net {s} g (asks i k o _ n e) = record {
  origins = origins_put net s.vis.records i (in_phase Waiting (s.vis.records i)) g.origins (g.origins i);
  mail = each_append (Posted net) s.vis.air _ g.mail (only (Posted net) _ (net.housed k, g.origins i));
}
rule_ranges net {s} g (drafts i k w o _ _ e) = record { origins = origins_put net s.vis.records i (drafting (redrafted k w (s.vis.records i).drafts) (s.vis.records i)) g.origins (g.origins i); mail = g.mail }
rule_ranges net {s} g (drops i o e) = record { origins = origins_put net s.vis.records i (in_phase Dropped (s.vis.records i)) g.origins (g.origins i); mail = g.mail }
rule_ranges net {s} g (closes_empty i o n e) = record { origins = origins_put net s.vis.records i (voting Granted 0 None (s.vis.records i)) g.origins (g.origins i); mail = g.mail }
rule_ranges net {s} g (closes i o n e) = record {
  origins = origins_put net s.vis.records i (voting Closing (length (prepares net i (s.vis.records i) net.towers)) None (s.vis.records i)) g.origins (g.origins i);
  mail = each_append (Posted net) s.vis.air _ g.mail (mail_prepares net i (s.vis.records i) net.towers (g.origins i) (omega arith));
}
rule_ranges net {s} g (replies p m k first r b e) = record { origins = g.origins; mail = answered_by net s p m _ g (in_at s.vis.air p m r.there) refl refl }
rule_ranges net {s} g (receives p m k shown a b e) = record {
  origins = origins_put net s.vis.records m.tx (reading_at m.bound (s.vis.records m.tx)) g.origins (g.origins m.tx);
  mail = each_without (Posted net) s.vis.air p g.mail;
}
rule_ranges net {s} g (agrees p m lines r b n e) = record { origins = g.origins; mail = answered_by net s p m _ g (in_at s.vis.air p m r.there) refl refl }
rule_ranges net {s} g (objects p m lines k r b y e) = record { origins = g.origins; mail = answered_by net s p m _ g (in_at s.vis.air p m r.there) refl refl }
rule_ranges net {s} g (counts p m named r b l e) = record {
  origins = origins_put net s.vis.records m.tx _ g.origins (g.origins m.tx);
  mail = each_without (Posted net) s.vis.air p g.mail;
}
rule_ranges net {s} g (grants p m named r b l q e) = record {
  origins = origins_put net s.vis.records m.tx _ g.origins (g.origins m.tx);
  mail = each_append (Posted net) (without s.vis.air p) _ (each_without (Posted net) s.vis.air p g.mail) (mail_grants net _ net.towers (g.origins m.tx) (omega arith));
}
rule_ranges net {s} g (refuses p m named k r b l q e) = record {
  origins = origins_put net s.vis.records m.tx _ g.origins (g.origins m.tx);
  mail = each_append (Posted net) (without s.vis.air p) _ (each_without (Posted net) s.vis.air p g.mail) (mail_refusals net m.tx (s.vis.records m.tx) net.towers (g.origins m.tx) (omega arith));
}
rule_ranges net {s} g (takes_in p m n lines r b l e) = record { origins = g.origins; mail = each_without (Posted net) s.vis.air p g.mail }
rule_ranges net {s} g (releases p m a b e) = record { origins = g.origins; mail = each_without (Posted net) s.vis.air p g.mail }

pub run_ranges : (net : Net) {h : List Event} {s : State} → Logged net h s → Ranges net s
run_ranges net start = record { origins = λ i. omega (arith, net.housed 0); mail = λ m h. absurd h }
run_ranges net (then {s = s} r x) = by_step net (Ranges net) s (run_ranges net r) (λ _. rule_ranges net (run_ranges net r)) x

-- ## The transactions of messages

pub begun-phase : (net : Net) (s : State) (i : ℕ) → Invariant net s → (s.vis.records i).phase ≢ Dropped → i < s.vis.begun
begun-phase net s i v n = elim (cases_lt i s.vis.begun) [ inl l ↦ l | inr l ↦ absurd (n (ap (λ (x : Record). x.phase) (v.unbegun i l))) ]

pub message-begun : (net : Net) (s : State) (m : Message) → Invariant net s → In m s.vis.air → m.tx < s.vis.begun
message-begun net s m v h = begun-phase net s m.tx v (go m.body refl)
  where
    go : (b : Body) → m.body ≡ b → (s.vis.records m.tx).phase ≢ Dropped
    go (query k f) e = differ Waiting Dropped refl (v.reads.waiting m h (ap is_read e))
    go (answer k w) e = differ Waiting Dropped refl (v.reads.waiting m h (ap is_read e))
    go (prepare ls) e = differ Closing Dropped refl (v.votes.sound m h (ap is_ballot e)).closing
    go (vote n) e = differ Closing Dropped refl (v.votes.sound m h (ap is_ballot e)).closing
    go (granted n ls) e =
        let x = v.outcomes.meant m n ls h e in
        let t : m.tx ≡ x.0.tx = ap (λ (y : Message). y.tx) x.2 in
        differ Granted Dropped refl (ap (λ (n : ℕ). (s.vis.records n).phase) t ∙ (v.granteds x.0 x.1).0)
    go refused e = differ Refused Dropped refl (v.votes.over m h e)
