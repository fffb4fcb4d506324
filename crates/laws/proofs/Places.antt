-- A record's number and place are what the history counts, and none for what is not placed. Assumes nothing.
use Rattle.std.proofs.Common.{◌≡◌, ℕ, suc, pred, cond, eqb, List, length, Some, None, sym, refl, ap, ◌∙◌, arith}
use Rattle.std.specs.Option.{option_or}
use Rattle.std.proofs.lemmas.List.{length-map}
use Rattle.std.proofs.lemmas.Bool.{eq-eqb, ne_eqb}
use Rattle.tables.specs.declared.Call.{Call}
use Rattle.tables.specs.declared.Told.{Told}
use Rattle.tables.specs.declared.Phase.TheVariants.{Waiting, Closing, Granted, Refused, Dropped}
use Rattle.laws.specs.Lists.{put}
use Rattle.laws.specs.Net.{Record, Placement, Net}
use Rattle.laws.specs.Words.{opened, in_phase, drafting, reading_at, voting, redrafted, prepares, Event}
use Rattle.laws.specs.State.{Visible, granted_record}
use Rattle.laws.specs.History.{place_of}
use Rattle.laws.specs.Rules.{Rule, begins, reads_own, asks, drafts, drops, closes_empty, closes, replies, receives, agrees, objects, counts, grants, refuses, takes_in, releases}
use Rattle.laws.proofs.Model.{State, next, by_step, Logged, start, then}
use Rattle.laws.proofs.Lists.{put_case, put_keeps}
use Rattle.laws.proofs.Invariant.{Invariant}
use Rattle.laws.proofs.Stand.{run_holds}
use Rattle.laws.proofs.Histories.{txs, Linked, run_linked}

pub record Places (s : State) : Type 0 where
  pub place : (i : ℕ) → place_of i (txs s.placed) ≡ (s.vis.records i).place
  pub number : (i : ℕ) → (s.vis.records i).place ≡ None → (s.vis.records i).number ≡ None

-- a record is changed in neither number nor place
kept : (s : State) (i : ℕ) (r : Record) → r.place ≡ (s.vis.records i).place → r.number ≡ (s.vis.records i).number → Places s →
    ((j : ℕ) → place_of j (txs s.placed) ≡ (put s.vis.records i r j).place) × ((j : ℕ) → (put s.vis.records i r j).place ≡ None → (put s.vis.records i r j).number ≡ None)
kept s i r p n g = (
  (λ j. g.place j ∙ sym (put_keeps (λ x. x.place) s.vis.records i r p j)),
  (λ j e. put_keeps (λ x. x.number) s.vis.records i r n j ∙ g.number j (sym (put_keeps (λ x. x.place) s.vis.records i r p j) ∙ e)),
)

rule_places : (net : Net) {s : State} {h : List Event} {v' : Visible} {c : Call} {a : Told} → Invariant net s → Linked h s → Places s → (x : Rule net s.vis v' c a) → Places (next net s x)
rule_places net {s} v l g (begins t _ _ e) =
    let b = v.unbegun s.vis.begun (omega arith) in
    let k = kept s s.vis.begun (opened t (s.vis.clocks t)) (sym (ap (λ (x : Record). x.place) b)) (sym (ap (λ (x : Record). x.number) b)) g in
    record { place = k.0; number = k.1 }
rule_places net {s} v l g (reads_own i k d o q e) = record { place = g.place; number = g.number }
rule_places net {s} v l g (asks i k o _ n e) = let k = kept s i (in_phase Waiting (s.vis.records i)) refl refl g in record { place = k.0; number = k.1 }
rule_places net {s} v l g (drafts i k x o _ _ e) = let k = kept s i (drafting (redrafted k x (s.vis.records i).drafts) (s.vis.records i)) refl refl g in record { place = k.0; number = k.1 }
rule_places net {s} v l g (drops i o e) = let k = kept s i (in_phase Dropped (s.vis.records i)) refl refl g in record { place = k.0; number = k.1 }
rule_places net {s} v l g (closes_empty i o n e) = let k = kept s i (voting Granted 0 None (s.vis.records i)) refl refl g in record { place = k.0; number = k.1 }
rule_places net {s} v l g (closes i o n e) = let k = kept s i (voting Closing (length (prepares net i (s.vis.records i) net.towers)) None (s.vis.records i)) refl refl g in record { place = k.0; number = k.1 }
rule_places net {s} v l g (replies p m k first r b e) = record { place = g.place; number = g.number }
rule_places net {s} v l g (receives p m k shown x b e) = let k = kept s m.tx (reading_at m.bound (s.vis.records m.tx)) refl refl g in record { place = k.0; number = k.1 }
rule_places net {s} v l g (agrees p m lines r b n e) = record { place = g.place; number = g.number }
rule_places net {s} v l g (objects p m lines x r b n e) = record { place = g.place; number = g.number }
rule_places net {s} v l g (counts p m named r b q e) = let k = kept s m.tx (voting Closing (pred (s.vis.records m.tx).awaited) (option_or (s.vis.records m.tx).named named) (s.vis.records m.tx)) refl refl g in record { place = k.0; number = k.1 }
rule_places net {s} v l g (grants p m named r b one q e) =
    let i = m.tx in
    let w = granted_record s.vis i in
    record {
      place = put_case (λ j x. cond (eqb i j) (Some (suc (length (txs s.placed)))) (place_of j (txs s.placed)) ≡ x.place) s.vis.records i w
          (rw (eq-eqb i i refl) (ap (λ (n : ℕ). Some (suc n)) (length-map s.placed (λ (T : Placement). T.tx) ∙ sym l.last)))
          (λ j n. rw (ne_eqb i j n) (g.place j));
      number = put_case (λ j x. x.place ≡ None → x.number ≡ None) s.vis.records i w (λ z. absurd (cc z)) (λ j _. g.number j);
    }
rule_places net {s} v l g (refuses p m named x r b one q e) = let k = kept s m.tx (voting Refused 0 (Some x) (s.vis.records m.tx)) refl refl g in record { place = k.0; number = k.1 }
rule_places net {s} v l g (takes_in p m n lines r b q e) = record { place = g.place; number = g.number }
rule_places net {s} v l g (releases p m x b e) = record { place = g.place; number = g.number }

pub run-places : (net : Net) {h : List Event} {s : State} → Logged net h s → Places s
run-places net start = record { place = λ i. refl; number = λ i _. refl }
run-places net (then {s = s} r x) = by_step net Places s (run-places net r) (λ _. rule_places net (run_holds net r) (run_linked net r) (run-places net r)) x
