-- What a history tells of a transaction is what its record says. Assumes nothing.
use Rattle.std.proofs.Common.{◌≡◌, ℕ, suc, cond, eqb, List, [], ◌∷◌, ◌++◌, map, length, Some, None, Ok, Result, sym, refl, ap, ◌∙◌, arith}
use Rattle.std.specs.Option.{option_or}
use Rattle.std.proofs.lemmas.List.{length-map}
use Rattle.std.proofs.lemmas.Bool.{eq-eqb, ne_eqb}
use Rattle.tables.specs.declared.Call.{Call}
use Rattle.faults.specs.declared.Cause.{Cause}
use Rattle.tables.specs.declared.Told.{Told}
use Rattle.tables.specs.declared.Phase.TheVariants.{Waiting, Closing, Granted, Refused, Dropped}
use Rattle.clocks.specs.declared.Content.{Content}
use Rattle.tables.specs.declared.Reading.{Reading}
use Rattle.laws.specs.Lists.{put}
use Rattle.laws.specs.Net.{Record, Placement, Net, content_of, writer_of}
use Rattle.laws.proofs.Model.{Answered, Logged, State, after-step, next, start, then}
use Rattle.laws.specs.Rules.{Rule, Step, agrees, asks, begins, closes, closes_empty, counts, drafts, drops, fails, grants, receives, releases, reads_own, obeys, objects, refuses, replies, takes_in}
use Rattle.laws.specs.State.{granted_record, Visible}
use Rattle.laws.specs.Words.{opened, in_phase, drafting, reading_at, voting, redrafted, prepares, Event}
use Rattle.laws.specs.History.{placed_in, Counted, origin_in, begun_in, drafts_in, Received, reads_in}
use Rattle.laws.proofs.Lists.{put_keeps, put_case}
use Rattle.laws.proofs.Invariant.{Invariant}
use Rattle.laws.proofs.Stand.{run_holds}

abbrev pub txs : List Placement → List ℕ
txs P = map (λ (T : Placement). T.tx) P

abbrev pub received_of : List Answered → List Received
received_of [] = []
received_of (d ∷ ds) = received_of ds ++ record { tx = d.tx; key = d.key; content = content_of d.shown } ∷ []

-- the entries of the reading list
abbrev pub noted : List Answered → List Reading
noted [] = []
noted (d ∷ ds) = noted ds ++ record { tx = d.tx; key = d.key; writer = writer_of d.shown } ∷ []

abbrev Origins : List Event → (ℕ → Record) → Type 0
Origins h rs = (i : ℕ) → (rs i).origin ≡ origin_in h i

abbrev Drafts : List Event → (ℕ → Record) → Type 0
Drafts h rs = (i : ℕ) → (rs i).drafts ≡ drafts_in h i

pub record Linked (h : List Event) (s : State) : Type 0 where
  pub begun : s.vis.begun ≡ begun_in h
  pub origins : Origins h s.vis.records
  pub drafts : Drafts h s.vis.records
  pub placed : txs s.placed ≡ placed_in h
  pub reads : received_of s.readings ≡ reads_in h
  pub last : s.vis.last ≡ length s.placed
  pub entries : noted s.readings ≡ s.vis.readings
  pub counted : Counted h

origins_put : (h : List Event) (rs : ℕ → Record) (i : ℕ) (r : Record) → r.origin ≡ (rs i).origin → Origins h rs → Origins h (put rs i r)
origins_put h rs i r e g j = put_keeps (λ x. x.origin) rs i r e j ∙ g j

drafts-put : (h : List Event) (rs : ℕ → Record) (i : ℕ) (r : Record) → r.drafts ≡ (rs i).drafts → Drafts h rs → Drafts h (put rs i r)
drafts-put h rs i r e g j = put_keeps (λ x. x.drafts) rs i r e j ∙ g j

-- the parts that a step keeps, where a record is changed in neither its origin nor its drafts
module _ (h : List Event) (s : State) (i : ℕ) (r : Record) (l : Linked h s) where
  o_put : r.origin ≡ (s.vis.records i).origin → Origins h (put s.vis.records i r)
  o_put e = origins_put h s.vis.records i r e l.origins

  d_put : r.drafts ≡ (s.vis.records i).drafts → Drafts h (put s.vis.records i r)
  d_put e = drafts-put h s.vis.records i r e l.drafts

module _ (h : List Event) where
  -- a draft of i
  redrafts : (rs : ℕ → Record) (i k : ℕ) (w : Content) (r : Record) → r.drafts ≡ redrafted k w (rs i).drafts → Drafts h rs → (j : ℕ) → (put rs i r j).drafts ≡ cond (eqb i j) (redrafted k w (drafts_in h j)) (drafts_in h j)
  redrafts rs i k w r e g = put_case (λ j x. x.drafts ≡ cond (eqb i j) (redrafted k w (drafts_in h j)) (drafts_in h j)) rs i r
      (rw (eq-eqb i i refl) (e ∙ ap (redrafted k w) (g i)))
      (λ j n. rw (ne_eqb i j n) (g j))

  -- a begin of i
  starts : (rs : ℕ → Record) (i t : ℕ) (r : Record) → r.origin ≡ t → Origins h rs → (j : ℕ) → (put rs i r j).origin ≡ cond (eqb i j) t (origin_in h j)
  starts rs i t r e g = put_case (λ j x. x.origin ≡ cond (eqb i j) t (origin_in h j)) rs i r
      (rw (eq-eqb i i refl) e)
      (λ j n. rw (ne_eqb i j n) (g j))

abbrev after : Call → Result Told Cause → List Event → List Event
after c a h = record { call = c; told = a } ∷ h

linked_rule : (net : Net) {s : State} {v' : Visible} {c : Call} {a : Told} (h : List Event) → Invariant net s → Linked h s → (x : Rule net s.vis v' c a) → Linked (after c (Ok a) h) (next net s x)
linked_rule net {s} h v l (begins t b _ e) = record {
  begun = ap suc l.begun;
  origins = starts h s.vis.records s.vis.begun t (opened t (s.vis.clocks t)) refl l.origins;
  drafts = d_put h s s.vis.begun (opened t (s.vis.clocks t)) l (sym (ap (λ (x : Record). x.drafts) (v.unbegun s.vis.begun (omega arith))));
  placed = l.placed;
  reads = l.reads;
  last = l.last;
  entries = l.entries;
  counted = (l.begun, l.counted);
}
linked_rule net {s} h v l (reads_own i k d o g e) = record { begun = l.begun; origins = l.origins; drafts = l.drafts; placed = l.placed; reads = l.reads; last = l.last; entries = l.entries; counted = (tt, l.counted) }
linked_rule net {s} h v l (asks i k o _ n e) = record { begun = l.begun; origins = o_put h s i (in_phase Waiting (s.vis.records i)) l refl; drafts = d_put h s i (in_phase Waiting (s.vis.records i)) l refl; placed = l.placed; reads = l.reads; last = l.last; entries = l.entries; counted = (tt, l.counted) }
linked_rule net {s} h v l (drafts i k w o _ _ e) = record {
  begun = l.begun;
  origins = o_put h s i (drafting (redrafted k w (s.vis.records i).drafts) (s.vis.records i)) l refl;
  drafts = redrafts h s.vis.records i k w (drafting (redrafted k w (s.vis.records i).drafts) (s.vis.records i)) refl l.drafts;
  placed = l.placed;
  reads = l.reads;
  last = l.last;
  entries = l.entries;
  counted = (tt, l.counted);
}
linked_rule net {s} h v l (drops i o e) = record { begun = l.begun; origins = o_put h s i (in_phase Dropped (s.vis.records i)) l refl; drafts = d_put h s i (in_phase Dropped (s.vis.records i)) l refl; placed = l.placed; reads = l.reads; last = l.last; entries = l.entries; counted = (tt, l.counted) }
linked_rule net {s} h v l (closes_empty i o n e) = record { begun = l.begun; origins = o_put h s i (voting Granted 0 None (s.vis.records i)) l refl; drafts = d_put h s i (voting Granted 0 None (s.vis.records i)) l refl; placed = l.placed; reads = l.reads; last = l.last; entries = l.entries; counted = (tt, l.counted) }
linked_rule net {s} h v l (closes i o n e) =
    let r = voting Closing (length (prepares net i (s.vis.records i) net.towers)) None (s.vis.records i) in
    record { begun = l.begun; origins = o_put h s i r l refl; drafts = d_put h s i r l refl; placed = l.placed; reads = l.reads; last = l.last; entries = l.entries; counted = (tt, l.counted) }
linked_rule net {s} h v l (replies p m k first r b e) = record { begun = l.begun; origins = l.origins; drafts = l.drafts; placed = l.placed; reads = l.reads; last = l.last; entries = l.entries; counted = (tt, l.counted) }
linked_rule net {s} h v l (receives p m k shown a b e) =
    let r = reading_at m.bound (s.vis.records m.tx) in
    record {
      begun = l.begun;
      origins = o_put h s m.tx r l refl;
      drafts = d_put h s m.tx r l refl;
      placed = l.placed;
      reads = ap (λ (x : List Received). x ++ record { tx = m.tx; key = k; content = content_of shown } ∷ []) l.reads;
      last = l.last;
      entries = ap (λ (x : List Reading). x ++ record { tx = m.tx; key = k; writer = writer_of shown } ∷ []) l.entries;
      counted = (tt, l.counted);
    }
linked_rule net {s} h v l (agrees p m lines r b n e) = record { begun = l.begun; origins = l.origins; drafts = l.drafts; placed = l.placed; reads = l.reads; last = l.last; entries = l.entries; counted = (tt, l.counted) }
linked_rule net {s} h v l (objects p m lines k r b y e) = record { begun = l.begun; origins = l.origins; drafts = l.drafts; placed = l.placed; reads = l.reads; last = l.last; entries = l.entries; counted = (tt, l.counted) }
linked_rule net {s} h v l (counts p m named r b q e) =
    let r = voting Closing _ (option_or (s.vis.records m.tx).named named) (s.vis.records m.tx) in
    record { begun = l.begun; origins = o_put h s m.tx r l refl; drafts = d_put h s m.tx r l refl; placed = l.placed; reads = l.reads; last = l.last; entries = l.entries; counted = (tt, l.counted) }
linked_rule net {s} h v l (grants p m named r b one q e) =
    let o = (s.vis.records m.tx).origin in
    let r = granted_record s.vis m.tx in
    record {
      begun = l.begun;
      origins = o_put h s m.tx r l refl;
      drafts = d_put h s m.tx r l refl;
      placed = ap (λ (x : List ℕ). m.tx ∷ x) l.placed;
      reads = l.reads;
      last = ap suc l.last;
      entries = l.entries;
      counted = (ap suc (l.last ∙ sym (length-map s.placed (λ (T : Placement). T.tx)) ∙ ap length l.placed), l.counted);
    }
linked_rule net {s} h v l (refuses p m named k r b one q e) =
    let r = voting Refused 0 (Some k) (s.vis.records m.tx) in
    record { begun = l.begun; origins = o_put h s m.tx r l refl; drafts = d_put h s m.tx r l refl; placed = l.placed; reads = l.reads; last = l.last; entries = l.entries; counted = (tt, l.counted) }
linked_rule net {s} h v l (takes_in p m n lines r b q e) = record { begun = l.begun; origins = l.origins; drafts = l.drafts; placed = l.placed; reads = l.reads; last = l.last; entries = l.entries; counted = (tt, l.counted) }
linked_rule net {s} h v l (releases p m a b e) = record { begun = l.begun; origins = l.origins; drafts = l.drafts; placed = l.placed; reads = l.reads; last = l.last; entries = l.entries; counted = (tt, l.counted) }

linked_step : (net : Net) {s : State} {v' : Visible} {c : Call} {a : Result Told Cause} (h : List Event) → Invariant net s → Linked h s → (x : Step net s.vis v' c a) → Linked (after c a h) (after-step net s x)
linked_step net {s} h v l (fails f _ e) = record { begun = l.begun; origins = l.origins; drafts = l.drafts; placed = l.placed; reads = l.reads; last = l.last; entries = l.entries; counted = (tt, l.counted) }
linked_step net h v l (obeys _ x) = linked_rule net h v l x

pub run_linked : (net : Net) {h : List Event} {s : State} → Logged net h s → Linked h s
run_linked net start = record { begun = refl; origins = λ i. refl; drafts = λ i. refl; placed = refl; reads = refl; last = refl; entries = refl; counted = tt }
run_linked net (then {h = h} r x) = linked_step net h (run_holds net r) (run_linked net r) x
