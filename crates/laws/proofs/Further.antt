-- The further laws. Assumes nothing.
use Rattle.std.proofs.Common.{◌≡◌, ℕ, ◌+◌, ◌<◌, ◌≤◌, Bool, true, false, cond, ◌&&◌, eqb, ◌≢◌, ◌⊎◌, List, [], ◌∷◌, length, sym, refl, ap, ◌∙◌, subst, inl, inr, arith}
use Rattle.std.proofs.lemmas.Bool.{eqb-true, cases_eq, cases_Bool, leb-true, and_parts}
use Rattle.clocks.specs.declared.Version.{Version}
use Rattle.messages.specs.declared.Draft.{Draft}
use Rattle.tables.specs.declared.Phase.{Phase}
use Rattle.tables.specs.declared.Phase.TheVariants.{Open, Waiting, Closing, Granted, Refused, Dropped}
use Rattle.laws.specs.Lists.{In, tally}
use Rattle.laws.specs.Net.{Clock, Record, Body, query, answer, prepare, vote, granted, refused, Message, Placement, Net, ◌⊑◌, Drafted, has_closed, ballots, is_ballot}
use Rattle.laws.proofs.Log.{wrote, versions, taken, Seen, seen}
use Rattle.laws.proofs.Model.{Logged, State, log_of}
use Rattle.laws.specs.Words.{homed, granted_to, Event}
use Rattle.laws.specs.History.{placed_in, begun_in, placed_before_in, origin_in, drafts_in, Within, Outside}
use Rattle.laws.specs.State.{Visible}
use Rattle.laws.specs.Further.{Always, CausallyClosed, OutcomePending, Accounted, VersionsWithinClock, ClosingAwaits, FindsRoom, OwnTowerSeen, phase_for, MessagesAtHome, BothGranted}
use Rattle.laws.proofs.Lists.{in_append}
use Rattle.laws.proofs.Placed.{number_le, written_none}
use Rattle.laws.proofs.Invariant.{Holds, Invariant, is_read}
use Rattle.laws.proofs.Frames.{differ}
use Rattle.laws.proofs.Calls.{homed-drafted}
use Rattle.laws.proofs.Conflicts.{option_or_parts}
use Rattle.laws.proofs.Granting.{grants_holds}
use Rattle.laws.proofs.Shown.{in_written}
use Rattle.laws.proofs.Stand.{run_holds, facts_stand}
use Rattle.laws.proofs.Ranges.{run_ranges, message-begun}
use Rattle.laws.proofs.Histories.{txs, Linked, run_linked}
use Rattle.laws.proofs.Lawful.{count_told, placed_at, in_txs, told_of, bound_of, one, versions_are, within_of, of_within, origin_is, outside_of, lawful}
use Rattle.laws.proofs.More.{More, run_more, filter_fewer}
use Rattle.laws.proofs.Early.{before-placed, before-begun, run_early}

-- what holds of the model's runs holds of the visible ones
pub always : (Q : Net → List Event → Visible → Type 0) → ((net : Net) (h : List Event) (s : State) → Logged net h s → Q net h s.vis) → Always Q
always Q f net h v r = let x = log_of net r in subst (Q net h) x.2 (f net h x.0 x.1)

-- ## Closure

closed_run : (net : Net) (h : List Event) (s : State) → Logged net h s → CausallyClosed net h s.vis
closed_run net h s r =
    let v = run_holds net r in
    let l = run_linked net r in
    let go : (x : ℕ) (b : Clock) → ((E : Placement) → In E s.placed → Seen E b → E.bound ⊑ b) → Within h x b → (s.vis.records x).bound ⊑ b = λ x b c w.
    let y = of_within net h s v l x b w in
    subst (λ (d : Clock). d ⊑ b) (bound_of net h s v l y.0 y.1 ∙ ap (λ (i : ℕ). (s.vis.records i).bound) y.2) (c y.0 y.1 y.3) in
    record {
      clocks = λ x t. go x (s.vis.clocks t) (v.clocks.closed t);
      bounds = λ x y. go x (s.vis.records y).bound (v.bounds y).closed;
    }

pub causally_closed : Always CausallyClosed
causally_closed = always CausallyClosed closed_run

-- ## Accounts

module _ (net : Net) (h : List Event) (s : State) (v : Invariant net s) (l : Linked h s) (g : More net s) where
  own-seen : (E : Placement) → In E s.placed → Seen E (s.vis.clocks E.origin)
  own-seen E q = omega (arith, v.clocks.own E.origin, number_le s.placed E v.order.numbered q)

  placed_in_lem : (x : ℕ) → In x (placed_in h) → (E : Placement) × In E s.placed × (E.tx ≡ x)
  placed_in_lem x q = placed_at s.placed x (subst (In x) (sym l.placed) q)

  not_seen : (E : Placement) (x : ℕ) (b : Clock) → In E s.placed → E.tx ≡ x → Outside h x b → Seen E b → ⊥
  not_seen E x b q e o u = let w = subst (λ (i : ℕ). Within h i b) e (within_of net h s v l E q b u) in omega (arith, o w.0 w.1, w.2)

  pending_is : (x t : ℕ) → OutcomePending s.vis x t → In x (placed_in h) × (t ≢ origin_in h x) × Outside h x (s.vis.clocks t)
  pending_is x t (m, n, ls, q, ex, et, b) =
      let y = v.outcomes.meant m n ls q b in
      let E = y.0 in
      let here : In (granted_to net E t) s.vis.air = subst (λ (u : ℕ). In (granted_to net E u) s.vis.air) et (subst (λ (z : Message). In z s.vis.air) y.2 q) in
      let tx : E.tx ≡ x = sym (ap (λ (z : Message). z.tx) y.2) ∙ ex in
      let un : Seen E (s.vis.clocks t) → ⊥ = g.owed.unseen E t y.1 here in (
        subst (In x) l.placed (subst (λ (i : ℕ). In i (txs s.placed)) tx (in_txs s.placed E y.1)),
        (λ e. un (subst (λ (u : ℕ). Seen E (s.vis.clocks u)) (origin_is net h s v l E x y.1 tx ∙ sym e) (own-seen E y.1))),
        outside_of net h s v l x (s.vis.clocks t) (λ F k e u. un (subst (λ (X : Placement). Seen X (s.vis.clocks t)) (one net h s v l F E k y.1 (e ∙ sym tx)) u)),
      )

  accounts : Accounted net h s.vis
  accounts = record {
    own = λ x q.
        let y = placed_in_lem x q in
        let e = origin_is net h s v l y.0 x y.1 y.2 in
        subst (λ (i : ℕ). Within h i (s.vis.clocks (origin_in h x))) y.2 (within_of net h s v l y.0 y.1 (s.vis.clocks (origin_in h x)) (subst (λ (o : ℕ). Seen y.0 (s.vis.clocks o)) e (own-seen y.0 y.1)));
    lacking = λ x t q lt d o.
        let y = placed_in_lem x q in
        let E = y.0 in
        let c = v.outcomes.coming E t y.1 lt (λ e. d (e ∙ origin_is net h s v l E x y.1 y.2)) (not_seen E x (s.vis.clocks t) y.1 y.2 o) in
        (granted_to net E t, E.number, homed net t E.drafts, c, y.2, refl, refl);
    pending = pending_is;
    balance = λ t o lt. g.owed.balance t o lt ∙ count_told h s.placed o (told_of net h s v l) ∙ ap (λ (is : List ℕ). tally (λ i. eqb (origin_in h i) o) is) l.placed;
  }

pub clocks_accounted : Always Accounted
clocks_accounted = always Accounted (λ net h s r. accounts net h s (run_holds net r) (run_linked net r) (run_more net r))

-- ## Versions

taken_within : (c : Clock) (P : List Placement) (k : ℕ) (x : Version) → In x (taken c P k) → x.number ≤ c x.origin
taken_within c [] k x h = absurd h
taken_within c (T ∷ P) k x h = elim (in_append x (taken c P k) _ h) [ inl h ↦ taken_within c P k x h | inr h ↦ go (cases_Bool (seen T c)) h ]
  where
    go : (seen T c ≡ true) ⊎ (seen T c ≡ false) → In x (cond (seen T c) (wrote T k) []) → x.number ≤ c x.origin
    go (inr e) h = absurd (rw e at h)
    go (inl e) h =
        let w = in_written T.tx T.origin T.number T.drafts k x (rw e at h) in
        rw (w.1, w.0) (leb-true _ _ e)

pub versions_within_clock : Always VersionsWithinClock
versions_within_clock = always VersionsWithinClock (λ net h s r k x q. taken_within (s.vis.clocks (net.home k)) s.placed k x (subst (In x) ((run_holds net r).books k) q))

-- ## Votes

tally-some : {A : Type 0} (q : A → Bool) (xs : List A) → 0 < tally q xs → (x : A) × In x xs × (q x ≡ true)
tally-some q [] l = absurd (omega arith)
tally-some q (x ∷ xs) l = go (tally-some q xs) (cases_Bool (q x)) l
  where
    go : (0 < tally q xs → (x : _) × In x xs × (q x ≡ true)) → (q x ≡ true) ⊎ (q x ≡ false) → 0 < cond (q x) 1 0 + tally q xs → (y : _) × In y (x ∷ xs) × (q y ≡ true)
    go ih (inl e) l = (x, inl refl, e)
    go ih (inr e) l =
        let l' : 0 < 0 + tally q xs = rw e at l in
        let r = ih (omega (arith, l')) in
        (r.0, inr r.1, r.2)

awaits : (net : Net) (h : List Event) (s : State) → Logged net h s → ClosingAwaits net h s.vis
awaits net h s r i c =
    let v = run_holds net r in
    let e = v.votes.awaited i c in
    let p = (run_more net r).ready i c in
    let b : 0 < ballots i s.vis.air = omega (arith, e, p) in
    let x = tally-some (λ m. eqb m.tx i && is_ballot m.body) s.vis.air b in
    let y = and_parts (eqb x.0.tx i) _ x.2 in
    record { counted = e; some = p; one = (x.0, x.1, eqb-true _ _ y.0, y.1) }

pub closing_awaits : Always ClosingAwaits
closing_awaits = always ClosingAwaits awaits

-- ## Room

module _ (net : Net) (s : State) (v : Invariant net s) (g : More net s) where
  meant_for : (m : Message) (n : ℕ) (ls : List Draft) → In m s.vis.air → m.body ≡ granted n ls → (E : Placement) × In E s.placed × In (granted_to net E m.to) s.vis.air × (ls ≡ homed net m.to E.drafts)
  meant_for m n ls q b =
      let y = v.outcomes.meant m n ls q b in
      let c : granted n ls ≡ granted y.0.number (homed net m.to y.0.drafts) = sym b ∙ ap (λ (x : Message). x.body) y.2 in
      let el : ls ≡ homed net m.to y.0.drafts = cc c in
      (y.0, y.1, subst (λ (z : Message). In z s.vis.air) y.2 q, el)

  held-room : (k i : ℕ) → Holds s.vis.held k i → length (s.vis.book k) < net.depth
  held-room k i q = omega (arith, g.roomy k, v.holders.room k i q)

  outcome-room : (m : Message) (n : ℕ) (ls : List Draft) (k : ℕ) → In m s.vis.air → m.body ≡ granted n ls → Drafted ls k → length (s.vis.book k) < net.depth
  outcome-room m n ls k q b d =
      let y = meant_for m n ls q b in
      let E = y.0 in
      let x = homed-drafted net m.to E.drafts k (subst (λ (zs : List Draft). Drafted zs k) y.3 d) in
      let un : Seen E (s.vis.clocks (net.home k)) → ⊥ = subst (λ (u : ℕ). Seen E (s.vis.clocks u) → ⊥) (sym x.1) (g.owed.unseen E m.to y.1 y.2) in
      held-room k E.tx (v.holders.until k E y.1 x.0 un)

  room-found : (h : List Event) → FindsRoom net h s.vis
  room-found h = record {
    never_over = g.roomy;
    at_outcome = outcome-room;
    at_grant = λ p m named k a b o q d. held-room k m.tx (grants_holds net s p m named v a b o (option_or_parts (s.vis.records m.tx).named named q) k d);
    one_line = λ m n ls k q b.
        let y = meant_for m n ls q b in
        let E = y.0 in
        let t : tally (λ d. eqb d.key k) E.drafts ≤ 1 = subst (λ (ds : List Draft). tally (λ d. eqb d.key k) ds ≤ 1) (sym (ap (λ (x : Placement). x.drafts) (v.granteds E y.1).1)) (g.tidy E.tx k) in
        subst (λ (ds : List Draft). tally (λ d. eqb d.key k) ds ≤ 1) (sym y.3) (omega (arith, t, filter_fewer (λ d. eqb d.key k) (λ d. eqb (net.home d.key) m.to) E.drafts));
    one_draft = g.tidy;
  }

pub finds_room : Always FindsRoom
finds_room = always FindsRoom (λ net h s r. room-found net s (run_holds net r) (run_more net r) h)

-- ## The own tower

own-run : (net : Net) (h : List Event) (s : State) → Logged net h s → OwnTowerSeen net h s.vis
own-run net h s r x y q o =
    let v = run_holds net r in
    let l = run_linked net r in
    let e = placed_at s.placed x (subst (In x) (sym l.placed) (before-placed h x y q)) in
    let E = e.0 in
    let begun : y < s.vis.begun = rw l.begun (before-begun h x y l.counted q) in
    let u = run_early net r y E begun e.1 (subst (λ (i : ℕ). In i (placed_before_in h y)) (sym e.2) q) (origin_is net h s v l E x e.1 e.2 ∙ o) in
    subst (λ (i : ℕ). Within h i (s.vis.records y).bound) e.2 (within_of net h s v l E e.1 (s.vis.records y).bound u)

pub own_tower_seen : Always OwnTowerSeen
own_tower_seen = always OwnTowerSeen own-run

-- ## Messages

home-run : (net : Net) (h : List Event) (s : State) → Logged net h s → MessagesAtHome net h s.vis
home-run net h s r m q =
    let v = run_holds net r in
    let p = (run_ranges net r).mail m q in
    record {
      begun = subst (λ (n : ℕ). m.tx < n) (run_linked net r).begun (message-begun net s m v q);
      to = p.0;
      from = p.1;
      phase = phase_of v m.body refl;
    }
  where
    phase_of : Invariant net s → (b : Body) → m.body ≡ b → (s.vis.records m.tx).phase ≡ phase_for b
    phase_of v (query k f) e = v.reads.waiting m q (ap is_read e)
    phase_of v (answer k w) e = v.reads.waiting m q (ap is_read e)
    phase_of v (prepare ls) e = (v.votes.sound m q (ap is_ballot e)).closing
    phase_of v (vote n) e = (v.votes.sound m q (ap is_ballot e)).closing
    phase_of v (granted n ls) e =
        let x = v.outcomes.meant m n ls q e in
        ap (λ (i : ℕ). (s.vis.records i).phase) (ap (λ (y : Message). y.tx) x.2) ∙ (v.granteds x.0 x.1).0
    phase_of v refused e = v.votes.over m q e

pub messages_at_home : Always MessagesAtHome
messages_at_home = always MessagesAtHome home-run

-- ## Two alone

versions_none : (P : List Placement) (k : ℕ) → ((E : Placement) → In E P → Drafted E.drafts k → ⊥) → versions P k ≡ []
versions_none [] k f = refl
versions_none (T ∷ P) k f = rw (versions_none P k (λ E q. f E (inr q)), written_none T.tx T.origin T.number T.drafts k (f T (inl refl)))

shut_cases : (p : Phase) → has_closed p ≡ true → (p ≡ Closing) ⊎ (p ≡ Granted) ⊎ (p ≡ Refused)
shut_cases Open e = absurd (cc e)
shut_cases Waiting e = absurd (cc e)
shut_cases Closing e = inl refl
shut_cases Granted e = inr (inl refl)
shut_cases Refused e = inr (inr refl)
shut_cases Dropped e = absurd (cc e)

-- a transaction that alone drafted its one key is granted, once it is closed and the air is empty
module _ (net : Net) (h : List Event) (s : State) (v : Invariant net s) (l : Linked h s) (r : Logged net h s) (deep : net.depth ≡ 1) (empty : s.vis.air ≡ []) where
  alone_granted : (i k : ℕ) → has_closed (s.vis.records i).phase ≡ true → ((j : ℕ) → Drafted (drafts_in h i) j → j ≡ k) → ((j : ℕ) → j ≢ i → Drafted (drafts_in h j) k → ⊥) → (s.vis.records i).phase ≡ Granted
  alone_granted i k sh mine others = elim (shut_cases (s.vis.records i).phase sh) [
    | inl c ↦ absurd (closing c)
    | inr x ↦ elim x [ inl c ↦ c | inr c ↦ absurd (refusal c) ]
  ]
    where
      nothing : (m : Message) → In m s.vis.air → ⊥
      nothing m q = subst (In m) empty q

      closing : (s.vis.records i).phase ≡ Closing → ⊥
      closing c = let a = (awaits net h s r i c).one in nothing a.0 a.1

      refusal : (s.vis.records i).phase ≡ Refused → ⊥
      refusal c =
          let law = lawful net h s v l (facts_stand net h s r) in
          let x = law.refused i c in
          let e : x.0.key ≡ k = mine x.0.key x.1.drafted in
          elim x.1.cause [
            | inl y ↦ others y.0 y.1.other (subst (λ (n : ℕ). Drafted (drafts_in h y.0) n) e y.1.drafted)
            | inr full ↦ (
                let none : s.vis.book k ≡ [] = law.replay (λ m n ls q _. nothing m q) k ∙ sym (versions_are net h s v l k) ∙ versions_none s.placed k (λ E q d. elim (cases_eq E.tx i) [
                  | inl t ↦ differ Granted Refused refl (v.granteds E q).0 (ap (λ (n : ℕ). (s.vis.records n).phase) t ∙ c)
                  | inr t ↦ others E.tx t (subst (λ (ds : List Draft). Drafted ds k) (told_of net h s v l E q).1 d)
                ]) in
                let f : length (s.vis.book k) ≡ 1 = subst (λ (n : ℕ). length (s.vis.book n) ≡ net.depth) e full ∙ deep in
                omega (arith, f, ap length none))
          ]

unbegun_drafts : (net : Net) (h : List Event) (s : State) → Invariant net s → Linked h s → (j k : ℕ) → begun_in h ≤ j → Drafted (drafts_in h j) k → ⊥
unbegun_drafts net h s v l j k b d =
    let e : drafts_in h j ≡ [] = sym (l.drafts j) ∙ ap (λ (x : Record). x.drafts) (v.unbegun j (rw l.begun b)) in
    subst (λ (ds : List Draft). Drafted ds k) e d

both_run : (net : Net) (h : List Event) (s : State) → Logged net h s → BothGranted net h s.vis
both_run net h s r two =
    let v = run_holds net r in
    let l = run_linked net r in
    let only : (i : ℕ) (d : Draft) → drafts_in h i ≡ d ∷ [] → (j : ℕ) → Drafted (drafts_in h i) j → d.key ≡ j = λ i d e j q. elim (subst (λ (ds : List Draft). Drafted ds j) e q) [ inl x ↦ x | inr x ↦ absurd x ] in
    let third : (j k : ℕ) → j ≢ 0 → j ≢ 1 → Drafted (drafts_in h j) k → ⊥ = λ j k a b. unbegun_drafts net h s v l j k (omega (arith, two.two, a, b)) in (
      alone_granted net h s v l r two.one_deep two.air_empty 0 two.first.key two.first_closed (λ j q. sym (only 0 two.first two.first_drafts j q)) (λ j n d. elim (cases_eq j 1) [
        | inl e ↦ two.apart (sym (only 1 two.second two.second_drafts two.first.key (subst (λ (i : ℕ). Drafted (drafts_in h i) two.first.key) e d)))
        | inr e ↦ third j two.first.key n e d
      ]),
      alone_granted net h s v l r two.one_deep two.air_empty 1 two.second.key two.second_closed (λ j q. sym (only 1 two.second two.second_drafts j q)) (λ j n d. elim (cases_eq j 0) [
        | inl e ↦ two.apart (only 0 two.first two.first_drafts two.second.key (subst (λ (i : ℕ). Drafted (drafts_in h i) two.second.key) e d))
        | inr e ↦ third j two.second.key e n d
      ]),
    )

pub both_granted : Always BothGranted
both_granted = always BothGranted both_run
