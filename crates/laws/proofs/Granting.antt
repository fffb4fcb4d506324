-- A granted outcome that lands, and the vote that grants, keep the invariant. Assumes nothing.
use Rattle.std.proofs.Common.{◌≡◌, ℕ, zero, suc, ◌<◌, ◌≤◌, true, false, cond, ◌&&◌, eqb, ◌≢◌, ◌⊎◌, List, [], ◌∷◌, ◌++◌, Some, None, Option, sym, refl, ap, ◌∙◌, subst, inl, inr, append-nil, arith}
use Rattle.std.specs.Option.{option_or}
use Rattle.std.proofs.lemmas.Bool.{eq-eqb, ne_eqb, cases_eq, lt-leb, and_from}
use Rattle.clocks.specs.declared.Version.{Version}
use Rattle.messages.specs.declared.Draft.{Draft}
use Rattle.tables.specs.declared.Held.{Held}
use Rattle.tables.specs.declared.Phase.TheVariants.{Waiting, Closing, Granted, Refused, Dropped}
use Rattle.messages.specs.declared.Objection.{Objection}
use Rattle.laws.proofs.Conflicts.{option_or_parts, says_map}
use Rattle.laws.specs.State.{granted_record, placement}
use Rattle.laws.specs.Lists.{put, In, At, without}
use Rattle.laws.specs.Net.{Clock, Record, vote, granted, refused, Message, Placement, Net, ◌⊑◌, Drafted, has_closed}
use Rattle.laws.proofs.Log.{taken, count, Seen, seen}
use Rattle.laws.proofs.Model.{Answered, State, on, placing}
use Rattle.laws.specs.Rules.{Ripe, granting, took}
use Rattle.laws.specs.Words.{placed_as, homed, freed, granted_to, grants_to}
use Rattle.laws.proofs.Lists.{put_same, put_other, put_case, in_left, in_right, in_append, in_at, in_without, in_rest, none_left}
use Rattle.laws.proofs.Sent.{each_grant}
use Rattle.laws.proofs.Placed.{Numbered, Ordered, Closed, count_self, count_grows, number_le, number_pos, new_unseen, shown-new, closed-new}
use Rattle.laws.proofs.Invariant.{Intent, Intents, intents, is_read, is_ballot, is_granted, polled, ballots, Fair, Bounds, Books, Holds, Holders, Granteds, Reads, Outcomes, Justified, Refusals, Invariant}
use Rattle.laws.proofs.Frames.{same-put, holders_same, granteds_put, bounds-put, unbegun_put, reads-put, refusals_put, votes_landed, votes_sent, votes_held, reads_landed, reads-sent, outcomes_landed, refusals_landed, refusals_sent, freed_keeps, differ, intent_shut, placed-once, placed-other}
use Rattle.laws.proofs.Voting.{votes_over, polled_vote}
use Rattle.laws.proofs.TakeIn.{passed, Next, passed_grows, passed_seen, passed_behind, passed_closed, added, added_books, added_full, added_holders, refusals_full}

-- ## A granted outcome

took_outcomes : (net : Net) (P : List Placement) (cs : ℕ → Clock) (air : List Message) (p t : ℕ) (T : Placement) → At air p (granted_to net T t) → Next cs t T → Outcomes net P cs air → Outcomes net P (passed cs t T) (without air p)
took_outcomes net P cs air p t T a e g = record {
  coming = λ E u h l o s. elim (in_rest air p (granted_to net T t) (granted_to net E u) a (g.coming E u h l o (λ x. s (omega (arith, x, passed_grows cs t T e u E.origin))))) [
    | inr h ↦ h
    | inl q ↦ absurd (s (
        let eu : u ≡ t = ap (λ (x : Message). x.to) q in
        let eo : E.origin ≡ T.origin = ap (λ (x : Message). x.from) q in
        let eb = ap (λ (x : Message). x.body) q in
        let en : E.number ≡ T.number = cc in
        rw (en, eo) (passed_seen cs t u T (sym eu))))
  ];
  meant = λ m n ls h. g.meant m n ls (in_without air p m h);
}

takes_in-placed : (net : Net) (s : State) (p t : ℕ) (T : Placement) → Invariant net s → At s.vis.air p (granted_to net T t) → In T s.placed → T.bound ⊑ s.vis.clocks t → Next s.vis.clocks t T →
    Invariant net (on s (took net s.vis p (granted_to net T t) T.number (homed net t T.drafts)))
takes_in-placed net s p t T v a h b e =
    let P = s.placed in
    let cs = s.vis.clocks in
    let n = v.order.numbered in
    let m = granted_to net T t in
    let once : (E : Placement) → In E P → E.tx ≡ T.tx → E ≡ T = λ E l. placed-once P s.vis.records E T v.granteds l h in
    let away : t ≢ T.origin = λ q.
    let x : cs T.origin T.origin ≡ count P T.origin = v.clocks.own T.origin in
    let e' : suc (cs T.origin T.origin) ≡ T.number = subst (λ (u : ℕ). Next cs u T) q e in
    omega (arith, x, e', number_le P T n h) in
    record {
      order = v.order;
      clocks = record {
        behind = passed_behind P cs t T n h v.clocks.behind;
        own = λ j. put_case (λ u c. u ≡ j → c j ≡ count P j) cs t (put (cs t) T.origin T.number)
            (λ q. put_other (cs t) T.origin T.number j (λ x. away (q ∙ sym x)) ∙ subst (λ (u : ℕ). cs u j ≡ count P j) (sym q) (v.clocks.own j))
            (λ u _ q. subst (λ (u : ℕ). cs u j ≡ count P j) (sym q) (v.clocks.own j)) j refl;
        closed = passed_closed P cs t T n h e b v.clocks.closed;
      };
      bounds = v.bounds;
      books = added_books net P cs s.vis.book t T n v.order.ordered (v.clocks.closed t) h e v.books;
      holders = added_holders net (intents s.vis.records) P cs s.vis.book s.vis.held t T n once h e v.holders;
      granteds = v.granteds;
      unbegun = v.unbegun;
      votes = votes_held net s.vis.records s.vis.held (freed net T.tx t s.vis.held) (without s.vis.air p)
          (λ k j c l. freed_keeps net T.tx t s.vis.held k j (λ x _. differ Closing Granted refl c (subst (λ (n : ℕ). (s.vis.records n).phase ≡ Granted) (sym x) (v.granteds T h).0)) l)
          (votes_landed net s.vis.records s.vis.held s.vis.air p m a refl v.votes);
      reads = reads_landed net P s.vis.records s.vis.air s.readings p m a v.reads;
      outcomes = took_outcomes net P cs s.vis.air p t T a e v.outcomes;
      refusals = refusals_full net P s.vis.records s.vis.book (added net s.vis.book t T) (without s.vis.air p)
          (added_full net (intents s.vis.records) P cs s.vis.book s.vis.held t T n once h e v.holders)
          (refusals_landed net P s.vis.records s.vis.book s.vis.air p v.refusals);
    }

pub takes_in_keeps : (net : Net) (s : State) (p : ℕ) (m : Message) (n : ℕ) (lines : List Draft) → Invariant net s → Ripe net s.vis p m → m.body ≡ granted n lines → suc (s.vis.clocks m.to m.from) ≡ n → Invariant net (on s (took net s.vis p m n lines))
takes_in_keeps net s p m n lines v ripe e f =
    let x = v.outcomes.meant m n lines (in_at s.vis.air p m ripe.there) e in
    go m.to x.0 x.1 x.2
  where
    go : (t : ℕ) (T : Placement) → In T s.placed → m ≡ granted_to net T t → Invariant net (on s (took net s.vis p m n lines))
    go t T h q =
        let b : granted n lines ≡ granted T.number (homed net t T.drafts) = sym e ∙ ap (λ (x : Message). x.body) q in
        let en : n ≡ T.number = cc b in
        let el : lines ≡ homed net t T.drafts = cc b in
        let r : Ripe net s.vis p (granted_to net T t) = subst (Ripe net s.vis p) q ripe in
        let f' : suc (s.vis.clocks t T.origin) ≡ T.number = subst (λ (x : Message). suc (s.vis.clocks x.to x.from) ≡ n) q f ∙ en in
        rw (en, el, q) (takes_in-placed net s p t T v r.there h r.caught_up f')

-- ## The vote that grants

-- the transaction holds all its keys
pub grants_holds : (net : Net) (s : State) (p : ℕ) (m : Message) (named : Option Objection) → Invariant net s → At s.vis.air p m → m.body ≡ vote named → (s.vis.records m.tx).awaited ≡ 1 → ((s.vis.records m.tx).named ≡ None) × (named ≡ None) → (k : ℕ) → Drafted (s.vis.records m.tx).drafts k → Holds s.vis.held k m.tx
grants_holds net s p m named v a e one q k d =
    let i = m.tx in
    let g = v.votes in
    let b = g.sound m (in_at s.vis.air p m a) (ap is_ballot e) in
    let last : ballots i s.vis.air ≤ 1 = omega (arith, g.awaited i b.closing, one) in
    elim (g.pending i k b.closing d q.0) [
      | inl h ↦ h
      | inr x ↦ elim (in_rest s.vis.air p m x.0 a x.1) [
        | inl y ↦ b.holds (e ∙ ap vote q.1) k d (sym x.4 ∙ ap polled y ∙ polled_vote m named e)
        | inr h ↦ absurd (none_left (λ y. eqb y.tx i && is_ballot y.body) s.vis.air p m a (and_from _ _ (eq-eqb i i refl) (ap is_ballot e)) last x.0 h (and_from _ _ (eq-eqb _ _ x.2) x.3))
      ]
    ]

-- ## One more is placed, and not yet taken in anywhere

module _ (P : List Placement) (T : Placement) (n : T.number ≡ suc (count P T.origin)) where
  fair_new : (b : Clock) → Fair P b → Fair (T ∷ P) b
  fair_new b f = record { behind = λ j. omega (arith, f.behind j, count_grows T P j); closed = closed-new P T b n f.behind f.closed }

  unseen : (b : Clock) → Fair P b → Seen T b → ⊥
  unseen b f = new_unseen P T b n f.behind

  books_new : (net : Net) (cs : ℕ → Clock) (book : ℕ → List Version) → ((t : ℕ) → Fair P (cs t)) → Books net P cs book → Books net (T ∷ P) cs book
  books_new net cs book f g k =
      let c = cs (net.home k) in
      let e : seen T c ≡ false = lt-leb _ _ (omega (arith, n, (f (net.home k)).behind T.origin)) in
      rw e (g k ∙ sym (append-nil (taken c P k)))

  holders_new : (net : Net) (I : Intents) (cs : ℕ → Clock) (book : ℕ → List Version) (held : List Held) → ((t : ℕ) → Fair P (cs t)) → ((k : ℕ) → Drafted T.drafts k → Holds held k T.tx) → Holders net I P cs book held → Holders net I (T ∷ P) cs book held
  holders_new net I cs book held f all g = record {
    meant = g.meant;
    sole = g.sole;
    room = g.room;
    ahead = λ k i E h l. elim l [
      | inl e ↦ λ d n. absurd (n (ap (λ (x : Placement). x.tx) e ∙ g.sole k T.tx i (all k (subst (λ (x : Placement). Drafted x.drafts k) e d)) h))
      | inr l ↦ g.ahead k i E h l
    ];
    until = λ k E l. elim l [
      | inl e ↦ λ d u. subst (λ (x : Placement). Holds held k x.tx) (sym e) (all k (subst (λ (x : Placement). Drafted x.drafts k) e d))
      | inr l ↦ g.until k E l
    ];
    after = λ k E l. elim l [
      | inl e ↦ λ h s. unseen (cs (net.home k)) (f (net.home k)) (subst (λ (x : Placement). Seen x (cs (net.home k))) e s)
      | inr l ↦ g.after k E l
    ];
  }

  reads-new : (net : Net) (rs : ℕ → Record) (air : List Message) (ds : List Answered) → Bounds P rs → Reads net P rs air ds → Reads net (T ∷ P) rs air ds
  reads-new net rs air ds f g = record {
    waiting = g.waiting;
    single = g.single;
    asked = g.asked;
    fair = λ m k v h b. fair_new m.bound (g.fair m k v h b);
    right = λ m k v h b. g.right m k v h b ∙ sym (shown-new m.bound T P k (unseen m.bound (g.fair m k v h b)));
    again = g.again;
    told = g.told;
    shown = λ d h. g.shown d h ∙ sym (shown-new (rs d.tx).bound T P d.key (unseen (rs d.tx).bound (f d.tx)));
  }

  justified_new : (net : Net) (I : Intents) (book : ℕ → List Version) (i : ℕ) (a : Objection) → Fair P (I i).bound → Justified net I P book i a → Justified net I (T ∷ P) book i a
  justified_new net I book i a f g = record {
    drafted = g.drafted;
    cause = says_map
        (λ j c. record {
          other = c.other;
          drafted = c.drafted;
          outside = λ E l. elim l [ inl e ↦ λ _ s. unseen (I i).bound f (subst (λ (x : Placement). Seen x (I i).bound) e s) | inr l ↦ c.outside E l ];
        })
        (λ o w n x. (x.0, inr x.1, x.2, x.3, x.4)) (λ x. x) a.conflict (λ o w _. tt) g.cause;
  }

  -- an intent's bound is a bound
  fair_intent : (rs : ℕ → Record) (i : ℕ) → Numbered P → Bounds P rs → Fair P (intents rs i).bound
  fair_intent rs i m f = elim (has_closed (rs i).phase) as (λ b. Fair P (cond {A = Intent} b (record { bound = (rs i).bound; drafts = (rs i).drafts }) (record { bound = λ _. 0; drafts = [] })).bound) [
    | true ↦ f i
    | false ↦ record { behind = λ j. omega arith; closed = λ E h s. absurd (omega (arith, s, number_pos P E m h)) }
  ]

  refusals_new : (net : Net) (rs : ℕ → Record) (book : ℕ → List Version) (air : List Message) → Numbered P → Bounds P rs → Refusals net P rs book air → Refusals net (T ∷ P) rs book air
  refusals_new net rs book air m f g = record {
    voted = λ x k h b. justified_new net (intents rs) book x.tx k (fair_intent rs x.tx m f) (g.voted x k h b);
    named = λ i k a b. justified_new net (intents rs) book i k (fair_intent rs i m f) (g.named i k a b);
    refused = g.refused;
  }

  count_other : (j : ℕ) → T.origin ≢ j → count (T ∷ P) j ≡ count P j
  count_other j d = rw (ne_eqb T.origin j d) (omega arith)

pub grants_has : (net : Net) (T : Placement) (n t : ℕ) → t < n → t ≢ T.origin → In (granted_to net T t) (grants_to net T n)
grants_has net T zero t l d = absurd (omega arith)
grants_has net T (suc n) t l d = go (grants_has net T n t) (cases_eq n t)
  where
    go : (t < n → t ≢ T.origin → In (granted_to net T t) (grants_to net T n)) → (n ≡ t) ⊎ (n ≡ t → ⊥) → In (granted_to net T t) (grants_to net T (suc n))
    go ih (inr q) = in_left _ (grants_to net T n) _ (ih (omega arith) d)
    go ih (inl q) = in_right _ (grants_to net T n) (cond (eqb n T.origin) [] (granted_to net T n ∷ [])) (rw (ne_eqb n T.origin (λ x. d (sym q ∙ x)), q) (inl refl))

module _ (P : List Placement) (T : Placement) (cs : ℕ → Clock) (n : T.number ≡ suc (count P T.origin)) (e : Next cs T.origin T) where
  own_new : ((j : ℕ) → cs j j ≡ count P j) → (j : ℕ) → passed cs T.origin T j j ≡ count (T ∷ P) j
  own_new own j = go (cases_eq T.origin j)
    where
      here : passed cs T.origin T T.origin T.origin ≡ count (T ∷ P) T.origin
      here = rw (put_same cs T.origin (put (cs T.origin) T.origin T.number) T.origin refl, put_same (cs T.origin) T.origin T.number T.origin refl) (n ∙ sym (count_self T P))

      go : (T.origin ≡ j) ⊎ (T.origin ≡ j → ⊥) → passed cs T.origin T j j ≡ count (T ∷ P) j
      go (inl x) = subst (λ (u : ℕ). passed cs T.origin T u u ≡ count (T ∷ P) u) x here
      go (inr x) = rw (put_other cs T.origin (put (cs T.origin) T.origin T.number) j x) (own j ∙ sym (count_other P T n j x))

  outcomes_new : (net : Net) (air : List Message) → Outcomes net P cs air → Outcomes net (T ∷ P) (passed cs T.origin T) (air ++ grants_to net T net.towers)
  outcomes_new net air g = record {
    coming = λ E t l. elim l [
      | inl x ↦ subst (λ (E : Placement). t < net.towers → t ≢ E.origin → (Seen E (passed cs T.origin T t) → ⊥) → In (granted_to net E t) (air ++ grants_to net T net.towers)) (sym x)
          (λ b d _. in_right (granted_to net T t) air (grants_to net T net.towers) (grants_has net T net.towers t b d))
      | inr l ↦ λ b d u. in_left (granted_to net E t) air (grants_to net T net.towers) (g.coming E t l b d (λ s. u (omega (arith, s, passed_grows cs T.origin T e t E.origin))))
    ];
    meant = λ m k ls h b. elim (in_append m air (grants_to net T net.towers) h) [
      | inl h ↦ (let x = g.meant m k ls h b in (x.0, inr x.1, x.2))
      | inr h ↦ (T, inl refl, each_grant net T net.towers (λ m. m ≡ granted_to net T m.to) (λ t. refl) m h)
    ];
  }

pub grants_keeps : (net : Net) (s : State) (p : ℕ) (m : Message) (named : Option Objection) → Invariant net s → Ripe net s.vis p m → m.body ≡ vote named → (s.vis.records m.tx).awaited ≡ 1 → option_or (s.vis.records m.tx).named named ≡ None → Invariant net (placing s (placement s.vis m.tx) (granting net s.vis p m))
grants_keeps net s p m named v ripe e one q =
    let a = ripe.there in
    let h = in_at s.vis.air p m a in
    let P = s.placed in
    let cs = s.vis.clocks in
    let i = m.tx in
    let old = s.vis.records i in
    let o = old.origin in
    let r = granted_record s.vis i in
    let T = placed_as i r in
    let rs = put s.vis.records i r in
    let rest = without s.vis.air p in
    let held' = freed net i o s.vis.held in
    let ms = grants_to net T net.towers in
    let each = each_grant net T net.towers in
    let now : rs i ≡ r = put_same s.vis.records i r i refl in
    let b = v.votes.sound m h (ap is_ballot e) in
    let c : old.phase ≡ Closing = b.closing in
    let is = intent_shut old (ap has_closed c) in
    let same = same-put s.vis.records i r (inr (sym is)) in
    let n : T.number ≡ suc (count P T.origin) = ap suc (v.clocks.own o) in
    let all : (k : ℕ) → Drafted T.drafts k → Holds s.vis.held k T.tx = grants_holds net s p m named v a e one (option_or_parts old.named named q) in
    let others : (E : Placement) → In E P → E.tx ≢ i = λ E l. placed-other P s.vis.records E i v.granteds l (differ Closing Granted refl c) in
    let numbered : Numbered (T ∷ P) = (n, v.order.numbered) in
    let ordered : Ordered (T ∷ P) = ((λ E k l d w. let x = v.holders.ahead k i E (all k w) l d (others E l) in rw is at x), v.order.ordered) in
    let fairs : (t : ℕ) → Fair P (cs t) = λ t. record { behind = v.clocks.behind t; closed = v.clocks.closed t } in
    let closes : (t : ℕ) → Closed (T ∷ P) (cs t) = λ t. (fair_new P T n (cs t) (fairs t)).closed in
    let b-le : T.bound ⊑ cs o = λ j. let x = ripe.caught_up j in rw (b.bound, b.asked named e) at x in
    let granteds : Granteds (T ∷ P) rs = λ E l. elim l [
      | inl x ↦ subst (λ (E : Placement). ((rs E.tx).phase ≡ Granted) × (E ≡ placed_as E.tx (rs E.tx))) (sym x) (rw now (refl, refl))
      | inr l ↦ granteds_put P s.vis.records i r (differ Closing Granted refl c) v.granteds E l
    ] in
    let once : (E : Placement) → In E (T ∷ P) → E.tx ≡ T.tx → E ≡ T = λ E l. placed-once (T ∷ P) rs E T granteds l (inl refl) in
    let bounds : Bounds P rs = bounds-put P s.vis.records i r (v.bounds i) v.bounds in
    let holders : Holders net (intents rs) (T ∷ P) cs s.vis.book s.vis.held = holders_new P T n net (intents rs) cs s.vis.book s.vis.held fairs all
    (holders_same net (intents s.vis.records) (intents rs) P cs s.vis.book s.vis.held same v.holders) in
    record {
      order = record { numbered = numbered; ordered = ordered };
      clocks = record {
        behind = passed_behind (T ∷ P) cs o T numbered (inl refl) (λ t. (fair_new P T n (cs t) (fairs t)).behind);
        own = own_new P T cs n refl v.clocks.own;
        closed = passed_closed (T ∷ P) cs o T numbered (inl refl) refl b-le closes;
      };
      bounds = λ j. fair_new P T n (rs j).bound (bounds j);
      books = added_books net (T ∷ P) cs s.vis.book o T numbered ordered (closes o) (inl refl) refl (books_new P T n net cs s.vis.book fairs v.books);
      holders = added_holders net (intents rs) (T ∷ P) cs s.vis.book s.vis.held o T numbered once (inl refl) refl holders;
      granteds = granteds;
      unbegun = unbegun_put s.vis.begun s.vis.records i r (differ Closing Dropped refl c) v.unbegun;
      votes = votes_sent net rs held' rest ms (each (λ x. is_ballot x.body ≡ false) (λ t. refl)) (each (λ x. x.body ≡ refused → (rs x.tx).phase ≡ Refused) (λ t x. absurd (cc x)))
          (votes_held net rs s.vis.held held' rest
          (λ k j c l. freed_keeps net i o s.vis.held k j (λ x _. differ Closing Granted refl c (subst (λ (n : ℕ). (rs n).phase ≡ Granted) (sym x) (ap (λ (x : Record). x.phase) now))) l)
          (votes_over net s.vis.records r s.vis.held s.vis.air p m named a e one (differ Granted Closing refl refl) v.votes));
      reads = reads-sent net (T ∷ P) rs rest s.readings ms (each (λ x. is_read x.body ≡ false) (λ t. refl))
          (reads-new P T n net rs rest s.readings bounds
          (reads-put net P s.vis.records i r rest s.readings (differ Closing Waiting refl c) (λ q. (q, refl)) (reads_landed net P s.vis.records s.vis.air s.readings p m a v.reads)));
      outcomes = outcomes_new P T cs n refl net rest (outcomes_landed net P cs s.vis.air p m a (ap is_granted e) v.outcomes);
      refusals = refusals_sent net (T ∷ P) rs (added net s.vis.book o T) rest ms
          (λ x j. each (λ x. x.body ≡ vote (Some j) → Justified net (intents rs) (T ∷ P) (added net s.vis.book o T) x.tx j) (λ t b. absurd (cc b)) x)
          (refusals_full net (T ∷ P) rs s.vis.book (added net s.vis.book o T) rest
          (added_full net (intents rs) (T ∷ P) cs s.vis.book s.vis.held o T numbered once (inl refl) refl holders)
          (refusals_new P T n net rs s.vis.book rest v.order.numbered bounds
          (refusals_put net P s.vis.records i r s.vis.book rest same (λ k _ x. absurd (cc x)) (λ x. absurd (differ Granted Refused refl refl x))
          (refusals_landed net P s.vis.records s.vis.book s.vis.air p v.refusals))));
    }
