-- A prepare, or a vote that grants nothing, that lands keeps the invariant. Assumes nothing.
use Rattle.std.proofs.Common.{◌≡◌, ℕ, suc, pred, ◌<◌, ◌≤◌, Bool, true, false, cond, ◌&&◌, eqb, ◌≢◌, ◌⊎◌, List, [], ◌∷◌, ◌++◌, length, Some, None, Option, sym, refl, ap, ◌∙◌, subst, inl, inr, arith}
use Rattle.std.specs.Option.{option_or}
use Rattle.std.proofs.lemmas.Bool.{eq-eqb, ne_eqb, cases_eq, cases_Bool, cond-true, cond-false, both_ways, leb-true, leb-false, and_left, and_from}
use Rattle.clocks.specs.declared.Version.{Version}
use Rattle.messages.specs.declared.Draft.{Draft}
use Rattle.tables.specs.declared.Held.{Held}
use Rattle.tables.specs.declared.Phase.TheVariants.{Waiting, Closing, Granted, Refused, Dropped}
use Rattle.messages.specs.declared.Objection.{Objection}
use Rattle.laws.proofs.Conflicts.{Conflicts, taken_by, newer, full, Evidence, option_or_cases, option_or_parts, Any}
use Rattle.messages.specs.declared.Conflict.{Conflict}
use Rattle.messages.specs.declared.Conflict.TheVariants.{Held as HeldBy, Newer, Full}
use Rattle.laws.specs.Laws.{Says}
use Rattle.laws.specs.Lists.{put, In, At, without}
use Rattle.laws.specs.Net.{Clock, Record, prepare, vote, refused, Message, Placement, Net, ◌⊑◌, Drafted, inside, newest, has_closed}
use Rattle.laws.proofs.Log.{taken, Seen, seen, IsPlaced}
use Rattle.laws.proofs.Model.{State, on}
use Rattle.laws.specs.Rules.{Ripe, counted, released, refusing, voted}
use Rattle.laws.specs.State.{holding}
use Rattle.laws.specs.Words.{voting, message, holds_of, freed, refusals_to}
use Rattle.laws.proofs.Lists.{put_same, put_other, put_case, in_left, in_right, in_append, in_at, in_without, in_rest, tally-append, tally_at, none_left}
use Rattle.laws.proofs.Sent.{each-refusal}
use Rattle.laws.proofs.Placed.{Closed, By, newest-covers, newest_by}
use Rattle.laws.proofs.Invariant.{Intent, intent, Intents, intents, is_read, is_ballot, is_granted, polled, ballots, Holds, Holders, Ballot, Votes, Rival, Justified, Invariant}
use Rattle.laws.proofs.Frames.{same-put, holders_same, granteds_put, bounds-put, unbegun_put, reads-put, refusals_put, votes_landed, votes_sent, votes_held, reads_landed, reads-sent, outcomes_landed, outcomes_sent, refusals_landed, refusals_sent, holds_left, holds_freed, freed_keeps, differ, only, intent_shut, placed_intent, placed-once, placed-other}
use Rattle.laws.proofs.Calls.{homed-drafted, drafted-homed}

-- ## What is held for the lines

in_holds_of : (i o : ℕ) (ds : List Draft) (h : Held) → In h (holds_of i o ds) → (h.tx ≡ i) × Drafted ds h.key
in_holds_of i o [] h g = absurd g
in_holds_of i o (d ∷ ds) h (inl e) = (ap (λ (x : Held). x.tx) e, inl (sym (ap (λ (x : Held). x.key) e)))
in_holds_of i o (d ∷ ds) h (inr g) = let r = in_holds_of i o ds h g in (r.0, inr r.1)

holds_of_has : (i o : ℕ) (ds : List Draft) (k : ℕ) → Drafted ds k → Holds (holds_of i o ds) k i
holds_of_has i o [] k d = absurd d
holds_of_has i o (d ∷ ds) k (inl e) = (record { key = d.key; tx = i; origin = o }, inl refl, e, refl)
holds_of_has i o (d ∷ ds) k (inr g) = let r = holds_of_has i o ds k g in (r.0, inr r.1, r.2, r.3)

holds_right : (hs gs : List Held) (k i : ℕ) → Holds gs k i → Holds (hs ++ gs) k i
holds_right hs gs k i h = (h.0, in_right h.0 hs gs h.1, h.2, h.3)

pub holds_cases : (hs : List Held) (i o : ℕ) (ds : List Draft) (k j : ℕ) → Holds (hs ++ holds_of i o ds) k j → Holds hs k j ⊎ ((j ≡ i) × Drafted ds k)
holds_cases hs i o ds k j h = elim (in_append h.0 hs (holds_of i o ds) h.1) [
  | inl g ↦ inl (h.0, g, h.2, h.3)
  | inr g ↦ (let r = in_holds_of i o ds h.0 g in inr (sym h.3 ∙ r.0, subst (Drafted ds) h.2 r.1))
]

-- ## The ballot that lands is answered by another

votes_swapped : (net : Net) (rs : ℕ → Record) (held : List Held) (air : List Message) (p : ℕ) (m q : Message) → At air p m → is_ballot m.body ≡ true → is_ballot q.body ≡ true → q.tx ≡ m.tx → polled q ≡ polled m → Ballot net (rs q.tx) held q → Votes net rs held air → Votes net rs held (without air p ++ q ∷ [])
votes_swapped net rs held air p m q a bm bq t o b g =
    let rest = without air p in
    record {
      sound = λ x h c. elim (in_append x rest (q ∷ []) h) [ inl h ↦ g.sound x (in_without air p x h) c | inr h ↦ only (λ x. Ballot net (rs x.tx) held x) q b x h ];
      awaited = λ i c.
          let f : Message → Bool = λ x. eqb x.tx i && is_ballot x.body in
          let e : f q ≡ f m = rw (t, bq, bm) refl in
          let e' : ◌≡◌ {A = ℕ} (cond (f q) 1 0) (cond (f m) 1 0) = ap (λ (b : Bool). cond b 1 0) e in
          omega (arith, g.awaited i c, tally_at f air p m a, tally-append f rest (q ∷ []), e');
      pending = λ i k c d n. elim (g.pending i k c d n) [
        | inl h ↦ inl h
        | inr x ↦
            elim (in_rest air p m x.0 a x.1) [
              | inl e ↦ inr (q, in_right q rest (q ∷ []) (inl refl), t ∙ sym (ap (λ (y : Message). y.tx) e) ∙ x.2, bq, o ∙ sym (ap polled e) ∙ x.4)
              | inr h ↦ inr (x.0, in_left x.0 rest (q ∷ []) h, x.2, x.3, x.4)
            ]
      ];
      over = λ x h c. elim (in_append x rest (q ∷ []) h) [
        | inl h ↦ g.over x (in_without air p x h) c
        | inr h ↦ absurd (only (λ x. x.body ≡ refused → ⊥) q (λ e. both_ways (is_ballot q.body) (ap is_ballot e) bq) x h c)
      ];
    }

polled_prepare : (m : Message) (ls : List Draft) → m.body ≡ prepare ls → polled m ≡ m.to
polled_prepare m ls e = rw e refl

pub polled_vote : (m : Message) (n : Option Objection) → m.body ≡ vote n → polled m ≡ m.from
polled_vote m n e = rw e refl

-- ## A prepare

-- a line without a conflict: the transaction has seen every other that is placed and wrote the key
pub clear_ahead : (net : Net) (s : State) (m : Message) (k : ℕ) → Invariant net s → Closed s.placed m.bound → (Conflicts net s.vis m k → ⊥) →
    (E : Placement) → In E s.placed → Drafted E.drafts k → E.tx ≢ m.tx → Seen E m.bound
clear_ahead net s m k v cl none E h d n = go (cases_Bool (seen E (s.vis.clocks (net.home k))))
  where
    newest_in : (w : Version) → newest (taken (s.vis.clocks (net.home k)) s.placed k) ≡ Some w → w.number ≤ m.bound w.origin
    newest_in w q = elim (cases_Bool (inside m.bound w)) [
      | inl t ↦ leb-true _ _ t
      | inr f ↦ absurd (none (newer w (ap newest (v.books k) ∙ q) f))
    ]

    go : (seen E (s.vis.clocks (net.home k)) ≡ true) ⊎ (seen E (s.vis.clocks (net.home k)) ≡ false) → Seen E m.bound
    go (inl t) = newest-covers s.placed (s.vis.clocks (net.home k)) m.bound k v.order.ordered cl newest_in E h d (leb-true _ _ t)
    go (inr f) =
        let l = v.holders.until k E h d (λ u. omega (arith, u, leb-false _ _ f)) in
        absurd (none (taken_by l.0 l.1 l.2 (λ q. n (sym l.3 ∙ q))))

pub agrees_holders : (net : Net) (s : State) (p : ℕ) (m : Message) (lines : List Draft) → Invariant net s → Ripe net s.vis p m → m.body ≡ prepare lines → ((k : ℕ) → Drafted lines k → Conflicts net s.vis m k → ⊥) →
    Holders net (intents s.vis.records) s.placed s.vis.clocks s.vis.book (s.vis.held ++ holds_of m.tx m.from lines)
agrees_holders net s p m lines v ripe e none =
    let b = v.votes.sound m (in_at s.vis.air p m ripe.there) (ap is_ballot e) in
    let i = m.tx in
    let r = s.vis.records i in
    let P = s.placed in
    let g = v.holders in
    let wants : (k : ℕ) → Drafted lines k → Drafted r.drafts k = λ k d. (homed-drafted net m.to r.drafts k (subst (λ ds. Drafted ds k) (b.lines lines e) d)).0 in
    let is : intent r ≡ record { bound = r.bound; drafts = r.drafts } = intent_shut r (ap has_closed b.closing) in
    let alone : (k j : ℕ) → Drafted lines k → Holds s.vis.held k j → j ≡ i = λ k j d h. elim (cases_eq j i) [ inl q ↦ q | inr n ↦ absurd (none k d (taken_by h.0 h.1 h.2 (λ q. n (sym h.3 ∙ q)))) ] in
    record {
      meant = λ k j h. elim (holds_cases s.vis.held i m.from lines k j h) [
        | inl h ↦ g.meant k j h
        | inr q ↦ subst (λ (n : ℕ). Drafted (intents s.vis.records n).drafts k) (sym q.0) (rw is (wants k q.1))
      ];
      sole = λ k x y h l. elim (holds_cases s.vis.held i m.from lines k x h) [
        | inl h ↦ elim (holds_cases s.vis.held i m.from lines k y l) [ inl l ↦ g.sole k x y h l | inr q ↦ alone k x q.1 h ∙ sym q.0 ]
        | inr q ↦ elim (holds_cases s.vis.held i m.from lines k y l) [ inl l ↦ q.0 ∙ sym (alone k y q.1 l) | inr q' ↦ q.0 ∙ sym q'.0 ]
      ];
      room = λ k j h f. elim (holds_cases s.vis.held i m.from lines k j h) [ inl h ↦ g.room k j h f | inr q ↦ none k q.1 (full f) ];
      ahead = λ k j E h d w n. elim (holds_cases s.vis.held i m.from lines k j h) [
        | inl h ↦ g.ahead k j E h d w n
        | inr q ↦ subst (λ (n : ℕ). Seen E (intents s.vis.records n).bound) (sym q.0) (rw (is, ← b.bound)
            (clear_ahead net s m k v (rw b.bound (v.bounds i).closed) (none k q.1) E d w (λ x. n (x ∙ sym q.0))))
      ];
      until = λ k E h d u. holds_left s.vis.held (holds_of i m.from lines) k E.tx (g.until k E h d u);
      after = λ k E h l u. elim (holds_cases s.vis.held i m.from lines k E.tx l) [
        | inl l ↦ g.after k E h l u
        | inr q ↦ differ Granted Closing refl (v.granteds E h).0 (subst (λ (n : ℕ). (s.vis.records n).phase ≡ Closing) (sym q.0) b.closing)
      ];
    }

pub agrees_keeps : (net : Net) (s : State) (p : ℕ) (m : Message) (lines : List Draft) → Invariant net s → Ripe net s.vis p m → m.body ≡ prepare lines → ((k : ℕ) → Drafted lines k → Conflicts net s.vis m k → ⊥) →
    Invariant net (on s (holding (voted net s.vis p m None) (s.vis.held ++ holds_of m.tx m.from lines)))
agrees_keeps net s p m lines v ripe e none =
    let a = ripe.there in
    let P = s.placed in
    let rs = s.vis.records in
    let rest = without s.vis.air p in
    let held' = s.vis.held ++ holds_of m.tx m.from lines in
    let q = message m.tx m.to m.from m.bound (vote None) in
    let b = v.votes.sound m (in_at s.vis.air p m a) (ap is_ballot e) in
    record {
      order = v.order;
      clocks = v.clocks;
      bounds = v.bounds;
      books = v.books;
      holders = agrees_holders net s p m lines v ripe e none;
      granteds = v.granteds;
      unbegun = v.unbegun;
      votes = votes_swapped net rs held' s.vis.air p m q a (ap is_ballot e) refl refl (sym (polled_prepare m lines e))
          (record {
            closing = b.closing;
            bound = b.bound;
            asker = λ ls c. absurd (cc c);
            asked = λ _ _. b.asker lines e;
            lines = λ ls c. absurd (cc c);
            holds = λ _ k d o. holds_right s.vis.held (holds_of m.tx m.from lines) k m.tx (holds_of_has m.tx m.from lines k (rw (b.lines lines e) (drafted-homed net m.to (rs m.tx).drafts k o d)));
          })
          (votes_held net rs s.vis.held held' s.vis.air (λ k i _ h. holds_left s.vis.held (holds_of m.tx m.from lines) k i h) v.votes);
      reads = reads-sent net P rs rest s.readings (q ∷ []) (only (λ x. is_read x.body ≡ false) q refl) (reads_landed net P rs s.vis.air s.readings p m a v.reads);
      outcomes = outcomes_sent net P s.vis.clocks rest (q ∷ []) (only (λ x. is_granted x.body ≡ false) q refl) (outcomes_landed net P s.vis.clocks s.vis.air p m a (ap is_granted e) v.outcomes);
      refusals = refusals_sent net P rs s.vis.book rest (q ∷ [])
          (λ x j. only (λ x. x.body ≡ vote (Some j) → Justified net (intents rs) P s.vis.book x.tx j) q (λ e. absurd cc) x)
          (refusals_landed net P rs s.vis.book s.vis.air p v.refusals);
    }

by_outside : (E : Placement) (w : Version) (b : Clock) → By E w → inside b w ≡ false → b E.origin < E.number
by_outside E w b y f = rw (y.number, y.origin) at (leb-false _ _ f)

-- a conflict is a cause
pub conflict_cause : (net : Net) (s : State) (m : Message) (k : ℕ) (o : Conflict) → Invariant net s → (s.vis.records m.tx).phase ≡ Closing → m.bound ≡ (s.vis.records m.tx).bound → m.bound ⊑ s.vis.clocks (net.home k) → Drafted (s.vis.records m.tx).drafts k → Evidence net s.vis m k o →
    Justified net (intents s.vis.records) s.placed s.vis.book m.tx (record { key = k; conflict = o })
conflict_cause net s m k o v c b l d x = record { drafted = rw is d; cause = go o x }
  where
    r : Record
    r = s.vis.records m.tx

    is : intent r ≡ record { bound = r.bound; drafts = r.drafts }
    is = intent_shut r (ap has_closed c)

    bound_is : (intent r).bound ≡ m.bound
    bound_is = ap (λ (x : Intent). x.bound) is ∙ sym b

    go : (o : Conflict) → Evidence net s.vis m k o → Says (Rival (intents s.vis.records) s.placed m.tx k) Any (IsPlaced s.placed) (length (s.vis.book k) ≡ net.depth) o
    go Full f = f
    go (HeldBy o w) (h, g, e, n, t, _) = (
      subst (Rival (intents s.vis.records) s.placed m.tx k) t (record {
        other = n;
        drafted = v.holders.meant k h.tx (h, g, e, refl);
        outside = λ E w t u.
            let u' : E.number ≤ m.bound E.origin = rw bound_is at u in
            v.holders.after k E w (h, g, e, sym t) (omega (arith, u', l E.origin));
      }),
      tt,
    )
    go (Newer o' w' n') (w, q, f, eo, ew, en) =
        let x = newest_by s.placed (s.vis.clocks (net.home k)) k w (sym (ap newest (v.books k)) ∙ q) in
        let E = x.0 in
        let et : E.tx ≡ w' = sym x.3.writer ∙ ew in (
          subst (Rival (intents s.vis.records) s.placed m.tx k) et (record {
            other = placed-other s.placed s.vis.records E m.tx v.granteds x.1 (differ Closing Granted refl c);
            drafted = rw (placed_intent s.placed s.vis.records E v.granteds x.1) x.2;
            outside = λ F h t u.
                let e : F ≡ E = placed-once s.placed s.vis.records F E v.granteds h x.1 t in
                let u' : E.number ≤ m.bound E.origin = rw (bound_is, e) at u in
                omega (arith, u', by_outside E w m.bound x.3 f);
          }),
          (E, x.1, et, sym x.3.origin ∙ eo, sym x.3.number ∙ en),
        )

pub objects_keeps : (net : Net) (s : State) (p : ℕ) (m : Message) (lines : List Draft) (k : Objection) → Invariant net s → Ripe net s.vis p m → m.body ≡ prepare lines → Drafted lines k.key → Evidence net s.vis m k.key k.conflict →
    Invariant net (on s (voted net s.vis p m (Some k)))
objects_keeps net s p m lines k v ripe e d x =
    let a = ripe.there in
    let P = s.placed in
    let rs = s.vis.records in
    let rest = without s.vis.air p in
    let q = message m.tx m.to m.from m.bound (vote (Some k)) in
    let b = v.votes.sound m (in_at s.vis.air p m a) (ap is_ballot e) in
    let at_home = homed-drafted net m.to (rs m.tx).drafts k.key (subst (λ ds. Drafted ds k.key) (b.lines lines e) d) in
    let why : Justified net (intents rs) P s.vis.book m.tx k =
    conflict_cause net s m k.key k.conflict v b.closing b.bound (subst (λ (t : ℕ). m.bound ⊑ s.vis.clocks t) (sym at_home.1) ripe.caught_up) at_home.0 x in
    record {
      order = v.order;
      clocks = v.clocks;
      bounds = v.bounds;
      books = v.books;
      holders = v.holders;
      granteds = v.granteds;
      unbegun = v.unbegun;
      votes = votes_swapped net rs s.vis.held s.vis.air p m q a (ap is_ballot e) refl refl (sym (polled_prepare m lines e))
          (record {
            closing = b.closing;
            bound = b.bound;
            asker = λ ls c. absurd (cc c);
            asked = λ _ _. b.asker lines e;
            lines = λ ls c. absurd (cc c);
            holds = λ c k d o. absurd (cc c);
          })
          v.votes;
      reads = reads-sent net P rs rest s.readings (q ∷ []) (only (λ x. is_read x.body ≡ false) q refl) (reads_landed net P rs s.vis.air s.readings p m a v.reads);
      outcomes = outcomes_sent net P s.vis.clocks rest (q ∷ []) (only (λ x. is_granted x.body ≡ false) q refl) (outcomes_landed net P s.vis.clocks s.vis.air p m a (ap is_granted e) v.outcomes);
      refusals = refusals_sent net P rs s.vis.book rest (q ∷ [])
          (λ x j. only (λ x. x.body ≡ vote (Some j) → Justified net (intents rs) P s.vis.book x.tx j) q (λ c. let ek : k ≡ j = cc c in subst (λ (a : Objection). Justified net (intents rs) P s.vis.book m.tx a) ek why) x)
          (refusals_landed net P rs s.vis.book s.vis.air p v.refusals);
    }

-- ## A vote, and not the last

-- the vote of this transaction is counted
ballots-counted : (i : ℕ) (air : List Message) (p : ℕ) (m : Message) → At air p m → m.tx ≡ i → is_ballot m.body ≡ true → ballots i air ≡ suc (ballots i (without air p))
ballots-counted i air p m a t b =
    let f : Message → Bool = λ x. eqb x.tx i && is_ballot x.body in
    let e : ◌≡◌ {A = ℕ} (cond (f m) 1 0) 1 = cond-true (f m) 1 0 (and_from _ _ (eq-eqb _ _ t) b) in
    omega (arith, tally_at f air p m a, e)

ballots-other : (i : ℕ) (air : List Message) (p : ℕ) (m : Message) → At air p m → m.tx ≢ i → ballots i air ≡ ballots i (without air p)
ballots-other i air p m a t =
    let f : Message → Bool = λ x. eqb x.tx i && is_ballot x.body in
    let e : ◌≡◌ {A = ℕ} (cond (f m) 1 0) 0 = cond-false (f m) 1 0 (and_left _ _ (ne_eqb _ _ t)) in
    omega (arith, tally_at f air p m a, e)

-- the key named so far, or by this vote, is named for cause
named-cause : (net : Net) (s : State) (m : Message) (named : Option Objection) (k : Objection) → Invariant net s → In m s.vis.air → m.body ≡ vote named → (s.vis.records m.tx).phase ≡ Closing → option_or (s.vis.records m.tx).named named ≡ Some k →
    Justified net (intents s.vis.records) s.placed s.vis.book m.tx k
named-cause net s m named k v h e c q = elim (option_or_cases (s.vis.records m.tx).named named k q) [
  | inl f ↦ v.refusals.named m.tx k (ap has_closed c) f
  | inr f ↦ v.refusals.voted m k h (e ∙ ap vote f.1)
]

counts_votes : (net : Net) (rs : ℕ → Record) (held : List Held) (air : List Message) (p : ℕ) (m : Message) (named : Option Objection) → At air p m → m.body ≡ vote named → Votes net rs held air →
    Votes net (put rs m.tx (voting Closing (pred (rs m.tx).awaited) (option_or (rs m.tx).named named) (rs m.tx))) held (without air p)
counts_votes net rs held air p m named a e g =
    let i = m.tx in
    let old = rs i in
    let r = voting Closing (pred old.awaited) (option_or old.named named) old in
    let rest = without air p in
    let h = in_at air p m a in
    let b = g.sound m h (ap is_ballot e) in
    record {
      sound = λ x h c. put_case (λ j y. Ballot net (rs j) held x → Ballot net y held x) rs i r
          (λ b. record { closing = refl; bound = b.bound; asker = b.asker; asked = b.asked; lines = b.lines; holds = b.holds }) (λ j _ b. b) x.tx (g.sound x (in_without air p x h) c);
      awaited = put_case (λ j x. x.phase ≡ Closing → x.awaited ≡ ballots j rest) rs i r
          (λ _. let l : pred old.awaited ≡ ballots i rest = omega (arith, g.awaited i b.closing, ballots-counted i air p m a refl (ap is_ballot e)) in l)
          (λ j n c. g.awaited j c ∙ ballots-other j air p m a n);
      pending = λ j k. put_case (λ j x. x.phase ≡ Closing → Drafted x.drafts k → x.named ≡ None →
          Holds held k j ⊎ ((m : Message) × In m rest × (m.tx ≡ j) × (is_ballot m.body ≡ true) × (polled m ≡ net.home k))) rs i r
          (λ _ d n. let ns = option_or_parts old.named named n in
          elim (g.pending i k b.closing d ns.0) [
            | inl h ↦ inl h
            | inr x ↦ elim (in_rest air p m x.0 a x.1) [
              | inl q ↦ inl (b.holds (e ∙ ap vote ns.1) k d (sym x.4 ∙ ap polled q ∙ polled_vote m named e))
              | inr h ↦ inr (x.0, h, x.2, x.3, x.4)
            ]
          ])
          (λ j n c d o. elim (g.pending j k c d o) [
            | inl h ↦ inl h
            | inr x ↦ elim (in_rest air p m x.0 a x.1) [
              | inl q ↦ absurd (n (sym (ap (λ (y : Message). y.tx) q) ∙ x.2))
              | inr h ↦ inr (x.0, h, x.2, x.3, x.4)
            ]
          ]) j;
      over = λ x h c.
          let o = g.over x (in_without air p x h) c in
          rw (put_other rs i r x.tx (λ q. differ Closing Refused refl b.closing (ap (λ (n : ℕ). (rs n).phase) q ∙ o))) o;
    }

pub counts_keeps : (net : Net) (s : State) (p : ℕ) (m : Message) (named : Option Objection) → Invariant net s → Ripe net s.vis p m → m.body ≡ vote named → Invariant net (on s (counted net s.vis p m named))
counts_keeps net s p m named v ripe e =
    let a = ripe.there in
    let h = in_at s.vis.air p m a in
    let P = s.placed in
    let i = m.tx in
    let old = s.vis.records i in
    let r = voting Closing (pred old.awaited) (option_or old.named named) old in
    let rs = put s.vis.records i r in
    let rest = without s.vis.air p in
    let c : old.phase ≡ Closing = (v.votes.sound m h (ap is_ballot e)).closing in
    let same = same-put s.vis.records i r (inr (sym (intent_shut old (ap has_closed c)))) in
    record {
      order = v.order;
      clocks = v.clocks;
      bounds = bounds-put P s.vis.records i r (v.bounds i) v.bounds;
      books = v.books;
      holders = holders_same net (intents s.vis.records) (intents rs) P s.vis.clocks s.vis.book s.vis.held same v.holders;
      granteds = granteds_put P s.vis.records i r (differ Closing Granted refl c) v.granteds;
      unbegun = unbegun_put s.vis.begun s.vis.records i r (differ Closing Dropped refl c) v.unbegun;
      votes = counts_votes net s.vis.records s.vis.held s.vis.air p m named a e v.votes;
      reads = reads-put net P s.vis.records i r rest s.readings (differ Closing Waiting refl c) (λ q. (q, refl)) (reads_landed net P s.vis.records s.vis.air s.readings p m a v.reads);
      outcomes = outcomes_landed net P s.vis.clocks s.vis.air p m a (ap is_granted e) v.outcomes;
      refusals = refusals_put net P s.vis.records i r s.vis.book rest same (λ k _ n. named-cause net s m named k v h e c n) (λ q. absurd (differ Closing Refused refl refl q))
          (refusals_landed net P s.vis.records s.vis.book s.vis.air p v.refusals);
    }

-- ## The last vote

-- the transaction of the last vote is closing no more
pub votes_over : (net : Net) (rs : ℕ → Record) (r : Record) (held : List Held) (air : List Message) (p : ℕ) (m : Message) (named : Option Objection) → At air p m → m.body ≡ vote named → (rs m.tx).awaited ≡ 1 → (r.phase ≡ Closing → ⊥) → Votes net rs held air → Votes net (put rs m.tx r) held (without air p)
votes_over net rs r held air p m named a e one n g =
    let i = m.tx in
    let rest = without air p in
    let b = g.sound m (in_at air p m a) (ap is_ballot e) in
    let last : ballots i air ≤ 1 = omega (arith, g.awaited i b.closing, one) in
    let others : (x : Message) → In x rest → is_ballot x.body ≡ true → i ≢ x.tx = λ x h c q.
    none_left (λ y. eqb y.tx i && is_ballot y.body) air p m a (and_from _ _ (eq-eqb i i refl) (ap is_ballot e)) last x h (and_from _ _ (eq-eqb _ _ (sym q)) c) in
    record {
      sound = λ x h c. rw (put_other rs i r x.tx (others x h c)) (g.sound x (in_without air p x h) c);
      awaited = put_case (λ j x. x.phase ≡ Closing → x.awaited ≡ ballots j rest) rs i r (λ c. absurd (n c)) (λ j d c. g.awaited j c ∙ ballots-other j air p m a d);
      pending = λ j k. put_case (λ j x. x.phase ≡ Closing → Drafted x.drafts k → x.named ≡ None →
          Holds held k j ⊎ ((m : Message) × In m rest × (m.tx ≡ j) × (is_ballot m.body ≡ true) × (polled m ≡ net.home k))) rs i r
          (λ c. absurd (n c))
          (λ j d c w o. elim (g.pending j k c w o) [
            | inl h ↦ inl h
            | inr x ↦ elim (in_rest air p m x.0 a x.1) [
              | inl q ↦ absurd (d (sym (ap (λ (y : Message). y.tx) q) ∙ x.2))
              | inr h ↦ inr (x.0, h, x.2, x.3, x.4)
            ]
          ]) j;
      over = λ x h c.
          let o = g.over x (in_without air p x h) c in
          rw (put_other rs i r x.tx (λ q. differ Closing Refused refl b.closing (ap (λ (n : ℕ). (rs n).phase) q ∙ o))) o;
    }

-- keys are let go that no placed transaction has to hold
pub holders_freed : (net : Net) (I : Intents) (P : List Placement) (cs : ℕ → Clock) (book : ℕ → List Version) (held : List Held) (i t : ℕ) → ((k : ℕ) (E : Placement) → In E P → (Seen E (cs (net.home k)) → ⊥) → E.tx ≡ i → net.home k ≡ t → ⊥) →
    Holders net I P cs book held → Holders net I P cs book (freed net i t held)
holders_freed net I P cs book held i t n g =
    let was = holds_freed net i t held in
    record {
      meant = λ k j h. g.meant k j (was k j h);
      sole = λ k x y h l. g.sole k x y (was k x h) (was k y l);
      room = λ k j h. g.room k j (was k j h);
      ahead = λ k j E h. g.ahead k j E (was k j h);
      until = λ k E h d u. freed_keeps net i t held k E.tx (n k E h u) (g.until k E h d u);
      after = λ k E h l. g.after k E h (was k E.tx l);
    }

-- a property of each refused outcome
pub refuses_keeps : (net : Net) (s : State) (p : ℕ) (m : Message) (named : Option Objection) (k : Objection) → Invariant net s → Ripe net s.vis p m → m.body ≡ vote named → (s.vis.records m.tx).awaited ≡ 1 → option_or (s.vis.records m.tx).named named ≡ Some k → Invariant net (on s (refusing net s.vis p m k))
refuses_keeps net s p m named k v ripe e one q =
    let a = ripe.there in
    let h = in_at s.vis.air p m a in
    let P = s.placed in
    let i = m.tx in
    let old = s.vis.records i in
    let r = voting Refused 0 (Some k) old in
    let rs = put s.vis.records i r in
    let rest = without s.vis.air p in
    let held' = freed net i r.origin s.vis.held in
    let ms = refusals_to net i old net.towers in
    let each = each-refusal net i old net.towers in
    let now : rs i ≡ r = put_same s.vis.records i r i refl in
    let c : old.phase ≡ Closing = (v.votes.sound m h (ap is_ballot e)).closing in
    let same = same-put s.vis.records i r (inr (sym (intent_shut old (ap has_closed c)))) in
    record {
      order = v.order;
      clocks = v.clocks;
      bounds = bounds-put P s.vis.records i r (v.bounds i) v.bounds;
      books = v.books;
      holders = holders_freed net (intents rs) P s.vis.clocks s.vis.book s.vis.held i r.origin
          (λ k E h _ t _. placed-other P s.vis.records E i v.granteds h (differ Closing Granted refl c) t)
          (holders_same net (intents s.vis.records) (intents rs) P s.vis.clocks s.vis.book s.vis.held same v.holders);
      granteds = granteds_put P s.vis.records i r (differ Closing Granted refl c) v.granteds;
      unbegun = unbegun_put s.vis.begun s.vis.records i r (differ Closing Dropped refl c) v.unbegun;
      votes = votes_sent net rs held' rest ms (each (λ x. is_ballot x.body ≡ false) (λ t. refl)) (each (λ x. x.body ≡ refused → (rs x.tx).phase ≡ Refused) (λ t _. ap (λ (x : Record). x.phase) now))
          (votes_held net rs s.vis.held held' rest
          (λ k j c l. freed_keeps net i r.origin s.vis.held k j (λ x _. differ Closing Refused refl c (subst (λ (n : ℕ). (rs n).phase ≡ Refused) (sym x) (ap (λ (x : Record). x.phase) now))) l)
          (votes_over net s.vis.records r s.vis.held s.vis.air p m named a e one (differ Refused Closing refl refl) v.votes));
      reads = reads-sent net P rs rest s.readings ms (each (λ x. is_read x.body ≡ false) (λ t. refl))
          (reads-put net P s.vis.records i r rest s.readings (differ Closing Waiting refl c) (λ q. (q, refl)) (reads_landed net P s.vis.records s.vis.air s.readings p m a v.reads));
      outcomes = outcomes_sent net P s.vis.clocks rest ms (each (λ x. is_granted x.body ≡ false) (λ t. refl)) (outcomes_landed net P s.vis.clocks s.vis.air p m a (ap is_granted e) v.outcomes);
      refusals = refusals_sent net P rs s.vis.book rest ms
          (λ x j. each (λ x. x.body ≡ vote (Some j) → Justified net (intents rs) P s.vis.book x.tx j) (λ t b. absurd (cc b)) x)
          (refusals_put net P s.vis.records i r s.vis.book rest same
          (λ j _ n. let ej : k ≡ j = cc n in subst (λ (a : Objection). Justified net (intents s.vis.records) P s.vis.book i a) ej (named-cause net s m named k v h e c q))
          (λ _. (k, refl))
          (refusals_landed net P s.vis.records s.vis.book s.vis.air p v.refusals));
    }

pub releases_keeps : (net : Net) (s : State) (p : ℕ) (m : Message) → Invariant net s → At s.vis.air p m → m.body ≡ refused → Invariant net (on s (released net s.vis p m))
releases_keeps net s p m v a e =
    let P = s.placed in
    let i = m.tx in
    let o : (s.vis.records i).phase ≡ Refused = v.votes.over m (in_at s.vis.air p m a) e in
    record {
      order = v.order;
      clocks = v.clocks;
      bounds = v.bounds;
      books = v.books;
      holders = holders_freed net (intents s.vis.records) P s.vis.clocks s.vis.book s.vis.held i m.to
          (λ k E h _ t _. placed-other P s.vis.records E i v.granteds h (differ Refused Granted refl o) t) v.holders;
      granteds = v.granteds;
      unbegun = v.unbegun;
      votes = votes_held net s.vis.records s.vis.held (freed net i m.to s.vis.held) (without s.vis.air p)
          (λ k j c l. freed_keeps net i m.to s.vis.held k j (λ x _. differ Closing Refused refl c (subst (λ (n : ℕ). (s.vis.records n).phase ≡ Refused) (sym x) o)) l)
          (votes_landed net s.vis.records s.vis.held s.vis.air p m a (ap is_ballot e) v.votes);
      reads = reads_landed net P s.vis.records s.vis.air s.readings p m a v.reads;
      outcomes = outcomes_landed net P s.vis.clocks s.vis.air p m a (ap is_granted e) v.outcomes;
      refusals = refusals_landed net P s.vis.records s.vis.book s.vis.air p v.refusals;
    }
