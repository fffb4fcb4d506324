-- The calls that deliver nothing keep the invariant. Assumes nothing.
use Rattle.std.proofs.Common.{◌≡◌, ℕ, zero, suc, ◌<◌, Bool, true, false, cond, not, ◌&&◌, eqb, ◌≢◌, ◌⊎◌, List, [], ◌∷◌, ◌++◌, length, Some, None, sym, refl, ap, ◌∙◌, inl, inr, arith}
use Rattle.std.proofs.lemmas.Bool.{eq-eqb, ne_eqb, eqb-true, eqb-false, cases_eq, cases_Bool, both_ways, and_left, and_from, and_parts}
use Rattle.messages.specs.declared.Draft.{Draft}
use Rattle.tables.specs.declared.Phase.TheVariants.{Open, Waiting, Closing, Granted, Refused, Dropped}
use Rattle.messages.specs.declared.Objection.{Objection}
use Rattle.laws.specs.Lists.{put, In, tally}
use Rattle.laws.specs.Net.{Record, query, vote, refused, Message, Net, Drafted, has_closed}
use Rattle.laws.proofs.Model.{State, on}
use Rattle.laws.specs.State.{amended}
use Rattle.laws.specs.Rules.{asked, begun_at, closed}
use Rattle.laws.specs.Words.{blank, opened, in_phase, drafting, voting, message, unless_none, homed, prepare_to, prepares}
use Rattle.laws.proofs.Lists.{put_same, put_other, put_case, in_left, in_right, in_append, tally-append, tally-none}
use Rattle.laws.proofs.Sent.{each-prepare}
use Rattle.laws.proofs.Invariant.{intents, is_read, is_ballot, is_granted, polled, reads, ballots, Holds, Ballot, Votes, Justified, Invariant}
use Rattle.laws.proofs.Frames.{same-put, holders_same, granteds_put, bounds-put, unbegun_put, votes_put, reads-put, refusals_put, votes_sent, reads-sent, outcomes_sent, refusals_sent, differ, only, reads_more}

-- what a call other than a close does to an open transaction
pub record Amends (old new : Record) : Type 0 where
  pub bound : new.bound ≡ old.bound
  pub answered : new.answered ≡ old.answered
  pub going : new.phase ≡ Closing → ⊥
  pub unrefused : new.phase ≡ Refused → ⊥
  pub unnamed : (k : Objection) → has_closed new.phase ≡ true → new.named ≡ Some k → ⊥

pub amend_open : (net : Net) (s : State) (i : ℕ) (r : Record) → Invariant net s → (s.vis.records i).phase ≡ Open → Amends (s.vis.records i) r → Invariant net (on s (amended s.vis i r))
amend_open net s i r v o a =
    let same = same-put s.vis.records i r (inl (ap has_closed o)) in
    record {
      order = v.order;
      clocks = v.clocks;
      bounds = bounds-put s.placed s.vis.records i r (rw a.bound (v.bounds i)) v.bounds;
      books = v.books;
      holders = holders_same net (intents s.vis.records) (intents (put s.vis.records i r)) s.placed s.vis.clocks s.vis.book s.vis.held same v.holders;
      granteds = granteds_put s.placed s.vis.records i r (differ Open Granted refl o) v.granteds;
      unbegun = unbegun_put s.vis.begun s.vis.records i r (differ Open Dropped refl o) v.unbegun;
      votes = votes_put net s.vis.records i r s.vis.held s.vis.air (differ Open Closing refl o) (differ Open Refused refl o) (λ c. absurd (a.going c)) v.votes;
      reads = reads-put net s.placed s.vis.records i r s.vis.air s.readings (differ Open Waiting refl o) (λ q. (a.answered ∙ q, a.bound)) v.reads;
      outcomes = v.outcomes;
      refusals = refusals_put net s.placed s.vis.records i r s.vis.book s.vis.air same (λ k t n. absurd (a.unnamed k t n)) (λ q. absurd (a.unrefused q)) v.refusals;
    }

pub drops_keeps : (net : Net) (s : State) (i : ℕ) → Invariant net s → (s.vis.records i).phase ≡ Open → Invariant net (on s (amended s.vis i (in_phase Dropped (s.vis.records i))))
drops_keeps net s i v o = amend_open net s i (in_phase Dropped (s.vis.records i)) v o (record {
  bound = refl;
  answered = refl;
  going = differ Dropped Closing refl refl;
  unrefused = differ Dropped Refused refl refl;
  unnamed = λ k t n. cc t;
})

pub drafts_keeps : (net : Net) (s : State) (i : ℕ) (ds : List Draft) → Invariant net s → (s.vis.records i).phase ≡ Open → Invariant net (on s (amended s.vis i (drafting ds (s.vis.records i))))
drafts_keeps net s i ds v o = amend_open net s i (drafting ds (s.vis.records i)) v o (record {
  bound = refl;
  answered = refl;
  going = differ Open Closing refl o;
  unrefused = differ Open Refused refl o;
  unnamed = λ k t n. both_ways (has_closed (s.vis.records i).phase) (ap has_closed o) t;
})

pub closes_empty_keeps : (net : Net) (s : State) (i : ℕ) → Invariant net s → (s.vis.records i).phase ≡ Open → Invariant net (on s (amended s.vis i (voting Granted 0 None (s.vis.records i))))
closes_empty_keeps net s i v o = amend_open net s i (voting Granted 0 None (s.vis.records i)) v o (record {
  bound = refl;
  answered = refl;
  going = differ Granted Closing refl refl;
  unrefused = differ Granted Refused refl refl;
  unnamed = λ k t n. cc n;
})

-- a transaction that is not waiting has nothing of a read in the air
no_reads : (net : Net) (s : State) (i : ℕ) → Invariant net s → (s.vis.records i).phase ≢ Waiting → reads i s.vis.air ≡ 0
no_reads net s i v o = tally-none (λ m. eqb m.tx i && is_read m.body) s.vis.air (λ m h. go m h (cases_Bool (eqb m.tx i && is_read m.body)))
  where
    go : (m : Message) → In m s.vis.air → ((eqb m.tx i && is_read m.body) ≡ true) ⊎ ((eqb m.tx i && is_read m.body) ≡ false) → (eqb m.tx i && is_read m.body) ≡ false
    go m h (inr e) = e
    go m h (inl e) =
        let p = and_parts (eqb m.tx i) (is_read m.body) e in
        absurd (o (sym (ap (λ (n : ℕ). (s.vis.records n).phase) (eqb-true _ _ p.0)) ∙ v.reads.waiting m h p.1))

no_ballots : (net : Net) (s : State) (i : ℕ) → Invariant net s → (s.vis.records i).phase ≢ Closing → ballots i s.vis.air ≡ 0
no_ballots net s i v o = tally-none (λ m. eqb m.tx i && is_ballot m.body) s.vis.air (λ m h. go m h (cases_Bool (eqb m.tx i && is_ballot m.body)))
  where
    go : (m : Message) → In m s.vis.air → ((eqb m.tx i && is_ballot m.body) ≡ true) ⊎ ((eqb m.tx i && is_ballot m.body) ≡ false) → (eqb m.tx i && is_ballot m.body) ≡ false
    go m h (inr e) = e
    go m h (inl e) =
        let p = and_parts (eqb m.tx i) (is_ballot m.body) e in
        absurd (o (sym (ap (λ (n : ℕ). (s.vis.records n).phase) (eqb-true _ _ p.0)) ∙ (v.votes.sound m h p.1).closing))

pub begins_keeps : (net : Net) (s : State) (t : ℕ) → Invariant net s → Invariant net (on s (begun_at net s.vis t))
begins_keeps net s t v =
    let i = s.vis.begun in
    let rs = s.vis.records in
    let r = opened t (s.vis.clocks t) in
    let e : rs i ≡ blank = v.unbegun i (omega arith) in
    let o : (rs i).phase ≡ Dropped = ap (λ (x : Record). x.phase) e in
    let same = same-put rs i r (inl (ap has_closed o)) in
    record {
      order = v.order;
      clocks = v.clocks;
      bounds = bounds-put s.placed rs i r (record { behind = v.clocks.behind t; closed = v.clocks.closed t }) v.bounds;
      books = v.books;
      holders = holders_same net (intents rs) (intents (put rs i r)) s.placed s.vis.clocks s.vis.book s.vis.held same v.holders;
      granteds = granteds_put s.placed rs i r (differ Dropped Granted refl o) v.granteds;
      unbegun = λ j l. put_other rs i r j (omega arith) ∙ v.unbegun j (omega arith);
      votes = votes_put net rs i r s.vis.held s.vis.air (differ Dropped Closing refl o) (differ Dropped Refused refl o) (λ c. absurd (differ Open Closing refl refl c)) v.votes;
      reads = reads-put net s.placed rs i r s.vis.air s.readings (differ Dropped Waiting refl o) (λ q. absurd (both_ways _ (ap (λ (x : Record). x.answered) e) q)) v.reads;
      outcomes = v.outcomes;
      refusals = refusals_put net s.placed rs i r s.vis.book s.vis.air same (λ k t n. absurd (cc n)) (λ q. absurd (differ Open Refused refl refl q)) v.refusals;
    }

pub asks_keeps : (net : Net) (s : State) (i k : ℕ) → Invariant net s → (s.vis.records i).phase ≡ Open → Invariant net (on s (asked net s.vis i k))
asks_keeps net s i k v o =
    let old = s.vis.records i in
    let r = in_phase Waiting old in
    let w : Invariant net (on s (amended s.vis i r)) = amend_open net s i r v o (record {
      bound = refl;
      answered = refl;
      going = differ Waiting Closing refl refl;
      unrefused = differ Waiting Refused refl refl;
      unnamed = λ k t n. cc t;
    }) in
    let q = message i old.origin (net.home k) old.bound (query k (not old.answered)) in
    let rs = put s.vis.records i r in
    let at : rs i ≡ r = put_same s.vis.records i r i refl in
    record {
      order = w.order;
      clocks = w.clocks;
      bounds = w.bounds;
      books = w.books;
      holders = w.holders;
      granteds = w.granteds;
      unbegun = w.unbegun;
      votes = votes_sent net rs s.vis.held s.vis.air (q ∷ []) (only (λ x. is_ballot x.body ≡ false) q refl)
          (only (λ x. x.body ≡ refused → (rs x.tx).phase ≡ Refused) q (λ e. absurd (cc e))) w.votes;
      reads = reads_more net s.placed rs s.vis.air s.readings q (record {
        waiting = ap (λ (x : Record). x.phase) at;
        asked = λ k' first e.
            let ek : k ≡ k' = cc in
            let ef : not old.answered ≡ first = cc in
            (sym (ap (λ (x : Record). x.bound) at), sym ef ∙ sym (ap (λ (x : Record). not x.answered) at), ap net.home ek);
        fair = λ k' v e. absurd (cc e);
        right = λ k' v e. absurd (cc e);
        again = λ k' v e. absurd (cc e);
      }) (no_reads net s i v (differ Open Waiting refl o)) w.reads;
      outcomes = outcomes_sent net s.placed s.vis.clocks s.vis.air (q ∷ []) (only (λ x. is_granted x.body ≡ false) q refl) w.outcomes;
      refusals = refusals_sent net s.placed rs s.vis.book s.vis.air (q ∷ [])
          (λ m k. only (λ m. m.body ≡ vote (Some k) → Justified net (intents rs) s.placed s.vis.book m.tx k) q (λ e. absurd (cc e)) m) w.refusals;
    }

-- ## The prepares of a close

-- a line is among the drafts, at its home
pub homed-drafted : (net : Net) (t : ℕ) (ds : List Draft) (k : ℕ) → Drafted (homed net t ds) k → Drafted ds k × (net.home k ≡ t)
homed-drafted net t [] k h = absurd h
homed-drafted net t (d ∷ ds) k h = go (homed-drafted net t ds k) (eqb (net.home d.key) t) refl h
  where
    go : (Drafted (homed net t ds) k → Drafted ds k × (net.home k ≡ t)) → (b : Bool) → eqb (net.home d.key) t ≡ b → Drafted (cond b (d ∷ homed net t ds) (homed net t ds)) k → Drafted (d ∷ ds) k × (net.home k ≡ t)
    go ih true e (inl q) = (inl q, sym (ap net.home q) ∙ eqb-true _ _ e)
    go ih true e (inr q) = (inr (ih q).0, (ih q).1)
    go ih false e q = (inr (ih q).0, (ih q).1)

pub drafted-homed : (net : Net) (t : ℕ) (ds : List Draft) (k : ℕ) → net.home k ≡ t → Drafted ds k → Drafted (homed net t ds) k
drafted-homed net t [] k e h = absurd h
drafted-homed net t (d ∷ ds) k e h = go (drafted-homed net t ds k e) (eqb (net.home d.key) t) refl h
  where
    go : (Drafted ds k → Drafted (homed net t ds) k) → (b : Bool) → eqb (net.home d.key) t ≡ b → Drafted (d ∷ ds) k → Drafted (cond b (d ∷ homed net t ds) (homed net t ds)) k
    go ih true q (inl a) = inl a
    go ih true q (inr a) = inr (ih a)
    go ih false q (inl a) = absurd (eqb-false _ _ q (ap net.home a ∙ e))
    go ih false q (inr a) = ih a

unless-some : (ds : List Draft) (k : ℕ) (m : Message) → Drafted ds k → In m (unless_none ds m)
unless-some [] k m h = absurd h
unless-some (d ∷ ds) k m h = inl refl

-- each home of a drafted key is asked
pub prepares_has : (net : Net) (i : ℕ) (r : Record) (k n : ℕ) → Drafted r.drafts k → net.home k < n → In (prepare_to net i r (net.home k)) (prepares net i r n)
prepares_has net i r k zero d l = absurd (omega arith)
prepares_has net i r k (suc t) d l = go (prepares_has net i r k t d) (cases_eq (net.home k) t)
  where
    go : (net.home k < t → In (prepare_to net i r (net.home k)) (prepares net i r t)) → (net.home k ≡ t) ⊎ (net.home k ≡ t → ⊥) → In (prepare_to net i r (net.home k)) (prepares net i r (suc t))
    go ih (inr n) = in_left _ (prepares net i r t) _ (ih (omega arith))
    go ih (inl e) = in_right _ (prepares net i r t) (unless_none (homed net t r.drafts) (prepare_to net i r t))
        (rw e (unless-some (homed net t r.drafts) k (prepare_to net i r t) (drafted-homed net t r.drafts k e d)))

tally-full : (q : Message → Bool) (xs : List Message) → ((x : Message) → In x xs → q x ≡ true) → tally q xs ≡ length xs
tally-full q [] h = refl
tally-full q (x ∷ xs) h = rw (h x (inl refl)) (omega (arith, tally-full q xs (λ y g. h y (inr g))))

closes_votes : (net : Net) (s : State) (i : ℕ) → Invariant net s → (s.vis.records i).phase ≡ Open →
    let ms = prepares net i (s.vis.records i) net.towers in
    Votes net (put s.vis.records i (voting Closing (length ms) None (s.vis.records i))) s.vis.held (s.vis.air ++ ms)
closes_votes net s i v o =
    let old = s.vis.records i in
    let ms = prepares net i old net.towers in
    let r = voting Closing (length ms) None old in
    let rs = put s.vis.records i r in
    let at : rs i ≡ r = put_same s.vis.records i r i refl in
    let g = v.votes in
    let others : (m : Message) → (s.vis.records m.tx).phase ≡ Closing → rs m.tx ≡ s.vis.records m.tx = λ m c. put_other s.vis.records i r m.tx (λ q. differ Open Closing refl o (ap (λ (n : ℕ). (s.vis.records n).phase) q ∙ c)) in
    record {
      sound = λ m h b. elim (in_append m s.vis.air ms h) [
        | inl h ↦ rw (others m (g.sound m h b).closing) (g.sound m h b)
        | inr h ↦ each-prepare net i old net.towers (λ m. Ballot net (rs m.tx) s.vis.held m) (λ t. rw at (record {
          closing = refl;
          bound = refl;
          asker = λ _ _. refl;
          asked = λ n e. absurd (cc e);
          lines = λ ls e. cc;
          holds = λ e. absurd (cc e);
        })) m h
      ];
      awaited = put_case (λ j x. x.phase ≡ Closing → x.awaited ≡ ballots j (s.vis.air ++ ms)) s.vis.records i r
          (λ _. let q : Message → Bool = λ m. eqb m.tx i && is_ballot m.body in
          omega (
            arith,
            tally-append q s.vis.air ms,
            no_ballots net s i v (differ Open Closing refl o),
            tally-full q ms (each-prepare net i old net.towers (λ m. q m ≡ true) (λ t. and_from _ _ (eq-eqb i i refl) refl)),
          ))
          (λ j n c. let q : Message → Bool = λ m. eqb m.tx j && is_ballot m.body in
          omega (
            arith,
            g.awaited j c,
            tally-append q s.vis.air ms,
            tally-none q ms (each-prepare net i old net.towers (λ m. q m ≡ false) (λ t. and_left _ _ (ne_eqb i j n))),
          ));
      pending = λ j k. put_case (λ j x. x.phase ≡ Closing → Drafted x.drafts k → x.named ≡ None →
          Holds s.vis.held k j ⊎ ((m : Message) × In m (s.vis.air ++ ms) × (m.tx ≡ j) × (is_ballot m.body ≡ true) × (polled m ≡ net.home k))) s.vis.records i r
          (λ _ d _. inr (prepare_to net i old (net.home k), in_right _ s.vis.air ms (prepares_has net i old k net.towers d (net.housed k)), refl, refl, refl))
          (λ j _ c d n. elim (g.pending j k c d n) [ inl h ↦ inl h | inr x ↦ inr (x.0, in_left x.0 s.vis.air ms x.1, x.2, x.3, x.4) ]) j;
      over = λ m h b. elim (in_append m s.vis.air ms h) [
        | inl h ↦ rw (put_other s.vis.records i r m.tx (λ q. differ Open Refused refl o (ap (λ (n : ℕ). (s.vis.records n).phase) q ∙ g.over m h b))) (g.over m h b)
        | inr h ↦ absurd (each-prepare net i old net.towers (λ m. m.body ≡ refused → ⊥) (λ t e. cc e) m h b)
      ];
    }

pub closes_keeps : (net : Net) (s : State) (i : ℕ) → Invariant net s → (s.vis.records i).phase ≡ Open → Invariant net (on s (closed net s.vis i))
closes_keeps net s i v o =
    let old = s.vis.records i in
    let ms = prepares net i old net.towers in
    let r = voting Closing (length ms) None old in
    let rs = put s.vis.records i r in
    let same = same-put s.vis.records i r (inl (ap has_closed o)) in
    record {
      order = v.order;
      clocks = v.clocks;
      bounds = bounds-put s.placed s.vis.records i r (v.bounds i) v.bounds;
      books = v.books;
      holders = holders_same net (intents s.vis.records) (intents rs) s.placed s.vis.clocks s.vis.book s.vis.held same v.holders;
      granteds = granteds_put s.placed s.vis.records i r (differ Open Granted refl o) v.granteds;
      unbegun = unbegun_put s.vis.begun s.vis.records i r (differ Open Dropped refl o) v.unbegun;
      votes = closes_votes net s i v o;
      reads = reads-sent net s.placed rs s.vis.air s.readings ms (each-prepare net i old net.towers (λ m. is_read m.body ≡ false) (λ t. refl))
          (reads-put net s.placed s.vis.records i r s.vis.air s.readings (differ Open Waiting refl o) (λ q. (q, refl)) v.reads);
      outcomes = outcomes_sent net s.placed s.vis.clocks s.vis.air ms (each-prepare net i old net.towers (λ m. is_granted m.body ≡ false) (λ t. refl)) v.outcomes;
      refusals = refusals_sent net s.placed rs s.vis.book s.vis.air ms
          (λ m k h e. absurd (each-prepare net i old net.towers (λ m. m.body ≡ vote (Some k) → ⊥) (λ t q. cc q) m h e))
          (refusals_put net s.placed s.vis.records i r s.vis.book s.vis.air same (λ k _ n. absurd (cc n)) (λ q. absurd (differ Closing Refused refl refl q)) v.refusals);
    }
