-- A query, or an answer, that lands keeps the invariant. Assumes nothing.
use Rattle.std.proofs.Common.{◌≡◌, ℕ, ◌≤◌, Bool, true, false, cond, not, ◌&&◌, eqb, ◌≢◌, List, [], ◌∷◌, Some, Option, sym, refl, ap, ◌∙◌, subst, inl, inr, arith}
use Rattle.std.proofs.lemmas.Bool.{eq-eqb, cond-true, cond-false, and_from}
use Rattle.clocks.specs.declared.Version.{Version}
use Rattle.tables.specs.declared.Phase.TheVariants.{Open, Waiting, Closing, Granted, Refused, Dropped}
use Rattle.laws.specs.Lists.{put, In, At, without}
use Rattle.laws.specs.Net.{Clock, Record, query, answer, vote, refused, Message, Net, ◌⊑◌, newest_within, has_closed}
use Rattle.laws.proofs.Log.{versions}
use Rattle.laws.proofs.Model.{Answered, State, noting, on}
use Rattle.laws.specs.Rules.{Ripe, received, replied}
use Rattle.laws.specs.Words.{reading_at, message}
use Rattle.laws.proofs.Lists.{put_same, put_other, put_case, in_at, tally_at, none_left}
use Rattle.laws.proofs.Placed.{shown_of_book}
use Rattle.laws.proofs.Invariant.{intents, is_read, is_ballot, is_granted, reads, Fair, Justified, Invariant}
use Rattle.laws.proofs.Frames.{same-put, holders_same, granteds_put, bounds-put, unbegun_put, votes_put, refusals_put, votes_landed, votes_sent, reads_landed, outcomes_landed, outcomes_sent, refusals_landed, refusals_sent, differ, only, reads_more}

-- nothing else of the read is in the air
reads_gone : (air : List Message) (p : ℕ) (m : Message) → At air p m → is_read m.body ≡ true → reads m.tx air ≤ 1 → reads m.tx (without air p) ≡ 0
reads_gone air p m a b l =
    let q : Message → Bool = λ x. eqb x.tx m.tx && is_read x.body in
    let e : ◌≡◌ {A = ℕ} (cond (q m) 1 0) 1 = cond-true (q m) 1 0 (and_from _ _ (eq-eqb m.tx m.tx refl) b) in
    omega (arith, tally_at q air p m a, e, l)

other-read : (air : List Message) (p : ℕ) (m : Message) → At air p m → is_read m.body ≡ true → reads m.tx air ≤ 1 → (x : Message) → In x (without air p) → is_read x.body ≡ true → m.tx ≢ x.tx
other-read air p m a b l x h c e =
    none_left (λ x. eqb x.tx m.tx && is_read x.body) air p m a (and_from _ _ (eq-eqb m.tx m.tx refl) b) l x h (and_from _ _ (eq-eqb _ _ (sym e)) c)

pub replies_keeps : (net : Net) (s : State) (p : ℕ) (m : Message) (k : ℕ) (first : Bool) → Invariant net s → Ripe net s.vis p m → m.body ≡ query k first → Invariant net (on s (replied net s.vis p m k first))
replies_keeps net s p m k first v ripe e =
    let a = ripe.there in
    let h = in_at s.vis.air p m a in
    let rd : is_read m.body ≡ true = ap is_read e in
    let g = v.reads in
    let P = s.placed in
    let rs = s.vis.records in
    let asked = g.asked m k first h e in
    let c : Clock = cond first (s.vis.clocks m.to) m.bound in
    let shown = newest_within c (s.vis.book k) in
    let q = message m.tx m.to m.from c (answer k shown) in
    let rest = without s.vis.air p in
    let fair : Fair P c = elim first as (λ b. Fair P (cond b (s.vis.clocks m.to) m.bound)) [
      | true ↦ record { behind = v.clocks.behind m.to; closed = v.clocks.closed m.to }
      | false ↦ rw asked.0 (v.bounds m.tx)
    ] in
    let passed : c ⊑ s.vis.clocks m.to = elim first as (λ b. cond b (s.vis.clocks m.to) m.bound ⊑ s.vis.clocks m.to) [
      | true ↦ λ j. omega arith
      | false ↦ ripe.caught_up
    ] in
    let right : shown ≡ newest_within c (versions P k) =
    ap (newest_within c) (v.books k) ∙ shown_of_book c (s.vis.clocks (net.home k)) P k (subst (λ (t : ℕ). c ⊑ s.vis.clocks t) asked.2 passed) in
    record {
      order = v.order;
      clocks = v.clocks;
      bounds = v.bounds;
      books = v.books;
      holders = v.holders;
      granteds = v.granteds;
      unbegun = v.unbegun;
      votes = votes_sent net rs s.vis.held rest (q ∷ []) (only (λ x. is_ballot x.body ≡ false) q refl)
          (only (λ x. x.body ≡ refused → (rs x.tx).phase ≡ Refused) q (λ e. absurd (cc e)))
          (votes_landed net rs s.vis.held s.vis.air p m a (ap is_ballot e) v.votes);
      reads = reads_more net P rs rest s.readings q (record {
        waiting = g.waiting m h rd;
        asked = λ k' f b. absurd (cc b);
        fair = λ k' w b. fair;
        right = λ k' w b. let ek : k ≡ k' = cc in let ew : shown ≡ w = cc in sym ew ∙ right ∙ ap (λ (n : ℕ). newest_within c (versions P n)) ek;
        again = λ k' w b t.
            let f : first ≡ false = asked.1 ∙ ap not t in
            cond-false first (s.vis.clocks m.to) m.bound f ∙ asked.0;
      })
          (reads_gone s.vis.air p m a rd (g.single m.tx))
          (reads_landed net P rs s.vis.air s.readings p m a g);
      outcomes = outcomes_sent net P s.vis.clocks rest (q ∷ []) (only (λ x. is_granted x.body ≡ false) q refl)
          (outcomes_landed net P s.vis.clocks s.vis.air p m a (ap is_granted e) v.outcomes);
      refusals = refusals_sent net P rs s.vis.book rest (q ∷ [])
          (λ x j. only (λ x. x.body ≡ vote (Some j) → Justified net (intents rs) P s.vis.book x.tx j) q (λ e. absurd (cc e)) x)
          (refusals_landed net P rs s.vis.book s.vis.air p v.refusals);
    }

pub receives_keeps : (net : Net) (s : State) (p : ℕ) (m : Message) (k : ℕ) (shown : Option Version) → Invariant net s → At s.vis.air p m → m.body ≡ answer k shown → Invariant net (noting s (record { tx = m.tx; key = k; shown = shown }) (received net s.vis p m k shown))
receives_keeps net s p m k shown v a e =
    let h = in_at s.vis.air p m a in
    let rd : is_read m.body ≡ true = ap is_read e in
    let g = v.reads in
    let P = s.placed in
    let i = m.tx in
    let old = s.vis.records i in
    let r = reading_at m.bound old in
    let rs = put s.vis.records i r in
    let rest = without s.vis.air p in
    let w : old.phase ≡ Waiting = g.waiting m h rd in
    let same = same-put s.vis.records i r (inl (ap has_closed w)) in
    let others : (x : Message) → In x rest → is_read x.body ≡ true → rs x.tx ≡ s.vis.records x.tx =
    λ x h b. put_other s.vis.records i r x.tx (other-read s.vis.air p m a rd (g.single i) x h b) in
    let l = reads_landed net P s.vis.records s.vis.air s.readings p m a g in
    let now : rs i ≡ r = put_same s.vis.records i r i refl in
    record {
      order = v.order;
      clocks = v.clocks;
      bounds = bounds-put P s.vis.records i r (g.fair m k shown h e) v.bounds;
      books = v.books;
      holders = holders_same net (intents s.vis.records) (intents rs) P s.vis.clocks s.vis.book s.vis.held same v.holders;
      granteds = granteds_put P s.vis.records i r (differ Waiting Granted refl w) v.granteds;
      unbegun = unbegun_put s.vis.begun s.vis.records i r (differ Waiting Dropped refl w) v.unbegun;
      votes = votes_put net s.vis.records i r s.vis.held rest (differ Waiting Closing refl w) (differ Waiting Refused refl w) (λ c. absurd (differ Open Closing refl refl c))
          (votes_landed net s.vis.records s.vis.held s.vis.air p m a (ap is_ballot e) v.votes);
      reads = record {
        waiting = λ x h b. rw (others x h b) (l.waiting x h b);
        single = l.single;
        asked = λ x k first h b. rw (others x h (ap is_read b)) (l.asked x k first h b);
        fair = l.fair;
        right = l.right;
        again = λ x k v h b. rw (others x h (ap is_read b)) (l.again x k v h b);
        told = λ d h. elim h [
          | inl q ↦ subst (λ (d : Answered). (rs d.tx).answered ≡ true) (sym q) (ap (λ (x : Record). x.answered) now)
          | inr h ↦ put_case (λ j x. (s.vis.records j).answered ≡ true → x.answered ≡ true) s.vis.records i r (λ _. refl) (λ j _ a. a) d.tx (g.told d h)
        ];
        shown = λ d h. elim h [
          | inl q ↦ subst (λ (d : Answered). d.shown ≡ newest_within (rs d.tx).bound (versions P d.key)) (sym q) (rw now (g.right m k shown (in_at s.vis.air p m a) e))
          | inr h ↦ put_case (λ j x. (s.vis.records j).answered ≡ true → d.shown ≡ newest_within (s.vis.records j).bound (versions P d.key) → d.shown ≡ newest_within x.bound (versions P d.key)) s.vis.records i r
              (λ t b. rw (g.again m k shown (in_at s.vis.air p m a) e t) b) (λ j _ _ b. b) d.tx (g.told d h) (g.shown d h)
        ];
      };
      outcomes = outcomes_landed net P s.vis.clocks s.vis.air p m a (ap is_granted e) v.outcomes;
      refusals = refusals_put net P s.vis.records i r s.vis.book rest same (λ k t n. absurd (cc t)) (λ q. absurd (differ Open Refused refl refl q))
          (refusals_landed net P s.vis.records s.vis.book s.vis.air p v.refusals);
    }
