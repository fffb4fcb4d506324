-- What else holds after every call: votes are awaited while a transaction closes, no key is drafted twice, no list is longer than
-- the depth, a bound only grows, and outcomes are accounted for. Assumes nothing.
use Rattle.std.proofs.Common.{◌≡◌, ℕ, zero, suc, pred, ◌+◌, ◌<◌, ◌≤◌, Bool, true, false, cond, not, ◌&&◌, eqb, ◌≢◌, ◌⊎◌, List, [], ◌∷◌, ◌++◌, length, Some, None, filter, Option, sym, refl, ap, ◌∙◌, subst, inl, inr, arith, length-append}
use Rattle.std.specs.Option.{option_or}
use Rattle.std.proofs.lemmas.Bool.{eq-eqb, ne_eqb, cases_eq, both_ways, and_from}
use Rattle.clocks.specs.declared.Version.{Version}
use Rattle.messages.specs.declared.Draft.{Draft}
use Rattle.tables.specs.declared.Call.{Call}
use Rattle.tables.specs.declared.Told.{Told}
use Rattle.tables.specs.declared.Phase.TheVariants.{Open, Waiting, Closing, Granted, Refused, Dropped}
use Rattle.messages.specs.declared.Objection.{Objection}
use Rattle.laws.proofs.Conflicts.{option_or_parts}
use Rattle.clocks.specs.declared.Content.{Content}
use Rattle.laws.specs.Lists.{put, In, At, without, tally}
use Rattle.laws.specs.Net.{Clock, Record, query, answer, prepare, vote, granted, refused, Message, Placement, Net, ◌⊑◌, Drafted, written, newest_within, is_ballot, is_granted}
use Rattle.laws.proofs.Log.{Seen}
use Rattle.laws.proofs.Model.{Logged, State, by_step, next, on, start, then}
use Rattle.laws.specs.Rules.{Ripe, Rule, agrees, asks, begins, begun_at, closed, closes, closes_empty, counts, drafts, drops, grants, receives, releases, reads_own, objects, refuses, replies, takes_in}
use Rattle.laws.specs.State.{granted_record, Visible, amended}
use Rattle.laws.specs.Words.{opened, in_phase, drafting, reading_at, voting, placed_as, message, redrafted, homed, prepares, prepare_to, granted_to, grants_to, refusals_to, Event}
use Rattle.laws.proofs.Lists.{put_other, put_all, put_keeps, in_at, in_append, in_without, none_left}
use Rattle.laws.proofs.Sent.{each-prepare, each_grant, each-refusal}
use Rattle.laws.proofs.Placed.{drafted?, written_none}
use Rattle.laws.proofs.Invariant.{Holds, Invariant, is_read}
use Rattle.laws.proofs.Frames.{only, differ, placed-other, outcomes_landed}
use Rattle.laws.proofs.Calls.{homed-drafted, prepares_has}
use Rattle.laws.proofs.TakeIn.{passed, added}
use Rattle.laws.proofs.Granting.{grants_holds}
use Rattle.laws.proofs.Ranges.{message-begun}
use Rattle.laws.proofs.Stand.{run_holds}
use Rattle.laws.proofs.Owed.{Owed, owed_landed, owed_sent, took_owed, grants_owed}

abbrev pub Ready : (ℕ → Record) → Type 0
Ready rs = (i : ℕ) → (rs i).phase ≡ Closing → 0 < (rs i).awaited

-- how often the key is drafted
abbrev pub drafts_of : ℕ → List Draft → ℕ
drafts_of k ds = tally (λ d. eqb d.key k) ds

abbrev pub Tidy : (ℕ → Record) → Type 0
Tidy rs = (i k : ℕ) → drafts_of k (rs i).drafts ≤ 1

abbrev pub Roomy : Net → (ℕ → List Version) → Type 0
Roomy net book = (k : ℕ) → length (book k) ≤ net.depth

abbrev pub Growing : (ℕ → Record) → List Message → Type 0
Growing rs air = (m : Message) (k : ℕ) (v : Option Version) → In m air → m.body ≡ answer k v → (rs m.tx).bound ⊑ m.bound

pub record More (net : Net) (s : State) : Type 0 where
  pub ready : Ready s.vis.records
  pub tidy : Tidy s.vis.records
  pub roomy : Roomy net s.vis.book
  pub growing : Growing s.vis.records s.vis.air
  pub owed : Owed net s.placed s.vis.clocks s.vis.air

-- ## Records

ready_put : (rs : ℕ → Record) (i : ℕ) (r : Record) → Ready rs → (r.phase ≡ Closing → 0 < r.awaited) → Ready (put rs i r)
ready_put rs i r g e = put_all (λ x. x.phase ≡ Closing → 0 < x.awaited) rs i r e g

tidy_put : (rs : ℕ → Record) (i : ℕ) (r : Record) → Tidy rs → ((k : ℕ) → drafts_of k r.drafts ≤ 1) → Tidy (put rs i r)
tidy_put rs i r g e j k = put_all (λ x. drafts_of k x.drafts ≤ 1) rs i r (e k) (λ j. g j k) j

growing_put : (rs : ℕ → Record) (i : ℕ) (r : Record) (air : List Message) → r.bound ≡ (rs i).bound → Growing rs air → Growing (put rs i r) air
growing_put rs i r air e g m k v h b = rw (put_keeps (λ x. x.bound) rs i r e m.tx) (g m k v h b)

growing_landed : (rs : ℕ → Record) (air : List Message) (p : ℕ) → Growing rs air → Growing rs (without air p)
growing_landed rs air p g m k v h = g m k v (in_without air p m h)

growing_sent : (rs : ℕ → Record) (air ms : List Message) → Growing rs ms → Growing rs air → Growing rs (air ++ ms)
growing_sent rs air ms f g m k v h = elim (in_append m air ms h) [ inl h ↦ g m k v h | inr h ↦ f m k v h ]

-- what is sent has no answer
abbrev Dumb : Message → Type 0
Dumb m = (k : ℕ) (v : Option Version) → m.body ≡ answer k v → ⊥

growing_dumb : (rs : ℕ → Record) (ms : List Message) → ((m : Message) → In m ms → Dumb m) → Growing rs ms
growing_dumb rs ms f m k v h b = absurd (f m h k v b)

ballot_dumb : (m : Message) → is_ballot m.body ≡ true → Dumb m
ballot_dumb m e k v b = both_ways false refl (sym (ap is_ballot b) ∙ e)

-- ## Drafts

redraft_other : (k : ℕ) (v : Content) (j : ℕ) (ds : List Draft) → k ≢ j → drafts_of j (redrafted k v ds) ≡ drafts_of j ds
redraft_other k v j [] d = rw (ne_eqb k j d) (omega arith)
redraft_other k v j (x ∷ ds) d = go (redraft_other k v j ds d) (cases_eq x.key k)
  where
    go : drafts_of j (redrafted k v ds) ≡ drafts_of j ds → (x.key ≡ k) ⊎ (x.key ≡ k → ⊥) → drafts_of j (cond (eqb x.key k) (record { key = k; content = v } ∷ ds) (x ∷ redrafted k v ds)) ≡ drafts_of j (x ∷ ds)
    go ih (inl e) = rw (eq-eqb x.key k e, e)
    go ih (inr n) = rw (ne_eqb x.key k n, ih)

redraft_same : (k : ℕ) (v : Content) (ds : List Draft) → drafts_of k ds ≤ 1 → drafts_of k (redrafted k v ds) ≤ 1
redraft_same k v [] l = rw (eq-eqb k k refl) (omega arith)
redraft_same k v (x ∷ ds) l = go (redraft_same k v ds) (cases_eq x.key k)
  where
    go : (drafts_of k ds ≤ 1 → drafts_of k (redrafted k v ds) ≤ 1) → (x.key ≡ k) ⊎ (x.key ≡ k → ⊥) → drafts_of k (cond (eqb x.key k) (record { key = k; content = v } ∷ ds) (x ∷ redrafted k v ds)) ≤ 1
    go ih (inl e) =
        let l' : cond (eqb k k) 1 0 + drafts_of k ds ≤ 1 = subst (λ (y : ℕ). cond (eqb y k) 1 0 + drafts_of k ds ≤ 1) e l in
        rw (eq-eqb x.key k e) l'
    go ih (inr n) =
        let l' : 0 + drafts_of k ds ≤ 1 = rw (ne_eqb x.key k n) at l in
        rw (ne_eqb x.key k n, ne_eqb x.key k n) (omega (arith, ih (omega (arith, l'))))

redraft_tidy : (k : ℕ) (v : Content) (j : ℕ) (ds : List Draft) → ((i : ℕ) → drafts_of i ds ≤ 1) → drafts_of j (redrafted k v ds) ≤ 1
redraft_tidy k v j ds g = elim (cases_eq k j) [
  | inl e ↦ subst (λ (n : ℕ). drafts_of n (redrafted k v ds) ≤ 1) e (redraft_same k v ds (g k))
  | inr n ↦ omega (arith, redraft_other k v j ds n, g j)
]

length-written : (w o n : ℕ) (ds : List Draft) (k : ℕ) → length (written w o n ds k) ≡ drafts_of k ds
length-written w o n [] k = refl
length-written w o n (d ∷ ds) k = go (length-written w o n ds k) (eqb d.key k)
  where
    go : length (written w o n ds k) ≡ drafts_of k ds → (b : Bool) → length (cond b (record { writer = w; origin = o; number = n; content = d.content } ∷ written w o n ds k) (written w o n ds k)) ≡ cond b 1 0 + drafts_of k ds
    go ih true = omega (arith, ih)
    go ih false = omega (arith, ih)

pub filter_fewer : {A : Type 0} (q f : A → Bool) (xs : List A) → tally q (filter f xs) ≤ tally q xs
filter_fewer q f [] = omega arith
filter_fewer q f (x ∷ xs) = go (filter_fewer q f xs) (f x)
  where
    go : tally q (filter f xs) ≤ tally q xs → (b : Bool) → tally q (cond b (x ∷ filter f xs) (filter f xs)) ≤ tally q (x ∷ xs)
    go ih true = omega (arith, ih)
    go ih false = omega (arith, ih)

-- ## Room

-- a tower takes in what has its keys held
added_roomy : (net : Net) (book : ℕ → List Version) (t : ℕ) (T : Placement) → ((k : ℕ) → drafts_of k T.drafts ≤ 1) → ((k : ℕ) → Drafted T.drafts k → net.home k ≡ t → length (book k) ≡ net.depth → ⊥) → Roomy net book → Roomy net (added net book t T)
added_roomy net book t T tidy room g k = go (drafted? (homed net t T.drafts) k)
  where
    ls : List Draft
    ls = homed net t T.drafts

    total : length (added net book t T k) ≡ length (book k) + length (written T.tx T.origin T.number ls k)
    total = length-append (book k) (written T.tx T.origin T.number (homed net t T.drafts) k)

    go : Drafted (homed net t T.drafts) k ⊎ (Drafted (homed net t T.drafts) k → ⊥) → length (added net book t T k) ≤ net.depth
    go (inl d) =
        let x = homed-drafted net t T.drafts k d in
        omega (arith, total, length-written T.tx T.origin T.number ls k, filter_fewer (λ d. eqb d.key k) (λ d. eqb (net.home d.key) t) T.drafts, tidy k, g k, room k x.0 x.1)
    go (inr n) = omega (arith, total, ap length (written_none T.tx T.origin T.number ls k n), g k)

-- ## The steps

no_outcome : (m : Message) → is_ballot m.body ≡ true → is_granted m.body ≡ false
no_outcome m e = elim m.body as (λ b. is_ballot b ≡ true → is_granted b ≡ false) [
  | query k f ↦ λ _. refl
  | answer k v ↦ λ _. refl
  | prepare ls ↦ λ _. refl
  | vote n ↦ λ _. refl
  | granted n ls ↦ λ e. absurd (cc e)
  | refused ↦ λ _. refl
] e

begins-more : (net : Net) (s : State) (t : ℕ) → Invariant net s → More net s → More net (on s (begun_at net s.vis t))
begins-more net s t v g =
    let r = opened t (s.vis.clocks t) in
    record {
      ready = ready_put s.vis.records s.vis.begun r g.ready (λ c. absurd (differ Open Closing refl refl c));
      tidy = tidy_put s.vis.records s.vis.begun r g.tidy (λ k. omega arith);
      roomy = g.roomy;
      growing = λ m k w h b. rw (put_other s.vis.records s.vis.begun r m.tx (λ e. omega (arith, e, message-begun net s m v h))) (g.growing m k w h b);
      owed = g.owed;
    }

-- a record's phase, drafts or votes change, and nothing else
amend_more : (net : Net) (s : State) (i : ℕ) (r : Record) → More net s → (r.phase ≡ Closing → 0 < r.awaited) → ((k : ℕ) → drafts_of k r.drafts ≤ 1) → r.bound ≡ (s.vis.records i).bound →
    More net (on s (amended s.vis i r))
amend_more net s i r g a b c = record {
  ready = ready_put s.vis.records i r g.ready a;
  tidy = tidy_put s.vis.records i r g.tidy b;
  roomy = g.roomy;
  growing = growing_put s.vis.records i r s.vis.air c g.growing;
  owed = g.owed;
}

-- a message that is no granted outcome lands, and others that are none and no answers are sent
swap_growing : (rs : ℕ → Record) (air : List Message) (p : ℕ) (ms : List Message) → ((m : Message) → In m ms → Dumb m) → Growing rs air → Growing rs (without air p ++ ms)
swap_growing rs air p ms f g = growing_sent rs (without air p) ms (growing_dumb rs ms f) (growing_landed rs air p g)

swap_owed : (net : Net) (P : List Placement) (cs : ℕ → Clock) (air : List Message) (p : ℕ) (m : Message) (ms : List Message) → At air p m → is_granted m.body ≡ false → ((x : Message) → In x ms → is_granted x.body ≡ false) → Owed net P cs air → Owed net P cs (without air p ++ ms)
swap_owed net P cs air p m ms a e f g = owed_sent net P cs (without air p) ms f (owed_landed net P cs air p m a e g)

some-prepare : (net : Net) (i : ℕ) (r : Record) (ds : List Draft) → r.drafts ≡ ds → ds ≢ [] → 0 < length (prepares net i r net.towers)
some-prepare net i r [] e n = absurd (n refl)
some-prepare net i r (d ∷ ds) e n = some (prepare_to net i r (net.home d.key)) (prepares net i r net.towers) (prepares_has net i r d.key net.towers (rw e (inl refl)) (net.housed d.key))
  where
    some : (x : Message) (ms : List Message) → In x ms → 0 < length ms
    some x [] h = absurd h
    some x (m ∷ ms) h = omega arith

closes-more : (net : Net) (s : State) (i : ℕ) → (s.vis.records i).drafts ≢ [] → More net s →
    More net (on s (closed net s.vis i))
closes-more net s i n g =
    let ms = prepares net i (s.vis.records i) net.towers in
    let r = voting Closing (length ms) None (s.vis.records i) in
    let each = each-prepare net i (s.vis.records i) net.towers in
    record {
      ready = ready_put s.vis.records i r g.ready (λ _. some-prepare net i (s.vis.records i) (s.vis.records i).drafts refl n);
      tidy = tidy_put s.vis.records i r g.tidy (g.tidy i);
      roomy = g.roomy;
      growing = growing_sent (put s.vis.records i r) s.vis.air ms (growing_dumb (put s.vis.records i r) ms (each Dumb (λ t. ballot_dumb (prepare_to net i (s.vis.records i) t) refl))) (growing_put s.vis.records i r s.vis.air refl g.growing);
      owed = owed_sent net s.placed s.vis.clocks s.vis.air ms (each (λ x. is_granted x.body ≡ false) (λ t. refl)) g.owed;
    }

grants-more : (net : Net) (s : State) (p : ℕ) (m : Message) (named : Option Objection) → Invariant net s → More net s → Ripe net s.vis p m → m.body ≡ vote named → (s.vis.records m.tx).awaited ≡ 1 → option_or (s.vis.records m.tx).named named ≡ None →
    (let o = (s.vis.records m.tx).origin in
    let r = granted_record s.vis m.tx in
    let T = placed_as m.tx r in
    (Ready (put s.vis.records m.tx r) × Tidy (put s.vis.records m.tx r) × Roomy net (added net s.vis.book o T) × Growing (put s.vis.records m.tx r) (without s.vis.air p ++ grants_to net T net.towers) ×
    Owed net (T ∷ s.placed) (passed s.vis.clocks o T) (without s.vis.air p ++ grants_to net T net.towers)))
grants-more net s p m named v g ripe e one q =
    let a = ripe.there in
    let i = m.tx in
    let old = s.vis.records i in
    let o = old.origin in
    let r = granted_record s.vis i in
    let T = placed_as i r in
    let b = v.votes.sound m (in_at s.vis.air p m a) (ap is_ballot e) in
    let ms = grants_to net T net.towers in
    let all : (k : ℕ) → Drafted T.drafts k → Holds s.vis.held k T.tx = grants_holds net s p m named v a e one (option_or_parts old.named named q) in (
      ready_put s.vis.records i r g.ready (λ c. absurd (differ Granted Closing refl refl c)),
      tidy_put s.vis.records i r g.tidy (g.tidy i),
      added_roomy net s.vis.book o T (g.tidy i) (λ k d _. v.holders.room k i (all k d)) g.roomy,
      growing_sent (put s.vis.records i r) (without s.vis.air p) ms (growing_dumb (put s.vis.records i r) ms (each_grant net T net.towers Dumb (λ t k w x. cc x)))
          (growing_put s.vis.records i r (without s.vis.air p) refl (growing_landed s.vis.records s.vis.air p g.growing)),
      grants_owed net s.placed s.vis.clocks (without s.vis.air p) T (ap suc (v.clocks.own o)) refl v.order.numbered v.clocks.behind
          (λ E l. placed-other s.placed s.vis.records E i v.granteds l (differ Closing Granted refl b.closing))
          (outcomes_landed net s.placed s.vis.clocks s.vis.air p m a (ap is_granted e) v.outcomes)
          (owed_landed net s.placed s.vis.clocks s.vis.air p m a (ap is_granted e) g.owed),
    )

takes_more : (net : Net) (s : State) (p : ℕ) (m : Message) (n : ℕ) (lines : List Draft) → Invariant net s → More net s → Ripe net s.vis p m → m.body ≡ granted n lines → suc (s.vis.clocks m.to m.from) ≡ n →
    Roomy net (λ k. s.vis.book k ++ written m.tx m.from n lines k) × Owed net s.placed (put s.vis.clocks m.to (put (s.vis.clocks m.to) m.from n)) (without s.vis.air p)
takes_more net s p m n lines v g ripe e f =
    let x = v.outcomes.meant m n lines (in_at s.vis.air p m ripe.there) e in
    go m.to x.0 x.1 x.2
  where
    go : (t : ℕ) (T : Placement) → In T s.placed → m ≡ granted_to net T t → Roomy net (λ k. s.vis.book k ++ written m.tx m.from n lines k) × Owed net s.placed (put s.vis.clocks m.to (put (s.vis.clocks m.to) m.from n)) (without s.vis.air p)
    go t T h q =
        let b : granted n lines ≡ granted T.number (homed net t T.drafts) = sym e ∙ ap (λ (x : Message). x.body) q in
        let en : n ≡ T.number = cc b in
        let el : lines ≡ homed net t T.drafts = cc b in
        let r : Ripe net s.vis p (granted_to net T t) = subst (Ripe net s.vis p) q ripe in
        let f' : suc (s.vis.clocks t T.origin) ≡ T.number = subst (λ (x : Message). suc (s.vis.clocks x.to x.from) ≡ n) q f ∙ en in
        let un : Seen T (s.vis.clocks t) → ⊥ = λ u. omega (arith, u, f') in
        let tidy : (k : ℕ) → drafts_of k T.drafts ≤ 1 = λ k. subst (λ (ds : List Draft). drafts_of k ds ≤ 1) (sym (ap (λ (x : Placement). x.drafts) (v.granteds T h).1)) (g.tidy T.tx k) in
        let room : (k : ℕ) → Drafted T.drafts k → net.home k ≡ t → length (s.vis.book k) ≡ net.depth → ⊥ = λ k d y.
        v.holders.room k T.tx (v.holders.until k T h d (subst (λ (u : ℕ). Seen T (s.vis.clocks u) → ⊥) (sym y) un)) in
        rw (en, el, q) (added_roomy net s.vis.book t T tidy room g.roomy, took_owed net s.placed s.vis.clocks s.vis.air p t T r.there f' v.order.numbered h g.owed)

receives_growing : (net : Net) (s : State) (p : ℕ) (m : Message) (k : ℕ) (shown : Option Version) → Invariant net s → At s.vis.air p m → m.body ≡ answer k shown → Growing s.vis.records s.vis.air → Growing (put s.vis.records m.tx (reading_at m.bound (s.vis.records m.tx))) (without s.vis.air p)
receives_growing net s p m k shown v a e g x j w h b =
    rw (put_other s.vis.records m.tx (reading_at m.bound (s.vis.records m.tx)) x.tx (λ q.
    none_left (λ y. eqb y.tx m.tx && is_read y.body) s.vis.air p m a (and_from _ _ (eq-eqb m.tx m.tx refl) (ap is_read e)) (v.reads.single m.tx) x h (and_from _ _ (eq-eqb _ _ (sym q)) (ap is_read b))))
    (g x j w (in_without s.vis.air p x h) b)

-- an answer's bound has passed the query's
reply_growing : (net : Net) (s : State) (p : ℕ) (m : Message) (k : ℕ) (first : Bool) → Invariant net s → Ripe net s.vis p m → m.body ≡ query k first → (s.vis.records m.tx).bound ⊑ cond {A = Clock} first (s.vis.clocks m.to) m.bound
reply_growing net s p m k first v r e j =
    let x = v.reads.asked m k first (in_at s.vis.air p m r.there) e in
    let b : m.bound j ≡ (s.vis.records m.tx).bound j = ap (λ (c : Clock). c j) x.0 in
    elim first as (λ f. (s.vis.records m.tx).bound j ≤ cond {A = Clock} f (s.vis.clocks m.to) m.bound j) [
      | true ↦ omega (arith, b, r.caught_up j)
      | false ↦ omega (arith, b)
    ]

less : (n : ℕ) → 1 < n → 0 < pred n
less zero l = absurd (omega arith)
less (suc n) l = omega arith

rule_more : (net : Net) {s : State} {v' : Visible} {c : Call} {a : Told} → Invariant net s → More net s → (x : Rule net s.vis v' c a) → More net (next net s x)
rule_more net {s} v g (begins t l _ e) = begins-more net s t v g
rule_more net {s} v g (reads_own i k d o h e) = g
rule_more net {s} v g (asks i k o _ n e) =
    let r = in_phase Waiting (s.vis.records i) in
    let q = message i (s.vis.records i).origin (net.home k) (s.vis.records i).bound (query k (not (s.vis.records i).answered)) in
    record {
      ready = ready_put s.vis.records i r g.ready (λ c. absurd (differ Waiting Closing refl refl c));
      tidy = tidy_put s.vis.records i r g.tidy (g.tidy i);
      roomy = g.roomy;
      growing = growing_sent (put s.vis.records i r) s.vis.air (q ∷ []) (growing_dumb (put s.vis.records i r) (q ∷ []) (only Dumb q (λ j w b. cc b))) (growing_put s.vis.records i r s.vis.air refl g.growing);
      owed = owed_sent net s.placed s.vis.clocks s.vis.air (q ∷ []) (only (λ x. is_granted x.body ≡ false) q refl) g.owed;
    }
rule_more net {s} v g (drafts i k w o _ _ e) = amend_more net s i (drafting (redrafted k w (s.vis.records i).drafts) (s.vis.records i)) g (λ c. absurd (differ Open Closing refl o c)) (λ j. redraft_tidy k w j (s.vis.records i).drafts (g.tidy i)) refl
rule_more net {s} v g (drops i o e) = amend_more net s i (in_phase Dropped (s.vis.records i)) g (λ c. absurd (differ Dropped Closing refl refl c)) (g.tidy i) refl
rule_more net {s} v g (closes_empty i o n e) = amend_more net s i (voting Granted 0 None (s.vis.records i)) g (λ c. absurd (differ Granted Closing refl refl c)) (g.tidy i) refl
rule_more net {s} v g (closes i o n e) = closes-more net s i n g
rule_more net {s} v g (replies p m k first r b e) =
    let c : Clock = cond first (s.vis.clocks m.to) m.bound in
    let q = message m.tx m.to m.from c (answer k (newest_within c (s.vis.book k))) in
    record {
      ready = g.ready;
      tidy = g.tidy;
      roomy = g.roomy;
      growing = growing_sent s.vis.records (without s.vis.air p) (q ∷ []) (λ x j w h y. only (λ x. (s.vis.records x.tx).bound ⊑ x.bound) q (reply_growing net s p m k first v r b) x h) (growing_landed s.vis.records s.vis.air p g.growing);
      owed = swap_owed net s.placed s.vis.clocks s.vis.air p m (q ∷ []) r.there (ap is_granted b) (only (λ x. is_granted x.body ≡ false) q refl) g.owed;
    }
rule_more net {s} v g (receives p m k shown a b e) =
    let r = reading_at m.bound (s.vis.records m.tx) in
    record {
      ready = ready_put s.vis.records m.tx r g.ready (λ c. absurd (differ Open Closing refl refl c));
      tidy = tidy_put s.vis.records m.tx r g.tidy (g.tidy m.tx);
      roomy = g.roomy;
      growing = receives_growing net s p m k shown v a b g.growing;
      owed = owed_landed net s.placed s.vis.clocks s.vis.air p m a (ap is_granted b) g.owed;
    }
rule_more net {s} v g (agrees p m lines r b n e) =
    let q = message m.tx m.to m.from m.bound (vote None) in
    record {
      ready = g.ready;
      tidy = g.tidy;
      roomy = g.roomy;
      growing = swap_growing s.vis.records s.vis.air p (q ∷ []) (only Dumb q (ballot_dumb q refl)) g.growing;
      owed = swap_owed net s.placed s.vis.clocks s.vis.air p m (q ∷ []) r.there (ap is_granted b) (only (λ x. is_granted x.body ≡ false) q refl) g.owed;
    }
rule_more net {s} v g (objects p m lines k r b y e) =
    let q = message m.tx m.to m.from m.bound (vote (Some k)) in
    record {
      ready = g.ready;
      tidy = g.tidy;
      roomy = g.roomy;
      growing = swap_growing s.vis.records s.vis.air p (q ∷ []) (only Dumb q (ballot_dumb q refl)) g.growing;
      owed = swap_owed net s.placed s.vis.clocks s.vis.air p m (q ∷ []) r.there (ap is_granted b) (only (λ x. is_granted x.body ≡ false) q refl) g.owed;
    }
rule_more net {s} v g (counts p m named r b l e) =
    let i = m.tx in
    let x = voting Closing (pred (s.vis.records i).awaited) (option_or (s.vis.records i).named named) (s.vis.records i) in
    record {
      ready = ready_put s.vis.records i x g.ready (λ _. less (s.vis.records i).awaited l);
      tidy = tidy_put s.vis.records i x g.tidy (g.tidy i);
      roomy = g.roomy;
      growing = growing_put s.vis.records i x (without s.vis.air p) refl (growing_landed s.vis.records s.vis.air p g.growing);
      owed = owed_landed net s.placed s.vis.clocks s.vis.air p m r.there (ap is_granted b) g.owed;
    }
rule_more net {s} v g (grants p m named r b l q e) = let x = grants-more net s p m named v g r b l q in record { ready = x.0; tidy = x.1; roomy = x.2; growing = x.3; owed = x.4 }
rule_more net {s} v g (refuses p m named k r b l q e) =
    let i = m.tx in
    let x = voting Refused 0 (Some k) (s.vis.records i) in
    let ms = refusals_to net i (s.vis.records i) net.towers in
    let each = each-refusal net i (s.vis.records i) net.towers in
    record {
      ready = ready_put s.vis.records i x g.ready (λ c. absurd (differ Refused Closing refl refl c));
      tidy = tidy_put s.vis.records i x g.tidy (g.tidy i);
      roomy = g.roomy;
      growing = growing_sent (put s.vis.records i x) (without s.vis.air p) ms (growing_dumb (put s.vis.records i x) ms (each Dumb (λ t j w b. cc b)))
          (growing_put s.vis.records i x (without s.vis.air p) refl (growing_landed s.vis.records s.vis.air p g.growing));
      owed = swap_owed net s.placed s.vis.clocks s.vis.air p m ms r.there (ap is_granted b) (each (λ x. is_granted x.body ≡ false) (λ t. refl)) g.owed;
    }
rule_more net {s} v g (takes_in p m n lines r b l e) =
    let x = takes_more net s p m n lines v g r b l in
    record { ready = g.ready; tidy = g.tidy; roomy = x.0; growing = growing_landed s.vis.records s.vis.air p g.growing; owed = x.1 }
rule_more net {s} v g (releases p m a b e) = record {
  ready = g.ready;
  tidy = g.tidy;
  roomy = g.roomy;
  growing = growing_landed s.vis.records s.vis.air p g.growing;
  owed = owed_landed net s.placed s.vis.clocks s.vis.air p m a (ap is_granted b) g.owed;
}

pub run_more : (net : Net) {h : List Event} {s : State} → Logged net h s → More net s
run_more net start = record {
  ready = λ i c. absurd (differ Dropped Closing refl refl c);
  tidy = λ i k. omega arith;
  roomy = λ k. omega arith;
  growing = λ m k v h. absurd h;
  owed = record { lone = λ i t. omega arith; unseen = λ E t h. absurd h; balance = λ t o l. refl };
}
run_more net (then {s = s} r x) = by_step net (More net) s (run_more net r) (λ _. rule_more net (run_holds net r) (run_more net r)) x
