-- What a group keeps when something else changes. Assumes nothing.
use Rattle.std.proofs.Common.{◌≡◌, ℕ, ◌≤◌, Bool, true, false, cond, not, ◌&&◌, eqb, ◌≢◌, ◌⊎◌, List, [], ◌∷◌, ◌++◌, Some, None, Option, sym, refl, ap, ◌∙◌, subst, inl, inr, arith}
use Rattle.std.proofs.lemmas.Bool.{eq-eqb, ne_eqb, eqb-false, cases_eq, cond-true, cond-false, both_ways, and_left, and_right}
use Rattle.clocks.specs.declared.Version.{Version}
use Rattle.tables.specs.declared.Held.{Held}
use Rattle.tables.specs.declared.Phase.{Phase}
use Rattle.tables.specs.declared.Phase.TheVariants.{Open, Waiting, Closing, Granted, Refused, Dropped}
use Rattle.messages.specs.declared.Objection.{Objection}
use Rattle.laws.specs.Lists.{put, In, At, without, tally}
use Rattle.laws.specs.Net.{Clock, Record, query, answer, vote, refused, Message, Placement, Net, Drafted, newest_within, has_closed}
use Rattle.laws.proofs.Conflicts.{says_map}
use Rattle.laws.proofs.Log.{versions}
use Rattle.laws.proofs.Model.{Answered}
use Rattle.laws.specs.Words.{placed_as, granted_to, freed}
use Rattle.laws.proofs.Lists.{put_other, put_case, put_all, in_left, in_append, in_without, in_rest, in_filter, filter_in, tally-append, tally_at, tally-none}
use Rattle.laws.proofs.Invariant.{Intent, intent, Intents, intents, is_read, is_ballot, is_granted, polled, reads, ballots, Fair, Bounds, Holds, Holders, Granteds, Unbegun, Votes, Reads, Outcomes, Justified, Refusals}

-- ## Phases

abbrev pub phase_code : Phase → ℕ
phase_code Open = 0
phase_code Waiting = 1
phase_code Closing = 2
phase_code Granted = 3
phase_code Refused = 4
phase_code Dropped = 5

-- one phase is not two, as `differ Open Closing refl`
pub differ : {p : Phase} (a b : Phase) → eqb (phase_code a) (phase_code b) ≡ false → p ≡ a → p ≡ b → ⊥
differ a b n x y = eqb-false _ _ n (ap phase_code (sym x ∙ y))

-- ## The intents

-- who asked for a grant asks for the same
abbrev pub Same : Intents → Intents → Type 0
Same I J = (i k : ℕ) → Drafted (I i).drafts k → J i ≡ I i

-- a record that is not shut has no intent
pub no_intent : (r : Record) (k : ℕ) → has_closed r.phase ≡ false → Drafted (intent r).drafts k → ⊥
no_intent r k e d = rw e at d

pub same-put : (rs : ℕ → Record) (i : ℕ) (r : Record) → (has_closed (rs i).phase ≡ false) ⊎ (intent r ≡ intent (rs i)) → Same (intents rs) (intents (put rs i r))
same-put rs i r (inl e) j k = put_case (λ j x. Drafted (intent (rs j)).drafts k → intent x ≡ intent (rs j)) rs i r (λ d. absurd (no_intent (rs i) k e d)) (λ j _ _. refl) j
same-put rs i r (inr e) j k = put_case (λ j x. Drafted (intent (rs j)).drafts k → intent x ≡ intent (rs j)) rs i r (λ _. e) (λ j _ _. refl) j

pub holders_same : (net : Net) (I J : Intents) (P : List Placement) (cs : ℕ → Clock) (book : ℕ → List Version) (held : List Held) → Same I J → Holders net I P cs book held → Holders net J P cs book held
holders_same net I J P cs book held e g = record {
  meant = λ k i h. rw (e i k (g.meant k i h)) (g.meant k i h);
  sole = g.sole;
  room = g.room;
  ahead = λ k i E h p d n. rw (e i k (g.meant k i h)) (g.ahead k i E h p d n);
  until = g.until;
  after = g.after;
}

pub justified_same : (net : Net) (I J : Intents) (P : List Placement) (book : ℕ → List Version) (i : ℕ) (a : Objection) → Same I J → Justified net I P book i a → Justified net J P book i a
justified_same net I J P book i a e g = record {
  drafted = rw (e i a.key g.drafted) g.drafted;
  cause = says_map
      (λ j c. record { other = c.other; drafted = rw (e j a.key c.drafted) c.drafted; outside = rw (e i a.key g.drafted) c.outside })
      (λ o w n x. x) (λ x. x) a.conflict (λ o w _. tt) g.cause;
}

-- ## A record that was not shut, amended

-- a shut transaction is another
pub not_that : (rs : ℕ → Record) (i j : ℕ) → has_closed (rs i).phase ≡ false → has_closed (rs j).phase ≡ true → i ≢ j
not_that rs i j e f q = both_ways (has_closed (rs j).phase) (sym (ap (λ (n : ℕ). has_closed (rs n).phase) q) ∙ e) f

pub granteds_put : (P : List Placement) (rs : ℕ → Record) (i : ℕ) (r : Record) → (rs i).phase ≢ Granted → Granteds P rs → Granteds P (put rs i r)
granteds_put P rs i r e g E h =
    let n : i ≢ E.tx = λ q. e (ap (λ (n : ℕ). (rs n).phase) q ∙ (g E h).0) in
    rw (put_other rs i r E.tx n) (g E h)

pub bounds-put : (P : List Placement) (rs : ℕ → Record) (i : ℕ) (r : Record) → Fair P r.bound → Bounds P rs → Bounds P (put rs i r)
bounds-put P rs i r f g = put_all (λ x. Fair P x.bound) rs i r f g

pub unbegun_put : (n : ℕ) (rs : ℕ → Record) (i : ℕ) (r : Record) → (rs i).phase ≢ Dropped → Unbegun n rs → Unbegun n (put rs i r)
unbegun_put n rs i r e g j l =
    let d : i ≢ j = λ q. e (ap (λ (n : ℕ). (rs n).phase) q ∙ ap (λ (x : Record). x.phase) (g j l)) in
    put_other rs i r j d ∙ g j l

-- the votes of the others, and what is to be shown of i
pub record Polled (net : Net) (i : ℕ) (r : Record) (held : List Held) (air : List Message) : Type 0 where
  pub awaited : r.awaited ≡ ballots i air
  pub pending : (k : ℕ) → Drafted r.drafts k → r.named ≡ None →
      Holds held k i ⊎ ((m : Message) × In m air × (m.tx ≡ i) × (is_ballot m.body ≡ true) × (polled m ≡ net.home k))

pub votes_put : (net : Net) (rs : ℕ → Record) (i : ℕ) (r : Record) (held : List Held) (air : List Message) → (rs i).phase ≢ Closing → (rs i).phase ≢ Refused → (r.phase ≡ Closing → Polled net i r held air) → Votes net rs held air → Votes net (put rs i r) held air
votes_put net rs i r held air e f p g = record {
  sound = λ m h b.
      let n : i ≢ m.tx = λ q. e (ap (λ (n : ℕ). (rs n).phase) q ∙ (g.sound m h b).closing) in
      rw (put_other rs i r m.tx n) (g.sound m h b);
  awaited = put_case (λ j x. x.phase ≡ Closing → x.awaited ≡ ballots j air) rs i r (λ c. (p c).awaited) (λ j _. g.awaited j);
  pending = λ j k. put_case (λ j x. x.phase ≡ Closing → Drafted x.drafts k → x.named ≡ None →
      Holds held k j ⊎ ((m : Message) × In m air × (m.tx ≡ j) × (is_ballot m.body ≡ true) × (polled m ≡ net.home k))) rs i r (λ c. (p c).pending k) (λ j _. g.pending j k) j;
  over = λ m h b.
      let n : i ≢ m.tx = λ q. f (ap (λ (n : ℕ). (rs n).phase) q ∙ g.over m h b) in
      rw (put_other rs i r m.tx n) (g.over m h b);
}

pub reads-put : (net : Net) (P : List Placement) (rs : ℕ → Record) (i : ℕ) (r : Record) (air : List Message) (ds : List Answered) → (rs i).phase ≢ Waiting → ((rs i).answered ≡ true → (r.answered ≡ true) × (r.bound ≡ (rs i).bound)) → Reads net P rs air ds → Reads net P (put rs i r) air ds
reads-put net P rs i r air ds e f g =
    let other : (m : Message) → In m air → is_read m.body ≡ true → put rs i r m.tx ≡ rs m.tx = λ m h b. put_other rs i r m.tx (λ q. e (ap (λ (n : ℕ). (rs n).phase) q ∙ g.waiting m h b)) in
    record {
      waiting = λ m h b. rw (other m h b) (g.waiting m h b);
      single = g.single;
      asked = λ m k first h b. rw (other m h (ap is_read b)) (g.asked m k first h b);
      fair = g.fair;
      right = g.right;
      again = λ m k v h b. rw (other m h (ap is_read b)) (g.again m k v h b);
      told = λ d h. put_case (λ j x. (rs j).answered ≡ true → x.answered ≡ true) rs i r (λ a. (f a).0) (λ j _ a. a) d.tx (g.told d h);
      shown = λ d h. put_case (λ j x. (rs j).answered ≡ true → d.shown ≡ newest_within (rs j).bound (versions P d.key) → d.shown ≡ newest_within x.bound (versions P d.key)) rs i r
          (λ a q. rw (f a).1 q) (λ j _ a q. q) d.tx (g.told d h) (g.shown d h);
    }

pub refusals_put : (net : Net) (P : List Placement) (rs : ℕ → Record) (i : ℕ) (r : Record) (book : ℕ → List Version) (air : List Message) →
    Same (intents rs) (intents (put rs i r)) →
    ((k : Objection) → has_closed r.phase ≡ true → r.named ≡ Some k → Justified net (intents rs) P book i k) →
    (r.phase ≡ Refused → (k : Objection) × (r.named ≡ Some k)) →
    Refusals net P rs book air → Refusals net P (put rs i r) book air
refusals_put net P rs i r book air e n f g = record {
  voted = λ m k h b. justified_same net (intents rs) (intents (put rs i r)) P book m.tx k e (g.voted m k h b);
  named = λ j k a b. justified_same net (intents rs) (intents (put rs i r)) P book j k e
      (put_case (λ j x. has_closed x.phase ≡ true → x.named ≡ Some k → Justified net (intents rs) P book j k) rs i r (n k) (λ j _. g.named j k) j a b);
  refused = put_case (λ j x. x.phase ≡ Refused → (k : Objection) × (x.named ≡ Some k)) rs i r f (λ j _. g.refused j);
}

-- ## The air: a message lands, or some are sent

pub same-tally : (q : Message → Bool) (air : List Message) (p : ℕ) (m : Message) → At air p m → q m ≡ false → tally q air ≡ tally q (without air p)
same-tally q air p m a e = tally_at q air p m a ∙ rw e (omega arith)

pub ballots_landed : (i : ℕ) (air : List Message) (p : ℕ) (m : Message) → At air p m → is_ballot m.body ≡ false → ballots i air ≡ ballots i (without air p)
ballots_landed i air p m a e = same-tally (λ x. eqb x.tx i && is_ballot x.body) air p m a (and_right (eqb m.tx i) (is_ballot m.body) e)

pub ballots-sent : (i : ℕ) (air ms : List Message) → ((x : Message) → In x ms → is_ballot x.body ≡ false) → ballots i (air ++ ms) ≡ ballots i air
ballots-sent i air ms e =
    let q : Message → Bool = λ x. eqb x.tx i && is_ballot x.body in
    omega (arith, tally-append q air ms, tally-none q ms (λ x h. and_right (eqb x.tx i) (is_ballot x.body) (e x h)))

pub votes_landed : (net : Net) (rs : ℕ → Record) (held : List Held) (air : List Message) (p : ℕ) (m : Message) → At air p m → is_ballot m.body ≡ false → Votes net rs held air → Votes net rs held (without air p)
votes_landed net rs held air p m a e g = record {
  sound = λ x h. g.sound x (in_without air p x h);
  awaited = λ i c. g.awaited i c ∙ ballots_landed i air p m a e;
  pending = λ i k c d n. stay (g.pending i k c d n);
  over = λ x h. g.over x (in_without air p x h);
}
  where
    stay : {i k : ℕ} → Holds held k i ⊎ ((m : Message) × In m air × (m.tx ≡ i) × (is_ballot m.body ≡ true) × (polled m ≡ net.home k)) →
        Holds held k i ⊎ ((m : Message) × In m (without air p) × (m.tx ≡ i) × (is_ballot m.body ≡ true) × (polled m ≡ net.home k))
    stay (inl h) = inl h
    stay (inr x) = elim (in_rest air p m x.0 a x.1) [
      | inl q ↦ absurd (both_ways (is_ballot m.body) e (sym (ap (λ (y : Message). is_ballot y.body) q) ∙ x.3))
      | inr h ↦ inr (x.0, h, x.2, x.3, x.4)
    ]

pub votes_sent : (net : Net) (rs : ℕ → Record) (held : List Held) (air ms : List Message) → ((x : Message) → In x ms → is_ballot x.body ≡ false) → ((x : Message) → In x ms → x.body ≡ refused → (rs x.tx).phase ≡ Refused) → Votes net rs held air → Votes net rs held (air ++ ms)
votes_sent net rs held air ms e f g = record {
  sound = λ x h b. elim (in_append x air ms h) [ inl h ↦ g.sound x h b | inr h ↦ absurd (both_ways (is_ballot x.body) (e x h) b) ];
  awaited = λ i c. g.awaited i c ∙ sym (ballots-sent i air ms e);
  pending = λ i k c d n. elim (g.pending i k c d n) [ inl h ↦ inl h | inr x ↦ inr (x.0, in_left x.0 air ms x.1, x.2, x.3, x.4) ];
  over = λ x h b. elim (in_append x air ms h) [ inl h ↦ g.over x h b | inr h ↦ f x h b ];
}

pub votes_held : (net : Net) (rs : ℕ → Record) (held held' : List Held) (air : List Message) → ((k i : ℕ) → (rs i).phase ≡ Closing → Holds held k i → Holds held' k i) → Votes net rs held air → Votes net rs held' air
votes_held net rs held held' air e g = record {
  sound = λ m h b. let c = g.sound m h b in record { closing = c.closing; bound = c.bound; asker = c.asker; asked = c.asked; lines = c.lines; holds = λ v k d o. e k m.tx c.closing (c.holds v k d o) };
  awaited = g.awaited;
  pending = λ i k c d n. elim (g.pending i k c d n) [ inl h ↦ inl (e k i c h) | inr x ↦ inr x ];
  over = g.over;
}

pub reads_landed : (net : Net) (P : List Placement) (rs : ℕ → Record) (air : List Message) (ds : List Answered) (p : ℕ) (m : Message) → At air p m → Reads net P rs air ds → Reads net P rs (without air p) ds
reads_landed net P rs air ds p m a g = record {
  waiting = λ x h. g.waiting x (in_without air p x h);
  single = λ i. omega (arith, g.single i, tally_at (λ x. eqb x.tx i && is_read x.body) air p m a);
  asked = λ x k first h. g.asked x k first (in_without air p x h);
  fair = λ x k v h. g.fair x k v (in_without air p x h);
  right = λ x k v h. g.right x k v (in_without air p x h);
  again = λ x k v h. g.again x k v (in_without air p x h);
  told = g.told;
  shown = g.shown;
}

pub reads-sent : (net : Net) (P : List Placement) (rs : ℕ → Record) (air : List Message) (ds : List Answered) (ms : List Message) → ((x : Message) → In x ms → is_read x.body ≡ false) → Reads net P rs air ds → Reads net P rs (air ++ ms) ds
reads-sent net P rs air ds ms e g =
    let old : (x : Message) → In x (air ++ ms) → is_read x.body ≡ true → In x air = λ x h b. elim (in_append x air ms h) [ inl h ↦ h | inr h ↦ absurd (both_ways (is_read x.body) (e x h) b) ] in
    record {
      waiting = λ x h b. g.waiting x (old x h b) b;
      single = λ i. let q : Message → Bool = λ x. eqb x.tx i && is_read x.body in
          omega (arith, g.single i, tally-append q air ms, tally-none q ms (λ x h. and_right (eqb x.tx i) (is_read x.body) (e x h)));
      asked = λ x k first h b. g.asked x k first (old x h (ap is_read b)) b;
      fair = λ x k v h b. g.fair x k v (old x h (ap is_read b)) b;
      right = λ x k v h b. g.right x k v (old x h (ap is_read b)) b;
      again = λ x k v h b. g.again x k v (old x h (ap is_read b)) b;
      told = g.told;
      shown = g.shown;
    }

pub outcomes_landed : (net : Net) (P : List Placement) (cs : ℕ → Clock) (air : List Message) (p : ℕ) (m : Message) → At air p m → is_granted m.body ≡ false → Outcomes net P cs air → Outcomes net P cs (without air p)
outcomes_landed net P cs air p m a e g = record {
  coming = λ E t h l o u. elim (in_rest air p m (granted_to net E t) a (g.coming E t h l o u)) [
    | inl q ↦ absurd (both_ways (is_granted m.body) e (sym (ap (λ (y : Message). is_granted y.body) q)))
    | inr h ↦ h
  ];
  meant = λ x n ls h. g.meant x n ls (in_without air p x h);
}

pub outcomes_sent : (net : Net) (P : List Placement) (cs : ℕ → Clock) (air ms : List Message) → ((x : Message) → In x ms → is_granted x.body ≡ false) → Outcomes net P cs air → Outcomes net P cs (air ++ ms)
outcomes_sent net P cs air ms e g = record {
  coming = λ E t h l o u. in_left (granted_to net E t) air ms (g.coming E t h l o u);
  meant = λ x n ls h b. elim (in_append x air ms h) [ inl h ↦ g.meant x n ls h b | inr h ↦ absurd (both_ways (is_granted x.body) (e x h) (ap is_granted b)) ];
}

pub refusals_landed : (net : Net) (P : List Placement) (rs : ℕ → Record) (book : ℕ → List Version) (air : List Message) (p : ℕ) → Refusals net P rs book air → Refusals net P rs book (without air p)
refusals_landed net P rs book air p g = record { voted = λ m k h. g.voted m k (in_without air p m h); named = g.named; refused = g.refused }

pub refusals_sent : (net : Net) (P : List Placement) (rs : ℕ → Record) (book : ℕ → List Version) (air ms : List Message) → ((m : Message) (k : Objection) → In m ms → m.body ≡ vote (Some k) → Justified net (intents rs) P book m.tx k) → Refusals net P rs book air → Refusals net P rs book (air ++ ms)
refusals_sent net P rs book air ms e g = record {
  voted = λ m k h b. elim (in_append m air ms h) [ inl h ↦ g.voted m k h b | inr h ↦ e m k h b ];
  named = g.named;
  refused = g.refused;
}

-- ## What is held

pub holds_left : (hs gs : List Held) (k i : ℕ) → Holds hs k i → Holds (hs ++ gs) k i
holds_left hs gs k i h = (h.0, in_left h.0 hs gs h.1, h.2, h.3)

pub holds_freed : (net : Net) (i t : ℕ) (hs : List Held) (k j : ℕ) → Holds (freed net i t hs) k j → Holds hs k j
holds_freed net i t hs k j h = (h.0, (in_filter (λ h. not (eqb h.tx i && eqb (net.home h.key) t)) hs h.0 h.1).0, h.2, h.3)

-- what is let go is not held
pub not_freed : (net : Net) (i t : ℕ) (hs : List Held) (k : ℕ) → net.home k ≡ t → Holds (freed net i t hs) k i → ⊥
not_freed net i t hs k e h =
    let q = (in_filter (λ h. not (eqb h.tx i && eqb (net.home h.key) t)) hs h.0 h.1).1 in
    let a : eqb h.0.tx i ≡ true = eq-eqb _ _ h.3 in
    let b : eqb (net.home h.0.key) t ≡ true = eq-eqb _ _ (ap net.home h.2 ∙ e) in
    both_ways false refl (rw (a, b) at q)

-- what others hold, or the transaction elsewhere, is kept
pub freed_keeps : (net : Net) (i t : ℕ) (hs : List Held) (k j : ℕ) → (j ≡ i → net.home k ≡ t → ⊥) → Holds hs k j → Holds (freed net i t hs) k j
freed_keeps net i t hs k j n h = (h.0, filter_in (λ h. not (eqb h.tx i && eqb (net.home h.key) t)) hs h.0 h.1 (go (cases_eq h.0.tx i) (cases_eq (net.home h.0.key) t)), h.2, h.3)
  where
    go : (h.0.tx ≡ i) ⊎ (h.0.tx ≡ i → ⊥) → (net.home h.0.key ≡ t) ⊎ (net.home h.0.key ≡ t → ⊥) → not (eqb h.0.tx i && eqb (net.home h.0.key) t) ≡ true
    go (inl a) (inl b) = absurd (n (sym h.3 ∙ a) (sym (ap net.home h.2) ∙ b))
    go (inl a) (inr b) = rw (and_right (eqb h.0.tx i) (eqb (net.home h.0.key) t) (ne_eqb _ _ b))
    go (inr a) b = rw (ne_eqb _ _ a)

-- ## One more message of a read

pub only : (Q : Message → Type 0) (q : Message) → Q q → (x : Message) → In x (q ∷ []) → Q x
only Q q g x (inl e) = subst Q (sym e) g
only Q q g x (inr e) = absurd e

pub record Good (net : Net) (P : List Placement) (rs : ℕ → Record) (m : Message) : Type 0 where
  pub waiting : (rs m.tx).phase ≡ Waiting
  pub asked : (k : ℕ) (first : Bool) → m.body ≡ query k first → (m.bound ≡ (rs m.tx).bound) × (first ≡ not (rs m.tx).answered) × (m.to ≡ net.home k)
  pub fair : (k : ℕ) (v : Option Version) → m.body ≡ answer k v → Fair P m.bound
  pub right : (k : ℕ) (v : Option Version) → m.body ≡ answer k v → v ≡ newest_within m.bound (versions P k)
  pub again : (k : ℕ) (v : Option Version) → m.body ≡ answer k v → (rs m.tx).answered ≡ true → m.bound ≡ (rs m.tx).bound

pub reads_more : (net : Net) (P : List Placement) (rs : ℕ → Record) (air : List Message) (ds : List Answered) (q : Message) → Good net P rs q → reads q.tx air ≡ 0 → Reads net P rs air ds → Reads net P rs (air ++ q ∷ []) ds
reads_more net P rs air ds q a z g = record {
  waiting = λ x h. elim (in_append x air (q ∷ []) h) [ inl h ↦ g.waiting x h | inr h ↦ λ _. only (λ x. (rs x.tx).phase ≡ Waiting) q a.waiting x h ];
  single = λ i. one i (cases_eq q.tx i);
  asked = λ x k first h. elim (in_append x air (q ∷ []) h) [
    | inl h ↦ g.asked x k first h
    | inr h ↦
        only (λ m. m.body ≡ query k first → (m.bound ≡ (rs m.tx).bound) × (first ≡ not (rs m.tx).answered) × (m.to ≡ net.home k)) q (a.asked k first) x h
  ];
  fair = λ x k v h. elim (in_append x air (q ∷ []) h) [ inl h ↦ g.fair x k v h | inr h ↦ only (λ m. m.body ≡ answer k v → Fair P m.bound) q (a.fair k v) x h ];
  right = λ x k v h. elim (in_append x air (q ∷ []) h) [ inl h ↦ g.right x k v h | inr h ↦ only (λ m. m.body ≡ answer k v → v ≡ newest_within m.bound (versions P k)) q (a.right k v) x h ];
  again = λ x k v h. elim (in_append x air (q ∷ []) h) [ inl h ↦ g.again x k v h | inr h ↦ only (λ m. m.body ≡ answer k v → (rs m.tx).answered ≡ true → m.bound ≡ (rs m.tx).bound) q (a.again k v) x h ];
  told = g.told;
  shown = g.shown;
}
  where
    one : (i : ℕ) → (q.tx ≡ i) ⊎ (q.tx ≡ i → ⊥) → reads i (air ++ q ∷ []) ≤ 1
    one i (inl e) =
        let f : Message → Bool = λ x. eqb x.tx i && is_read x.body in
        let b : cond (f q) 1 0 ≤ 1 = elim (f q) as (λ t. cond t 1 0 ≤ 1) [ true ↦ omega arith | false ↦ omega arith ] in
        let y : reads i air ≡ 0 = subst (λ (n : ℕ). reads n air ≡ 0) e z in
        omega (arith, tally-append f air (q ∷ []), b, y)
    one i (inr n) =
        let f : Message → Bool = λ x. eqb x.tx i && is_read x.body in
        let b : ◌≡◌ {A = ℕ} (cond (f q) 1 0) 0 = cond-false (f q) 1 0 (and_left (eqb q.tx i) (is_read q.body) (ne_eqb _ _ n)) in
        omega (arith, tally-append f air (q ∷ []), b, g.single i)

-- ## What a placed transaction's record says

pub intent_shut : (r : Record) → has_closed r.phase ≡ true → intent r ≡ record { bound = r.bound; drafts = r.drafts }
intent_shut r e = cond-true (has_closed r.phase) _ _ e

pub placed_intent : (P : List Placement) (rs : ℕ → Record) (E : Placement) → Granteds P rs → In E P → intent (rs E.tx) ≡ record { bound = E.bound; drafts = E.drafts }
placed_intent P rs E g h =
    let f : Placement → Intent = λ x. record { bound = x.bound; drafts = x.drafts } in
    intent_shut (rs E.tx) (ap has_closed (g E h).0) ∙ sym (ap f (g E h).1)

pub placed-once : (P : List Placement) (rs : ℕ → Record) (E F : Placement) → Granteds P rs → In E P → In F P → E.tx ≡ F.tx → E ≡ F
placed-once P rs E F g h l e = (g E h).1 ∙ ap (λ (n : ℕ). placed_as n (rs n)) e ∙ sym (g F l).1

pub placed-other : (P : List Placement) (rs : ℕ → Record) (E : Placement) (i : ℕ) → Granteds P rs → In E P → (rs i).phase ≢ Granted → E.tx ≢ i
placed-other P rs E i g h n e = n (sym (ap (λ (n : ℕ). (rs n).phase) e) ∙ (g E h).0)
