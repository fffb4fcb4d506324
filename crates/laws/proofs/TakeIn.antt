-- A tower takes in a placed transaction. Assumes nothing.
use Rattle.std.proofs.Common.{◌≡◌, ℕ, suc, ◌≤◌, true, false, eqb, ◌≢◌, ◌⊎◌, List, [], ◌∷◌, ◌++◌, length, sym, refl, ap, ◌∙◌, subst, inl, inr, append-nil, arith}
use Rattle.std.proofs.lemmas.Bool.{ne_eqb, eqb-false, cases_eq, cases_Bool}
use Rattle.clocks.specs.declared.Version.{Version}
use Rattle.messages.specs.declared.Draft.{Draft}
use Rattle.tables.specs.declared.Held.{Held}
use Rattle.laws.specs.Lists.{put, In}
use Rattle.laws.specs.Net.{Clock, Record, Message, Placement, Net, ◌⊑◌, Drafted, written}
use Rattle.messages.specs.declared.Objection.{Objection}
use Rattle.laws.proofs.Conflicts.{says_map}
use Rattle.laws.proofs.Log.{wrote, taken, count, Seen}
use Rattle.laws.specs.Words.{homed, freed}
use Rattle.laws.proofs.Lists.{put_same, put_other, put_case, put_all}
use Rattle.laws.proofs.Placed.{Numbered, Ordered, Closed, number_le, put_grows, written_none, taken_more, seen_or_same, closed-put}
use Rattle.laws.proofs.Invariant.{Intents, intents, Books, Holds, Holders, Justified, Refusals}
use Rattle.laws.proofs.Frames.{holds_freed, not_freed, freed_keeps}
use Rattle.laws.proofs.Calls.{homed-drafted}

-- ## What is written at a home

written_away : (net : Net) (t w o n : ℕ) (ds : List Draft) (k : ℕ) → net.home k ≢ t → written w o n (homed net t ds) k ≡ []
written_away net t w o n ds k e = written_none w o n (homed net t ds) k (λ d. e (homed-drafted net t ds k d).1)

written-home : (net : Net) (t w o n : ℕ) (ds : List Draft) (k : ℕ) → net.home k ≡ t → written w o n (homed net t ds) k ≡ written w o n ds k
written-home net t w o n [] k e = refl
written-home net t w o n (d ∷ ds) k e = go (written-home net t w o n ds k e) (cases_Bool (eqb (net.home d.key) t))
  where
    go : written w o n (homed net t ds) k ≡ written w o n ds k → (eqb (net.home d.key) t ≡ true) ⊎ (eqb (net.home d.key) t ≡ false) → written w o n (homed net t (d ∷ ds)) k ≡ written w o n (d ∷ ds) k
    go ih (inl q) = rw (q, ih)
    go ih (inr q) = rw (q, ne_eqb d.key k (λ x. eqb-false _ _ q (ap net.home x ∙ e))) ih

-- ## The clocks

abbrev pub passed : (ℕ → Clock) → ℕ → Placement → ℕ → Clock
passed cs t T = put cs t (put (cs t) T.origin T.number)

-- the next of its tower, at t
abbrev pub Next : (ℕ → Clock) → ℕ → Placement → Type 0
Next cs t T = suc (cs t T.origin) ≡ T.number

pub passed_grows : (cs : ℕ → Clock) (t : ℕ) (T : Placement) → Next cs t T → (u : ℕ) → cs u ⊑ passed cs t T u
passed_grows cs t T e = put_case (λ u c. cs u ⊑ c) cs t _ (put_grows (cs t) T.origin T.number e) (λ u _ j. omega arith)

pub passed_seen : (cs : ℕ → Clock) (t u : ℕ) (T : Placement) → t ≡ u → Seen T (passed cs t T u)
passed_seen cs t u T e = rw (put_same cs t (put (cs t) T.origin T.number) u e, put_same (cs t) T.origin T.number T.origin refl) (omega arith)

pub passed_behind : (P : List Placement) (cs : ℕ → Clock) (t : ℕ) (T : Placement) → Numbered P → In T P → ((u : ℕ) → cs u ⊑ count P) → (u : ℕ) → passed cs t T u ⊑ count P
passed_behind P cs t T n h l = put_all (λ c. c ⊑ count P) cs t _ (put_case (λ j x. x ≤ count P j) (cs t) T.origin T.number (number_le P T n h) (λ j _. l t j)) l

pub passed_closed : (P : List Placement) (cs : ℕ → Clock) (t : ℕ) (T : Placement) → Numbered P → In T P → Next cs t T → T.bound ⊑ cs t → ((u : ℕ) → Closed P (cs u)) → (u : ℕ) → Closed P (passed cs t T u)
passed_closed P cs t T n h e b cl = put_all (Closed P) cs t _ (closed-put P T (cs t) n (cl t) h e b) cl

-- ## The books

abbrev pub added : Net → (ℕ → List Version) → ℕ → Placement → ℕ → List Version
added net book t T k = book k ++ written T.tx T.origin T.number (homed net t T.drafts) k

-- only what T wrote at its home is added
pub added-same : (net : Net) (book : ℕ → List Version) (t : ℕ) (T : Placement) (k : ℕ) → (Drafted T.drafts k → net.home k ≡ t → ⊥) → added net book t T k ≡ book k
added-same net book t T k n =
    rw (written_none T.tx T.origin T.number (homed net t T.drafts) k (λ d. let r = homed-drafted net t T.drafts k d in n r.0 r.1)) (append-nil (book k))

pub added_books : (net : Net) (P : List Placement) (cs : ℕ → Clock) (book : ℕ → List Version) (t : ℕ) (T : Placement) → Numbered P → Ordered P → Closed P (cs t) → In T P → Next cs t T → Books net P cs book → Books net P (passed cs t T) (added net book t T)
added_books net P cs book t T n o cl h e g k = go (cases_eq t (net.home k))
  where
    go : (t ≡ net.home k) ⊎ (t ≡ net.home k → ⊥) → added net book t T k ≡ taken (passed cs t T (net.home k)) P k
    go (inr q) = rw (put_other cs t (put (cs t) T.origin T.number) (net.home k) q) (added-same net book t T k (λ _ x. q (sym x)) ∙ g k)
    go (inl q) = rw (put_same cs t (put (cs t) T.origin T.number) (net.home k) q, written-home net t T.tx T.origin T.number T.drafts k (sym q), taken_more P T (cs t) k n o cl h e)
        (ap (λ x. x ++ wrote T k) (g k ∙ ap (λ (u : ℕ). taken (cs u) P k) (sym q)))

-- ## The holders

module _ (net : Net) (I : Intents) (P : List Placement) (cs : ℕ → Clock) (book : ℕ → List Version) (held : List Held) (t : ℕ) (T : Placement)
    (n : Numbered P) (once : (E : Placement) → In E P → E.tx ≡ T.tx → E ≡ T) (h : In T P) (e : Next cs t T) (g : Holders net I P cs book held) where
  -- T holds what it writes at t
  keeps : (k : ℕ) → Drafted T.drafts k → net.home k ≡ t → Holds held k T.tx
  keeps k d q = g.until k T h d (λ u. let u' : T.number ≤ cs t T.origin = rw q at u in omega (arith, u', e))

  -- a full book gets no more
  pub added_full : (k : ℕ) → length (book k) ≡ net.depth → length (added net book t T k) ≡ net.depth
  added_full k f = ap length (added-same net book t T k (λ d q. g.room k T.tx (keeps k d q) f)) ∙ f

  pub added_holders : Holders net I P (passed cs t T) (added net book t T) (freed net T.tx t held)
  added_holders =
      let was = holds_freed net T.tx t held in
      let away : (k j : ℕ) → Holds (freed net T.tx t held) k j → Drafted T.drafts k → net.home k ≡ t → ⊥ = λ k j l d q.
      not_freed net T.tx t held k q (subst (Holds (freed net T.tx t held) k) (g.sole k j T.tx (was k j l) (keeps k d q)) l) in
      record {
        meant = λ k j l. g.meant k j (was k j l);
        sole = λ k x y l l'. g.sole k x y (was k x l) (was k y l');
        room = λ k j l f. g.room k j (was k j l) (ap length (sym (added-same net book t T k (away k j l))) ∙ f);
        ahead = λ k j E l. g.ahead k j E (was k j l);
        until = λ k E m d u. freed_keeps net T.tx t held k E.tx
            (λ x q. u (subst (λ (X : Placement). Seen X (passed cs t T (net.home k))) (sym (once E m x)) (passed_seen cs t (net.home k) T (sym q))))
            (g.until k E m d (λ s. u (omega (arith, s, passed_grows cs t T e (net.home k) E.origin))));
        after = λ k E m l s. later k E m l s (cases_eq t (net.home k));
      }
    where
      later : (k : ℕ) (E : Placement) → In E P → Holds (freed net T.tx t held) k E.tx → Seen E (passed cs t T (net.home k)) → (t ≡ net.home k) ⊎ (t ≡ net.home k → ⊥) → ⊥
      later k E m l s (inr q) = g.after k E m (holds_freed net T.tx t held k E.tx l) (rw (put_other cs t (put (cs t) T.origin T.number) (net.home k) q) at s)
      later k E m l s (inl q) = elim (seen_or_same P T E (cs t) n h m e (rw (put_same cs t (put (cs t) T.origin T.number) (net.home k) q) at s)) [
        | inl s ↦ g.after k E m (holds_freed net T.tx t held k E.tx l) (rw q at s)
        | inr x ↦ not_freed net T.tx t held k (sym q) (subst (λ (X : Placement). Holds (freed net T.tx t held) k X.tx) x l)
      ]

-- ## The causes

pub justified_full : (net : Net) (I : Intents) (P : List Placement) (book book' : ℕ → List Version) → ((k : ℕ) → length (book k) ≡ net.depth → length (book' k) ≡ net.depth) → (i : ℕ) (a : Objection) → Justified net I P book i a → Justified net I P book' i a
justified_full net I P book book' f i a g = record { drafted = g.drafted; cause = says_map (λ j x. x) (λ o w n x. x) (f a.key) a.conflict (λ o w _. tt) g.cause }

pub refusals_full : (net : Net) (P : List Placement) (rs : ℕ → Record) (book book' : ℕ → List Version) (air : List Message) → ((k : ℕ) → length (book k) ≡ net.depth → length (book' k) ≡ net.depth) → Refusals net P rs book air → Refusals net P rs book' air
refusals_full net P rs book book' air f g = record {
  voted = λ m k h b. justified_full net (intents rs) P book book' f m.tx k (g.voted m k h b);
  named = λ i k a b. justified_full net (intents rs) P book book' f i k (g.named i k a b);
  refused = g.refused;
}
