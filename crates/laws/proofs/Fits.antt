-- Whatever the net holds or sends is in range. Assumes nothing.
use Rattle.std.proofs.Common.{◌≡◌, ℕ, suc, ◌<◌, ◌≤◌, Bool, true, false, cond, not, ◌&&◌, eqb, ◌≢◌, ◌⊎◌, List, [], ◌∷◌, length, Some, None, find, Option, Result, sym, refl, subst, inl, inr, arith}
use Rattle.std.specs.Option.{option_or}
use Rattle.std.proofs.lemmas.List.Sums.{length-filter, count_by-le-length}
use Rattle.clocks.specs.declared.Version.{Version}
use Rattle.messages.specs.declared.Draft.{Draft}
use Rattle.tables.specs.declared.Call.{Call}
use Rattle.tables.specs.declared.Call.TheVariants.{Begin, Read, Draft as DraftCall, Close, Drop as DropCall, Deliver}
use Rattle.faults.specs.declared.Cause.{Cause}
use Rattle.tables.specs.declared.Told.{Told}
use Rattle.tables.specs.declared.Phase.TheVariants.{Open, Waiting, Closing, Refused, Dropped}
use Rattle.messages.specs.declared.Objection.{Objection}
use Rattle.clocks.specs.declared.Content.{Content}
use Rattle.laws.proofs.Conflicts.{option_or_cases, first_is, lines-found}
use Rattle.messages.specs.declared.Conflict.{Conflict}
use Rattle.messages.specs.declared.Conflict.TheVariants.{Held as HeldBy, Newer, Full}
use Rattle.tables.specs.declared.Held.{Held}
use Rattle.laws.specs.Lists.{put, In, At, without}
use Rattle.laws.specs.Net.{Clock, Record, Body, answer, prepare, vote, granted, Message, Placement, Net, Drafted, written, inside, newest_within, newest}
use Rattle.laws.specs.Words.{opened, in_phase, reading_at, voting, placed_as, message, redrafted, homed, prepares, grants_to, refusals_to, Event, holds_of, freed, another_holds, held_conflict, newer_conflict, conflict_at}
use Rattle.laws.specs.State.{granted_record, Visible, amended, sent, removed}
use Rattle.laws.specs.Rules.{Rule, Step, Run, start, then, fails, obeys, begins, reads_own, asks, drafts, drops, closes_empty, closes, replies, receives, agrees, objects, counts, grants, refuses, takes_in, releases}
use Rattle.laws.specs.Frames.{FitClock, FitVersion, FitLines, FitShown, FitNamed, FitBody, Fit, FitRecord, FitHeld, FitConflict, InRange, CallOk, CallsOk, NumbersInRange}
use Rattle.laws.specs.Further.{Always}
use Rattle.laws.proofs.Model.{next, bare, by_rule}
use Rattle.laws.proofs.Lists.{put_same, put_case, put_all, in_at, in_append, in_filter, each_append, each_without}
use Rattle.laws.proofs.Sent.{in_grants, in_prepares, in_refusals}
use Rattle.laws.proofs.Frames.{only, differ}
use Rattle.laws.proofs.Shown.{last_is}
use Rattle.laws.proofs.Few.{run_small, run-opened}

module _ (net : Net) (ok : Content → Bool) where
  -- ## Clocks

  zeros : FitClock net (λ _. 0)
  zeros = record { small = λ j. omega arith; beyond = λ j l. refl }

  clock-put : (c : Clock) (o n : ℕ) → o < net.towers → n ≤ net.transactions → FitClock net c → FitClock net (put c o n)
  clock-put c o n l s g = record {
    small = put_case (λ j x. x ≤ net.transactions) c o n s (λ j _. g.small j);
    beyond = put_case (λ j x. net.towers ≤ j → x ≡ 0) c o n (λ b. absurd (omega (arith, b, l))) (λ j _. g.beyond j);
  }

  clock_choice : (b : Bool) (c d : Clock) → FitClock net c → FitClock net d → FitClock net (cond b c d)
  clock_choice true c d g f = g
  clock_choice false c d g f = f

  -- ## Lines

  homed_fit : (t : ℕ) (ds : List Draft) → FitLines net ok ds → FitLines net ok (homed net t ds)
  homed_fit t ds g = record {
    each = λ d q. g.each d (in_filter (λ d. eqb (net.home d.key) t) ds d q).0;
    few = omega (arith, g.few, length-filter (λ d. eqb (net.home d.key) t) ds, count_by-le-length (λ d. eqb (net.home d.key) t) ds);
  }

  pub drafted_fit : (ds : List Draft) (k : ℕ) → ((d : Draft) → In d ds → (d.key < net.keys) × (ok d.content ≡ true)) → Drafted ds k → k < net.keys
  drafted_fit [] k g d = absurd d
  drafted_fit (x ∷ ds) k g (inl e) = subst (λ (n : ℕ). n < net.keys) e (g x (inl refl)).0
  drafted_fit (x ∷ ds) k g (inr d) = drafted_fit ds k (λ y q. g y (inr q)) d

  in_redrafted : (k : ℕ) (v : Content) (ds : List Draft) (d : Draft) → In d (redrafted k v ds) → (d ≡ record { key = k; content = v }) ⊎ In d ds
  in_redrafted k v [] d (inl e) = inl e
  in_redrafted k v [] d (inr h) = absurd h
  in_redrafted k v (x ∷ ds) d h = go (eqb x.key k) (in_redrafted k v ds d) h
    where
      go : (b : Bool) → (In d (redrafted k v ds) → (d ≡ record { key = k; content = v }) ⊎ In d ds) → In d (cond b (record { key = k; content = v } ∷ ds) (x ∷ redrafted k v ds)) → (d ≡ record { key = k; content = v }) ⊎ In d (x ∷ ds)
      go true ih (inl e) = inl e
      go true ih (inr h) = inr (inr h)
      go false ih (inl e) = inr (inl e)
      go false ih (inr h) = elim (ih h) [ inl e ↦ inl e | inr h ↦ inr (inr h) ]

  redrafted_fit : (k : ℕ) (v : Content) (ds : List Draft) → k < net.keys → ok v ≡ true → length (redrafted k v ds) ≤ net.most → FitLines net ok ds → FitLines net ok (redrafted k v ds)
  redrafted_fit k v ds a b l g = record {
    each = λ d q. elim (in_redrafted k v ds d q) [ inl e ↦ subst (λ (x : Draft). (x.key < net.keys) × (ok x.content ≡ true)) (sym e) (a, b) | inr q ↦ g.each d q ];
    few = l;
  }

  -- ## Versions

  written_fit : (w o n : ℕ) (ds : List Draft) (k : ℕ) (x : Version) → w < net.transactions → o < net.towers → 1 ≤ n → n ≤ net.transactions → ((d : Draft) → In d ds → (d.key < net.keys) × (ok d.content ≡ true)) → In x (written w o n ds k) → FitVersion net ok x
  written_fit w o n [] k x a b c e f h = absurd h
  written_fit w o n (d ∷ ds) k x a b c e f h = go (eqb d.key k) (written_fit w o n ds k x a b c e (λ y q. f y (inr q))) h
    where
      go : (q : Bool) → (In x (written w o n ds k) → FitVersion net ok x) → In x (cond q (record { writer = w; origin = o; number = n; content = d.content } ∷ written w o n ds k) (written w o n ds k)) → FitVersion net ok x
      go true ih (inl y) = subst (FitVersion net ok) (sym y) (record { writer = a; origin = b; counted = c; small = e; content = (f d (inl refl)).1 })
      go true ih (inr h) = ih h
      go false ih h = ih h

  shown_fit : (c : Clock) (xs : List Version) → ((x : Version) → In x xs → FitVersion net ok x) → FitShown net ok (newest_within c xs)
  shown_fit c xs f = go (newest_within c xs) refl
    where
      go : (o : Option Version) → newest_within c xs ≡ o → FitShown net ok o
      go (Some x) e = f x (last_is (inside c) xs x e).0
      go None e = tt

  -- ## Held keys

  abbrev Tray : List Held → Type 0
  Tray hs = (x : Held) → In x hs → FitHeld net x

  holds_fit : (i o : ℕ) (ds : List Draft) → i < net.transactions → o < net.towers → ((d : Draft) → In d ds → (d.key < net.keys) × (ok d.content ≡ true)) → Tray (holds_of i o ds)
  holds_fit i o [] a b f x h = absurd h
  holds_fit i o (d ∷ ds) a b f x (inl e) = subst (FitHeld net) (sym e) (record { key = (f d (inl refl)).0; tx = a; origin = b })
  holds_fit i o (d ∷ ds) a b f x (inr h) = holds_fit i o ds a b (λ y q. f y (inr q)) x h

  tray_freed : (i t : ℕ) (hs : List Held) → Tray hs → Tray (freed net i t hs)
  tray_freed i t hs g x h = g x (in_filter (λ h. not (eqb h.tx i && eqb (net.home h.key) t)) hs x h).0

  -- ## Names

  conflict_fit : (hs : List Held) (xs : List Version) (b : Clock) (i k : ℕ) (c : Conflict) → Tray hs → ((x : Version) → In x xs → FitVersion net ok x) → conflict_at net.depth hs xs b i k ≡ Some c → FitConflict net c
  conflict_fit hs xs b i k c g f e = elim (option_or_cases (held_conflict (find (another_holds i k) hs)) _ c e) [
    | inl q ↦ by_held (find (another_holds i k) hs) refl q
    | inr q ↦ elim (option_or_cases (newer_conflict b (newest xs)) _ c q.1) [
      | inl r ↦ by_newer (newest xs) refl r
      | inr r ↦ by_full (eqb (length xs) net.depth) r.1
    ]
  ]
    where
      by_held : (o : Option Held) → find (another_holds i k) hs ≡ o → held_conflict o ≡ Some c → FitConflict net c
      by_held None q e = absurd (cc e)
      by_held (Some h) q e =
          let z : HeldBy h.origin h.tx ≡ c = cc e in
          let x = g h (first_is (another_holds i k) hs h q).0 in
          subst (FitConflict net) z (x.origin, x.tx)

      by_newer : (o : Option Version) → newest xs ≡ o → newer_conflict b o ≡ Some c → FitConflict net c
      by_newer None q e = absurd (cc e)
      by_newer (Some x) q e = go (inside b x) e
        where
          go : (t : Bool) → cond t None (Some (Newer x.origin x.writer x.number)) ≡ Some c → FitConflict net c
          go true e = absurd (cc e)
          go false e =
              let z : Newer x.origin x.writer x.number ≡ c = cc e in
              let y = f x (last_is (λ _. true) xs x q).0 in
              subst (FitConflict net) z (y.origin, y.writer, y.counted, y.small)

      by_full : (t : Bool) → cond t (Some Full) None ≡ Some c → FitConflict net c
      by_full true e = let z : Full ≡ c = cc e in subst (FitConflict net) z tt
      by_full false e = absurd (cc e)

  option_or_fit : (a b : Option Objection) → FitNamed net a → FitNamed net b → FitNamed net (option_or a b)
  option_or_fit (Some k) b f g = f
  option_or_fit None b f g = g

  -- ## The air

  abbrev Mail : List Message → Type 0
  Mail air = (m : Message) → In m air → Fit net ok m

  mail_prepares : (i : ℕ) (r : Record) (n : ℕ) → i < net.transactions → FitRecord net ok r → n ≤ net.towers → Mail (prepares net i r n)
  mail_prepares i r n o g l x h =
      let p = in_prepares net i r n x h in
      subst (Fit net ok) (sym p.3) (record { tx = o; from = g.origin; to = omega (arith, p.1, l); bound = g.bound; body = (homed_fit p.0 r.drafts g.drafts, p.2) })

  mail_grants : (T : Placement) (n : ℕ) → T.tx < net.transactions → T.origin < net.towers → FitClock net T.bound → 1 ≤ T.number → T.number ≤ net.transactions → FitLines net ok T.drafts → n ≤ net.towers → Mail (grants_to net T n)
  mail_grants T n a b c d e f l x h =
      let p = in_grants net T n x h in
      subst (Fit net ok) (sym p.3) (record { tx = a; from = b; to = omega (arith, p.1, l); bound = c; body = (d, e, homed_fit p.0 T.drafts f) })

  mail_refusals : (i : ℕ) (r : Record) (n : ℕ) → i < net.transactions → FitRecord net ok r → n ≤ net.towers → Mail (refusals_to net i r n)
  mail_refusals i r n o g l x h =
      let p = in_refusals net i r n x h in
      subst (Fit net ok) (sym p.2) (record { tx = o; from = g.origin; to = omega (arith, p.1, l); bound = g.bound; body = tt })

  -- ## A state, changed at one place

  records-put : (rs : ℕ → Record) (i : ℕ) (r : Record) → ((i : ℕ) → FitRecord net ok (rs i)) → FitRecord net ok r → (j : ℕ) → FitRecord net ok (put rs i r j)
  records-put rs i r g f = put_all (FitRecord net ok) rs i r f g

  amended_fit : (v : Visible) (i : ℕ) (r : Record) → InRange net ok v → FitRecord net ok r → InRange net ok (amended v i r)
  amended_fit v i r g f = record { begun = g.begun; clocks = g.clocks; records = records-put v.records i r g.records f; book = g.book; held = g.held; air = g.air }

  sent_fit : (v : Visible) (ms : List Message) → InRange net ok v → Mail ms → InRange net ok (sent v ms)
  sent_fit v ms g f = record { begun = g.begun; clocks = g.clocks; records = g.records; book = g.book; held = g.held; air = each_append (Fit net ok) v.air ms g.air f }

  removed_fit : (v : Visible) (p : ℕ) → InRange net ok v → InRange net ok (removed v p)
  removed_fit v p g = record { begun = g.begun; clocks = g.clocks; records = g.records; book = g.book; held = g.held; air = each_without (Fit net ok) v.air p g.air }

  -- a message that lands is answered by one that goes back
  answered_fit : (v : Visible) (p : ℕ) (m : Message) (c : Clock) (b : Body) → InRange net ok v → At v.air p m → FitClock net c → FitBody net ok b → InRange net ok (sent (removed v p) (message m.tx m.to m.from c b ∷ []))
  answered_fit v p m c b g a f e =
      let h = g.air m (in_at v.air p m a) in
      sent_fit (removed v p) _ (removed_fit v p g) (only (Fit net ok) _ (record { tx = h.tx; from = h.to; to = h.from; bound = f; body = e }))

  -- ## The steps

  rule_fits : {v v' : Visible} {c : Call} {a : Told} → ((i : ℕ) → (v.records i).phase ≢ Dropped → i < v.begun) → CallOk ok c → InRange net ok v → (x : Rule net v v' c a) → (let w = (next net (bare v) x).vis in ((t j : ℕ) → w.clocks t j ≤ w.begun) → InRange net ok w)
  rule_fits {v} op y g (begins t l n e) sm = record {
    begun = omega (arith, n);
    clocks = g.clocks;
    records = records-put v.records v.begun (opened t (v.clocks t)) g.records (record { origin = l; bound = g.clocks t; drafts = record { each = λ d h. absurd h; few = omega arith }; named = tt });
    book = g.book;
    held = g.held;
    air = g.air;
  }
  rule_fits op y g (reads_own i k d o h e) sm = g
  rule_fits {v} op y g (asks i k o l n e) sm =
      let r = g.records i in
      let b : i < net.transactions = omega (arith, op i (differ Open Dropped refl o), g.begun) in
      sent_fit (amended v i (in_phase Waiting (v.records i))) _ (amended_fit v i _ g (record { origin = r.origin; bound = r.bound; drafts = r.drafts; named = r.named }))
      (only (Fit net ok) _ (record { tx = b; from = r.origin; to = net.housed k; bound = r.bound; body = l }))
  rule_fits {v} op y g (drafts i k x o a l e) sm =
      let r = g.records i in
      amended_fit v i _ g (record { origin = r.origin; bound = r.bound; drafts = redrafted_fit k x (v.records i).drafts a y l r.drafts; named = r.named })
  rule_fits {v} op y g (drops i o e) sm = let r = g.records i in amended_fit v i _ g (record { origin = r.origin; bound = r.bound; drafts = r.drafts; named = r.named })
  rule_fits {v} op y g (closes_empty i o n e) sm = let r = g.records i in amended_fit v i _ g (record { origin = r.origin; bound = r.bound; drafts = r.drafts; named = tt })
  rule_fits {v} op y g (closes i o n e) sm =
      let r = g.records i in
      let ms = prepares net i (v.records i) net.towers in
      let b : i < net.transactions = omega (arith, op i (differ Open Dropped refl o), g.begun) in
      sent_fit (amended v i (voting Closing (length ms) None (v.records i))) ms (amended_fit v i _ g (record { origin = r.origin; bound = r.bound; drafts = r.drafts; named = tt }))
      (mail_prepares i (v.records i) net.towers b r (omega arith))
  rule_fits {v} op y g (replies p m k first r b e) sm =
      let h = g.air m (in_at v.air p m r.there) in
      let c : Clock = cond first (v.clocks m.to) m.bound in
      let kb : k < net.keys = subst (FitBody net ok) b h.body in
      answered_fit v p m c (answer k (newest_within c (v.book k))) g r.there (clock_choice first (v.clocks m.to) m.bound (g.clocks m.to) h.bound) (kb, shown_fit c (v.book k) (g.book k))
  rule_fits {v} op y g (receives p m k shown a b e) sm =
      let r = g.records m.tx in
      let w = amended_fit (removed v p) m.tx (reading_at m.bound (v.records m.tx)) (removed_fit v p g) (record { origin = r.origin; bound = (g.air m (in_at v.air p m a)).bound; drafts = r.drafts; named = r.named }) in
      record { begun = w.begun; clocks = w.clocks; records = w.records; book = w.book; held = w.held; air = w.air }
  rule_fits {v} op y g (agrees p m lines r b n e) sm =
      let q = g.air m (in_at v.air p m r.there) in
      let f : FitBody net ok (prepare lines) = subst (FitBody net ok) b q.body in
      let w = answered_fit v p m m.bound (vote None) g r.there q.bound tt in
      record {
        begun = w.begun;
        clocks = w.clocks;
        records = w.records;
        book = w.book;
        held = each_append (FitHeld net) v.held (holds_of m.tx m.from lines) g.held (holds_fit m.tx m.from lines q.tx q.from f.0.each);
        air = w.air;
      }
  rule_fits {v} op y g (objects p m lines k r b x e) sm =
      let h = g.air m (in_at v.air p m r.there) in
      let f : FitBody net ok (prepare lines) = subst (FitBody net ok) b h.body in
      let w = lines-found _ lines k x in
      answered_fit v p m m.bound (vote (Some k)) g r.there h.bound (drafted_fit lines k.key f.0.each w.0, conflict_fit v.held (v.book k.key) m.bound m.tx k.key k.conflict g.held (g.book k.key) w.1)
  rule_fits {v} op y g (counts p m named r b l e) sm =
      let h = g.air m (in_at v.air p m r.there) in
      let x = g.records m.tx in
      amended_fit (removed v p) m.tx _ (removed_fit v p g)
      (record { origin = x.origin; bound = x.bound; drafts = x.drafts; named = option_or_fit (v.records m.tx).named named x.named (subst (FitBody net ok) b h.body) })
  rule_fits {v} op y g (grants p m named r b l q e) sm =
      let h = g.air m (in_at v.air p m r.there) in
      let i = m.tx in
      let x = g.records i in
      let o = (v.records i).origin in
      let n = suc (v.clocks o o) in
      let w = granted_record v i in
      let small : put v.clocks o (put (v.clocks o) o n) o o ≤ v.begun = sm o o in
      let small' : n ≤ v.begun = rw (put_same v.clocks o (put (v.clocks o) o n) o refl, put_same (v.clocks o) o n o refl) at small in
      let top : n ≤ net.transactions = omega (arith, small', g.begun) in
      record {
        begun = g.begun;
        clocks = put_all (FitClock net) v.clocks o (put (v.clocks o) o n) (clock-put (v.clocks o) o n x.origin top (g.clocks o)) g.clocks;
        records = records-put v.records i w g.records (record { origin = x.origin; bound = x.bound; drafts = x.drafts; named = tt });
        book = λ k y z. elim (in_append y (v.book k) _ z) [ inl z ↦ g.book k y z | inr z ↦ written_fit i o n (homed net o (v.records i).drafts) k y h.tx x.origin (omega arith) top (homed_fit o (v.records i).drafts x.drafts).each z ];
        held = tray_freed i o v.held g.held;
        air = each_append (Fit net ok) (without v.air p) _ (each_without (Fit net ok) v.air p g.air) (mail_grants (placed_as i w) net.towers h.tx x.origin x.bound (let z : 1 ≤ n = omega arith in z) top x.drafts (omega arith));
      }
  rule_fits {v} op y g (refuses p m named k r b l q e) sm =
      let h = g.air m (in_at v.air p m r.there) in
      let x = g.records m.tx in
      let f : FitNamed net (Some k) = subst (FitNamed net) q (option_or_fit (v.records m.tx).named named x.named (subst (FitBody net ok) b h.body)) in
      let w = voting Refused 0 (Some k) (v.records m.tx) in
      let fw : FitRecord net ok w = record { origin = x.origin; bound = x.bound; drafts = x.drafts; named = f } in
      record {
        begun = g.begun;
        clocks = g.clocks;
        records = records-put v.records m.tx w g.records fw;
        book = g.book;
        held = tray_freed m.tx (v.records m.tx).origin v.held g.held;
        air = each_append (Fit net ok) (without v.air p) _ (each_without (Fit net ok) v.air p g.air) (mail_refusals m.tx (v.records m.tx) net.towers h.tx x (omega arith));
      }
  rule_fits {v} op y g (takes_in p m n lines r b l e) sm =
      let h = g.air m (in_at v.air p m r.there) in
      let f : FitBody net ok (granted n lines) = subst (FitBody net ok) b h.body in
      record {
        begun = g.begun;
        clocks = put_all (FitClock net) v.clocks m.to (put (v.clocks m.to) m.from n) (clock-put (v.clocks m.to) m.from n h.from f.1 (g.clocks m.to)) g.clocks;
        records = g.records;
        book = λ k y z. elim (in_append y (v.book k) _ z) [ inl z ↦ g.book k y z | inr z ↦ written_fit m.tx m.from n lines k y h.tx h.from f.0 f.1 f.2.each z ];
        held = tray_freed m.tx m.to v.held g.held;
        air = each_without (Fit net ok) v.air p g.air;
      }
  rule_fits {v} op y g (releases p m a b e) sm = record { begun = g.begun; clocks = g.clocks; records = g.records; book = g.book; held = tray_freed m.tx m.to v.held g.held; air = each_without (Fit net ok) v.air p g.air }

  step_fits : {v v' : Visible} {c : Call} {a : Result Told Cause} → ((i : ℕ) → (v.records i).phase ≢ Dropped → i < v.begun) → ((t j : ℕ) → v'.clocks t j ≤ v'.begun) → CallOk ok c → InRange net ok v → Step net v v' c a → InRange net ok v'
  step_fits op sm y g (fails f _ e) = subst (InRange net ok) (sym e) g
  step_fits {v} op sm y g (obeys _ x) = by_rule net (λ w. ((t j : ℕ) → w.clocks t j ≤ w.begun) → InRange net ok w) v x (rule_fits op y g x) sm

  run_fits : {h : List Event} {v : Visible} → CallsOk ok h → Run net h v → InRange net ok v
  run_fits y start = record {
    begun = omega arith;
    clocks = λ t. zeros;
    records = λ i. record { origin = omega (arith, net.housed 0); bound = zeros; drafts = record { each = λ d h. absurd h; few = omega arith }; named = tt };
    book = λ k x h. absurd h;
    held = λ x h. absurd h;
    air = λ m h. absurd h;
  }
  run_fits y (then {h = h} {v = v} {v' = v'} r x) = step_fits (run-opened net h v r) (run_small net _ v' (then r x)) y.0 (run_fits y.1 r) x

pub numbers_in_range : Always NumbersInRange
numbers_in_range net h v r ok y = run_fits net ok y r

-- whatever the contents
all_ok : (h : List Event) → CallsOk (λ _. true) h
all_ok [] = tt
all_ok (e ∷ h) = (go e.call, all_ok h)
  where
    go : (c : Call) → CallOk (λ _. true) c
    go (Begin t) = tt
    go (Read i k) = tt
    go (DraftCall i k x) = refl
    go (Close i) = tt
    go (DropCall i) = tt
    go (Deliver p) = tt

pub in_range : (net : Net) (h : List Event) (v : Visible) → Run net h v → InRange net (λ _. true) v
in_range net h v r = numbers_in_range net h v r (λ _. true) (all_ok h)
