-- A key is held once, and what is granted with drafts is placed. Assumes nothing.
use Rattle.std.proofs.Common.{◌≡◌, ℕ, pred, ◌+◌, ◌<◌, ◌≤◌, Bool, true, false, cond, not, ◌&&◌, eqb, ◌⊎◌, List, [], ◌∷◌, ◌++◌, map, length, Some, None, Option, sym, refl, ap, ◌∙◌, subst, inl, inr, arith}
use Rattle.std.specs.Option.{option_or, unwrap_or}
use Rattle.std.proofs.lemmas.List.{length-map}
use Rattle.std.proofs.lemmas.Bool.{eq-eqb, ne_eqb, eqb-true, cases_eq, cases_Bool, both_ways, and_parts, and_from, and_left, and_right}
use Rattle.messages.specs.declared.Draft.{Draft}
use Rattle.tables.specs.declared.Held.{Held}
use Rattle.tables.specs.declared.Call.{Call}
use Rattle.tables.specs.declared.Told.{Told}
use Rattle.tables.specs.declared.Phase.TheVariants.{Open, Waiting, Closing, Granted, Refused, Dropped}
use Rattle.laws.proofs.Conflicts.{Conflicts, taken_by, unopposed}
use Rattle.laws.specs.Lists.{put, In, At, without, tally}
use Rattle.laws.specs.Net.{Clock, Record, Body, query, answer, prepare, vote, granted, refused, Message, Placement, Net, Drafted, newest_within, has_closed, is_ballot}
use Rattle.laws.specs.Words.{opened, in_phase, drafting, reading_at, voting, placed_as, message, redrafted, holds_of, homed, freed, prepares, grants_to, refusals_to, Event}
use Rattle.laws.specs.History.{placed_in, number_of, number_in, place_of}
use Rattle.laws.specs.Rules.{Run, Rule, agrees, asks, begins, closes, closes_empty, counts, drafts, drops, grants, receives, releases, reads_own, objects, refuses, replies, takes_in}
use Rattle.laws.specs.State.{granted_record, Visible}
use Rattle.laws.specs.Further.{Always, HeldOnce, RecordsAgree}
use Rattle.laws.proofs.Model.{Logged, State, by_step, log_of, next, start, then}
use Rattle.laws.proofs.Lists.{put_case, in_at, in_append, in_without, tally-append, tally_at, tally-none, none_left}
use Rattle.laws.proofs.Sent.{prepares-most, each-prepare, each_grant, each-refusal}
use Rattle.laws.proofs.Placed.{drafted?, number_pos}
use Rattle.laws.proofs.Invariant.{Holds, Invariant}
use Rattle.laws.proofs.Frames.{differ, only, no_intent, holds_freed}
use Rattle.laws.proofs.Calls.{homed-drafted}
use Rattle.laws.proofs.Voting.{holds_cases}
use Rattle.laws.proofs.Stand.{run_holds, intent_drafted}
use Rattle.laws.proofs.More.{drafts_of, More, run_more, filter_fewer}
use Rattle.laws.proofs.Histories.{txs, Linked, run_linked}
use Rattle.laws.proofs.Places.{Places, run-places}
use Rattle.laws.proofs.Lawful.{placed_at, numbered_as}
use Rattle.laws.proofs.Further.{always}
use Rattle.laws.proofs.Few.{few}
use Rattle.laws.proofs.Fits.{drafted_fit, in_range}

abbrev is_prepare : Body → Bool
is_prepare (query k f) = false
is_prepare (answer k v) = false
is_prepare (prepare ls) = true
is_prepare (vote n) = false
is_prepare (granted n ls) = false
is_prepare refused = false

-- a prepare of the transaction, to that tower
abbrev prepare_of : ℕ → ℕ → Message → Bool
prepare_of i t m = eqb m.tx i && (eqb m.to t && is_prepare m.body)

abbrev Once : List Held → Type 0
Once hs = (k : ℕ) → tally (λ h. eqb h.key k) hs ≤ 1

abbrev Lone : List Message → Type 0
Lone air = (i t : ℕ) → tally (prepare_of i t) air ≤ 1

-- where a prepare is yet to come, nothing is held
abbrev Unheld : Net → List Held → List Message → Type 0
Unheld net hs air = (m : Message) (ls : List Draft) (k : ℕ) → In m air → m.body ≡ prepare ls → net.home k ≡ m.to → Holds hs k m.tx → ⊥

abbrev Won : List Placement → (ℕ → Record) → Type 0
Won P rs = (i : ℕ) → (rs i).phase ≡ Granted → ((rs i).drafts ≡ []) ⊎ In i (txs P)

pub record Kept (net : Net) (s : State) : Type 0 where
  pub once : Once s.vis.held
  pub lone : Lone s.vis.air
  pub unheld : Unheld net s.vis.held s.vis.air
  pub won : Won s.placed s.vis.records

-- ## The parts

lone_landed : (air : List Message) (p : ℕ) (m : Message) → At air p m → Lone air → Lone (without air p)
lone_landed air p m a g i t = omega (arith, g i t, tally_at (prepare_of i t) air p m a)

lone_sent : (air ms : List Message) → ((x : Message) → In x ms → is_prepare x.body ≡ false) → Lone air → Lone (air ++ ms)
lone_sent air ms e g i t = omega (arith, g i t, tally-append (prepare_of i t) air ms, tally-none (prepare_of i t) ms (λ x h. and_right (eqb x.tx i) _ (and_right (eqb x.to t) _ (e x h))))

unheld_landed : (net : Net) (hs : List Held) (air : List Message) (p : ℕ) → Unheld net hs air → Unheld net hs (without air p)
unheld_landed net hs air p g m ls k h = g m ls k (in_without air p m h)

unheld_sent : (net : Net) (hs : List Held) (air ms : List Message) → ((x : Message) → In x ms → is_prepare x.body ≡ false) → Unheld net hs air → Unheld net hs (air ++ ms)
unheld_sent net hs air ms e g m ls k h b = elim (in_append m air ms h) [ inl h ↦ g m ls k h b | inr h ↦ absurd (both_ways (is_prepare m.body) (e m h) (ap is_prepare b)) ]

unheld_fewer : (net : Net) (hs gs : List Held) (air : List Message) → ((k i : ℕ) → Holds gs k i → Holds hs k i) → Unheld net hs air → Unheld net gs air
unheld_fewer net hs gs air f g m ls k h b q x = g m ls k h b q (f k m.tx x)

once-freed : (net : Net) (i t : ℕ) (hs : List Held) → Once hs → Once (freed net i t hs)
once-freed net i t hs g k = omega (arith, g k, filter_fewer (λ h. eqb h.key k) (λ h. not (eqb h.tx i && eqb (net.home h.key) t)) hs)

won_put : (P : List Placement) (rs : ℕ → Record) (i : ℕ) (r : Record) → Won P rs → (r.phase ≡ Granted → (r.drafts ≡ []) ⊎ In i (txs P)) → Won P (put rs i r)
won_put P rs i r g f = put_case (λ j x. x.phase ≡ Granted → (x.drafts ≡ []) ⊎ In j (txs P)) rs i r f (λ j _. g j)

-- ## A transaction closes

prepare_ballot : (b : Body) → is_prepare b ≡ true → is_ballot b ≡ true
prepare_ballot (query k f) e = absurd (cc e)
prepare_ballot (answer k v) e = absurd (cc e)
prepare_ballot (prepare ls) e = refl
prepare_ballot (vote n) e = refl
prepare_ballot (granted n ls) e = absurd (cc e)
prepare_ballot refused e = absurd (cc e)

module _ (net : Net) (s : State) (i : ℕ) (v : Invariant net s) (g : Kept net s) (o : (s.vis.records i).phase ≡ Open) where
  abbrev asks_of : List Message
  asks_of = prepares net i (s.vis.records i) net.towers

  closes_lone : Lone (s.vis.air ++ asks_of)
  closes_lone j t = go (cases_eq i j)
    where
      quiet : i ≡ j → (x : Message) → In x s.vis.air → prepare_of j t x ≡ false
      quiet q x h = elim (cases_Bool (prepare_of j t x)) [
        | inr f ↦ f
        | inl f ↦ absurd (
            let y = and_parts (eqb x.tx j) _ f in
            let c = (v.votes.sound x h (prepare_ballot x.body (and_parts (eqb x.to t) _ y.1).1)).closing in
            differ Open Closing refl (subst (λ (n : ℕ). (s.vis.records n).phase ≡ Open) (q ∙ sym (eqb-true _ _ y.0)) o) c)
      ]

      go : (i ≡ j) ⊎ (i ≡ j → ⊥) → tally (prepare_of j t) (s.vis.air ++ asks_of) ≤ 1
      go (inl q) = omega (
        arith,
        tally-append (prepare_of j t) s.vis.air asks_of,
        tally-none (prepare_of j t) s.vis.air (quiet q),
        prepares-most net i (s.vis.records i) (prepare_of j t) t (λ u d. and_right (eqb i j) _ (and_left (eqb u t) _ (ne_eqb u t d))) net.towers,
      )
      go (inr d) = omega (
        arith,
        tally-append (prepare_of j t) s.vis.air asks_of,
        g.lone j t,
        tally-none (prepare_of j t) asks_of (each-prepare net i (s.vis.records i) net.towers (λ x. prepare_of j t x ≡ false) (λ u. and_left (eqb i j) _ (ne_eqb i j d))),
      )

  closes_unheld : Unheld net s.vis.held (s.vis.air ++ asks_of)
  closes_unheld m ls k h b q x = elim (in_append m s.vis.air asks_of h) [
    | inl h ↦ g.unheld m ls k h b q x
    | inr h ↦ (
        let e : m.tx ≡ i = each-prepare net i (s.vis.records i) net.towers (λ x. x.tx ≡ i) (λ t. refl) m h in
        no_intent (s.vis.records i) k (ap has_closed o) (v.holders.meant k i (subst (Holds s.vis.held k) e x)))
  ]

-- ## A home agrees

holds_tally : (i o : ℕ) (ds : List Draft) (k : ℕ) → tally (λ h. eqb h.key k) (holds_of i o ds) ≡ drafts_of k ds
holds_tally i o [] k = refl
holds_tally i o (d ∷ ds) k = rw (holds_tally i o ds k)

undrafted : (ds : List Draft) (k : ℕ) → (Drafted ds k → ⊥) → drafts_of k ds ≡ 0
undrafted [] k n = refl
undrafted (d ∷ ds) k n = rw (ne_eqb d.key k (λ e. n (inl e))) (omega (arith, undrafted ds k (λ x. n (inr x))))

module _ (net : Net) (s : State) (p : ℕ) (m : Message) (lines : List Draft) (v : Invariant net s) (g : Kept net s) (more : More net s) (a : At s.vis.air p m) (b : m.body ≡ prepare lines) (n : (k : ℕ) → Drafted lines k → Conflicts net s.vis m k → ⊥) where
  the_lines : lines ≡ homed net m.to (s.vis.records m.tx).drafts
  the_lines = (v.votes.sound m (in_at s.vis.air p m a) (ap is_ballot b)).lines lines b

  line_home : (k : ℕ) → Drafted lines k → net.home k ≡ m.to
  line_home k d = (homed-drafted net m.to (s.vis.records m.tx).drafts k (subst (λ (ds : List Draft). Drafted ds k) the_lines d)).1

  agrees_unheld : Unheld net (s.vis.held ++ holds_of m.tx m.from lines) (without s.vis.air p)
  agrees_unheld x ls k h c q y = elim (holds_cases s.vis.held m.tx m.from lines k x.tx y) [
    | inl y ↦ g.unheld x ls k (in_without s.vis.air p x h) c q y
    | inr y ↦ none_left (prepare_of m.tx m.to) s.vis.air p m a (and_from _ _ (eq-eqb m.tx m.tx refl) (and_from _ _ (eq-eqb m.to m.to refl) (ap is_prepare b))) (g.lone m.tx m.to) x h
        (and_from _ _ (eq-eqb _ _ y.0) (and_from _ _ (eq-eqb _ _ (sym q ∙ line_home k y.1)) (ap is_prepare c)))
  ]

  agrees-once : Once (s.vis.held ++ holds_of m.tx m.from lines)
  agrees-once k = go (drafted? lines k)
    where
      both : tally (λ h. eqb h.key k) (s.vis.held ++ holds_of m.tx m.from lines) ≡ tally (λ h. eqb h.key k) s.vis.held + drafts_of k lines
      both = tally-append (λ h. eqb h.key k) s.vis.held (holds_of m.tx m.from lines) ∙ ap (λ (z : ℕ). tally (λ h. eqb h.key k) s.vis.held + z) (holds_tally m.tx m.from lines k)

      few : drafts_of k lines ≤ 1
      few = subst (λ (ds : List Draft). drafts_of k ds ≤ 1) (sym the_lines) (omega (arith, more.tidy m.tx k, filter_fewer (λ d. eqb d.key k) (λ d. eqb (net.home d.key) m.to) (s.vis.records m.tx).drafts))

      free : Drafted lines k → (h : Held) → In h s.vis.held → eqb h.key k ≡ false
      free d h q = ne_eqb h.key k (λ e. elim (cases_eq h.tx m.tx) [
        | inl t ↦ g.unheld m lines k (in_at s.vis.air p m a) b (line_home k d) (h, q, e, t)
        | inr t ↦ n k d (taken_by h q e t)
      ])

      go : Drafted lines k ⊎ (Drafted lines k → ⊥) → tally (λ h. eqb h.key k) (s.vis.held ++ holds_of m.tx m.from lines) ≤ 1
      go (inl d) = omega (arith, both, few, tally-none (λ h. eqb h.key k) s.vis.held (free d))
      go (inr d) = omega (arith, both, g.once k, undrafted lines k d)

-- ## The steps

rule_kept : (net : Net) {s : State} {v' : Visible} {c : Call} {a : Told} → Invariant net s → More net s → Kept net s → (x : Rule net s.vis v' c a) → Kept net (next net s x)
rule_kept net {s} v r g (begins t l _ e) = record { once = g.once; lone = g.lone; unheld = g.unheld; won = won_put s.placed s.vis.records s.vis.begun (opened t (s.vis.clocks t)) g.won (λ x. absurd (differ Open Granted refl refl x)) }
rule_kept net {s} v r g (reads_own i k d o h e) = g
rule_kept net {s} v r g (asks i k o _ n e) =
    let q = message i (s.vis.records i).origin (net.home k) (s.vis.records i).bound (query k (not (s.vis.records i).answered)) in
    record {
      once = g.once;
      lone = lone_sent s.vis.air (q ∷ []) (only (λ x. is_prepare x.body ≡ false) q refl) g.lone;
      unheld = unheld_sent net s.vis.held s.vis.air (q ∷ []) (only (λ x. is_prepare x.body ≡ false) q refl) g.unheld;
      won = won_put s.placed s.vis.records i (in_phase Waiting (s.vis.records i)) g.won (λ x. absurd (differ Waiting Granted refl refl x));
    }
rule_kept net {s} v r g (drafts i k w o _ _ e) = record { once = g.once; lone = g.lone; unheld = g.unheld; won = won_put s.placed s.vis.records i (drafting (redrafted k w (s.vis.records i).drafts) (s.vis.records i)) g.won (λ x. absurd (differ Open Granted refl o x)) }
rule_kept net {s} v r g (drops i o e) = record { once = g.once; lone = g.lone; unheld = g.unheld; won = won_put s.placed s.vis.records i (in_phase Dropped (s.vis.records i)) g.won (λ x. absurd (differ Dropped Granted refl refl x)) }
rule_kept net {s} v r g (closes_empty i o n e) = record { once = g.once; lone = g.lone; unheld = g.unheld; won = won_put s.placed s.vis.records i (voting Granted 0 None (s.vis.records i)) g.won (λ _. inl n) }
rule_kept net {s} v r g (closes i o n e) = record {
  once = g.once;
  lone = closes_lone net s i v g o;
  unheld = closes_unheld net s i v g o;
  won = won_put s.placed s.vis.records i (voting Closing (length (prepares net i (s.vis.records i) net.towers)) None (s.vis.records i)) g.won (λ x. absurd (differ Closing Granted refl refl x));
}
rule_kept net {s} v r g (replies p m k first a b e) =
    let c : Clock = cond first (s.vis.clocks m.to) m.bound in
    let q = message m.tx m.to m.from c (answer k (newest_within c (s.vis.book k))) in
    record {
      once = g.once;
      lone = lone_sent (without s.vis.air p) (q ∷ []) (only (λ x. is_prepare x.body ≡ false) q refl) (lone_landed s.vis.air p m a.there g.lone);
      unheld = unheld_sent net s.vis.held (without s.vis.air p) (q ∷ []) (only (λ x. is_prepare x.body ≡ false) q refl) (unheld_landed net s.vis.held s.vis.air p g.unheld);
      won = g.won;
    }
rule_kept net {s} v r g (receives p m k shown a b e) = record {
  once = g.once;
  lone = lone_landed s.vis.air p m a g.lone;
  unheld = unheld_landed net s.vis.held s.vis.air p g.unheld;
  won = won_put s.placed s.vis.records m.tx (reading_at m.bound (s.vis.records m.tx)) g.won (λ x. absurd (differ Open Granted refl refl x));
}
rule_kept net {s} v r g (agrees p m lines a b n e) =
    let q = message m.tx m.to m.from m.bound (vote None) in
    record {
      once = agrees-once net s p m lines v g r a.there b (unopposed net s.vis m lines n);
      lone = lone_sent (without s.vis.air p) (q ∷ []) (only (λ x. is_prepare x.body ≡ false) q refl) (lone_landed s.vis.air p m a.there g.lone);
      unheld = unheld_sent net (s.vis.held ++ holds_of m.tx m.from lines) (without s.vis.air p) (q ∷ []) (only (λ x. is_prepare x.body ≡ false) q refl) (agrees_unheld net s p m lines v g r a.there b (unopposed net s.vis m lines n));
      won = g.won;
    }
rule_kept net {s} v r g (objects p m lines k a b y e) =
    let q = message m.tx m.to m.from m.bound (vote (Some k)) in
    record {
      once = g.once;
      lone = lone_sent (without s.vis.air p) (q ∷ []) (only (λ x. is_prepare x.body ≡ false) q refl) (lone_landed s.vis.air p m a.there g.lone);
      unheld = unheld_sent net s.vis.held (without s.vis.air p) (q ∷ []) (only (λ x. is_prepare x.body ≡ false) q refl) (unheld_landed net s.vis.held s.vis.air p g.unheld);
      won = g.won;
    }
rule_kept net {s} v r g (counts p m named a b l e) = record {
  once = g.once;
  lone = lone_landed s.vis.air p m a.there g.lone;
  unheld = unheld_landed net s.vis.held s.vis.air p g.unheld;
  won = won_put s.placed s.vis.records m.tx (voting Closing (pred (s.vis.records m.tx).awaited) (option_or (s.vis.records m.tx).named named) (s.vis.records m.tx)) g.won (λ x. absurd (differ Closing Granted refl refl x));
}
rule_kept net {s} v r g (grants p m named a b l q e) =
    let i = m.tx in
    let o = (s.vis.records i).origin in
    let w = granted_record s.vis i in
    let T = placed_as i w in
    let ms = grants_to net T net.towers in
    let each = each_grant net T net.towers (λ x. is_prepare x.body ≡ false) (λ t. refl) in
    record {
      once = once-freed net i o s.vis.held g.once;
      lone = lone_sent (without s.vis.air p) ms each (lone_landed s.vis.air p m a.there g.lone);
      unheld = unheld_sent net (freed net i o s.vis.held) (without s.vis.air p) ms each (unheld_fewer net s.vis.held (freed net i o s.vis.held) (without s.vis.air p) (holds_freed net i o s.vis.held) (unheld_landed net s.vis.held s.vis.air p g.unheld));
      won = won_put (T ∷ s.placed) s.vis.records i w (λ j x. elim (g.won j x) [ inl y ↦ inl y | inr y ↦ inr (inr y) ]) (λ _. inr (inl refl));
    }
rule_kept net {s} v r g (refuses p m named k a b l q e) =
    let i = m.tx in
    let w = voting Refused 0 (Some k) (s.vis.records i) in
    let ms = refusals_to net i (s.vis.records i) net.towers in
    let each = each-refusal net i (s.vis.records i) net.towers (λ x. is_prepare x.body ≡ false) (λ t. refl) in
    record {
      once = once-freed net i w.origin s.vis.held g.once;
      lone = lone_sent (without s.vis.air p) ms each (lone_landed s.vis.air p m a.there g.lone);
      unheld = unheld_sent net (freed net i w.origin s.vis.held) (without s.vis.air p) ms each (unheld_fewer net s.vis.held (freed net i w.origin s.vis.held) (without s.vis.air p) (holds_freed net i w.origin s.vis.held) (unheld_landed net s.vis.held s.vis.air p g.unheld));
      won = won_put s.placed s.vis.records i w g.won (λ x. absurd (differ Refused Granted refl refl x));
    }
rule_kept net {s} v r g (takes_in p m n lines a b l e) = record {
  once = once-freed net m.tx m.to s.vis.held g.once;
  lone = lone_landed s.vis.air p m a.there g.lone;
  unheld = unheld_fewer net s.vis.held (freed net m.tx m.to s.vis.held) (without s.vis.air p) (holds_freed net m.tx m.to s.vis.held) (unheld_landed net s.vis.held s.vis.air p g.unheld);
  won = g.won;
}
rule_kept net {s} v r g (releases p m a b e) = record {
  once = once-freed net m.tx m.to s.vis.held g.once;
  lone = lone_landed s.vis.air p m a g.lone;
  unheld = unheld_fewer net s.vis.held (freed net m.tx m.to s.vis.held) (without s.vis.air p) (holds_freed net m.tx m.to s.vis.held) (unheld_landed net s.vis.held s.vis.air p g.unheld);
  won = g.won;
}

pub run_kept : (net : Net) {h : List Event} {s : State} → Logged net h s → Kept net s
run_kept net start = record { once = λ k. omega arith; lone = λ i t. omega arith; unheld = λ m ls k h. absurd h; won = λ i c. absurd (differ Dropped Granted refl refl c) }
run_kept net (then {s = s} r x) = by_step net (Kept net) s (run_kept net r) (λ _. rule_kept net (run_holds net r) (run_more net r) (run_kept net r)) x

-- ## The laws

abbrev keys_of : List Held → List ℕ
keys_of hs = map (λ (h : Held). h.key) hs

keys-tally : (hs : List Held) (k : ℕ) → tally (λ x. eqb x k) (keys_of hs) ≡ tally (λ h. eqb h.key k) hs
keys-tally [] k = refl
keys-tally (h ∷ hs) k = rw (keys-tally hs k)

keys_in : (hs : List Held) (k : ℕ) → In k (keys_of hs) → (h : Held) × In h hs × (h.key ≡ k)
keys_in [] k q = absurd q
keys_in (h ∷ hs) k (inl e) = (h, inl refl, sym e)
keys_in (h ∷ hs) k (inr q) = let r = keys_in hs k q in (r.0, inr r.1, r.2)

pub held_once : Always HeldOnce
held_once net h v r =
    let x = log_of net r in
    let s = x.0 in
    let i = run_holds net x.1 in
    let g = run_kept net x.1 in
    let fits = subst (λ (w : Visible). Run net h w) (sym x.2) r in
    let range = in_range net h s.vis fits in
    let below : (k : ℕ) → In k (keys_of s.vis.held) → k < net.keys = λ k q.
    let y = keys_in s.vis.held k q in
    let d = intent_drafted (s.vis.records y.0.tx) k (i.holders.meant k y.0.tx (y.0, y.1, y.2, refl)) in
    drafted_fit net (λ _. true) (s.vis.records y.0.tx).drafts k (range.records y.0.tx).drafts.each d.1 in
    subst (HeldOnce net h) x.2 (record {
      once = g.once;
      enough = omega (arith, length-map s.vis.held (λ (h : Held). h.key), few net.keys (keys_of s.vis.held) below (λ k. omega (arith, keys-tally s.vis.held k, g.once k)));
    })

-- what is not placed has no number, and what is placed has its own
place_in : (i n : ℕ) (is : List ℕ) → place_of i is ≡ Some n → In i is
place_in i n [] e = absurd (cc e)
place_in i n (j ∷ is) e = elim (cases_eq j i) [ inl q ↦ inl (sym q) | inr q ↦ inr (place_in i n is (rw (ne_eqb j i q) at e)) ]

number-none : (h : List Event) (i : ℕ) (is : List ℕ) → place_of i is ≡ None → number_of h i is ≡ None
number-none h i [] e = refl
number-none h i (j ∷ is) e = elim (cases_eq j i) [
  | inl q ↦ absurd (cc (rw (eq-eqb j i q) at e))
  | inr q ↦ rw (ne_eqb j i q) (number-none h i is (rw (ne_eqb j i q) at e))
]

has_number : (o : Option ℕ) (n : ℕ) → 1 ≤ n → n ≡ unwrap_or o 0 → Some n ≡ o
has_number None n l e = absurd (omega (arith, l, e))
has_number (Some m) n l e = ap Some e

number_is : (net : Net) (h : List Event) (s : State) → Invariant net s → Linked h s → Places s → (i : ℕ) (o : Option ℕ) → (s.vis.records i).place ≡ o → number_in h i ≡ (s.vis.records i).number
number_is net h s v l g i None e = number-none h i (placed_in h) (ap (place_of i) (sym l.placed) ∙ g.place i ∙ e) ∙ sym (g.number i e)
number_is net h s v l g i (Some n) e =
    let y = placed_at s.placed i (place_in i n (txs s.placed) (g.place i ∙ e)) in
    let E = y.0 in
    let q : E.number ≡ unwrap_or (s.vis.records i).number 0 = ap (λ (F : Placement). F.number) (v.granteds E y.1).1 ∙ ap (λ (j : ℕ). unwrap_or (s.vis.records j).number 0) y.2 in
    ap (number_in h) (sym y.2) ∙ numbered_as net h s v l E y.1 ∙ has_number (s.vis.records i).number E.number (number_pos s.placed E v.order.numbered y.1) q

agree : (net : Net) (h : List Event) (s : State) → Logged net h s → RecordsAgree net h s.vis
agree net h s r =
    let v = run_holds net r in
    let l = run_linked net r in
    record {
      begun = l.begun;
      last = l.last ∙ sym (length-map s.placed (λ (T : Placement). T.tx)) ∙ ap length l.placed;
      origin = l.origins;
      drafts = l.drafts;
      number = λ i. number_is net h s v l (run-places net r) i (s.vis.records i).place refl;
      place = λ i. ap (place_of i) (sym l.placed) ∙ (run-places net r).place i;
      placed = λ x q.
          let y = placed_at s.placed x (subst (In x) (sym l.placed) q) in
          subst (λ (i : ℕ). (s.vis.records i).phase ≡ Granted) y.2 (v.granteds y.0 y.1).0;
      granted = λ i c. elim ((run_kept net r).won i c) [ inl e ↦ inl (sym (l.drafts i) ∙ e) | inr q ↦ inr (subst (In i) l.placed q) ];
    }

pub records_agree : Always RecordsAgree
records_agree = always RecordsAgree agree
