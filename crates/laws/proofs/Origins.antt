-- The tower that a holder is said to be of is the holder's origin. Assumes nothing.
use Rattle.std.proofs.Common.{◌≡◌, ℕ, suc, pred, ◌<◌, false, not, ◌&&◌, eqb, List, [], ◌∷◌, ◌++◌, length, Some, None, Option, sym, refl, ap, ◌∙◌, subst, inl, inr, arith}
use Rattle.std.specs.Option.{option_or}
use Rattle.std.proofs.lemmas.Bool.{cases_lt, both_ways}
use Rattle.messages.specs.declared.Draft.{Draft}
use Rattle.messages.specs.declared.Objection.{Objection}
use Rattle.messages.specs.declared.Conflict.TheVariants.{Held as HeldBy}
use Rattle.tables.specs.declared.Held.{Held}
use Rattle.tables.specs.declared.Call.{Call}
use Rattle.tables.specs.declared.Told.{Told}
use Rattle.tables.specs.declared.Phase.TheVariants.{Waiting, Closing, Granted, Refused, Dropped}
use Rattle.laws.specs.Lists.{put, In, without}
use Rattle.laws.specs.Net.{Clock, Record, query, prepare, vote, Message, Net, is_ballot}
use Rattle.laws.specs.Words.{opened, in_phase, drafting, reading_at, voting, message, redrafted, holds_of, freed, prepares, grants_to, refusals_to}
use Rattle.laws.specs.State.{Visible, granted_record, placement}
use Rattle.laws.specs.Rules.{Rule, begins, reads_own, asks, drafts, drops, closes_empty, closes, replies, receives, agrees, objects, counts, grants, refuses, takes_in, releases}
use Rattle.laws.proofs.Model.{State, next}
use Rattle.laws.proofs.Lists.{put_keeps, put_other, put_case, in_at, in_append, in_without, in_filter}
use Rattle.laws.proofs.Sent.{each-prepare, each_grant, each-refusal}
use Rattle.laws.proofs.Conflicts.{option_or_cases, Evidence, opposed}
use Rattle.laws.proofs.Invariant.{Invariant}
use Rattle.laws.proofs.Frames.{differ, only}

-- w has begun, at o
abbrev pub Of : ℕ → (ℕ → Record) → ℕ → ℕ → Type 0
Of n rs o w = (w < n) × ((rs w).origin ≡ o)

abbrev pub Sound : ℕ → (ℕ → Record) → Objection → Type 0
Sound n rs a = (o w : ℕ) → a.conflict ≡ HeldBy o w → Of n rs o w

abbrev Votes : ℕ → (ℕ → Record) → List Message → Type 0
Votes n rs air = (m : Message) (a : Objection) → In m air → m.body ≡ vote (Some a) → Sound n rs a

abbrev Tray : ℕ → (ℕ → Record) → List Held → Type 0
Tray n rs held = (h : Held) → In h held → Of n rs h.origin h.tx

pub record Origins (n : ℕ) (rs : ℕ → Record) (hs : List Held) (air : List Message) : Type 0 where
  pub held : Tray n rs hs
  pub voted : Votes n rs air
  pub named : (i : ℕ) (a : Objection) → (rs i).named ≡ Some a → Sound n rs a

module _ (n : ℕ) (rs : ℕ → Record) (hs : List Held) (air : List Message) where
  o_put : (i : ℕ) (r : Record) → r.origin ≡ (rs i).origin → ((a : Objection) → r.named ≡ Some a → Sound n rs a) → Origins n rs hs air → Origins n (put rs i r) hs air
  o_put i r e f g =
      let of : (o w : ℕ) → Of n rs o w → Of n (put rs i r) o w = λ o w x. (x.0, put_keeps (λ x. x.origin) rs i r e w ∙ x.1) in
      record {
        held = λ h q. of h.origin h.tx (g.held h q);
        voted = λ m a q b o w c. of o w (g.voted m a q b o w c);
        named = λ j a q o w c. of o w (put_case (λ j x. x.named ≡ Some a → Sound n rs a) rs i r (f a) (λ j _. g.named j a) j q o w c);
      }

  o_removed : (p : ℕ) → Origins n rs hs air → Origins n rs hs (without air p)
  o_removed p g = record { held = g.held; voted = λ m a q. g.voted m a (in_without air p m q); named = g.named }

  o_sent : (ms : List Message) → Votes n rs ms → Origins n rs hs air → Origins n rs hs (air ++ ms)
  o_sent ms f g = record { held = g.held; voted = λ m a q. elim (in_append m air ms q) [ inl q ↦ g.voted m a q | inr q ↦ f m a q ]; named = g.named }

  o_held : (gs : List Held) → Tray n rs gs → Origins n rs hs air → Origins n rs gs air
  o_held gs f g = record { held = f; voted = g.voted; named = g.named }

  o_freed : (net : Net) (i t : ℕ) → Origins n rs hs air → Origins n rs (freed net i t hs) air
  o_freed net i t g = o_held (freed net i t hs) (λ h q. g.held h (in_filter (λ h. not (eqb h.tx i && eqb (net.home h.key) t)) hs h q).0) g

  o_begun : (t : ℕ) (c : Clock) → Origins n rs hs air → Origins (suc n) (put rs n (opened t c)) hs air
  o_begun t c g =
      let of : (o w : ℕ) → Of n rs o w → Of (suc n) (put rs n (opened t c)) o w = λ o w x. (omega (arith, x.0), ap (λ (r : Record). r.origin) (put_other rs n (opened t c) w (λ q. omega (arith, q, x.0))) ∙ x.1) in
      record {
        held = λ h q. of h.origin h.tx (g.held h q);
        voted = λ m a q b o w c. of o w (g.voted m a q b o w c);
        named = λ j a q o w e. of o w (put_case (λ j x. x.named ≡ Some a → Sound n rs a) rs n (opened t c) (λ z. absurd (cc z)) (λ j _. g.named j a) j q o w e);
      }

holds_origin : (i o : ℕ) (ds : List Draft) (h : Held) → In h (holds_of i o ds) → (h.tx ≡ i) × (h.origin ≡ o)
holds_origin i o [] h q = absurd q
holds_origin i o (d ∷ ds) h (inl e) = (ap (λ (x : Held). x.tx) e, ap (λ (x : Held). x.origin) e)
holds_origin i o (d ∷ ds) h (inr q) = holds_origin i o ds h q

-- a message that is no vote
silent : (n : ℕ) (rs : ℕ → Record) (q : Message) → is_ballot q.body ≡ false → Votes n rs (q ∷ [])
silent n rs q e m a h = only (λ m. m.body ≡ vote (Some a) → Sound n rs a) q (λ b. absurd (both_ways (is_ballot q.body) e (ap is_ballot b))) m h

abbrev pub OriginsOf : State → Type 0
OriginsOf s = Origins s.vis.begun s.vis.records s.vis.held s.vis.air

module _ (net : Net) (s : State) (v : Invariant net s) (g : OriginsOf s) where
  abbrev n : ℕ
  n = s.vis.begun

  abbrev rs : ℕ → Record
  rs = s.vis.records

  kept_named : (m : Message) (named : Option Objection) (a : Objection) → In m s.vis.air → m.body ≡ vote named → option_or (rs m.tx).named named ≡ Some a → Sound n rs a
  kept_named m named a h e q = elim (option_or_cases (rs m.tx).named named a q) [
    | inl f ↦ g.named m.tx a f
    | inr f ↦ g.voted m a h (e ∙ ap vote f.1)
  ]

  begun_at-origin : (m : Message) (lines : List Draft) → In m s.vis.air → m.body ≡ prepare lines → Of n rs m.from m.tx
  begun_at-origin m lines h e =
      let b = v.votes.sound m h (ap is_ballot e) in (
        elim (cases_lt m.tx n) [ inl l ↦ l | inr l ↦ absurd (differ Closing Dropped refl b.closing (ap (λ (x : Record). x.phase) (v.unbegun m.tx l))) ],
        sym (b.asker lines e),
      )

  objected : (m : Message) (a : Objection) → Evidence net s.vis m a.key a.conflict → Sound n rs a
  objected m a x o w c = go (subst (Evidence net s.vis m a.key) c x)
    where
      go : Evidence net s.vis m a.key (HeldBy o w) → Of n rs o w
      go (h, q, _, _, t, e) = subst (λ (z : ℕ). Of n rs z w) e (subst (Of n rs h.origin) t (g.held h q))

  removed : (p : ℕ) → Origins n rs s.vis.held (without s.vis.air p)
  removed p = o_removed n rs s.vis.held s.vis.air p g

  abbrev rest : ℕ → List Message
  rest p = without s.vis.air p

  amend : (i : ℕ) (r : Record) → r.origin ≡ (rs i).origin → ((a : Objection) → r.named ≡ Some a → Sound n rs a) → Origins n (put rs i r) s.vis.held s.vis.air
  amend i r e f = o_put n rs s.vis.held s.vis.air i r e f g

  pub rule_origins : {v' : Visible} {c : Call} {a : Told} → (x : Rule net s.vis v' c a) → OriginsOf (next net s x)
  rule_origins (begins t _ _ e) = o_begun n rs s.vis.held s.vis.air t (s.vis.clocks t) g
  rule_origins (reads_own i k d o q e) = g
  rule_origins (asks i k o _ q e) =
      let r = in_phase Waiting (rs i) in
      o_sent n (put rs i r) s.vis.held s.vis.air _ (silent n (put rs i r) (message i (rs i).origin (net.home k) (rs i).bound (query k (not (rs i).answered))) refl) (amend i r refl (g.named i))
  rule_origins (drafts i k x o _ _ e) = amend i (drafting (redrafted k x (rs i).drafts) (rs i)) refl (g.named i)
  rule_origins (drops i o e) = amend i (in_phase Dropped (rs i)) refl (g.named i)
  rule_origins (closes_empty i o q e) = amend i (voting Granted 0 None (rs i)) refl (λ a z. absurd (cc z))
  rule_origins (closes i o q e) =
      let r = voting Closing (length (prepares net i (rs i) net.towers)) None (rs i) in
      o_sent n (put rs i r) s.vis.held s.vis.air (prepares net i (rs i) net.towers)
      (λ m a h b. absurd (each-prepare net i (rs i) net.towers (λ m. m.body ≡ vote (Some a) → ⊥) (λ t q. cc q) m h b))
      (amend i r refl (λ a z. absurd (cc z)))
  rule_origins (replies p m k first r b e) = o_sent n rs s.vis.held (rest p) _ (silent n rs _ refl) (removed p)
  rule_origins (receives p m k shown a b e) = o_put n rs s.vis.held (rest p) m.tx (reading_at m.bound (rs m.tx)) refl (g.named m.tx) (removed p)
  rule_origins (agrees p m lines r b q e) =
      let at = begun_at-origin m lines (in_at s.vis.air p m r.there) b in
      let y = message m.tx m.to m.from m.bound (vote None) in
      let tray : Tray n rs (s.vis.held ++ holds_of m.tx m.from lines) = λ h z. elim (in_append h s.vis.held _ z) [
        | inl z ↦ g.held h z
        | inr z ↦ (let w = holds_origin m.tx m.from lines h z in subst (λ (o : ℕ). Of n rs o h.tx) (sym w.1) (subst (Of n rs m.from) (sym w.0) at))
      ] in
      o_held n rs s.vis.held (rest p ++ y ∷ []) _ tray
      (o_sent n rs s.vis.held (rest p) (y ∷ []) (λ x a h. only (λ x. x.body ≡ vote (Some a) → Sound n rs a) y (λ z. absurd (cc z)) x h) (removed p))
  rule_origins (objects p m lines k r b q e) =
      let y = message m.tx m.to m.from m.bound (vote (Some k)) in
      o_sent n rs s.vis.held (rest p) (y ∷ []) (λ x a h. only (λ x. x.body ≡ vote (Some a) → Sound n rs a) y (λ z. let w : k ≡ a = cc z in subst (Sound n rs) w (objected m k (opposed net s.vis m lines k q).1)) x h) (removed p)
  rule_origins (counts p m named r b l e) = o_put n rs s.vis.held (rest p) m.tx (voting Closing (pred (rs m.tx).awaited) (option_or (rs m.tx).named named) (rs m.tx)) refl (λ a. kept_named m named a (in_at s.vis.air p m r.there) b) (removed p)
  rule_origins (grants p m named r b l q e) =
      let i = m.tx in
      let w = granted_record s.vis i in
      let ms = grants_to net (placement s.vis i) net.towers in
      o_sent n (put rs i w) (freed net i (rs i).origin s.vis.held) (rest p) ms
      (λ x a h z. absurd (each_grant net (placement s.vis i) net.towers (λ x. x.body ≡ vote (Some a) → ⊥) (λ t z. cc z) x h z))
      (o_freed n (put rs i w) s.vis.held (rest p) net i (rs i).origin (o_put n rs s.vis.held (rest p) i w refl (λ a z. absurd (cc z)) (removed p)))
  rule_origins (refuses p m named k r b l q e) =
      let i = m.tx in
      let w = voting Refused 0 (Some k) (rs i) in
      let ms = refusals_to net i (rs i) net.towers in
      o_sent n (put rs i w) (freed net i (rs i).origin s.vis.held) (rest p) ms
      (λ x a h z. absurd (each-refusal net i (rs i) net.towers (λ x. x.body ≡ vote (Some a) → ⊥) (λ t z. cc z) x h z))
      (o_freed n (put rs i w) s.vis.held (rest p) net i (rs i).origin
      (o_put n rs s.vis.held (rest p) i w refl (λ a z. let y : k ≡ a = cc z in subst (Sound n rs) y (kept_named m named k (in_at s.vis.air p m r.there) b q)) (removed p)))
  rule_origins (takes_in p m k lines r b l e) = o_freed n rs s.vis.held (rest p) net m.tx m.to (removed p)
  rule_origins (releases p m a b e) = o_freed n rs s.vis.held (rest p) net m.tx m.to (removed p)
