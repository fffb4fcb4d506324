-- Whatever is called in a net that a run has reached, there is something to tell. Assumes nothing.
use Rattle.std.proofs.Common.{◌≡◌, ℕ, zero, suc, ◌<◌, ◌≤◌, Bool, true, false, ltb, leb, List, [], ◌∷◌, length, Some, None, Ok, Option, Result, sym, refl, subst, inl, inr, arith}
use Rattle.std.specs.Option.{option_or}
use Rattle.std.specs.List.{slice_get}
use Rattle.std.proofs.lemmas.Bool.{eqb-true, ltb-true, leb-true, cases_eq, cases_lt, and_parts}
use Rattle.faults.specs.declared.Cause.{Cause}
use Rattle.messages.specs.declared.Draft.{Draft}
use Rattle.messages.specs.declared.Objection.{Objection}
use Rattle.tables.specs.declared.Phase.{Phase}
use Rattle.tables.specs.declared.Phase.TheVariants.{Open, Waiting, Closing, Granted, Refused, Dropped}
use Rattle.tables.specs.declared.Call.{Call}
use Rattle.tables.specs.declared.Call.TheVariants.{Begin, Read, Draft as DraftCall, Close, Drop as DropCall, Deliver}
use Rattle.tables.specs.declared.Told.{Told}
use Rattle.laws.specs.Lists.{At}
use Rattle.laws.specs.Net.{Clock, Body, query, answer, prepare, vote, granted, refused, Message, Net}
use Rattle.laws.specs.Words.{draft_of, redrafted, Event}
use Rattle.laws.specs.State.{Visible}
use Rattle.laws.specs.Faults.{unless, is_open, covers_first, ripe, unless_open, message_fault, first_fault}
use Rattle.laws.specs.Rules.{objection, Ripe, Rule, Step, fails, obeys, Run, begins, reads_own, asks, drafts, drops, closes_empty, closes, replies, receives, agrees, objects, counts, grants, refuses, takes_in, releases}
use Rattle.laws.specs.Further.{Always, EveryCallAnswered}
use Rattle.laws.proofs.Lists.{in_at}
use Rattle.laws.proofs.Further.{closing_awaits, messages_at_home}
use Rattle.laws.proofs.Fits.{in_range}

-- ## Checks

pub passes : (b : Bool) (f : Cause) (o : Option Cause) → unless b f o ≡ None → (b ≡ true) × (o ≡ None)
passes true f o e = (refl, e)
passes false f o e = absurd (cc e)

pub open_is : (p : Phase) → is_open p ≡ true → p ≡ Open
open_is Open e = refl
open_is Waiting e = absurd (cc e)
open_is Closing e = absurd (cc e)
open_is Granted e = absurd (cc e)
open_is Refused e = absurd (cc e)
open_is Dropped e = absurd (cc e)

pub passes_open : (net : Net) (v : Visible) (i : ℕ) (o : Option Cause) → unless_open net v i o ≡ None → ((v.records i).phase ≡ Open) × (o ≡ None)
passes_open net v i o e =
    let a = passes (ltb i v.begun) _ _ e in
    let b = passes (is_open (v.records i).phase) _ _ a.1 in
    (open_is (v.records i).phase b.0, b.1)

pub nth_at : {A : Type 0} (xs : List A) (p : ℕ) (x : A) → slice_get xs p ≡ Some x → At xs p x
nth_at [] p x e = absurd (cc e)
nth_at (y ∷ xs) zero x e = let q : y ≡ x = cc e in sym q
nth_at (y ∷ xs) (suc p) x e = nth_at xs p x e

pub covers_below : (n : ℕ) (c b : Clock) → covers_first n c b ≡ true → (j : ℕ) → j < n → b j ≤ c j
covers_below zero c b e j l = absurd (omega (arith, l))
covers_below (suc n) c b e j l =
    let r = and_parts (leb (b n) (c n)) _ e in
    elim (cases_eq j n) [ inl q ↦ subst (λ (i : ℕ). b i ≤ c i) (sym q) (leb-true _ _ r.0) | inr d ↦ covers_below n c b r.1 j (omega (arith, d, l)) ]

-- ## The calls

module _ (net : Net) (h : List Event) (v : Visible) (run : Run net h v) where
  abbrev Ruled : Call → Type 0
  Ruled c = (a : Told) × (v' : Visible) × Rule net v v' c a

  -- a bound that the clock covers as far as there are towers is covered
  covered : (p : ℕ) (m : Message) → At v.air p m → covers_first net.entries (v.clocks m.to) m.bound ≡ true → Ripe net v p m
  covered p m a e =
      let zeros = ((in_range net h v run).air m (in_at v.air p m a)).bound.beyond in
      record {
        there = a;
        caught_up = λ j. elim (cases_lt j net.entries) [
          | inl l ↦ covers_below net.entries (v.clocks m.to) m.bound e j l
          | inr l ↦ omega (arith, zeros j (omega (arith, l, net.enough)))
        ];
      }

  reads : (i k : ℕ) → (v.records i).phase ≡ Open → k < net.keys → (o : Option Draft) → draft_of k (v.records i).drafts ≡ o → Ruled (Read i k)
  reads i k o l (Some d) e = (_, _, reads_own i k d o e refl)
  reads i k o l None e = (_, _, asks i k o l e refl)

  closings : (i : ℕ) → (v.records i).phase ≡ Open → (ds : List Draft) → (v.records i).drafts ≡ ds → Ruled (Close i)
  closings i o [] e = (_, _, closes_empty i o e refl)
  closings i o (d ∷ ds) e = (_, _, closes i o (λ q. cc (e, q)) refl)

  prepared : (p : ℕ) (m : Message) (lines : List Draft) → m.body ≡ prepare lines → Ripe net v p m → (o : Option Objection) → objection net v m lines ≡ o → Ruled (Deliver p)
  prepared p m lines e r None q = (_, _, agrees p m lines r e q refl)
  prepared p m lines e r (Some x) q = (_, _, objects p m lines x r e q refl)

  decided : (p : ℕ) (m : Message) (named : Option Objection) → m.body ≡ vote named → Ripe net v p m → (v.records m.tx).awaited ≡ 1 → (o : Option Objection) → option_or (v.records m.tx).named named ≡ o → Ruled (Deliver p)
  decided p m named e r one None q = (_, _, grants p m named r e one q refl)
  decided p m named e r one (Some x) q = (_, _, refuses p m named x r e one q refl)

  voted : (p : ℕ) (m : Message) (named : Option Objection) → m.body ≡ vote named → Ripe net v p m → Ruled (Deliver p)
  voted p m named e r =
      let x = (messages_at_home net h v run m (in_at v.air p m r.there)).phase in
      let w = (closing_awaits net h v run m.tx (rw e at x)).some in
      elim (cases_eq (v.records m.tx).awaited 1) [
        | inl one ↦ decided p m named e r one (option_or (v.records m.tx).named named) refl
        | inr more ↦ (_, _, counts p m named r e (omega (arith, w, more)) refl)
      ]

  delivered : (p : ℕ) (m : Message) → At v.air p m → (b : Body) → m.body ≡ b → ripe net.entries (v.clocks m.to) m ≡ true → Ruled (Deliver p)
  delivered p m a (answer k shown) e r = (_, _, receives p m k shown a e refl)
  delivered p m a refused e r = (_, _, releases p m a e refl)
  delivered p m a (query k first) e r = (_, _, replies p m k first (covered p m a (rw e at r)) e refl)
  delivered p m a (prepare lines) e r = prepared p m lines e (covered p m a (rw e at r)) (objection net v m lines) refl
  delivered p m a (vote named) e r = voted p m named e (covered p m a (rw e at r))
  delivered p m a (granted n lines) e r =
      let x = and_parts (covers_first net.entries (v.clocks m.to) m.bound) _ (rw e at r) in
      (_, _, takes_in p m n lines (covered p m a x.0) e (eqb-true _ _ x.1) refl)

  deliveries : (p : ℕ) (o : Option Message) → slice_get v.air p ≡ o → message_fault net v p o ≡ None → Ruled (Deliver p)
  deliveries p None q e = absurd (cc e)
  deliveries p (Some m) q e = delivered p m (nth_at v.air p m q) m.body refl (passes (ripe net.entries (v.clocks m.to) m) _ _ e).0

  -- a call that no check turns down is obeyed
  pub obeyed : (c : Call) → first_fault net v c ≡ None → Ruled c
  obeyed (Begin t) e =
      let a = passes (ltb t net.towers) _ _ e in
      (_, _, begins t (ltb-true _ _ a.0) (ltb-true _ _ (passes (ltb v.begun net.transactions) _ _ a.1).0) refl)
  obeyed (Read i k) e =
      let a = passes_open net v i _ e in
      reads i k a.0 (ltb-true _ _ (passes (ltb k net.keys) _ _ a.1).0) (draft_of k (v.records i).drafts) refl
  obeyed (DraftCall i k x) e =
      let a = passes_open net v i _ e in
      let b = passes (ltb k net.keys) _ _ a.1 in
      (_, _, drafts i k x a.0 (ltb-true _ _ b.0) (leb-true _ _ (passes (leb (length (redrafted k x (v.records i).drafts)) net.most) _ _ b.1).0) refl)
  obeyed (Close i) e = closings i (passes_open net v i _ e).0 (v.records i).drafts refl
  obeyed (DropCall i) e = (_, _, drops i (passes_open net v i _ e).0 refl)
  obeyed (Deliver p) e = deliveries p (slice_get v.air p) refl e

pub every_call_answered : Always EveryCallAnswered
every_call_answered net h v run c = go (first_fault net v c) refl
  where
    go : (o : Option Cause) → first_fault net v c ≡ o → (a : Result Told Cause) × (v' : Visible) × Step net v v' c a
    go (Some f) e = (_, v, fails f e refl)
    go None e = let r = obeyed net h v run c e in (Ok r.0, r.1, obeys e r.2)
