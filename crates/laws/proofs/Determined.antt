-- A call tells one thing and does one thing. Assumes nothing.
use Rattle.std.proofs.Common.{◌≡◌, ℕ, zero, suc, Bool, true, false, eqb, ◌≢◌, List, [], ◌∷◌, ◌++◌, length, Some, None, Ok, Err, Option, Result, sym, refl, ap, ◌∙◌, subst, arith}
use Rattle.std.specs.Option.{option_or}
use Rattle.std.specs.List.{slice_get}
use Rattle.std.proofs.lemmas.Bool.{eq-eqb, ne_eqb}
use Rattle.faults.specs.declared.Cause.{Cause}
use Rattle.messages.specs.declared.Draft.{Draft}
use Rattle.messages.specs.declared.Objection.{Objection}
use Rattle.messages.specs.Table.{conflict_mark}
use Rattle.tables.specs.declared.Phase.TheVariants.{Granted, Dropped}
use Rattle.tables.specs.declared.Call.{Call}
use Rattle.tables.specs.declared.Call.TheVariants.{Begin, Read, Draft as DraftCall, Close, Drop as DropCall, Deliver}
use Rattle.tables.specs.declared.Told.{Told}
use Rattle.tables.specs.declared.Told.TheVariants.{Begun, Own, Sent, Drafts, ReadOnly, Dropped as ToldDropped, Queried, Shown, Prepared, Awaiting, Placed, Refused as ToldRefused, Ended}
use Rattle.laws.specs.Lists.{At}
use Rattle.laws.specs.Net.{Body, query, answer, prepare, vote, granted, refused, Message, Net, content_of}
use Rattle.laws.specs.Words.{draft_of, in_phase, drafting, voting, redrafted, holds_of, prepares, Event}
use Rattle.laws.specs.State.{Visible, amended, holding}
use Rattle.laws.specs.Faults.{first_fault}
use Rattle.laws.specs.Rules.{Run, begun_at, asked, closed, replied, received, voted, counted, granting, refusing, took, released, objection, Rule, Step, fails, obeys, begins, reads_own, asks, drafts, drops, closes_empty, closes, replies, receives, agrees, objects, counts, grants, refuses, takes_in, releases}
use Rattle.laws.specs.Further.{SameAnswer, AnswersDetermined}
use Rattle.laws.proofs.Answering.{obeyed}

pub at_nth : (xs : List Message) (p : ℕ) (m : Message) → At xs p m → slice_get xs p ≡ Some m
at_nth [] p m a = absurd a
at_nth (x ∷ xs) zero m a = ap Some (sym a)
at_nth (x ∷ xs) (suc p) m a = at_nth xs p m a

pub record Effect : Type 0 where
  pub told : Result Told Cause
  pub state : Visible

abbrev pub effect : Told → Visible → Effect
effect a v = record { told = Ok a; state = v }

-- what a call tells and does, where no check turns it down
module _ (net : Net) (v : Visible) where
  abbrev pub of_read : ℕ → ℕ → Option Draft → Effect
  of_read i k (Some d) = effect (Own d.content) v
  of_read i k None = effect (Sent 1) (asked net v i k)

  abbrev pub of_close : ℕ → List Draft → Effect
  of_close i [] = effect ReadOnly (amended v i (voting Granted 0 None (v.records i)))
  of_close i (d ∷ ds) = effect (Sent (length (prepares net i (v.records i) net.towers))) (closed net v i)

  abbrev pub of_prepare : ℕ → Message → List Draft → Option Objection → Effect
  of_prepare p m lines None = effect (Prepared m.tx 0) (holding (voted net v p m None) (v.held ++ holds_of m.tx m.from lines))
  of_prepare p m lines (Some x) = effect (Prepared m.tx (conflict_mark x.conflict)) (voted net v p m (Some x))

  abbrev pub of_vote : ℕ → Message → Option Objection → Bool → Option Objection → Effect
  of_vote p m named false o = effect (Awaiting m.tx) (counted net v p m named)
  of_vote p m named true None = effect (Placed m.tx (suc v.last)) (granting net v p m)
  of_vote p m named true (Some x) = effect (ToldRefused m.tx x.key) (refusing net v p m x)

  abbrev pub of_body : ℕ → Message → Body → Effect
  of_body p m (query k first) = effect (Queried m.tx) (replied net v p m k first)
  of_body p m (answer k shown) = effect (Shown m.tx k (content_of shown)) (received net v p m k shown)
  of_body p m (prepare lines) = of_prepare p m lines (objection net v m lines)
  of_body p m (vote named) = of_vote p m named (eqb (v.records m.tx).awaited 1) (option_or (v.records m.tx).named named)
  of_body p m (granted n lines) = effect (Ended m.tx m.to) (took net v p m n lines)
  of_body p m refused = effect (Ended m.tx m.to) (released net v p m)

  abbrev pub of_message : ℕ → Option Message → Effect
  of_message p None = effect ReadOnly v
  of_message p (Some m) = of_body p m m.body

  abbrev pub of_call : Call → Effect
  of_call (Begin t) = effect (Begun v.begun) (begun_at net v t)
  of_call (Read i k) = of_read i k (draft_of k (v.records i).drafts)
  of_call (DraftCall i k x) = effect (Drafts (length (redrafted k x (v.records i).drafts))) (amended v i (drafting (redrafted k x (v.records i).drafts) (v.records i)))
  of_call (Close i) = of_close i (v.records i).drafts
  of_call (DropCall i) = effect (ToldDropped i) (amended v i (in_phase Dropped (v.records i)))
  of_call (Deliver p) = of_message p (slice_get v.air p)

  -- a message at p with this body
  body_is : (p : ℕ) (m : Message) (b : Body) → At v.air p m → m.body ≡ b → of_message p (slice_get v.air p) ≡ of_body p m b
  body_is p m b a e = ap (of_message p) (at_nth v.air p m a) ∙ ap (of_body p m) e

  empty_close : (i : ℕ) (ds : List Draft) → ds ≢ [] → of_close i ds ≡ effect (Sent (length (prepares net i (v.records i) net.towers))) (closed net v i)
  empty_close i [] n = absurd (n refl)
  empty_close i (d ∷ ds) n = refl

  vote_is : (p : ℕ) (m : Message) (named o : Option Objection) (b : Bool) → eqb (v.records m.tx).awaited 1 ≡ b → option_or (v.records m.tx).named named ≡ o → of_body p m (vote named) ≡ of_vote p m named b o
  vote_is p m named o b e f = ap (λ (x : Bool). of_vote p m named x (option_or (v.records m.tx).named named)) e ∙ ap (of_vote p m named b) f

  rule_effect : {v' : Visible} {c : Call} {a : Told} → Rule net v v' c a → effect a v' ≡ of_call c
  rule_effect (begins t l n e) = ap (effect _) e
  rule_effect (reads_own i k d o q e) = ap (effect _) e ∙ sym (ap (of_read i k) q)
  rule_effect (asks i k o l q e) = ap (effect _) e ∙ sym (ap (of_read i k) q)
  rule_effect (drafts i k x o l n e) = ap (effect _) e
  rule_effect (drops i o e) = ap (effect _) e
  rule_effect (closes_empty i o n e) = ap (effect _) e ∙ sym (ap (of_close i) n)
  rule_effect (closes i o n e) = ap (effect _) e ∙ sym (empty_close i (v.records i).drafts n)
  rule_effect (replies p m k first r b e) = ap (effect _) e ∙ sym (body_is p m (query k first) r.there b)
  rule_effect (receives p m k shown x b e) = ap (effect _) e ∙ sym (body_is p m (answer k shown) x b)
  rule_effect (agrees p m lines r b n e) = ap (effect _) e ∙ sym (body_is p m (prepare lines) r.there b ∙ ap (of_prepare p m lines) n)
  rule_effect (objects p m lines x r b n e) = ap (effect _) e ∙ sym (body_is p m (prepare lines) r.there b ∙ ap (of_prepare p m lines) n)
  rule_effect (counts p m named r b l e) = ap (effect _) e ∙ sym (body_is p m (vote named) r.there b ∙ vote_is p m named _ false (ne_eqb _ _ (λ q. omega (arith, q, l))) refl)
  rule_effect (grants p m named r b l q e) = ap (effect _) e ∙ sym (body_is p m (vote named) r.there b ∙ vote_is p m named None true (eq-eqb _ _ l) q)
  rule_effect (refuses p m named x r b l q e) = ap (effect _) e ∙ sym (body_is p m (vote named) r.there b ∙ vote_is p m named (Some x) true (eq-eqb _ _ l) q)
  rule_effect (takes_in p m n lines r b l e) = ap (effect _) e ∙ sym (body_is p m (granted n lines) r.there b)
  rule_effect (releases p m x b e) = ap (effect _) e ∙ sym (body_is p m refused x b)

  same_effect : {a b : Told} {w u : Visible} → effect a w ≡ effect b u → SameAnswer (Ok a) (Ok b) w u
  same_effect e = record { told = ap (λ (r : Effect). r.told) e; state = ap (λ (r : Effect). r.state) e }

  determined : {v' v'' : Visible} {c : Call} {a b : Result Told Cause} → Step net v v' c a → Step net v v'' c b → SameAnswer a b v' v''
  determined (fails f p e) (fails g q d) =
      let s : f ≡ g = cc (p, q) in
      record { told = ap Err s; state = e ∙ sym d }
  determined (fails f p e) (obeys q y) = absurd (cc (q, p))
  determined (obeys p x) (fails g q d) = absurd (cc (p, q))
  determined (obeys p x) (obeys q y) = same_effect (rule_effect x ∙ sym (rule_effect y))

pub answers_determined : AnswersDetermined
answers_determined net v v' v'' c a b x y = determined net v x y

-- in a net that a run has reached, a call tells and does what it should by its first fault
abbrev pub answer_of : (net : Net) (v : Visible) (c : Call) → Option Cause → Effect
answer_of net v c (Some f) = record { told = Err f; state = v }
answer_of net v c None = of_call net v c

pub answered : (net : Net) (h : List Event) (v : Visible) → Run net h v → (c : Call) → let r = answer_of net v c (first_fault net v c) in Step net v r.state c r.told
answered net h v run c = go (first_fault net v c) refl
  where
    go : (o : Option Cause) → first_fault net v c ≡ o → Step net v (answer_of net v c o).state c (answer_of net v c o).told
    go (Some f) e = fails f e refl
    go None e =
        let r = obeyed net h v run c e in
        subst (λ (x : Effect). Step net v x.state c x.told) (rule_effect net v r.2) (obeys e r.2)
