-- The tables suffice: checks turn down what they have no place for. Assumes nothing.
use Rattle.std.proofs.Common.{◌≡◌, ℕ, zero, suc, ◌+◌, ◌≤◌, ltb, ◌≢◌, List, [], ◌∷◌, ◌++◌, length, Some, None, Option, Result, sym, refl, ap, subst, arith, length-append}
use Rattle.std.specs.Option.{option_or}
use Rattle.std.specs.List.{slice_get}
use Rattle.std.proofs.lemmas.Bool.{eq-eqb, ltb-true, leb-true}
use Rattle.messages.specs.declared.Draft.{Draft}
use Rattle.messages.specs.declared.Objection.{Objection}
use Rattle.tables.specs.declared.Call.{Call}
use Rattle.faults.specs.declared.Cause.{Cause}
use Rattle.tables.specs.declared.Told.{Told}
use Rattle.laws.specs.Lists.{At, without}
use Rattle.laws.specs.Net.{Body, answer, vote, Message, Net, writer_of}
use Rattle.laws.specs.Words.{prepares, Event}
use Rattle.laws.specs.State.{Visible}
use Rattle.laws.specs.Faults.{ripe, room, unless_room, read_fault, close_fault, outcomes_of, delivery_fault, message_fault, first_fault}
use Rattle.laws.specs.Rules.{Rule, Step, fails, obeys, start, then, begins, reads_own, asks, drafts, drops, closes_empty, closes, replies, receives, agrees, objects, counts, grants, refuses, takes_in, releases}
use Rattle.laws.specs.Further.{Always, WithinCapacity}
use Rattle.laws.proofs.Model.{next, bare, by_rule}
use Rattle.laws.proofs.Answering.{passes, passes_open}
use Rattle.laws.proofs.Determined.{at_nth}

length_without : (xs : List Message) (p : ℕ) (m : Message) → At xs p m → suc (length (without xs p)) ≡ length xs
length_without [] p m a = absurd a
length_without (x ∷ xs) zero m a = refl
length_without (x ∷ xs) (suc p) m a = ap suc (length_without xs p m a)

module _ (net : Net) (v : Visible) where
  has_room : (n : ℕ) (air : List Message) → unless_room net v (room net v n air) ≡ None → length air + n ≤ net.air_places
  has_room n air e = leb-true _ _ (passes (room net v n air) _ _ e).0

  more : (air ms : List Message) → length air + length ms ≤ net.air_places → length (air ++ ms) ≤ net.air_places
  more air ms l = omega (arith, l, length-append air ms)

  -- a message is answered by one
  swapped : (p : ℕ) (m q : Message) → At v.air p m → length v.air ≤ net.air_places → length (without v.air p ++ q ∷ []) ≤ net.air_places
  swapped p m q a l = omega (arith, l, length_without v.air p m a, length-append (without v.air p) (q ∷ []))

  fewer : (p : ℕ) (m : Message) → At v.air p m → length v.air ≤ net.air_places → length (without v.air p) ≤ net.air_places
  fewer p m a l = omega (arith, l, length_without v.air p m a)

  -- the checks of a delivery, by the message and its body
  delivery : (p : ℕ) (m : Message) (b : Body) → At v.air p m → m.body ≡ b → message_fault net v p (slice_get v.air p) ≡ None → delivery_fault net v p m b ≡ None
  delivery p m b a e n =
      let f : message_fault net v p (Some m) ≡ None = subst (λ (o : Option Message). message_fault net v p o ≡ None) (at_nth v.air p m a) n in
      subst (λ (x : Body). delivery_fault net v p m x ≡ None) e (passes (ripe net.entries (v.clocks m.to) m) _ _ f).1

  decided : (p : ℕ) (m : Message) (named o : Option Objection) → At v.air p m → m.body ≡ vote named → (v.records m.tx).awaited ≡ 1 → option_or (v.records m.tx).named named ≡ o → message_fault net v p (slice_get v.air p) ≡ None →
      length (without v.air p) + length (outcomes_of net v m.tx o) ≤ net.air_places
  decided p m named o a e one q n =
      let f = delivery p m (vote named) a e n in
      let g : unless_room net v (room net v (length (outcomes_of net v m.tx (option_or (v.records m.tx).named named))) (without v.air p)) ≡ None = rw (eq-eqb _ _ one) at f in
      subst (λ (x : Option Objection). length (without v.air p) + length (outcomes_of net v m.tx x) ≤ net.air_places) q (has_room _ _ g)

  closing : (i : ℕ) (ds : List Draft) → ds ≢ [] → close_fault net v i ds ≡ None → length v.air + length (prepares net i (v.records i) net.towers) ≤ net.air_places
  closing i [] n e = absurd (n refl)
  closing i (d ∷ ds) n e = has_room _ _ e

  rule_capacity : (h : List Event) {v' : Visible} {c : Call} {a : Told} → first_fault net v c ≡ None → WithinCapacity net h v → (x : Rule net v v' c a) → WithinCapacity net h (next net (bare v) x).vis
  rule_capacity h n g (begins t l b e) = record { begun = omega (arith, b); air = g.air; readings = g.readings }
  rule_capacity h n g (reads_own i k d o q e) = g
  rule_capacity h n g (asks i k o l q e) =
      let a = (passes (ltb k net.keys) _ _ (passes_open net v i _ n).1).1 in
      record { begun = g.begun; air = more v.air _ (has_room 1 v.air (subst (λ (x : Option Draft). read_fault net v x ≡ None) q a)); readings = g.readings }
  rule_capacity h n g (drafts i k x o l m e) = record { begun = g.begun; air = g.air; readings = g.readings }
  rule_capacity h n g (drops i o e) = record { begun = g.begun; air = g.air; readings = g.readings }
  rule_capacity h n g (closes_empty i o q e) = record { begun = g.begun; air = g.air; readings = g.readings }
  rule_capacity h n g (closes i o q e) = record { begun = g.begun; air = more v.air _ (closing i (v.records i).drafts q (passes_open net v i _ n).1); readings = g.readings }
  rule_capacity h n g (replies p m k first r b e) = record { begun = g.begun; air = swapped p m _ r.there g.air; readings = g.readings }
  rule_capacity h n g (receives p m k shown a b e) =
      let f = ltb-true _ _ (passes (ltb (length v.readings) net.reading_places) _ _ (delivery p m (answer k shown) a b n)).0 in
      record { begun = g.begun; air = fewer p m a g.air; readings = omega (arith, f, length-append v.readings (record { tx = m.tx; key = k; writer = writer_of shown } ∷ [])) }
  rule_capacity h n g (agrees p m lines r b q e) = record { begun = g.begun; air = swapped p m _ r.there g.air; readings = g.readings }
  rule_capacity h n g (objects p m lines x r b q e) = record { begun = g.begun; air = swapped p m _ r.there g.air; readings = g.readings }
  rule_capacity h n g (counts p m named r b l e) = record { begun = g.begun; air = fewer p m r.there g.air; readings = g.readings }
  rule_capacity h n g (grants p m named r b l q e) = record { begun = g.begun; air = more (without v.air p) _ (decided p m named None r.there b l q n); readings = g.readings }
  rule_capacity h n g (refuses p m named x r b l q e) = record { begun = g.begun; air = more (without v.air p) _ (decided p m named (Some x) r.there b l q n); readings = g.readings }
  rule_capacity h n g (takes_in p m k lines r b l e) = record { begun = g.begun; air = fewer p m r.there g.air; readings = g.readings }
  rule_capacity h n g (releases p m a b e) = record { begun = g.begun; air = fewer p m a g.air; readings = g.readings }

pub within_capacity : Always WithinCapacity
within_capacity net _ _ start = record { begun = omega arith; air = omega arith; readings = omega arith }
within_capacity net _ _ (then {h = h} {v = v} r x) = go (within_capacity net h v r) x
  where
    go : {v v' : Visible} {c : Call} {a : Result Told Cause} {h k : List Event} → WithinCapacity net h v → Step net v v' c a → WithinCapacity net k v'
    go {v = v} {k = k} g (fails f q e) = subst (WithinCapacity net k) (sym e) (record { begun = g.begun; air = g.air; readings = g.readings })
    go {v = v} {k = k} g (obeys n y) = by_rule net (WithinCapacity net k) v y (rule_capacity net v k n (record { begun = g.begun; air = g.air; readings = g.readings }) y)
