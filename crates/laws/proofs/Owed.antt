-- A granted outcome is in the air once, and only while its receiver lacks the transaction. Assumes nothing.
use Rattle.std.proofs.Common.{◌≡◌, ℕ, suc, ◌+◌, ◌<◌, ◌≤◌, Bool, true, false, cond, ◌&&◌, eqb, ◌≢◌, ◌⊎◌, List, ◌∷◌, ◌++◌, sym, refl, ap, ◌∙◌, subst, inl, inr, arith}
use Rattle.std.proofs.lemmas.Bool.{eq-eqb, ne_eqb, eqb-true, cases_eq, cases_Bool, both_ways, and_parts, and_from, and_left, and_right}
use Rattle.messages.specs.declared.Draft.{Draft}
use Rattle.laws.specs.Lists.{put, In, At, without, tally}
use Rattle.laws.specs.Net.{Clock, Body, query, answer, prepare, vote, granted, refused, Message, Placement, Net, ◌⊑◌, is_granted, pending_of}
use Rattle.laws.proofs.Log.{count, Seen}
use Rattle.laws.specs.Words.{granted_to, grants_to}
use Rattle.laws.proofs.Lists.{put_same, put_other, in_append, in_without, tally-append, tally_at, tally_in, tally-none, none_left}
use Rattle.laws.proofs.Sent.{grants-most, each_away, each_grant}
use Rattle.laws.proofs.Placed.{Numbered, new_unseen, seen_or_same}
use Rattle.laws.proofs.Invariant.{Outcomes}
use Rattle.laws.proofs.Frames.{same-tally}
use Rattle.laws.proofs.TakeIn.{passed, Next}
use Rattle.laws.proofs.Granting.{grants_has}

-- a granted outcome of the transaction, to that tower
abbrev pub outcome_of : ℕ → ℕ → Message → Bool
outcome_of i t m = eqb m.tx i && (eqb m.to t && is_granted m.body)

pub record Owed (net : Net) (P : List Placement) (cs : ℕ → Clock) (air : List Message) : Type 0 where
  pub lone : (i t : ℕ) → tally (outcome_of i t) air ≤ 1
  pub unseen : (E : Placement) (t : ℕ) → In E P → In (granted_to net E t) air → Seen E (cs t) → ⊥
  pub balance : (t o : ℕ) → t < net.towers → cs t o + tally (pending_of o t) air ≡ count P o

pub owed_landed : (net : Net) (P : List Placement) (cs : ℕ → Clock) (air : List Message) (p : ℕ) (m : Message) → At air p m → is_granted m.body ≡ false → Owed net P cs air → Owed net P cs (without air p)
owed_landed net P cs air p m a e g = record {
  lone = λ i t. omega (arith, g.lone i t, tally_at (outcome_of i t) air p m a);
  unseen = λ E t h q. g.unseen E t h (in_without air p _ q);
  balance = λ t o l. rw (sym (same-tally (pending_of o t) air p m a (and_right (eqb m.from o) _ (and_right (eqb m.to t) _ e)))) (g.balance t o l);
}

pub owed_sent : (net : Net) (P : List Placement) (cs : ℕ → Clock) (air ms : List Message) → ((x : Message) → In x ms → is_granted x.body ≡ false) → Owed net P cs air → Owed net P cs (air ++ ms)
owed_sent net P cs air ms e g = record {
  lone = λ i t. omega (arith, g.lone i t, tally-append (outcome_of i t) air ms, tally-none (outcome_of i t) ms (λ x h. and_right (eqb x.tx i) _ (and_right (eqb x.to t) _ (e x h))));
  unseen = λ E t h q. elim (in_append (granted_to net E t) air ms q) [ inl q ↦ g.unseen E t h q | inr q ↦ absurd (both_ways true (e (granted_to net E t) q) refl) ];
  balance = λ t o l. omega (arith, g.balance t o l, tally-append (pending_of o t) air ms, tally-none (pending_of o t) ms (λ x h. and_right (eqb x.from o) _ (and_right (eqb x.to t) _ (e x h))));
}

-- ## A granted outcome lands

module _ (net : Net) (P : List Placement) (cs : ℕ → Clock) (air : List Message) (p t : ℕ) (T : Placement) (a : At air p (granted_to net T t)) (e : Next cs t T) (n : Numbered P) (h : In T P) (g : Owed net P cs air) where
  took_unseen : (E : Placement) (u : ℕ) → In E P → In (granted_to net E u) (without air p) → Seen E (passed cs t T u) → ⊥
  took_unseen E u l q s = go (cases_eq t u)
    where
      old : Seen E (cs u) → ⊥
      old = g.unseen E u l (in_without air p _ q)

      twice : t ≡ u → E ≡ T → ⊥
      twice x y = none_left (outcome_of T.tx t) air p (granted_to net T t) a (and_from _ _ (eq-eqb T.tx T.tx refl) (and_from _ _ (eq-eqb t t refl) refl)) (g.lone T.tx t) (granted_to net E u) q
          (and_from _ _ (eq-eqb E.tx T.tx (ap (λ (z : Placement). z.tx) y)) (and_from _ _ (eq-eqb u t (sym x)) refl))

      go : (t ≡ u) ⊎ (t ≡ u → ⊥) → ⊥
      go (inl x) = elim (seen_or_same P T E (cs t) n h l e (subst (Seen E) (put_same cs t (put (cs t) T.origin T.number) u x) s)) [
        | inl y ↦ old (subst (λ (w : ℕ). Seen E (cs w)) x y)
        | inr y ↦ twice x y
      ]
      go (inr x) = old (subst (Seen E) (put_other cs t (put (cs t) T.origin T.number) u x) s)

  took-balance : (u o : ℕ) → u < net.towers → passed cs t T u o + tally (pending_of o u) (without air p) ≡ count P o
  took-balance u o l = go (cases_eq t u) (cases_eq T.origin o)
    where
      m : Message
      m = granted_to net T t

      less : tally (pending_of o u) air ≡ cond (eqb T.origin o && (eqb t u && true)) 1 0 + tally (pending_of o u) (without air p)
      less = tally_at (pending_of o u) air p m a

      go : (t ≡ u) ⊎ (t ≡ u → ⊥) → (T.origin ≡ o) ⊎ (T.origin ≡ o → ⊥) → passed cs t T u o + tally (pending_of o u) (without air p) ≡ count P o
      go (inl x) (inl y) =
          let f : tally (pending_of o u) air ≡ 1 + tally (pending_of o u) (without air p) = rw (eq-eqb T.origin o y, eq-eqb t u x) at less in
          let z : suc (cs u o) ≡ T.number = subst (λ (w : ℕ). suc (cs u w) ≡ T.number) y (subst (λ (w : ℕ). suc (cs w T.origin) ≡ T.number) x e) in
          rw (put_same cs t (put (cs t) T.origin T.number) u x, put_same (cs t) T.origin T.number o y) (omega (arith, f, z, g.balance u o l))
      go (inl x) (inr y) =
          let f : tally (pending_of o u) air ≡ 0 + tally (pending_of o u) (without air p) = rw (ne_eqb T.origin o y) at less in
          rw (put_same cs t (put (cs t) T.origin T.number) u x, put_other (cs t) T.origin T.number o y, x) (omega (arith, f, g.balance u o l))
      go (inr x) y =
          let f : tally (pending_of o u) air ≡ 0 + tally (pending_of o u) (without air p) = rw (and_right (eqb T.origin o) (eqb t u && true) (and_left (eqb t u) true (ne_eqb t u x))) at less in
          rw (put_other cs t (put (cs t) T.origin T.number) u x) (omega (arith, f, g.balance u o l))

  pub took_owed : Owed net P (passed cs t T) (without air p)
  took_owed = record {
    lone = λ i u. omega (arith, g.lone i u, tally_at (outcome_of i u) air p (granted_to net T t) a);
    unseen = took_unseen;
    balance = took-balance;
  }

-- ## One more is placed

granted_is : (b : Body) → is_granted b ≡ true → (n : ℕ) × (ls : List Draft) × (b ≡ granted n ls)
granted_is (query k f) e = absurd (cc e)
granted_is (answer k v) e = absurd (cc e)
granted_is (prepare ls) e = absurd (cc e)
granted_is (vote n) e = absurd (cc e)
granted_is (granted n ls) e = (n, ls, refl)
granted_is refused e = absurd (cc e)

module _ (net : Net) (P : List Placement) (cs : ℕ → Clock) (rest : List Message) (T : Placement) (n : T.number ≡ suc (count P T.origin)) (e : Next cs T.origin T) (m : Numbered P) (behind : (u : ℕ) → cs u ⊑ count P)
    (others : (E : Placement) → In E P → E.tx ≢ T.tx) (oc : Outcomes net P cs rest) (g : Owed net P cs rest) where
  abbrev ms : List Message
  ms = grants_to net T net.towers

  -- no outcome of T was in the air
  foreign : (x : Message) → In x rest → is_granted x.body ≡ true → x.tx ≢ T.tx
  foreign x h b q =
      let y = granted_is x.body b in
      let z = oc.meant x y.0 y.1 h y.2 in
      others z.0 z.1 (sym (ap (λ (w : Message). w.tx) z.2) ∙ q)

  new_lone : (i t : ℕ) → tally (outcome_of i t) (rest ++ ms) ≤ 1
  new_lone i t = go (cases_eq T.tx i)
    where
      away : (u : ℕ) → u ≢ t → outcome_of i t (granted_to net T u) ≡ false
      away u d = and_right (eqb T.tx i) _ (and_left (eqb u t) _ (ne_eqb u t d))

      quiet : T.tx ≡ i → (x : Message) → In x rest → outcome_of i t x ≡ false
      quiet q x h = elim (cases_Bool (outcome_of i t x)) [
        | inr f ↦ f
        | inl f ↦ absurd (
            let y = and_parts (eqb x.tx i) _ f in
            foreign x h (and_parts (eqb x.to t) _ y.1).1 (eqb-true _ _ y.0 ∙ sym q))
      ]

      go : (T.tx ≡ i) ⊎ (T.tx ≡ i → ⊥) → tally (outcome_of i t) (rest ++ ms) ≤ 1
      go (inl q) = omega (arith, tally-append (outcome_of i t) rest ms, tally-none (outcome_of i t) rest (quiet q), grants-most net T (outcome_of i t) t away net.towers)
      go (inr d) = omega (arith, tally-append (outcome_of i t) rest ms, g.lone i t, tally-none (outcome_of i t) ms (each_grant net T net.towers (λ x. outcome_of i t x ≡ false) (λ u. and_left (eqb T.tx i) _ (ne_eqb T.tx i d))))

  new-own : (u : ℕ) → In (granted_to net T u) (rest ++ ms) → Seen T (passed cs T.origin T u) → ⊥
  new-own u q s = elim (in_append (granted_to net T u) rest ms q) [
    | inl q ↦ foreign (granted_to net T u) q refl refl
    | inr q ↦ (
        let d : u ≢ T.origin = each_away net T net.towers (λ x. x.to ≢ T.origin) (λ t d. d) (granted_to net T u) q in
        new_unseen P T (cs u) n (behind u) (subst (Seen T) (put_other cs T.origin (put (cs T.origin) T.origin T.number) u (λ x. d (sym x))) s))
  ]

  new_old : (E : Placement) (u : ℕ) → In E P → In (granted_to net E u) (rest ++ ms) → Seen E (passed cs T.origin T u) → ⊥
  new_old E u l q s = elim (in_append (granted_to net E u) rest ms q) [
    | inl q ↦ go q (cases_eq T.origin u)
    | inr q ↦ others E l (each_grant net T net.towers (λ x. x.tx ≡ T.tx) (λ t. refl) (granted_to net E u) q)
  ]
    where
      go : In (granted_to net E u) rest → (T.origin ≡ u) ⊎ (T.origin ≡ u → ⊥) → ⊥
      go q (inl x) = elim (seen_or_same (T ∷ P) T E (cs T.origin) (n, m) (inl refl) (inr l) e (subst (Seen E) (put_same cs T.origin (put (cs T.origin) T.origin T.number) u x) s)) [
        | inl y ↦ g.unseen E u l q (subst (λ (w : ℕ). Seen E (cs w)) x y)
        | inr y ↦ others E l (ap (λ (z : Placement). z.tx) y)
      ]
      go q (inr x) = g.unseen E u l q (subst (Seen E) (put_other cs T.origin (put (cs T.origin) T.origin T.number) u x) s)

  new-balance : (t o : ℕ) → t < net.towers → passed cs T.origin T t o + tally (pending_of o t) (rest ++ ms) ≡ count (T ∷ P) o
  new-balance t o l = go (cases_eq T.origin t) (cases_eq T.origin o)
    where
      both : tally (pending_of o t) (rest ++ ms) ≡ tally (pending_of o t) rest + tally (pending_of o t) ms
      both = tally-append (pending_of o t) rest ms

      was : cs t o + tally (pending_of o t) rest ≡ count P o
      was = g.balance t o l

      silent : (T.origin ≢ o) ⊎ (T.origin ≡ t) → tally (pending_of o t) ms ≡ 0
      silent (inl d) = tally-none (pending_of o t) ms (each_grant net T net.towers (λ x. pending_of o t x ≡ false) (λ u. and_left (eqb T.origin o) _ (ne_eqb T.origin o d)))
      silent (inr q) = tally-none (pending_of o t) ms (each_away net T net.towers (λ x. pending_of o t x ≡ false) (λ u d. and_right (eqb T.origin o) _ (and_left (eqb u t) _ (ne_eqb u t (λ x. d (x ∙ sym q))))))

      go : (T.origin ≡ t) ⊎ (T.origin ≡ t → ⊥) → (T.origin ≡ o) ⊎ (T.origin ≡ o → ⊥) → passed cs T.origin T t o + tally (pending_of o t) (rest ++ ms) ≡ count (T ∷ P) o
      go (inl x) (inl y) =
          let z : suc (cs t o) ≡ T.number = subst (λ (w : ℕ). suc (cs t w) ≡ T.number) y (subst (λ (w : ℕ). suc (cs w T.origin) ≡ T.number) x e) in
          rw (put_same cs T.origin (put (cs T.origin) T.origin T.number) t x, put_same (cs T.origin) T.origin T.number o y, eq-eqb T.origin o y) (omega (arith, both, was, silent (inr x), z))
      go (inl x) (inr y) =
          let z : cs T.origin o ≡ cs t o = ap (λ (w : ℕ). cs w o) x in
          rw (put_same cs T.origin (put (cs T.origin) T.origin T.number) t x, put_other (cs T.origin) T.origin T.number o y, ne_eqb T.origin o y) (omega (arith, both, was, silent (inr x), z))
      go (inr x) (inr y) =
          rw (put_other cs T.origin (put (cs T.origin) T.origin T.number) t x, ne_eqb T.origin o y) (omega (arith, both, was, silent (inl y)))
      go (inr x) (inl y) =
          let f : (u : ℕ) → u ≢ t → pending_of o t (granted_to net T u) ≡ false = λ u d. and_right (eqb T.origin o) _ (and_left (eqb u t) _ (ne_eqb u t d)) in
          let some : 1 ≤ tally (pending_of o t) ms = tally_in (pending_of o t) ms (granted_to net T t) (grants_has net T net.towers t l (λ q. x (sym q))) (and_from _ _ (eq-eqb T.origin o y) (and_from _ _ (eq-eqb t t refl) refl)) in
          rw (put_other cs T.origin (put (cs T.origin) T.origin T.number) t x, eq-eqb T.origin o y) (omega (arith, both, was, some, grants-most net T (pending_of o t) t f net.towers))

  pub grants_owed : Owed net (T ∷ P) (passed cs T.origin T) (rest ++ ms)
  grants_owed = record {
    lone = new_lone;
    unseen = λ E u h. elim h [
      | inl x ↦ subst (λ (F : Placement). In (granted_to net F u) (rest ++ ms) → Seen F (passed cs T.origin T u) → ⊥) (sym x) (new-own u)
      | inr h ↦ new_old E u h
    ];
    balance = new-balance;
  }
