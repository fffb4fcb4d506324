-- What is sent to several towers: to whom, and why. Assumes nothing.
use Rattle.std.proofs.Common.{◌≡◌, ℕ, zero, suc, ◌+◌, ◌<◌, ◌≤◌, Bool, true, false, cond, eqb, ◌≢◌, List, [], ◌∷◌, length, sym, subst, refl, inl, inr, arith}
use Rattle.std.proofs.lemmas.Bool.{eqb-false}
use Rattle.messages.specs.declared.Draft.{Draft}
use Rattle.laws.specs.Lists.{In, tally}
use Rattle.laws.specs.Net.{Record, Message, Placement, Net}
use Rattle.laws.specs.Words.{unless_none, homed, prepare_to, granted_to, refused_to, prepares, grants_to, refusals_to}
use Rattle.laws.proofs.Lists.{in_append, tally_parts}

in_unless : (ds : List Draft) (m x : Message) → In x (unless_none ds m) → (1 ≤ length ds) × (x ≡ m)
in_unless [] m x h = absurd h
in_unless (d ∷ ds) m x (inl e) = (omega arith, e)
in_unless (d ∷ ds) m x (inr h) = absurd h

in_cond : (b : Bool) (ms : List Message) (x : Message) → In x (cond b [] ms) → (b ≡ false) × In x ms
in_cond true ms x h = absurd h
in_cond false ms x h = (refl, h)

-- a prepare is to a home of a drafted key
pub in_prepares : (net : Net) (i : ℕ) (r : Record) (n : ℕ) (x : Message) → In x (prepares net i r n) → (t : ℕ) × (t < n) × (1 ≤ length (homed net t r.drafts)) × (x ≡ prepare_to net i r t)
in_prepares net i r zero x h = absurd h
in_prepares net i r (suc t) x h = elim (in_append x (prepares net i r t) _ h) [
  | inl g ↦ (let p = in_prepares net i r t x g in (p.0, omega (arith, p.1), p.2, p.3))
  | inr g ↦ (let p = in_unless (homed net t r.drafts) _ x g in (t, omega arith, p.0, p.1))
]

-- a granted outcome is to another tower
pub in_grants : (net : Net) (T : Placement) (n : ℕ) (x : Message) → In x (grants_to net T n) → (t : ℕ) × (t < n) × (t ≢ T.origin) × (x ≡ granted_to net T t)
in_grants net T zero x h = absurd h
in_grants net T (suc t) x h = elim (in_append x (grants_to net T t) _ h) [
  | inl g ↦ (let p = in_grants net T t x g in (p.0, omega (arith, p.1), p.2, p.3))
  | inr g ↦ (let p = in_cond (eqb t T.origin) _ x g in (t, omega arith, eqb-false _ _ p.0, elim p.1 [ inl e ↦ e | inr z ↦ absurd z ]))
]

pub in_refusals : (net : Net) (i : ℕ) (r : Record) (n : ℕ) (x : Message) → In x (refusals_to net i r n) → (t : ℕ) × (t < n) × (x ≡ refused_to net i r t)
in_refusals net i r zero x h = absurd h
in_refusals net i r (suc t) x h = elim (in_append x (refusals_to net i r t) _ h) [
  | inl g ↦ (let p = in_refusals net i r t x g in (p.0, omega (arith, p.1), p.2))
  | inr g ↦ (t, omega arith, (in_unless (homed net t r.drafts) _ x (in_cond (eqb t r.origin) _ x g).1).1)
]

-- ## A property of each

pub each-prepare : (net : Net) (i : ℕ) (r : Record) (n : ℕ) (Q : Message → Type 0) → ((t : ℕ) → Q (prepare_to net i r t)) → (x : Message) → In x (prepares net i r n) → Q x
each-prepare net i r n Q f x h = let p = in_prepares net i r n x h in subst Q (sym p.3) (f p.0)

pub each_away : (net : Net) (T : Placement) (n : ℕ) (Q : Message → Type 0) → ((t : ℕ) → t ≢ T.origin → Q (granted_to net T t)) → (x : Message) → In x (grants_to net T n) → Q x
each_away net T n Q f x h = let p = in_grants net T n x h in subst Q (sym p.3) (f p.0 p.2)

pub each_grant : (net : Net) (T : Placement) (n : ℕ) (Q : Message → Type 0) → ((t : ℕ) → Q (granted_to net T t)) → (x : Message) → In x (grants_to net T n) → Q x
each_grant net T n Q f = each_away net T n Q (λ t _. f t)

pub each-refusal : (net : Net) (i : ℕ) (r : Record) (n : ℕ) (Q : Message → Type 0) → ((t : ℕ) → Q (refused_to net i r t)) → (x : Message) → In x (refusals_to net i r n) → Q x
each-refusal net i r n Q f x h = let p = in_refusals net i r n x h in subst Q (sym p.2) (f p.0)

-- ## Only what is sent to one tower passes, and it is one message at most

one : (b : Bool) → cond b 1 0 + 0 ≤ 1
one true = omega arith
one false = omega arith

tally_unless : (q : Message → Bool) (ds : List Draft) (m : Message) → (tally q (unless_none ds m) ≤ 1) × (q m ≡ false → tally q (unless_none ds m) ≡ 0)
tally_unless q [] m = (omega arith, λ _. refl)
tally_unless q (d ∷ ds) m = (one (q m), λ e. rw e)

tally_other : (q : Message → Bool) (b : Bool) (m : Message) → (tally q (cond b [] (m ∷ [])) ≤ 1) × (q m ≡ false → tally q (cond b [] (m ∷ [])) ≡ 0)
tally_other q true m = (omega arith, λ _. refl)
tally_other q false m = (one (q m), λ e. rw e)

pub prepares-most : (net : Net) (i : ℕ) (r : Record) (q : Message → Bool) (t : ℕ) → ((u : ℕ) → u ≢ t → q (prepare_to net i r u) ≡ false) → (n : ℕ) → tally q (prepares net i r n) ≤ 1
prepares-most net i r q t f n =
    let part : (u : ℕ) → _ = λ u. tally_unless q (homed net u r.drafts) (prepare_to net i r u) in
    (tally_parts q (prepares net i r) (λ u. unless_none (homed net u r.drafts) (prepare_to net i r u)) refl (λ _. refl) t (λ u d. (part u).1 (f u d)) (part t).0 n).1

pub grants-most : (net : Net) (T : Placement) (q : Message → Bool) (t : ℕ) → ((u : ℕ) → u ≢ t → q (granted_to net T u) ≡ false) → (n : ℕ) → tally q (grants_to net T n) ≤ 1
grants-most net T q t f n =
    let part : (u : ℕ) → _ = λ u. tally_other q (eqb u T.origin) (granted_to net T u) in
    (tally_parts q (grants_to net T) (λ u. cond (eqb u T.origin) [] (granted_to net T u ∷ [])) refl (λ _. refl) t (λ u d. (part u).1 (f u d)) (part t).0 n).1
