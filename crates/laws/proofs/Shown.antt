-- What a reader is shown, in words. Assumes nothing.
use Rattle.std.proofs.Common.{◌≡◌, ℕ, ◌<◌, ◌≤◌, Bool, true, false, cond, eqb, ◌⊎◌, List, [], ◌∷◌, Some, None, Option, sym, refl, ap, ◌∙◌, subst, inl, inr, arith}
use Rattle.std.specs.Option.{option_or}
use Rattle.std.proofs.lemmas.Bool.{eqb-false, cases_Bool, leb-true, leb-false}
use Rattle.clocks.specs.declared.Version.{Version}
use Rattle.messages.specs.declared.Draft.{Draft}
use Rattle.laws.specs.Lists.{In, last_of}
use Rattle.laws.specs.Net.{Clock, Placement, Drafted, written, inside, newest_within}
use Rattle.laws.proofs.Log.{wrote, versions, Seen}
use Rattle.laws.proofs.Facts.{Numbered, Before, Right}
use Rattle.laws.proofs.Lists.{last-append}
use Rattle.laws.proofs.Placed.{number-new}

pub last_is : {A : Type 0} (q : A → Bool) (xs : List A) (v : A) → last_of q xs ≡ Some v → In v xs × (q v ≡ true)
last_is q [] v e = absurd cc
last_is q (x ∷ xs) v e = go (last_of q xs) refl (q x) refl (last_is q xs v) e
  where
    go : (o : Option _) → last_of q xs ≡ o → (b : Bool) → q x ≡ b → (last_of q xs ≡ Some v → In v xs × (q v ≡ true)) → option_or o (cond b (Some x) None) ≡ Some v → In v (x ∷ xs) × (q v ≡ true)
    go (Some w) p b t ih f = let r = ih (p ∙ f) in (inr r.0, r.1)
    go None p true t ih f = let g : x ≡ v = cc f in (inl (sym g), sym (ap q g) ∙ t)
    go None p false t ih f = absurd (cc f)

last_none : {A : Type 0} (q : A → Bool) (xs : List A) → last_of q xs ≡ None → (v : A) → In v xs → q v ≡ false
last_none q [] e v h = absurd h
last_none q (x ∷ xs) e v h = go (last_of q xs) refl (q x) refl (last_none q xs) e h
  where
    go : (o : Option _) → last_of q xs ≡ o → (b : Bool) → q x ≡ b → (last_of q xs ≡ None → (v : _) → In v xs → q v ≡ false) → option_or o (cond b (Some x) None) ≡ None → In v (x ∷ xs) → q v ≡ false
    go (Some w) p b t ih f h = absurd (cc f)
    go None p true t ih f h = absurd (cc f)
    go None p false t ih f (inl g) = ap q g ∙ t
    go None p false t ih f (inr g) = ih p v g

-- whatever T wrote has T's number
pub in_written : (w o n : ℕ) (ds : List Draft) (k : ℕ) (v : Version) → In v (written w o n ds k) → (v.origin ≡ o) × (v.number ≡ n)
in_written w o n [] k v h = absurd h
in_written w o n (d ∷ ds) k v h = go (eqb d.key k) (in_written w o n ds k v) h
  where
    go : (b : Bool) → (In v (written w o n ds k) → (v.origin ≡ o) × (v.number ≡ n)) → In v (cond b (record { writer = w; origin = o; number = n; content = d.content } ∷ written w o n ds k) (written w o n ds k)) → (v.origin ≡ o) × (v.number ≡ n)
    go true ih (inl e) = (ap (λ (x : Version). x.origin) e, ap (λ (x : Version). x.number) e)
    go true ih (inr g) = ih g
    go false ih g = ih g

written-some : (w o n : ℕ) (ds : List Draft) (k : ℕ) → Drafted ds k → (v : Version) × In v (written w o n ds k)
written-some w o n [] k h = absurd h
written-some w o n (d ∷ ds) k h = go (cases_Bool (eqb d.key k)) (written-some w o n ds k) h
  where
    go : (eqb d.key k ≡ true) ⊎ (eqb d.key k ≡ false) → (Drafted ds k → (v : Version) × In v (written w o n ds k)) → Drafted (d ∷ ds) k → (v : Version) × In v (written w o n (d ∷ ds) k)
    go (inl e) ih h = (record { writer = w; origin = o; number = n; content = d.content }, rw e (inl refl))
    go (inr e) ih (inl x) = absurd (eqb-false _ _ e x)
    go (inr e) ih (inr x) = ((ih x).0, rw e (ih x).1)

pub before_in : (E F : Placement) (P : List Placement) → Before E F P → In E P
before_in E F [] h = absurd h
before_in E F (X ∷ P) (inl h) = inr h.1
before_in E F (X ∷ P) (inr h) = inr (before_in E F P h)

pub shown_right : (P : List Placement) (b : Clock) (k : ℕ) → Numbered P → Right P b k (newest_within b (versions P k))
shown_right [] b k n = λ E h. absurd h
shown_right (T ∷ P) b k n = rw (last-append (inside b) (versions P k) (wrote T k)) (go (shown_right P b k n.1) (newest_within b (wrote T k)) refl)
  where
    more : (Drafted T.drafts k → Seen T b → ⊥) → (o : Option Version) → Right P b k o → Right (T ∷ P) b k o
    more u (Some v) g = record {
      by = g.by;
      placed = inr g.placed;
      wrote = g.wrote;
      within = g.within;
      last = λ F h. elim h [ inl x ↦ subst (λ (F : Placement). Drafted F.drafts k → Seen F b → ⊥) x.0 u | inr h ↦ g.last F h ];
    }
    more u None g = λ E h. elim h [ inl e ↦ subst (λ (F : Placement). Drafted F.drafts k → Seen F b → ⊥) (sym e) u | inr h ↦ g E h ]

    within_of : (v : Version) → (v.origin ≡ T.origin) × (v.number ≡ T.number) → v.number ≤ b v.origin → Seen T b
    within_of v w l = rw (w.1, w.0) at l

    outside_of : (v : Version) → (v.origin ≡ T.origin) × (v.number ≡ T.number) → b v.origin < v.number → Seen T b → ⊥
    outside_of v w l u = let l' : b T.origin < T.number = rw (w.1, w.0) at l in omega (arith, l', u)

    go : Right P b k (newest_within b (versions P k)) → (o : Option Version) → newest_within b (wrote T k) ≡ o → Right (T ∷ P) b k (option_or o (newest_within b (versions P k)))
    go ih (Some v) e =
        let l = last_is (inside b) (wrote T k) v e in
        let w = in_written T.tx T.origin T.number T.drafts k v l.0 in
        let again : In T P → ⊥ = λ h. number-new P T T n.0 n.1 h refl refl in
        record {
          by = T;
          placed = inl refl;
          wrote = l.0;
          within = within_of v w (leb-true _ _ l.1);
          last = λ F h. elim h [ inl x ↦ absurd (again x.1) | inr h ↦ absurd (again (before_in T F P h)) ];
        }
    go ih None e = more (λ d.
        let x = written-some T.tx T.origin T.number T.drafts k d in
        let w = in_written T.tx T.origin T.number T.drafts k x.0 x.1 in
        outside_of x.0 w (leb-false _ _ (last_none (inside b) (wrote T k) e x.0 x.1))) (newest_within b (versions P k)) ih
