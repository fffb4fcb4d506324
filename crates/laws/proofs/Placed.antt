-- The placed transactions, the newest first, and what a clock has passed of them. Assumes nothing.
use Rattle.std.proofs.Common.{◌≡◌, ℕ, suc, ◌<◌, ◌≤◌, Bool, true, false, cond, eqb, leb, ◌⊎◌, List, [], ◌∷◌, ◌++◌, Some, None, sym, refl, ap, ◌∙◌, subst, inl, inr, append-nil, arith}
use Rattle.std.specs.Option.{option_or}
use Rattle.std.proofs.lemmas.Bool.{eq-eqb, ne_eqb, cases_eq, cases_Bool, cond-false, le-leb, lt-leb, leb-true, leb-false}
use Rattle.clocks.specs.declared.Version.{Version}
use Rattle.messages.specs.declared.Draft.{Draft}
use Rattle.laws.specs.Lists.{put, In}
use Rattle.laws.specs.Net.{Clock, Placement, ◌⊑◌, Drafted, written, inside, newest, newest_within}
use Rattle.laws.proofs.Log.{wrote, versions, taken, count, Seen, seen}
pub use Rattle.laws.proofs.Facts.{Numbered}
use Rattle.laws.proofs.Lists.{put_same, put_other, put_case, last-append}

-- of two that write a key, the later has seen the earlier
abbrev pub Ordered : List Placement → Type 0
Ordered [] = Unit {0}
Ordered (T ∷ P) = ((E : Placement) (k : ℕ) → In E P → Drafted E.drafts k → Drafted T.drafts k → Seen E T.bound) × Ordered P

-- the clock has passed whatever those that it has seen had seen
abbrev pub Closed : List Placement → Clock → Type 0
Closed P c = (E : Placement) → In E P → Seen E c → E.bound ⊑ c

-- ## Numbers

pub count_self : (T : Placement) (P : List Placement) → count (T ∷ P) T.origin ≡ suc (count P T.origin)
count_self T P = rw (eq-eqb T.origin T.origin refl) (omega arith)

pub count_grows : (T : Placement) (P : List Placement) → count P ⊑ count (T ∷ P)
count_grows T P j = omega arith

pub number_le : (P : List Placement) (E : Placement) → Numbered P → In E P → E.number ≤ count P E.origin
number_le [] E n h = absurd h
number_le (T ∷ P) E n (inl e) =
    let l : T.number ≤ count (T ∷ P) T.origin = omega (arith, n.0, count_self T P) in
    subst (λ (X : Placement). X.number ≤ count (T ∷ P) X.origin) (sym e) l
number_le (T ∷ P) E n (inr h) = omega (arith, number_le P E n.1 h)

pub number_pos : (P : List Placement) (E : Placement) → Numbered P → In E P → 1 ≤ E.number
number_pos [] E n h = absurd h
number_pos (T ∷ P) E n (inl e) = rw e (omega (arith, n.0))
number_pos (T ∷ P) E n (inr h) = number_pos P E n.1 h

-- a later one of the same tower has another number
pub number-new : (P : List Placement) (T E : Placement) → T.number ≡ suc (count P T.origin) → Numbered P → In E P → E.origin ≡ T.origin → E.number ≡ T.number → ⊥
number-new P T E t n h o m =
    let l : E.number ≤ count P T.origin = rw o at (number_le P E n h) in
    omega (arith, l, t, m)

pub number-one : (P : List Placement) (E F : Placement) → Numbered P → In E P → In F P → E.origin ≡ F.origin → E.number ≡ F.number → E ≡ F
number-one [] E F n h g o m = absurd h
number-one (T ∷ P) E F n (inl e) (inl f) o m = e ∙ sym f
number-one (T ∷ P) E F n (inl e) (inr g) o m = absurd (number-new P T F n.0 n.1 g (sym o ∙ ap (λ (x : Placement). x.origin) e) (sym m ∙ ap (λ (x : Placement). x.number) e))
number-one (T ∷ P) E F n (inr h) (inl f) o m = absurd (number-new P T E n.0 n.1 h (o ∙ ap (λ (x : Placement). x.origin) f) (m ∙ ap (λ (x : Placement). x.number) f))
number-one (T ∷ P) E F n (inr h) (inr g) o m = number-one P E F n.1 h g o m

-- a new one is outside every clock so far
pub new_unseen : (P : List Placement) (T : Placement) (c : Clock) → T.number ≡ suc (count P T.origin) → c ⊑ count P → Seen T c → ⊥
new_unseen P T c t l h = omega (arith, l T.origin)

-- ## A clock that passes one more

pub seen-put : (E : Placement) (c : Clock) (o n : ℕ) → suc (c o) ≡ n → (E.origin ≡ o → E.number ≡ n → ⊥) → seen E (put c o n) ≡ seen E c
seen-put E c o n e d = go (cases_eq o E.origin) (cases_Bool (seen E c))
  where
    go : (o ≡ E.origin) ⊎ (o ≡ E.origin → ⊥) → (seen E c ≡ true) ⊎ (seen E c ≡ false) → seen E (put c o n) ≡ seen E c
    go (inr q) b = ap (leb E.number) (put_other c o n E.origin q)
    go (inl q) (inl b) =
        let l : E.number ≤ c o = rw (sym q) at (leb-true _ _ b) in
        ap (leb E.number) (put_same c o n E.origin q) ∙ le-leb E.number n (omega arith) ∙ sym b
    go (inl q) (inr b) =
        let l : c o < E.number = rw (sym q) at (leb-false _ _ b) in
        let k : E.number ≡ n → ⊥ = d (sym q) in
        let m : n < E.number = omega arith in
        ap (leb E.number) (put_same c o n E.origin q) ∙ lt-leb E.number n m ∙ sym b

pub put_grows : (c : Clock) (o n : ℕ) → suc (c o) ≡ n → c ⊑ put c o n
put_grows c o n e = put_case (λ j x. c j ≤ x) c o n (omega arith) (λ j _. omega arith)

-- ## What is written

pub drafted? : (ds : List Draft) (k : ℕ) → Drafted ds k ⊎ (Drafted ds k → ⊥)
drafted? [] k = inr (λ h. h)
drafted? (d ∷ ds) k = go (cases_eq d.key k) (drafted? ds k)
  where
    go : (d.key ≡ k) ⊎ (d.key ≡ k → ⊥) → Drafted ds k ⊎ (Drafted ds k → ⊥) → Drafted (d ∷ ds) k ⊎ (Drafted (d ∷ ds) k → ⊥)
    go (inl e) r = inl (inl e)
    go (inr n) (inl h) = inl (inr h)
    go (inr n) (inr m) = inr (elim [ inl e ↦ n e | inr h ↦ m h ])

pub written_none : (w o n : ℕ) (ds : List Draft) (k : ℕ) → (Drafted ds k → ⊥) → written w o n ds k ≡ []
written_none w o n [] k h = refl
written_none w o n (d ∷ ds) k h = rw (ne_eqb d.key k (λ e. h (inl e))) (written_none w o n ds k (λ g. h (inr g)))

pub cond_nil : {A : Type 0} (b : Bool) (xs : List A) → xs ≡ [] → cond b xs [] ≡ []
cond_nil true xs e = e
cond_nil false xs e = refl

pub taken_same : (c d : Clock) (P : List Placement) (k : ℕ) → ((E : Placement) → In E P → seen E c ≡ seen E d) → taken c P k ≡ taken d P k
taken_same c d [] k h = refl
taken_same c d (T ∷ P) k h = rw (h T (inl refl), taken_same c d P k (λ E g. h E (inr g)))

pub taken_all : (c : Clock) (P : List Placement) (k : ℕ) → ((E : Placement) → In E P → Seen E c) → taken c P k ≡ versions P k
taken_all c [] k h = refl
taken_all c (T ∷ P) k h = rw (le-leb _ _ (h T (inl refl)), taken_all c P k (λ E g. h E (inr g)))

swap : {A : Type 0} (a c t : List A) → (t ≡ []) ⊎ (c ≡ []) → (a ++ t) ++ c ≡ (a ++ c) ++ t
swap a c t (inl e) = rw (e, append-nil a, append-nil (a ++ c))
swap a c t (inr e) = rw (e, append-nil a, append-nil (a ++ t))

taken_here : (P : List Placement) (T : Placement) (c : Clock) (k : ℕ) → T.number ≡ suc (count P T.origin) → Numbered P → suc (c T.origin) ≡ T.number → taken (put c T.origin T.number) (T ∷ P) k ≡ taken c (T ∷ P) k ++ wrote T k
taken_here P T c k t n e =
    let o = T.origin in
    let m = T.number in
    let now : put c o m o ≡ m = put_same c o m o refl in
    let h1 : seen T (put c o m) ≡ true = le-leb m (put c o m o) (omega arith) in
    let h2 : seen T c ≡ false = lt-leb m (c o) (omega arith) in
    let h3 : taken (put c o m) P k ≡ taken c P k = taken_same (put c o m) c P k (λ E g. seen-put E c o m e (number-new P T E t n g)) in
    rw (h1, h2, h3, append-nil (taken c P k))

-- one more taken in stands at the end: what is later and was taken in writes other keys
pub taken_more : (P : List Placement) (T : Placement) (c : Clock) (k : ℕ) → Numbered P → Ordered P → Closed P c → In T P → suc (c T.origin) ≡ T.number → taken (put c T.origin T.number) P k ≡ taken c P k ++ wrote T k
taken_more [] T c k n o cl h e = absurd h
taken_more (E ∷ P) T c k n o cl (inl q) e =
    subst (λ (X : Placement). suc (c X.origin) ≡ X.number → taken (put c X.origin X.number) (E ∷ P) k ≡ taken c (E ∷ P) k ++ wrote X k) (sym q)
    (taken_here P E c k n.0 n.1) e
taken_more (E ∷ P) T c k n o cl (inr h) e =
    let b : seen E (put c T.origin T.number) ≡ seen E c = seen-put E c T.origin T.number e (λ eo en. number-new P E T n.0 n.1 h (sym eo) (sym en)) in
    rw (b, taken_more P T c k n.1 o.1 (λ F g. cl F (inr g)) h e) (swap (taken c P k) _ (wrote T k) (apart (drafted? T.drafts k) (drafted? E.drafts k) (cases_Bool (seen E c))))
  where
    apart : Drafted T.drafts k ⊎ (Drafted T.drafts k → ⊥) → Drafted E.drafts k ⊎ (Drafted E.drafts k → ⊥) → (seen E c ≡ true) ⊎ (seen E c ≡ false) → (wrote T k ≡ []) ⊎ (cond (seen E c) (wrote E k) [] ≡ [])
    apart (inr x) y z = inl (written_none _ _ _ T.drafts k x)
    apart (inl x) (inr y) z = inr (cond_nil (seen E c) (wrote E k) (written_none _ _ _ E.drafts k y))
    apart (inl x) (inl y) (inr z) = inr (cond-false (seen E c) (wrote E k) [] z)
    apart (inl x) (inl y) (inl z) =
        let l : E.bound ⊑ c = cl E (inl refl) (leb-true _ _ z) in
        let a : T.number ≤ E.bound T.origin = o.0 T k h x y in
        absurd (omega (arith, l T.origin, a))

-- ## What a reader is shown

-- what has one number is inside a clock together
written-outside : (c : Clock) (w o n : ℕ) (ds : List Draft) (k : ℕ) → c o < n → newest_within c (written w o n ds k) ≡ None
written-outside c w o n [] k h = refl
written-outside c w o n (d ∷ ds) k h = go (eqb d.key k) (written-outside c w o n ds k h)
  where
    go : (b : Bool) → newest_within c (written w o n ds k) ≡ None →
        newest_within c (cond b (record { writer = w; origin = o; number = n; content = d.content } ∷ written w o n ds k) (written w o n ds k)) ≡ None
    go false ih = ih
    go true ih = rw (ih, lt-leb n (c o) h)

-- a reader's clock that the tower has passed shows of the tower's book what it shows of every version
pub shown_of_book : (c d : Clock) (P : List Placement) (k : ℕ) → c ⊑ d → newest_within c (taken d P k) ≡ newest_within c (versions P k)
shown_of_book c d [] k l = refl
shown_of_book c d (T ∷ P) k l =
    last-append (inside c) (taken d P k) (cond (seen T d) (wrote T k) []) ∙ go (shown_of_book c d P k l) (cases_Bool (seen T d)) ∙ sym (last-append (inside c) (versions P k) (wrote T k))
  where
    go : newest_within c (taken d P k) ≡ newest_within c (versions P k) → (seen T d ≡ true) ⊎ (seen T d ≡ false) →
        option_or (newest_within c (cond (seen T d) (wrote T k) [])) (newest_within c (taken d P k)) ≡ option_or (newest_within c (wrote T k)) (newest_within c (versions P k))
    go ih (inl e) = rw (e, ih)
    go ih (inr e) =
        let f : d T.origin < T.number = leb-false _ _ e in
        let g = written-outside c T.tx T.origin T.number T.drafts k (omega (arith, l T.origin)) in
        rw (e, g) ih

-- a new one, outside the reader's clock, changes nothing of it
pub shown-new : (c : Clock) (T : Placement) (P : List Placement) (k : ℕ) → (Seen T c → ⊥) → newest_within c (versions (T ∷ P) k) ≡ newest_within c (versions P k)
shown-new c T P k u = last-append (inside c) (versions P k) (wrote T k) ∙ rw (written-outside c T.tx T.origin T.number T.drafts k (omega arith))

-- ## The newest of a book

-- this version is one that T wrote
pub record By (T : Placement) (v : Version) : Type 0 where
  pub writer : v.writer ≡ T.tx
  pub origin : v.origin ≡ T.origin
  pub number : v.number ≡ T.number

newest_behind : (b : Bool) (x v : Version) (vs : List Version) → newest vs ≡ Some v → newest (cond b (x ∷ vs) vs) ≡ Some v
newest_behind true x v vs e = rw e
newest_behind false x v vs e = e

pub wrote_newest : (T : Placement) (ds : List Draft) (k : ℕ) → Drafted ds k → (v : Version) × (newest (written T.tx T.origin T.number ds k) ≡ Some v) × By T v
wrote_newest T [] k h = absurd h
wrote_newest T (d ∷ ds) k h = go (drafted? ds k) (wrote_newest T ds k) h
  where
    go : Drafted ds k ⊎ (Drafted ds k → ⊥) → (Drafted ds k → (v : Version) × (newest (written T.tx T.origin T.number ds k) ≡ Some v) × By T v) →
        Drafted (d ∷ ds) k → (v : Version) × (newest (written T.tx T.origin T.number (d ∷ ds) k) ≡ Some v) × By T v
    go (inl y) ih h = ((ih y).0, newest_behind (eqb d.key k) _ (ih y).0 _ (ih y).1, (ih y).2)
    go (inr n) ih (inl e) = (
      record { writer = T.tx; origin = T.origin; number = T.number; content = d.content },
      rw (eq-eqb d.key k e, written_none T.tx T.origin T.number ds k n),
      record { writer = refl; origin = refl; number = refl },
    )
    go (inr n) ih (inr y) = absurd (n y)

-- T adds nothing to a book where it is not taken in, or does not write
taken_skip : (c : Clock) (T : Placement) (P : List Placement) (k : ℕ) → (Drafted T.drafts k → Seen T c → ⊥) → taken c (T ∷ P) k ≡ taken c P k
taken_skip c T P k h = go (cases_Bool (seen T c)) (drafted? T.drafts k)
  where
    go : (seen T c ≡ true) ⊎ (seen T c ≡ false) → Drafted T.drafts k ⊎ (Drafted T.drafts k → ⊥) → taken c (T ∷ P) k ≡ taken c P k
    go (inr e) d = rw e (append-nil (taken c P k))
    go (inl e) (inl y) = absurd (h y (leb-true _ _ e))
    go (inl e) (inr n) = rw (e, written_none T.tx T.origin T.number T.drafts k n) (append-nil (taken c P k))

taken_newest : (c : Clock) (T : Placement) (P : List Placement) (k : ℕ) → Drafted T.drafts k → Seen T c → (v : Version) × (newest (taken c (T ∷ P) k) ≡ Some v) × By T v
taken_newest c T P k d s =
    let w = wrote_newest T T.drafts k d in
    (w.0, rw (le-leb _ _ s) (last-append (λ _. true) (taken c P k) (wrote T k) ∙ rw w.1), w.2)

-- whether T is the newest of the book
newest_cases : (c : Clock) (T : Placement) (k : ℕ) → (Drafted T.drafts k × Seen T c) ⊎ (Drafted T.drafts k → Seen T c → ⊥)
newest_cases c T k = go (cases_Bool (seen T c)) (drafted? T.drafts k)
  where
    go : (seen T c ≡ true) ⊎ (seen T c ≡ false) → Drafted T.drafts k ⊎ (Drafted T.drafts k → ⊥) → (Drafted T.drafts k × Seen T c) ⊎ (Drafted T.drafts k → Seen T c → ⊥)
    go (inl e) (inl y) = inl (y, leb-true _ _ e)
    go (inl e) (inr n) = inr (λ y _. n y)
    go (inr e) d = inr (λ _ l. omega (arith, leb-false T.number (c T.origin) e))

-- where a closed bound has the newest of a book, it has the whole book
pub newest-covers : (P : List Placement) (c b : Clock) (k : ℕ) → Ordered P → Closed P b → ((v : Version) → newest (taken c P k) ≡ Some v → v.number ≤ b v.origin) →
    (E : Placement) → In E P → Drafted E.drafts k → Seen E c → Seen E b
newest-covers [] c b k o cl n E h d s = absurd h
newest-covers (T ∷ P) c b k o cl n E h d s = go (newest_cases c T k) h (newest-covers P c b k o.1 (λ F g. cl F (inr g)))
  where
    first : Drafted T.drafts k → Seen T c → Seen T b
    first d s =
        let w = taken_newest c T P k d s in
        rw (w.2.number, w.2.origin) at (n w.0 w.1)

    go : (Drafted T.drafts k × Seen T c) ⊎ (Drafted T.drafts k → Seen T c → ⊥) → In E (T ∷ P) →
        (((v : Version) → newest (taken c P k) ≡ Some v → v.number ≤ b v.origin) → (E : Placement) → In E P → Drafted E.drafts k → Seen E c → Seen E b) → Seen E b
    go (inr x) (inl e) ih = absurd (x (subst (λ (X : Placement). Drafted X.drafts k) e d) (subst (λ (X : Placement). Seen X c) e s))
    go (inr x) (inr h) ih = ih (λ v q. n v (ap newest (taken_skip c T P k x) ∙ q)) E h d s
    go (inl x) (inl e) ih = subst (λ (X : Placement). Seen X b) (sym e) (first x.0 x.1)
    go (inl x) (inr h) ih =
        let l : E.number ≤ T.bound E.origin = o.0 E k h d x.0 in
        omega (arith, l, cl T (inl refl) (first x.0 x.1) E.origin)

-- who wrote the newest of a book
pub newest_by : (P : List Placement) (c : Clock) (k : ℕ) (v : Version) → newest (taken c P k) ≡ Some v → (E : Placement) × In E P × Drafted E.drafts k × By E v
newest_by [] c k v q = absurd cc
newest_by (T ∷ P) c k v q = go (newest_cases c T k) (newest_by P c k v)
  where
    go : (Drafted T.drafts k × Seen T c) ⊎ (Drafted T.drafts k → Seen T c → ⊥) → (newest (taken c P k) ≡ Some v → (E : Placement) × In E P × Drafted E.drafts k × By E v) → (E : Placement) × In E (T ∷ P) × Drafted E.drafts k × By E v
    go (inr x) ih = let r = ih (sym (ap newest (taken_skip c T P k x)) ∙ q) in (r.0, inr r.1, r.2, r.3)
    go (inl x) ih =
        let w = taken_newest c T P k x.0 x.1 in
        let e : w.0 ≡ v = cc (w.1, q) in
        (T, inl refl, x.0, subst (By T) e w.2)

-- ## The clock of a tower that has taken one more in is closed

pub seen_split : (E : Placement) (c : Clock) (o n : ℕ) → suc (c o) ≡ n → Seen E (put c o n) → Seen E c ⊎ ((E.origin ≡ o) × (E.number ≡ n))
seen_split E c o n e s = go (cases_eq o E.origin) (cases_Bool (seen E c))
  where
    go : (o ≡ E.origin) ⊎ (o ≡ E.origin → ⊥) → (seen E c ≡ true) ⊎ (seen E c ≡ false) → Seen E c ⊎ ((E.origin ≡ o) × (E.number ≡ n))
    go q (inl b) = inl (leb-true _ _ b)
    go (inr q) (inr b) = inl (rw (put_other c o n E.origin q) at s)
    go (inl q) (inr b) =
        let l : c o < E.number = rw (sym q) at (leb-false _ _ b) in
        let m : E.number ≤ n = rw (put_same c o n E.origin q) at s in
        inr (sym q, omega arith)

-- what the clock has newly passed is T
pub seen_or_same : (P : List Placement) (T E : Placement) (c : Clock) → Numbered P → In T P → In E P → suc (c T.origin) ≡ T.number → Seen E (put c T.origin T.number) → Seen E c ⊎ (E ≡ T)
seen_or_same P T E c n h g e s =
    elim (seen_split E c T.origin T.number e s) [ inl a ↦ inl a | inr a ↦ inr (number-one P E T n g h a.0 a.1) ]

pub closed-put : (P : List Placement) (T : Placement) (c : Clock) → Numbered P → Closed P c → In T P → suc (c T.origin) ≡ T.number → T.bound ⊑ c → Closed P (put c T.origin T.number)
closed-put P T c n cl h e b E g s j = go (seen_or_same P T E c n h g e s)
  where
    up : c j ≤ put c T.origin T.number j
    up = put_grows c T.origin T.number e j

    go : Seen E c ⊎ (E ≡ T) → E.bound j ≤ put c T.origin T.number j
    go (inl q) = omega (arith, cl E g q j, up)
    go (inr q) = rw q (omega (arith, b j, up))

-- a clock so far stays closed when one is placed
pub closed-new : (P : List Placement) (T : Placement) (c : Clock) → T.number ≡ suc (count P T.origin) → c ⊑ count P → Closed P c → Closed (T ∷ P) c
closed-new P T c t l cl E (inl e) s = absurd (new_unseen P T c t l (subst (λ (X : Placement). Seen X c) e s))
closed-new P T c t l cl E (inr h) s = cl E h s
