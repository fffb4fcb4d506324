-- What stands in the way of a line, as a relation, and what a home says of it. Assumes nothing.
use Rattle.std.proofs.Common.{◌≡◌, ℕ, Bool, true, false, cond, not, eqb, ◌≢◌, ◌⊎◌, List, [], ◌∷◌, length, Some, None, find, Option, sym, refl, ap, ◌∙◌, subst, inl, inr}
use Rattle.std.specs.Option.{option_or}
use Rattle.std.proofs.lemmas.Bool.{eq-eqb, ne_eqb, eqb-true, both_ways, and_parts, and_from}
use Rattle.clocks.specs.declared.Version.{Version}
use Rattle.messages.specs.declared.Draft.{Draft}
use Rattle.messages.specs.declared.Objection.{Objection}
use Rattle.messages.specs.declared.Conflict as told
use Rattle.messages.specs.declared.Conflict.TheVariants.{Held as HeldBy, Newer, Full}
use Rattle.tables.specs.declared.Held.{Held}
use Rattle.laws.specs.Lists.{In}
use Rattle.laws.specs.Net.{Clock, Message, Net, Drafted, inside, newest}
use Rattle.laws.specs.Words.{held_conflict, newer_conflict, another_holds, conflict_at, objection_at, first_objection}
use Rattle.laws.specs.State.{Visible}
use Rattle.laws.specs.Rules.{objection}
use Rattle.laws.specs.Laws.{Says}

pub data Conflict (depth : ℕ) (held : List Held) (versions : List Version) (bound : Clock) (i k : ℕ) : Type 0 where
  taken_by : (h : Held) → In h held → h.key ≡ k → h.tx ≢ i → Conflict depth held versions bound i k
  newer : (v : Version) → newest versions ≡ Some v → inside bound v ≡ false → Conflict depth held versions bound i k
  full : length versions ≡ depth → Conflict depth held versions bound i k

-- the conflict that is told, with what it rests on
abbrev pub Evidence : Net → Visible → Message → ℕ → told.Conflict → Type 0
Evidence net v m k (HeldBy o w) = (h : Held) × In h v.held × (h.key ≡ k) × (h.tx ≢ m.tx) × (h.tx ≡ w) × (h.origin ≡ o)
Evidence net v m k (Newer o w n) = (x : Version) × (newest (v.book k) ≡ Some x) × (inside m.bound x ≡ false) × (x.origin ≡ o) × (x.writer ≡ w) × (x.number ≡ n)
Evidence net v m k Full = length (v.book k) ≡ net.depth

abbrev pub Conflicts : Net → Visible → Message → ℕ → Type 0
Conflicts net v m k = Conflict net.depth v.held (v.book k) m.bound m.tx k

-- ## Options

pub option_or_cases : {A : Type 0} (o q : Option A) (a : A) → option_or o q ≡ Some a → (o ≡ Some a) ⊎ ((o ≡ None) × (q ≡ Some a))
option_or_cases (Some b) q a e = inl e
option_or_cases None q a e = inr (refl, e)

pub option_or_parts : {A : Type 0} (o q : Option A) → option_or o q ≡ None → (o ≡ None) × (q ≡ None)
option_or_parts (Some a) q e = absurd (cc e)
option_or_parts None q e = (refl, e)

pub first_is : {A : Type 0} (q : A → Bool) (xs : List A) (v : A) → find q xs ≡ Some v → In v xs × (q v ≡ true)
first_is q [] v e = absurd (cc e)
first_is q (x ∷ xs) v e = go (q x) refl (first_is q xs v) e
  where
    go : (b : Bool) → q x ≡ b → (find q xs ≡ Some v → In v xs × (q v ≡ true)) → cond b (Some x) (find q xs) ≡ Some v → In v (x ∷ xs) × (q v ≡ true)
    go true t ih f = let g : x ≡ v = cc f in (inl (sym g), sym (ap q g) ∙ t)
    go false t ih f = let r = ih f in (inr r.0, r.1)

first-none : {A : Type 0} (q : A → Bool) (xs : List A) → find q xs ≡ None → (v : A) → In v xs → q v ≡ false
first-none q [] e v h = absurd h
first-none q (x ∷ xs) e v h = go (q x) refl (first-none q xs) e h
  where
    go : (b : Bool) → q x ≡ b → (find q xs ≡ None → (v : _) → In v xs → q v ≡ false) → cond b (Some x) (find q xs) ≡ None → In v (x ∷ xs) → q v ≡ false
    go true t ih f h = absurd (cc f)
    go false t ih f (inl g) = ap q g ∙ t
    go false t ih f (inr g) = ih f v g

-- ## A key

module _ (net : Net) (v : Visible) (m : Message) (k : ℕ) where
  held-some : (o : Option Held) (c : told.Conflict) → find (another_holds m.tx k) v.held ≡ o → held_conflict o ≡ Some c → Evidence net v m k c
  held-some None c e f = absurd (cc f)
  held-some (Some h) c e f =
      let x = first_is (another_holds m.tx k) v.held h e in
      let y = and_parts (eqb h.key k) _ x.1 in
      let z : HeldBy h.origin h.tx ≡ c = cc f in
      subst (Evidence net v m k) z (h, x.0, eqb-true _ _ y.0, (λ q. both_ways (not (eqb h.tx m.tx)) (ap not (eq-eqb _ _ q)) y.1), refl, refl)

  newer-some : (o : Option Version) (c : told.Conflict) → newest (v.book k) ≡ o → newer_conflict m.bound o ≡ Some c → Evidence net v m k c
  newer-some None c e f = absurd (cc f)
  newer-some (Some x) c e f = go (inside m.bound x) refl f
    where
      go : (b : Bool) → inside m.bound x ≡ b → cond b None (Some (Newer x.origin x.writer x.number)) ≡ Some c → Evidence net v m k c
      go true t f = absurd (cc f)
      go false t f = let z : Newer x.origin x.writer x.number ≡ c = cc f in subst (Evidence net v m k) z (x, e, t, refl, refl, refl)

  pub conflict_some : (c : told.Conflict) → conflict_at net.depth v.held (v.book k) m.bound m.tx k ≡ Some c → Evidence net v m k c
  conflict_some c e = elim (option_or_cases (held_conflict (find (another_holds m.tx k) v.held)) _ c e) [
    | inl x ↦ held-some (find (another_holds m.tx k) v.held) c refl x
    | inr x ↦ elim (option_or_cases (newer_conflict m.bound (newest (v.book k))) _ c x.1) [
      | inl y ↦ newer-some (newest (v.book k)) c refl y
      | inr y ↦ last (eqb (length (v.book k)) net.depth) refl y.1
    ]
  ]
    where
      last : (b : Bool) → eqb (length (v.book k)) net.depth ≡ b → cond b (Some Full) None ≡ Some c → Evidence net v m k c
      last true t f = let z : Full ≡ c = cc f in subst (Evidence net v m k) z (eqb-true _ _ t)
      last false t f = absurd (cc f)

module _ (depth : ℕ) (held : List Held) (vs : List Version) (b : Clock) (i k : ℕ) where
  held_none : (o : Option Held) → held_conflict o ≡ None → o ≡ None
  held_none None e = refl
  held_none (Some h) e = absurd (cc e)

  newer-none : (o : Option Version) → newer_conflict b o ≡ None → (v : Version) → o ≡ Some v → inside b v ≡ false → ⊥
  newer-none None e v q f = cc q
  newer-none (Some w) e v q f =
      let z : w ≡ v = cc q in
      let g : inside b w ≡ false = ap (inside b) z ∙ f in
      cc (rw g at e)

  pub conflict_none : conflict_at depth held vs b i k ≡ None → Conflict depth held vs b i k → ⊥
  conflict_none e = go (option_or_parts (held_conflict (find (another_holds i k) held)) _ e)
    where
      go : (held_conflict (find (another_holds i k) held) ≡ None) × (option_or (newer_conflict b (newest vs)) (cond (eqb (length vs) depth) (Some Full) None) ≡ None) → Conflict depth held vs b i k → ⊥
      go x (taken_by h q t n) = both_ways (another_holds i k h) (first-none (another_holds i k) held (held_none _ x.0) h q) (and_from _ _ (eq-eqb _ _ t) (ap not (ne_eqb _ _ n)))
      go x (newer v q f) = newer-none (newest vs) (option_or_parts (newer_conflict b (newest vs)) _ x.1).0 v q f
      go x (full f) = cc (rw (eq-eqb _ _ f) at (option_or_parts (newer_conflict b (newest vs)) _ x.1).1)

-- ## The lines

line_clear : (k : ℕ) (o : Option told.Conflict) → objection_at k o ≡ None → o ≡ None
line_clear k None e = refl
line_clear k (Some c) e = absurd (cc e)

lines_clear : (C : ℕ → Option told.Conflict) (ds : List Draft) → first_objection C ds ≡ None → (k : ℕ) → Drafted ds k → C k ≡ None
lines_clear C [] e k d = absurd d
lines_clear C (x ∷ ds) e k d =
    let r = option_or_parts (objection_at x.key (C x.key)) _ e in
    elim d [ inl q ↦ subst (λ (n : ℕ). C n ≡ None) q (line_clear x.key (C x.key) r.0) | inr d ↦ lines_clear C ds r.1 k d ]

line_found : (k : ℕ) (o : Option told.Conflict) (a : Objection) → objection_at k o ≡ Some a → (k ≡ a.key) × (o ≡ Some a.conflict)
line_found k None a e = absurd (cc e)
line_found k (Some c) a e =
    let z : ◌≡◌ {A = Objection} (record { key = k; conflict = c }) a = cc e in
    (ap (λ (x : Objection). x.key) z, ap (λ (x : Objection). Some x.conflict) z)

pub lines-found : (C : ℕ → Option told.Conflict) (ds : List Draft) (a : Objection) → first_objection C ds ≡ Some a → Drafted ds a.key × (C a.key ≡ Some a.conflict)
lines-found C [] a e = absurd (cc e)
lines-found C (x ∷ ds) a e = elim (option_or_cases (objection_at x.key (C x.key)) _ a e) [
  | inl q ↦ (let r = line_found x.key (C x.key) a q in (inl r.0, subst (λ (n : ℕ). C n ≡ Some a.conflict) r.0 r.1))
  | inr q ↦ (let r = lines-found C ds a q.1 in (inr r.0, r.1))
]

module _ (net : Net) (v : Visible) (m : Message) (lines : List Draft) where
  -- a home that objects to no line has no conflict at any
  pub unopposed : objection net v m lines ≡ None → (k : ℕ) → Drafted lines k → Conflicts net v m k → ⊥
  unopposed e k d = conflict_none net.depth v.held (v.book k) m.bound m.tx k (lines_clear _ lines e k d)

  -- a home objects to a line that has a conflict
  pub opposed : (a : Objection) → objection net v m lines ≡ Some a → Drafted lines a.key × Evidence net v m a.key a.conflict
  opposed a e =
      let r = lines-found _ lines a e in
      (r.0, conflict_some net v m a.key a.conflict r.1)

-- ## What a conflict says

-- nothing is said of the holder's origin
abbrev pub Any : ℕ → ℕ → Type 0
Any o w = Unit {0}

pub says_map : {R R' : ℕ → Type 0} {H : ℕ → ℕ → Type 0} {N N' : ℕ → ℕ → ℕ → Type 0} {D D' : Type 0} → ((j : ℕ) → R j → R' j) → ((o w n : ℕ) → N o w n → N' o w n) → (D → D') → (c : told.Conflict) → ((o w : ℕ) → c ≡ HeldBy o w → H o w) → Says R Any N D c → Says R' H N' D' c
says_map r n d (HeldBy o w) h x = (r w x.0, h o w refl)
says_map r n d (Newer o w k) h x = (r w x.0, n o w k x.1)
says_map r n d Full h x = d x

pub says-one : (R : ℕ → Type 0) (H : ℕ → ℕ → Type 0) (N : ℕ → ℕ → ℕ → Type 0) (D : Type 0) → (c : told.Conflict) → Says R H N D c → ((j : ℕ) × R j) ⊎ D
says-one R H N D (HeldBy o w) x = inl (w, x.0)
says-one R H N D (Newer o w n) x = inl (w, x.0)
says-one R H N D Full x = inr x
