-- The laws follow from the invariant, and from what the history tells. Assumes nothing.
use Rattle.std.proofs.Common.{◌≡◌, ℕ, suc, ◌<◌, ◌≤◌, true, false, cond, eqb, ◌⊎◌, List, [], ◌∷◌, ◌++◌, Some, None, Option, sym, refl, ap, ◌∙◌, subst, inl, inr, arith}
use Rattle.std.specs.Option.{option_or}
use Rattle.std.proofs.lemmas.Bool.{eq-eqb, ne_eqb, cases_eq, cases_lt, cases_Bool, leb-true, leb-false}
use Rattle.clocks.specs.declared.Version.{Version}
use Rattle.messages.specs.declared.Draft.{Draft}
use Rattle.tables.specs.declared.Phase.TheVariants.{Granted, Dropped}
use Rattle.messages.specs.declared.Objection.{Objection}
use Rattle.tables.specs.declared.Reading.{Reading}
use Rattle.laws.specs.Lists.{In, tally, last_of}
use Rattle.laws.specs.Net.{Clock, Placement, Net, Drafted, inside, newest_within}
use Rattle.laws.proofs.Conflicts.{says_map, says-one}
use Rattle.laws.proofs.Log.{versions, count, Seen}
use Rattle.laws.proofs.Model.{Answered, State, log_of}
use Rattle.laws.specs.Words.{Event}
use Rattle.laws.proofs.Facts.{Facts, Before, RefusedFor}
use Rattle.laws.specs.History.{placed_in, Earlier, origin_in, drafts_in, number_after, number_of, number_in, Within, Outside, versions_of, versions_in, Received}
use Rattle.laws.specs.State.{Visible}
use Rattle.laws.specs.Laws.{LastWithin, Showed, EachShowed, Rival, Cause, Laws, LawsStand}
use Rattle.laws.proofs.Placed.{Numbered, number-new}
use Rattle.laws.proofs.Invariant.{Invariant}
use Rattle.laws.proofs.Frames.{placed-once, differ}
use Rattle.laws.proofs.Ranges.{begun-phase}
use Rattle.laws.proofs.Shown.{before_in}
use Rattle.laws.proofs.Stand.{run_holds, facts_stand}
use Rattle.laws.proofs.Histories.{txs, noted, received_of, Linked, run_linked}

-- ## The placed transactions, and what the history tells of them

module _ (h : List Event) where
  abbrev pub ToldOf : List Placement → Type 0
  ToldOf P = (E : Placement) → In E P → (E.origin ≡ origin_in h E.tx) × (E.drafts ≡ drafts_in h E.tx)

  pub count_told : (P : List Placement) (j : ℕ) → ToldOf P → count P j ≡ tally (λ i. eqb (origin_in h i) j) (txs P)
  count_told [] j t = refl
  count_told (T ∷ P) j t = rw ((t T (inl refl)).0, count_told P j (λ E g. t E (inr g)))

  number-told : (P : List Placement) (T : Placement) → ToldOf (T ∷ P) → T.number ≡ suc (count P T.origin) → T.number ≡ number_after h T.tx (txs P)
  number-told P T t e = e ∙ ap suc (count_told P T.origin (λ E g. t E (inr g))) ∙ ap (λ (j : ℕ). suc (tally (λ i. eqb (origin_in h i) j) (txs P))) (t T (inl refl)).0

  pub versions_told : (P : List Placement) (k : ℕ) → ToldOf P → Numbered P → versions P k ≡ versions_of h (txs P) k
  versions_told [] k t n = refl
  versions_told (T ∷ P) k t n = rw (versions_told P k (λ E g. t E (inr g)) n.1, number-told P T t n.0, (t T (inl refl)).1, (t T (inl refl)).0)

  number-found : (P : List Placement) (E : Placement) → ToldOf P → Numbered P → ((E F : Placement) → In E P → In F P → E.tx ≡ F.tx → E ≡ F) → In E P → number_of h E.tx (txs P) ≡ Some E.number
  number-found [] E t n u g = absurd g
  number-found (T ∷ P) E t n u g = go (number-found P E (λ E g. t E (inr g)) n.1 (λ A B a b. u A B (inr a) (inr b))) (cases_eq T.tx E.tx) g
    where
      go : (In E P → number_of h E.tx (txs P) ≡ Some E.number) → (T.tx ≡ E.tx) ⊎ (T.tx ≡ E.tx → ⊥) → In E (T ∷ P) →
          cond (eqb T.tx E.tx) (Some (number_after h T.tx (txs P))) (number_of h E.tx (txs P)) ≡ Some E.number
      go ih (inl q) g = rw (eq-eqb _ _ q) (ap Some (sym (number-told P T t n.0) ∙ ap (λ (x : Placement). x.number) (u T E (inl refl) g q)))
      go ih (inr q) (inl e) = absurd (q (ap (λ (x : Placement). x.tx) (sym e)))
      go ih (inr q) (inr g) = rw (ne_eqb _ _ q) (ih g)

  number-back : (P : List Placement) (i n : ℕ) → ToldOf P → Numbered P → number_of h i (txs P) ≡ Some n → (E : Placement) × In E P × (E.tx ≡ i) × (E.number ≡ n)
  number-back [] i n t m e = absurd cc
  number-back (T ∷ P) i n t m e = go (number-back P i n (λ E g. t E (inr g)) m.1) (cases_eq T.tx i) e
    where
      go : (number_of h i (txs P) ≡ Some n → (E : Placement) × In E P × (E.tx ≡ i) × (E.number ≡ n)) → (T.tx ≡ i) ⊎ (T.tx ≡ i → ⊥) →
          cond (eqb T.tx i) (Some (number_after h T.tx (txs P))) (number_of h i (txs P)) ≡ Some n → (E : Placement) × In E (T ∷ P) × (E.tx ≡ i) × (E.number ≡ n)
      go ih (inl q) e =
          let f : Some (number_after h T.tx (txs P)) ≡ Some n = rw (eq-eqb _ _ q) at e in
          let k : number_after h T.tx (txs P) ≡ n = cc f in
          (T, inl refl, q, number-told P T t m.0 ∙ k)
      go ih (inr q) e = let r = ih (rw (ne_eqb _ _ q) at e) in (r.0, inr r.1, r.2, r.3)

pub placed_at : (P : List Placement) (i : ℕ) → In i (txs P) → (E : Placement) × In E P × (E.tx ≡ i)
placed_at [] i g = absurd g
placed_at (T ∷ P) i (inl e) = (T, inl refl, sym e)
placed_at (T ∷ P) i (inr g) = let r = placed_at P i g in (r.0, inr r.1, r.2)

pub in_txs : (P : List Placement) (E : Placement) → In E P → In E.tx (txs P)
in_txs [] E g = absurd g
in_txs (T ∷ P) E (inl e) = inl (ap (λ (x : Placement). x.tx) e)
in_txs (T ∷ P) E (inr g) = inr (in_txs P E g)

pub earlier_placed : (P : List Placement) (x y : ℕ) → Earlier x y (txs P) → (E : Placement) × (T : Placement) × Before E T P × (E.tx ≡ x) × (T.tx ≡ y)
earlier_placed [] x y g = absurd g
earlier_placed (X ∷ P) x y (inl g) = let r = placed_at P x g.1 in (r.0, X, inl (refl, r.1), r.2, g.0)
earlier_placed (X ∷ P) x y (inr g) = let r = earlier_placed P x y g in (r.0, r.1, inr r.2, r.3, r.4)

after_in : (E F : Placement) (P : List Placement) → Before E F P → In F P
after_in E F [] h = absurd h
after_in E F (X ∷ P) (inl h) = inl (sym h.0)
after_in E F (X ∷ P) (inr h) = inr (after_in E F P h)

not_twice : (P : List Placement) (E F : Placement) → Numbered P → E ≡ F → Before E F P → ⊥
not_twice [] E F n q b = b
not_twice (X ∷ P) E F n q (inl b) =
    let e : E ≡ X = q ∙ sym b.0 in
    number-new P X E n.0 n.1 b.1 (ap (λ (x : Placement). x.origin) e) (ap (λ (x : Placement). x.number) e)
not_twice (X ∷ P) E F n q (inr b) = not_twice P E F n.1 q b

-- ## The last of the versions within a bound

last_within : (b : Clock) (xs : List Version) → LastWithin b xs (last_of (inside b) xs)
last_within b [] = λ x g. absurd g
last_within b (x ∷ xs) = go (last_of (inside b) xs) (last_within b xs) (cases_Bool (inside b x))
  where
    go : (o : Option Version) → LastWithin b xs o → (inside b x ≡ true) ⊎ (inside b x ≡ false) → LastWithin b (x ∷ xs) (option_or o (cond (inside b x) (Some x) None))
    go (Some y) (before, after, e, w, n) c = (x ∷ before, after, ap (λ (l : List Version). x ∷ l) e, w, n)
    go None n (inl c) = rw c ([], xs, refl, leb-true _ _ c, n)
    go None n (inr c) = rw c (λ y g. elim g [ inl e ↦ (λ w. absurd (outside y e w)) | inr g ↦ n y g ])
      where
        outside : (y : Version) → y ≡ x → y.number ≤ b y.origin → ⊥
        outside y e w =
            let w' : x.number ≤ b x.origin = subst (λ (z : Version). z.number ≤ b z.origin) e w in
            omega (arith, w', leb-false _ _ c)

each_more : (h : List Event) (v : Visible) (ds : List Received) (es : List Reading) (d : Received) (e : Reading) → EachShowed h v ds es → Showed h v d e → EachShowed h v (ds ++ d ∷ []) (es ++ e ∷ [])
each_more h v [] [] d e a x = (x, tt)
each_more h v [] (f ∷ es) d e a x = absurd a
each_more h v (c ∷ ds) [] d e a x = absurd a
each_more h v (c ∷ ds) (f ∷ es) d e a x = (a.0, each_more h v ds es d e a.1 x)

each_showed : (h : List Event) (v : Visible) (rds : List Answered) → ((d : Answered) → In d rds → d.shown ≡ newest_within (v.records d.tx).bound (versions_in h d.key)) → EachShowed h v (received_of rds) (noted rds)
each_showed h v [] f = tt
each_showed h v (d ∷ rds) f = each_more h v (received_of rds) (noted rds) _ _ (each_showed h v rds (λ d g. f d (inr g))) (record {
  same_tx = refl;
  same_key = refl;
  newest = d.shown;
  last = rw (f d (inl refl)) (last_within (v.records d.tx).bound (versions_in h d.key));
  content = refl;
  writer = refl;
})

-- ## The laws

module _ (net : Net) (h : List Event) (s : State) (v : Invariant net s) (l : Linked h s) where
  pub told_of : ToldOf h s.placed
  told_of E g =
      let e = (v.granteds E g).1 in
      (ap (λ (x : Placement). x.origin) e ∙ l.origins E.tx, ap (λ (x : Placement). x.drafts) e ∙ l.drafts E.tx)

  pub bound_of : (E : Placement) → In E s.placed → E.bound ≡ (s.vis.records E.tx).bound
  bound_of E g = ap (λ (x : Placement). x.bound) (v.granteds E g).1

  pub one : (E F : Placement) → In E s.placed → In F s.placed → E.tx ≡ F.tx → E ≡ F
  one E F = placed-once s.placed s.vis.records E F v.granteds

  pub versions_are : (k : ℕ) → versions s.placed k ≡ versions_in h k
  versions_are k = versions_told h s.placed k told_of v.order.numbered ∙ ap (λ (is : List ℕ). versions_of h is k) l.placed

  pub numbered_as : (E : Placement) → In E s.placed → number_in h E.tx ≡ Some E.number
  numbered_as E g = subst (λ (is : List ℕ). number_of h E.tx is ≡ Some E.number) l.placed (number-found h s.placed E told_of v.order.numbered one g)

  pub within_of : (E : Placement) → In E s.placed → (b : Clock) → Seen E b → Within h E.tx b
  within_of E g b u = (
    E.number,
    numbered_as E g,
    subst (λ (o : ℕ). E.number ≤ b o) (told_of E g).0 u,
  )

  pub of_number : (i n : ℕ) → number_in h i ≡ Some n → (E : Placement) × In E s.placed × (E.tx ≡ i) × (E.number ≡ n)
  of_number i n e = number-back h s.placed i n told_of v.order.numbered (subst (λ (is : List ℕ). number_of h i is ≡ Some n) (sym l.placed) e)

  pub origin_is : (E : Placement) (i : ℕ) → In E s.placed → E.tx ≡ i → E.origin ≡ origin_in h i
  origin_is E i g q = (told_of E g).0 ∙ ap (origin_in h) q

  pub of_within : (i : ℕ) (b : Clock) → Within h i b → (E : Placement) × In E s.placed × (E.tx ≡ i) × Seen E b
  of_within i b w =
      let r = of_number i w.0 w.1 in
      (r.0, r.1, r.2, rw (r.3, origin_is r.0 i r.1 r.2) w.2)

  pub outside_of : (j : ℕ) (b : Clock) → ((E : Placement) → In E s.placed → E.tx ≡ j → Seen E b → ⊥) → Outside h j b
  outside_of j b u n e = elim (cases_lt (b (origin_in h j)) n) [
    | inl q ↦ q
    | inr q ↦ absurd (let r = of_within j b (n, e, q) in u r.0 r.1 r.2 r.3)
  ]

  cause_of : (i : ℕ) (k : Objection) → RefusedFor net s i k → Cause net h s.vis i k
  cause_of i k c =
      let so = says_map {R' = Rival h s.vis i k.key} {H = λ o w. origin_in h w ≡ o} {N' = λ o w n. (origin_in h w ≡ o) × (number_in h w ≡ Some n)} (λ j x. record {
        other = x.other;
        closed = x.asked;
        drafted = rw (l.drafts j) at x.drafted;
        outside = outside_of j (s.vis.records i).bound x.outside;
      }) (λ o w n x. (sym (origin_is x.0 w x.1 x.2) ∙ x.3, ap (number_in h) (sym x.2) ∙ numbered_as x.0 x.1 ∙ ap Some x.4)) (λ x. x) k.conflict (λ o w e. sym (l.origins w) ∙ c.holder o w e) c.cause in
      record { named = c.named; drafted = rw (l.drafts i) at c.drafted; cause = says-one _ _ _ _ k.conflict so; told = so }

  placed-ordered : Facts net s → (x y k : ℕ) → Earlier x y (placed_in h) → Drafted (drafts_in h x) k → Drafted (drafts_in h y) k → Within h x (s.vis.records y).bound
  placed-ordered f x y k g dx dy =
      let r = earlier_placed s.placed x y (subst (Earlier x y) (sym l.placed) g) in
      let E = r.0 in
      let T = r.1 in
      let gE = before_in E T s.placed r.2 in
      let gT = after_in E T s.placed r.2 in
      let dE : Drafted E.drafts k = rw ((told_of E gE).1, r.3) dx in
      let dT : Drafted T.drafts k = rw ((told_of T gT).1, r.4) dy in
      let b : T.bound ≡ (s.vis.records y).bound = bound_of T gT ∙ ap (λ (i : ℕ). (s.vis.records i).bound) r.4 in
      subst (λ (i : ℕ). Within h i (s.vis.records y).bound) r.3 (within_of E gE (s.vis.records y).bound (subst (Seen E) b (f.seen E T k r.2 dE dT)))

  pub lawful : Facts net s → Laws net h s.vis
  lawful f = record {
    counted = l.counted;
    began = λ x g.
        let r = placed_at s.placed x (subst (In x) (sym l.placed) g) in
        subst (λ (n : ℕ). x < n) l.begun (subst (λ (i : ℕ). i < s.vis.begun) r.2 (begun-phase net s r.0.tx v (differ Granted Dropped refl (v.granteds r.0 r.1).0)));
    once = λ x g.
        let r = earlier_placed s.placed x x (subst (Earlier x x) (sym l.placed) g) in
        not_twice s.placed r.0 r.1 v.order.numbered (one r.0 r.1 (before_in r.0 r.1 s.placed r.2) (after_in r.0 r.1 s.placed r.2) (r.3 ∙ sym r.4)) r.2;
    replay = λ st k. f.books st k ∙ versions_are k;
    ordered = placed-ordered f;
    shown = subst (λ (ds : List Received). EachShowed h s.vis ds s.vis.readings) l.reads (subst (EachShowed h s.vis (received_of s.readings)) l.entries
        (each_showed h s.vis s.readings (λ d g. v.reads.shown d g ∙ ap (newest_within (s.vis.records d.tx).bound) (versions_are d.key))));
    refused = λ i c. let r = f.refused i c in (r.0, cause_of i r.0 r.1);
    undrafted = λ i e c. let r = f.refused i c in subst (λ (ds : List Draft). Drafted ds r.0.key → ⊥) (sym (l.drafts i ∙ e)) (λ d. d) r.1.drafted;
  }

pub laws_stand : LawsStand
laws_stand net h w r =
    let x = log_of net r in
    subst (Laws net h) x.2 (lawful net h x.0 (run_holds net x.1) (run_linked net x.1) (facts_stand net h x.0 x.1))
