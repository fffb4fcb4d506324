-- No more is placed than began, so that clocks stay small. Assumes nothing.
use Rattle.std.proofs.Common.{◌≡◌, ℕ, ◌+◌, ◌<◌, ◌≤◌, Bool, true, false, cond, eqb, ◌≢◌, ◌⊎◌, List, [], ◌∷◌, length, sym, refl, ap, ◌∙◌, subst, inl, inr, arith}
use Rattle.std.specs.List.{list_any, AllByRecursion, IsDistinct}
use Rattle.std.proofs.lemmas.Bool.{eq-eqb, ne_eqb, cases_eq}
use Rattle.std.proofs.lemmas.Map.Steps.{length-le_from_distinct_below}
use Rattle.tables.specs.declared.Phase.TheVariants.{Dropped}
use Rattle.laws.specs.Lists.{In, tally}
use Rattle.laws.specs.Net.{Net}
use Rattle.laws.proofs.Log.{count}
use Rattle.laws.specs.Words.{Event}
use Rattle.laws.specs.History.{placed_in, begun_in, origin_in, Earlier}
use Rattle.laws.specs.Rules.{Run}
use Rattle.laws.specs.State.{Visible}
use Rattle.laws.specs.Laws.{Laws}
use Rattle.laws.proofs.Model.{Logged, State}
use Rattle.laws.proofs.Lists.{tally-none}
use Rattle.laws.proofs.Stand.{run_holds}
use Rattle.laws.proofs.Ranges.{begun-phase}
use Rattle.laws.proofs.Histories.{run_linked}
use Rattle.laws.proofs.Lawful.{count_told, told_of, laws_stand}
use Rattle.laws.proofs.Further.{always}

-- ## Numbers below n, none of them twice, are at most n

any_in : (q : ℕ) (xs : List ℕ) → list_any (eqb q) xs ≡ true → In q xs
any_in q [] e = absurd (cc e)
any_in q (x ∷ xs) e = elim (cases_eq q x) [ inl s ↦ inl s | inr n ↦ inr (any_in q xs (rw (ne_eqb q x n) at e)) ]

others : (x : ℕ) (xs : List ℕ) → tally (λ y. eqb y x) xs ≡ 0 → AllByRecursion (λ y. eqb x y ≡ false) xs
others x [] e = tt
others x (y ∷ xs) e = elim (cases_eq y x) [
  | inl s ↦ (let z : 1 + tally (λ y. eqb y x) xs ≡ 0 = rw (eq-eqb y x s) at e in absurd (omega (arith, z)))
  | inr n ↦ (let z : 0 + tally (λ y. eqb y x) xs ≡ 0 = rw (ne_eqb y x n) at e in (ne_eqb x y (λ s. n (sym s)), others x xs (omega (arith, z))))
]

different : (xs : List ℕ) → ((v : ℕ) → tally (λ x. eqb x v) xs ≤ 1) → IsDistinct eqb xs
unfolding IsDistinct
different [] f = tt
different (x ∷ xs) f =
    let once = f x in
    let l : 1 + tally (λ y. eqb y x) xs ≤ 1 = rw (eq-eqb x x refl) at once in
    (others x xs (omega (arith, l)), different xs (λ v. omega (arith, f v)))

pub few : (n : ℕ) (xs : List ℕ) → ((x : ℕ) → In x xs → x < n) → ((v : ℕ) → tally (λ x. eqb x v) xs ≤ 1) → length xs ≤ n
few n xs f d = length-le_from_distinct_below xs n (different xs d) (λ q e. f q (any_in q xs e))

tally_different : (xs : List ℕ) → ((x : ℕ) → Earlier x x xs → ⊥) → (v : ℕ) → tally (λ x. eqb x v) xs ≤ 1
tally_different [] d v = omega arith
tally_different (x ∷ xs) d v = go (tally_different xs (λ y q. d y (inr q)) v) (cases_eq x v)
  where
    go : tally (λ x. eqb x v) xs ≤ 1 → (x ≡ v) ⊎ (x ≡ v → ⊥) → cond (eqb x v) 1 0 + tally (λ x. eqb x v) xs ≤ 1
    go ih (inl e) = rw (eq-eqb x v e) (omega (arith, tally-none (λ x. eqb x v) xs (λ y q. ne_eqb y v (λ z. d x (inl (refl, subst (λ (w : ℕ). In w xs) (z ∙ sym e) q))))))
    go ih (inr n) = rw (ne_eqb x v n) (omega (arith, ih))

pub tally-length : {A : Type 0} (q : A → Bool) (xs : List A) → tally q xs ≤ length xs
tally-length q [] = omega arith
tally-length q (x ∷ xs) = elim (q x) as (λ b. cond b 1 0 + tally q xs ≤ length (x ∷ xs)) [ true ↦ omega (arith, tally-length q xs) | false ↦ omega (arith, tally-length q xs) ]

pub placed-few : (net : Net) (h : List Event) (v : Visible) → Laws net h v → length (placed_in h) ≤ begun_in h
placed-few net h v l = few (begun_in h) (placed_in h) l.began (tally_different (placed_in h) l.once)

-- ## Clocks

abbrev pub Small : Net → List Event → Visible → Type 0
Small net h v = (t j : ℕ) → v.clocks t j ≤ v.begun

pub run_small : (net : Net) (h : List Event) (v : Visible) → Run net h v → Small net h v
run_small net h v r t j = go (placed-few net h v (laws_stand net h v r)) (always (λ net h v. (t j : ℕ) → (v.clocks t j ≤ length (placed_in h)) × (v.begun ≡ begun_in h)) behind net h v r t j)
  where
    behind : (net : Net) (h : List Event) (s : State) → Logged net h s → (t j : ℕ) → (s.vis.clocks t j ≤ length (placed_in h)) × (s.vis.begun ≡ begun_in h)
    behind net h s r t j =
        let v = run_holds net r in
        let l = run_linked net r in
        let e : count s.placed j ≡ tally (λ i. eqb (origin_in h i) j) (placed_in h) = count_told h s.placed j (told_of net h s v l) ∙ ap (λ (is : List ℕ). tally (λ i. eqb (origin_in h i) j) is) l.placed in
        (omega (arith, v.clocks.behind t j, e, tally-length (λ i. eqb (origin_in h i) j) (placed_in h)), l.begun)

    go : length (placed_in h) ≤ begun_in h → (v.clocks t j ≤ length (placed_in h)) × (v.begun ≡ begun_in h) → v.clocks t j ≤ v.begun
    go f x = omega (arith, f, x.0, x.1)

abbrev pub Opened : Net → List Event → Visible → Type 0
Opened net h v = (i : ℕ) → (v.records i).phase ≢ Dropped → i < v.begun

pub run-opened : (net : Net) (h : List Event) (v : Visible) → Run net h v → Opened net h v
run-opened = always Opened (λ net h s r i. begun-phase net s i (run_holds net r))
