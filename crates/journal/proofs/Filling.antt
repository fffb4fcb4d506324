-- Where each key below n has at most d records, and one of them fewer, there are fewer than n * d in all.
use Rattle.std.proofs.Common.{◌≡◌, ℕ, zero, suc, ◌+◌, ◌*◌, ◌<◌, ◌≤◌, true, false, cond, eqb, List, [], ◌∷◌, ◌++◌, length, sym, refl, ap, ◌∙◌, subst, inl, inr, suc-mul, arith}
use mathlib.Core.Path.{fun_ext}
use Rattle.std.proofs.lemmas.List.{length_push}
use Rattle.std.proofs.lemmas.Bool.{eq-eqb, ne_eqb, cases_eq, cases_lt}
use Rattle.journal.specs.declared.record.Record.{Record}
use Rattle.journal.specs.Records.{list_of}
use Rattle.journal.proofs.Listed.{list_yes, list_no, list_pushed}

abbrev sum_to : ℕ → (ℕ → ℕ) → ℕ
sum_to zero f = 0
sum_to (suc n) f = sum_to n f + f n

abbrev bumped : ℕ → (ℕ → ℕ) → ℕ → ℕ
bumped key f k = cond (eqb key k) (suc (f k)) (f k)

sum_none : (n : ℕ) → sum_to n (λ k. 0) ≡ 0
sum_none zero = refl
sum_none (suc n) = let e = sum_none n in omega arith

sum_same : (n key : ℕ) (f : ℕ → ℕ) → n ≤ key → sum_to n (bumped key f) ≡ sum_to n f
sum_same zero key f h = refl
sum_same (suc n) key f h =
    let e = sum_same n key f (omega arith) in
    let t : bumped key f n ≡ f n = ap (λ b. cond b (suc (f n)) (f n)) (ne_eqb key n (λ q. omega arith)) in
    omega arith

sum_bumped : (n key : ℕ) (f : ℕ → ℕ) → key < n → sum_to n (bumped key f) ≡ suc (sum_to n f)
sum_bumped zero key f h = absurd (let k : ⊥ = omega arith in k)
sum_bumped (suc n) key f h = elim (cases_lt key n) [
  | inl less ↦
      let e = sum_bumped n key f less in
      let t : bumped key f n ≡ f n = ap (λ b. cond b (suc (f n)) (f n)) (ne_eqb key n (λ q. omega arith)) in
      omega arith
  | inr more ↦
      let q : key ≡ n = omega arith in
      let e = sum_same n key f more in
      let t : bumped key f n ≡ suc (f n) = ap (λ b. cond b (suc (f n)) (f n)) (eq-eqb key n q) in
      omega arith
]

-- no record is of a key from n on
abbrev pub Known : ℕ → List Record → Type 0
Known n rs = (k : ℕ) → n ≤ k → length (list_of rs k) ≡ 0

known_rest : (n : ℕ) (r : Record) (rs : List Record) → Known n (r ∷ rs) → (r.key < n) × Known n rs
known_rest n r rs h = (first, rest)
  where
    first : r.key < n
    first = elim (cases_lt r.key n) [
      | inl less ↦ less
      | inr more ↦ let e = sym (ap length (list_yes r rs r.key refl)) ∙ h r.key more in absurd (let k : ⊥ = omega arith in k)
    ]

    rest : Known n rs
    rest k l = sym (ap length (list_no r rs k (λ e. omega (arith, first)))) ∙ h k l

total : (n : ℕ) (rs : List Record) → Known n rs → length rs ≡ sum_to n (λ k. length (list_of rs k))
total n [] h = sym (sum_none n)
total n (r ∷ rs) h =
    let p = known_rest n r rs h in
    ap suc (total n rs p.1) ∙ sym (sum_bumped n r.key (λ k. length (list_of rs k)) p.0)
    ∙ ap (sum_to n) (fun_ext (λ k. each k))
  where
    each : (k : ℕ) → bumped r.key (λ k. length (list_of rs k)) k ≡ length (list_of (r ∷ rs) k)
    each k = elim (eqb r.key k) as (λ t. cond t (suc (length (list_of rs k))) (length (list_of rs k)) ≡ length (cond t (r.version ∷ list_of rs k) (list_of rs k))) [ true ↦ refl | false ↦ refl ]

sum_le : (n d : ℕ) (f : ℕ → ℕ) → ((k : ℕ) → f k ≤ d) → sum_to n f ≤ n * d
sum_le zero d f h = omega arith
sum_le (suc n) d f h = let p = sum_le n d f h in let q = h n in omega (arith, suc-mul n d)

sum_lt : (n d key : ℕ) (f : ℕ → ℕ) → ((k : ℕ) → f k ≤ d) → key < n → f key < d → sum_to n f < n * d
sum_lt zero d key f h l s = absurd (let k : ⊥ = omega arith in k)
sum_lt (suc n) d key f h l s = elim (cases_lt key n) [
  | inl less ↦ let p = sum_lt n d key f h less s in let q = h n in omega (arith, suc-mul n d)
  | inr more ↦
      let e : key ≡ n = omega arith in
      let p = sum_le n d f h in
      let q : f n < d = subst (λ (k : ℕ). f k < d) e s in
      omega (arith, suc-mul n d)
]

pub place-left : (n d key : ℕ) (rs : List Record) → Known n rs → ((k : ℕ) → length (list_of rs k) ≤ d) → key < n → length (list_of rs key) < d → length rs < n * d
place-left n d key rs b h l s = let p = sum_lt n d key (λ k. length (list_of rs k)) h l s in let e = total n rs b in omega arith

-- one more record, of a key that is there and has fewer than d
module _ (n d : ℕ) (rs : List Record) (r : Record) (there : r.key < n) where
  pub known_pushed : Known n rs → Known n (rs ++ (r ∷ []))
  known_pushed h k l = ap length (list_pushed rs r k ∙ ap (λ t. cond t (list_of rs k ++ (r.version ∷ [])) (list_of rs k)) (ne_eqb k r.key (λ e. omega arith))) ∙ h k l

  pub filled-pushed : ((k : ℕ) → length (list_of rs k) ≤ d) → length (list_of rs r.key) < d → (k : ℕ) → length (list_of (rs ++ (r ∷ [])) k) ≤ d
  filled-pushed h s k = elim (cases_eq k r.key) [
    | inl q ↦
        let t : length (list_of rs k) < d = subst (λ (k : ℕ). length (list_of rs k) < d) (sym q) s in
        let l : length (list_of (rs ++ (r ∷ [])) k) ≡ length (list_of rs k) + 1 = ap length (list_pushed rs r k ∙ ap (λ t. cond t (list_of rs k ++ (r.version ∷ [])) (list_of rs k)) (eq-eqb k r.key q)) ∙ length_push (list_of rs k) r.version in
        omega arith
    | inr q ↦
        let l : length (list_of (rs ++ (r ∷ [])) k) ≡ length (list_of rs k) = ap length (list_pushed rs r k ∙ ap (λ t. cond t (list_of rs k ++ (r.version ∷ [])) (list_of rs k)) (ne_eqb k r.key q)) in
        let t = h k in
        omega arith
  ]
