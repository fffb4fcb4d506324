-- A row of `d` places for each of `n` keys, of which the first `min (get_or cs k 0) d` are taken.
use Rattle.std.proofs.Common.{◌≡◌, ℕ, suc, ◌+◌, ◌-◌, ◌*◌, ◌<◌, ◌≤◌, min, cond, ltb, List, [], ◌∷◌, ◌++◌, length, get_or, take, drop, set, sym, refl, ap, ◌∙◌, subst, inl, inr, ⊎_elim, le_refl, mul-le-mul_right, suc-mul, arith}
use Rattle.std.proofs.lemmas.List.{length-take-le, length-drop, get_or-set_same, get_or-set_other, drop-set-add, drop-set-lt, take_more_set, take-set-le}
use Rattle.std.proofs.lemmas.Bool.{eq-eqb, ne_eqb, lt-ltb, cases_order}
use Rattle.clocks.specs.declared.Version.{Version}
use Rattle.book.specs.Books.{with_one}
use Rattle.rows.specs.Places.{row_of}

-- the end of a row lies in the memory
pub row_end : (k n d m : ℕ) → k < n → n * d ≤ m → k * d + d ≤ m
row_end k n d m h l = let p : suc k * d ≤ n * d = mul-le-mul_right d h in omega (arith, suc-mul k d)

module _ (cs : List ℕ) (vs : List Version) (n d : ℕ) where
  -- the places that are taken, by the count alone
  abbrev places : ℕ → List Version
  places k = take (min (get_or cs k 0) d) (drop (k * d) vs)

  pub row-there : (k : ℕ) → k < n → row_of cs vs n d k ≡ places k
  row-there k h = ap (λ t. cond t (places k) []) (lt-ltb k n h)

  pub row-length : (k : ℕ) → k < n → n * d ≤ length vs → length (row_of cs vs n d k) ≡ min (get_or cs k 0) d
  row-length k h l =
      ap length (row-there k h)
      ∙ length-take-le (min (get_or cs k 0) d) (drop (k * d) vs) (simp length-drop (omega (arith, row_end k n d (length vs) h l)))

-- one more version in the row of `key` leaves the other rows as they are
module _ (cs : List ℕ) (vs : List Version) (n d key m : ℕ) (v : Version) (h : key < n) (c : n ≤ length cs) (l : n * d ≤ length vs) (e : m ≡ length (row_of cs vs n d key)) (j : m < d) where
  abbrev cs' : List ℕ
  cs' = set cs key (m + 1)

  abbrev vs' : List Version
  vs' = set vs (key * d + m) v

  in_row : places cs' vs' n d key ≡ places cs vs n d key ++ (v ∷ [])
  in_row =
      let count : min (get_or cs key 0) d ≡ m = sym (e ∙ row-length cs vs n d key h l) in
      let short : m < length (drop (key * d) vs) = simp length-drop (omega (arith, row_end key n d (length vs) h l)) in
      let now : get_or cs' key 0 ≡ m + 1 = get_or-set_same cs key (m + 1) 0 (omega arith) in
      let more : min (get_or cs' key 0) d ≡ m + 1 = ap (λ x. min x d) now ∙ (let q : min (m + 1) d ≡ m + 1 = omega arith in q) in
      ap (λ x. take x (drop (key * d) vs')) more
      ∙ ap (λ ws. take (m + 1) ws) (drop-set-add (key * d) vs m v)
      ∙ take_more_set (drop (key * d) vs) m v short
      ∙ ap (λ x. take x (drop (key * d) vs) ++ (v ∷ [])) (sym count)

  other-places : (k : ℕ) → (k ≡ key → ⊥) → take (min (get_or cs k 0) d) (drop (k * d) vs') ≡ places cs vs n d k → places cs' vs' n d k ≡ places cs vs n d k
  other-places k ne q = ap (λ x. take (min x d) (drop (k * d) vs')) (get_or-set_other cs key k (m + 1) 0 ne) ∙ q

  before-row : (k : ℕ) → k < key → places cs' vs' n d k ≡ places cs vs n d k
  before-row k less =
      let p = row_end k key d (key * d) less (le_refl (key * d)) in
      let x = key * d + m - k * d in
      let at : k * d + x ≡ key * d + m = omega arith in
      other-places k (λ q. omega arith)
      (ap (λ i. take (min (get_or cs k 0) d) (drop (k * d) (set vs i v))) (sym at)
      ∙ ap (λ ws. take (min (get_or cs k 0) d) ws) (drop-set-add (k * d) vs x v)
      ∙ take-set-le (min (get_or cs k 0) d) (drop (k * d) vs) x v (omega arith))

  after-row : (k : ℕ) → key < k → places cs' vs' n d k ≡ places cs vs n d k
  after-row k more =
      let p = row_end key k d (k * d) more (le_refl (k * d)) in
      other-places k (λ q. omega arith) (ap (λ ws. take (min (get_or cs k 0) d) ws) (drop-set-lt (k * d) vs (key * d + m) v (omega arith)))

  others : (k : ℕ) → (k ≡ key → ⊥) → places cs' vs' n d k ≡ places cs vs n d k → row_of cs' vs' n d k ≡ with_one (row_of cs vs n d) key v k
  others k ne q =
      ap (λ ws. cond (ltb k n) ws []) q
      ∙ sym (ap (λ t. cond t (row_of cs vs n d k ++ (v ∷ [])) (row_of cs vs n d k)) (ne_eqb k key ne))

  pub row-added : (k : ℕ) → row_of cs' vs' n d k ≡ with_one (row_of cs vs n d) key v k
  row-added k = elim (cases_order k key) [
    | inl same ↦
        let here : row_of cs' vs' n d key ≡ with_one (row_of cs vs n d) key v key =
        row-there cs' vs' n d key h ∙ in_row ∙ ap (λ ws. ws ++ (v ∷ [])) (sym (row-there cs vs n d key h))
        ∙ sym (ap (λ t. cond t (row_of cs vs n d key ++ (v ∷ [])) (row_of cs vs n d key)) (eq-eqb key key refl)) in
        subst (λ (k : ℕ). row_of cs' vs' n d k ≡ with_one (row_of cs vs n d) key v k) (sym same) here
    | inr o ↦ ⊎_elim (λ less. others k (λ q. omega arith) (before-row k less)) (λ more. others k (λ q. omega arith) (after-row k more)) o
  ]
