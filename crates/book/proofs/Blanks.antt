-- The test of a blank book decides that it is blank.
use Rattle.std.proofs.Common.{◌≡◌, ℕ, zero, suc, ◌+◌, ◌<◌, ◌&&◌, ◌∷◌, ◌++◌, Bool, true, false, eqb, List, [], length, refl, ap, ◌∙◌, inl, inr, arith}
use Rattle.std.proofs.lemmas.List.{nil_from_length}
use Rattle.std.proofs.lemmas.Bool.{and_parts, and_from, eqb-true, eq-eqb, cases_lt}
use Rattle.std.proofs.Math.Bool.{and_comm}
use Rattle.std.proofs.lemmas.List.Folds.{list_all-append}
use Rattle.std.specs.List.{list_all, range_with_len}
use Rattle.clocks.specs.declared.Version.{Version}
use Rattle.book.specs.Books.{Kept, Outside, Blank, blank_below, blank_kept}

below_true : (ls : ℕ → List Version) (n : ℕ) → blank_below n ls ≡ true → (k : ℕ) → k < n → ls k ≡ []
below_true ls zero e k h = absurd (let z : ⊥ = omega arith in z)
below_true ls (suc n) e k h =
    let p = and_parts (eqb (length (ls n)) 0) (blank_below n ls) e in
    elim (cases_lt k n) [
      | inl less ↦ below_true ls n p.1 k less
      | inr more ↦ let same : k ≡ n = omega arith in ap ls same ∙ nil_from_length (ls n) (eqb-true (length (ls n)) 0 p.0)
    ]

true_below : (ls : ℕ → List Version) (n : ℕ) → ((k : ℕ) → ls k ≡ []) → blank_below n ls ≡ true
true_below ls zero h = refl
true_below ls (suc n) h = and_from (eqb (length (ls n)) 0) (blank_below n ls) (eq-eqb (length (ls n)) 0 (ap length (h n))) (true_below ls n h)

-- the test of each key in turn is the same
pub all_below : (ls : ℕ → List Version) (n : ℕ) → list_all (λ k. eqb (length (ls k)) 0) (range_with_len 0 n) ≡ blank_below n ls
all_below ls zero = refl
all_below ls (suc n) =
    ap (list_all (λ k. eqb (length (ls k)) 0)) (range_more 0 n n (omega arith)) ∙ list_all-append (λ k. eqb (length (ls k)) 0) (range_with_len 0 n) (n ∷ [])
    ∙ and_comm (list_all (λ k. eqb (length (ls k)) 0) (range_with_len 0 n)) (list_all (λ k. eqb (length (ls k)) 0) (n ∷ []))
    ∙ ap (λ t. t && list_all (λ k. eqb (length (ls k)) 0) (range_with_len 0 n)) (and_true (eqb (length (ls n)) 0))
    ∙ ap (λ t. eqb (length (ls n)) 0 && t) (all_below ls n)
  where
    range_more : (a n j : ℕ) → a + n ≡ j → range_with_len a (suc n) ≡ range_with_len a n ++ (j ∷ [])
    range_more a zero j e = let q : a ≡ j = omega (arith, e) in ap (λ i. i ∷ []) q
    range_more a (suc n) j e = ap (λ is. a ∷ is) (range_more (a + 1) n j (omega (arith, e)))

    and_true : (t : Bool) → (t && true) ≡ t
    and_true true = refl
    and_true false = refl

module _ (s : Kept) (outside : Outside s) where
  -- a book is blank where its keys have no version
  pub blank_below_lem : ((k : ℕ) → k < s.keys → s.lists k ≡ []) → Blank s
  blank_below_lem h k = elim (cases_lt k s.keys) [ inl less ↦ h k less | inr more ↦ nil_from_length (s.lists k) (outside k more) ]

  pub blank-true : blank_kept s ≡ true → Blank s
  blank-true e = blank_below_lem (below_true s.lists s.keys e)

  pub true-blank : Blank s → blank_kept s ≡ true
  true-blank h = true_below s.lists s.keys h
