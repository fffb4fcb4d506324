-- What a tray holds is the front of its memory, `take n xs`.
use Rattle.std.proofs.Common.{◌≡◌, ℕ, suc, ◌+◌, ◌-◌, ◌<◌, ◌≤◌, List, ◌++◌, length, take, drop, set, sym, ap, ◌∙◌, inl, inr, add-one, arith}
use lib.Seq.{paste, take-set-lt}
use Rattle.std.proofs.lemmas.List.{length-take, length-take-le, length-drop, take_all, drop_all, append-nil, take-take, drop-take}
use Rattle.std.proofs.lemmas.List.Edits.{take-paste}
use Rattle.std.proofs.lemmas.Bool.{cases_lt}
use Rattle.std.specs.List.{remove}

module _ {X : Type 0} (xs : List X) (n : ℕ) where
  pub front_le : (length (take n xs) ≤ length xs) × (length (take n xs) ≤ n)
  front_le = let e = length-take n xs in (omega arith, omega arith)

  -- as many as the front has are the front
  pub front_again : take (length (take n xs)) xs ≡ take n xs
  front_again = elim (cases_lt n (length xs)) [
    | inl less ↦ ap (λ m. take m xs) (length-take-le n xs (omega arith))
    | inr more ↦ let e = take_all n xs more in ap (λ ys. take (length ys) xs) e ∙ take_all (length xs) xs (omega arith) ∙ sym e
  ]

  pub set_in : (i : ℕ) (x : X) → i < length (take n xs) → take n (set xs i x) ≡ set (take n xs) i x
  set_in i x h = let l = front_le in take-set-lt n xs i x (omega arith)

-- nothing is taken out where nothing stands
pub removed_past : {X : Type 0} (xs : List X) (i : ℕ) → length xs ≤ i → xs ≡ remove xs i
removed_past xs i h =
    sym (ap (λ ys. ys ++ drop (suc i) xs) (take_all i xs h) ∙ ap (λ ys. xs ++ ys) (drop_all (suc i) xs (omega arith)) ∙ append-nil xs)

-- what a copy of the elements behind i over the one at i leaves of the first n
pub gap_closed : {X : Type 0} (xs ys : List X) (i n : ℕ) → i < n → n ≤ length xs → ys ≡ paste xs i (drop (i + 1) xs) (n - (i + 1)) → take (n - 1) ys ≡ remove (take n xs) i
gap_closed xs ys i n h l e =
    let m = n - (i + 1) in
    let total : n - 1 ≡ i + m = omega arith in
    let upto : n ≡ (i + 1) + m = omega arith in
    let short : m ≤ length (drop (i + 1) xs) = simp length-drop (omega arith) in
    let behind : drop (suc i) (take n xs) ≡ take m (drop (i + 1) xs) = ap (λ k. drop k (take n xs)) (sym (add-one i)) ∙ ap (λ k. drop (i + 1) (take k xs)) upto ∙ drop-take (i + 1) m xs in
    ap (λ k. take k ys) total ∙ ap (λ zs. take (i + m) zs) e ∙ take-paste xs i (drop (i + 1) xs) m (omega arith) short
    ∙ sym (ap (λ zs. take i (take n xs) ++ zs) behind ∙ ap (λ zs. zs ++ take m (drop (i + 1) xs)) (take-take i n xs (omega arith)))
