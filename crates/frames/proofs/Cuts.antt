-- Things of equal width that are read from bytes, one after another.
use Rattle.std.proofs.Common.{◌≡◌, ℕ, zero, suc, ◌*◌, ◌<◌, List, [], ◌∷◌, ◌++◌, length, get_or, map, take, drop, sym, refl, ap, ◌∙◌, append_assoc, mul-zero, mul-suc, mul-add, arith, length-append}
use Rattle.std.specs.List.{flat_map, AllByRecursion}
use Rattle.std.proofs.lemmas.List.{drop-drop, drop_at}
use Rattle.std.specs.Simd.{first_chunks}
use Rattle.frames.specs.Bytes.{cut}

module _ {X : Type 0} (g : List ℕ → X) (w : ℕ) where
  pub length_cut : (n : ℕ) (bs : List ℕ) → length (cut g w n bs) ≡ n
  length_cut zero bs = refl
  length_cut (suc n) bs = ap suc (length_cut n (drop w bs))

  pub cut-more : (n : ℕ) (bs : List ℕ) → cut g w (suc n) bs ≡ cut g w n bs ++ g (drop (w * n) bs) ∷ []
  cut-more zero bs = ap (λ k. g (drop k bs) ∷ []) (sym (mul-zero w))
  cut-more (suc n) bs =
      let e : drop (w * n) (drop w bs) ≡ drop (w * suc n) bs = drop-drop (w * n) w bs ∙ ap (λ k. drop k bs) (omega (arith, mul-suc w n)) in
      ap (λ r. g bs ∷ r) (cut-more n (drop w bs) ∙ ap (λ r. cut g w n (drop w bs) ++ g r ∷ []) e)

  -- by their places
  pub cut_at : (n : ℕ) (bs : List ℕ) (xs : List X) (z : X) → length xs ≡ n → ((i : ℕ) → i < n → get_or xs i z ≡ g (drop (w * i) bs)) → xs ≡ cut g w n bs
  cut_at zero bs [] z l h = refl
  cut_at zero bs (x ∷ xs) z l h = absurd (let e : ⊥ = omega arith in e)
  cut_at (suc n) bs [] z l h = absurd (let e : ⊥ = omega arith in e)
  cut_at (suc n) bs (x ∷ xs) z l h =
      let first : x ≡ g bs = h 0 (omega arith) ∙ ap (λ k. g (drop k bs)) (mul-zero w) in
      let rest : xs ≡ cut g w n (drop w bs) =
      cut_at n (drop w bs) xs z (omega arith) (λ i k. h (suc i) (omega arith) ∙ ap g (sym (drop-drop (w * i) w bs ∙ ap (λ m. drop m bs) (omega (arith, mul-suc w i))))) in
      ap (λ y. y ∷ xs) first ∙ ap (λ ys. g bs ∷ ys) rest

  -- each is read from a chunk of its own
  pub cut_chunks : ((b : List ℕ) → g (take w b) ≡ g b) → (n : ℕ) (bs : List ℕ) → map g (first_chunks w n bs) ≡ cut g w n bs
  cut_chunks e zero bs = refl
  cut_chunks e (suc n) bs = ap (λ x. x ∷ map g (first_chunks w n (drop w bs))) (e bs) ∙ ap (λ xs. g bs ∷ xs) (cut_chunks e n (drop w bs))

-- things that are written one after another
module _ {X : Type 0} (f : X → List ℕ) (w : ℕ) (wide : (x : X) → length (f x) ≡ w) where
  pub length_joined : (xs : List X) → length (flat_map f xs) ≡ w * length xs
  length_joined [] = omega arith
  length_joined (x ∷ xs) = simp length-append (omega (arith, wide x, length_joined xs, mul-add w (length xs) 1))

  pub cut_joined : (g : List ℕ → X) (P : X → Type 0) → ((x : X) (r : List ℕ) → P x → g (f x ++ r) ≡ x) → (xs : List X) (r : List ℕ) → AllByRecursion P xs → cut g w (length xs) (flat_map f xs ++ r) ≡ xs
  cut_joined g P back [] r a = refl
  cut_joined g P back (x ∷ xs) r a =
      let e : (f x ++ flat_map f xs) ++ r ≡ f x ++ (flat_map f xs ++ r) = append_assoc (f x) (flat_map f xs) r in
      let d : drop w (f x ++ (flat_map f xs ++ r)) ≡ flat_map f xs ++ r = drop_at (f x) _ w (wide x) in
      rw (e, d, back x (flat_map f xs ++ r) a.0, cut_joined g P back xs r a.1)
