-- Lists and maps, as the protocol needs them. The library has words for some of them (`count_by`, `Contains`, `remove`, `update`)
-- with other clauses; the proofs compute by the clauses that stand here.
use Rattle.std.specs.Prelude.{◌≡◌, ℕ, zero, suc, ◌+◌, Bool, cond, ◌⊎◌, List, [], ◌∷◌, Some, None, Option, ◌==◌}
use Rattle.std.specs.Option.{option_or}

-- a map, changed at one place
unfoldable pub put : {A : Type 0} → (ℕ → A) → ℕ → A → ℕ → A
put f i a j = cond (i == j) a (f j)

-- x is among the elements
abbrev pub In : {A : Type 0} → A → List A → Type 0
In x [] = ⊥
In x (y ∷ ys) = (x ≡ y) ⊎ In x ys

-- x is the element at the place i
abbrev pub At : {A : Type 0} → List A → ℕ → A → Type 0
At [] i x = ⊥
At (y ∷ ys) zero x = x ≡ y
At (y ∷ ys) (suc i) x = At ys i x

-- the list without the element at the place i
abbrev pub without : {A : Type 0} → List A → ℕ → List A
without [] i = []
without (y ∷ ys) zero = ys
without (y ∷ ys) (suc i) = y ∷ without ys i

-- how many elements pass
abbrev pub tally : {A : Type 0} → (A → Bool) → List A → ℕ
tally p [] = 0
tally p (x ∷ xs) = cond (p x) 1 0 + tally p xs

-- the last element that passes
abbrev pub last_of : {A : Type 0} → (A → Bool) → List A → Option A
last_of p [] = None
last_of p (x ∷ xs) = option_or (last_of p xs) (cond (p x) (Some x) None)
