-- The bytes of a number, low byte first, and the number that stands at a place of a list of bytes.
use Rattle.std.specs.Prelude.{ℕ, zero, suc, ◌+◌, ◌*◌, ◌/◌, ◌%◌, List, [], ◌∷◌, drop, slice_index}

abbrev pub le2 : ℕ → List ℕ
le2 v = (v % 256) ∷ (v / 256 % 256) ∷ []

abbrev pub le4 : ℕ → List ℕ
le4 v = (v % 256) ∷ (v / 256 % 256) ∷ (v / 65536 % 256) ∷ (v / 16777216 % 256) ∷ []

abbrev pub half_at : List ℕ → ℕ → ℕ
half_at bs i = slice_index bs i + slice_index bs (suc i) * 256

abbrev pub word_at : List ℕ → ℕ → ℕ
word_at bs i = slice_index bs i + slice_index bs (suc i) * 256 + slice_index bs (suc (suc i)) * 65536 + slice_index bs (suc (suc (suc i))) * 16777216

-- n things of w bytes each, one after another, read by g
abbrev pub cut : {X : Type 0} → (List ℕ → X) → ℕ → ℕ → List ℕ → List X
cut g w zero bs = []
cut g w (suc n) bs = g bs ∷ cut g w n (drop w bs)
