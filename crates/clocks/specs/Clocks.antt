-- Clocks and bounds, as lists of any length.
use Rattle.std.specs.Prelude.{ℕ, ◌<◌, ◌≤◌, Bool, true, ◌&&◌, List, [], ◌∷◌, length, drop, nat_le, nat_lt, slice_index}

-- the most towers of a net, and the number of entries of a clock
abbrev pub tower_limit : ℕ
tower_limit = 8

-- no entry of the clock is smaller than that of the bound; an entry that a list lacks is 0
abbrev pub Covers : List ℕ → List ℕ → Type 0
Covers clock bound = (j : ℕ) → slice_index bound j ≤ slice_index clock j

-- the same as a test
abbrev pub covers : List ℕ → List ℕ → Bool
covers clock [] = true
covers clock (b ∷ bs) = nat_le b (slice_index clock 0) && covers (drop 1 clock) bs

-- the transaction that has this number at its origin is within the bound; an origin that has no entry is outside
abbrev pub Within : ℕ → ℕ → List ℕ → Type 0
Within origin number bound = (origin < length bound) × (number ≤ slice_index bound origin)

-- the same as a test
abbrev pub within : ℕ → ℕ → List ℕ → Bool
within origin number bound = nat_lt origin (length bound) && nat_le number (slice_index bound origin)

abbrev pub ClockExamples : Type 0
ClockExamples =
    Covers (2 ∷ 1 ∷ []) (2 ∷ 0 ∷ []) × (Covers (2 ∷ 1 ∷ []) (0 ∷ 2 ∷ []) → ⊥)
    × Within 1 3 (0 ∷ 3 ∷ []) × (Within 1 3 (0 ∷ 2 ∷ []) → ⊥)
