-- The transactions placed, the newest first: whom a clock has within it, and what they wrote. Assumes nothing.
use Rattle.std.proofs.Common.{◌≡◌, ℕ, ◌≤◌, Bool, cond, eqb, leb, List, [], ◌∷◌, ◌++◌}
use Rattle.clocks.specs.declared.Version.{Version}
use Rattle.laws.specs.Lists.{In, tally}
use Rattle.laws.specs.Net.{Clock, Placement, written}

-- the transaction is within the clock
abbrev pub Seen : Placement → Clock → Type 0
Seen T c = T.number ≤ c T.origin

abbrev pub seen : Placement → Clock → Bool
seen T c = leb T.number (c T.origin)

abbrev pub wrote : Placement → ℕ → List Version
wrote T k = written T.tx T.origin T.number T.drafts k

-- every version of k, the oldest first
abbrev pub versions : List Placement → ℕ → List Version
versions [] k = []
versions (T ∷ P) k = versions P k ++ wrote T k

-- those that a tower with this clock has taken in
abbrev pub taken : Clock → List Placement → ℕ → List Version
taken c [] k = []
taken c (T ∷ P) k = taken c P k ++ cond (seen T c) (wrote T k) []

-- how many are placed from this tower
abbrev pub count : List Placement → Clock
count P j = tally (λ T. eqb T.origin j) P

-- who is placed with this number
abbrev pub IsPlaced : List Placement → ℕ → ℕ → ℕ → Type 0
IsPlaced P o w n = (E : Placement) × In E P × (E.tx ≡ w) × (E.origin ≡ o) × (E.number ≡ n)
