-- What a list of versions shows at a bound.
use Rattle.std.specs.Prelude.{◌≡◌, Bool, cond, List, ◌∷◌, ◌++◌, Some, None, fold, Option}
use Rattle.std.specs.List.{AllByRecursion}
use Rattle.clocks.specs.Clocks.{Within, within}
use Rattle.clocks.specs.declared.Clock.{Clock}
use Rattle.clocks.specs.declared.Version.{Version}

-- the version is within the bound
abbrev pub Inside : Clock → Version → Type 0
Inside b v = Within v.origin v.number b.entries

-- the same as a test
abbrev pub inside : Clock → Version → Bool
inside b v = within v.origin v.number b.entries

-- the last version of the list that is within the bound, if there is one
abbrev pub newest : Clock → List Version → Option Version
newest b vs = fold (λ best v. cond (inside b v) (Some v) best) None vs

-- the same as a relation: all that comes after the version is outside the bound, and where there is none, all is
-- (`AllByRecursion` and not the library's `All`, since the lemmas go by recursion on the list)
abbrev pub LastWithin : Clock → List Version → Option Version → Type 0
LastWithin b vs (Some v) = (before : List Version) × (after : List Version) × (vs ≡ before ++ (v ∷ after)) × Inside b v × AllByRecursion (λ w. Inside b w → ⊥) after
LastWithin b vs None = AllByRecursion (λ w. Inside b w → ⊥) vs
