-- What a list of two versions shows at three bounds.
use Rattle.std.specs.Prelude.{ℕ, ◌-◌, List, [], ◌∷◌, replicate, Some, None, Option}
use Rattle.clocks.specs.Clocks.{tower_limit}
use Rattle.clocks.specs.declared.Clock.{Clock}
use Rattle.clocks.specs.declared.Version.{Version}
use Rattle.book.specs.Newest.{LastWithin}

-- the clock whose first two entries are given, and whose others are 0
abbrev pub two_entries : ℕ → ℕ → Clock
two_entries a b = record { entries = a ∷ b ∷ replicate (tower_limit - 2) 0 }

-- the value 5, number 1 of origin 0
abbrev pub older : Version
older = record { writer = 0; origin = 0; number = 1; content = record { value = 5 } }

-- the value 6, number 1 of origin 1
abbrev pub newer : Version
newer = record { writer = 1; origin = 1; number = 1; content = record { value = 6 } }

abbrev pub example_list : List Version
example_list = older ∷ newer ∷ []

abbrev pub NewestExamples : Type 0
NewestExamples =
    LastWithin (two_entries 1 0) example_list (Some older) × LastWithin (two_entries 1 1) example_list (Some newer)
    × LastWithin (two_entries 0 0) example_list None

abbrev pub example_answers : List (Option Version)
example_answers = Some older ∷ Some newer ∷ None ∷ []
