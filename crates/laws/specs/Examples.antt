-- The examples that the definitions are read by.
use Rattle.std.specs.Prelude.{◌≡◌, ℕ, true, false, List, [], ◌∷◌, Some, None}
use Rattle.clocks.specs.Clocks.{Covers, Within}
use Rattle.clocks.specs.declared.Version.{Version}
use Rattle.laws.specs.Net.{granted, Message, newest_within, content_of}
use Rattle.laws.specs.Words.{message}
use Rattle.laws.specs.Faults.{ripe}
use Rattle.laws.specs.Further.{Always, BothGranted}
use Rattle.laws.specs.View.{clock_of}

-- two versions of a key: number 1 of origin 0, which says 5, and number 1 of origin 1, which says 6
abbrev pub two_versions : List Version
two_versions =
    record { writer = 0; origin = 0; number = 1; content = record { value = 5 } }
    ∷ record { writer = 1; origin = 1; number = 1; content = record { value = 6 } }
    ∷ []

-- a granted outcome of origin 0 with bound 1,0 and this number, to tower 1
abbrev pub outcome : ℕ → Message
outcome number = message 0 0 1 (clock_of (1 ∷ 0 ∷ [])) (granted number [])

pub record Examples : Type 0 where
  -- clock 2,1 covers 2,0 and does not cover 0,2
  pub covers : Covers (2 ∷ 1 ∷ []) (2 ∷ 0 ∷ [])
  pub covers_not : Covers (2 ∷ 1 ∷ []) (0 ∷ 2 ∷ []) → ⊥
  -- number 3 of origin 1 is within 0,3 and not within 0,2
  pub within : Within 1 3 (0 ∷ 3 ∷ [])
  pub within_not : Within 1 3 (0 ∷ 2 ∷ []) → ⊥
  -- a reader is shown 5 at bound 1,0, 6 at 1,1 and blank at 0,0
  pub shows_first : content_of (newest_within (clock_of (1 ∷ 0 ∷ [])) two_versions) ≡ Some (record { value = 5 })
  pub shows_second : content_of (newest_within (clock_of (1 ∷ 1 ∷ [])) two_versions) ≡ Some (record { value = 6 })
  pub shows_blank : content_of (newest_within (clock_of (0 ∷ 0 ∷ [])) two_versions) ≡ None
  -- at clock 1,0 the outcome is ripe as number 2 and early as number 3
  pub ripe_as_next : ripe 2 (clock_of (1 ∷ 0 ∷ [])) (outcome 2) ≡ true
  pub early_as_later : ripe 2 (clock_of (1 ∷ 0 ∷ [])) (outcome 3) ≡ false
  -- two transactions alone that draft a key each, not the same, are both granted
  pub both_granted : Always BothGranted
