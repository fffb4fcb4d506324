-- The test of covering decides the statement.
use Rattle.std.proofs.Common.{◌≡◌, ℕ, zero, suc, Bool, true, leb, List, [], ◌∷◌, get_or, drop, MatchBool, refl, one-add, arith}
use Rattle.std.proofs.lemmas.List.{get_or-drop}
use Rattle.std.proofs.lemmas.Bool.{and_parts, and_from, leb-true, le-leb}
use Rattle.clocks.specs.Clocks.{Covers, covers}
use Rattle.clocks.proofs.Tests.{when_value}

later : (c : List ℕ) (j : ℕ) → get_or (drop 1 c) j 0 ≡ get_or c (suc j) 0
later c j = rw (get_or-drop 1 c j 0, one-add j)

pub covers-true : (c b : List ℕ) → covers c b ≡ true → Covers c b
covers-true c [] e j = omega arith
covers-true c (x ∷ xs) e zero = leb-true x (get_or c 0 0) (and_parts (leb x (get_or c 0 0)) (covers (drop 1 c) xs) e).0
covers-true c (x ∷ xs) e (suc j) = omega (arith, later c j, covers-true (drop 1 c) xs (and_parts (leb x (get_or c 0 0)) (covers (drop 1 c) xs) e).1 j)

pub true-covers : (c b : List ℕ) → Covers c b → covers c b ≡ true
true-covers c [] h = refl
true-covers c (x ∷ xs) h =
    and_from (leb x (get_or c 0 0)) (covers (drop 1 c) xs)
    (le-leb x (get_or c 0 0) (h 0))
    (true-covers (drop 1 c) xs (λ j. omega (arith, later c j, h (suc j))))

-- what decides the statement is the test
pub covers-value : (r : Bool) (c b : List ℕ) → MatchBool r (Covers c b) (Covers c b → ⊥) → r ≡ covers c b
covers-value r c b h = when_value r (covers c b) (Covers c b) h (covers-true c b) (true-covers c b)
