-- The examples. Assumes nothing.
use Rattle.std.proofs.Common.{◌≤◌, [], ◌∷◌, refl, arith}
use Rattle.clocks.proofs.Covering.{covers-true}
use Rattle.laws.specs.Examples.{Examples}
use Rattle.laws.proofs.Further.{both_granted}

pub examples : Examples
examples = record {
  covers = covers-true (2 ∷ 1 ∷ []) (2 ∷ 0 ∷ []) refl;
  covers_not = λ h. let l : 2 ≤ 1 = h 1 in omega (arith, l);
  within = (omega arith, omega arith);
  within_not = λ h. let l : 3 ≤ 2 = h.1 in omega (arith, l);
  shows_first = refl;
  shows_second = refl;
  shows_blank = refl;
  ripe_as_next = refl;
  early_as_later = refl;
  both_granted = both_granted;
}
