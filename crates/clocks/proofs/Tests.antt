-- A test and the statement that it decides.
use Rattle.std.proofs.Common.{◌≡◌, Bool, true, false, MatchBool, sym, refl}

-- two tests that decide one statement have one value
pub when_value : (r q : Bool) (P : Type 0) → MatchBool r P (P → ⊥) → (q ≡ true → P) → (P → q ≡ true) → r ≡ q
when_value true q P h f g = sym (g h)
when_value false true P h f g = absurd (h (f refl))
when_value false false P h f g = refl
