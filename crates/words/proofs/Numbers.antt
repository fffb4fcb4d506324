-- What a row of digits writes.
use Rattle.std.proofs.Common.{◌≡◌, ℕ, zero, suc, ◌^◌, ◌<◌, ◌≤◌, List, [], ◌∷◌, length, get_or, Bool, true, false, Decides, decimal, sym, refl, ap, ◌∙◌, subst, arith}
use Rattle.std.specs.Bool.{MatchBool}
use Rattle.std.specs.Char.{digit_value}
use Rattle.std.specs.List.{AllWithin, HoldsAt}
use Rattle.std.specs.Str.Parse.{AllDigits, digits_value}
use Rattle.std.proofs.lemmas.Str.Parse.{IsNumeralModel, numerals_by_value, tells_digits}
use Rattle.std.proofs.lemmas.Fmt.{digits_decimal, digits_value-decimal, decimal-digits_value, decimal_nonempty, first_decimal, decimal_digit}
use Rattle.words.specs.Words.{NoNumber}

pub own : IsNumeralModel (AllDigits 10) (digits_value 10)
own = numerals_by_value (AllDigits 10) tells_digits

digit_value_at : (bs : List ℕ) (i : ℕ) → AllDigits 10 bs → i < length bs → digit_value (get_or bs i 0) < 10
digit_value_at (b ∷ bs) zero d h = d.0
digit_value_at (b ∷ bs) (suc i) d h = digit_value_at bs i d.1 (omega arith)
digit_value_at [] i d h = absurd (omega arith)

pub no_digit : (bs : List ℕ) (i : ℕ) → i < length bs → 10 ≤ digit_value (get_or bs i 0) → AllDigits 10 bs → ⊥
no_digit bs i h big d = omega (arith, digit_value_at bs i d h)

digits_from_each : (bs : List ℕ) → AllWithin (λ b. digit_value b < 10) bs 0 (length bs) → AllDigits 10 bs
digits_from_each [] each = tt
digits_from_each (b ∷ bs) each = (each 0 0 (omega arith) (omega arith), digits_from_each bs (λ k d l h. each (suc k) d (omega arith) (omega arith)))

-- a row was searched for a byte that is no digit
pub digits_decided : (r : Bool) (bs : List ℕ) → MatchBool r (AllWithin (λ b. digit_value b < 10) bs 0 (length bs)) ((k : ℕ) × (k < length bs) × HoldsAt (λ b. 10 ≤ digit_value b) bs k) → Decides r (AllDigits 10 bs)
digits_decided true bs each = (λ _. digits_from_each bs each, λ _. refl)
digits_decided false bs found = (λ e. cc, λ d. absurd (no_digit bs found.0 found.1 (found.2 0) d))

-- a numeral: digits, at least one, and a leading zero only alone
pub record Plain (bs : List ℕ) : Type 0 where
  pub some : 0 < length bs
  pub lead : get_or bs 0 0 ≡ 48 → length bs ≡ 1

pub plain_decimal : (n : ℕ) → n < 2 ^ 32 → Plain (decimal n)
plain_decimal zero h = record { some = decimal_nonempty 0 (omega arith); lead = λ _. ap length (decimal_digit 0 (omega arith)) }
plain_decimal (suc n) h = record { some = decimal_nonempty (suc n) (omega arith); lead = λ e. absurd (omega (arith, first_decimal (suc n) (omega arith) (omega arith))) }

not_plain : (bs : List ℕ) → (Plain bs → ⊥) → NoNumber bs
not_plain bs never n h e = never (subst Plain (sym e) (plain_decimal n h))

pub none_at_empty : (bs : List ℕ) → length bs < 1 → NoNumber bs
none_at_empty bs h = not_plain bs (λ p. omega (arith, p.some))

pub none_at_zero : (bs : List ℕ) → 2 ≤ length bs → get_or bs 0 0 ≡ 48 → NoNumber bs
none_at_zero bs h z = not_plain bs (λ p. omega (arith, p.lead z))

pub number-none : (bs : List ℕ) → (AllDigits 10 bs → digits_value 10 bs < 2 ^ 32 → ⊥) → NoNumber bs
number-none bs never n h e =
    never (subst (AllDigits 10) (sym e) (digits_decimal own n (omega arith)))
    (let v : digits_value 10 bs ≡ n = ap (digits_value 10) e ∙ digits_value-decimal own n (omega arith) in omega arith)

pub number-some : (bs : List ℕ) (n : ℕ) → n < 2 ^ 32 → Plain bs → AllDigits 10 bs → n ≡ digits_value 10 bs → bs ≡ decimal n
number-some bs n h p d e = sym (ap decimal e ∙ decimal-digits_value own bs d p.some p.lead (omega arith))
