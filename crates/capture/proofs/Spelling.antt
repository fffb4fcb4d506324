-- A text that is read two digits at a time.
use Rattle.std.proofs.Common.{◌≡◌, ℕ, zero, suc, ◌+◌, ◌*◌, ◌%◌, ◌<◌, ◌≤◌, List, [], ◌∷◌, ◌++◌, length, get_or, drop, Some, None, Option, sym, refl, ap, ◌∙◌, append_assoc, append-nil, arith}
use Rattle.std.specs.Option.{option_map}
use Rattle.std.specs.Simd.{first_chunks}
use Rattle.std.proofs.lemmas.List.{drop_more, drop_all}
use Rattle.capture.specs.Hex.{digit_of, pair_of, join_to, spelled}

-- what was read so far, and the rest
abbrev pub after : List ℕ → Option (List ℕ) → Option (List ℕ)
after xs o = option_map (λ ys. xs ++ ys) o

join-none : (b : Option ℕ) → join_to b None ≡ None
join-none None = refl
join-none (Some b) = refl

after_one : (xs : List ℕ) (b : ℕ) (o : Option (List ℕ)) → after (xs ++ b ∷ []) o ≡ after xs (join_to (Some b) o)
after_one xs b None = refl
after_one xs b (Some ys) = ap (λ q. Some q) (append_assoc xs (b ∷ []) ys)

-- a text of odd length spells nothing
pub odd : (text : List ℕ) → (length text % 2 ≡ 0 → ⊥) → spelled text ≡ None
odd [] h = absurd (h refl)
odd (c ∷ []) h = refl
odd (high ∷ low ∷ rest) h =
    ap (join_to (pair_of (digit_of high) (digit_of low))) (odd rest (λ e. h (omega (arith, e))))
    ∙ join-none (pair_of (digit_of high) (digit_of low))

-- the byte that a pair of characters spells, and the bytes of a list of pairs
abbrev pub byte_of : List ℕ → Option ℕ
byte_of p = pair_of (digit_of (get_or p 0 0)) (digit_of (get_or p 1 0))

abbrev pub paired : List (List ℕ) → Option (List ℕ)
paired [] = Some []
paired (p ∷ ps) = join_to (byte_of p) (paired ps)

-- a text of even length is read pair by pair
pub by_pairs : (text : List ℕ) (n : ℕ) → length text ≡ 2 * n → paired (first_chunks 2 n text) ≡ spelled text
by_pairs [] zero h = refl
by_pairs [] (suc n) h = absurd (let w : ⊥ = omega arith in w)
by_pairs (c ∷ text) zero h = absurd (let w : ⊥ = omega arith in w)
by_pairs (c ∷ []) (suc n) h = absurd (let w : ⊥ = omega arith in w)
by_pairs (high ∷ low ∷ rest) (suc n) h = ap (join_to (pair_of (digit_of high) (digit_of low))) (by_pairs rest n (omega arith))

module _ (pairs : List (List ℕ)) (i : ℕ) (inside : i < length pairs) where
  -- the next pair
  next : paired (drop i pairs) ≡ join_to (byte_of (get_or pairs i [])) (paired (drop (i + 1) pairs))
  next = ap paired (drop_more pairs i [] inside)

  pub one_more : (xs : List ℕ) (b : ℕ) → Some b ≡ byte_of (get_or pairs i []) → after xs (paired (drop i pairs)) ≡ paired pairs → after (xs ++ b ∷ []) (paired (drop (i + 1) pairs)) ≡ paired pairs
  one_more xs b e inv =
      let rest : Option (List ℕ) = paired (drop (i + 1) pairs) in
      after_one xs b rest ∙ ap (λ o. after xs (join_to o rest)) e ∙ ap (after xs) (sym next) ∙ inv

  pub no_more : (xs : List ℕ) → None ≡ byte_of (get_or pairs i []) → after xs (paired (drop i pairs)) ≡ paired pairs → None ≡ paired pairs
  no_more xs e inv = ap (λ o. after xs (join_to o (paired (drop (i + 1) pairs)))) e ∙ ap (after xs) (sym next) ∙ inv

pub all_read : (pairs : List (List ℕ)) (i : ℕ) (xs : List ℕ) → length pairs ≤ i → after xs (paired (drop i pairs)) ≡ paired pairs → Some xs ≡ paired pairs
all_read pairs i xs h inv = ap (λ q. Some q) (sym (append-nil xs)) ∙ ap (λ r. after xs (paired r)) (sym (drop_all i pairs h)) ∙ inv
