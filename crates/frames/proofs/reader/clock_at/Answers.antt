use Rattle.std.proofs.Common.{◌≡◌, ℕ, zero, suc, ◌+◌, ◌-◌, ◌*◌, ◌<◌, List, length, get_or, take, drop, rules, ap, sym, ◌∙◌, arith, subst}
use denote.Param.Members.{Mut, Called}
use Rattle.std.specs.Array.{IsFromFnResultFrom}
use Rattle.std.proofs.lemmas.List.{take_rest}
use Rattle.clocks.specs.Clocks.{tower_limit}
use Rattle.frames.specs.Sizes.{entry_size}
use Rattle.frames.specs.Bytes.{word_at}
use Rattle.frames.proofs.Cuts.{cut_at}
use Rattle.frames.proofs.reader.clock_at.Goals as goal

-- what stands at a place of an array that a pure function of the place filled
filled : {F : Type 0} (g : Mut F (ℕ × Unit {0}) ℕ) (f : F) (h : ℕ → ℕ) → ((k y : ℕ) (q : F) → Called g f (k, tt) y q → (q ≡ f) × (y ≡ h k)) → (ys : List ℕ) (i n : ℕ) → IsFromFnResultFrom g f ys i n → (j k : ℕ) → j < n → k ≡ i + j → get_or ys k 0 ≡ h k
filled g f h pure ys i zero e j k l s = absurd (let w : ⊥ = omega arith in w)
filled g f h pure ys i (suc n) (q, y, is, call, rest) zero k l s =
    let e : k ≡ i = omega arith in
    ap (λ m. get_or ys m 0) e ∙ is.1 0 ∙ (pure i y q call).1 ∙ ap h (sym e)
filled {F} g f h pure ys i (suc n) (q, y, is, call, rest) (suc j) k l s =
    let P : F → Type 0 = λ p. IsFromFnResultFrom g p ys (i + 1) n in
    filled g f h pure ys (i + 1) n (subst P (pure i y q call).0 rest) j k (omega arith) (omega arith)

pub returns : goal.returns
returns c =
    let b : List ℕ = c.args.bytes.now in
    cut_at (λ r. word_at r 0) entry_size tower_limit b c.from_fn.result 0 c.from_fn.ensures.items.long
    (λ i h. filled _ _ (λ k. word_at (take (length b - entry_size * k) (drop (entry_size * k) b)) 0) (λ k y q e. search rules) c.from_fn.result 0 8 c.from_fn.ensures.items.each i i h (omega arith)
    ∙ ap (λ r. word_at r 0) (take_rest b (entry_size * i)))
