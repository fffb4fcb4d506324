-- Lists of drafts.
use Rattle.std.proofs.Common.{◌≡◌, ℕ, ◌+◌, ◌-◌, ◌<◌, List, [], ◌∷◌, ◌++◌, length, take, set, replicate, Ok, Err, Result, sym, refl, ap, ◌∙◌, append_assoc, add-one, arith}
use Rattle.std.proofs.lemmas.List.{take_at, length-take, length_push, set_at, take_more_set}
use Rattle.messages.specs.Limits.{line_limit}
use Rattle.messages.specs.Drafting.{counted, blank, drafts_of, Neat, Pushed}
use Rattle.faults.specs.declared.Fault.{Fault}
use Rattle.messages.specs.declared.Draft.{Draft}
use Rattle.messages.specs.declared.Drafts.{Drafts}

pub drafts_made : (items : List Draft) (n : ℕ) (ds : List Draft) → items ≡ ds ++ replicate (line_limit - length ds) blank → n ≡ length ds → let r : Drafts = record { items = items; len = n } in r ≡ drafts_of ds
drafts_made items n ds e l =
    ap (λ (xs : List Draft). let r : Drafts = record { items = xs; len = n } in r) e
    ∙ ap (λ (k : ℕ). let r : Drafts = record { items = ds ++ replicate (line_limit - length ds) blank; len = k } in r) l

-- one draft more in the first place that holds none
module _ (s : Drafts) (d : Draft) (n : ℕ) (same : n ≡ length (counted s)) (less : n < line_limit) (places : length s.items ≡ line_limit) where
  pub push_counted : take (n + 1) (set s.items n d) ≡ counted s ++ d ∷ []
  push_counted =
      let len : n ≡ s.len = omega (arith, length-take s.len s.items) in
      take_more_set s.items n d (omega arith) ∙ ap (λ k. take k s.items ++ d ∷ []) len

  more-blank : replicate (line_limit - n) blank ≡ blank ∷ replicate (line_limit - (n + 1)) blank
  more-blank = let e : line_limit - n ≡ (line_limit - (n + 1)) + 1 = omega arith in ap (λ k. replicate k blank) (e ∙ add-one (line_limit - (n + 1)))

  pub push_neat : Neat s → let t : Drafts = record { items = set s.items n d; len = n + 1 } in Neat t
  push_neat neat =
      let cs : List Draft = counted s in
      let rest : List Draft = replicate (line_limit - (n + 1)) blank in
      let items : s.items ≡ cs ++ replicate (line_limit - n) blank = ap (λ (x : Drafts). x.items) neat ∙ ap (λ k. cs ++ replicate (line_limit - k) blank) (sym same) in
      let put : set s.items n d ≡ cs ++ d ∷ rest =
      ap (λ xs. set xs n d) (items ∙ ap (λ q. cs ++ q) more-blank) ∙ set_at cs blank rest d n (sym same) in
      let long : length (cs ++ d ∷ []) ≡ n + 1 = omega (arith, length_push cs d) in
      let whole : set s.items n d ≡ (cs ++ d ∷ []) ++ replicate (line_limit - length (cs ++ d ∷ [])) blank =
      put ∙ sym (append_assoc cs (d ∷ []) rest) ∙ ap (λ k. (cs ++ d ∷ []) ++ replicate (line_limit - k) blank) (sym long) in
      drafts_made (set s.items n d) (n + 1) (cs ++ d ∷ []) whole (sym long) ∙ ap drafts_of (sym push_counted)

-- the drafts of a list, and a list with one draft more
pub counted_of : (ds : List Draft) → counted (drafts_of ds) ≡ ds
counted_of ds = take_at ds (replicate (line_limit - length ds) blank) (length ds) refl

pub pushed_on : (s t : Drafts) (d : Draft) (r : Result (Unit {0}) Fault) (ds : List Draft) → Pushed s d r t → s ≡ drafts_of ds → length ds < line_limit → t ≡ drafts_of (ds ++ d ∷ [])
pushed_on s t d (Ok u) ds p e h =
    let same : counted s ≡ ds = ap counted e ∙ counted_of ds in
    let tidy : Neat s = e ∙ ap drafts_of (sym same) in
    p.2 tidy ∙ ap drafts_of (p.1 ∙ ap (λ q. q ++ d ∷ []) same)
pushed_on s t d (Err f) ds p e h =
    let same : counted s ≡ ds = ap counted e ∙ counted_of ds in
    absurd (let w : ⊥ = omega (arith, p.0, ap length same) in w)
