-- What the rules of a message say, one by one.
use Rattle.std.proofs.Common.{◌≡◌, ℕ, ◌-◌, ◌<◌, ◌≤◌, true, ◌&&◌, eqb, ltb, leb, List, [], ◌∷◌, ◌++◌, length, drop, replicate, sym, refl, ap, ◌∙◌, arith}
use Rattle.std.proofs.lemmas.List.{take-append-drop, length-take-le, length-drop}
use Rattle.std.proofs.lemmas.Bool.{and_parts, ltb-true, leb-true, eqb-true}
use Rattle.clocks.specs.Clocks.{tower_limit}
use Rattle.messages.specs.Limits.{line_limit, transaction_limit}
use Rattle.messages.specs.Drafting.{counted, blank, Neat}
use Rattle.messages.specs.Rules.{is_blank, all_blank, fit_drafts, fit_body, valid}
use Rattle.messages.specs.declared.Draft.{Draft}
use Rattle.messages.specs.declared.Drafts.{Drafts}
use Rattle.messages.specs.declared.Message.{Message}
use Rattle.messages.proofs.Listing.{drafts_made}

is_blank_lem : (d : Draft) → is_blank d ≡ true → d ≡ blank
is_blank_lem d h =
    let p = and_parts (eqb d.key 0) (eqb d.content.value 0) h in
    let key : d.key ≡ 0 = eqb-true d.key 0 p.0 in
    let value : d.content.value ≡ 0 = eqb-true d.content.value 0 p.1 in
    ap (λ (k : ℕ). let r : Draft = record { key = k; content = d.content } in r) key
    ∙ ap (λ (v : ℕ). let r : Draft = record { key = 0; content = record { value = v } } in r) value

all_blank_lem : (ds : List Draft) → all_blank ds ≡ true → ds ≡ replicate (length ds) blank
all_blank_lem [] h = refl
all_blank_lem (d ∷ ds) h =
    let p = and_parts (is_blank d) (all_blank ds) h in
    ap (λ x. x ∷ ds) (is_blank_lem d p.0) ∙ ap (λ xs. blank ∷ xs) (all_blank_lem ds p.1)

module _ (d : Drafts) (fit : fit_drafts d ≡ true) (places : length d.items ≡ line_limit) where
  pub few : d.len ≤ line_limit
  few = leb-true d.len line_limit (and_parts (leb d.len line_limit) (all_blank (drop d.len d.items)) fit).0

  pub count_is : length (counted d) ≡ d.len
  count_is = length-take-le d.len d.items (omega (arith, few))

  pub neat : Neat d
  neat =
      let rest : List Draft = drop d.len d.items in
      let n : length rest ≡ line_limit - length (counted d) = simp length-drop (omega (arith, count_is)) in
      let blanks : rest ≡ replicate (line_limit - length (counted d)) blank =
      all_blank_lem rest (and_parts (leb d.len line_limit) (all_blank rest) fit).1 ∙ ap (λ k. replicate k blank) n in
      drafts_made d.items d.len (counted d) (sym (take-append-drop d.len d.items) ∙ ap (λ q. counted d ++ q) blanks) (sym count_is)

pub record Rules (m : Message) : Type 0 where
  pub tx : m.tx < transaction_limit
  pub body : fit_body m.body ≡ true

pub rules_of : (m : Message) → valid m ≡ true → Rules m
unfolding valid
rules_of m h =
    let a = and_parts (ltb m.sender tower_limit) (ltb m.receiver tower_limit && (ltb m.tx transaction_limit && fit_body m.body)) h in
    let b = and_parts (ltb m.receiver tower_limit) (ltb m.tx transaction_limit && fit_body m.body) a.1 in
    let c = and_parts (ltb m.tx transaction_limit) (fit_body m.body) b.1 in
    record { tx = ltb-true m.tx transaction_limit c.0; body = c.1 }
