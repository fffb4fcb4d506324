use Rattle.std.proofs.Common.{◌≡◌, rules, tests, reverse, sym, ◌∙◌, subst}
use Rattle.std.specs.List.{find}
use Rattle.std.specs.Option.{option_map}
use Rattle.std.proofs.lemmas.Iterator.Adapters.{YieldsList-from_rev_slice}
use Rattle.std.proofs.lemmas.Iterator.Search.{find_from_yields_List}
use Rattle.book.specs.Newest.{inside, newest, LastWithin}
use Rattle.book.proofs.Lasts.{newest_found, newest_last}
use Rattle.book.proofs.newest.newest_of.Goals as goal

pub returns : goal.returns
returns c =
    let b = c.args.bound.now in
    let vs = c.args.versions.now in
    let e : option_map (λ v. v.now) c.find.result ≡ find (inside b) (reverse vs) =
    find_from_yields_List (inside b) _ _ c.find.result c.find.ensures.ran (YieldsList-from_rev_slice vs (cc)) (λ x t q k. search (rules, tests)) in
    let m : c.copied.result ≡ option_map (λ v. v.now) c.find.result = search rules in
    let value : c.copied.result ≡ newest b vs = m ∙ e ∙ newest_found b vs in
    record { value = value; last = subst (LastWithin b vs) (sym value) (newest_last b vs) }
