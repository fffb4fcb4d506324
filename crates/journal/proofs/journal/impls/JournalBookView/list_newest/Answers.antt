use Rattle.std.proofs.Common.{◌≡◌, rules, tests, ap, ◌∙◌, reverse}
use Rattle.std.specs.List.{find}
use Rattle.std.specs.Option.{option_map}
use Rattle.std.proofs.lemmas.Iterator.Adapters.{YieldsList-from_rev_slice}
use Rattle.std.proofs.lemmas.Iterator.Search.{find_from_yields_List}
use Rattle.tray.specs.Contents.{contents}
use Rattle.journal.proofs.Listed.{hit, newest_listed}
use Rattle.journal.proofs.journal.impls.JournalBookView.list_newest.Goals as goal

pub returns : goal.returns
returns c =
    let rs = contents c.args.self.now.records in
    let e : option_map (λ r. r.now) c.find-found.result ≡ find (hit c.args.bound.now c.args.key) (reverse rs) =
    find_from_yields_List (hit c.args.bound.now c.args.key) _ _ c.find-found.result c.find-found.ensures.ran (YieldsList-from_rev_slice rs (cc)) (λ x t q k. search (rules, tests)) in
    let m : c.map.result ≡ option_map (λ r. r.version) (option_map (λ r. r.now) c.find-found.result) = search rules in
    m ∙ ap (option_map (λ r. r.version)) e ∙ newest_listed c.args.bound.now c.args.key rs
