use Rattle.std.proofs.Common.{◌≡◌, rules, tests, eqb, length, ◌∙◌, arith}
use Rattle.std.proofs.lemmas.Bool.{cases_from_iff}
use Rattle.std.proofs.lemmas.Iterator.{YieldsList-from_range}
use Rattle.std.proofs.lemmas.Iterator.Search.{all_from_yields_List}
use Rattle.book.specs.Books.{blank_kept}
use Rattle.book.proofs.Blanks.{all_below, blank-true, true-blank}
use Rattle.book.proofs.blank.is_blank.Goals as goal

pub returns : goal.returns
returns g c =
    let s = g.B.BookView.kept c.args.book.now in
    let outside = g.met.B.BookView.outside c.args.book.now in
    let value : c.all.result ≡ blank_kept s =
    all_from_yields_List (λ k. eqb (length (s.lists k)) 0) _ _ _ c.all.ensures.ran (YieldsList-from_range 0 s.keys s.keys (cc) (omega arith)) (λ x b q k. search (rules, tests))
    ∙ all_below s.lists s.keys in
    record {
      rule = rw value (cases_from_iff (blank-true s outside, true-blank s outside));
      value = value;
    }
