use Rattle.std.proofs.Common.{rules, ◌<◌, ◌≤◌}
use Rattle.std.specs.Char.{digit_value}
use Rattle.std.proofs.lemmas.Iterator.{YieldsList-from_slice, cases_from_all}
use Rattle.words.proofs.Numbers.{digits_decided}
use Rattle.words.proofs.all_digits.Goals as goal

pub returns : goal.returns
returns c =
    digits_decided c.all.result c.args.row.now
    (cases_from_all _ _ _ (λ b. digit_value b < 10) (λ b. 10 ≤ digit_value b) c.all.ensures.ran (YieldsList-from_slice c.args.row.now cc) (λ x q k. search rules) (λ x q k. search rules))
