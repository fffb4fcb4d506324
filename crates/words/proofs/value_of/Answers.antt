use Rattle.std.proofs.Common.{◌+◌, rules}
use Rattle.std.proofs.lemmas.Int.Digits.{digits_value_more, digits_more}
use Rattle.std.proofs.lemmas.Str.Parse.{digits_value-take-le}
use Rattle.std.proofs.lemmas.List.{take_all}
use Rattle.words.proofs.Numbers.{no_digit}
use Rattle.words.proofs.value_of.Goals as goal

pub returns-in_err-checked_mul : goal.returns-in_err-checked_mul
returns-in_err-checked_mul c = search (rules, digits_value_more, digits_value-take-le 10 c.args.ds.now (c.loop-c.c-index + 1))

pub returns-in_err-digit : goal.returns-in_err-digit
returns-in_err-digit c = search (rules, no_digit)

pub returns-in_err-n : goal.returns-in_err-n
returns-in_err-n c = search (rules, digits_value_more, digits_value-take-le 10 c.args.ds.now (c.loop-c.c-index + 1))

pub loop-c-preserved : goal.loop-c-preserved
loop-c-preserved c = search (rules, digits_value_more, digits_more)

pub returns : goal.returns
returns c = search (rules, take_all)
