use Rattle.std.proofs.Common.{Err, arith}
use Rattle.script.specs.Lines.{Means, meant}
use Rattle.script.proofs.Faulty.{not_called, read_line, too_long_lem}
use Rattle.script.proofs.Once.{one_meaning}
use Rattle.script.proofs.Texts.{read_back, spelled}
use Rattle.script.proofs.parse_line.Goals as goal

pub returns-then-line-gt-TEXT_LIMIT : goal.returns-then-line-gt-TEXT_LIMIT
returns-then-line-gt-TEXT_LIMIT c =
    let it : Means c.args.line.now (Err c.into.result) = too_long_lem _ _ (omega arith) c.into.ensures in
    record { means = it; only = λ q h. one_meaning _ h it; spelled = spelled _ it; back = read_back _ it }

pub returns-in_default : goal.returns-in_default
returns-in_default c =
    let it : Means c.args.line.now (Err c.into-in_default.result) = not_called _ (omega arith) _ c.new-fields.ensures _ c.into-in_default.ensures c.in_default.ensures in
    record { means = it; only = λ q h. one_meaning _ h it; spelled = spelled _ it; back = read_back _ it }

pub returns : goal.returns
returns c =
    let it : Means c.args.line.now (meant c.command.result) = read_line _ (omega arith) _ c.new-fields.ensures _ c.in-Some.verb _ c.in-Some.ensures c.command.ensures in
    record { means = it; only = λ q h. one_meaning _ h it; spelled = spelled _ it; back = read_back _ it }
