use Rattle.std.proofs.Common.{sym, arith}
use Rattle.std.proofs.lemmas.List.{take_all}
use Rattle.messages.proofs.entries.front.Goals as goal

pub returns-else-n-items : goal.returns-else-n-items
returns-else-n-items g c = record { value = sym (take_all c.args.n c.args.items.now c.if-n-items.false); short = omega arith }
