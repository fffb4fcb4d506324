use Rattle.std.proofs.Common.{arith}
use Rattle.tray.proofs.Front.{set_in}
use Rattle.tray.proofs.tray.Tray.set.Goals as goal

pub returns-then-i-used-clause-after : goal.returns-then-i-used-clause-after
returns-then-i-used-clause-after g c = set_in c.args.self.now.items.now c.args.self.now.len c.args.i c.args.x (omega arith)
