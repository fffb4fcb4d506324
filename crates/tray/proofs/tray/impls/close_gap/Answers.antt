use Rattle.tray.proofs.Front.{gap_closed}
use Rattle.tray.proofs.tray.impls.close_gap.Goals as goal

pub returns : goal.returns
returns g c = gap_closed c.args.items.now _ c.args.i c.args.n c.requires.inside c.requires.end c.copy_within.ensures.after
