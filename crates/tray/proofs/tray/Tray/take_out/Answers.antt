use Rattle.std.proofs.Common.{sym, arith}
use Rattle.std.proofs.lemmas.Option.{slice_get_within}
use Rattle.tray.specs.Contents.{contents}
use Rattle.tray.proofs.Facts.{none-removed}
use Rattle.tray.proofs.tray.Tray.take_out.Goals as goal

pub returns-in_err-x-clause-after : goal.returns-in_err-x-clause-after
returns-in_err-x-clause-after g c = none-removed _ _ (sym c.in_err-x.ensures)

pub close_gap-requires-clause-inside : goal.close_gap-requires-clause-inside
close_gap-requires-clause-inside g c =
    let h = slice_get_within (contents c.args.self.now) c.args.i c.in_ok-x.x (sym c.in_ok-x.ensures) in
    omega arith
