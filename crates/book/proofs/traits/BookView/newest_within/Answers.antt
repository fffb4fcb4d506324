use Rattle.std.proofs.Common.{sym, subst}
use Rattle.book.specs.Newest.{LastWithin}
use Rattle.book.proofs.Lasts.{newest_last}
use Rattle.book.proofs.traits.BookView.newest_within.Goals as goal

pub returns-clause-last : goal.returns-clause-last
returns-clause-last g c =
    let vs = (g.Self.BookView.kept c.args.self.now).lists c.args.key in
    subst (LastWithin c.args.bound.now vs) (sym c.list_newest.ensures) (newest_last c.args.bound.now vs)
