use Rattle.std.proofs.Common.{of_calls, rules, refl, ◌∙◌}
use Rattle.std.proofs.lemmas.Fn.{says_at}
use Rattle.std.proofs.lemmas.Iterator.{YieldsList-from_slice}
use Rattle.std.proofs.lemmas.Iterator.Search.{position_from_yields_List}
use Rattle.std.proofs.lemmas.Iterator.Adapters.{position_from-zero}
use Rattle.tray.proofs.tray.impls.first_passing.Goals as goal

pub returns : goal.returns
returns g c keeps computes =
    position_from_yields_List keeps _ _ _ c.position.ensures.ran (YieldsList-from_slice c.args.items.now cc) (λ x b q k. (search rules, computes x.now b (says_at g.F.Fn {y = x} (search of_calls) refl)))
    ∙ position_from-zero keeps c.args.items.now
