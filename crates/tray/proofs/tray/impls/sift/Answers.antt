use Rattle.std.proofs.Common.{◌<◌, true, false, length, refl, sym, arith}
use Rattle.std.proofs.lemmas.Fn.{says_at}
use Rattle.std.proofs.lemmas.List.Filters.{FiltersInPlace-more_set, FiltersInPlace-more_no}
use Rattle.tray.proofs.tray.impls.sift.Goals as goal
use Rattle.tray.proofs.tray.impls.sift.Goals.{then-rule, else-rule}

pub loop-i-preserved : goal.loop-i-preserved
loop-i-preserved g c =
    let h : c.loop-i.i < length c.loop-i.items = omega arith in
    elim c.if-rule.branch [
      | then-rule w ↦ simp (w.items-is, w.passed-is) (omega arith, λ keeps computes. FiltersInPlace-more_set (c.loop-i.invariant.1 keeps computes) h (sym (computes _ true (says_at g.F.Fn w.if-rule.ensures refl))) c.index-items-i.is)
      | else-rule w ↦ simp (w.items-is, w.passed-is) (omega arith, λ keeps computes. FiltersInPlace-more_no (c.loop-i.invariant.1 keeps computes) h (sym (computes _ false (says_at g.F.Fn w.if-rule.ensures refl))) c.index-items-i.is)
    ]
