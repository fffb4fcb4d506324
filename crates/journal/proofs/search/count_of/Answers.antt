use Rattle.std.proofs.Common.{length, ap, ◌∙◌, arith}
use Rattle.std.proofs.lemmas.List.{length_push}
use Rattle.journal.proofs.Listed.{list_more_yes, list_more_no, list_all}
use Rattle.journal.proofs.search.count_of.Goals as goal
use Rattle.journal.proofs.search.count_of.Goals.{then-r-key, else-r-key}

pub loop-r-preserved : goal.loop-r-preserved
loop-r-preserved c = elim c.if-r-key.branch [
  | then-r-key w ↦ let e = ap length (list_more_yes _ _ _ _ c.loop-r-test.true w.if-r-key.true) ∙ length_push _ _ in (omega (arith, e, w.n-is), omega (arith, w.n-is))
  | else-r-key w ↦ let e = ap length (list_more_no _ _ _ _ c.loop-r-test.true w.if-r-key.false) in (omega (arith, e, w.n-is), omega (arith, w.n-is))
]

pub returns : goal.returns
returns c = c.loop-r.invariant.0 ∙ ap length (list_all _ _ _ c.loop-r-test.false)
