use Rattle.std.proofs.Common.{◌≡◌, length, sym, ap, ◌∙◌, arith}
use Rattle.std.proofs.lemmas.List.{length_push}
use Rattle.std.proofs.lemmas.Option.{slice_get_past}
use Rattle.journal.specs.Records.{list_of}
use Rattle.journal.proofs.Listed.{list_more_yes, list_more_no, list_all, listed_at}
use Rattle.journal.proofs.search.look_up.Goals as goal
use Rattle.journal.proofs.search.look_up.Goals.{then-r-key+else-n-index, else-r-key}

pub returns-then-n-index : goal.returns-then-n-index
returns-then-n-index c = sym (listed_at _ _ _ _ _ c.loop-r-test.true c.if-r-key.true (sym c.if-n-index.true ∙ c.loop-r.invariant.0))

pub loop-r-preserved : goal.loop-r-preserved
loop-r-preserved c = elim c.if-r-key.branch [
  | then-r-key+else-n-index w ↦ let e = ap length (list_more_yes _ _ _ _ c.loop-r-test.true w.if-r-key.true) ∙ length_push _ _ in (omega (arith, e, w.n-is), omega (arith, w.n-is), omega (arith, w.n-is, w.if-n-index.false))
  | else-r-key w ↦ let e = ap length (list_more_no _ _ _ _ c.loop-r-test.true w.if-r-key.false) in (omega (arith, e, w.n-is), omega (arith, w.n-is), omega (arith, w.n-is))
]

pub returns : goal.returns
returns c =
    let e : length (list_of c.args.records.now c.args.key) ≡ c.loop-r.n = sym (c.loop-r.invariant.0 ∙ ap length (list_all _ _ _ c.loop-r-test.false)) in
    sym (slice_get_past (list_of c.args.records.now c.args.key) c.args.index (omega arith))
