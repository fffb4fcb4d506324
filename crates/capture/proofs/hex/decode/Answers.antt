use Rattle.std.proofs.Common.{◌/◌, ◌+◌, length, drop, vec_items, sym, ap, ◌∙◌, arith}
use Rattle.capture.proofs.Spelling.{paired, after, odd, by_pairs, one_more, no_more, all_read}
use Rattle.capture.proofs.hex.decode.Goals as goal

pub returns-in_default : goal.returns-in_default
returns-in_default c = sym (odd c.args.text.now (λ e. omega arith))

pub returns-in_default-pair : goal.returns-in_default-pair
returns-in_default-pair c =
    no_more c.as_chunks.result.0.now c.loop-high.high-index c.loop-high-test.true (vec_items c.loop-high.bytes) c.in_default-pair.ensures c.loop-high.invariant
    ∙ ap paired c.as_chunks.ensures.front
    ∙ by_pairs c.args.text.now (length c.args.text.now / 2) (omega arith)

pub loop-high-preserved : goal.loop-high-preserved
loop-high-preserved c =
    ap (λ xs. after xs (paired (drop (c.loop-high.high-index + 1) c.as_chunks.result.0.now))) c.in_ok-push.ensures.items
    ∙ one_more c.as_chunks.result.0.now c.loop-high.high-index c.loop-high-test.true (vec_items c.loop-high.bytes) c.in-Some.byte c.in-Some.ensures c.loop-high.invariant

pub returns : goal.returns
returns c =
    all_read c.as_chunks.result.0.now c.loop-high.high-index (vec_items c.loop-high.bytes) c.loop-high-test.false c.loop-high.invariant
    ∙ ap paired c.as_chunks.ensures.front
    ∙ by_pairs c.args.text.now (length c.args.text.now / 2) (omega arith)
