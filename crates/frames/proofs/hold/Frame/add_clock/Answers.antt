use Rattle.std.proofs.Common.{◌^◌, ◌<◌, ◌++◌, ap, ◌∙◌, arith}
use Rattle.std.specs.List.{flat_map}
use Rattle.std.proofs.lemmas.List.{take_all}
use Rattle.std.proofs.ByRecursion.{All-from_get_or}
use Rattle.frames.specs.Bytes.{le4}
use Rattle.frames.specs.Answers.{framed}
use Rattle.frames.proofs.Adding.{joined_step}
use Rattle.frames.proofs.hold.Frame.add_clock.Goals as goal

pub loop-entry-preserved : goal.loop-entry-preserved
loop-entry-preserved c = (
  omega arith,
  λ bs h.
      c.add.ensures.adds _ (c.loop-entry.invariant.1 bs h)
      ∙ ap framed (joined_step le4 bs c.args.clock.now c.loop-entry.entry-index 0 c.to_le_bytes.result c.loop-entry-test.true c.to_le_bytes.ensures),
)

pub returns : goal.returns
returns c = record {
  len = omega arith;
  adds = λ bs h. c.loop-entry.invariant.1 bs h ∙ ap (λ q. framed (bs ++ flat_map le4 q)) (take_all _ c.args.clock.now c.loop-entry-test.false);
  typed = All-from_get_or (λ v. v < 2 ^ 32) c.args.clock.now 0 (λ i _. omega (arith, c.type_inv.clock i));
}
