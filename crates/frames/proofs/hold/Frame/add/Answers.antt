use Rattle.std.proofs.Common.{refl, arith}
use Rattle.frames.proofs.Adding.{added}
use Rattle.frames.proofs.hold.Frame.add.Goals as goal

pub returns : goal.returns
returns c = record {
  len = omega arith;
  adds = λ bs h. added c.args.self.now bs c.args.part.now _ _ _ h (omega arith) c.copy_from_slice.ensures.after refl;
}
