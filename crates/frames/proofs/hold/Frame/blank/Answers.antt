use Rattle.std.proofs.Common.{[], refl}
use Rattle.frames.proofs.Adding.{frame_made}
use Rattle.frames.proofs.hold.Frame.blank.Goals as goal

pub returns : goal.returns
returns c = record { value = frame_made _ 0 [] refl refl; len = refl }
