use Rattle.std.proofs.lemmas.Slice.Eq.{slice_eq-Decides}
use Rattle.std.proofs.lemmas.Bool.{false≢true}
use Rattle.frames.proofs.Back.{frame_told, unwritten_told}
use Rattle.frames.proofs.reader.is_frame.Goals as goal
use Rattle.std.proofs.lemmas.Bool.Decides.{Decides-eqb}

pub returns-in-Ok : goal.returns-in-Ok
returns-in-Ok c =
    let h = c.in-Ok.ensures in
    record {
      value = frame_told c.args.message.now c.args.bytes.now c.in-Ok.frame c.eq.result h.value c.as_slice.result.now c.as_slice.ensures (slice_eq-Decides Decides-eqb _ _ _ c.eq.ensures);
      typed = λ _. h.typed;
    }

pub returns-in-Err : goal.returns-in-Err
returns-in-Err c =
    let h = c.in-Err.ensures in
    record { value = unwritten_told c.args.message.now c.args.bytes.now c.in-Err.field-0 h.value; typed = λ e. absurd (false≢true e) }
