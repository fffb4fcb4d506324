use Rattle.std.proofs.Common.{◌≡◌, true, false, Err, Result, refl, ap, ◌∙◌}
use Rattle.faults.specs.Table.{plain}
use Rattle.faults.specs.declared.Fault.{Fault}
use Rattle.faults.specs.declared.Cause.TheVariants.{FrameField as WrongField}
use Rattle.messages.specs.declared.Message.{Message}
use Rattle.std.proofs.lemmas.Result.{err_from_is_err_and, IfOk-from_err}
use Rattle.frames.specs.Answers.{read_of}
use Rattle.frames.proofs.Back.{read_answers, read-refused, read-candidate}
use Rattle.frames.proofs.reader.read.Goals as goal

pub returns-in_err-kind : goal.returns-in_err-kind
returns-in_err-kind c =
    let bs = c.args.bytes.now in
    let told = read-refused bs _ c.in_err-kind.ensures in
    let p = err_from_is_err_and c.from_residual.result c.from_residual.ensures.1 in
    let v : c.from_residual.result ≡ read_of bs = p.1 ∙ ap (λ f. Err f) p.2 ∙ told in
    record { reads = read_answers bs _ v (IfOk-from_err c.from_residual.result _ c.from_residual.ensures.0); value = v }

pub returns-then-is_frame : goal.returns-then-is_frame
returns-then-is_frame c =
    let bs = c.args.bytes.now in
    let f = c.if-is_frame.ensures in
    let v = read-candidate bs _ _ true c.in_ok-kind.ensures c.message_at-message.ensures f.value in
    record { reads = read_answers bs _ v (f.typed refl); value = v }

pub returns-else-is_frame : goal.returns-else-is_frame
returns-else-is_frame c =
    let bs = c.args.bytes.now in
    let refused : ◌≡◌ {A = Result Message Fault} (Err c.into.result) (Err (plain WrongField)) = ap (λ f. Err f) c.into.ensures in
    let v = refused ∙ read-candidate bs _ _ false c.in_ok-kind.ensures c.message_at-message.ensures c.if-is_frame.ensures.value in
    record { reads = read_answers bs _ v tt; value = v }
