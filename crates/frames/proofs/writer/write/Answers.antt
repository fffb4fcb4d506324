use Rattle.std.proofs.Common.{◌≡◌, ℕ, true, List, [], ◌++◌, Ok, Err, Result, sym, ap, ◌∙◌, append_assoc, arith}
use Rattle.std.specs.List.{flat_map}
use Rattle.std.proofs.lemmas.Bool.{cond-true}
use Rattle.faults.specs.Table.{plain}
use Rattle.faults.specs.declared.Fault.{Fault}
use Rattle.faults.specs.declared.Cause.TheVariants.{FrameField as WrongField}
use Rattle.frames.specs.Bytes.{le4}
use Rattle.messages.specs.Table.{lines_of}
use Rattle.frames.specs.Layout.{line_bytes, frame_of}
use Rattle.messages.specs.Rules.{valid, Typed}
use Rattle.frames.specs.Answers.{framed}
use Rattle.frames.specs.declared.hold.Frame.{Frame}
use Rattle.frames.proofs.Back.{one-message, written_back}
use Rattle.frames.proofs.writer.write.Goals as goal

pub returns-then-not-is_valid-clause-one : goal.returns-then-not-is_valid-clause-one
returns-then-not-is_valid-clause-one c = one-message

pub returns : goal.returns
unfolding frame_of
returns c =
    let m = c.args.message.now in
    let clock : List ℕ = flat_map le4 m.clock.entries in
    let lines : List ℕ = flat_map line_bytes (lines_of m.body) in
    let head : List ℕ = c.head_bytes.result in
    let all : (head ++ clock) ++ lines ≡ frame_of m = append_assoc head clock lines ∙ ap (λ q. q ++ (clock ++ lines)) c.head_bytes.ensures.value in
    let bytes : c.add_lines.new.self ≡ framed (frame_of m) =
    c.add_lines.ensures.adds _ (c.add_clock.ensures.adds _ (c.add.ensures.adds [] c.blank-frame.ensures.value)) ∙ ap framed all in
    let done : ◌≡◌ {A = Result Frame Fault} (Ok c.add_lines.new.self) (Ok (framed (frame_of m))) = ap (λ f. Ok f) bytes in
    let typed : Typed m = record {
      entries = omega arith;
      clock = c.add_clock.ensures.typed;
      number = c.head_bytes.ensures.typed;
      lines = c.add_lines.ensures.typed;
      places = c.add_lines.ensures.places;
    } in
    let rules : valid m ≡ true = sym c.if-not-is_valid.ensures in
    record {
      value = done ∙ sym (cond-true (valid m) (Ok (framed (frame_of m))) (Err (plain WrongField)) rules);
      typed = typed;
      back = written_back m c.add_lines.new.self (record { typed = typed; rules = rules }) bytes;
      one = one-message;
    }
