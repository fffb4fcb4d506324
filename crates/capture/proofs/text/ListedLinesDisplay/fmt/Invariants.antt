use Rattle.std.proofs.Common.{◌≡◌, ◌++◌}
use Rattle.std.specs.Fmt.{HasWritten, IsPlainFormatter}
use Rattle.std.specs.List.{flat_map}
use Rattle.messages.specs.Table.{lines_of, lines_left}
use Rattle.capture.specs.Text.{line_text}
use Rattle.capture.proofs.text.ListedLinesDisplay.fmt.Given as goal

abbrev pub invariant-loop-line : goal.invariant-loop-line
invariant-loop-line g l = record {
  left : l.yielded ++ lines_left l.line-iterator ≡ lines_of l.self.0.now;
  text : IsPlainFormatter l.initial.f → HasWritten g.W.Write.write_str_gives l.initial.f (flat_map line_text l.yielded) l.f;
}
