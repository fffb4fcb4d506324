use Rattle.std.proofs.Common.{◌≡◌, ℕ, ◌+◌, ◌*◌, List, ◌++◌, length}
use Rattle.std.specs.List.{flat_map, AllByRecursion}
use Rattle.frames.specs.Sizes.{line_size}
use Rattle.messages.specs.Table.{lines_of, lines_left}
use Rattle.frames.specs.Layout.{line_bytes}
use Rattle.messages.specs.Rules.{TypedLine}
use Rattle.frames.specs.Answers.{framed}
use Rattle.frames.proofs.hold.Frame.add_lines.Given as goal

abbrev pub invariant-loop-line : goal.invariant-loop-line
invariant-loop-line l = record {
  left : l.yielded ++ lines_left l.line-iterator ≡ lines_of l.body;
  len : l.self.len ≡ l.initial.self.len + line_size * length l.yielded;
  adds : (bs : List ℕ) → l.initial.self ≡ framed bs → l.self ≡ framed (bs ++ flat_map line_bytes l.yielded);
  typed : AllByRecursion TypedLine l.yielded;
}
