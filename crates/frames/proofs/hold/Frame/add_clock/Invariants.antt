use Rattle.std.proofs.Common.{◌≡◌, ℕ, ◌+◌, ◌*◌, List, ◌++◌, take}
use Rattle.std.specs.List.{flat_map}
use Rattle.frames.specs.Sizes.{entry_size}
use Rattle.frames.specs.Bytes.{le4}
use Rattle.frames.specs.Answers.{framed}
use Rattle.frames.proofs.hold.Frame.add_clock.Given as goal

abbrev pub invariant-loop-entry : goal.invariant-loop-entry
invariant-loop-entry l =
    (l.self.len ≡ l.initial.self.len + entry_size * l.entry-index)
    × ((bs : List ℕ) → l.initial.self ≡ framed bs → l.self ≡ framed (bs ++ flat_map le4 (take l.entry-index l.clock)))
