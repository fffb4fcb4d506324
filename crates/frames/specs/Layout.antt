-- The one frame of a message, byte by byte.
use Rattle.std.specs.Prelude.{ℕ, List, ◌∷◌, ◌++◌, length}
use Rattle.std.specs.List.{flat_map}
use Rattle.frames.specs.Bytes.{le2, le4}
use Rattle.messages.specs.Table.{kind_number, kind_of, mark_of, number_of, lines_of}
use Rattle.messages.specs.declared.Line.{Line}
use Rattle.messages.specs.declared.Message.{Message}

abbrev pub line_bytes : Line → List ℕ
line_bytes l = l.key ∷ l.origin ∷ (le2 l.writer ++ (le4 l.number ++ le4 l.content.value))

-- what stands before the clock
abbrev pub head_of : Message → List ℕ
head_of m =
    kind_number (kind_of m.body) ∷ m.sender ∷ m.receiver ∷ length (lines_of m.body)
    ∷ (le2 m.tx ++ (mark_of m.body ∷ 0 ∷ le4 (number_of m.body)))

unfoldable pub frame_of : Message → List ℕ
frame_of m = head_of m ++ (flat_map le4 m.clock.entries ++ flat_map line_bytes (lines_of m.body))
