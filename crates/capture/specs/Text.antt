-- A line of a capture as it is printed.
use Rattle.std.specs.Prelude.{ℕ, ◌-◌, cond, List, [], ◌∷◌, ◌++◌, length, take, Ok, Err, codes, decimal, Result, ◌==◌, slice_index}
use Rattle.std.specs.List.{flat_map}
use Rattle.faults.specs.Text.{fault_text}
use Rattle.faults.specs.declared.Fault.{Fault}
use Rattle.messages.specs.Table.{kind_word, kind_of, mark_of, number_of, lines_of}
use Rattle.messages.specs.declared.Line.{Line}
use Rattle.messages.specs.declared.Message.{Message}
use Rattle.capture.specs.Hex.{said}

unfoldable pub line_text : Line → List ℕ
line_text l =
    codes " key=" ++ (decimal l.key
    ++ (codes " origin=" ++ (decimal l.origin
    ++ (codes " writer=" ++ (decimal l.writer
    ++ (codes " number=" ++ (decimal l.number
    ++ (codes " value=" ++ decimal l.content.value))))))))

unfoldable pub head_text : Message → List ℕ
head_text m =
    codes "kind=" ++ (kind_word (kind_of m.body)
    ++ (codes " sender=" ++ (decimal m.sender
    ++ (codes " receiver=" ++ (decimal m.receiver
    ++ (codes " tx=" ++ (decimal m.tx
    ++ (codes " mark=" ++ (decimal (mark_of m.body)
    ++ (codes " number=" ++ decimal (number_of m.body)))))))))))

-- the entries of a clock, with commas between them
abbrev pub next_entry : ℕ → List ℕ
next_entry e = codes "," ++ decimal e

abbrev pub clock_text : List ℕ → List ℕ
clock_text [] = []
clock_text (e ∷ es) = decimal e ++ flat_map next_entry es

abbrev pub message_text : Message → List ℕ
message_text m = head_text m ++ (codes " clock=" ++ (clock_text m.clock.entries ++ flat_map line_text (lines_of m.body)))

abbrev pub said_text : Result Message Fault → List ℕ
said_text (Ok m) = message_text m
said_text (Err f) = fault_text f

-- a line without the line feed that ends it; the last line of a capture may have none
abbrev pub unbroken : List ℕ → List ℕ
unbroken line = cond (slice_index line (length line - 1) == 10) (take (length line - 1) line) line

-- the line of the listing for the n-th line of the capture
unfoldable pub numbered : ℕ → List ℕ → List ℕ
numbered n text = codes "line=" ++ (decimal n ++ (codes " " ++ (text ++ (10 ∷ []))))

abbrev pub dump_text : ℕ → List ℕ → List ℕ
dump_text n line = numbered n (said_text (said (unbroken line)))
