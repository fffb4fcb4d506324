-- A fault as it is printed: layer, number, place and word.
use Rattle.std.specs.Prelude.{ℕ, List, ◌++◌, codes, decimal}
use Rattle.faults.specs.Table.{row_of, layer_word}
use Rattle.faults.specs.declared.Fault.{Fault}

abbrev pub fault_text : Fault → List ℕ
fault_text f =
    codes "layer=" ++ (layer_word (row_of f.cause).layer
    ++ (codes " fault=" ++ (decimal (row_of f.cause).number
    ++ (codes " at=" ++ (decimal f.at
    ++ (codes " word=" ++ (row_of f.cause).word))))))
