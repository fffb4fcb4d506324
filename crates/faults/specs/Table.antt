-- The table of faults: number, layer and word of every cause.
use Rattle.std.specs.Prelude.{ℕ, List, codes}
use Rattle.faults.specs.declared.Layer.{Layer}
use Rattle.faults.specs.declared.Layer.TheVariants.{Net, Frame, Script, Book}
use Rattle.faults.specs.declared.Cause.{Cause}
use Rattle.faults.specs.declared.Cause.TheVariants.{Tower, Unknown, Key, Phase, Full, Drafts, Air, Message, Early, List as ListFull, Opening, Length, Kind, FrameField, Call, ScriptField, Number, Order, Size, Shape, BookKey, Index, Depth}
use Rattle.faults.specs.declared.Fault.{Fault}

abbrev pub layer_word : Layer → List ℕ
layer_word Net = codes "net"
layer_word Frame = codes "frame"
layer_word Script = codes "script"
layer_word Book = codes "book"

pub record Row : Type 0 where
  pub number : ℕ
  pub layer : Layer
  pub word : List ℕ

abbrev pub row : ℕ → Layer → List ℕ → Row
row n l w = record { number = n; layer = l; word = w }

abbrev pub row_of : Cause → Row
row_of Tower = row 1 Net (codes "tower")
row_of Unknown = row 2 Net (codes "unknown")
row_of Key = row 3 Net (codes "key")
row_of Phase = row 4 Net (codes "phase")
row_of Full = row 5 Net (codes "full")
row_of Drafts = row 6 Net (codes "drafts")
row_of Air = row 7 Net (codes "air")
row_of Message = row 8 Net (codes "message")
row_of Early = row 9 Net (codes "early")
row_of ListFull = row 10 Net (codes "list")
row_of Opening = row 11 Net (codes "opening")
row_of Length = row 20 Frame (codes "length")
row_of Kind = row 21 Frame (codes "kind")
row_of FrameField = row 22 Frame (codes "field")
row_of Call = row 30 Script (codes "call")
row_of ScriptField = row 31 Script (codes "field")
row_of Number = row 32 Script (codes "number")
row_of Order = row 33 Script (codes "order")
row_of Size = row 34 Script (codes "size")
row_of Shape = row 40 Book (codes "shape")
row_of BookKey = row 41 Book (codes "bookkey")
row_of Index = row 42 Book (codes "index")
row_of Depth = row 43 Book (codes "depth")

-- a fault that has no place of its own
abbrev pub plain : Cause → Fault
plain c = record { cause = c; at = 0 }
