-- Bytes as pairs of lower-case hexadecimal digits.
use Rattle.std.specs.Prelude.{ℕ, ◌+◌, ◌-◌, ◌*◌, cond, ◌&&◌, List, [], ◌∷◌, length, Some, None, Err, Option, Result, ◌==◌, nat_le}
use Rattle.faults.specs.Table.{plain}
use Rattle.faults.specs.declared.Fault.{Fault}
use Rattle.faults.specs.declared.Cause.TheVariants.{Number as NotNumber}
use Rattle.frames.specs.Answers.{read_of}
use Rattle.messages.specs.declared.Message.{Message}

-- the digits 0 to 9 are the characters 48 to 57, and a to f are 97 to 102
abbrev pub digit_of : ℕ → Option ℕ
digit_of c = cond (nat_le 48 c && nat_le c 57) (Some (c - 48)) (cond (nat_le 97 c && nat_le c 102) (Some (c - 87)) None)

abbrev pub pair_of : Option ℕ → Option ℕ → Option ℕ
pair_of None low = None
pair_of (Some high) None = None
pair_of (Some high) (Some low) = Some (high * 16 + low)

abbrev pub join_to : Option ℕ → Option (List ℕ) → Option (List ℕ)
join_to None rest = None
join_to (Some b) None = None
join_to (Some b) (Some bs) = Some (b ∷ bs)

-- the bytes that a text spells, if it is whole pairs of digits
abbrev pub spelled : List ℕ → Option (List ℕ)
spelled [] = Some []
spelled (c ∷ []) = None
spelled (high ∷ low ∷ rest) = join_to (pair_of (digit_of high) (digit_of low)) (spelled rest)

-- what a line of a capture says: an empty line spells no frame
abbrev pub said_by : Option (List ℕ) → Result Message Fault
said_by None = Err (plain NotNumber)
said_by (Some bs) = read_of bs

abbrev pub said : List ℕ → Result Message Fault
said line = cond (length line == 0) (Err (plain NotNumber)) (said_by (spelled line))
