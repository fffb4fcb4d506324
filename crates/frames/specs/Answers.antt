-- What writing and reading answer.
use Rattle.std.specs.Prelude.{◌≡◌, ℕ, ◌-◌, ◌<◌, ◌≤◌, Bool, true, false, cond, ◌&&◌, List, [], ◌∷◌, ◌++◌, length, take, replicate, Some, None, Ok, Err, Option, Result, ◌==◌, ◌≢◌, nat_lt}
use Rattle.faults.specs.Table.{plain}
use Rattle.faults.specs.declared.Fault.{Fault}
use Rattle.faults.specs.declared.Cause.TheVariants.{Length as WrongLength, Kind as WrongKind, FrameField as WrongField}
use Rattle.clocks.specs.Clocks.{tower_limit}
use Rattle.frames.specs.Sizes.{fixed_size, frame_size, most_bytes}
use Rattle.messages.specs.Table.{kind_number, kind_at, allows}
use Rattle.frames.specs.Layout.{frame_of}
use Rattle.messages.specs.Rules.{valid, HasFrame}
use Rattle.frames.specs.Candidate.{message_at, kind_byte, count_byte}
use Rattle.messages.specs.declared.Kind.{Kind}
use Rattle.messages.specs.declared.Message.{Message}
use Rattle.frames.specs.declared.hold.Frame.{Frame}

-- the frame that has these bytes, with zeros past them, and the bytes of a frame
unfoldable pub framed : List ℕ → Frame
framed bs = record { bytes = bs ++ replicate (most_bytes - length bs) 0; len = length bs }

abbrev pub bytes_of : Frame → List ℕ
bytes_of f = take f.len f.bytes

-- g has the part after whatever bytes f has
abbrev pub Extended : Frame → List ℕ → Frame → Type 0
Extended f part g = (bs : List ℕ) → f ≡ framed bs → g ≡ framed (bs ++ part)

-- what writing answers
abbrev pub written : Message → Result Frame Fault
written m = cond (valid m) (Ok (framed (frame_of m))) (Err (plain WrongField))

-- the bytes have a length that a frame of the kind has
abbrev pub SizedAs : Kind → List ℕ → Type 0
SizedAs k bs = (allows k (count_byte bs) ≡ true) × (length bs ≡ frame_size tower_limit (count_byte bs))

-- What reading answers: each frame gives its message, and nothing else gives one; and which fault other bytes have,
-- by the first of these that holds: too short for any frame, no kind, not the length of its kind, another rule.
pub record Reads (bs : List ℕ) (r : Result Message Fault) : Type 0 where
  pub back : (m : Message) → HasFrame m → frame_of m ≡ bs → r ≡ Ok m
  pub only : (m : Message) → r ≡ Ok m → HasFrame m × (frame_of m ≡ bs)
  pub short : length bs < fixed_size tower_limit → r ≡ Err (plain WrongLength)
  pub unknown : fixed_size tower_limit ≤ length bs → ((k : Kind) → kind_number k ≢ kind_byte bs) → r ≡ Err (plain WrongKind)
  pub unsized : fixed_size tower_limit ≤ length bs → (k : Kind) → kind_number k ≡ kind_byte bs → (SizedAs k bs → ⊥) → r ≡ Err (plain WrongLength)
  pub broken : fixed_size tower_limit ≤ length bs → (k : Kind) → kind_number k ≡ kind_byte bs → SizedAs k bs → ((m : Message) → HasFrame m → frame_of m ≢ bs) → r ≡ Err (plain WrongField)

-- Two messages that have one frame are one message.
abbrev pub OneMessage : Type 0
OneMessage = (a b : Message) → HasFrame a → HasFrame b → frame_of a ≡ frame_of b → a ≡ b

-- the same as a function: the kind, if the length fits; then the only candidate, if its frame has these bytes
abbrev pub sized_as : List ℕ → Option Kind → Result Kind Fault
sized_as bs None = Err (plain WrongKind)
sized_as bs (Some k) = cond (allows k (count_byte bs) && length bs == frame_size tower_limit (count_byte bs)) (Ok k) (Err (plain WrongLength))

abbrev pub sized_of : List ℕ → Result Kind Fault
sized_of bs = cond (nat_lt (length bs) (fixed_size tower_limit)) (Err (plain WrongLength)) (sized_as bs (kind_at (kind_byte bs)))

abbrev pub same : List ℕ → List ℕ → Bool
same [] [] = true
same [] (y ∷ ys) = false
same (x ∷ xs) [] = false
same (x ∷ xs) (y ∷ ys) = x == y && same xs ys

unfoldable pub is_frame : Message → List ℕ → Bool
is_frame m bs = valid m && same (frame_of m) bs

abbrev pub candidate : Message → List ℕ → Result Message Fault
candidate m bs = cond (is_frame m bs) (Ok m) (Err (plain WrongField))

abbrev pub read_as : List ℕ → Result Kind Fault → Result Message Fault
read_as bs (Err f) = Err f
read_as bs (Ok k) = candidate (message_at tower_limit k bs) bs

unfoldable pub read_of : List ℕ → Result Message Fault
read_of bs = read_as bs (sized_of bs)
