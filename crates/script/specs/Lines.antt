-- What a line means: one command, or one fault.
use Rattle.std.specs.Prelude.{◌≡◌, ℕ, ◌<◌, ◌≤◌, List, ◌++◌, length, Ok, Err, codes, decimal, Result}
use Rattle.faults.specs.declared.Cause.TheVariants.{Size}
use Rattle.faults.specs.declared.Fault.{Fault}
use Rattle.faults.specs.Table.{plain}
use Rattle.words.specs.Words.{book_word}
use Rattle.script.specs.Grammar.{Instruction, Says, Sound, Wrong}
use Rattle.script.specs.Grammar.Instruction.{opens, begins, reads, drafts, closes, drops, delivers}
use Rattle.script.specs.Limits.{text_limit}
use Rattle.script.specs.declared.Command.{Command}
use Rattle.script.specs.declared.Command.TheVariants.{Open, Begin, Read, Draft, Close, Drop, Deliver}

-- A line of a script says a command, or something is wrong with it; a longer one stands in no script.
pub data Means (line : List ℕ) : Result Instruction Fault → Type 0 where
  too_long : text_limit < length line → Means line (Err (plain Size))
  says : {c : Instruction} → length line ≤ text_limit → Says line c → Means line (Ok c)
  wrong : {f : Fault} → length line ≤ text_limit → Wrong line f → Means line (Err f)

-- the line means nothing else
abbrev pub Only : List ℕ → Result Instruction Fault → Type 0
Only line r = (q : Result Instruction Fault) → Means line q → q ≡ r

-- The text of a command.
abbrev pub text_of : Instruction → List ℕ
text_of (opens towers homes depth book) = codes "do=open towers=" ++ decimal towers ++ codes " homes=" ++ homes ++ codes " depth=" ++ decimal depth ++ codes " book=" ++ book_word book
text_of (begins tower) = codes "do=begin tower=" ++ decimal tower
text_of (reads tx key) = codes "do=read tx=" ++ decimal tx ++ codes " key=" ++ decimal key
text_of (drafts tx key value) = codes "do=draft tx=" ++ decimal tx ++ codes " key=" ++ decimal key ++ codes " value=" ++ decimal value
text_of (closes tx) = codes "do=close tx=" ++ decimal tx
text_of (drops tx) = codes "do=drop tx=" ++ decimal tx
text_of (delivers position) = codes "do=deliver msg=" ++ decimal position

-- a line that is read as a command is the command's text
abbrev pub Spelled : List ℕ → Result Instruction Fault → Type 0
Spelled line (Ok c) = line ≡ text_of c
Spelled line (Err f) = Unit {0}

-- a line that is a command's text is read as the command
abbrev pub ReadBack : List ℕ → Result Instruction Fault → Type 0
ReadBack line r = (c : Instruction) → Sound c → length line ≤ text_limit → line ≡ text_of c → r ≡ Ok c

-- what the parser's answers stand for
abbrev pub said : Command → Instruction
said (Open towers homes depth book) = opens towers homes.now depth book
said (Begin tower) = begins tower
said (Read tx key) = reads tx key
said (Draft tx key value) = drafts tx key value
said (Close tx) = closes tx
said (Drop tx) = drops tx
said (Deliver position) = delivers position

abbrev pub meant : Result Command Fault → Result Instruction Fault
meant (Ok c) = Ok (said c)
meant (Err f) = Err f
