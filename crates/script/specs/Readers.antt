-- What the readers of a text and of a line have before them, and what is taken from them.
use Rattle.std.specs.Prelude.{◌≡◌, ℕ, ◌<◌, ◌≤◌, cond, List, [], ◌∷◌, length, drop, Option, MatchOption, Ok, Err, Result, MatchResult, nat_le}
use Rattle.std.specs.Borrow.{Bor}
use Rattle.faults.specs.declared.Cause.TheVariants.{Size}
use Rattle.faults.specs.declared.Fault.{Fault}
use Rattle.faults.specs.Table.{plain}
use Rattle.words.specs.declared.Name.{Name}
use Rattle.words.specs.declared.Verb.{Verb}
use Rattle.words.specs.Words.{named}
use Rattle.script.specs.Grammar.{Fails, Field, Slot, Sound, filled, label, lines_of, placed, slots, values_of, verb_of, words_of}
use Rattle.script.specs.Limits.{text_limit}
use Rattle.script.specs.Lines.{said}
use Rattle.script.specs.declared.Command.{Command}
use Rattle.script.specs.declared.fields.Fields.{Fields}
use Rattle.script.specs.declared.reader.Reader.{Reader}

-- the lines that a reader has before it
abbrev pub ahead : Reader → List (List ℕ)
ahead r = lines_of (drop r.at r.text.now)

-- a text is read from its start, unless it is too long
abbrev pub Opens : List ℕ → Result Reader Fault → Type 0
Opens text (Ok r) = (length text ≤ text_limit) × (r.text.now ≡ text) × (ahead r ≡ lines_of text)
Opens text (Err f) = (text_limit < length text) × (f ≡ plain Size)

-- the line l was taken from the reader r, which is s then
pub record Line (r s : Reader) (l : List ℕ) : Type 0 where
  pub same : s.text.now ≡ r.text.now
  pub lines : ahead r ≡ l ∷ ahead s
  pub short : length l ≤ length r.text.now

-- what is taken from the reader r, which is s then: its next line, or nothing where no line is left
abbrev pub TakesLine : Reader → Option (Bor (List ℕ)) → Reader → Type 0
TakesLine r x s = MatchOption x ((ahead r ≡ []) × (ahead s ≡ [])) (λ l. Line r s l.now)

-- the fields of a line from the place `at` on; none is left past the line's end
unfoldable pub left : List ℕ → ℕ → List Field
left line at = cond (nat_le at (length line)) (placed at (words_of (drop at line))) []

-- the fields that are still to be read
abbrev pub rest : Fields → List Field
rest r = left r.line.now r.at

-- r is at the start of the line
pub record Starts (line : List ℕ) (r : Fields) : Type 0 where
  pub same : r.line.now ≡ line
  pub start : r.at ≡ 0

-- the field w was taken from r, which is s then
pub record Took (r s : Fields) (w : List ℕ) : Type 0 where
  pub same : s.line.now ≡ r.line.now
  pub field : rest r ≡ record { start = r.at; bytes = w } ∷ rest s

-- no field was left to take
pub record Ended (r s : Fields) : Type 0 where
  pub same : s.line.now ≡ r.line.now
  pub none : rest r ≡ []

-- the first bad field, where the fields that are left are to fill the slots
abbrev pub Bad : Fields → List Slot → Fault → Type 0
Bad r ss f = Fails (length r.line.now) ss (rest r) f

-- the next field does not fill the slot s, whatever slots follow
abbrev pub BadAt : Fields → Slot → Fault → Type 0
BadAt r s f = (ss : List Slot) → Bad r (s ∷ ss) f

-- the next field has not the name n, so that it fills no slot of that name
abbrev pub BadName : Fields → Name → Fault → Type 0
BadName r n f = (s : Slot) → label s ≡ named n → BadAt r s f

abbrev pub texts : List Field → List (List ℕ)
texts [] = []
texts (x ∷ xs) = x.bytes ∷ texts xs

-- the fields that are left fill the slots with the values
abbrev pub Filled : Fields → List Slot → List (List ℕ) → Type 0
Filled r ss vs = texts (rest r) ≡ filled ss vs

-- what is read after the call k
abbrev pub Reads : Fields → Verb → Result Command Fault → Type 0
Reads r k q = MatchResult q (λ c. (verb_of (said c) ≡ k) × Filled r (slots (verb_of (said c))) (values_of (said c)) × Sound (said c)) (λ f. Bad r (slots k) f)
