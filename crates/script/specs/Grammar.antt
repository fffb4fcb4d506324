-- The language of scripts: a text is lines, and a line is a call and the fields that it takes.
use Rattle.std.specs.Prelude.{◌≡◌, ℕ, ◌+◌, ◌^◌, ◌<◌, cond, List, [], ◌∷◌, ◌++◌, length, codes, decimal, ◌==◌, ◌≢◌}
use Rattle.std.specs.Str.Parse.{AllDigits}
use Rattle.faults.specs.declared.Cause.{Cause}
use Rattle.faults.specs.declared.Cause.TheVariants.{Call, ScriptField, Number}
use Rattle.faults.specs.declared.Fault.{Fault}
use Rattle.words.specs.declared.BookKind.{BookKind}
use Rattle.words.specs.declared.Name.{Name}
use Rattle.words.specs.declared.Name.TheVariants.{Towers, Homes, Depth, Book, Tower, Tx, Key, Value, Msg}
use Rattle.words.specs.declared.Verb.{Verb}
use Rattle.words.specs.declared.Verb.TheVariants.{Open, Begin, Read, Draft, Close, Drop, Deliver}
use Rattle.words.specs.Words.{book_word, named, verb_word}

abbrev pub onto : ℕ → List (List ℕ) → List (List ℕ)
onto b [] = (b ∷ []) ∷ []
onto b (w ∷ ws) = (b ∷ w) ∷ ws

-- the parts of a text before, between and after the bytes `sep`; `none` are the parts of the empty text
abbrev pub parts : ℕ → List (List ℕ) → List ℕ → List (List ℕ)
parts sep none [] = none
parts sep none (b ∷ bs) = cond (b == sep) ([] ∷ parts sep none bs) (onto b (parts sep none bs))

-- A line ends at byte 10 or at the end of the text, and a last byte 10 starts no further line.
abbrev pub lines_of : List ℕ → List (List ℕ)
lines_of text = parts 10 [] text

-- Each blank of a line parts two fields.
abbrev pub words_of : List ℕ → List (List ℕ)
words_of line = parts 32 ([] ∷ []) line

-- A field: the place where it starts in its line, and its bytes.
pub record Field : Type 0 where
  pub start : ℕ
  pub bytes : List ℕ

abbrev pub placed : ℕ → List (List ℕ) → List Field
placed at [] = []
placed at (w ∷ ws) = record { start = at; bytes = w } ∷ placed (at + length w + 1) ws

abbrev pub fields_of : List ℕ → List Field
fields_of line = placed 0 (words_of line)

-- What a field after the call is to hold: a number under its name, the homes, or the book.
pub data Slot : Type 0 where
  a_number : Name → Slot
  some_homes : Slot
  a_book : Slot

-- the first field of a line with the call k
abbrev pub called : Verb → List ℕ
called k = codes "do=" ++ verb_word k

-- The fields that follow each call, in their order.
abbrev pub slots : Verb → List Slot
slots Open = a_number Towers ∷ some_homes ∷ a_number Depth ∷ a_book ∷ []
slots Begin = a_number Tower ∷ []
slots Read = a_number Tx ∷ a_number Key ∷ []
slots Draft = a_number Tx ∷ a_number Key ∷ a_number Value ∷ []
slots Close = a_number Tx ∷ []
slots Drop = a_number Tx ∷ []
slots Deliver = a_number Msg ∷ []

-- the name with which a field starts
abbrev pub label : Slot → List ℕ
label (a_number n) = named n
label some_homes = named Homes
label a_book = named Book

-- the values that may follow the name
abbrev pub Takes : Slot → List ℕ → Type 0
Takes (a_number n) v = (m : ℕ) × (m < 2 ^ 32) × (v ≡ decimal m)
Takes some_homes v = AllDigits 10 v
Takes a_book v = (b : BookKind) × (v ≡ book_word b)

-- the cause of the fault where another value follows
abbrev pub blame : Slot → Cause
blame (a_number n) = Number
blame some_homes = Number
blame a_book = Call

abbrev pub fault : Cause → ℕ → Fault
fault why at = record { cause = why; at = at }

-- The first bad field from the left, where fields are to fill slots in a line that ends at `end`.
pub data Fails (end : ℕ) : List Slot → List Field → Fault → Type 0 where
  missing : {s : Slot} {ss : List Slot} → Fails end (s ∷ ss) [] (fault ScriptField end)
  extra : {x : Field} {xs : List Field} → Fails end [] (x ∷ xs) (fault ScriptField x.start)
  misnamed : {s : Slot} {ss : List Slot} {x : Field} {xs : List Field} → ((v : List ℕ) → x.bytes ≢ label s ++ v) → Fails end (s ∷ ss) (x ∷ xs) (fault ScriptField x.start)
  unfit : {s : Slot} {ss : List Slot} {x : Field} {xs : List Field} (v : List ℕ) → x.bytes ≡ label s ++ v → (Takes s v → ⊥) → Fails end (s ∷ ss) (x ∷ xs) (fault (blame s) x.start)
  later : {s : Slot} {ss : List Slot} {x : Field} {xs : List Field} {f : Fault} (v : List ℕ) → x.bytes ≡ label s ++ v → Takes s v → Fails end ss xs f → Fails end (s ∷ ss) (x ∷ xs) f

-- no known call stands in front of the fields
abbrev pub Uncalled : List Field → Type 0
Uncalled fs = (k : Verb) (x : Field) (xs : List Field) → fs ≡ x ∷ xs → x.bytes ≢ called k

-- What is wrong with a line: no known call stands in front, or a field after it is bad.
pub data Wrong (line : List ℕ) : Fault → Type 0 where
  uncalled : Uncalled (fields_of line) → Wrong line (fault Call 0)
  faulty : {f : Fault} (k : Verb) (x : Field) (xs : List Field) → fields_of line ≡ x ∷ xs → x.bytes ≡ called k → Fails (length line) (slots k) xs f → Wrong line f

-- A command with its values.
pub data Instruction : Type 0 where
  opens : ℕ → List ℕ → ℕ → BookKind → Instruction
  begins : ℕ → Instruction
  reads : ℕ → ℕ → Instruction
  drafts : ℕ → ℕ → ℕ → Instruction
  closes : ℕ → Instruction
  drops : ℕ → Instruction
  delivers : ℕ → Instruction

abbrev pub verb_of : Instruction → Verb
verb_of (opens towers homes depth book) = Open
verb_of (begins tower) = Begin
verb_of (reads tx key) = Read
verb_of (drafts tx key value) = Draft
verb_of (closes tx) = Close
verb_of (drops tx) = Drop
verb_of (delivers position) = Deliver

abbrev pub values_of : Instruction → List (List ℕ)
values_of (opens towers homes depth book) = decimal towers ∷ homes ∷ decimal depth ∷ book_word book ∷ []
values_of (begins tower) = decimal tower ∷ []
values_of (reads tx key) = decimal tx ∷ decimal key ∷ []
values_of (drafts tx key value) = decimal tx ∷ decimal key ∷ decimal value ∷ []
values_of (closes tx) = decimal tx ∷ []
values_of (drops tx) = decimal tx ∷ []
values_of (delivers position) = decimal position ∷ []

-- numbers have 32 bits, and homes are digits
abbrev pub Sound : Instruction → Type 0
Sound (opens towers homes depth book) = (towers < 2 ^ 32) × AllDigits 10 homes × (depth < 2 ^ 32)
Sound (begins tower) = tower < 2 ^ 32
Sound (reads tx key) = (tx < 2 ^ 32) × (key < 2 ^ 32)
Sound (drafts tx key value) = (tx < 2 ^ 32) × (key < 2 ^ 32) × (value < 2 ^ 32)
Sound (closes tx) = tx < 2 ^ 32
Sound (drops tx) = tx < 2 ^ 32
Sound (delivers position) = position < 2 ^ 32

-- the fields that fill the slots with the values vs
abbrev pub filled : List Slot → List (List ℕ) → List (List ℕ)
filled [] vs = []
filled (s ∷ ss) [] = []
filled (s ∷ ss) (v ∷ vs) = (label s ++ v) ∷ filled ss vs

-- The fields of the line are the call and its values under their names.
pub record Says (line : List ℕ) (c : Instruction) : Type 0 where
  pub words : words_of line ≡ called (verb_of c) ∷ filled (slots (verb_of c)) (values_of c)
  pub sound : Sound c
