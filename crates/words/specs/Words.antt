-- The words of a script, and the numbers that it may write.
use Rattle.std.specs.Prelude.{ℕ, ◌^◌, ◌<◌, List, codes, decimal, Result, MatchResult, ◌≡◌, ◌≢◌}
use Rattle.words.specs.declared.BookKind.{BookKind}
use Rattle.words.specs.declared.BookKind.TheVariants.{Journal, Rows}
use Rattle.words.specs.declared.Name.{Name}
use Rattle.words.specs.declared.Name.TheVariants.{Towers, Homes, Depth, Book, Tower, Tx, Key, Value, Msg}
use Rattle.words.specs.declared.UnknownWord.{UnknownWord}
use Rattle.words.specs.declared.Verb.{Verb}
use Rattle.words.specs.declared.Verb.TheVariants.{Open, Begin, Read, Draft, Close, Drop, Deliver}

-- bs writes no number of 32 bits
abbrev pub NoNumber : List ℕ → Type 0
NoNumber bs = (n : ℕ) → n < 2 ^ 32 → bs ≢ decimal n

-- the name of a field with its equals sign
abbrev pub named : Name → List ℕ
named Towers = codes "towers="
named Homes = codes "homes="
named Depth = codes "depth="
named Book = codes "book="
named Tower = codes "tower="
named Tx = codes "tx="
named Key = codes "key="
named Value = codes "value="
named Msg = codes "msg="

-- the word of a call
abbrev pub verb_word : Verb → List ℕ
verb_word Open = codes "open"
verb_word Begin = codes "begin"
verb_word Read = codes "read"
verb_word Draft = codes "draft"
verb_word Close = codes "close"
verb_word Drop = codes "drop"
verb_word Deliver = codes "deliver"

-- the word of a kind of book
abbrev pub book_word : BookKind → List ℕ
book_word Journal = codes "journal"
book_word Rows = codes "rows"

-- the result is the call that the word names, or an error where it names none
abbrev pub NamesVerb : List ℕ → Result Verb UnknownWord → Type 0
NamesVerb word r = MatchResult r (λ k. word ≡ verb_word k) (λ _. (k : Verb) → word ≢ verb_word k)

-- the result is the kind of book that the word names, or an error where it names none
abbrev pub NamesBook : List ℕ → Result BookKind UnknownWord → Type 0
NamesBook word r = MatchResult r (λ b. word ≡ book_word b) (λ _. (b : BookKind) → word ≢ book_word b)
