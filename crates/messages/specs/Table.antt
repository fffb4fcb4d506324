-- The table of the kinds: what stands in the fields of each message.
use Rattle.std.specs.Prelude.{ℕ, Bool, cond, ◌&&◌, List, [], ◌∷◌, map, Some, None, codes, Option, Result, ◌==◌, nat_le}
use Rattle.std.specs.Option.{ok_or}
use Rattle.faults.specs.Table.{plain}
use Rattle.faults.specs.declared.Fault.{Fault}
use Rattle.faults.specs.declared.Cause.TheVariants.{Kind as NoKind}
use Rattle.clocks.specs.declared.Content.{Content}
use Rattle.clocks.specs.declared.Version.{Version}
use Rattle.messages.specs.Limits.{line_limit}
use Rattle.messages.specs.Drafting.{nothing, counted}
use Rattle.messages.specs.declared.Draft.{Draft}
use Rattle.messages.specs.declared.Line.{Line}
use Rattle.messages.specs.declared.Lines.{Lines}
use Rattle.messages.specs.declared.Conflict.{Conflict}
use Rattle.messages.specs.declared.Conflict.TheVariants.{Held, Newer, Full}
use Rattle.messages.specs.declared.Kind.{Kind}
use Rattle.messages.specs.declared.Kind.TheVariants.{Query as QueryKind, Answer as AnswerKind, Prepare as PrepareKind, Vote as VoteKind, Outcome as OutcomeKind}
use Rattle.messages.specs.declared.Body.{Body}
use Rattle.messages.specs.declared.Body.TheVariants.{Query, Answer, Prepare, Vote, Outcome}

-- the number and the word of a kind, and whether its messages may have n lines, whatever the mark
abbrev pub kind_number : Kind → ℕ
kind_number QueryKind = 1
kind_number AnswerKind = 2
kind_number PrepareKind = 3
kind_number VoteKind = 4
kind_number OutcomeKind = 5

-- the kind that has a number
abbrev pub kind_at : ℕ → Option Kind
kind_at byte =
    cond (byte == 1) (Some QueryKind)
    (cond (byte == 2) (Some AnswerKind)
    (cond (byte == 3) (Some PrepareKind)
    (cond (byte == 4) (Some VoteKind)
    (cond (byte == 5) (Some OutcomeKind) None))))

-- the same, or the fault of a number that no kind has
abbrev pub kind_named : ℕ → Result Kind Fault
kind_named byte = ok_or (kind_at byte) (plain NoKind)

abbrev pub kind_word : Kind → List ℕ
kind_word QueryKind = codes "query"
kind_word AnswerKind = codes "answer"
kind_word PrepareKind = codes "prepare"
kind_word VoteKind = codes "vote"
kind_word OutcomeKind = codes "outcome"

abbrev pub allows : Kind → ℕ → Bool
allows QueryKind n = n == 1
allows AnswerKind n = n == 1
allows PrepareKind n = nat_le 1 n && nat_le n line_limit
allows VoteKind n = nat_le n 1
allows OutcomeKind n = nat_le n line_limit

abbrev pub kind_of : Body → Kind
kind_of (Query key first) = QueryKind
kind_of (Answer key shown) = AnswerKind
kind_of (Prepare drafts) = PrepareKind
kind_of (Vote against) = VoteKind
kind_of (Outcome granted) = OutcomeKind

-- the mark
abbrev pub conflict_mark : Conflict → ℕ
conflict_mark (Held origin writer) = 1
conflict_mark (Newer origin writer number) = 2
conflict_mark Full = 3

abbrev pub mark_of : Body → ℕ
mark_of (Query key first) = cond first 1 0
mark_of (Answer key None) = 0
mark_of (Answer key (Some v)) = 1
mark_of (Prepare drafts) = 0
mark_of (Vote None) = 0
mark_of (Vote (Some objection)) = conflict_mark objection.conflict
mark_of (Outcome (Some grant)) = 1
mark_of (Outcome None) = 0

-- the number of a granted outcome
abbrev pub number_of : Body → ℕ
number_of (Query key first) = 0
number_of (Answer key shown) = 0
number_of (Prepare drafts) = 0
number_of (Vote against) = 0
number_of (Outcome (Some grant)) = grant.number
number_of (Outcome None) = 0

-- the lines
abbrev pub line_with : ℕ → ℕ → ℕ → ℕ → Content → Line
line_with key origin writer number content = record { key = key; origin = origin; writer = writer; number = number; content = content }

abbrev pub key_line : ℕ → Line
key_line key = line_with key 0 0 0 nothing

abbrev pub draft_line : Draft → Line
draft_line d = line_with d.key 0 0 0 d.content

-- the draft whose line it is
abbrev pub draft_in : Line → Draft
draft_in l = record { key = l.key; content = l.content }

-- the version that a line shows
abbrev pub version_in : Line → Version
version_in l = record { writer = l.writer; origin = l.origin; number = l.number; content = l.content }

abbrev pub shown_line : ℕ → Option Version → Line
shown_line key None = key_line key
shown_line key (Some v) = line_with key v.origin v.writer v.number v.content

abbrev pub conflict_line : ℕ → Conflict → Line
conflict_line key (Held origin writer) = line_with key origin writer 0 nothing
conflict_line key (Newer origin writer number) = line_with key origin writer number nothing
conflict_line key Full = key_line key

abbrev pub lines_of : Body → List Line
lines_of (Query key first) = key_line key ∷ []
lines_of (Answer key shown) = shown_line key shown ∷ []
lines_of (Prepare drafts) = map draft_line (counted drafts)
lines_of (Vote None) = []
lines_of (Vote (Some objection)) = conflict_line objection.key objection.conflict ∷ []
lines_of (Outcome (Some grant)) = map draft_line (counted grant.drafts)
lines_of (Outcome None) = []

-- the lines that are still to come, of one line and a line for each draft
abbrev pub with_drafts : Option Line → List Draft → List Line
with_drafts None ds = map draft_line ds
with_drafts (Some l) ds = l ∷ map draft_line ds

abbrev pub lines_left : Lines → List Line
lines_left s = with_drafts s.only s.drafts.now
