-- The only message that can have a given frame: what reading takes from the bytes, before any rule is tested.
use Rattle.std.specs.Prelude.{ℕ, cond, List, drop, Some, None, Option, ◌==◌, slice_index}
use Rattle.clocks.specs.declared.Version.{Version}
use Rattle.frames.specs.Sizes.{head_size, entry_size, line_size, fixed_size}
use Rattle.frames.specs.Bytes.{half_at, word_at, cut}
use Rattle.messages.specs.Drafting.{drafts_of}
use Rattle.messages.specs.declared.Draft.{Draft}
use Rattle.messages.specs.declared.Drafts.{Drafts}
use Rattle.messages.specs.declared.Line.{Line}
use Rattle.messages.specs.declared.Conflict.{Conflict}
use Rattle.messages.specs.declared.Conflict.TheVariants.{Held, Newer, Full}
use Rattle.messages.specs.declared.Objection.{Objection}
use Rattle.messages.specs.declared.Grant.{Grant}
use Rattle.messages.specs.declared.Kind.{Kind}
use Rattle.messages.specs.declared.Kind.TheVariants.{Query as QueryKind, Answer as AnswerKind, Prepare as PrepareKind, Vote as VoteKind, Outcome as OutcomeKind}
use Rattle.messages.specs.declared.Body.{Body}
use Rattle.messages.specs.declared.Body.TheVariants.{Query, Answer, Prepare, Vote, Outcome}
use Rattle.messages.specs.declared.Message.{Message}

abbrev pub line_at : List ℕ → Line
line_at bs = record { key = slice_index bs 0; origin = slice_index bs 1; writer = half_at bs 2; number = word_at bs 4; content = record { value = word_at bs 8 } }

abbrev pub draft_at : List ℕ → Draft
draft_at bs = record { key = slice_index bs 0; content = record { value = word_at bs 8 } }

abbrev pub drafts_at : ℕ → List ℕ → Drafts
drafts_at n bs = drafts_of (cut draft_at line_size n bs)

abbrev pub clock_at : ℕ → List ℕ → List ℕ
clock_at entries bs = cut (λ b. word_at b 0) entry_size entries bs

abbrev pub shown_at : ℕ → Line → Option Version
shown_at mark l = cond (mark == 1) (Some (record { writer = l.writer; origin = l.origin; number = l.number; content = l.content })) None

abbrev pub conflict_at : ℕ → Line → Conflict
conflict_at mark l =
    cond (mark == 1) (Held l.origin l.writer)
    (cond (mark == 2) (Newer l.origin l.writer l.number) Full)

abbrev pub vote_at : ℕ → ℕ → List ℕ → Option Objection
vote_at mark n bs = cond (n == 0) None (Some (record { key = (line_at bs).key; conflict = conflict_at mark (line_at bs) }))

abbrev pub outcome_at : ℕ → ℕ → ℕ → List ℕ → Option Grant
outcome_at mark number n bs = cond (mark == 1) (Some (record { number = number; drafts = drafts_at n bs })) None

abbrev pub body_at : Kind → ℕ → ℕ → ℕ → List ℕ → Body
body_at QueryKind mark number n bs = Query (line_at bs).key (mark == 1)
body_at AnswerKind mark number n bs = Answer (line_at bs).key (shown_at mark (line_at bs))
body_at PrepareKind mark number n bs = Prepare (drafts_at n bs)
body_at VoteKind mark number n bs = Vote (vote_at mark n bs)
body_at OutcomeKind mark number n bs = Outcome (outcome_at mark number n bs)

-- the bytes of the frame's fields
abbrev pub kind_byte : List ℕ → ℕ
kind_byte bs = slice_index bs 0

abbrev pub count_byte : List ℕ → ℕ
count_byte bs = slice_index bs 3

abbrev pub message_at : ℕ → Kind → List ℕ → Message
message_at entries kind bs = record {
  sender = slice_index bs 1;
  receiver = slice_index bs 2;
  tx = half_at bs 4;
  clock = record { entries = clock_at entries (drop head_size bs) };
  body = body_at kind (slice_index bs 6) (word_at bs 8) (count_byte bs) (drop (fixed_size entries) bs);
}
