-- Which messages have a frame: `valid` has the rules of the format, and `Typed` the ranges that the types of the fields give.
use Rattle.std.specs.Prelude.{◌≡◌, ℕ, ◌^◌, ◌<◌, Bool, true, ◌&&◌, List, length, drop, Some, None, Option, ◌==◌, nat_le, nat_lt}
use Rattle.std.specs.List.{AllByRecursion, list_all}
use Rattle.clocks.specs.Clocks.{tower_limit}
use Rattle.clocks.specs.declared.Version.{Version}
use Rattle.messages.specs.Limits.{line_limit, transaction_limit}
use Rattle.messages.specs.Table.{number_of, lines_of}
use Rattle.messages.specs.declared.Draft.{Draft}
use Rattle.messages.specs.declared.Drafts.{Drafts}
use Rattle.messages.specs.declared.Line.{Line}
use Rattle.messages.specs.declared.Conflict.{Conflict}
use Rattle.messages.specs.declared.Conflict.TheVariants.{Held, Newer, Full}
use Rattle.messages.specs.declared.Body.{Body}
use Rattle.messages.specs.declared.Body.TheVariants.{Query, Answer, Prepare, Vote, Outcome}
use Rattle.messages.specs.declared.Message.{Message}

-- the writer of a version, and a version, as a frame can name them
abbrev pub fit_writer : ℕ → ℕ → Bool
fit_writer origin writer = nat_lt origin tower_limit && nat_lt writer transaction_limit

abbrev pub fit_version : ℕ → ℕ → ℕ → Bool
fit_version origin writer number = fit_writer origin writer && nat_le 1 number

-- places that hold no draft are blank
abbrev pub is_blank : Draft → Bool
is_blank d = d.key == 0 && d.content.value == 0

abbrev pub all_blank : List Draft → Bool
all_blank ds = list_all is_blank ds

abbrev pub fit_drafts : Drafts → Bool
fit_drafts d = nat_le d.len line_limit && all_blank (drop d.len d.items)

abbrev pub fit_shown : Option Version → Bool
fit_shown None = true
fit_shown (Some v) = fit_version v.origin v.writer v.number

abbrev pub fit_conflict : Conflict → Bool
fit_conflict (Held origin writer) = fit_writer origin writer
fit_conflict (Newer origin writer number) = fit_version origin writer number
fit_conflict Full = true

abbrev pub fit_body : Body → Bool
fit_body (Query key first) = true
fit_body (Answer key shown) = fit_shown shown
fit_body (Prepare drafts) = nat_le 1 drafts.len && fit_drafts drafts
fit_body (Vote None) = true
fit_body (Vote (Some objection)) = fit_conflict objection.conflict
fit_body (Outcome (Some grant)) = nat_le 1 grant.number && fit_drafts grant.drafts
fit_body (Outcome None) = true

abbrev pub rules : Message → Bool
rules m = nat_lt m.sender tower_limit && (nat_lt m.receiver tower_limit && (nat_lt m.tx transaction_limit && fit_body m.body))

unfoldable pub valid : Message → Bool
valid m = rules m

-- what the types say, of any message that a program holds
pub record TypedLine (l : Line) : Type 0 where
  pub writer : l.writer < 2 ^ 16
  pub number : l.number < 2 ^ 32
  pub value : l.content.value < 2 ^ 32

abbrev pub Places : Body → Type 0
Places (Query key first) = Unit {0}
Places (Answer key shown) = Unit {0}
Places (Prepare drafts) = length drafts.items ≡ line_limit
Places (Vote against) = Unit {0}
Places (Outcome (Some grant)) = length grant.drafts.items ≡ line_limit
Places (Outcome None) = Unit {0}

pub record Typed (m : Message) : Type 0 where
  pub entries : length m.clock.entries ≡ tower_limit
  pub clock : AllByRecursion (λ v. v < 2 ^ 32) m.clock.entries
  pub number : number_of m.body < 2 ^ 32
  pub lines : AllByRecursion TypedLine (lines_of m.body)
  pub places : Places m.body

-- a message that has a frame
pub record HasFrame (m : Message) : Type 0 where
  pub typed : Typed m
  pub rules : valid m ≡ true
