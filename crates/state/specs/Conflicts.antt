-- What a home has against the lines of a prepare.
use Rattle.std.specs.Prelude.{ℕ, ◌-◌, Bool, true, cond, ◌&&◌, List, [], ◌∷◌, length, Some, None, find, Option, nat_le, nat_lt}
use Rattle.std.specs.Option.{option_or}
use Rattle.std.specs.List.{slice_get}
use Rattle.clocks.specs.declared.Clock.{Clock}
use Rattle.clocks.specs.declared.Version.{Version}
use Rattle.book.specs.Books.{Kept}
use Rattle.book.specs.Newest.{inside}
use Rattle.messages.specs.declared.Draft.{Draft}
use Rattle.messages.specs.declared.Conflict.{Conflict}
use Rattle.messages.specs.declared.Conflict.TheVariants.{Newer, Full}
use Rattle.messages.specs.declared.Objection.{Objection}
use Rattle.tables.specs.declared.Held.{Held}
use Rattle.laws.specs.Words.{another_holds, held_conflict, first_objection}

-- the newest of a key's versions
abbrev pub last_of : List Version → Option Version
last_of vs = slice_get vs (length vs - 1)

abbrev pub newer_conflict : Clock → Option Version → Option Conflict
newer_conflict bound (Some v) = cond (inside bound v) None (Some (Newer v.origin v.writer v.number))
newer_conflict bound None = None

abbrev pub full_conflict : Bool → Option Conflict
full_conflict atDepth = cond atDepth (Some Full) None

-- the lowest-numbered of the key's conflicts: another transaction holds it; its newest version is not within the bound; it has its full depth
abbrev pub conflict_at : List Held → Kept → ℕ → Clock → ℕ → Option Conflict
conflict_at held book tx bound key =
    option_or (held_conflict (find (another_holds tx key) held))
    (option_or (newer_conflict bound (last_of (book.lists key)))
    (full_conflict (nat_le book.depth (length (book.lists key)))))

-- the first of the lines' keys that has a conflict, and the conflict
abbrev pub objection_to : List Held → Kept → ℕ → Clock → List Draft → Option Objection
objection_to held book tx bound lines = first_objection (conflict_at held book tx bound) lines

-- the book has the keys of all lines
abbrev pub has_keys : Kept → List Draft → Bool
has_keys book [] = true
has_keys book (d ∷ ds) = nat_lt d.key book.keys && has_keys book ds
