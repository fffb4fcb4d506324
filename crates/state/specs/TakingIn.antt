-- Taking in the drafts of a granted transaction at a tower.
use Rattle.std.specs.Prelude.{ℕ, Bool, true, false, cond, not, ◌&&◌, List, [], ◌∷◌, length, fold, filter, ◌==◌, nat_lt, slice_set}
use Rattle.book.specs.Books.{Kept, added}
use Rattle.clocks.specs.declared.Version.{Version}
use Rattle.messages.specs.declared.Draft.{Draft}
use Rattle.tables.specs.declared.Held.{Held}
use Rattle.state.specs.declared.Stamp.{Stamp}
use Rattle.state.specs.declared.Tower.{Tower}
use Rattle.state.specs.declared.Inner.{Inner}
use Rattle.state.specs.State.{State, Table, holding, tower_at, home_of}

abbrev pub has_key : List Draft → ℕ → Bool
has_key [] key = false
has_key (d ∷ ds) key = cond (d.key == key) true (has_key ds key)

-- the key is there, and its list is below the depth
abbrev pub room_at : Kept → ℕ → Bool
room_at book key = nat_lt key book.keys && nat_lt (length (book.lists key)) book.depth

-- the keys differ, and each has room
abbrev pub fit_lines : Kept → List Draft → Bool
fit_lines book [] = true
fit_lines book (d ∷ ds) = cond (room_at book d.key) (cond (has_key ds d.key) false (fit_lines book ds)) false

abbrev pub version_of : Stamp → Draft → Version
version_of stamp d = record { writer = stamp.writer; origin = stamp.origin; number = stamp.number; content = d.content }

-- each draft is a version more of its key
abbrev pub posted : Stamp → Kept → List Draft → Kept
posted stamp book ds = fold (λ b d. added b d.key (version_of stamp d)) book ds

abbrev pub counted_in : Tower → ℕ → ℕ → Tower
counted_in t origin number = record { clock = record { entries = slice_set t.clock.entries origin number } }

-- the tower has taken in the origin's transactions up to the number
abbrev pub with_clock : Inner → ℕ → ℕ → ℕ → Inner
with_clock n tower origin number = record { towers = slice_set n.towers tower (counted_in (tower_at n tower) origin number); count = n.count; homes = n.homes; keys = n.keys; last = n.last }

abbrev pub with_last : Inner → ℕ → Inner
with_last n place = record { towers = n.towers; count = n.count; homes = n.homes; keys = n.keys; last = place }

-- held for another transaction than tx, or at another home than the tower
abbrev pub stays : ℕ → ℕ → List ℕ → Held → Bool
stays tx tower homes h = not (h.tx == tx && home_of homes h.key == tower)

-- what is held when a tower has let go what it held for a transaction
abbrev pub let_go : State → ℕ → ℕ → Table Held
let_go s tx tower = holding s.held (filter (stays tx tower s.net.homes) s.held.items)
