-- What a book holds, what it answers, and what adding changes.
use Rattle.std.specs.Prelude.{◌≡◌, ℕ, zero, suc, ◌≤◌, Bool, true, cond, ◌&&◌, List, [], ◌∷◌, ◌++◌, length, Some, None, Ok, Err, Option, Result, ◌==◌, nat_lt}
use Rattle.faults.specs.Table.{plain}
use Rattle.faults.specs.declared.Fault.{Fault}
use Rattle.faults.specs.declared.Cause.TheVariants.{BookKey, Index, Depth}
use Rattle.clocks.specs.declared.Clock.{Clock}
use Rattle.clocks.specs.declared.Version.{Version}
use Rattle.book.specs.declared.shape.Shape.{Shape}
use Rattle.book.specs.Newest.{LastWithin}

-- for each key below `keys` a list of versions, oldest first, of at most `depth` each
pub record Kept : Type 0 where
  pub keys : ℕ
  pub depth : ℕ
  pub lists : ℕ → List Version

-- a key that is not there has no versions
abbrev pub Outside : Kept → Type 0
Outside s = (k : ℕ) → s.keys ≤ k → length (s.lists k) ≡ 0

-- no list is longer than the depth
abbrev pub Short : Kept → Type 0
Short s = (k : ℕ) → length (s.lists k) ≤ s.depth

-- the answer where the key is there, and else the refusal
abbrev pub at_key : {X : Type 0} → Kept → ℕ → Result X Fault → Result X Fault
at_key s key r = cond (nat_lt key s.keys) r (Err (plain BookKey))

-- the version looked at, or the refusal where there is none
abbrev pub found : Option Version → Result Version Fault
found (Some v) = Ok v
found None = Err (plain Index)

-- an answer shows the last version within the bound
abbrev pub Shows : Clock → List Version → Result (Option Version) Fault → Type 0
Shows b vs (Ok o) = LastWithin b vs o
Shows b vs (Err f) = Unit {0}

-- why nothing can be added under the key, if so
abbrev pub refusal : Kept → ℕ → Option Fault
refusal s key = cond (nat_lt key s.keys) (cond (nat_lt (length (s.lists key)) s.depth) None (Some (plain Depth))) (Some (plain BookKey))

-- the answer that is done, or the refusal where there is one
abbrev pub unless : Option Fault → Result (Unit {0}) Fault
unless None = Ok tt
unless (Some f) = Err f

-- the lists with one more version at the end of the key's
abbrev pub with_one : (ℕ → List Version) → ℕ → Version → ℕ → List Version
with_one ls key v k = cond (k == key) (ls k ++ (v ∷ [])) (ls k)

abbrev pub added : Kept → ℕ → Version → Kept
added s key v = record { keys = s.keys; depth = s.depth; lists = with_one s.lists key v }

-- what adding answers, and what the book holds then
abbrev pub Added : Kept → ℕ → Version → Result (Unit {0}) Fault → Kept → Type 0
Added s key v (Ok u) t = (refusal s key ≡ None) × (t ≡ added s key v)
Added s key v (Err f) t = (refusal s key ≡ Some f) × (t ≡ s)

-- a book that holds nothing
abbrev pub blank : ℕ → ℕ → Kept
blank keys depth = record { keys = keys; depth = depth; lists = λ _. [] }

-- no list has a version
abbrev pub Blank : Kept → Type 0
Blank s = (k : ℕ) → s.lists k ≡ []

-- no list of the first n keys has a version
abbrev pub blank_below : ℕ → (ℕ → List Version) → Bool
blank_below zero ls = true
blank_below (suc n) ls = length (ls n) == 0 && blank_below n ls

-- the same as `Blank`, as a test
abbrev pub blank_kept : Kept → Bool
blank_kept s = blank_below s.keys s.lists

-- a blank book of the shape: over memory that does not fit the shape it has no keys
abbrev pub blank_over : Shape → Bool → Kept
blank_over shape fits = blank (cond fits shape.keys 0) shape.depth
