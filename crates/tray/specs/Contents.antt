-- What a tray holds, as a list.
use Rattle.std.specs.Prelude.{◌≡◌, ℕ, Bool, List, [], ◌∷◌, ◌++◌, length, take, Option, nat_le}
use Rattle.std.specs.List.{position_from}
use Rattle.std.specs.Fn.{Shared, FnReturnsAt}
use denote.Ref.{Bor}
use Rattle.tray.specs.declared.tray.Tray.{Tray}

-- what the tray holds, oldest first
abbrev pub contents : {X : Type 0} → Tray X → List X
contents t = take t.len t.items.now

-- how many elements have a place
abbrev pub room : {X : Type 0} → Tray X → ℕ
room t = length t.items.now

-- no place is left
abbrev pub full : {X : Type 0} → Tray X → Bool
full t = nat_le (room t) (length (contents t))

-- xs with x after it
abbrev pub pushed : {X : Type 0} → List X → X → List X
pushed xs x = xs ++ (x ∷ [])

-- the position of the first that passes, where the list begins at the position n
abbrev pub place_from : {X : Type 0} → (X → Bool) → ℕ → List X → Option ℕ
place_from p n xs = position_from p n xs

-- each result that a call of f at x may give is `keeps x`
abbrev pub Computes : {F X : Type 0} → Shared F (Bor X × Unit {0}) Bool → F → (X → Bool) → Type 0
Computes {F} {X} g f keeps = (x : X) (b : Bool) → FnReturnsAt g f x b → b ≡ keeps x
