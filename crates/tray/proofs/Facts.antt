-- What holds of every tray, for the crates above.
use Rattle.std.proofs.Common.{◌≡◌, ℕ, ◌≤◌, false, List, [], ◌∷◌, length, Some, None, inl, inr, arith}
use Rattle.std.proofs.lemmas.List.Edits.{length-remove}
use Rattle.std.proofs.lemmas.Option.{slice_get_within, slice_get-get_or}
use Rattle.std.proofs.lemmas.Bool.{cases_lt, lt-leb}
use Rattle.std.specs.List.{remove, slice_get}
use Rattle.tray.specs.declared.tray.Tray.{Tray}
use Rattle.tray.specs.Contents.{contents, room, full}
use Rattle.tray.proofs.Front.{front_le, removed_past}

pub within-room : {X : Type 0} (t : Tray X) → length (contents t) ≤ room t
within-room t = (front_le t.items.now t.len).0

-- where nothing stands, nothing is taken out
pub none-removed : {X : Type 0} (xs : List X) (i : ℕ) → slice_get xs i ≡ None → xs ≡ remove xs i
none-removed {X} [] i e = removed_past [] i (omega arith)
none-removed {X} (x ∷ xs) i e = elim (cases_lt i (length (x ∷ xs))) [
  | inl h ↦ let p = slice_get-get_or (x ∷ xs) i x h in let z : ◌≡◌ {A = ℕ} 0 1 = cc in absurd (let k : ⊥ = omega arith in k)
  | inr h ↦ removed_past (x ∷ xs) i h
]

-- a place is free after something was taken out
pub place_again : {X : Type 0} (t u : Tray X) (i : ℕ) (x : X) → slice_get (contents t) i ≡ Some x → contents u ≡ remove (contents t) i → room u ≡ room t → full u ≡ false
place_again t u i x e a r =
    let h = slice_get_within (contents t) i x e in
    let l = length-remove (contents t) i h in
    let w = within-room t in
    let n : length (contents u) ≡ length (remove (contents t) i) = cc in
    lt-leb (room u) (length (contents u)) (omega arith)
