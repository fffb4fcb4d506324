-- The versions of a key among all records.
use Rattle.std.proofs.Common.{◌≡◌, ◌&&◌, Bool, map, reverse, fold, ℕ, ◌+◌, ◌<◌, ◌≤◌, true, false, cond, eqb, List, [], ◌∷◌, ◌++◌, length, get_or, take, drop, Some, None, Option, sym, refl, ap, ◌∙◌, inl, inr, arith}
use Rattle.std.proofs.lemmas.List.{take_more, take_all, drop_more, append-nil, length-append, take-append-drop, get_or_at}
use Rattle.std.proofs.lemmas.Option.{slice_get-get_or}
use Rattle.std.proofs.lemmas.Bool.{eq-eqb, ne_eqb, cases_eq}
use Rattle.std.specs.List.{filter, find, slice_get}
use Rattle.std.specs.Option.{option_map}
use Rattle.clocks.specs.declared.Clock.{Clock}
use Rattle.clocks.specs.declared.Version.{Version}
use Rattle.book.specs.Books.{with_one}
use Rattle.book.specs.Newest.{inside, newest}
use Rattle.book.proofs.Lasts.{found_last}
use Rattle.journal.specs.declared.record.Record.{Record}
use Rattle.journal.specs.Records.{list_of}

pub list_append : (rs ss : List Record) (k : ℕ) → list_of (rs ++ ss) k ≡ list_of rs k ++ list_of ss k
list_append [] ss k = refl
list_append (r ∷ rs) ss k = elim (eqb r.key k) as (λ t. cond t (r.version ∷ list_of (rs ++ ss) k) (list_of (rs ++ ss) k) ≡ cond t (r.version ∷ list_of rs k) (list_of rs k) ++ list_of ss k) [
  | true ↦ ap (λ vs. r.version ∷ vs) (list_append rs ss k)
  | false ↦ list_append rs ss k
]

-- a record of the key in front, and one of another key
pub list_yes : (r : Record) (rs : List Record) (k : ℕ) → r.key ≡ k → list_of (r ∷ rs) k ≡ r.version ∷ list_of rs k
list_yes r rs k e = ap (λ t. cond t (r.version ∷ list_of rs k) (list_of rs k)) (eq-eqb r.key k e)

pub list_no : (r : Record) (rs : List Record) (k : ℕ) → (r.key ≡ k → ⊥) → list_of (r ∷ rs) k ≡ list_of rs k
list_no r rs k n = ap (λ t. cond t (r.version ∷ list_of rs k) (list_of rs k)) (ne_eqb r.key k n)

pub list_more_yes : (rs : List Record) (i k : ℕ) (z : Record) → i < length rs → (get_or rs i z).key ≡ k → list_of (take (i + 1) rs) k ≡ list_of (take i rs) k ++ ((get_or rs i z).version ∷ [])
list_more_yes rs i k z h e =
    ap (λ xs. list_of xs k) (take_more rs i z h) ∙ list_append (take i rs) (get_or rs i z ∷ []) k ∙ ap (λ vs. list_of (take i rs) k ++ vs) (list_yes (get_or rs i z) [] k e)

pub list_more_no : (rs : List Record) (i k : ℕ) (z : Record) → i < length rs → ((get_or rs i z).key ≡ k → ⊥) → list_of (take (i + 1) rs) k ≡ list_of (take i rs) k
list_more_no rs i k z h n =
    ap (λ xs. list_of xs k) (take_more rs i z h) ∙ list_append (take i rs) (get_or rs i z ∷ []) k ∙ ap (λ vs. list_of (take i rs) k ++ vs) (list_no (get_or rs i z) [] k n) ∙ append-nil (list_of (take i rs) k)

pub list_all : (rs : List Record) (i k : ℕ) → length rs ≤ i → list_of (take i rs) k ≡ list_of rs k
list_all rs i k h = ap (λ xs. list_of xs k) (take_all i rs h)

-- the list of a key, apart at one of its records
pub list_split : (rs : List Record) (i k : ℕ) (z : Record) → i < length rs → (get_or rs i z).key ≡ k → list_of rs k ≡ list_of (take i rs) k ++ ((get_or rs i z).version ∷ list_of (drop (i + 1) rs) k)
list_split rs i k z h e =
    ap (λ xs. list_of xs k) (sym (take-append-drop i rs) ∙ ap (λ xs. take i rs ++ xs) (drop_more rs i z h))
    ∙ list_append (take i rs) (get_or rs i z ∷ drop (i + 1) rs) k
    ∙ ap (λ vs. list_of (take i rs) k ++ vs) (list_yes (get_or rs i z) (drop (i + 1) rs) k e)

-- the record at i, where the key's list has n before it
pub listed_at : (rs : List Record) (i k n : ℕ) (z : Record) → i < length rs → (get_or rs i z).key ≡ k → n ≡ length (list_of (take i rs) k) → slice_get (list_of rs k) n ≡ Some (get_or rs i z).version
listed_at rs i k n z h e l =
    let v = (get_or rs i z).version in
    let whole = list_split rs i k z h e in
    let long : n < length (list_of rs k) = rw whole (simp length-append (omega arith)) in
    slice_get-get_or (list_of rs k) n v long ∙ ap Some (ap (λ vs. get_or vs n v) whole ∙ get_or_at (list_of (take i rs) k) v (list_of (drop (i + 1) rs) k) v n (sym l))

-- they are the versions of the records that have the key
pub listed : (rs : List Record) (k : ℕ) → list_of rs k ≡ map (λ r. r.version) (filter (λ r. eqb r.key k) rs)
listed [] k = refl
listed (r ∷ rs) k = elim (eqb r.key k) as (λ t. cond t (r.version ∷ list_of rs k) (list_of rs k) ≡ map (λ r. r.version) (cond t (r ∷ filter (λ r. eqb r.key k) rs) (filter (λ r. eqb r.key k) rs))) [
  | true ↦ ap (λ vs. r.version ∷ vs) (listed rs k)
  | false ↦ listed rs k
]

-- a record of the key whose version is within the bound
abbrev pub hit : Clock → ℕ → Record → Bool
hit b k r = eqb r.key k && inside b r.version

-- the newest version is that of the last record that hits
pub newest_listed : (b : Clock) (k : ℕ) (rs : List Record) → option_map (λ r. r.version) (find (hit b k) (reverse rs)) ≡ newest b (list_of rs k)
newest_listed b k rs = found_last (hit b k) (λ r. r.version) rs ∙ sym (folded rs None)
  where
    folded : (rs : List Record) (o : Option Version) → fold (λ best v. cond (inside b v) (Some v) best) o (list_of rs k) ≡ fold (λ best r. cond (hit b k r) (Some r.version) best) o rs
    folded [] o = refl
    folded (r ∷ rs) o = elim (eqb r.key k) as (λ t. fold (λ best v. cond (inside b v) (Some v) best) o (cond t (r.version ∷ list_of rs k) (list_of rs k)) ≡ fold (λ best r. cond (hit b k r) (Some r.version) best) (cond (t && inside b r.version) (Some r.version) o) rs) [
      | true ↦ folded rs (cond (inside b r.version) (Some r.version) o)
      | false ↦ folded rs o
    ]

-- one more record at the end
pub list_pushed : (rs : List Record) (r : Record) (k : ℕ) → list_of (rs ++ (r ∷ [])) k ≡ with_one (list_of rs) r.key r.version k
list_pushed rs r k = list_append rs (r ∷ []) k ∙ elim (cases_eq r.key k) [
  | inl q ↦
      ap (λ vs. list_of rs k ++ vs) (list_yes r [] k q)
      ∙ sym (ap (λ t. cond t (list_of rs k ++ (r.version ∷ [])) (list_of rs k)) (eq-eqb k r.key (sym q)))
  | inr q ↦
      ap (λ vs. list_of rs k ++ vs) (list_no r [] k q) ∙ append-nil (list_of rs k)
      ∙ sym (ap (λ t. cond t (list_of rs k ++ (r.version ∷ [])) (list_of rs k)) (ne_eqb k r.key (λ e. q (sym e))))
]
