-- The fold over a list ends with its last version within the bound.
use Rattle.std.proofs.Common.{◌≡◌, ◌⊎◌, Bool, reverse, true, false, true≢false, cond, ltb, leb, List, [], ◌∷◌, ◌++◌, length, get_or, Some, None, fold, Option, sym, refl, ap, ◌∙◌, subst, inl, inr}
use Rattle.std.proofs.lemmas.List.{append_assoc, reverse-append}
use Rattle.std.proofs.lemmas.List.Folds.{find-append}
use Rattle.std.proofs.lemmas.Iterator.Adapters.{option_map_id}
use Rattle.std.proofs.lemmas.List.Sums.{fold_push}
use Rattle.std.proofs.lemmas.Bool.{and_parts, and_from, ltb-true, lt-ltb, leb-true, le-leb, cases_Bool}
use Rattle.std.specs.List.{AllByRecursion, find}
use Rattle.std.specs.Option.{option_or, option_map}
use Rattle.clocks.specs.declared.Clock.{Clock}
use Rattle.clocks.specs.declared.Version.{Version}
use Rattle.book.specs.Newest.{Inside, inside, newest, LastWithin}

pub inside-true : (b : Clock) (v : Version) → inside b v ≡ true → Inside b v
inside-true b v e =
    let p = and_parts (ltb v.origin (length b.entries)) (leb v.number (get_or b.entries v.origin 0)) e in
    (ltb-true v.origin (length b.entries) p.0, leb-true v.number (get_or b.entries v.origin 0) p.1)

pub is_inside : (b : Clock) (v : Version) → Inside b v → inside b v ≡ true
is_inside b v h = and_from (ltb v.origin (length b.entries)) (leb v.number (get_or b.entries v.origin 0)) (lt-ltb v.origin (length b.entries) h.0) (le-leb v.number (get_or b.entries v.origin 0) h.1)

pub not_inside : (b : Clock) (v : Version) → (Inside b v → ⊥) → inside b v ≡ false
not_inside b v h = elim (cases_Bool (inside b v)) [ inl e ↦ absurd (h (inside-true b v e)) | inr e ↦ e ]

-- the newest of a list with one more version
pub newest_push : (b : Clock) (vs : List Version) (v : Version) → newest b (vs ++ (v ∷ [])) ≡ cond (inside b v) (Some v) (newest b vs)
newest_push b vs v = fold_push (λ best w. cond (inside b w) (Some w) best) None vs v

-- all versions outside the bound leave the best so far
kept_best : (b : Clock) (vs : List Version) (o : Option Version) → AllByRecursion (λ w. Inside b w → ⊥) vs → fold (λ best v. cond (inside b v) (Some v) best) o vs ≡ o
kept_best b [] o h = refl
kept_best b (v ∷ vs) o h =
    ap (λ t. fold (λ best w. cond (inside b w) (Some w) best) (cond t (Some v) o) vs) (not_inside b v h.0) ∙ kept_best b vs o h.1

-- the relation has one answer
pub last-value : (b : Clock) (vs : List Version) (o : Option Version) → LastWithin b vs o → o ≡ newest b vs
last-value b vs None h = sym (kept_best b vs None h)
last-value b vs (Some v) (before, after, e, here, rest) =
    sym (ap (newest b) e ∙ ap (newest b) (sym (append_assoc before (v ∷ []) after)) ∙ folded_append (before ++ (v ∷ [])) after None
    ∙ ap (λ o. fold (λ best w. cond (inside b w) (Some w) best) o after) (newest_push b before v ∙ ap (λ t. cond t (Some v) (newest b before)) (is_inside b v here))
    ∙ kept_best b after (Some v) rest)
  where
    folded_append : (us ws : List Version) (o : Option Version) → fold (λ best w. cond (inside b w) (Some w) best) o (us ++ ws) ≡ fold (λ best w. cond (inside b w) (Some w) best) (fold (λ best w. cond (inside b w) (Some w) best) o us) ws
    folded_append [] ws o = refl
    folded_append (u ∷ us) ws o = folded_append us ws (cond (inside b u) (Some u) o)

-- the fold over a list leaves what it began with, or ends with the last version within the bound
last_or_none : (b : Clock) (vs : List Version) (o : Option Version)
    → (AllByRecursion (λ w. Inside b w → ⊥) vs × (fold (λ best w. cond (inside b w) (Some w) best) o vs ≡ o))
    ⊎ ((v : Version) × (fold (λ best w. cond (inside b w) (Some w) best) o vs ≡ Some v) × LastWithin b vs (Some v))
last_or_none b [] o = inl (tt, refl)
last_or_none b (v ∷ vs) o = elim (last_or_none b vs (cond (inside b v) (Some v) o)) [
  | inl (none, e) ↦ elim (cases_Bool (inside b v)) [
    | inl here ↦ inr (v, e ∙ ap (λ t. cond t (Some v) o) here, ([], vs, refl, inside-true b v here, none))
    | inr out ↦ inl ((λ i. absurd (true≢false (sym (is_inside b v i) ∙ out)), none), e ∙ ap (λ t. cond t (Some v) o) out)
  ]
  | inr (w, e, (before, after, split, here, rest)) ↦ inr (w, e, (v ∷ before, after, ap (λ us. v ∷ us) split, here, rest))
]

-- the fold answers the relation
pub newest_last : (b : Clock) (vs : List Version) → LastWithin b vs (newest b vs)
newest_last b vs = elim (last_or_none b vs None) [
  | inl (none, e) ↦ subst (λ (o : Option Version). LastWithin b vs o) (sym e) none
  | inr (v, e, last) ↦ subst (λ (o : Option Version). LastWithin b vs o) (sym e) last
]

-- a search from the end finds what the fold ends with
module _ {X Y : Type 0} (p : X → Bool) (f : X → Y) where
  found_or : (xs : List X) (o : Option Y) → fold (λ best x. cond (p x) (Some (f x)) best) o xs ≡ option_or (option_map f (find p (reverse xs))) o
  found_or [] o = refl
  found_or (x ∷ xs) o =
      found_or xs (cond (p x) (Some (f x)) o) ∙ before (find p (reverse xs)) (p x)
      ∙ ap (λ m. option_or (option_map f m) o) (sym (ap (find p) (reverse-append (x ∷ []) xs) ∙ find-append p (reverse xs) (x ∷ [])))
    where
      before : (m : Option X) (t : Bool) → option_or (option_map f m) (cond t (Some (f x)) o) ≡ option_or (option_map f (option_or m (cond t (Some x) None))) o
      before None true = refl
      before None false = refl
      before (Some y) t = refl

  pub found_last : (xs : List X) → option_map f (find p (reverse xs)) ≡ fold (λ best x. cond (p x) (Some (f x)) best) None xs
  found_last xs = sym (found_or xs None ∙ same (option_map f (find p (reverse xs))))
    where
      same : (o : Option Y) → option_or o None ≡ o
      same None = refl
      same (Some y) = refl

pub newest_found : (b : Clock) (vs : List Version) → find (inside b) (reverse vs) ≡ newest b vs
newest_found b vs = sym (option_map_id (find (inside b) (reverse vs))) ∙ found_last (inside b) (λ v. v) vs
