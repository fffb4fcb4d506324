-- A write to an array is a change of the map that it stands for. Assumes nothing.
use Rattle.std.proofs.Common.{◌≡◌, ℕ, zero, suc, ◌+◌, ◌-◌, ◌<◌, ◌≤◌, Bool, true, false, cond, eqb, leb, ◌⊎◌, List, [], ◌∷◌, ◌++◌, length, get_or, take, drop, set, Some, sym, refl, ap, ◌∙◌, subst, inl, inr, append_assoc, append-nil, arith}
use mathlib.Core.Path.{fun_ext}
use Rattle.std.proofs.lemmas.List.{get_or-set_same, get_or-set_other, get_or_append_left, get_or_push, get_or_past, length_push, take_more}
use Rattle.std.proofs.lemmas.Bool.{cases_eq, cases_lt, cases_Bool, both_ways, and_from, le-leb, lt-leb, lt-ltb, le-ltb, eq-eqb, ne_eqb}
use Rattle.clocks.specs.declared.Version.{Version}
use Rattle.clocks.specs.Clocks.{Covers, covers, within}
use Rattle.clocks.proofs.Covering.{covers-true, true-covers}
use Rattle.laws.specs.Faults.{covers_first}
use Rattle.laws.proofs.Answering.{covers_below}
use Rattle.laws.specs.Lists.{put, At, without}
use Rattle.messages.specs.declared.Draft.{Draft}
use Rattle.laws.specs.Net.{Clock, written, inside, newest, newest_within}
use Rattle.laws.specs.State.{Visible}
use Rattle.laws.specs.Words.{holds_of}
use Rattle.laws.specs.View.{clock_of, clocks_of}
use Rattle.laws.proofs.Lists.{put_same, put_other, last-append}

-- `v[i] = a`, where the map has a part of each element
pub map_set_by : {A B : Type 0} (g : A → B) (xs : List A) (i : ℕ) (a d : A) (b : B) → i < length xs → g a ≡ b → (λ (j : ℕ). g (get_or (set xs i a) j d)) ≡ put (λ j. g (get_or xs j d)) i b
map_set_by g xs i a d b l q = fun_ext (λ j. go j (cases_eq i j))
  where
    go : (j : ℕ) → (i ≡ j) ⊎ (i ≡ j → ⊥) → g (get_or (set xs i a) j d) ≡ put (λ j. g (get_or xs j d)) i b j
    go j (inl e) = ap g (subst (λ (n : ℕ). get_or (set xs i a) n d ≡ a) e (get_or-set_same xs i a d l)) ∙ q ∙ sym (put_same (λ j. g (get_or xs j d)) i b j e)
    go j (inr n) = ap g (get_or-set_other xs i j a d (λ q. n (sym q))) ∙ sym (put_other (λ j. g (get_or xs j d)) i b j n)

pub map-set : {A : Type 0} (xs : List A) (i : ℕ) (a d : A) → i < length xs → (λ (j : ℕ). get_or (set xs i a) j d) ≡ put (λ j. get_or xs j d) i a
map-set xs i a d l = map_set_by (λ x. x) xs i a d a l refl

-- `v.push(a)`
pub map_push : {A : Type 0} (xs : List A) (a d : A) → (λ (j : ℕ). get_or (xs ++ a ∷ []) j d) ≡ put (λ j. get_or xs j d) (length xs) a
map_push xs a d = fun_ext (λ j. go j (cases_eq (length xs) j) (cases_lt j (length xs)))
  where
    go : (j : ℕ) → (length xs ≡ j) ⊎ (length xs ≡ j → ⊥) → (j < length xs) ⊎ (length xs ≤ j) → get_or (xs ++ a ∷ []) j d ≡ put (λ j. get_or xs j d) (length xs) a j
    go j (inl e) _ = get_or_push xs a d j e ∙ sym (put_same (λ j. get_or xs j d) (length xs) a j e)
    go j (inr n) (inl l) = get_or_append_left xs (a ∷ []) d j l ∙ sym (put_other (λ j. get_or xs j d) (length xs) a j n)
    go j (inr n) (inr l) =
        let past : length (xs ++ a ∷ []) ≤ j = omega (arith, length_push xs a) in
        get_or_past (xs ++ a ∷ []) j d past ∙ sym (get_or_past xs j d l) ∙ sym (put_other (λ j. get_or xs j d) (length xs) a j n)

-- `v[i]`, and `v.remove(i)`
pub at-get_or : {A : Type 0} (xs : List A) (i : ℕ) (d : A) → i < length xs → At xs i (get_or xs i d)
at-get_or [] i d l = absurd (omega arith)
at-get_or (x ∷ xs) zero d l = refl
at-get_or (x ∷ xs) (suc i) d l = at-get_or xs i d (omega arith)

pub without-cut : {A : Type 0} (xs : List A) (i : ℕ) → without xs i ≡ take i xs ++ drop (suc i) xs
without-cut [] zero = refl
without-cut [] (suc i) = refl
without-cut (x ∷ xs) zero = refl
without-cut (x ∷ xs) (suc i) = ap (λ l. x ∷ l) (without-cut xs i)

-- `rows[t][o] = n`
pub clocks-set : (rows : List (List ℕ)) (t o n : ℕ) → t < length rows → o < length (get_or rows t []) →
    clocks_of (set rows t (set (get_or rows t []) o n)) ≡ put (clocks_of rows) t (put (clocks_of rows t) o n)
clocks-set rows t o n l m = map_set_by clock_of rows t (set (get_or rows t []) o n) [] (put (clocks_of rows t) o n) l (map-set (get_or rows t []) o n 0 m)

-- a loop over a book that keeps what is to be shown
pub shown_more_in : (c : Clock) (book : List Version) (i : ℕ) (d : Version) → i < length book → (get_or book i d).number ≤ c (get_or book i d).origin → Some (get_or book i d) ≡ newest_within c (take (i + 1) book)
shown_more_in c book i d l h =
    let v = get_or book i d in
    sym (ap (newest_within c) (take_more book i d l) ∙ last-append (inside c) (take i book) (v ∷ []) ∙ rw (le-leb v.number (c v.origin) h))

pub shown_more_out : (c : Clock) (book : List Version) (i : ℕ) (d : Version) → i < length book → c (get_or book i d).origin < (get_or book i d).number → newest_within c (take i book) ≡ newest_within c (take (i + 1) book)
shown_more_out c book i d l h =
    let v = get_or book i d in
    sym (ap (newest_within c) (take_more book i d l) ∙ last-append (inside c) (take i book) (v ∷ []) ∙ rw (lt-leb v.number (c v.origin) h))

-- ## Loops of the code

written-append : (w o n : ℕ) (ds es : List Draft) (k : ℕ) → written w o n (ds ++ es) k ≡ written w o n ds k ++ written w o n es k
written-append w o n [] es k = refl
written-append w o n (d ∷ ds) es k = go (eqb d.key k) (written-append w o n ds es k)
  where
    v : Version
    v = record { writer = w; origin = o; number = n; content = d.content }

    go : (b : Bool) → written w o n (ds ++ es) k ≡ written w o n ds k ++ written w o n es k →
        cond b (v ∷ written w o n (ds ++ es) k) (written w o n (ds ++ es) k) ≡ cond b (v ∷ written w o n ds k) (written w o n ds k) ++ written w o n es k
    go true ih = ap (λ l. v ∷ l) ih
    go false ih = ih

-- one more line is taken in: its version is pushed to the book of its key
pub took_more : (book : ℕ → List Version) (w o n : ℕ) (ds : List Draft) (d : Draft) →
    (λ (k : ℕ). book k ++ written w o n (ds ++ d ∷ []) k) ≡ put (λ k. book k ++ written w o n ds k) d.key ((book d.key ++ written w o n ds d.key) ++ record { writer = w; origin = o; number = n; content = d.content } ∷ [])
took_more book w o n ds d = fun_ext (λ k. go k (cases_eq d.key k))
  where
    v : Version
    v = record { writer = w; origin = o; number = n; content = d.content }

    f : ℕ → List Version
    f k = book k ++ written w o n ds k

    more : (k : ℕ) → book k ++ written w o n (ds ++ d ∷ []) k ≡ (book k ++ written w o n ds k) ++ written w o n (d ∷ []) k
    more k = ap (λ l. book k ++ l) (written-append w o n ds (d ∷ []) k) ∙ sym (append_assoc (book k) (written w o n ds k) (written w o n (d ∷ []) k))

    go : (k : ℕ) → (d.key ≡ k) ⊎ (d.key ≡ k → ⊥) → book k ++ written w o n (ds ++ d ∷ []) k ≡ put f d.key (f d.key ++ v ∷ []) k
    go k (inl e) = more k ∙ rw (eq-eqb d.key k e) (ap (λ (j : ℕ). f j ++ v ∷ []) (sym e)) ∙ sym (put_same f d.key (f d.key ++ v ∷ []) k e)
    go k (inr e) = more k ∙ rw (ne_eqb d.key k e) (append-nil (f k)) ∙ sym (put_other f d.key (f d.key ++ v ∷ []) k e)

-- one more line is held
pub holds_more : (i o : ℕ) (ds : List Draft) (d : Draft) → holds_of i o (ds ++ d ∷ []) ≡ holds_of i o ds ++ record { key = d.key; tx = i; origin = o } ∷ []
holds_more i o [] d = refl
holds_more i o (e ∷ ds) d = ap (λ l. record { key = e.key; tx = i; origin = o } ∷ l) (holds_more i o ds d)

-- two states with the same parts
pub same-state : (v w : Visible) → v.begun ≡ w.begun → v.last ≡ w.last → v.records ≡ w.records → v.clocks ≡ w.clocks → v.book ≡ w.book → v.held ≡ w.held → v.air ≡ w.air → v.readings ≡ w.readings → v ≡ w
same-state v w a l b c d e f g = λ i. record { begun = a i; last = l i; records = b i; clocks = c i; book = d i; held = e i; air = f i; readings = g i }

-- the newest of a book is its last
pub newest-last : (vs : List Version) (d : Version) → 0 < length vs → newest vs ≡ Some (get_or vs (length vs - 1) d)
newest-last [] d l = absurd (omega arith)
newest-last (v ∷ []) d l = refl
newest-last (v ∷ w ∷ vs) d l = rw (newest-last (w ∷ vs) d (omega arith)) (ap Some (ap (λ (n : ℕ). get_or (w ∷ vs) n d) e ∙ ap (λ (n : ℕ). get_or (v ∷ w ∷ vs) n d) e'))
  where
    e : length (w ∷ vs) - 1 ≡ length vs
    e = omega arith

    e' : suc (length vs) ≡ length (v ∷ w ∷ vs) - 1
    e' = omega arith

-- ## Clocks as lists

first-covers : (n : ℕ) (c b : Clock) → ((j : ℕ) → b j ≤ c j) → covers_first n c b ≡ true
first-covers zero c b f = refl
first-covers (suc n) c b f = and_from (leb (b n) (c n)) _ (le-leb _ _ (f n)) (first-covers n c b f)

-- the test of the rules is that of the lists
pub covers_list : (n : ℕ) (c b : List ℕ) → length b ≤ n → covers_first n (clock_of c) (clock_of b) ≡ covers c b
covers_list n c b l = go (cases_Bool (covers c b)) (cases_Bool (covers_first n (clock_of c) (clock_of b)))
  where
    below : covers_first n (clock_of c) (clock_of b) ≡ true → Covers c b
    below e j = elim (cases_lt j n) [
      | inl q ↦ covers_below n (clock_of c) (clock_of b) e j q
      | inr q ↦ omega (arith, get_or_past b j 0 (omega (arith, l, q)))
    ]

    go : (covers c b ≡ true) ⊎ (covers c b ≡ false) → (covers_first n (clock_of c) (clock_of b) ≡ true) ⊎ (covers_first n (clock_of c) (clock_of b) ≡ false) → covers_first n (clock_of c) (clock_of b) ≡ covers c b
    go (inl t) x = first-covers n (clock_of c) (clock_of b) (covers-true c b t) ∙ sym t
    go (inr f) (inr g) = g ∙ sym f
    go (inr f) (inl g) = absurd (both_ways (covers c b) f (true-covers c b (below g)))

-- a version that has a number is within a clock as it is within the list
pub within_list : (b : List ℕ) (x : Version) → 1 ≤ x.number → inside (clock_of b) x ≡ within x.origin x.number b
within_list b x l = elim (cases_lt x.origin (length b)) [
  | inl q ↦ rw (lt-ltb _ _ q) refl
  | inr q ↦ (let z : get_or b x.origin 0 ≡ 0 = get_or_past b x.origin 0 q in rw (le-ltb _ _ q) (lt-leb _ _ (omega (arith, l, z))))
]
