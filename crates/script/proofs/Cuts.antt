-- How a text is cut at a byte.
use Rattle.std.proofs.Common.{◌≡◌, ℕ, suc, ◌+◌, ◌<◌, ◌≤◌, Bool, true, false, eqb, leb, List, [], ◌∷◌, ◌++◌, length, get_or, drop, Some, sym, refl, ap, ◌∙◌, subst, append_assoc, arith, le-leb}
use borrow.Author.Tests.{lt-leb}
use denote.Param.Members.{Mut}
use denote.Ref.{Bor}
use Rattle.std.specs.Bool.{MatchBool}
use Rattle.std.specs.Fn.{Called}
use Rattle.std.specs.List.{All, IsFirstMatchOrLen, onto_first, slice_split}
use Rattle.std.specs.declared.slice.Split.{Split}
use Rattle.std.specs.Slice.{IsGetRangeResult}
use Rattle.std.specs.Slice.Iter.{split_callee, split_rest, split_steps}
use Rattle.std.proofs.Math.Seq.{get_or-append_seam}
use Rattle.std.proofs.Math.ListN.{get_or-append}
use Rattle.std.proofs.lemmas.Bool.{eqb-true}
use Rattle.std.proofs.lemmas.Fn.{always_returns_same}
use Rattle.std.proofs.lemmas.List.{drop-drop, drop_all, length-append, length-drop, take_rest}
use Rattle.std.proofs.lemmas.List.Prefix.{front_rest}
use Rattle.std.proofs.lemmas.List.Splits.{slice_split_at, slice_split_none}
use Rattle.script.specs.Grammar.{fields_of, lines_of, onto, placed, words_of}
use Rattle.script.specs.Readers.{ahead, left, texts}
use Rattle.script.specs.declared.reader.Reader.{Reader}

-- no byte of w is `sep`
abbrev pub Free : ℕ → List ℕ → Type 0
Free sep w = All (λ b. eqb b sep ≡ false) w

-- x is the front of bs up to the first `sep`, or all of bs where there is none
pub data First (sep : ℕ) (x bs : List ℕ) : Type 0 where
  all : Free sep x → bs ≡ x → First sep x bs
  front : (more : List ℕ) → Free sep x → bs ≡ x ++ (sep ∷ more) → First sep x bs

pub first_le : {sep : ℕ} {x bs : List ℕ} → First sep x bs → length x ≤ length bs
first_le (all f e) = omega (arith, ap length e)
first_le {sep} {x} (front more f e) = omega (arith, ap length e, length-append x (sep ∷ more))

first_in : (sep : ℕ) (x bs more : List ℕ) (done : Bool) → MatchBool done (bs ≡ x) ((y : ℕ) × (bs ≡ x ++ (y ∷ more))) → IsFirstMatchOrLen (λ b. eqb b sep) bs (length x) → First sep x bs
first_in sep x bs more true e p = all (λ k d h. rw e at (p.0 k d (omega arith) h)) e
first_in sep x bs more false (y, e) p =
    let at : eqb (get_or bs (length x) 0) sep ≡ true = p.1 (omega (arith, ap length e, length-append x (y ∷ more))) 0 in
    let here : y ≡ sep = eqb-true y sep (ap (λ b. eqb b sep) (sym (ap (λ l. get_or l (length x) 0) e ∙ get_or-append_seam x y more 0)) ∙ at) in
    front more
    (λ k d h. ap (λ b. eqb b sep) (sym (ap (λ l. get_or l k d) e ∙ get_or-append x (y ∷ more) d k h)) ∙ p.0 k d (omega arith) h)
    (rw here at e)

-- what `split` gives first of the text from the place `at` on, where its closure tells `sep`
pub first_of_split : {F : Type 0} (g : Mut F (Bor ℕ × Unit {0}) Bool) (sep : ℕ) (text : List ℕ) (at : ℕ) (from : Bor (List ℕ)) (s t : Split ℕ F) (x : Bor (List ℕ)) → IsGetRangeResult text at (length text) (Some from) → split_rest s ≡ from.now → split_steps g s (Some x) t → ((a : Bor ℕ × Unit {0}) (r : Bool) (q : F) → Called g (split_callee s) a r q → (r ≡ eqb a.0.now sep) × (q ≡ split_callee s)) → First sep x.now (drop at text)
first_of_split g sep text at from s t x part here h calls =
    let key = always_returns_same g (λ a r. r ≡ eqb a.0.now sep) (split_callee s) calls in
    let bs : split_rest s ≡ drop at text = here ∙ part.0.2 ∙ take_rest text at in
    subst (λ l. First sep x.now l) bs (first_in sep x.now (split_rest s) (split_rest t) _ h.1 (h.2 (λ b. eqb b sep) key).1)

onto_is : (b : ℕ) (ws : List (List ℕ)) → onto b ws ≡ onto_first b ws
onto_is b [] = refl
onto_is b (w ∷ ws) = refl

pub words_split : (bs : List ℕ) → words_of bs ≡ slice_split (λ b. eqb b 32) bs
words_split [] = refl
words_split (b ∷ bs) = rw (onto_is, words_split bs)

pub words_front : (w bs : List ℕ) → Free 32 w → words_of (w ++ (32 ∷ bs)) ≡ w ∷ words_of bs
words_front w bs f = words_split (w ++ (32 ∷ bs)) ∙ slice_split_at (λ b. eqb b 32) w 32 bs f refl ∙ ap (λ l. w ∷ l) (sym (words_split bs))

pub words_free : (w : List ℕ) → Free 32 w → words_of w ≡ w ∷ []
words_free w f = words_split w ∙ slice_split_none (λ b. eqb b 32) w f

lines_front : (w bs : List ℕ) → Free 10 w → lines_of (w ++ (10 ∷ bs)) ≡ w ∷ lines_of bs
lines_front [] bs f = refl
lines_front (b ∷ w) bs f = rw (f 0 0 (omega arith), lines_front w bs (λ k d h. f (suc k) d (omega arith)))

lines_free : (w : List ℕ) → 0 < length w → Free 10 w → lines_of w ≡ w ∷ []
lines_free [] h f = absurd (omega arith)
lines_free (b ∷ []) h f = rw (f 0 0 (omega arith))
lines_free (b ∷ a ∷ w) h f = rw (f 0 0 (omega arith), lines_free (a ∷ w) (omega arith) (λ k d h. f (suc k) d (omega arith)))

-- what is left after the first part and its `sep`
after : (sep : ℕ) (x text : List ℕ) (at : ℕ) (more : List ℕ) → drop at text ≡ x ++ (sep ∷ more) → drop (at + (length x + 1)) text ≡ more
after sep x text at more e =
    ap (λ n. drop n text) (omega (arith, length-append x (sep ∷ []))) ∙ sym (drop-drop (length (x ++ (sep ∷ []))) at text)
    ∙ front_rest (drop at text) (x ++ (sep ∷ [])) more (e ∙ sym (append_assoc x (sep ∷ []) more))

pub line_taken : (text : List ℕ) (at : ℕ) (x : List ℕ) → at < length text → First 10 x (drop at text) → lines_of (drop at text) ≡ x ∷ lines_of (drop (at + (length x + 1)) text)
line_taken text at x h (all f e) =
    let size : length text ≡ at + length x = omega (arith, ap length e, length-drop at text) in
    let none : drop (at + (length x + 1)) text ≡ [] = drop_all (at + (length x + 1)) text (omega arith) in
    rw (none, e) (lines_free x (omega arith) f)
line_taken text at x h (front more f e) = rw (after 10 x text at more e, e) (lines_front x more f)

-- a reader that goes on behind the line x has before it what it had but x
pub line_passed : (r : Reader) (behind : ℕ) (x : List ℕ) → behind ≡ r.at + (length x + 1) → lines_of (drop r.at r.text.now) ≡ x ∷ lines_of (drop (r.at + (length x + 1)) r.text.now) → ahead r ≡ x ∷ ahead (record { text = r.text; at = behind })
line_passed r behind x a l = rw a l

pub field_taken : (line : List ℕ) (at : ℕ) (x : List ℕ) → at ≤ length line → First 32 x (drop at line) → left line at ≡ record { start = at; bytes = x } ∷ left line (at + (length x + 1))
unfolding left
field_taken line at x h (all f e) =
    let size : length line ≡ at + length x = omega (arith, ap length e, length-drop at line) in
    let here : leb at (length line) ≡ true = le-leb at (length line) h in
    let next : leb (at + (length x + 1)) (length line) ≡ false = lt-leb (at + (length x + 1)) (length line) (omega arith) in
    rw (here, next, e, words_free x f)
field_taken line at x h (front more f e) =
    let size : length line ≡ at + (length x + (1 + length more)) = omega (arith, ap length e, length-drop at line, length-append x (32 ∷ more)) in
    let here : leb at (length line) ≡ true = le-leb at (length line) h in
    let next : leb (at + (length x + 1)) (length line) ≡ true = le-leb (at + (length x + 1)) (length line) (omega arith) in
    let long : at + length x + 1 ≡ at + (length x + 1) = omega arith in
    rw (here, next, after 32 x line at more e, e, words_front x more f, long)

pub left-none : (line : List ℕ) (at : ℕ) → length line < at → left line at ≡ []
unfolding left
left-none line at h = rw (lt-leb at (length line) h)

pub left_all : (t line : List ℕ) (at : ℕ) → t ≡ line → at ≡ 0 → left t at ≡ fields_of line
unfolding left
left_all t line at e z = rw (e, z, le-leb 0 (length line) (omega arith))

pub texts-placed : (at : ℕ) (ws : List (List ℕ)) → texts (placed at ws) ≡ ws
texts-placed at [] = refl
texts-placed at (w ∷ ws) = ap (λ l. w ∷ l) (texts-placed (at + length w + 1) ws)
