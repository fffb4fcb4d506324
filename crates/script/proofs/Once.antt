-- A line has one meaning: one command, or one fault.
use Rattle.std.proofs.Common.{◌≡◌, ℕ, cond, eqb, List, [], ◌∷◌, ◌++◌, length, get_or, Ok, Err, Result, sym, refl, ap, ◌∙◌, subst, arith}
use Rattle.std.specs.Str.Parse.{digits_value}
use Rattle.std.proofs.lemmas.Fmt.{digits_value-decimal}
use Rattle.std.proofs.lemmas.List.{append_cancel_left}
use Rattle.faults.specs.declared.Fault.{Fault}
use Rattle.words.specs.declared.BookKind.{BookKind}
use Rattle.words.specs.declared.BookKind.TheVariants.{Journal, Rows}
use Rattle.words.specs.declared.Verb.{Verb}
use Rattle.words.specs.declared.Verb.TheVariants.{Open, Begin, Read, Draft, Close, Drop, Deliver}
use Rattle.words.specs.Words.{book_word}
use Rattle.words.proofs.Numbers.{own}
use Rattle.script.specs.Grammar.{Fails, Field, Instruction, Says, Slot, Sound, Takes, Wrong, called, filled, label, placed, slots, values_of, verb_of}
use Rattle.script.specs.Grammar.Fails.{missing, extra, misnamed, unfit, later}
use Rattle.script.specs.Grammar.Instruction.{opens, begins, reads, drafts, closes, drops, delivers}
use Rattle.script.specs.Grammar.Wrong.{uncalled, faulty}
use Rattle.script.specs.Lines.{Means}
use Rattle.script.specs.Lines.Means.{too_long, says, wrong}
use Rattle.script.specs.Readers.{texts}
use Rattle.script.proofs.Cuts.{texts-placed}

-- the call that a field names, by its fourth to sixth byte
back : List ℕ → Verb
back w = cond (eqb (get_or w 3 0) 111) Open (cond (eqb (get_or w 3 0) 98) Begin (cond (eqb (get_or w 3 0) 114) Read (cond (eqb (get_or w 3 0) 99) Close (cond (eqb (get_or w 4 0) 101) Deliver (cond (eqb (get_or w 5 0) 97) Draft Drop)))))

back-called : (k : Verb) → back (called k) ≡ k
unfolding back
back-called Open = refl
back-called Begin = refl
back-called Read = refl
back-called Draft = refl
back-called Close = refl
back-called Drop = refl
back-called Deliver = refl

same-call : (j k : Verb) → called j ≡ called k → j ≡ k
same-call j k e = sym (back-called j) ∙ ap back e ∙ back-called k

-- a slot's value is what stands after the name
same-value : (s : Slot) (w u v : List ℕ) → w ≡ label s ++ u → w ≡ label s ++ v → u ≡ v
same-value s w u v p q = append_cancel_left (label s) u v (sym p ∙ q)

one-fault-after : {end : ℕ} {ss : List Slot} {fs : List Field} {f g : Fault} → Fails end ss fs f → Fails end ss fs g → f ≡ g
one-fault-after missing missing = refl
one-fault-after extra extra = refl
one-fault-after (misnamed no_name) (misnamed b) = refl
one-fault-after (misnamed no_name) (unfit v e b) = absurd (no_name v e)
one-fault-after (misnamed no_name) (later v e t w) = absurd (no_name v e)
one-fault-after (unfit v e a) (misnamed no_name) = absurd (no_name v e)
one-fault-after (unfit v e a) (unfit u d b) = refl
one-fault-after (unfit {s = s} v e a) (later u d t w) = absurd (a (subst (Takes s) (same-value s _ u v d e) t))
one-fault-after (later v e t w) (misnamed no_name) = absurd (no_name v e)
one-fault-after (later {s = s} v e t w) (unfit u d b) = absurd (b (subst (Takes s) (same-value s _ v u e d) t))
one-fault-after (later v e t w) (later u d r x) = one-fault-after w x

-- the list has one first field
same_front : (fs : List Field) (x y : Field) (xs ys : List Field) → fs ≡ x ∷ xs → fs ≡ y ∷ ys → (x ≡ y) × (xs ≡ ys)
same_front fs x y xs ys p q = (cc, cc)

one-fault : (line : List ℕ) {f g : Fault} → Wrong line f → Wrong line g → f ≡ g
one-fault line (uncalled a) (uncalled b) = refl
one-fault line (uncalled a) (faulty k x xs e n w) = absurd (a k x xs e n)
one-fault line (faulty k x xs e n w) (uncalled b) = absurd (b k x xs e n)
one-fault line {f} {g} (faulty k x xs e n w) (faulty j y ys d m v) =
    let same = same_front _ y x ys xs d e in
    let call : j ≡ k = same-call j k (sym m ∙ ap (λ z. z.bytes) same.0 ∙ n) in
    let there : Fails (length line) (slots k) xs g = subst (λ z. Fails (length line) (slots k) z g) same.1 (subst (λ z. Fails (length line) (slots z) ys g) call v) in
    one-fault-after w there

-- each value is one that its slot takes
abbrev pub Fit : List Slot → List (List ℕ) → Type 0
Fit [] [] = Unit {0}
Fit [] (v ∷ vs) = ⊥
Fit (s ∷ ss) [] = ⊥
Fit (s ∷ ss) (v ∷ vs) = Takes s v × Fit ss vs

pub fit : (c : Instruction) → Sound c → Fit (slots (verb_of c)) (values_of c)
fit (opens t h d b) s = ((t, s.0, refl), (s.1, ((d, s.2, refl), ((b, refl), tt))))
fit (begins t) s = ((t, s, refl), tt)
fit (reads t k) s = ((t, s.0, refl), ((k, s.1, refl), tt))
fit (drafts t k v) s = ((t, s.0, refl), ((k, s.1, refl), ((v, s.2, refl), tt)))
fit (closes t) s = ((t, s, refl), tt)
fit (drops t) s = ((t, s, refl), tt)
fit (delivers m) s = ((m, s, refl), tt)

no_fault_after : {end : ℕ} {ss : List Slot} {fs : List Field} {f : Fault} (vs : List (List ℕ)) → Fit ss vs → texts fs ≡ filled ss vs → Fails end ss fs f → ⊥
no_fault_after [] h e missing = absurd h
no_fault_after (v ∷ vs) h e missing = cc
no_fault_after [] h e extra = cc
no_fault_after (v ∷ vs) h e extra = absurd h
no_fault_after [] h e (misnamed a) = absurd h
no_fault_after (v ∷ vs) h e (misnamed a) = a v (cc)
no_fault_after [] h e (unfit u n a) = absurd h
no_fault_after (v ∷ vs) h e (unfit {s = s} {x = x} u n a) = a (subst (Takes s) (same-value s x.bytes v u (cc) n) h.0)
no_fault_after [] h e (later u n t w) = absurd h
no_fault_after (v ∷ vs) h e (later u n t w) = no_fault_after vs h.1 (cc) w

not_both : (line : List ℕ) (c : Instruction) (f : Fault) → Says line c → Wrong line f → ⊥
not_both line c f s (uncalled a) = a (verb_of c) _ _ (ap (placed 0) s.words) refl
not_both line c f s (faulty k x xs e n w) =
    let same = same_front _ x _ xs _ e (ap (placed 0) s.words) in
    let call : k ≡ verb_of c = same-call k (verb_of c) (sym n ∙ ap (λ z. z.bytes) same.0) in
    no_fault_after (values_of c) (fit c s.sound) (ap texts same.1 ∙ texts-placed _ _) (subst (λ z. Fails (length line) (slots z) xs f) call w)

same_values : (ss : List Slot) (vs us : List (List ℕ)) → Fit ss vs → Fit ss us → filled ss vs ≡ filled ss us → vs ≡ us
same_values [] [] [] h k e = refl
same_values [] [] (u ∷ us) h k e = absurd k
same_values [] (v ∷ vs) us h k e = absurd h
same_values (s ∷ ss) [] us h k e = absurd h
same_values (s ∷ ss) (v ∷ vs) [] h k e = absurd k
same_values (s ∷ ss) (v ∷ vs) (u ∷ us) h k e =
    let first : v ≡ u = same-value s _ v u refl (cc) in
    let others : vs ≡ us = same_values ss vs us h.1 k.1 (cc) in
    cc

number_at : List (List ℕ) → ℕ → ℕ
number_at vs i = digits_value 10 (get_or vs i [])

-- the kind of book that a word names, by its first byte
book_of : List ℕ → BookKind
book_of w = cond (eqb (get_or w 0 0) 106) Journal Rows

book-back : (b : BookKind) → book_of (book_word b) ≡ b
unfolding book_of
book-back Journal = refl
book-back Rows = refl

-- the command of a call and its values
unwritten : Verb → List (List ℕ) → Instruction
unwritten Open vs = opens (number_at vs 0) (get_or vs 1 []) (number_at vs 2) (book_of (get_or vs 3 []))
unwritten Begin vs = begins (number_at vs 0)
unwritten Read vs = reads (number_at vs 0) (number_at vs 1)
unwritten Draft vs = drafts (number_at vs 0) (number_at vs 1) (number_at vs 2)
unwritten Close vs = closes (number_at vs 0)
unwritten Drop vs = drops (number_at vs 0)
unwritten Deliver vs = delivers (number_at vs 0)

unwritten_values : (c : Instruction) → Sound c → unwritten (verb_of c) (values_of c) ≡ c
unfolding unwritten number_at
unwritten_values (opens t h d b) s = rw (digits_value-decimal own t (omega arith), digits_value-decimal own d (omega arith), book-back b)
unwritten_values (begins t) s = ap begins (digits_value-decimal own t (omega arith))
unwritten_values (reads t k) s = rw (digits_value-decimal own t (omega arith), digits_value-decimal own k (omega arith))
unwritten_values (drafts t k v) s = rw (digits_value-decimal own t (omega arith), digits_value-decimal own k (omega arith), digits_value-decimal own v (omega arith))
unwritten_values (closes t) s = ap closes (digits_value-decimal own t (omega arith))
unwritten_values (drops t) s = ap drops (digits_value-decimal own t (omega arith))
unwritten_values (delivers m) s = ap delivers (digits_value-decimal own m (omega arith))

one_command : (line : List ℕ) (c d : Instruction) → Says line c → Says line d → c ≡ d
one_command line c d s r =
    let both = sym s.words ∙ r.words in
    let call : verb_of c ≡ verb_of d = same-call (verb_of c) (verb_of d) (cc) in
    let vals : values_of c ≡ values_of d = same_values (slots (verb_of c)) (values_of c) (values_of d) (fit c s.sound) (rw call (fit d r.sound)) (cc) in
    let this = unwritten_values c s.sound in
    let that = unwritten_values d r.sound in
    cc

pub one_meaning : (line : List ℕ) {q r : Result Instruction Fault} → Means line q → Means line r → q ≡ r
one_meaning line (too_long h) (too_long k) = refl
one_meaning line (too_long h) (says k d) = absurd (omega arith)
one_meaning line (too_long h) (wrong k g) = absurd (omega arith)
one_meaning line (says h c) (too_long k) = absurd (omega arith)
one_meaning line (says h c) (says k d) = ap Ok (one_command line _ _ c d)
one_meaning line (says h c) (wrong k g) = absurd (not_both line _ _ c g)
one_meaning line (wrong h f) (too_long k) = absurd (omega arith)
one_meaning line (wrong h f) (says k d) = absurd (not_both line _ _ d f)
one_meaning line (wrong h f) (wrong k g) = ap Err (one-fault line f g)
