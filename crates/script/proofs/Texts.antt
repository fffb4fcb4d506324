-- A line says a command exactly where it is the command's text.
use Rattle.std.proofs.Common.{◌≡◌, ℕ, ◌^◌, ◌<◌, Bool, true, false, not, eqb, get_or, List, [], ◌∷◌, decimal, Result, sym, refl, ap, ◌∙◌, subst, append_assoc, arith, ne_eqb}
use Rattle.std.specs.Str.Parse.{AllDigits}
use Rattle.std.proofs.lemmas.Fmt.{digits_decimal}
use Rattle.std.specs.List.{join_with_byte, list_all}
use Rattle.std.proofs.lemmas.Bool.{not-true}
use Rattle.std.proofs.lemmas.Grind.{get_or_default_zero}
use Rattle.std.proofs.lemmas.List.Elements.{All-append}
use Rattle.std.proofs.lemmas.List.Splits.{join_with_byte-slice_split}
use Rattle.std.proofs.lemmas.List.Sums.{AllPass-from_list_all}
use Rattle.std.proofs.lemmas.Str.Parse.{digit_at}
use Rattle.faults.specs.declared.Fault.{Fault}
use Rattle.words.specs.declared.BookKind.TheVariants.{Journal, Rows}
use Rattle.words.specs.declared.Name.{Name}
use Rattle.words.specs.declared.Name.TheVariants.{Towers, Homes, Depth, Book, Tower, Tx, Key, Value, Msg}
use Rattle.words.specs.declared.Verb.{Verb}
use Rattle.words.specs.declared.Verb.TheVariants.{Open, Begin, Read, Draft, Close, Drop, Deliver}
use Rattle.words.specs.Words.{book_word, named}
use Rattle.words.proofs.Numbers.{own}
use Rattle.script.specs.Grammar.{Instruction, Says, Slot, Sound, Takes, called, filled, label, slots, values_of, verb_of, words_of}
use Rattle.script.specs.Grammar.Instruction.{opens, begins, reads, drafts, closes, drops, delivers}
use Rattle.script.specs.Grammar.Slot.{a_number, some_homes, a_book}
use Rattle.script.specs.Lines.{Means, ReadBack, Spelled, text_of}
use Rattle.script.specs.Lines.Means.{too_long, says, wrong}
use Rattle.script.proofs.Cuts.{Free, words_free, words_front, words_split}
use Rattle.script.proofs.Once.{Fit, fit, one_meaning}

-- words, parted by blanks
abbrev join : List (List ℕ) → List ℕ
join ws = join_with_byte 32 ws

join-words : (bs : List ℕ) → join (words_of bs) ≡ bs
join-words bs = ap join (words_split bs) ∙ join_with_byte-slice_split 32 bs

abbrev Frees : List (List ℕ) → Type 0
Frees [] = Unit {0}
Frees (w ∷ ws) = Free 32 w × Frees ws

words-join : (w : List ℕ) (ws : List (List ℕ)) → Frees (w ∷ ws) → words_of (join (w ∷ ws)) ≡ w ∷ ws
words-join w [] f = words_free w f.0
words-join w (v ∷ ws) f = words_front w (join (v ∷ ws)) f.0 ∙ ap (λ l. w ∷ l) (words-join v ws f.1)

free_digits : (ds : List ℕ) → AllDigits 10 ds → Free 32 ds
free_digits ds d = λ k x h. ne_eqb (get_or ds k x) 32 (λ e. omega (arith, digit_at ds k d h, get_or_default_zero ds k x h))

free_decimal : (n : ℕ) → n < 2 ^ 32 → Free 32 (decimal n)
free_decimal n h = free_digits (decimal n) (digits_decimal own n (omega arith))

text_is : (c : Instruction) → text_of c ≡ join (called (verb_of c) ∷ filled (slots (verb_of c)) (values_of c))
text_is (opens t h d b) = simp append_assoc
text_is (begins t) = simp append_assoc
text_is (reads t k) = simp append_assoc
text_is (drafts t k v) = simp append_assoc
text_is (closes t) = simp append_assoc
text_is (drops t) = simp append_assoc
text_is (delivers m) = simp append_assoc

blankless : List ℕ → Bool
blankless w = list_all (λ b. not (eqb b 32)) w

lit : (w : List ℕ) → blankless w ≡ true → Free 32 w
unfolding blankless
lit w e = λ k d h. not-true _ (AllPass-from_list_all (λ b. not (eqb b 32)) w e k d h)

free-call : (k : Verb) → blankless (called k) ≡ true
unfolding blankless
free-call Open = refl
free-call Begin = refl
free-call Read = refl
free-call Draft = refl
free-call Close = refl
free-call Drop = refl
free-call Deliver = refl

free_name : (n : Name) → blankless (named n) ≡ true
unfolding blankless
free_name Towers = refl
free_name Homes = refl
free_name Depth = refl
free_name Book = refl
free_name Tower = refl
free_name Tx = refl
free_name Key = refl
free_name Value = refl
free_name Msg = refl

free-label : (s : Slot) → Free 32 (label s)
free-label (a_number n) = lit (named n) (free_name n)
free-label some_homes = lit (named Homes) (free_name Homes)
free-label a_book = lit (named Book) (free_name Book)

free_taken : (s : Slot) (v : List ℕ) → Takes s v → Free 32 v
unfolding blankless
free_taken (a_number n) v t = rw t.2 (free_decimal t.0 t.1)
free_taken some_homes v t = free_digits v t
free_taken a_book v (Journal, e) = rw e (lit (book_word Journal) refl)
free_taken a_book v (Rows, e) = rw e (lit (book_word Rows) refl)

free-filled : (ss : List Slot) (vs : List (List ℕ)) → Fit ss vs → Frees (filled ss vs)
free-filled [] vs f = tt
free-filled (s ∷ ss) [] f = tt
free-filled (s ∷ ss) (v ∷ vs) f = (All-append (λ b. eqb b 32 ≡ false) (label s) v (free-label s) (free_taken s v f.0), free-filled ss vs f.1)

says_text : (line : List ℕ) (c : Instruction) → Says line c → line ≡ text_of c
says_text line c s = sym (join-words line) ∙ ap join s.words ∙ sym (text_is c)

text_says : (c : Instruction) → Sound c → Says (text_of c) c
text_says c s = record {
  words = ap words_of (text_is c) ∙ words-join _ _ (lit (called (verb_of c)) (free-call (verb_of c)), free-filled (slots (verb_of c)) (values_of c) (fit c s));
  sound = s;
}

pub spelled : (line : List ℕ) {r : Result Instruction Fault} → Means line r → Spelled line r
spelled line (too_long h) = tt
spelled line (says {c} h s) = says_text line c s
spelled line (wrong h w) = tt

pub read_back : (line : List ℕ) {r : Result Instruction Fault} → Means line r → ReadBack line r
read_back line m c s h e = one_meaning line m (says h (subst (λ l. Says l c) (sym e) (text_says c s)))
