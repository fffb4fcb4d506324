-- What is wrong with a line, field by field.
use Rattle.std.proofs.Common.{◌≡◌, ℕ, ◌^◌, ◌<◌, ◌≤◌, List, [], ◌∷◌, ◌++◌, length, IsErrAnd, Ok, Err, decimal, Result, refl, ap, ◌∙◌, subst, MatchResult}
use Rattle.std.specs.Str.Parse.{AllDigits}
use Rattle.faults.specs.declared.Cause.TheVariants.{Call, ScriptField, Size}
use Rattle.faults.specs.declared.Fault.{Fault}
use Rattle.faults.specs.Table.{plain}
use Rattle.words.specs.declared.BookKind.{BookKind}
use Rattle.words.specs.declared.Name.{Name}
use Rattle.words.specs.declared.Name.TheVariants.{Homes, Book}
use Rattle.words.specs.declared.Verb.{Verb}
use Rattle.words.specs.Words.{NoNumber, book_word, named}
use Rattle.script.specs.Grammar.{Fails, Slot, Takes, Uncalled, blame, called, fault, fields_of, label, slots, words_of}
use Rattle.script.specs.Grammar.Fails.{missing, extra, misnamed, unfit, later}
use Rattle.script.specs.Grammar.Slot.{a_number, some_homes, a_book}
use Rattle.script.specs.Grammar.Wrong.{uncalled, faulty}
use Rattle.script.specs.Limits.{text_limit}
use Rattle.script.specs.Lines.{Means, meant}
use Rattle.script.specs.Lines.Means.{too_long, says, wrong}
use Rattle.script.specs.Readers.{Bad, BadAt, BadName, Ended, Reads, Starts, Took, rest, texts}
use Rattle.script.specs.declared.Command.{Command}
use Rattle.script.specs.declared.fields.Fields.{Fields}
use Rattle.script.proofs.Cuts.{left_all, texts-placed}

module _ {r s : Fields} where
  pub is_missing : {f : Fault} (n : Name) → Ended r s → f ≡ fault ScriptField (length s.line.now) → BadName r n f
  is_missing n e is k same ss = rw (is, e.same, e.none) missing

  pub is_misnamed : {f : Fault} {at : ℕ} {w : List ℕ} (n : Name) → (at ≡ r.at) × Took r s w → f ≡ fault ScriptField at → ((v : List ℕ) → w ≡ named n ++ v → ⊥) → BadName r n f
  is_misnamed n t is other k same ss = rw (is, t.0, t.1.field) (misnamed (λ v e. other v (e ∙ ap (λ l. l ++ v) same)))

  pub is_unfit : {f : Fault} {at : ℕ} (k : Slot) (v : List ℕ) → (at ≡ r.at) × Took r s (label k ++ v) → f ≡ fault (blame k) at → (Takes k v → ⊥) → BadAt r k f
  is_unfit k v t is never ss = rw (is, t.0, t.1.field) (unfit v refl never)

  pub is_extra : {f : Fault} {at : ℕ} {w : List ℕ} → (at ≡ r.at) × Took r s w → f ≡ fault ScriptField at → Bad r [] f
  is_extra t is = rw (is, t.0, t.1.field) extra

  then : {ss : List Slot} {f : Fault} (k : Slot) (v : List ℕ) → Took r s (label k ++ v) → Takes k v → Bad s ss f → Bad r (k ∷ ss) f
  then {ss} {f} k v t fits bad = rw t.field (later v refl fits (subst (λ n. Fails n ss (rest s) f) (ap length t.same) bad))

  pub then-number : {ss : List Slot} {f : Fault} (n : Name) (m : ℕ) → Took r s (named n ++ decimal m) → m < 2 ^ 32 → Bad s ss f → Bad r (a_number n ∷ ss) f
  then-number n m t small bad = then (a_number n) (decimal m) t (m, small, refl) bad

  pub then_homes : {ss : List Slot} {f : Fault} (v : List ℕ) → AllDigits 10 v × Took r s (named Homes ++ v) → Bad s ss f → Bad r (some_homes ∷ ss) f
  then_homes v t bad = then some_homes v t.1 t.0 bad

  pub then-book : {ss : List Slot} {f : Fault} (b : BookKind) → Took r s (named Book ++ book_word b) → Bad s ss f → Bad r (a_book ∷ ss) f
  then-book b t bad = then a_book (book_word b) t (b, refl) bad

pub no_number : (n : Name) (v : List ℕ) → NoNumber v → Takes (a_number n) v → ⊥
no_number n v none t = none t.0 t.1 t.2

pub no_book : (v : List ℕ) → ((b : BookKind) → v ≡ book_word b → ⊥) → Takes a_book v → ⊥
no_book v none t = none t.0 t.1

-- what a `?` hands on
pub at_break : {T : Type 0} (P : T → Type 0) (Q : Fault → Type 0) (r : Result T Fault) (f : Fault) → IsErrAnd r (λ y. y ≡ f) → Q f → MatchResult r P Q
at_break P Q (Ok c) f e bad = absurd e
at_break P Q (Err y) f e bad = rw e bad

pub too_long_lem : (line : List ℕ) (f : Fault) → text_limit < length line → f ≡ plain Size → Means line (Err f)
too_long_lem line f h is = rw is (too_long h)

-- from the fields to the line: r is at its start, and s after the call
module _ (line : List ℕ) (short : length line ≤ text_limit) (r : Fields) (begun : Starts line r) where
  pub not_called : (f : Fault) → f ≡ fault Call 0 → Uncalled (rest r) → Means line (Err f)
  not_called f is none = rw is (wrong short (uncalled (rw (left_all r.line.now line r.at begun.same begun.start) at none)))

  front : (s : Fields) (k : Verb) → Took r s (called k) → fields_of line ≡ record { start = 0; bytes = called k } ∷ rest s
  front s k t =
      let whole = left_all r.line.now line r.at begun.same begun.start in
      let first = t.field in
      let start = begun.start in
      cc

  pub read_line : (s : Fields) (k : Verb) (q : Result Command Fault) → Took r s (called k) → Reads s k q → Means line (meant q)
  read_line s k (Ok c) t h =
      let call = h.0 in
      let fills = h.1 in
      let all = texts-placed 0 (words_of line) in
      let first = ap texts (front s k t) in
      says short record { words = cc; sound = h.2 }
  read_line s k (Err f) t h = wrong short (faulty k _ _ (front s k t) refl (subst (λ n. Fails n (slots k) (rest s) f) (ap length (t.same ∙ begun.same)) h))
