-- What reading answers, from the function that it computes.
use Rattle.std.proofs.Common.{◌≡◌, ℕ, ◌≤◌, Bool, true, false, cond, ◌&&◌, eqb, ltb, leb, List, [], ◌∷◌, map, length, IfOk, Some, None, Ok, Err, Decides, Option, Result, sym, refl, ap, ◌∙◌, subst, inl, inr, arith}
use lib.ListN.{length-map}
use Rattle.std.proofs.lemmas.Bool.{true≢false, and_parts, and_from, and_left, cases_Bool, le-leb, lt-ltb, le-ltb, eqb-true, eq-eqb, ne_eqb, cond-true, cond-false}
use Rattle.faults.specs.Table.{plain}
use Rattle.faults.specs.declared.Fault.{Fault}
use Rattle.faults.specs.declared.Cause.TheVariants.{Length as WrongLength, Kind as WrongKind, FrameField as WrongField}
use Rattle.clocks.specs.Clocks.{tower_limit}
use Rattle.messages.specs.Limits.{line_limit}
use Rattle.frames.specs.Sizes.{fixed_size, frame_size}
use Rattle.messages.specs.Drafting.{counted}
use Rattle.messages.specs.Table.{kind_number, kind_at, allows, kind_of, draft_line, lines_of}
use Rattle.frames.specs.Layout.{frame_of}
use Rattle.messages.specs.Rules.{fit_drafts, fit_body, valid, Places, Typed, HasFrame}
use Rattle.frames.specs.Candidate.{kind_byte, count_byte, message_at}
use Rattle.frames.specs.Answers.{framed, bytes_of, written, SizedAs, Reads, OneMessage, sized_as, sized_of, same, is_frame, candidate, read_as, read_of}
use Rattle.messages.specs.declared.Drafts.{Drafts}
use Rattle.messages.specs.declared.Kind.{Kind}
use Rattle.messages.specs.declared.Kind.TheVariants.{Query as QueryKind, Answer as AnswerKind, Prepare as PrepareKind, Vote as VoteKind, Outcome as OutcomeKind}
use Rattle.messages.specs.declared.Body.{Body}
use Rattle.messages.specs.declared.Body.TheVariants.{Query, Answer, Prepare, Vote, Outcome}
use Rattle.messages.specs.declared.Message.{Message}
use Rattle.frames.specs.declared.hold.Frame.{Frame}
use Rattle.messages.proofs.Fitting.{few, count_is, rules_of}
use Rattle.frames.proofs.Adding.{shown-bytes}
use Rattle.frames.proofs.Inverse.{frame_length, message-back}

-- kinds and their numbers
kind_at_lem : (k : Kind) → kind_at (kind_number k) ≡ Some k
kind_at_lem QueryKind = refl
kind_at_lem AnswerKind = refl
kind_at_lem PrepareKind = refl
kind_at_lem VoteKind = refl
kind_at_lem OutcomeKind = refl

kind_of_lem : (n : ℕ) (k : Kind) → kind_number k ≡ n → kind_at n ≡ Some k
kind_of_lem n k e = ap kind_at (sym e) ∙ kind_at_lem k

no_kind : (n : ℕ) → ((k : Kind) → kind_number k ≡ n → ⊥) → kind_at n ≡ None
no_kind n h =
    let a : eqb n 1 ≡ false = ne_eqb n 1 (λ e. h QueryKind (sym e)) in
    let b : eqb n 2 ≡ false = ne_eqb n 2 (λ e. h AnswerKind (sym e)) in
    let c : eqb n 3 ≡ false = ne_eqb n 3 (λ e. h PrepareKind (sym e)) in
    let d : eqb n 4 ≡ false = ne_eqb n 4 (λ e. h VoteKind (sym e)) in
    let f : eqb n 5 ≡ false = ne_eqb n 5 (λ e. h OutcomeKind (sym e)) in
    rw (a, b, c, d, f)

-- a message that keeps the rules has a number of lines that its kind allows
drafts_count : (d : Drafts) → fit_drafts d ≡ true → length d.items ≡ line_limit → length (map draft_line (counted d)) ≡ d.len
drafts_count d h p = length-map (counted d) draft_line ∙ count_is d h p

allowed : (b : Body) → fit_body b ≡ true → Places b → allows (kind_of b) (length (lines_of b)) ≡ true
allowed (Query key first) h p = refl
allowed (Answer key shown) h p = refl
allowed (Prepare d) h p =
    let a = and_parts (leb 1 d.len) (fit_drafts d) h in
    ap (λ n. leb 1 n && leb n line_limit) (drafts_count d a.1 p)
    ∙ and_from (leb 1 d.len) (leb d.len line_limit) a.0 (le-leb d.len line_limit (few d a.1 p))
allowed (Vote None) h p = refl
allowed (Vote (Some o)) h p = refl
allowed (Outcome (Some g)) h p =
    let a = and_parts (leb 1 g.number) (fit_drafts g.drafts) h in
    ap (λ n. leb n line_limit) (drafts_count g.drafts a.1 p) ∙ le-leb g.drafts.len line_limit (few g.drafts a.1 p)
allowed (Outcome None) h p = refl

-- bytes of the length of their kind
module _ (bs : List ℕ) (long : fixed_size tower_limit ≤ length bs) where
  sized_by : (o : Option Kind) → kind_at (kind_byte bs) ≡ o → sized_of bs ≡ sized_as bs o
  sized_by o e = cond-false (ltb (length bs) (fixed_size tower_limit)) (Err (plain WrongLength)) (sized_as bs (kind_at (kind_byte bs))) (le-ltb (length bs) (fixed_size tower_limit) long) ∙ ap (sized_as bs) e

  sized_ok : (k : Kind) → kind_number k ≡ kind_byte bs → SizedAs k bs → sized_of bs ≡ Ok k
  sized_ok k e s =
      sized_by (Some k) (kind_of_lem (kind_byte bs) k e)
      ∙ cond-true (allows k (count_byte bs) && eqb (length bs) (frame_size tower_limit (count_byte bs))) (Ok k) (Err (plain WrongLength)) (and_from _ _ s.0 (eq-eqb _ _ s.1))

  sized_not : (k : Kind) → kind_number k ≡ kind_byte bs → (SizedAs k bs → ⊥) → sized_of bs ≡ Err (plain WrongLength)
  sized_not k e s =
      let t : Bool = allows k (count_byte bs) && eqb (length bs) (frame_size tower_limit (count_byte bs)) in
      let wrong : t ≡ false = elim (cases_Bool t) [
        | inl fits ↦ let a = and_parts (allows k (count_byte bs)) (eqb (length bs) (frame_size tower_limit (count_byte bs))) fits in absurd (s (a.0, eqb-true _ _ a.1))
        | inr fails ↦ fails
      ] in
      sized_by (Some k) (kind_of_lem (kind_byte bs) k e) ∙ cond-false t (Ok k) (Err (plain WrongLength)) wrong

pub frame_sized : (m : Message) → HasFrame m → sized_of (frame_of m) ≡ Ok (kind_of m.body)
unfolding frame_of
frame_sized m h =
    let r = rules_of m h.rules in
    let n = frame_length m tower_limit h.typed.entries in
    sized_ok (frame_of m) (omega (arith, n)) (kind_of m.body) refl (allowed m.body r.body h.typed.places, n)

-- equal lists of bytes
same_refl : (xs : List ℕ) → same xs xs ≡ true
same_refl [] = refl
same_refl (x ∷ xs) = and_from (eqb x x) (same xs xs) (eq-eqb x x refl) (same_refl xs)

same_true : (xs ys : List ℕ) → same xs ys ≡ true → xs ≡ ys
same_true [] [] h = refl
same_true [] (y ∷ ys) h = absurd (true≢false (sym h))
same_true (x ∷ xs) [] h = absurd (true≢false (sym h))
same_true (x ∷ xs) (y ∷ ys) h =
    let p = and_parts (eqb x y) (same xs ys) h in
    ap (λ z. z ∷ xs) (eqb-true x y p.0) ∙ ap (λ zs. y ∷ zs) (same_true xs ys p.1)

pub is_frame_lem : (m : Message) (bs : List ℕ) → valid m ≡ true → frame_of m ≡ bs → is_frame m bs ≡ true
unfolding is_frame
is_frame_lem m bs v e = and_from (valid m) (same (frame_of m) bs) v (ap (same (frame_of m)) (sym e) ∙ same_refl (frame_of m))

pub frame_is : (m : Message) (bs : List ℕ) → is_frame m bs ≡ true → (valid m ≡ true) × (frame_of m ≡ bs)
unfolding is_frame
frame_is m bs h = let p = and_parts (valid m) (same (frame_of m) bs) h in (p.0, same_true (frame_of m) bs p.1)

-- what reading answers, by the length and kind of the bytes
read_by : (bs : List ℕ) (s : Result Kind Fault) → sized_of bs ≡ s → read_of bs ≡ read_as bs s
unfolding read_of
read_by bs s e = ap (read_as bs) e

-- a frame gives its message
pub back : (bs : List ℕ) (m : Message) → HasFrame m → frame_of m ≡ bs → read_of bs ≡ Ok m
back bs m h e =
    let k : Kind = kind_of m.body in
    let kind : sized_of bs ≡ Ok k = ap sized_of (sym e) ∙ frame_sized m h in
    let same-message : message_at tower_limit k bs ≡ m = ap (message_at tower_limit k) (sym e) ∙ message-back m tower_limit h.typed.entries h.typed h.rules in
    read_by bs (Ok k) kind
    ∙ ap (λ x. candidate x bs) same-message
    ∙ cond-true (is_frame m bs) (Ok m) (Err (plain WrongField)) (is_frame_lem m bs h.rules e)

-- nothing else gives one, if the types of the fields hold of each message that is read
module _ (bs : List ℕ) (typed : (m : Message) → read_of bs ≡ Ok m → Typed m) where
  only_frame : (c m : Message) (b : Bool) → is_frame c bs ≡ b → ◌≡◌ {A = Result Message Fault} (cond b (Ok c) (Err (plain WrongField))) (Ok m) → (valid m ≡ true) × (frame_of m ≡ bs)
  only_frame c m true f e = let is : c ≡ m = cc in subst (λ (x : Message). (valid x ≡ true) × (frame_of x ≡ bs)) is (frame_is c bs f)
  only_frame c m false f e = absurd (let z : ◌≡◌ {A = ℕ} 0 1 = cc in let w : ⊥ = omega arith in w)

  only_by : (m : Message) (s : Result Kind Fault) → read_as bs s ≡ Ok m → (valid m ≡ true) × (frame_of m ≡ bs)
  only_by m (Err f) e = absurd (let z : ◌≡◌ {A = ℕ} 0 1 = cc in let w : ⊥ = omega arith in w)
  only_by m (Ok k) e = only_frame (message_at tower_limit k bs) m (is_frame (message_at tower_limit k bs) bs) refl e

  only : (m : Message) → read_of bs ≡ Ok m → HasFrame m × (frame_of m ≡ bs)
  only m e = let p = only_by m (sized_of bs) (sym (read_by bs (sized_of bs) refl) ∙ e) in (record { typed = typed m e; rules = p.0 }, p.1)

  broken : (k : Kind) → sized_of bs ≡ Ok k → ((m : Message) → HasFrame m → frame_of m ≡ bs → ⊥) → read_of bs ≡ Err (plain WrongField)
  broken k s none =
      let c : Message = message_at tower_limit k bs in
      let other : is_frame c bs ≡ false = elim (cases_Bool (is_frame c bs)) [
        | inl fits ↦
            let told : read_of bs ≡ Ok c = read_by bs (Ok k) s ∙ cond-true (is_frame c bs) (Ok c) (Err (plain WrongField)) fits in
            let p = only c told in
            absurd (none c p.0 p.1)
        | inr fails ↦ fails
      ] in
      read_by bs (Ok k) s ∙ cond-false (is_frame c bs) (Ok c) (Err (plain WrongField)) other

  reads : Reads bs (read_of bs)
  reads = record {
    back = back bs;
    only = only;
    short = λ h. read_by bs (Err (plain WrongLength)) (cond-true (ltb (length bs) (fixed_size tower_limit)) (Err (plain WrongLength)) (sized_as bs (kind_at (kind_byte bs))) (lt-ltb (length bs) (fixed_size tower_limit) h));
    unknown = λ h none. read_by bs (Err (plain WrongKind)) (sized_by bs h None (no_kind (kind_byte bs) none));
    unsized = λ h k e s. read_by bs (Err (plain WrongLength)) (sized_not bs h k e s);
    broken = λ h k e s none. broken k (sized_ok bs h k e s) none;
  }

typed_by : (bs : List ℕ) (r : Result Message Fault) → r ≡ read_of bs → IfOk r (λ m. Typed m) → (m : Message) → read_of bs ≡ Ok m → Typed m
typed_by bs (Ok x) e t m h = let is : x ≡ m = cc in subst Typed is t
typed_by bs (Err f) e t m h = absurd (let z : ◌≡◌ {A = ℕ} 0 1 = cc in let w : ⊥ = omega arith in w)

pub read_answers : (bs : List ℕ) (r : Result Message Fault) → r ≡ read_of bs → IfOk r (λ m. Typed m) → Reads bs r
read_answers bs r e t = subst (Reads bs) (sym e) (reads bs (typed_by bs r e t))

-- how the code comes to the answer
module _ (bs : List ℕ) where
  pub read-refused : (f : Fault) → ◌≡◌ {A = Result Kind Fault} (Err f) (sized_of bs) → Err f ≡ read_of bs
  read-refused f e = sym (read_by bs (Err f) (sym e))

  pub read-candidate : (k : Kind) (m : Message) (b : Bool) → ◌≡◌ {A = Result Kind Fault} (Ok k) (sized_of bs) → m ≡ message_at tower_limit k bs → b ≡ is_frame m bs → cond b (Ok m) (Err (plain WrongField)) ≡ read_of bs
  read-candidate k m b s e f =
      let pick : Bool → Result Message Fault = λ x. cond x (Ok m) (Err (plain WrongField)) in
      ap pick f ∙ ap (λ x. candidate x bs) e ∙ sym (read_by bs (Ok k) (sym s))

-- two messages with one frame are one message
pub one-message : OneMessage
one-message a b h k e =
    let left = message-back a tower_limit h.typed.entries h.typed h.rules in
    let right = message-back b tower_limit k.typed.entries k.typed k.rules in
    let kind : ◌≡◌ {A = Result Kind Fault} (Ok (kind_of a.body)) (Ok (kind_of b.body)) = sym (frame_sized a h) ∙ ap sized_of e ∙ frame_sized b k in
    let same_kind : kind_of a.body ≡ kind_of b.body = cc in
    sym left ∙ ap (λ x. message_at tower_limit x (frame_of a)) same_kind ∙ ap (message_at tower_limit (kind_of b.body)) e ∙ right

-- the test of the code, by what writing answered
bool_same : (r q : Bool) → (r ≡ true → q ≡ true) → (q ≡ true → r ≡ true) → r ≡ q
bool_same true q f g = sym (f refl)
bool_same false true f g = g refl
bool_same false false f g = refl

frame_valid : (m : Message) (f : Frame) (b : Bool) → valid m ≡ b → ◌≡◌ {A = Result Frame Fault} (Ok f) (cond b (Ok (framed (frame_of m))) (Err (plain WrongField))) → (valid m ≡ true) × (f ≡ framed (frame_of m))
frame_valid m f true v e = (v, cc)
frame_valid m f false v e = absurd (let z : ◌≡◌ {A = ℕ} 0 1 = cc in let w : ⊥ = omega arith in w)

frame_invalid : (m : Message) (f : Fault) (b : Bool) → valid m ≡ b → ◌≡◌ {A = Result Frame Fault} (Err f) (cond b (Ok (framed (frame_of m))) (Err (plain WrongField))) → valid m ≡ false
frame_invalid m f true v e = absurd (let z : ◌≡◌ {A = ℕ} 0 1 = cc in let w : ⊥ = omega arith in w)
frame_invalid m f false v e = v

pub frame_told : (m : Message) (bs : List ℕ) (f : Frame) (r : Bool) → Ok f ≡ written m → (shown : List ℕ) → shown ≡ bytes_of f → Decides r (shown ≡ bs) → r ≡ is_frame m bs
unfolding is_frame
frame_told m bs f r w shown s d =
    let p = frame_valid m f (valid m) refl w in
    let bytes : shown ≡ frame_of m = s ∙ shown-bytes f (frame_of m) p.1 in
    bool_same r (valid m && same (frame_of m) bs)
    (λ e. and_from (valid m) (same (frame_of m) bs) p.0 (ap (same (frame_of m)) (sym (d.0 e) ∙ bytes) ∙ same_refl (frame_of m)))
    (λ e. d.1 (bytes ∙ same_true (frame_of m) bs (and_parts (valid m) (same (frame_of m) bs) e).1))

pub unwritten_told : (m : Message) (bs : List ℕ) (f : Fault) → Err f ≡ written m → false ≡ is_frame m bs
unfolding is_frame
unwritten_told m bs f w = sym (and_left (valid m) (same (frame_of m) bs) (frame_invalid m f (valid m) refl w))

-- what is written reads back
pub written_back : (m : Message) (f : Frame) → HasFrame m → f ≡ framed (frame_of m) → read_of (bytes_of f) ≡ Ok m
written_back m f h e = back (bytes_of f) m h (sym (shown-bytes f (frame_of m) e))
