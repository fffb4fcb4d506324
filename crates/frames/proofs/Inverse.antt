-- What is taken from the frame of a message is that message.
use Rattle.std.proofs.Common.{◌≡◌, ℕ, ◌+◌, ◌*◌, ◌/◌, ◌%◌, ◌^◌, ◌<◌, true, false, leb, List, [], ◌∷◌, ◌++◌, map, length, drop, Some, None, sym, refl, ap, ◌∙◌, append_assoc, append-nil, arith, length-append}
use lib.ListN.{length-map}
use Rattle.std.proofs.lemmas.List.{drop_at}
use Rattle.std.proofs.lemmas.Nat.{shr-shr, div_below}
use Rattle.std.proofs.lemmas.Bool.{and_parts}
use Rattle.std.specs.List.{flat_map, AllByRecursion}
use Rattle.messages.specs.Limits.{line_limit}
use Rattle.frames.specs.Sizes.{entry_size, line_size, fixed_size, frame_size}
use Rattle.frames.specs.Bytes.{le4, word_at, cut}
use Rattle.messages.specs.Drafting.{counted, drafts_of}
use Rattle.messages.specs.Table.{draft_line, conflict_line, conflict_mark, lines_of, kind_of, mark_of, number_of}
use Rattle.frames.specs.Layout.{line_bytes, head_of, frame_of}
use Rattle.messages.specs.Rules.{fit_drafts, fit_body, valid, TypedLine, Places, Typed}
use Rattle.frames.specs.Candidate.{draft_at, drafts_at, clock_at, vote_at, body_at, message_at}
use Rattle.messages.specs.declared.Draft.{Draft}
use Rattle.messages.specs.declared.Drafts.{Drafts}
use Rattle.messages.specs.declared.Conflict.{Conflict}
use Rattle.messages.specs.declared.Conflict.TheVariants.{Held, Newer, Full}
use Rattle.messages.specs.declared.Body.{Body}
use Rattle.messages.specs.declared.Body.TheVariants.{Query, Answer, Prepare, Vote, Outcome}
use Rattle.messages.specs.declared.Message.{Message}
use Rattle.messages.proofs.Fitting.{neat, rules_of}
use Rattle.frames.proofs.Cuts.{length_joined, cut_joined}

-- numbers
pub half_back : (v : ℕ) → v < 2 ^ 16 → v % 256 + v / 256 % 256 * 256 ≡ v
half_back v h = omega arith

pub word_back : (v : ℕ) → v < 2 ^ 32 → v % 256 + v / 256 % 256 * 256 + v / 65536 % 256 * 65536 + v / 16777216 % 256 * 16777216 ≡ v
word_back v h =
    let a : ℕ = v / 256 in
    let b : ℕ = v / 65536 in
    let c : ℕ = v / 16777216 in
    let p : a / 256 ≡ b = shr-shr v 8 8 in
    let q : b / 256 ≡ c = shr-shr v 16 8 in
    let i : v % 256 + a * 256 ≡ v = omega arith in
    let j : a % 256 + a / 256 * 256 ≡ a = omega arith in
    let k : b % 256 + b / 256 * 256 ≡ b = omega arith in
    let l : c % 256 ≡ c = omega (arith, div_below v 16777216 256 (omega arith) h) in
    omega (arith, i, j, k, l, p, q)

clock-back : (e : ℕ) (c r : List ℕ) → length c ≡ e → AllByRecursion (λ v. v < 2 ^ 32) c → clock_at e (flat_map le4 c ++ r) ≡ c
clock-back e c r n h =
    ap (λ k. clock_at k (flat_map le4 c ++ r)) (sym n)
    ∙ cut_joined le4 entry_size (λ _. refl) (λ b. word_at b 0) (λ v. v < 2 ^ 32) (λ v _ l. word_back v l) c r h

-- drafts
joined_lines : (ds : List Draft) → flat_map line_bytes (map draft_line ds) ≡ flat_map (λ d. line_bytes (draft_line d)) ds
joined_lines [] = refl
joined_lines (d ∷ ds) = ap (λ r. line_bytes (draft_line d) ++ r) (joined_lines ds)

all_drafts : (ds : List Draft) → AllByRecursion TypedLine (map draft_line ds) → AllByRecursion (λ d. TypedLine (draft_line d)) ds
all_drafts [] h = tt
all_drafts (d ∷ ds) h = (h.0, all_drafts ds h.1)

draft_back : (d : Draft) (r : List ℕ) → TypedLine (draft_line d) → draft_at (line_bytes (draft_line d) ++ r) ≡ d
draft_back d r h = ap (λ (v : ℕ). let x : Draft = record { key = d.key; content = record { value = v } } in x) (word_back d.content.value h.value)

drafts-back : (d : Drafts) → fit_drafts d ≡ true → length d.items ≡ line_limit → AllByRecursion TypedLine (map draft_line (counted d)) → drafts_at (length (map draft_line (counted d))) (flat_map line_bytes (map draft_line (counted d))) ≡ d
drafts-back d fit places typed =
    let ds : List Draft = counted d in
    let f : Draft → List ℕ = λ x. line_bytes (draft_line x) in
    let bytes : flat_map line_bytes (map draft_line ds) ≡ flat_map f ds ++ [] = joined_lines ds ∙ sym (append-nil (flat_map f ds)) in
    let all : cut draft_at line_size (length ds) (flat_map f ds ++ []) ≡ ds = cut_joined f line_size (λ _. refl) draft_at (λ x. TypedLine (draft_line x)) draft_back ds [] (all_drafts ds typed) in
    let lines : cut draft_at line_size (length (map draft_line ds)) (flat_map line_bytes (map draft_line ds)) ≡ ds =
    ap (λ k. cut draft_at line_size k (flat_map line_bytes (map draft_line ds))) (length-map ds draft_line)
    ∙ ap (λ bs. cut draft_at line_size (length ds) bs) bytes
    ∙ all in
    ap drafts_of lines ∙ sym (neat d fit places)

-- a vote against
vote-back : (key : ℕ) (c : Conflict) → TypedLine (conflict_line key c) → vote_at (conflict_mark c) 1 (flat_map line_bytes (conflict_line key c ∷ [])) ≡ Some (record { key = key; conflict = c })
vote-back key (Held o w) t = rw (half_back w t.writer)
vote-back key (Newer o w n) t = rw (half_back w t.writer, word_back n t.number)
vote-back key Full t = refl

pub body_back : (b : Body) → fit_body b ≡ true → Places b → AllByRecursion TypedLine (lines_of b) → body_at (kind_of b) (mark_of b) (number_of b) (length (lines_of b)) (flat_map line_bytes (lines_of b)) ≡ b
body_back (Query key true) h p t = refl
body_back (Query key false) h p t = refl
body_back (Answer key None) h p t = refl
body_back (Answer key (Some v)) h p t = rw (half_back v.writer t.0.writer, word_back v.number t.0.number, word_back v.content.value t.0.value)
body_back (Prepare d) h p t = ap (λ x. Prepare x) (drafts-back d (and_parts (leb 1 d.len) (fit_drafts d) h).1 p t)
body_back (Vote None) h p t = refl
body_back (Vote (Some o)) h p t = ap (λ v. Vote v) (vote-back o.key o.conflict t.0)
body_back (Outcome (Some g)) h p t = ap (λ (x : Drafts). Outcome (Some (record { number = g.number; drafts = x }))) (drafts-back g.drafts (and_parts (leb 1 g.number) (fit_drafts g.drafts) h).1 p t)
body_back (Outcome None) h p t = refl

-- the length of a frame
pub frame_length : (m : Message) (e : ℕ) → length m.clock.entries ≡ e → length (frame_of m) ≡ frame_size e (length (lines_of m.body))
unfolding frame_of
frame_length m e n =
    let clock : List ℕ = flat_map le4 m.clock.entries in
    let lines : List ℕ = flat_map line_bytes (lines_of m.body) in
    let a : length clock ≡ entry_size * length m.clock.entries = length_joined le4 entry_size (λ _. refl) m.clock.entries in
    let b : length lines ≡ line_size * length (lines_of m.body) = length_joined line_bytes line_size (λ _. refl) (lines_of m.body) in
    omega (arith, a, b, length-append (head_of m) (clock ++ lines), length-append clock lines, n)

-- the message that is taken from a message's frame is that message, for clocks of e entries
pub message-back : (m : Message) (e : ℕ) → length m.clock.entries ≡ e → Typed m → valid m ≡ true → message_at e (kind_of m.body) (frame_of m) ≡ m
unfolding frame_of
message-back m e n t v =
    let h = rules_of m v in
    let clock : List ℕ = flat_map le4 m.clock.entries in
    let lines : List ℕ = flat_map line_bytes (lines_of m.body) in
    let wide : length (head_of m ++ clock) ≡ fixed_size e = omega (arith, length-append (head_of m) clock, length_joined le4 entry_size (λ _. refl) m.clock.entries, n) in
    let rest : drop (fixed_size e) (head_of m ++ (clock ++ lines)) ≡ lines =
    ap (drop (fixed_size e)) (sym (append_assoc (head_of m) clock lines)) ∙ drop_at (head_of m ++ clock) lines (fixed_size e) wide in
    let made : ℕ → List ℕ → ℕ → List ℕ → Message = λ tx c number ls. record {
      sender = m.sender;
      receiver = m.receiver;
      tx = tx;
      clock = record { entries = c };
      body = body_at (kind_of m.body) (mark_of m.body) number (length (lines_of m.body)) ls;
    } in
    let number : ℕ = number_of m.body in
    ap (λ x. made x (clock_at e (clock ++ lines)) (word_at (le4 number) 0) (drop (fixed_size e) (head_of m ++ (clock ++ lines)))) (half_back m.tx (omega (arith, h.tx)))
    ∙ ap (λ x. made m.tx x (word_at (le4 number) 0) (drop (fixed_size e) (head_of m ++ (clock ++ lines)))) (clock-back e m.clock.entries lines n t.clock)
    ∙ ap (λ x. made m.tx m.clock.entries x (drop (fixed_size e) (head_of m ++ (clock ++ lines)))) (word_back number t.number)
    ∙ ap (λ x. made m.tx m.clock.entries number x) rest
    ∙ ap (λ (b : Body). let x : Message = record { sender = m.sender; receiver = m.receiver; tx = m.tx; clock = m.clock; body = b } in x) (body_back m.body h.body t.places t.lines)
