-- What is sent is heard as it was.
use Rattle.std.proofs.Common.{◌≡◌, ℕ, zero, suc, ◌-◌, ◌^◌, ◌<◌, ◌≤◌, true, ◌&&◌, ltb, leb, List, [], ◌∷◌, ◌++◌, map, length, get_or, drop, replicate, Some, None, sym, refl, ap, ◌∙◌, inl, inr, arith, lit<, length-append}
use mathlib.Core.Path.{fun_ext}
use Rattle.std.specs.List.{AllByRecursion}
use Rattle.std.proofs.lemmas.List.{drop_at, length-replicate}
use Rattle.std.proofs.lemmas.Bool.{and_from, lt-ltb, le-leb, ltb-true}
use Rattle.clocks.specs.Clocks.{tower_limit}
use Rattle.messages.specs.Limits.{line_limit, transaction_limit}
use Rattle.messages.specs.Drafting.{counted, blank, drafts_of}
use Rattle.messages.specs.Table.{draft_line, conflict_line, lines_of, number_of}
use Rattle.messages.specs.Rules.{all_blank, fit_drafts, fit_version, fit_conflict, fit_body, valid, TypedLine, Places, HasFrame}
use Rattle.messages.specs.declared.Draft.{Draft}
use Rattle.messages.specs.declared.Conflict.{Conflict}
use Rattle.messages.specs.declared.Conflict.TheVariants.{Held, Newer, Full}
use Rattle.messages.specs.declared.Objection.{Objection}
use Rattle.messages.proofs.Listing.{counted_of}
use Rattle.frames.specs.Layout.{frame_of}
use Rattle.frames.specs.Answers.{read_of}
use Rattle.frames.proofs.Back.{back}
use Rattle.laws.specs.Lists.{In}
use Rattle.laws.specs.Net.{Clock, Body, query, answer, prepare, vote, granted, refused, Message, Net}
use Rattle.laws.specs.View.{body_of}
use Rattle.laws.specs.Frames.{FitConflict, FitNamed, FitBody, Fit}
use Rattle.laws.proofs.Carry.{frames_carry}
use Rattle.radio.specs.Air.{entries_of, sent_body, sent_as, heard_as, FitsFrames, small, ReadsBack, AirOfFrames}

-- the entries of a clock
entries-length : (n : ℕ) (c : Clock) → length (entries_of n c) ≡ n
entries-length zero c = refl
entries-length (suc n) c = ap suc (entries-length n (λ j. c (suc j)))

entries_at : (n : ℕ) (c : Clock) → ((j : ℕ) → n ≤ j → c j ≡ 0) → (j : ℕ) → get_or (entries_of n c) j 0 ≡ c j
entries_at zero c h j = sym (h j (omega arith))
entries_at (suc n) c h zero = refl
entries_at (suc n) c h (suc j) = entries_at n (λ i. c (suc i)) (λ i l. h (suc i) (omega arith)) j

entries-small : (n : ℕ) (c : Clock) (b : ℕ) → ((j : ℕ) → c j < b) → AllByRecursion (λ v. v < b) (entries_of n c)
entries-small zero c b h = tt
entries-small (suc n) c b h = (h 0, entries-small n (λ j. c (suc j)) b (λ j. h (suc j)))

-- blank places
blanks : (n : ℕ) → all_blank (replicate n blank) ≡ true
blanks zero = refl
blanks (suc n) = blanks n

fit_drafts_lem : (ds : List Draft) → length ds ≤ line_limit → fit_drafts (drafts_of ds) ≡ true
fit_drafts_lem ds h =
    and_from (leb (length ds) line_limit) (all_blank (drop (length ds) (ds ++ replicate (line_limit - length ds) blank)))
    (le-leb (length ds) line_limit h)
    (ap all_blank (drop_at ds (replicate (line_limit - length ds) blank) (length ds) refl) ∙ blanks (line_limit - length ds))

places : (ds : List Draft) → length ds ≤ line_limit → length (ds ++ replicate (line_limit - length ds) blank) ≡ line_limit
places ds h = simp (length-append, length-replicate) (omega arith)

draft_lines : (net : Net) (ds : List Draft) → ((d : Draft) → In d ds → (d.key < net.keys) × (small d.content ≡ true)) → AllByRecursion TypedLine (map draft_line ds)
draft_lines net [] h = tt
draft_lines net (d ∷ ds) h = (
  record { writer = lit< tt; number = lit< tt; value = ltb-true d.content.value (2 ^ 32) (h d (inl refl)).1 },
  draft_lines net ds (λ e i. h e (inr i)),
)

drafts-typed : (net : Net) (ds : List Draft) → ((d : Draft) → In d ds → (d.key < net.keys) × (small d.content ≡ true)) → AllByRecursion TypedLine (map draft_line (counted (drafts_of ds)))
drafts-typed net ds h = rw (counted_of ds) (draft_lines net ds h)

module _ (net : Net) (fits : FitsFrames net) where
  fit_writer_lem : (o w : ℕ) → o < net.towers → w < net.transactions → ltb o tower_limit && ltb w transaction_limit ≡ true
  fit_writer_lem o w h k = and_from (ltb o tower_limit) (ltb w transaction_limit) (lt-ltb o tower_limit (omega (arith, fits.towers))) (lt-ltb w transaction_limit (omega (arith, fits.transactions)))

  fit_version_lem : (o w n : ℕ) → o < net.towers → w < net.transactions → 1 ≤ n → fit_version o w n ≡ true
  fit_version_lem o w n h k l = and_from (ltb o tower_limit && ltb w transaction_limit) (leb 1 n) (fit_writer_lem o w h k) (le-leb 1 n l)

  fit_conflict_lem : (c : Conflict) → FitConflict net c → fit_conflict c ≡ true
  fit_conflict_lem (Held o w) h = fit_writer_lem o w h.0 h.1
  fit_conflict_lem (Newer o w n) h = fit_version_lem o w n h.0 h.1 h.2
  fit_conflict_lem Full h = refl

  fit_sent : (b : Body) → FitBody net small b → fit_body (sent_body b) ≡ true
  fit_sent (query k first) h = refl
  fit_sent (answer k None) h = refl
  fit_sent (answer k (Some x)) h = fit_version_lem x.origin x.writer x.number h.1.origin h.1.writer h.1.counted
  fit_sent (prepare ls) h = and_from (leb 1 (length ls)) (fit_drafts (drafts_of ls)) (le-leb 1 (length ls) h.1) (fit_drafts_lem ls (omega (arith, h.0.few, fits.drafts)))
  fit_sent (vote None) h = refl
  fit_sent (vote (Some a)) h = fit_conflict_lem a.conflict h.1
  fit_sent (granted n ls) h = and_from (leb 1 n) (fit_drafts (drafts_of ls)) (le-leb 1 n h.0) (fit_drafts_lem ls (omega (arith, h.2.few, fits.drafts)))
  fit_sent refused h = refl

  number_small : (b : Body) → FitBody net small b → number_of (sent_body b) < 2 ^ 32
  number_small (query k first) h = lit< tt
  number_small (answer k shown) h = lit< tt
  number_small (prepare ls) h = lit< tt
  number_small (vote None) h = lit< tt
  number_small (vote (Some a)) h = lit< tt
  number_small (granted n ls) h = omega (arith, h.1, fits.transactions)
  number_small refused h = lit< tt

  conflict_typed : (a : Objection) → FitNamed net (Some a) → AllByRecursion TypedLine (lines_of (sent_body (vote (Some a))))
  conflict_typed a h = (by a.conflict h.1, tt)
    where
      by : (c : Conflict) → FitConflict net c → TypedLine (conflict_line a.key c)
      by (Held o w) k = record { writer = omega (arith, k.1, fits.transactions); number = lit< tt; value = lit< tt }
      by (Newer o w n) k = record { writer = omega (arith, k.1, fits.transactions); number = omega (arith, k.3, fits.transactions); value = lit< tt }
      by Full k = record { writer = lit< tt; number = lit< tt; value = lit< tt }

  lines-typed : (b : Body) → FitBody net small b → AllByRecursion TypedLine (lines_of (sent_body b))
  lines-typed (query k first) h = (record { writer = lit< tt; number = lit< tt; value = lit< tt }, tt)
  lines-typed (answer k None) h = (record { writer = lit< tt; number = lit< tt; value = lit< tt }, tt)
  lines-typed (answer k (Some x)) h = (
    record {
      writer = omega (arith, h.1.writer, fits.transactions);
      number = omega (arith, h.1.small, fits.transactions);
      value = ltb-true x.content.value (2 ^ 32) h.1.content;
    },
    tt,
  )
  lines-typed (prepare ls) h = drafts-typed net ls h.0.each
  lines-typed (vote None) h = tt
  lines-typed (vote (Some a)) h = conflict_typed a h
  lines-typed (granted n ls) h = drafts-typed net ls h.2.each
  lines-typed refused h = tt

  sent-places : (b : Body) → FitBody net small b → Places (sent_body b)
  sent-places (query k first) h = tt
  sent-places (answer k shown) h = tt
  sent-places (prepare ls) h = places ls (omega (arith, h.0.few, fits.drafts))
  sent-places (vote None) h = tt
  sent-places (vote (Some a)) h = tt
  sent-places (granted n ls) h = places ls (omega (arith, h.2.few, fits.drafts))
  sent-places refused h = tt

  has_frame : (m : Message) → Fit net small m → HasFrame (sent_as m)
  unfolding valid
  has_frame m h = record {
    typed = record {
      entries = entries-length tower_limit m.bound;
      clock = entries-small tower_limit m.bound (2 ^ 32) (λ j. omega (arith, h.bound.small j, fits.transactions));
      number = number_small m.body h.body;
      lines = lines-typed m.body h.body;
      places = sent-places m.body h.body;
    };
    rules =
        and_from (ltb m.from tower_limit) (ltb m.to tower_limit && (ltb m.tx transaction_limit && fit_body (sent_body m.body))) (lt-ltb m.from tower_limit (omega (arith, h.from, fits.towers)))
        (and_from (ltb m.to tower_limit) (ltb m.tx transaction_limit && fit_body (sent_body m.body)) (lt-ltb m.to tower_limit (omega (arith, h.to, fits.towers)))
        (and_from (ltb m.tx transaction_limit) (fit_body (sent_body m.body)) (lt-ltb m.tx transaction_limit (omega (arith, h.tx, fits.transactions))) (fit_sent m.body h.body)));
  }

  body_back : (b : Body) → body_of (sent_body b) ≡ b
  body_back (query k first) = refl
  body_back (answer k shown) = refl
  body_back (prepare ls) = ap prepare (counted_of ls)
  body_back (vote None) = refl
  body_back (vote (Some a)) = refl
  body_back (granted n ls) = ap (granted n) (counted_of ls)
  body_back refused = refl

  heard_back : (m : Message) → Fit net small m → heard_as (read_of (frame_of (sent_as m))) ≡ Some m
  heard_back m h =
      let clock : Clock = λ j. get_or (entries_of tower_limit m.bound) j 0 in
      let same : clock ≡ m.bound = fun_ext (λ j. entries_at tower_limit m.bound (λ i l. h.bound.beyond i (omega (arith, fits.towers))) j) in
      let made : Clock → Body → Message = λ c b. record { tx = m.tx; from = m.from; to = m.to; bound = c; body = b } in
      ap heard_as (back (frame_of (sent_as m)) (sent_as m) (has_frame m h) refl)
      ∙ ap (λ c. Some (made c (body_of (sent_body m.body)))) same
      ∙ ap (λ b. Some (made m.bound b)) (body_back m.body)

  radio : ReadsBack net
  radio = (record { frame_of = λ m. frame_of (sent_as m); read_of = λ bs. heard_as (read_of bs); back = heard_back }, λ m. refl, λ bs. refl)

pub air_of_frames : AirOfFrames
air_of_frames net fits = let codec = radio net fits in (codec, λ h f y r. frames_carry net small codec.0 h f y r)
