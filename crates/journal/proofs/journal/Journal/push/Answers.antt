use Rattle.std.proofs.Common.{◌≡◌, ℕ, ◌*◌, ◌≤◌, false, cond, List, [], ◌∷◌, ◌++◌, length, sym, ap, ◌∙◌, subst, arith}
use mathlib.Core.Path.{fun_ext}
use Rattle.std.proofs.lemmas.Bool.{lt-leb}
use Rattle.tray.specs.Contents.{contents, room, full}
use Rattle.book.proofs.Sames.{same_lists}
use Rattle.journal.specs.declared.record.Record.{Record}
use Rattle.journal.specs.Records.{list_of}
use Rattle.journal.proofs.Listed.{list_pushed}
use Rattle.journal.proofs.Filling.{Known, place-left, known_pushed, filled-pushed}
use Rattle.journal.proofs.journal.Journal.push.Goals as goal
use Rattle.journal.proofs.journal.Journal.push.Goals.{After-add}

abbrev one : goal.After-add → Record
one c = record { key = c.args.key; version = c.args.version }

-- the run has a place left
free : (c : goal.After-add) → full c.args.self.now.records ≡ false
free c =
    let s = c.args.self.now in
    let p = place-left s.keys s.depth c.args.key (contents s.records) s.known s.filled c.requires.there c.requires.short in
    let q = s.space in
    lt-leb (room s.records) (length (contents s.records)) (omega arith)

holds : (c : goal.After-add) → contents c.add.new.self ≡ contents c.args.self.now.records ++ (one c ∷ [])
holds c = c.add.ensures.after ∙ ap (λ t. cond t (contents c.args.self.now.records) (contents c.args.self.now.records ++ (one c ∷ []))) (free c)

pub invariant_of-self : goal.invariant_of-self
invariant_of-self c =
    let s = c.args.self.now in
    record {
      space = subst (λ (n : ℕ). s.keys * s.depth ≤ n) (sym c.add.ensures.space) s.space;
      known = subst (λ (rs : List Record). Known s.keys rs) (sym (holds c)) (known_pushed s.keys s.depth (contents s.records) (one c) c.requires.there s.known);
      filled = subst (λ (rs : List Record). (k : ℕ) → length (list_of rs k) ≤ s.depth) (sym (holds c)) (filled-pushed s.keys s.depth (contents s.records) (one c) c.requires.there s.filled c.requires.short);
    }

pub returns : goal.returns
returns c =
    let b = (goal.at.returns c).After-add in
    same_lists _ _ _ _ (ap list_of (holds b) ∙ fun_ext (list_pushed _ (one b)))
