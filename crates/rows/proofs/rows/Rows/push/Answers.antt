use Rattle.std.proofs.Common.{◌≡◌, ℕ, ◌+◌, ◌<◌, length, set, sym, ap, ◌∙◌, subst}
use mathlib.Core.Path.{fun_ext}
use Rattle.book.proofs.Sames.{same_lists}
use Rattle.rows.specs.Places.{row_of}
use Rattle.rows.proofs.Placing.{row-added}
use Rattle.rows.proofs.rows.Rows.push.Goals as goal

pub returns : goal.returns
returns c =
    let s = c.args.self.now in
    let m = length c.row-taken.result.now in
    let e : m ≡ length (row_of s.counts.now s.versions.now s.keys s.depth c.args.key) = ap length c.row-taken.ensures in
    let j : m < s.depth = subst (λ (n : ℕ). n < s.depth) (sym e) c.requires.short in
    same_lists _ _ _ _
    (ap (λ p. row_of (set s.counts.now c.args.key (m + 1)) (set s.versions.now (p + m) c.args.version) s.keys s.depth) c.start.ensures.value
    ∙ fun_ext (row-added s.counts.now s.versions.now s.keys s.depth c.args.key m c.args.version c.requires.there s.counted s.space e j))
