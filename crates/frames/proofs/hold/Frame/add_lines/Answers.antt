use Rattle.std.proofs.Common.{[], ◌∷◌, ◌++◌, sym, ap, ◌∙◌, append_assoc, arith, length-append}
use Rattle.std.specs.List.{flat_map}
use Rattle.std.proofs.lemmas.List.{flat_map_more}
use Rattle.std.proofs.ByRecursion.{All-push}
use Rattle.messages.specs.Rules.{TypedLine}
use Rattle.messages.specs.Table.{lines_left}
use Rattle.frames.specs.Layout.{line_bytes}
use Rattle.frames.specs.Answers.{framed}
use Rattle.frames.proofs.hold.Frame.add_lines.Goals as goal

pub loop-line-preserved : goal.loop-line-preserved
loop-line-preserved c =
    let before = c.loop-line.invariant in
    let line = c.in-Some.line in
    record {
      left = append_assoc c.loop-line.yielded (line ∷ []) (lines_left c.next.new.self) ∙ ap (λ r. c.loop-line.yielded ++ r) (sym c.in-Some.ensures.steps) ∙ before.left;
      len = simp length-append (omega arith);
      adds = λ bs h.
          c.add.ensures.adds _ (before.adds bs h)
          ∙ ap (λ q. framed ((bs ++ flat_map line_bytes c.loop-line.yielded) ++ q)) c.line_bytes.ensures.value
          ∙ ap framed (flat_map_more line_bytes bs c.loop-line.yielded line);
      typed = All-push TypedLine c.loop-line.yielded line before.typed c.line_bytes.ensures.typed;
    }
