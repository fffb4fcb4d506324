use Rattle.std.proofs.Common.{rules}
use Rattle.script.proofs.Cuts.{field_taken, first_of_split, left-none}
use Rattle.script.proofs.fields.Fields.field.Goals as goal

pub returns-in_err-get : goal.returns-in_err-get
returns-in_err-get c = search (rules, left-none)

pub returns : goal.returns
returns c =
    let line = c.args.self.now.line.now in
    let at = c.args.self.now.at in
    let cut = first_of_split _ 32 line at c.in_ok-get.field-0 c.split.result c.next.new.self c.in_ok-bytes.bytes c.in_ok-get.ensures.lookup c.split.ensures.rest c.in_ok-bytes.ensures.steps (λ a r q k. search rules) in
    search (rules, field_taken line at c.in_ok-bytes.bytes.now c.in_ok-get.ensures.lookup.0.0 cut)
