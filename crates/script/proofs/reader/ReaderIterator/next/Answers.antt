use Rattle.std.proofs.Common.{refl, ap, length, length-drop, rules, arith}
use Rattle.script.proofs.Cuts.{first_le, first_of_split, line_passed, line_taken}
use Rattle.script.proofs.reader.ReaderIterator.next.Goals as goal

pub returns : goal.returns
returns c =
    let text = c.args.self.now.text.now in
    let at = c.args.self.now.at in
    let cut = first_of_split _ 10 text at c.in_ok-rest.rest c.split.result c.next.new.self c.in_ok-line.line c.in_ok-rest.ensures.lookup c.split.ensures.rest c.in_ok-line.ensures.steps (λ a r q k. search rules) in
    let lines = line_taken text at c.in_ok-line.line.now (search rules) cut in
    record {
      steps = record { same = refl; lines = line_passed c.args.self.now _ c.in_ok-line.line.now (omega arith) lines; short = omega (arith, first_le cut, length-drop at text) };
      goes = record { on = λ _. (tt, tt, omega (arith, ap length lines)); keeps = tt; rests = λ _. tt };
    }
