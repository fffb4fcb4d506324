use Rattle.std.proofs.Common.{◌≡◌, length, take, sym, ap, ◌∙◌, arith}
use Rattle.std.proofs.lemmas.List.{length-take}
use Rattle.tray.proofs.Front.{front_le, front_again}
use Rattle.tray.proofs.tray.Tray.used.Goals as goal

pub returns : goal.returns
returns g c =
    let xs = c.args.self.now.items.now in
    let n = c.args.self.now.len in
    let e : c.min.result ≡ length (take n xs) = c.min.ensures ∙ sym (length-take n xs) in
    let l = front_le xs n in
    record { count = e; within = omega arith; front = ap (λ m. take m xs) e ∙ front_again xs n }
