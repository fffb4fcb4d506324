use Rattle.std.proofs.Common.{◌≡◌, ℕ, List, get_or, drop, ap, ◌∙◌}
use Rattle.std.proofs.lemmas.List.{take_rest, get_or-drop}
use Rattle.clocks.specs.Clocks.{tower_limit}
use Rattle.frames.specs.Sizes.{head_size, fixed_size}
use Rattle.frames.specs.Bytes.{word_at, half_at}
use Rattle.frames.specs.Candidate.{clock_at, body_at, count_byte}
use Rattle.messages.specs.declared.Body.{Body}
use Rattle.messages.specs.declared.Message.{Message}
use Rattle.frames.proofs.reader.message_at.Goals as goal

pub returns : goal.returns
returns c =
    let b = c.args.bytes.now in
    let kind = c.args.kind in
    let clock : c.clock_at.result.entries ≡ clock_at tower_limit (drop head_size b) = c.clock_at.ensures ∙ ap (clock_at tower_limit) (take_rest b head_size) in
    let number : c.word_at.result ≡ word_at b 8 = c.word_at.ensures ∙ ap (λ r. word_at r 0) (take_rest b 8) ∙ simp get_or-drop in
    let body : c.body.result ≡ body_at kind (get_or b 6 0) (word_at b 8) (count_byte b) (drop (fixed_size tower_limit) b) =
    c.body.ensures
    ∙ ap (λ r. body_at kind (get_or b 6 0) c.word_at.result (count_byte b) r) (take_rest b (fixed_size tower_limit))
    ∙ ap (λ v. body_at kind (get_or b 6 0) v (count_byte b) (drop (fixed_size tower_limit) b)) number in
    let made : ℕ → List ℕ → Body → Message = λ t k y. record { sender = get_or b 1 0; receiver = get_or b 2 0; tx = t; clock = record { entries = k }; body = y } in
    ap (λ t. made t c.clock_at.result.entries c.body.result) c.from_le_bytes.ensures
    ∙ ap (λ k. made (half_at b 4) k c.body.result) clock
    ∙ ap (λ y. made (half_at b 4) (clock_at tower_limit (drop head_size b)) y) body
