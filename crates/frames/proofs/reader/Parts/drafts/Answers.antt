use Rattle.std.proofs.Common.{◌≡◌, ◌<◌, ℕ, ◌/◌, List, [], ◌∷◌, ◌++◌, length, get_or, map, take, sym, ap, ◌∙◌, arith, lit<}
use Rattle.std.proofs.lemmas.List.{take_all, take_more, get_or-take, map-append, length-take}
use lib.ListN.{length-map}
use Rattle.messages.specs.Limits.{line_limit}
use Rattle.messages.specs.declared.Draft.{Draft}
use Rattle.messages.proofs.Listing.{pushed_on}
use Rattle.messages.specs.Drafting.{drafts_of}
use Rattle.frames.specs.Sizes.{line_size}
use Rattle.frames.specs.Bytes.{cut}
use Rattle.frames.specs.Candidate.{draft_at}
use Rattle.frames.proofs.Cuts.{cut_chunks}
use Rattle.frames.proofs.reader.Parts.drafts.Goals as goal

-- a draft stands in the bytes of its line
alone : (b : List ℕ) → draft_at (take line_size b) ≡ draft_at b
alone b = rw (get_or-take 12 b 0 0 (lit< tt), get_or-take 12 b 8 0 (lit< tt), get_or-take 12 b 9 0 (lit< tt), get_or-take 12 b 10 0 (lit< tt), get_or-take 12 b 11 0 (lit< tt))

pub loop-line-preserved : goal.loop-line-preserved
loop-line-preserved c =
    let lines = c.as_chunks.result.0.now in
    let i = c.loop-line.line-index in
    let ds : List Draft = map draft_at (take i lines) in
    let few : length ds < line_limit = simp (length-map, length-take) (omega arith) in
    pushed_on c.loop-line.drafts c.push.new.self c.draft_at.result c.push.result ds c.push.ensures c.loop-line.invariant few
    ∙ ap (λ d. drafts_of (ds ++ d ∷ [])) c.draft_at.ensures
    ∙ ap drafts_of (sym (map-append draft_at (take i lines) (get_or lines i [] ∷ [])) ∙ ap (map draft_at) (sym (take_more lines i [] c.loop-line-test.true)))

pub returns : goal.returns
returns c =
    let bs : List ℕ = c.args.self.now.lines.now in
    c.loop-line.invariant
    ∙ ap (λ (xs : List (List ℕ)). drafts_of (map draft_at xs)) (take_all c.loop-line.line-index c.as_chunks.result.0.now c.loop-line-test.false ∙ c.as_chunks.ensures.front)
    ∙ ap drafts_of (cut_chunks draft_at line_size alone (length bs / line_size) bs ∙ ap (λ n. cut draft_at line_size n bs) (omega arith))
