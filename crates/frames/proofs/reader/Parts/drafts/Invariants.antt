use Rattle.std.proofs.Common.{◌≡◌, map, take}
use Rattle.messages.specs.Drafting.{drafts_of}
use Rattle.frames.specs.Candidate.{draft_at}
use Rattle.frames.proofs.reader.Parts.drafts.Given as goal

abbrev pub invariant-loop-line : goal.invariant-loop-line
invariant-loop-line l = l.drafts ≡ drafts_of (map draft_at (take l.line-index l.line-items))
