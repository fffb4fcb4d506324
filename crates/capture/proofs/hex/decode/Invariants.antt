use Rattle.std.proofs.Common.{◌≡◌, drop, vec_items}
use Rattle.capture.proofs.Spelling.{paired, after}
use Rattle.capture.proofs.hex.decode.Given as goal

abbrev pub invariant-loop-high : goal.invariant-loop-high
invariant-loop-high l = after (vec_items l.bytes) (paired (drop l.high-index l.pairs)) ≡ paired l.pairs
