use Rattle.laws.proofs.Answering.{every_call_answered}
use Rattle.laws.proofs.every_call_answered.Goals as goal

pub returns : goal.returns
returns c = every_call_answered
