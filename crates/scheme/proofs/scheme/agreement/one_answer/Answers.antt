use Rattle.scheme.proofs.Agreement.{one_answer}
use Rattle.scheme.proofs.scheme.agreement.one_answer.Goals as goal

pub returns : goal.returns
returns c = one_answer
