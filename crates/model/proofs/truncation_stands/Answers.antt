use Rattle.model.proofs.Main.{truncated_lawful, truncated_formed, truncated_limited}
use Rattle.model.proofs.truncation_stands.Goals as goal

pub returns : goal.returns
returns c = record { lawful = truncated_lawful; formed = truncated_formed; limited = truncated_limited }
