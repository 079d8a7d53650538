use Rattle.model.proofs.Main.{first_broken_once, lawful_unbroken, lawful_keeps, keeps_lawful}
use Rattle.model.proofs.verdict_stands.Goals as goal

pub returns : goal.returns
returns c = record { once = first_broken_once; unbroken = lawful_unbroken; kept = lawful_keeps; lawful = keeps_lawful }
