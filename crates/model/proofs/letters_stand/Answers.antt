use Rattle.model.proofs.Main.{letter_exists_once, plan_determined, walks_exist}
use Rattle.model.proofs.letters_stand.Goals as goal

pub returns : goal.returns
returns c = record { once = letter_exists_once; one = plan_determined; walked = walks_exist }
