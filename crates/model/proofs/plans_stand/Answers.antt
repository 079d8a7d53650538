use Rattle.model.proofs.Plan.Tried.{house-planned, fork-planned}
use Rattle.model.proofs.plans_stand.Goals as goal

pub returns : goal.returns
returns c = record { housed = house-planned; forked = fork-planned }
