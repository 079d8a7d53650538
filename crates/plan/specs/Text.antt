-- The line that says a plan.
use Rattle.std.specs.Prelude.{ℕ, List, ◌++◌, codes}
use Rattle.std.specs.List.{flat_map}
use Rattle.model.specs.Plan.{Letter, C, S, K}

abbrev pub mark : Letter → List ℕ
mark C = codes "C"
mark S = codes "S"
mark K = codes "K"

-- `plan`, a space, and a letter for each attribute
abbrev pub plan_line : List Letter → List ℕ
plan_line ls = codes "plan " ++ flat_map mark ls
