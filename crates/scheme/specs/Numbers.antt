-- The numbers that a production's steps have at its positions: the leaves at the left symbol, the visits at each child.
use Rattle.std.specs.Prelude.{◌≡◌, ℕ, zero, suc, cond, ◌&&◌, List, ◌==◌, nat_lt}
use Rattle.std.proofs.Math.Option.{Option, none, some}
use Rattle.model.specs.Lists.{Has, from_on}
use Rattle.model.specs.Scheme.{Step, eval, visit, leave, Production, Scheme, symbol_at}
use Rattle.model.specs.Sequences.{visit_numbers, leave_numbers}

abbrev pub numbers : ℕ → List Step → List ℕ
numbers zero ts = leave_numbers ts
numbers (suc k) ts = visit_numbers (suc k) ts

-- the number of one step
abbrev pub number_at : ℕ → Step → Option ℕ
number_at k (eval r) = none
number_at k (visit c j) = cond (nat_lt 0 k && k == c) (some j) none
number_at k (leave i) = cond (k == 0) (some i) none

-- the numbers at a position are those of its symbol's visits, each once and rising
abbrev pub InSequence : Scheme → Production → ℕ → Type 0
InSequence s p k = (x v : ℕ) → symbol_at p k ≡ some x → Has s.visits x v → numbers k p.steps ≡ from_on 1 v
