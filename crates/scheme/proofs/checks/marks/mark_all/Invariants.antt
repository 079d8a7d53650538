use Rattle.scheme.proofs.Marks.{Marking}
use Rattle.scheme.proofs.checks.marks.mark_all.Given as goal

abbrev pub invariant-loop-x : goal.invariant-loop-x
invariant-loop-x l = Marking l.symbols l.initial.marks l.marks l.added l.x-index
