use Rattle.model.specs.Sequences.{is_leave}
use Rattle.grammar.specs.Views.{step_of}
use Rattle.grammar.proofs.Counts.{Counted}
use Rattle.grammar.proofs.parts.Production.section.Given as goal

abbrev pub invariant-loop-step : goal.invariant-loop-step
invariant-loop-step l = Counted step_of is_leave l.step-items l.step-index l.leaves
