use Rattle.std.proofs.Common.{map, length, vec_items}
use Rattle.scheme.specs.Whole.{scheme_of}
use Rattle.plan.specs.Views.{bounded_of, letter_of, stack_span_of}
use Rattle.plan.proofs.Held.{Holding}
use Rattle.plan.proofs.tables.held.held_by.Given as goal

abbrev pub invariant-loop-number : goal.invariant-loop-number
invariant-loop-number l = Holding (scheme_of l.figures.scheme.now) (bounded_of l.bounded) (map (λ a. letter_of a.letter) l.plans) (length l.yielded) (map stack_span_of (vec_items l.held))
