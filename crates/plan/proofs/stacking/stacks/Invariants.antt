use Rattle.model.specs.Spans.{stacks_in}
use Rattle.grammar.specs.Views.{attribute_of, production_of}
use Rattle.scheme.specs.Whole.{scheme_of}
use Rattle.plan.proofs.Along.{Passed}
use Rattle.plan.proofs.stacking.stacks.Given as goal

abbrev pub invariant-loop-production : goal.invariant-loop-production
invariant-loop-production l = Passed (λ p. stacks_in (scheme_of l.figure.scheme.now) l.figure.number (attribute_of l.figure.attribute) (production_of p)) l.production-items l.production-index
