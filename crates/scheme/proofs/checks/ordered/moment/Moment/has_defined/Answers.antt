use Rattle.std.proofs.Common.{rules}
use Rattle.std.proofs.lemmas.List.{take-map}
use Rattle.std.proofs.lemmas.Iterator.{YieldsList-from_slice, YieldsList-from_take}
use Rattle.std.proofs.lemmas.Iterator.Search.{any_from_yields_List}
use Rattle.model.specs.Sequences.{defines}
use Rattle.model.proofs.Common.Seen.{any-map}
use Rattle.grammar.specs.Views.{step_of, occurrence_of, production_in}
use Rattle.scheme.proofs.checks.ordered.moment.Moment.has_defined.Goals as goal

pub returns : goal.returns
returns c = rw (take-map, any-map) (any_from_yields_List (λ st. defines (production_in c.args.self.now.scope) (step_of st) (occurrence_of c.args.o)) _ _ _ c.any.ensures.ran (YieldsList-from_take c.args.self.now.step (YieldsList-from_slice c.args.self.now.scope.production.now.steps.items cc) cc) (λ x b q k. search rules))
