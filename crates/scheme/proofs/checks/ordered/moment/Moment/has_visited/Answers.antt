use Rattle.std.proofs.Common.{rules}
use Rattle.std.proofs.lemmas.List.{take-map}
use Rattle.std.proofs.lemmas.Iterator.{YieldsList-from_slice, YieldsList-from_take}
use Rattle.std.proofs.lemmas.Iterator.Search.{any_from_yields_List}
use Rattle.model.specs.Lawful.{is_visit}
use Rattle.model.proofs.Common.Seen.{any-map}
use Rattle.grammar.specs.Views.{step_of, visit_of}
use Rattle.scheme.proofs.checks.ordered.moment.Moment.has_visited.Goals as goal

pub returns : goal.returns
returns c = rw (take-map, any-map) (any_from_yields_List (λ st. is_visit c.args.position (visit_of c.args.visit) (step_of st)) _ _ _ c.any.ensures.ran (YieldsList-from_take c.args.self.now.step (YieldsList-from_slice c.args.self.now.scope.production.now.steps.items cc) cc) (λ x b q k. search rules))
