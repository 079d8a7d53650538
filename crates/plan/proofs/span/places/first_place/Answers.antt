use Rattle.std.proofs.Common.{rules}
use Rattle.grammar.specs.Views.{step_of}
use Rattle.plan.proofs.Found.{First, first_found}
use Rattle.plan.proofs.span.places.first_place.Goals as goal

pub returns-clause-value : goal.returns-clause-value
returns-clause-value g c f test =
    let xs = c.args.p.now.steps.items in
    let found : First step_of f xs c.position.result = search (rules, test) in
    let h = first_found step_of f xs c.position.result found in
    search (rules, h)
