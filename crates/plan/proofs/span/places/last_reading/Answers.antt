use Rattle.std.proofs.Common.{rules}
use Rattle.model.specs.Scheme.{Step}
use Rattle.model.specs.Sequences.{uses}
use Rattle.grammar.specs.Views.{production_of, step_of, occurrence_of}
use Rattle.plan.proofs.Found.{Last, last_found}
use Rattle.plan.proofs.span.places.last_reading.Goals as goal

pub returns : goal.returns
returns c =
    let f = λ (st : Step). uses (production_of c.args.p.now) st (occurrence_of c.args.o) in
    let found : Last step_of f c.args.p.now.steps.items c.rposition.result = search rules in
    let h = last_found step_of f c.args.otherwise c.args.p.now.steps.items c.rposition.result found in
    search rules
