use Rattle.std.proofs.Common.{rules}
use Rattle.grammar.specs.Views.{occurrence_of, attribute_of}
use Rattle.scheme.specs.Readiness.{scheme_at, production_at}
use Rattle.scheme.proofs.Deciding.{fails}
use Rattle.scheme.proofs.Readiness.{known_nowhere, known_where}
use Rattle.scheme.proofs.checks.ordered.moment.Moment.knows.Goals as goal

pub returns-in_default : goal.returns-in_default
returns-in_default c =
    let m = c.args.self.now in
    fails (known_nowhere (scheme_at m) (production_at m) m.step (occurrence_of c.args.o) (search rules))

pub returns : goal.returns
returns c =
    let m = c.args.self.now in
    known_where (scheme_at m) (production_at m) m.step (occurrence_of c.args.o) (attribute_of c.in-Some.a) c.is_available.result (search rules) c.is_available.ensures
