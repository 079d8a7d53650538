use Rattle.std.proofs.Common.{rules}
use Rattle.grammar.specs.Views.{scheme_in, production_in, occurrence_of, attribute_of}
use Rattle.scheme.proofs.Chains.{decides_some}
use Rattle.scheme.proofs.Ruling.{defined_nowhere, defined_where}
use Rattle.scheme.proofs.checks.ruled.is_defined.Goals as goal

pub returns : goal.returns
returns c =
    let s = scheme_in c.args.scope.now in
    let p = production_in c.args.scope.now in
    let o = occurrence_of c.args.o in
    decides_some attribute_of c.attribute_at.result _ c.is_some_and.result c.attribute_at.ensures c.is_some_and.ensures (defined_nowhere s p o) (λ a e k. defined_where s p o (attribute_of a) c.is_some_and.result e (search rules))
