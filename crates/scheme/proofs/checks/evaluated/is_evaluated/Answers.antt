use Rattle.std.proofs.Common.{rules, length}
use Rattle.std.proofs.lemmas.List.{length-map}
use Rattle.model.specs.Lawful.{Once, is_eval_of}
use Rattle.grammar.specs.Views.{production_of}
use Rattle.scheme.proofs.Chains.{decides_below}
use Rattle.scheme.proofs.checks.evaluated.is_evaluated.Goals as goal

pub returns : goal.returns
returns c =
    let p = c.args.p.now in
    decides_below (λ r. Once (is_eval_of r) (production_of p).steps) (length (production_of p).rules) _ _ _ _ c.all.ensures.ran (search (rules, length-map)) (λ x b q k. search rules)
