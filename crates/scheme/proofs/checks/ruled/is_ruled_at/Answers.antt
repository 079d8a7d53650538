use Rattle.std.proofs.Common.{rules, length}
use Rattle.std.proofs.lemmas.List.{length-map}
use Rattle.std.proofs.lemmas.Bool.Decides.{Decides-like}
use Rattle.scheme.specs.Ruling.{RuledOnce}
use Rattle.grammar.specs.Views.{scheme_in, production_in}
use Rattle.scheme.proofs.Chains.{decides_below}
use Rattle.scheme.proofs.Ruling.{all_attributes}
use Rattle.scheme.proofs.checks.ruled.is_ruled_at.Goals as goal

pub returns : goal.returns
returns c =
    let s = scheme_in c.args.scope.now in
    let p = production_in c.args.scope.now in
    let k = c.args.position in
    Decides-like c.all.result (all_attributes s p k) (λ h a _. h a) (decides_below (λ a. RuledOnce s p (record { position = k; attribute = a })) (length s.attributes) _ _ _ _ c.all.ensures.ran (search (rules, length-map)) (λ x b q k. search rules))
