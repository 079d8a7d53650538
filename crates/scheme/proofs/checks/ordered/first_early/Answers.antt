use Rattle.std.proofs.Common.{ℕ, rules}
use Rattle.std.proofs.lemmas.List.{length-map}
use Rattle.std.proofs.lemmas.Iterator.{YieldsList-from_slice, IsFirst-from_position}
use Rattle.std.proofs.lemmas.Iterator.Adapters.{serves_from_places}
use Rattle.std.proofs.lemmas.Iterator.Consumers.{YieldsList-from_enumerate}
use Rattle.model.specs.Lists.{Has}
use Rattle.model.specs.Lawful.{Ordered}
use Rattle.grammar.specs.declared.parts.Step.{Step}
use Rattle.grammar.specs.Views.{scheme_in, production_in, step_of}
use Rattle.scheme.proofs.Chains.{placed_stands, first_placed}
use Rattle.scheme.proofs.Readiness.{ordered_from}
use Rattle.scheme.proofs.checks.ordered.first_early.Goals as goal

pub position-requires-clause-callable : goal.position-requires-clause-callable
position-requires-clause-callable c =
    let xs = c.args.scope.now.production.now.steps.items in
    serves_from_places (YieldsList-from_enumerate (YieldsList-from_slice xs cc) cc) (λ x q k. search rules) (λ x k l e. let h = placed_stands step_of xs (x.0, x.1.now) k l e in search rules)

pub returns : goal.returns
returns c =
    let s = scheme_in c.args.scope.now in
    let p = production_in c.args.scope.now in
    let xs = c.args.scope.now.production.now.steps.items in
    let No = λ (e : ℕ × Step). Has p.steps e.0 (step_of e.1) → Ordered s p e.0 in
    let Yes = λ (e : ℕ × Step). Has p.steps e.0 (step_of e.1) → Ordered s p e.0 → ⊥ in
    first_placed step_of (Ordered s p) xs c.position.result (IsFirst-from_position _ _ _ Yes No c.position.ensures.ran (YieldsList-from_enumerate (YieldsList-from_slice xs cc) cc) (λ x q k. search rules) (λ x q k. search rules)) (λ k l. ordered_from s p k (search (rules, length-map)))
