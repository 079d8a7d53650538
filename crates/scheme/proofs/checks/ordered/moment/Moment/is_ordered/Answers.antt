use Rattle.std.proofs.Common.{rules, sym, ap, ◌∙◌}
use mathlib.Core.Option.{some}
use Rattle.grammar.specs.declared.parts.Step.{Step}
use Rattle.grammar.specs.Views.{step_of}
use Rattle.scheme.specs.Readiness.{scheme_at, production_at}
use Rattle.scheme.proofs.Readiness.{ordered-eval, ordered-visit, ordered-leave}
use Rattle.scheme.proofs.checks.ordered.moment.Moment.is_ordered.Goals as goal

pub returns-in-Eval : goal.returns-in-Eval
returns-in-Eval c =
    let m = c.args.self.now in
    ordered-eval (scheme_at m) (production_at m) m.step c.in-Eval.rule c.knows_arguments.result (ap (λ (z : Step). some (step_of z)) (sym c.in-Eval.is) ∙ sym c.requires) c.knows_arguments.ensures

pub returns-in-Visit : goal.returns-in-Visit
returns-in-Visit c =
    let m = c.args.self.now in
    ordered-visit (scheme_at m) (production_at m) m.step c.in-Visit.child.0 c.in-Visit.visit.0 c.is_ready_to_visit.result (ap (λ (z : Step). some (step_of z)) (sym c.in-Visit.is) ∙ sym c.requires) (search rules)

pub returns-in-Leave : goal.returns-in-Leave
returns-in-Leave c =
    let m = c.args.self.now in
    ordered-leave (scheme_at m) (production_at m) m.step c.in-Leave.visit.0 c.has_defined_each.result (ap (λ (z : Step). some (step_of z)) (sym c.in-Leave.is) ∙ sym c.requires) c.has_defined_each.ensures
