use Rattle.std.proofs.Common.{◌≡◌, map, ap, ◌∙◌}
use Rattle.model.specs.Scheme as Model
use Rattle.grammar.specs.Views.{production_of}
use Rattle.scheme.specs.Whole.{scheme_of}
use Rattle.plan.proofs.Limits.{few_steps-at, few_children-at, placed-at}
use Rattle.plan.proofs.tables.production.tabulate.Goals as goal

pub invariant_of-bounded : goal.invariant_of-bounded
invariant_of-bounded c =
    let s = scheme_of c.args.figures.now.scheme.now in
    let ps = c.deref-production-items.result.now in
    let p = c.production-item in
    let i = c.loop-production.production-index in
    let is : map production_of ps ≡ s.productions = ap (map production_of) c.deref-production-items.ensures.value ∙ ap (λ (t : Model.Scheme). t.productions) c.grammar.ensures.value in
    record {
      few_steps = few_steps-at s ps is i p.result c.loop-production-test.true p.is c.grammar.ensures.limited;
      few_children = few_children-at s ps is i p.result c.loop-production-test.true p.is c.grammar.ensures.limited;
      placed = placed-at s ps is i p.result c.loop-production-test.true p.is c.grammar.ensures.formed c.grammar.ensures.limited;
    }
