use Rattle.std.proofs.Common.{◌≡◌, List, map, ap, sym, ◌∙◌}
use Rattle.std.specs.List.{list_all}
use Rattle.std.proofs.lemmas.List.Folds.{list_all-map}
use Rattle.model.specs.Scheme as Model
use Rattle.model.specs.Spans.{stacks_in, stack_up}
use Rattle.grammar.specs.Views.{attribute_of, production_of}
use Rattle.grammar.specs.declared.parts.Production.{Production}
use Rattle.scheme.specs.Whole.{scheme_of}
use Rattle.plan.specs.Views.{span_of}
use Rattle.plan.specs.declared.span.Span.{Span}
use Rattle.plan.proofs.Along.{passed_on, passed_not, passed_all}
use Rattle.plan.proofs.Limits.{few_steps-at, few_children-at, placed-at}
use Rattle.plan.proofs.stacking.stacks.Goals as goal

pub invariant_of-p : goal.invariant_of-p
invariant_of-p c =
    let s = scheme_of c.args.figure.now.scheme.now in
    let ps = c.deref-production-items.result.now in
    let is : map production_of ps ≡ s.productions = ap (map production_of) c.deref-production-items.ensures.value ∙ ap (λ (t : Model.Scheme). t.productions) c.grammar.ensures.value in
    record {
      few_steps = few_steps-at s ps is c.loop-production.production-index c.production-item.result c.loop-production-test.true c.production-item.is c.grammar.ensures.limited;
      few_children = few_children-at s ps is c.loop-production.production-index c.production-item.result c.loop-production-test.true c.production-item.is c.grammar.ensures.limited;
      placed = placed-at s ps is c.loop-production.production-index c.production-item.result c.loop-production-test.true c.production-item.is c.grammar.ensures.formed c.grammar.ensures.limited;
    }

pub returns-then-not-stack_up : goal.returns-then-not-stack_up
returns-then-not-stack_up c =
    let s = scheme_of c.args.figure.now.scheme.now in
    let f = c.args.figure.now in
    let ps = c.deref-production-items.result.now in
    let p = production_of c.production-item.result in
    let test = λ (q : Production). stacks_in s f.number (attribute_of f.attribute) (production_of q) in
    let is : map production_of ps ≡ s.productions = ap (map production_of) c.deref-production-items.ensures.value ∙ ap (λ (t : Model.Scheme). t.productions) c.grammar.ensures.value in
    let so = ap (stack_up p) (sym c.in_ok-spans.ensures) ∙ ap (λ (us : List Span). stack_up p (map span_of us)) (sym c.deref.ensures.value) ∙ sym c.stack_up.ensures ∙ c.if-not-stack_up.true in
    passed_not test ps c.loop-production.production-index c.production-item.result c.loop-production-test.true c.production-item.is so c.loop-production.invariant
    ∙ sym (list_all-map (stacks_in s f.number (attribute_of f.attribute)) production_of ps) ∙ ap (list_all (stacks_in s f.number (attribute_of f.attribute))) is

pub loop-production-preserved : goal.loop-production-preserved
loop-production-preserved c =
    let s = scheme_of c.args.figure.now.scheme.now in
    let f = c.args.figure.now in
    let ps = c.deref-production-items.result.now in
    let p = production_of c.production-item.result in
    let test = λ (q : Production). stacks_in s f.number (attribute_of f.attribute) (production_of q) in
    let so = ap (stack_up p) (sym c.in_ok-spans.ensures) ∙ ap (λ (us : List Span). stack_up p (map span_of us)) (sym c.deref.ensures.value) ∙ sym c.stack_up.ensures ∙ c.if-not-stack_up.false in
    passed_on test ps c.loop-production.production-index c.production-item.result c.loop-production-test.true c.production-item.is so c.loop-production.invariant

pub returns : goal.returns
returns c =
    let s = scheme_of c.args.figure.now.scheme.now in
    let f = c.args.figure.now in
    let ps = c.deref-production-items.result.now in
    let test = λ (q : Production). stacks_in s f.number (attribute_of f.attribute) (production_of q) in
    let is : map production_of ps ≡ s.productions = ap (map production_of) c.deref-production-items.ensures.value ∙ ap (λ (t : Model.Scheme). t.productions) c.grammar.ensures.value in
    passed_all test ps c.loop-production.production-index c.loop-production-test.false c.loop-production.invariant
    ∙ sym (list_all-map (stacks_in s f.number (attribute_of f.attribute)) production_of ps) ∙ ap (list_all (stacks_in s f.number (attribute_of f.attribute))) is
