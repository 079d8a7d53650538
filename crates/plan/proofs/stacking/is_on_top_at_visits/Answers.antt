use Rattle.std.proofs.Common.{◌∙◌, sym, rules}
use Rattle.std.proofs.lemmas.Iterator.{YieldsList-from_slice}
use Rattle.std.proofs.lemmas.Iterator.Consumers.{YieldsList-from_enumerate, YieldsList-from_filter}
use Rattle.std.proofs.lemmas.Iterator.Search.{all_from_yields_List}
use Rattle.model.specs.Sequences.{is_visit_of}
use Rattle.model.specs.Spans.{on_top}
use Rattle.grammar.specs.Views.{step_of}
use Rattle.plan.specs.Views.{span_of}
use Rattle.plan.proofs.OneStack.{every_place}
use Rattle.plan.proofs.stacking.is_on_top_at_visits.Goals as goal

pub returns : goal.returns
returns c =
    let a = c.args in
    let zs = a.p.now.production.now.steps.items in
    all_from_yields_List (λ q. on_top (span_of a.x) (span_of a.y) q.0) _ _ _ c.all.ensures.ran
    (YieldsList-from_filter _ (λ q. is_visit_of a.x.child.0 (step_of q.1)) (YieldsList-from_enumerate (YieldsList-from_slice zs cc) cc) c.filter.ensures.closure (λ x b q k. search rules)) (λ x b q k. search rules)
    ∙ sym (every_place step_of (is_visit_of a.x.child.0) (on_top (span_of a.x) (span_of a.y)) 0 zs)
