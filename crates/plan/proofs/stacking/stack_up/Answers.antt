use Rattle.std.proofs.Common.{◌∙◌, ◌&&◌, rules}
use Rattle.std.specs.List.{list_all}
use Rattle.std.proofs.lemmas.Iterator.{YieldsList-from_slice}
use Rattle.std.proofs.lemmas.Iterator.Search.{all_from_yields_List}
use Rattle.model.specs.Spans.{in_one_section}
use Rattle.plan.specs.Stacks.{stacked_with}
use Rattle.plan.specs.Views.{bounded_of, span_of}
use Rattle.plan.proofs.OneStack.{stack_up_by}
use Rattle.plan.proofs.stacking.stack_up.Goals as goal

pub returns : goal.returns
returns c =
    let p = bounded_of c.args.p.now in
    let xs = c.args.spans.now in
    all_from_yields_List (λ x. in_one_section p (span_of x) && list_all (λ y. stacked_with p (span_of x) (span_of y)) xs) _ _ _ c.all.ensures.ran (YieldsList-from_slice xs cc) (λ x b q k. search rules)
    ∙ stack_up_by span_of p xs
