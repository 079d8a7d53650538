use Rattle.std.proofs.Common.{rules}
use Rattle.std.proofs.lemmas.Iterator.{items_from_collect, YieldsList-from_slice, YieldsList-from_map}
use Rattle.std.proofs.lemmas.Iterator.Consumers.{YieldsList-at, YieldsList-from_filter}
use Rattle.plan.specs.Views.{stack_span_of}
use Rattle.plan.proofs.Stacked.{names-keep}
use Rattle.plan.proofs.tables.changes.attributes_of.Goals as goal

pub returns : goal.returns
returns g c f test =
    rw names-keep
    (items_from_collect _ c.collect.ensures.ran (YieldsList-from_map _ (λ h. h.attribute) (YieldsList-at c.map.ensures.source (YieldsList-from_filter _ (λ h. f (stack_span_of h)) (YieldsList-from_slice c.args.held.now cc) c.filter.ensures.closure (λ h b q k. search (rules, test)))) c.map.ensures.closure (λ h r q k. search rules)))
