use Rattle.std.proofs.Common.{vec_items, rules}
use Rattle.std.proofs.lemmas.Iterator.{YieldsList-from_slice}
use Rattle.std.proofs.lemmas.Iterator.Consumers.{count_from_yields_List, YieldsList-from_filter}
use Rattle.std.proofs.lemmas.List.Sums.{length-filter}
use Rattle.model.specs.Spans.{open_during}
use Rattle.model.proofs.Common.Seen.{count-map}
use Rattle.plan.specs.Views.{span_of}
use Rattle.plan.proofs.tables.layout.Layout.open_at.Goals as goal

pub returns : goal.returns
returns c =
    rw (count-map, ← length-filter)
    (count_from_yields_List c.filter.result _ c.count.ensures.ran (YieldsList-from_filter _ (λ h. open_during c.args.moment (span_of h.span)) (YieldsList-from_slice (vec_items c.args.self.now.held) (search rules)) c.filter.ensures.closure (λ x b q k. search rules)))
