use Rattle.std.proofs.Common.{◌≡◌, ◌&&◌, eqb, vec_items, ◌∙◌, rules}
use Rattle.std.proofs.lemmas.Iterator.{YieldsList-from_slice}
use Rattle.std.proofs.lemmas.Iterator.Consumers.{count_from_yields_List, YieldsList-from_filter}
use Rattle.std.proofs.lemmas.List.Sums.{length-filter}
use Rattle.model.specs.Lists.{count}
use Rattle.model.specs.Spans.{open_during}
use Rattle.model.proofs.Common.Seen.{count-map}
use Rattle.grammar.specs.Views.{occurrence_of}
use Rattle.plan.specs.Depths.{after}
use Rattle.plan.specs.Layouts.{scheme_in, production_in, held_in}
use Rattle.plan.specs.Views.{span_of}
use Rattle.plan.proofs.Depths.{depth_stands}
use Rattle.plan.proofs.tables.layout.Layout.depth_of.Goals as goal

pub returns : goal.returns
returns c =
    let l = c.args.self.now in
    let o = c.args.o in
    let floor = c.floor_of-floor.result in
    let counted : c.count.result ≡ count (λ h. eqb h.attribute o.attribute && (open_during c.args.moment h.span && after floor h.span.opens)) (held_in l) =
    rw (count-map, ← length-filter)
    (count_from_yields_List c.filter.result c.count.result c.count.ensures.ran (YieldsList-from_filter _ (λ h. eqb h.attribute o.attribute && (open_during c.args.moment (span_of h.span) && after floor h.span.opens)) (YieldsList-from_slice (vec_items l.held) (search rules)) c.filter.ensures.closure (λ x b q k. search rules))) in
    counted ∙ depth_stands (scheme_in l) (production_in l) (held_in l) c.args.moment (occurrence_of o) floor c.floor_of-floor.ensures
