use Rattle.std.proofs.Common.{rules}
use Rattle.std.proofs.lemmas.Iterator.{items_from_collect, YieldsList-from_slice, YieldsList-from_map}
use mathlib.Core.List.{map-map}
use Rattle.model.specs.Tables.{depth}
use Rattle.grammar.specs.Views.{occurrence_of}
use Rattle.plan.specs.Layouts.{scheme_in, production_in, held_in}
use Rattle.plan.proofs.tables.layout.Layout.depths_of.Goals as goal

pub returns : goal.returns
returns c =
    let l = c.args.self.now in
    rw map-map
    (items_from_collect _ c.collect.ensures.ran (YieldsList-from_map _ (λ o. depth (scheme_in l) (production_in l) (held_in l) c.args.moment (occurrence_of o)) (YieldsList-from_slice c.args.occurrences.now (search rules)) c.map.ensures.closure (λ o r q k. search rules)))
