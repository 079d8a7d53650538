use Rattle.std.proofs.Common.{ap, ◌∙◌, rules}
use Rattle.std.specs.Option.{unwrap_or}
use Rattle.std.specs.Ordering.{nat_cmp, max_by_ordering}
use Rattle.std.proofs.lemmas.Iterator.{YieldsList-from_slice, YieldsList-from_map}
use Rattle.std.proofs.lemmas.Iterator.Consumers.{reduce_from_yields_List}
use Rattle.std.proofs.lemmas.List.Folds.{max_of_map}
use Rattle.plan.specs.Views.{production_table_of}
use Rattle.plan.proofs.Widths.{widest-fold}
use Rattle.plan.proofs.tables.width.widest_of.Goals as goal

pub returns : goal.returns
returns c =
    c.unwrap_or.ensures
    ∙ ap (λ r. unwrap_or r 0) (reduce_from_yields_List (λ p z. max_by_ordering (nat_cmp p z) p z) c.map.result _ c.max.ensures.ran (YieldsList-from_map _ (λ e. e.width) (YieldsList-from_slice c.args.tables.now cc) c.map.ensures.closure (λ x r q k. search rules)))
    ∙ max_of_map (λ e. e.width) c.args.tables.now
    ∙ widest-fold production_table_of c.args.tables.now
