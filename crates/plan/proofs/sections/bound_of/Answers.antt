use Rattle.std.proofs.Common.{eqb, rules}
use Rattle.std.proofs.lemmas.Iterator.{YieldsList-from_slice}
use Rattle.std.proofs.lemmas.Iterator.Consumers.{YieldsList-from_filter, fold_from_yields_List}
use Rattle.plan.specs.SectionBounds.{bound_in}
use Rattle.plan.proofs.sections.bound_of.Goals as goal

pub returns : goal.returns
returns g c f h test step =
    fold_from_yields_List _ (bound_in h f) c.args.start c.fold.result c.fold.ensures.ran
    (YieldsList-from_filter _ (λ p. eqb p.left c.args.symbol) (YieldsList-from_slice c.args.g.now.productions.items cc) c.filter.ensures.closure (λ x b q k. search rules))
    (λ b x r q k. search (rules, test, step))
