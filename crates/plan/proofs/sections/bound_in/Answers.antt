use Rattle.std.proofs.Common.{rules}
use Rattle.std.proofs.lemmas.Iterator.{YieldsList-from_slice}
use Rattle.std.proofs.lemmas.Iterator.Consumers.{YieldsList-from_enumerate, YieldsList-from_filter, fold_from_yields_List}
use Rattle.model.specs.Sequences.{section}
use Rattle.grammar.specs.Views.{production_of}
use Rattle.plan.proofs.sections.bound_in.Goals as goal

pub returns : goal.returns
returns g c f h test step =
    let p = c.args.p.now in
    fold_from_yields_List _ (λ m q. h m (section (production_of p) q.0)) c.args.start c.fold.result c.fold.ensures.ran
    (YieldsList-from_filter _ (λ q. f p q.1) (YieldsList-from_enumerate (YieldsList-from_slice p.steps.items cc) cc) c.filter.ensures.closure (λ x b q k. search (rules, test)))
    (λ b x r q k. search (rules, step))
