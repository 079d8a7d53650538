use Rattle.std.proofs.Common.{rules}
use Rattle.std.proofs.lemmas.List.Sums.{length-filter}
use Rattle.std.proofs.lemmas.Iterator.{YieldsList-from_slice}
use Rattle.std.proofs.lemmas.Iterator.Consumers.{count_from_yields_List, YieldsList-from_filter}
use Rattle.model.specs.Lawful.{is_eval_of}
use Rattle.model.proofs.Common.Seen.{count-map}
use Rattle.grammar.specs.Views.{step_of}
use Rattle.scheme.proofs.checks.evaluated.evals_of.Goals as goal

pub returns : goal.returns
returns c = rw (count-map, ← length-filter) (count_from_yields_List c.filter.result _ c.count.ensures.ran (YieldsList-from_filter _ (λ s. is_eval_of c.args.rule (step_of s)) (YieldsList-from_slice c.args.steps.now cc) c.filter.ensures.closure (λ x b q k. search rules)))
