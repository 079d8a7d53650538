use Rattle.std.proofs.Common.{◌≡◌, ◌∙◌, ap, rules}
use Rattle.std.specs.Range.{range_inclusive_start, range_inclusive_end, range_inclusive_exhausted}
use Rattle.std.proofs.lemmas.Bool.Decides.{Decides-eqb}
use Rattle.std.proofs.lemmas.Iterator.{YieldsList-from_slice}
use Rattle.std.proofs.lemmas.Iterator.Consumers.{YieldsList-from_filter_map}
use Rattle.scheme.specs.Numbers.{number_at}
use Rattle.grammar.specs.Views.{step_of, visit_of}
use Rattle.scheme.proofs.Chains.{YieldsList-from_one}
use Rattle.scheme.proofs.Comparing.{decides_eq}
use Rattle.scheme.proofs.Numbering.{number_from, is_number_from, numbers_picked, range_from_on}
use Rattle.scheme.proofs.checks.sequenced.rises_to.Goals as goal

pub returns : goal.returns
returns c =
    let k = c.args.position in
    let xs = c.args.steps.now in
    rw (← numbers_picked step_of k xs, ← range_from_on 1 (visit_of c.args.last)) (decides_eq (λ x y. y ≡ x) c.new.result c.eq.result c.eq.ensures.ran (YieldsList-from_filter_map _ (λ st. number_from (number_at k (step_of st))) (YieldsList-from_slice xs cc) c.filter_map.ensures.closure (λ x r q h. search (rules, is_number_from))) (λ it b. YieldsList-from_one (visit_of c.args.last) it (ap range_inclusive_start b ∙ c.new.ensures.start) (ap range_inclusive_end b ∙ c.new.ensures.end) (ap range_inclusive_exhausted b ∙ c.new.ensures.exhausted)) (λ x y. Decides-eqb x y))
