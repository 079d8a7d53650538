use Rattle.std.proofs.Common.{◌≡◌, map, take, vec_items}
use Rattle.model.specs.Lists.{numbered}
use Rattle.model.specs.Spans.{attribute_sections}
use Rattle.grammar.specs.Views.{attribute_of}
use Rattle.scheme.specs.Whole.{scheme_of}
use Rattle.plan.specs.Views.{letter_of, sections_of}
use Rattle.plan.proofs.Lettering.{Lettering}
use Rattle.plan.proofs.letters.attribute_plans.Given as goal

abbrev pub invariant-loop-number : goal.invariant-loop-number
invariant-loop-number l =
    (l.trials.scheme.now ≡ l.figures.scheme.now) × Lettering (scheme_of l.figures.scheme.now) l.number (map (λ a. letter_of a.letter) (vec_items l.plans)) × (map (λ a. sections_of a.sections) (vec_items l.plans) ≡ numbered (attribute_sections (scheme_of l.figures.scheme.now)) 0 (map attribute_of (take l.number l.attribute-items)))
