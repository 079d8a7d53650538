use Rattle.std.proofs.Common.{rules}
use Rattle.grammar.specs.Views.{attribute_of}
use Rattle.scheme.specs.Whole.{scheme_of}
use Rattle.plan.specs.Views.{sections_of}
use Rattle.plan.proofs.Known.{sections-below, sections-known}
use Rattle.plan.proofs.figures.Figures.figure.Goals as goal

pub bounds-self-number : goal.bounds-self-number
bounds-self-number c = sections-below sections_of (scheme_of c.args.self.now.scheme.now) c.args.self.now.sections.now c.args.number (attribute_of c.args.attribute) c.args.self.now.sectioned c.requires

pub offset_bounds-self-number : goal.offset_bounds-self-number
offset_bounds-self-number c = let below = bounds-self-number c in search rules

pub invariant_of-result-clause-sectioned : goal.invariant_of-result-clause-sectioned
invariant_of-result-clause-sectioned c = sections-known sections_of (scheme_of c.args.self.now.scheme.now) c.args.self.now.sections.now c.args.number (attribute_of c.args.attribute) c.args.self.now.sectioned c.requires _
