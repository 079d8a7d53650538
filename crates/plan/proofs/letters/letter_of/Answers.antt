use Rattle.std.proofs.Common.{sym, ◌∙◌}
use Rattle.model.proofs.Common.ListFacts.{has-below}
use Rattle.grammar.specs.Views.{attribute_of}
use Rattle.scheme.specs.Whole.{scheme_of}
use Rattle.plan.proofs.Lettering.{stacked_is, kept_is, decided_not}
use Rattle.plan.proofs.letters.letter_of.Goals as goal

pub is_single-requires : goal.is_single-requires
is_single-requires c = let f = c.args.figure.now in rw c.requires (has-below (scheme_of f.scheme.now).attributes f.number (attribute_of f.attribute) f.known)

pub returns-then-branch-clause-lettered : goal.returns-then-branch-clause-lettered
returns-then-branch-clause-lettered c =
    let f = c.args.figure.now in
    stacked_is (scheme_of f.scheme.now) f.number (attribute_of f.attribute) f.known c.if-figure-eq0.false (decided_not c.is_single.result (rw (← c.requires) c.is_single.ensures.decided) c.if-is_single.false) (sym c.in_ok-stacks.ensures ∙ c.if-branch.true)

pub returns-else-branch-clause-lettered : goal.returns-else-branch-clause-lettered
returns-else-branch-clause-lettered c =
    let f = c.args.figure.now in
    kept_is (scheme_of f.scheme.now) f.number (attribute_of f.attribute) f.known c.if-figure-eq0.false (decided_not c.is_single.result (rw (← c.requires) c.is_single.ensures.decided) c.if-is_single.false) (sym c.in_ok-stacks.ensures ∙ c.if-branch.false)
