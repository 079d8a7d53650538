use Rattle.std.proofs.Common.{◌≡◌}
use Rattle.scheme.specs.Marks.{missing}
use Rattle.grammar.specs.Views.{grammar_of}
use Rattle.scheme.proofs.Marks.{Rounds}
use Rattle.scheme.proofs.checks.marks.Marks.close.Given as goal

abbrev pub invariant-loop : goal.invariant-loop
invariant-loop l = record {
  grammar : l.self.grammar ≡ l.initial.self.grammar;
  way : l.self.way ≡ l.initial.self.way;
  rounds : Rounds l.initial.self.way (grammar_of l.initial.self.grammar.now) l.initial.self.marked.items l.self.marked.items;
}

abbrev pub decreases-loop : goal.decreases-loop
decreases-loop l = missing l.self.marked.items
