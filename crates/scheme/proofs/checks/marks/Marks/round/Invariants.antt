use Rattle.std.proofs.Common.{◌≡◌}
use Rattle.scheme.specs.Marks.{Round}
use Rattle.grammar.specs.Views.{grammar_of}
use Rattle.scheme.proofs.checks.marks.Marks.round.Given as goal

abbrev pub invariant-loop-p : goal.invariant-loop-p
invariant-loop-p l = record {
  grammar : l.self.grammar ≡ l.initial.self.grammar;
  way : l.self.way ≡ l.initial.self.way;
  round : Round l.self.way (grammar_of l.self.grammar.now) l.initial.self.marked.items l.self.marked.items l.added l.p-index;
}
