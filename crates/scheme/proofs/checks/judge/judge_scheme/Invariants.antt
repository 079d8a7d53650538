use Rattle.model.specs.Checking.{BeforeProduction}
use Rattle.grammar.specs.Views.{grammar_of}
use Rattle.scheme.proofs.checks.judge.judge_scheme.Given as goal

abbrev pub invariant-loop-number : goal.invariant-loop-number
invariant-loop-number l = BeforeProduction (grammar_of l.g) l.number
