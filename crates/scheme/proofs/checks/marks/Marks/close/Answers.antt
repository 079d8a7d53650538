use Rattle.std.proofs.Common.{ap}
use Rattle.grammar.specs.Views.{grammar_of}
use Rattle.scheme.proofs.Marks.{only_stands, rounds_full}
use Rattle.scheme.proofs.checks.marks.Marks.close.Goals as goal

pub returns-clause-full : goal.returns-clause-full
returns-clause-full c =
    let k = c.args.self.now in
    let m = c.loop.self in
    let s = grammar_of k.grammar.now in
    rounds_full k.way m.way s (grammar_of m.grammar.now) k.marked.items m.marked.items c.round.new.self.marked.items c.round.result c.loop.invariant.way (ap (λ g. grammar_of g.now) c.loop.invariant.grammar) (only_stands k.way s k.marked.items k.only) c.loop-test.false c.loop.invariant.rounds c.round.ensures.round
