use Rattle.std.proofs.Common.{◌≡◌, ◌++◌, map, drop, vec_items}
use Rattle.model.specs.Tape.{tape, tapes}
use Rattle.grammar.specs.Views.{production_of, grammar_of}
use Rattle.lives.specs.Views.{events_in}
use Rattle.lives.proofs.tape.Tape.of.Given as goal

abbrev pub invariant-loop-production : goal.invariant-loop-production
invariant-loop-production l =
    let s = grammar_of l.grammar in
    (events_in l.tape ++ tapes s (map production_of (drop l.production-index (vec_items l.grammar.productions)))) ≡ tape s
