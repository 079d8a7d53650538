use Rattle.std.proofs.Common.{◌≡◌, ◌++◌, map, drop}
use Rattle.model.specs.Lists.{keep}
use Rattle.model.specs.Loose.{distinct}
use Rattle.model.specs.Sequences.{last_use}
use Rattle.model.specs.Tape.{end_events}
use Rattle.grammar.specs.Views.{occurrence_of, production_of}
use Rattle.lives.specs.Views.{events_in}
use Rattle.lives.proofs.tape.Tape.end_arguments.Given as goal

abbrev pub invariant-loop-k : goal.invariant-loop-k
invariant-loop-k l =
    let ended = last_use (production_of l.p) l.t in
    (events_in l.self ++ end_events (keep ended (distinct (map occurrence_of (drop l.k l.arguments))))) ≡ (events_in l.initial.self ++ end_events (keep ended (distinct (map occurrence_of l.arguments))))
