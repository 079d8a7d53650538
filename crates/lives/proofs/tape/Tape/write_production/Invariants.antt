use Rattle.std.proofs.Common.{◌≡◌, ◌++◌, map, drop, vec_items}
use Rattle.model.specs.Tape.{steps_events}
use Rattle.grammar.specs.Views.{step_of, scheme_in, production_in}
use Rattle.lives.specs.Views.{events_in}
use Rattle.lives.proofs.tape.Tape.write_production.Given as goal

abbrev pub invariant-loop-t : goal.invariant-loop-t
invariant-loop-t l =
    let s = scheme_in l.scope in
    let p = production_in l.scope in
    (events_in l.self ++ steps_events s p l.t (map step_of (drop l.t (vec_items l.scope.production.now.steps)))) ≡ (events_in l.initial.self ++ steps_events s p 0 p.steps)
