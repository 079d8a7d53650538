use Rattle.std.proofs.Common.{◌≡◌, ◌++◌, map, drop, vec_items}
use Rattle.model.specs.Lists.{places}
use Rattle.model.specs.Loose.{of_visit}
use Rattle.model.specs.Tape.{unused_events}
use Rattle.grammar.specs.Views.{side_of, attribute_of, scheme_in, production_in}
use Rattle.lives.specs.Views.{events_in}
use Rattle.lives.specs.Writing.{arriving}
use Rattle.lives.proofs.tape.Tape.end_unused.Given as goal

abbrev pub invariant-loop-attribute : goal.invariant-loop-attribute
invariant-loop-attribute l =
    let p = production_in l.scope in
    let k = l.arrival.position in
    let x = l.arrival.symbol in
    let d = side_of l.arrival.side in
    let j = l.arrival.visit in
    (events_in l.self ++ unused_events p k (places (arriving x d j) l.attribute (map attribute_of (drop l.attribute (vec_items l.scope.grammar.now.attributes))))) ≡ (events_in l.initial.self ++ unused_events p k (of_visit (scheme_in l.scope) x d j))
