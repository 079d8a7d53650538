use Rattle.std.proofs.Common.{◌≡◌, true, map, drop, vec_items}
use Rattle.model.specs.Lists.{every}
use Rattle.model.specs.Tape.{Machine, play, ready}
use Rattle.lives.specs.Playing.{in_range, machine_of, HasSection}
use Rattle.lives.specs.Views.{event_of, events_in, cell_of, filling_of, member, symbols_in}
use Rattle.lives.proofs.tape.Tape.play.Given as goal

abbrev pub invariant-loop-event : goal.invariant-loop-event
invariant-loop-event l =
    let left = map event_of (drop l.event-index (vec_items l.self.events)) in
    record {
      symbols : symbols_in l.table ≡ symbols_in l.initial.table;
      placed : HasSection l.table l.head.left l.head.section;
      fit : every (in_range (symbols_in l.table)) left ≡ true;
      played : ◌≡◌ {A = Machine} (play (member l.members) (cell_of l.from) (machine_of l.head l.table) left) (play (member l.members) (cell_of l.from) (ready (filling_of l.initial.table)) (events_in l.self));
    }
