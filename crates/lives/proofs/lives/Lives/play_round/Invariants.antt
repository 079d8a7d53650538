use Rattle.std.proofs.Common.{◌≡◌, drop, false}
use Rattle.model.specs.Outcomes.{Filling}
use Rattle.model.specs.Tape.{play_three}
use Rattle.lives.specs.Views.{filling_of, flags_in, member}
use Rattle.lives.specs.Whole.{tape_of, symbols_of}
use Rattle.lives.proofs.Playing.{play_each}
use Rattle.lives.proofs.lives.Lives.play_round.Given as goal

abbrev pub invariant-loop-from : goal.invariant-loop-from
invariant-loop-from l = record {
  tape : tape_of l.self ≡ tape_of l.fn.self;
  symbols : symbols_of l.self ≡ symbols_of l.fn.self;
  played : ◌≡◌ {A = Filling} (play_each (member l.members) (tape_of l.fn.self) (filling_of l.self.table) (drop l.from-index l.from-items)) (play_three (member l.members) (tape_of l.fn.self) (record { table = flags_in l.fn.self.table; changed = false }));
}
