use Rattle.std.proofs.Common.{◌≡◌}
use Rattle.model.specs.Formed.{Formed}
use Rattle.model.specs.Outcomes.{at, Sound}
use Rattle.model.specs.Scheme.{Scheme}
use Rattle.model.proofs.Plan.Table.{falses}
use Rattle.lives.specs.Views.{flags_in, member}
use Rattle.lives.specs.Whole.{Compiled, tape_of, symbols_of}
use Rattle.lives.proofs.lives.Lives.alternates.Given as goal

abbrev pub invariant-loop-self : goal.invariant-loop-self
invariant-loop-self l = record {
  tape : tape_of l.self ≡ tape_of l.fn.self;
  symbols : symbols_of l.self ≡ symbols_of l.fn.self;
  sound : (s : Scheme) → Formed s → Compiled s l.fn.self → Sound s (member l.members) (at (flags_in l.self.table));
}

abbrev pub decreases-loop-self : goal.decreases-loop-self
decreases-loop-self l = falses (flags_in l.self.table)
