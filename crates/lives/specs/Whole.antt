-- The lives of a scheme: the tape and the number of symbols that a value holds.
use Rattle.std.specs.Prelude.{◌≡◌, ℕ, List, length}
use Rattle.model.specs.Scheme.{Scheme}
use Rattle.model.specs.Tape.{Event, tape}
use Rattle.lives.specs.declared.lives.Lives.{Lives}
use Rattle.lives.specs.Views.{events_in, symbols_in}

abbrev pub tape_of : Lives → List Event
tape_of v = events_in v.tape

abbrev pub symbols_of : Lives → ℕ
symbols_of v = symbols_in v.table

-- the value was made for the scheme
pub record Compiled (s : Scheme) (v : Lives) : Type 0 where
  pub tape_is : tape_of v ≡ tape s
  pub symbols_are : symbols_of v ≡ length s.visits
