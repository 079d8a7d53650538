-- What is written to a tape.
use Rattle.std.specs.Prelude.{◌≡◌, ℕ, Bool, ◌&&◌, List, ◌++◌, Result, OnOk, ◌==◌}
use Rattle.model.specs.Loose.{is_side}
use Rattle.model.specs.Scheme.{Side, Attribute}
use Rattle.model.specs.Tape.{Event}
use Rattle.lives.specs.declared.tape.Tape.{Tape}
use Rattle.lives.specs.Views.{events_in}

-- the events are appended, or there was not enough memory
abbrev pub Written : {X Y : Type 0} → Result X Y → Tape → Tape → List Event → Type 0
Written r before after es = OnOk r (events_in after ≡ events_in before ++ es)

-- the attribute is one of symbol x, on that side, for visit j
abbrev pub arriving : ℕ → Side → ℕ → Attribute → Bool
arriving x d j b = b.symbol == x && (is_side b.side d && b.visit == j)
