-- A tape that is played from several cells, one after another.
use Rattle.std.proofs.Common.{ℕ, Bool, List, [], ◌∷◌}
use Rattle.model.specs.Outcomes.{Filling}
use Rattle.model.specs.Tape.{Event, play, ready}
use Rattle.lives.specs.declared.cells.Cell.{Cell}
use Rattle.lives.specs.Views.{cell_of}

abbrev pub play_each : (ℕ → Bool) → List Event → Filling → List Cell → Filling
play_each members es w [] = w
play_each members es w (c ∷ cs) = play_each members es (play members (cell_of c) (ready w) es).filling cs
