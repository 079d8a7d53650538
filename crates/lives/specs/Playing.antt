-- The head of a tape as the model's machine; events and heads that have their places in a table of outcomes; what the table then says.
use Rattle.std.specs.Prelude.{ℕ, ◌<◌, Bool, true, not, ◌&&◌, List, nat_lt}
use Rattle.model.specs.Loose.{empty, held, broken}
use Rattle.model.specs.Outcomes.{at}
use Rattle.model.specs.Tape.{Event, opens, ends, begins, visits, leaves, Machine}
use Rattle.lives.specs.declared.head.Head.{Head}
use Rattle.lives.specs.declared.table.Table.{Table}
use Rattle.lives.specs.Views.{cells_of, filling_of, symbols_in}

abbrev pub machine_of : Head → Table → Machine
machine_of q t = record { left = q.left; section = q.section; cells = cells_of q.cells; filling = filling_of t }

-- the symbols of the event are below n, and its sections and the next are among the six of a table
abbrev pub in_range : ℕ → Event → Bool
in_range n (opens x) = nat_lt x n
in_range n (ends a) = true
in_range n (begins a) = true
in_range n (visits x j) = nat_lt x n && nat_lt j 6
in_range n (leaves l) = nat_lt l 5

-- the table has section i of symbol x
pub record HasSection (t : Table) (x i : ℕ) : Type 0 where
  pub symbol_below : x < symbols_in t
  pub section-below : i < 6

-- from the empty cell, a walk of the first section of symbol 0 comes to no other
abbrev pub clear : List Bool → Bool
clear t = not (at t 0 1 empty held) && not (at t 0 1 empty broken)
