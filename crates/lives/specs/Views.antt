-- The events, the cells, the table and the members of the code as the model's.
use Rattle.std.specs.Prelude.{ℕ, Bool, false, List, [], ◌∷◌, map, length, slice_index_or, vec_items}
use Rattle.std.specs.List.{flat_map}
use Rattle.model.specs.Loose as Loose
use Rattle.model.specs.Outcomes as Outcomes
use Rattle.model.specs.Tape as Model
use Rattle.lives.specs.declared.cells.Cell.{Cell}
use Rattle.lives.specs.declared.cells.Cell.TheVariants.{Empty, Held, Broken}
use Rattle.lives.specs.declared.cells.Cells.{Cells}
use Rattle.lives.specs.declared.event.Event.{Event}
use Rattle.lives.specs.declared.event.Event.TheVariants.{Opens, Ends, Begins, Visits, Leaves}
use Rattle.lives.specs.declared.table.Section.{Section}
use Rattle.lives.specs.declared.table.Sections.{Sections}
use Rattle.lives.specs.declared.table.Table.{Table}
use Rattle.lives.specs.declared.tape.Tape.{Tape}

abbrev pub event_of : Event → Model.Event
event_of (Opens x) = Model.opens x
event_of (Ends a) = Model.ends a
event_of (Begins a) = Model.begins a
event_of (Visits x i) = Model.visits x i
event_of (Leaves i) = Model.leaves i

abbrev pub events_in : Tape → List Model.Event
events_in t = map event_of (vec_items t.events)

abbrev pub cell_of : Cell → Loose.Cell
cell_of Empty = Loose.empty
cell_of Held = Loose.held
cell_of Broken = Loose.broken

abbrev pub cells_of : Cells → Outcomes.Cells
cells_of f = record { e = f.empty; h = f.held; b = f.broken }

-- the flags of a set of cells, of a section's three sets, of a symbol's six sections and of a whole table
abbrev pub cell_flags : Cells → List Bool
cell_flags f = f.empty ∷ f.held ∷ f.broken ∷ []

abbrev pub section_flags : Section → List Bool
section_flags i = flat_map cell_flags i.reached

abbrev pub symbol_flags : Sections → List Bool
symbol_flags x = flat_map section_flags x.sections

abbrev pub flags_in : Table → List Bool
flags_in t = flat_map symbol_flags (vec_items t.symbols)

-- how many symbols a table is for
abbrev pub symbols_in : Table → ℕ
symbols_in t = length (vec_items t.symbols)

abbrev pub filling_of : Table → Outcomes.Filling
filling_of t = record { table = flags_in t; changed = t.changed }

-- attribute a is a member; past the end of the flags there is none
abbrev pub member : List Bool → ℕ → Bool
member ms a = slice_index_or ms a false
