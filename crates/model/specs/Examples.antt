-- What the worked schemes come to, written out: sections of the house scheme, tables of the fork scheme.
use Rattle.std.specs.Prelude.{List, [], ◌∷◌}
use Rattle.model.specs.Spans.{Sections}
use Rattle.model.specs.Tables.{StepTable, ProductionTable}

-- each attribute of the house scheme is given and read in the one section of its symbol
abbrev pub house_sections : List Sections
house_sections = record { first = 1; last = 1 } ∷ record { first = 1; last = 1 } ∷ record { first = 1; last = 1 } ∷ []

-- a step that touches no stack
abbrev pub still : StepTable
still = record { opens = []; closes = []; arguments = []; target = 0 }

-- a VISIT before which a value of attribute 1 is pushed
abbrev pub pushing : StepTable
pushing = record { opens = 1 ∷ []; closes = []; arguments = []; target = 0 }

-- The fork scheme with attribute 1 on a stack. The root pushes its child's value, which lies on top, and pops it at the EVAL that reads it; a fork pushes two,
-- finds the first one below the second, and pops both; a leaf has none.
abbrev pub fork_tables : List ProductionTable
fork_tables =
    record { steps = pushing ∷ record { opens = []; closes = 1 ∷ []; arguments = 0 ∷ []; target = 0 } ∷ still ∷ []; width = 1 }
    ∷ record { steps = pushing ∷ pushing ∷ record { opens = []; closes = 1 ∷ 1 ∷ []; arguments = 1 ∷ 0 ∷ []; target = 0 } ∷ still ∷ []; width = 2 }
    ∷ record { steps = still ∷ still ∷ []; width = 0 }
    ∷ []
