-- How much there is of a scheme, and the line that says it.
use Rattle.std.specs.Prelude.{ℕ, List, ◌++◌, length, codes, decimal}
use Rattle.model.specs.Scheme.{Scheme}
use Rattle.plan_scheme.specs.declared.counts.Counts.{Counts}

abbrev pub sizes_of : Scheme → Counts
sizes_of s = record { symbols = length s.visits; attributes = length s.attributes; productions = length s.productions }

abbrev pub counts_line : Counts → List ℕ
counts_line c = codes "scheme " ++ (decimal c.symbols ++ (codes " " ++ (decimal c.attributes ++ (codes " " ++ decimal c.productions))))
