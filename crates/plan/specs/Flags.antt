-- Sets of attributes, as flags.
use Rattle.std.specs.Prelude.{◌≡◌, ℕ, Bool, false, List, slice_index_or}

-- no flag is set
abbrev pub Clear : List Bool → Type 0
Clear ms = (k : ℕ) → slice_index_or ms k false ≡ false
