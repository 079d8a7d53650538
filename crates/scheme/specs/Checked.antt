-- What a search for the first thing that fails answers.
use Rattle.std.specs.Prelude.{ℕ, ◌<◌, Some, None, Option}

-- the lowest number of which P fails; nothing where P holds of all
abbrev pub FirstFailing : (ℕ → Type 0) → Option ℕ → Type 0
FirstFailing P None = (n : ℕ) → P n
FirstFailing P (Some n) = (P n → ⊥) × ((m : ℕ) → m < n → P m)
