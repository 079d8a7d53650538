-- The rules that a scheme keeps, in the order in which they are asked, and the first that is broken. Assumes nothing.
use Rattle.std.specs.Prelude.{ℕ, ◌<◌}
use Rattle.model.specs.Lists.{Has}
use Rattle.model.specs.Scheme.{inherited, Production, Scheme}
use Rattle.model.specs.Lawful.{Of, Ruled, Evaluated, Sequenced, Ordered, Finite, Reached}

-- symbol 0 has one visit and no inherited attribute, and is no child
pub record Rooted (s : Scheme) : Type 0 where
  pub one_visit : Has s.visits 0 1
  pub inherits_nothing : (a j : ℕ) → Of s a 0 inherited j → ⊥
  pub no_child : (n k : ℕ) (p : Production) → Has s.productions n p → Has p.children k 0 → ⊥

-- what is asked: of the root, of each symbol, of each production, of each step
pub data Check : Type 0 where
  root : Check
  finite : (symbol : ℕ) → Check
  reached : (symbol : ℕ) → Check
  ruled : (production : ℕ) → Check
  evaluated : (production : ℕ) → Check
  sequenced : (production : ℕ) → Check
  ordered : (production step : ℕ) → Check

-- what is asked holds; of a symbol or a production that is not there nothing is asked
abbrev pub Keeps : Scheme → Check → Type 0
Keeps s root = Rooted s
Keeps s (finite x) = (v : ℕ) → Has s.visits x v → Finite s x
Keeps s (reached x) = (v : ℕ) → Has s.visits x v → Reached s x
Keeps s (ruled n) = (p : Production) → Has s.productions n p → Ruled s p
Keeps s (evaluated n) = (p : Production) → Has s.productions n p → Evaluated p
Keeps s (sequenced n) = (p : Production) → Has s.productions n p → Sequenced s p
Keeps s (ordered n t) = (p : Production) → Has s.productions n p → Ordered s p t

-- all that is asked of one production
pub record ProductionKept (s : Scheme) (n : ℕ) : Type 0 where
  pub is_ruled : Keeps s (ruled n)
  pub is_evaluated : Keeps s (evaluated n)
  pub is_sequenced : Keeps s (sequenced n)
  pub is_ordered : (t : ℕ) → Keeps s (ordered n t)

-- all that is asked of the symbols
pub record SymbolsKept (s : Scheme) : Type 0 where
  pub is_rooted : Rooted s
  pub all_finite : (x : ℕ) → Keeps s (finite x)
  pub all_reached : (x : ℕ) → Keeps s (reached x)

-- all that is asked before the production
abbrev pub BeforeProduction : Scheme → ℕ → Type 0
BeforeProduction s n = SymbolsKept s × ((m : ℕ) → m < n → ProductionKept s m)

-- All that is asked before: the root first; then of each symbol, from the lowest, whether it derives a finite tree; then of each whether it is reached; then
-- each production in turn, and of one production its rules, its EVALs, its sequence, and each step.
abbrev pub KeptBefore : Scheme → Check → Type 0
KeptBefore s root = Unit {0}
KeptBefore s (finite x) = Rooted s × ((y : ℕ) → y < x → Keeps s (finite y))
KeptBefore s (reached x) = Rooted s × ((y : ℕ) → Keeps s (finite y)) × ((y : ℕ) → y < x → Keeps s (reached y))
KeptBefore s (ruled n) = BeforeProduction s n
KeptBefore s (evaluated n) = BeforeProduction s n × Keeps s (ruled n)
KeptBefore s (sequenced n) = BeforeProduction s n × Keeps s (ruled n) × Keeps s (evaluated n)
KeptBefore s (ordered n t) = BeforeProduction s n × Keeps s (ruled n) × Keeps s (evaluated n) × Keeps s (sequenced n) × ((u : ℕ) → u < t → Keeps s (ordered n u))

-- this is broken, and nothing that is asked before it
pub record FirstBroken (s : Scheme) (c : Check) : Type 0 where
  pub before : KeptBefore s c
  pub broken : Keeps s c → ⊥
