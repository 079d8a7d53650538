-- The first or the last section of a symbol with a step that passes a test.
use Rattle.std.specs.Prelude.{ℕ, Bool, List, fold, vec_items, ◌==◌}
use Rattle.std.specs.List.{filter, enumerate_from}
use Rattle.model.specs.Sequences.{section}
use Rattle.grammar.specs.Views.{production_of}
use Rattle.grammar.specs.declared.parts.Production.{Production}
use Rattle.grammar.specs.declared.parts.Step.{Step}

-- what `pick` makes of n and the sections of the steps that pass, in a production and in all those of symbol x
abbrev pub bound_in : (ℕ → ℕ → ℕ) → (Production → Step → Bool) → ℕ → Production → ℕ
bound_in pick passes n p = fold (λ m q. pick m (section (production_of p) q.0)) n (filter (λ q. passes p q.1) (enumerate_from 0 (vec_items p.steps)))

abbrev pub bound_of : (ℕ → ℕ → ℕ) → (Production → Step → Bool) → ℕ → ℕ → List Production → ℕ
bound_of pick passes x n ps = fold (bound_in pick passes) n (filter (λ p. p.left == x) ps)
