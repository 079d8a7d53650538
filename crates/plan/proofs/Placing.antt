-- The rule that a step evaluates has no argument past the sixth child. Assumes nothing.
use Rattle.std.proofs.Common.{◌≡◌, ℕ, ◌<◌, ◌≤◌, List, map, length, get_or, sym, ap, ◌∙◌}
use mathlib.Core.Option.{some}
use lib.ListN.{get_elem?}
use Rattle.std.proofs.lemmas.List.{get_or_default}
use Rattle.model.specs.Scheme.{Occurrence, Rule, Step, eval, visit, leave, Production}
use Rattle.model.specs.Sequences.{step_rule}
use Rattle.plan.specs.Placed.{Placed}
use Rattle.plan.proofs.AtPlaces.{read-has}

module _ (p : Production) (placed : Placed p) where
  argument_low : (st : Step) (r : Rule) → some r ≡ step_rule p st → (k : ℕ) (o : Occurrence) → get_elem? r.arguments k ≡ some o → o.position ≤ 6
  argument_low (eval n) r e k o h = placed.argument_placed n k r o (sym e) h
  argument_low (visit n j) r e k o h = cc
  argument_low (leave i) r e k o h = cc

  -- the same of the arguments that the code has
  pub arguments_low : {X : Type 0} (f : X → Occurrence) (st : Step) (r : Rule) → some r ≡ step_rule p st → (xs : List X) → r.arguments ≡ map f xs → (k : ℕ) (d : X) → k < length xs → (f (get_or xs k d)).position ≤ 6
  arguments_low f st r e xs is k d l =
      argument_low st r e k (f (get_or xs k d)) (ap (λ (os : List Occurrence). get_elem? os k) is ∙ read-has f xs k (get_or xs k d) l (get_or_default xs k d (get_or xs k d) l))
