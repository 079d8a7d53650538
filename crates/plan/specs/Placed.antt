-- Where the occurrences of a production's rules are: none is past the sixth child.
use Rattle.std.specs.Prelude.{ℕ, ◌≤◌}
use Rattle.std.specs.Coded.{le_prop}
use Rattle.model.specs.Lists.{Has}
use Rattle.model.specs.Scheme.{Occurrence, Rule, Production}

pub record Placed (p : Production) : Type 0 where
  pub target_placed : (k : ℕ) (r : Rule) → Has p.rules k r → r.target.position ≤ 6
  pub argument_placed : (k l : ℕ) (r : Rule) (o : Occurrence) → Has p.rules k r → Has r.arguments l o → o.position ≤ 6

-- there is at most one proof of it
pub Placed-prop : (p : Production) → IsProp (Placed p)
Placed-prop p a b = λ i. record {
  target_placed = λ k r h. le_prop (a.target_placed k r h) (b.target_placed k r h) i;
  argument_placed = λ k l r o h g. le_prop (a.argument_placed k l r o h g) (b.argument_placed k l r o h g) i;
}
