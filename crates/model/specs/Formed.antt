-- The form of a scheme: what its words can say at all, whatever they say. Reading a scheme from its words gives it. Assumes nothing.
use Rattle.std.specs.Prelude.{◌≡◌, ℕ, suc, ◌≤◌, length, nat_eq}
use Rattle.model.specs.Lists.{Has, count}
use Rattle.model.specs.Scheme.{Attribute, Occurrence, Rule, eval, visit, leave, Production, Scheme}
use Rattle.model.specs.Lawful.{Defined, Used}

pub record Formed (s : Scheme) : Type 0 where
  -- a symbol has one to four visits
  pub visit_count : (x v : ℕ) → Has s.visits x v → (1 ≤ v) × (v ≤ 4)
  -- an attribute is one of a symbol, for one of that symbol's visits
  pub attribute_known : (a : ℕ) (b : Attribute) → Has s.attributes a b → (v : ℕ) × Has s.visits b.symbol v × (1 ≤ b.visit) × (b.visit ≤ v)
  -- the left symbol and the children of a production are symbols
  pub left_known : (n : ℕ) (p : Production) → Has s.productions n p → (v : ℕ) × Has s.visits p.left v
  pub child_known : (n k x : ℕ) (p : Production) → Has s.productions n p → Has p.children k x → (v : ℕ) × Has s.visits x v
  -- a rule's target is an occurrence that the production defines, and its arguments are occurrences that it uses
  pub target_defined : (n k : ℕ) (p : Production) (r : Rule) → Has s.productions n p → Has p.rules k r → Defined s p r.target
  pub argument_used : (n k l : ℕ) (p : Production) (r : Rule) (o : Occurrence) → Has s.productions n p → Has p.rules k r → Has r.arguments l o → Used s p o
  -- an EVAL is of a rule, a VISIT goes to a child and has the number of one of its visits, and so has a LEAVE of the left symbol's
  pub evals_rule : (n b k : ℕ) (p : Production) → Has s.productions n p → Has p.steps b (eval k) → (r : Rule) × Has p.rules k r
  pub visits_child : (n b k j : ℕ) (p : Production) → Has s.productions n p → Has p.steps b (visit k j) → (c x : ℕ) × (k ≡ suc c) × Has p.children c x
  pub visit_number : (n b k x v j : ℕ) (p : Production) → Has s.productions n p → Has p.steps b (visit (suc k) j) → Has p.children k x → Has s.visits x v → (1 ≤ j) × (j ≤ v)
  pub leave_number : (n b v i : ℕ) (p : Production) → Has s.productions n p → Has p.steps b (leave i) → Has s.visits p.left v → (1 ≤ i) × (i ≤ v)

-- The limits on a scheme's parts, which reading gives too.
pub record Limited (s : Scheme) : Type 0 where
  pub few_symbols : length s.visits ≤ 32
  pub few_attributes : length s.attributes ≤ 128
  pub few_of_symbol : (x : ℕ) → count (λ b. nat_eq b.symbol x) s.attributes ≤ 16
  pub few_productions : length s.productions ≤ 64
  pub few_children : (n : ℕ) (p : Production) → Has s.productions n p → length p.children ≤ 6
  pub few_rules : (n : ℕ) (p : Production) → Has s.productions n p → length p.rules ≤ 32
  pub few_steps : (n : ℕ) (p : Production) → Has s.productions n p → length p.steps ≤ 64
  pub few_arguments : (n k : ℕ) (p : Production) (r : Rule) → Has s.productions n p → Has p.rules k r → length r.arguments ≤ 3
  pub rule_numbered : (n k : ℕ) (p : Production) (r : Rule) → Has s.productions n p → Has p.rules k r → r.number ≤ 255
