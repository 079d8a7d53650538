-- The parts of a grammar as the model's records: what each value of the code means.
use Rattle.std.specs.Prelude.{ℕ, map, Some, None, vec_items, Option}
use Rattle.std.proofs.Math.Option as Plain
use Rattle.model.specs.Scheme as Model
use Rattle.grammar.specs.declared.parts.VisitNumber.{VisitNumber}
use Rattle.grammar.specs.declared.parts.Side.{Side}
use Rattle.grammar.specs.declared.parts.Side.TheVariants.{Inherited, Synthesized}
use Rattle.grammar.specs.declared.parts.Attribute.{Attribute}
use Rattle.grammar.specs.declared.parts.Occurrence.{Occurrence}
use Rattle.grammar.specs.declared.parts.Rule.{Rule}
use Rattle.grammar.specs.declared.parts.Step.{Step}
use Rattle.grammar.specs.declared.parts.Step.TheVariants.{Eval, Visit, Leave}
use Rattle.grammar.specs.declared.parts.Production.{Production}
use Rattle.grammar.specs.declared.parts.Grammar.{Grammar}
use Rattle.grammar.specs.declared.parts.Scope.{Scope}

-- an answer of the code as the model's
abbrev pub option_of : {X Y : Type 0} → (X → Y) → Option X → Plain.Option Y
option_of f None = Plain.none
option_of f (Some x) = Plain.some (f x)

abbrev pub same : ℕ → ℕ
same x = x

abbrev pub visit_of : VisitNumber → ℕ
visit_of v = v.0

abbrev pub side_of : Side → Model.Side
side_of Inherited = Model.inherited
side_of Synthesized = Model.synthesized

abbrev pub attribute_of : Attribute → Model.Attribute
attribute_of a = record { symbol = a.symbol; side = side_of a.side; visit = visit_of a.visit }

abbrev pub occurrence_of : Occurrence → Model.Occurrence
occurrence_of o = record { position = o.position; attribute = o.attribute }

abbrev pub rule_of : Rule → Model.Rule
rule_of r = record { number = r.number; target = occurrence_of r.target; arguments = map occurrence_of (vec_items r.arguments) }

abbrev pub step_of : Step → Model.Step
step_of (Eval r) = Model.eval r
step_of (Visit k j) = Model.visit k.0 j.0
step_of (Leave i) = Model.leave i.0

abbrev pub production_of : Production → Model.Production
production_of p = record { left = p.left; children = vec_items p.children; rules = map rule_of (vec_items p.rules); steps = map step_of (vec_items p.steps) }

-- the scheme that a grammar is
abbrev pub grammar_of : Grammar → Model.Scheme
grammar_of g = record { visits = map visit_of (vec_items g.visits); attributes = map attribute_of (vec_items g.attributes); productions = map production_of (vec_items g.productions) }

-- the scheme and the production of a scope
abbrev pub scheme_in : Scope → Model.Scheme
scheme_in c = grammar_of c.grammar.now

abbrev pub production_in : Scope → Model.Production
production_in c = production_of c.production.now
