-- The parts of a plan as the model's records: what each value of the code means.
use Rattle.std.specs.Prelude.{map, vec_items}
use Rattle.model.specs.Plan as Plans
use Rattle.model.specs.Spans as Spans
use Rattle.model.specs.Tables as Tables
use Rattle.model.specs.Scheme as Scheme
use Rattle.grammar.specs.Views.{visit_of, production_of}
use Rattle.plan.specs.declared.bounded.Bounded.{Bounded}
use Rattle.plan.specs.declared.letter.Letter.{Letter}
use Rattle.plan.specs.declared.letter.Letter.TheVariants.{Single, Stacked, Kept}
use Rattle.plan.specs.declared.span.Sections.{Sections}
use Rattle.plan.specs.declared.span.Span.{Span}
use Rattle.plan.specs.declared.tables.StackSpan.{StackSpan}
use Rattle.plan.specs.declared.tables.StepTable.{StepTable}
use Rattle.plan.specs.declared.tables.ProductionTable.{ProductionTable}

abbrev pub letter_of : Letter → Plans.Letter
letter_of Single = Plans.C
letter_of Stacked = Plans.S
letter_of Kept = Plans.K

abbrev pub bounded_of : Bounded → Scheme.Production
bounded_of p = production_of p.production.now

abbrev pub sections_of : Sections → Spans.Sections
sections_of w = record { first = visit_of w.first; last = visit_of w.last }

abbrev pub span_of : Span → Spans.Span
span_of x = record { child = x.child.0; opens_at = x.opens_at; opens = x.opens; closes_at = x.closes_at; closes = x.closes }

abbrev pub stack_span_of : StackSpan → Tables.StackSpan
stack_span_of h = record { attribute = h.attribute; span = span_of h.span }

abbrev pub step_table_of : StepTable → Tables.StepTable
step_table_of e = record { opens = vec_items e.opens; closes = vec_items e.closes; arguments = vec_items e.arguments; target = e.target }

abbrev pub production_table_of : ProductionTable → Tables.ProductionTable
production_table_of e = record { steps = map step_table_of (vec_items e.steps); width = e.width }
