-- What a layout is of: its scheme and its production, and the spans that the production has on stacks.
use Rattle.std.specs.Prelude.{List, map, vec_items}
use Rattle.model.specs.Scheme.{Production, Scheme}
use Rattle.model.specs.Tables.{StackSpan}
use Rattle.scheme.specs.Whole.{scheme_of}
use Rattle.plan.specs.Views.{bounded_of, stack_span_of}
use Rattle.plan.specs.declared.tables.layout.Layout.{Layout}

abbrev pub scheme_in : Layout → Scheme
scheme_in l = scheme_of l.figures.scheme.now

abbrev pub production_in : Layout → Production
production_in l = bounded_of l.bounded

abbrev pub held_in : Layout → List StackSpan
held_in l = map stack_span_of (vec_items l.held)
