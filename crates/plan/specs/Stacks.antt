-- What is asked of two spans of one stack.
use Rattle.std.specs.Prelude.{Bool, ◌&&◌}
use Rattle.model.specs.Lists.{every, places}
use Rattle.model.specs.Scheme.{Production}
use Rattle.model.specs.Sequences.{is_visit_of}
use Rattle.model.specs.Spans.{Span, nested, on_top}

-- at each visit of x's child, y does not lie above x
abbrev pub on_top_at_visits : Production → Span → Span → Bool
on_top_at_visits p x y = every (on_top x y) (places (is_visit_of x.child) 0 p.steps)

abbrev pub stacked_with : Production → Span → Span → Bool
stacked_with p x y = nested x y && on_top_at_visits p x y
