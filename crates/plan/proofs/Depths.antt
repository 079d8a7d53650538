-- Where a value lies on its attribute's stack. Assumes nothing.
use Rattle.std.proofs.Common.{◌≡◌, ℕ, ◌&&◌, eqb, List, Option}
use Rattle.model.specs.Lists.{count}
use Rattle.model.specs.Scheme.{Occurrence, Production, Scheme}
use Rattle.model.specs.Spans.{open_during}
use Rattle.model.specs.Tables.{StackSpan, depth}
use Rattle.plan.specs.Depths.{after, Floor}

-- the depth by the floor
pub depth_stands : (s : Scheme) (p : Production) (hs : List StackSpan) (m : ℕ) (o : Occurrence) (n : Option ℕ) → Floor s p o n → count (λ h. eqb h.attribute o.attribute && (open_during m h.span && after n h.span.opens)) hs ≡ depth s p hs m o
depth_stands s p hs m o n floor = λ i. count (λ (h : StackSpan). eqb h.attribute o.attribute && (open_during m h.span && floor h.span i)) hs
