-- What a walk has to know of each step, settled from the scheme and the letters of its attributes: which stacks it pushes and pops, and how deep its arguments
-- and its target lie. Assumes nothing.
use Rattle.std.specs.Prelude.{ℕ, zero, suc, ◌+◌, ◌*◌, max, Bool, true, cond, ◌&&◌, List, [], ◌∷◌, ◌++◌, map, length, ◌==◌, nat_eq, nat_lt}
use Rattle.std.proofs.Math.Option.{Option, none, some}
use Rattle.std.proofs.Math.ListN.{get_elem?}
use Rattle.model.specs.Lists.{count, keep, numbered}
use Rattle.model.specs.Sequences.{step_rule}
use Rattle.model.specs.Scheme.{Attribute, Occurrence, Rule, Step, Production, Scheme}
use Rattle.model.specs.Spans.{Sections, attribute_sections, Span, span, spans, open_during}
use Rattle.model.specs.Plan.{Letter, letter, is_stacked}

-- the sections of every attribute
abbrev pub all_sections : Scheme → List Sections
all_sections s = numbered (attribute_sections s) 0 s.attributes

-- a span on the stack of an attribute
pub record StackSpan : Type 0 where
  pub attribute : ℕ
  pub span : Span

abbrev pub on_stack : ℕ → List Span → List StackSpan
on_stack a xs = map (λ (x : Span). record { attribute = a; span = x }) xs

-- the spans that production p has on stacks, by attribute and child; the first of bs is attribute a
abbrev pub stack_spans_from : Scheme → List Letter → Production → ℕ → List Attribute → List StackSpan
stack_spans_from s ls p a [] = []
stack_spans_from s ls p a (b ∷ bs) = cond (is_stacked (letter ls a)) (on_stack a (spans s a b p)) [] ++ stack_spans_from s ls p (suc a) bs

abbrev pub stack_spans : Scheme → List Letter → Production → List StackSpan
stack_spans s ls p = stack_spans_from s ls p 0 s.attributes

abbrev pub names : List StackSpan → List ℕ
names hs = map (λ (h : StackSpan). h.attribute) hs

-- Whether span x of attribute a lies above the value of the attribute, which is b, at a position of p. The left symbol's value lies below all that p has open; a
-- child's below those that opened later.
abbrev pub above : Scheme → Production → ℕ → Option Attribute → ℕ → Span → Bool
above s p a b zero x = true
above s p a none (suc k) x = true
above s p a (some b) (suc k) x = nat_lt (span s a b p (suc k)).opens x.opens

-- how many of the spans hs lie above occurrence o of p on its attribute's stack at moment m
abbrev pub depth : Scheme → Production → List StackSpan → ℕ → Occurrence → ℕ
depth s p hs m o =
    count (λ h. (h.attribute == o.attribute) && (open_during m h.span && above s p o.attribute (get_elem? s.attributes o.attribute) o.position h.span)) hs

-- Of a step: the attributes whose stacks a span opens on and closes on, one for each span, rising. Of an EVAL: the depths of its arguments before it, and of
-- its target after it.
pub record StepTable : Type 0 where
  pub opens : List ℕ
  pub closes : List ℕ
  pub arguments : List ℕ
  pub target : ℕ

abbrev pub opened : List StackSpan → ℕ → List ℕ
opened hs t = names (keep (λ h. nat_eq h.span.opens_at t) hs)

abbrev pub closed : List StackSpan → ℕ → List ℕ
closed hs t = names (keep (λ h. nat_eq h.span.closes_at t) hs)

abbrev pub argument_depths : Scheme → Production → List StackSpan → ℕ → Option Rule → List ℕ
argument_depths s p hs t none = []
argument_depths s p hs t (some r) = map (depth s p hs (3 * t)) r.arguments

abbrev pub target_depth : Scheme → Production → List StackSpan → ℕ → Option Rule → ℕ
target_depth s p hs t none = 0
target_depth s p hs t (some r) = depth s p hs (3 * t + 2) r.target

-- the table of step t of p, which is st and has the spans hs on stacks
abbrev pub step_table : Scheme → Production → List StackSpan → ℕ → Step → StepTable
step_table s p hs t st = record { opens = opened hs t; closes = closed hs t; arguments = argument_depths s p hs t (step_rule p st); target = target_depth s p hs t (step_rule p st) }

-- the most of the spans hs that are open at one of the moments before m
abbrev pub most_open : List StackSpan → ℕ → ℕ
most_open hs zero = 0
most_open hs (suc m) = max (most_open hs m) (count (λ h. open_during m h.span) hs)

-- how many spans production p has on stacks at once, at most
abbrev pub width : Scheme → List Letter → Production → ℕ
width s ls p = most_open (stack_spans s ls p) (3 * length p.steps)

-- the tables of a production's steps, and its width
pub record ProductionTable : Type 0 where
  pub steps : List StepTable
  pub width : ℕ

abbrev pub production_table : Scheme → List Letter → Production → ProductionTable
production_table s ls p = record { steps = numbered (step_table s p (stack_spans s ls p)) 0 p.steps; width = width s ls p }

-- the tables of every production
abbrev pub tables : Scheme → List Letter → List ProductionTable
tables s ls = map (production_table s ls) s.productions

abbrev pub widest_of : List ProductionTable → ℕ
widest_of [] = 0
widest_of (e ∷ es) = max e.width (widest_of es)

-- the width of the widest production
abbrev pub widest : Scheme → List Letter → ℕ
widest s ls = widest_of (tables s ls)
