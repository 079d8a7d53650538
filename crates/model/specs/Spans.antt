-- Spans: how long an attribute's stack holds the value of a child. Assumes nothing.
use Rattle.std.specs.Prelude.{ℕ, suc, ◌+◌, ◌*◌, min, max, Bool, cond, not, ◌&&◌, ◌||◌, List, [], ◌∷◌, ◌==◌, nat_le, nat_lt}
use Rattle.model.specs.Lists.{every, places}
use Rattle.model.specs.Scheme.{Side, inherited, synthesized, Attribute, Occurrence, Step, Production, Scheme}
use Rattle.model.specs.Sequences.{is_visit_of, section, uses, defines}
use Rattle.model.specs.Lawful.{is_visit}

abbrev pub own : ℕ → Occurrence
own a = record { position = 0; attribute = a }

abbrev pub at_child : ℕ → ℕ → Occurrence
at_child k a = record { position = k; attribute = a }

-- the greatest of n and the sections of steps ts, and the least
abbrev pub latest : Production → ℕ → List ℕ → ℕ
latest p n [] = n
latest p n (t ∷ ts) = latest p (max n (section p t)) ts

abbrev pub earliest : Production → ℕ → List ℕ → ℕ
earliest p n [] = n
earliest p n (t ∷ ts) = earliest p (min n (section p t)) ts

-- over the productions of symbol x: the greatest section that uses attribute a, at least n
abbrev pub last_section : ℕ → ℕ → ℕ → List Production → ℕ
last_section x a n [] = n
last_section x a n (p ∷ ps) =
    last_section x a (cond (p.left == x) (latest p n (places (λ st. uses p st (own a)) 0 p.steps)) n) ps

-- over the productions of symbol x: the least section that evaluates attribute a, at most n
abbrev pub first_section : ℕ → ℕ → ℕ → List Production → ℕ
first_section x a n [] = n
first_section x a n (p ∷ ps) =
    first_section x a (cond (p.left == x) (earliest p n (places (λ st. defines p st (own a)) 0 p.steps)) n) ps

-- The first and the last section of its symbol in which an attribute may be read or given its value. An inherited one is given before its visit, and read up to
-- the last section that uses it; a synthesized one is given from the first section that evaluates it up to its visit.
pub record Sections : Type 0 where
  pub first : ℕ
  pub last : ℕ

abbrev pub sections_on : Scheme → ℕ → Attribute → Side → Sections
sections_on s a b inherited = record { first = b.visit; last = last_section b.symbol a b.visit s.productions }
sections_on s a b synthesized = record { first = first_section b.symbol a b.visit s.productions; last = b.visit }

abbrev pub attribute_sections : Scheme → ℕ → Attribute → Sections
attribute_sections s a b = sections_on s a b b.side

-- Moments in a production's steps. A span opens right before VISIT t at 3t, closes at EVAL t or right after VISIT t at 3t + 1, and opens at
-- EVAL t, after that, at 3t + 2.
pub record Span : Type 0 where
  pub child : ℕ
  pub opens_at : ℕ
  pub opens : ℕ
  pub closes_at : ℕ
  pub closes : ℕ

abbrev pub first_of : List ℕ → ℕ
first_of [] = 0
first_of (t ∷ ts) = t

abbrev pub last_of : ℕ → List ℕ → ℕ
last_of n [] = n
last_of n (t ∷ ts) = last_of t ts

abbrev pub place_of : Production → (Step → Bool) → ℕ
place_of p f = first_of (places f 0 p.steps)

-- The span at child k of attribute a, by its side and its sections. An inherited one opens at the EVAL that defines it, and closes right after the VISIT of its last
-- section. A synthesized one opens right before the VISIT of its first section, and closes at the last EVAL that uses it; if none does, right after the VISIT that
-- brings it.
abbrev pub span_on : Production → ℕ → Side → Sections → ℕ → Span
span_on p a inherited w k =
    let e = place_of p (λ st. defines p st (at_child k a)) in
    let c = place_of p (is_visit k w.last) in
    record { child = k; opens_at = e; opens = 3 * e + 2; closes_at = c; closes = 3 * c + 1 }
span_on p a synthesized w k =
    let o = place_of p (is_visit k w.first) in
    let c = last_of (place_of p (is_visit k w.last)) (places (λ st. uses p st (at_child k a)) 0 p.steps) in
    record { child = k; opens_at = o; opens = 3 * o; closes_at = c; closes = 3 * c + 1 }

-- the span of attribute a, which is b, at child k
abbrev pub span : Scheme → ℕ → Attribute → Production → ℕ → Span
span s a b p k = span_on p a b.side (attribute_sections s a b) k

-- the places, from k on, of the children that are symbol x
abbrev pub children_of : ℕ → ℕ → List ℕ → List ℕ
children_of x k [] = []
children_of x k (c ∷ cs) = cond (c == x) (k ∷ children_of x (suc k) cs) (children_of x (suc k) cs)

abbrev pub spans_at : Scheme → ℕ → Attribute → Production → List ℕ → List Span
spans_at s a b p [] = []
spans_at s a b p (k ∷ ks) = span s a b p k ∷ spans_at s a b p ks

-- the spans of attribute a, which is b, in production p
abbrev pub spans : Scheme → ℕ → Attribute → Production → List Span
spans s a b p = spans_at s a b p (children_of b.symbol 1 p.children)

-- the span is open at moment m
abbrev pub open_during : ℕ → Span → Bool
open_during m x = nat_le x.opens m && nat_lt m x.closes

-- the span is open while VISIT t goes on, or, for an EVAL, before it
abbrev pub open_at : ℕ → Span → Bool
open_at t x = open_during (3 * t) x

-- a span opens and closes in one section
abbrev pub in_one_section : Production → Span → Bool
in_one_section p x = section p x.opens_at == section p x.closes_at

-- two spans are disjoint, or the later opened closes no later
abbrev pub nested : Span → Span → Bool
nested x y = not (nat_lt x.opens y.opens) || (nat_lt x.closes y.opens || nat_le y.closes x.closes)

-- at a visit of the child whose span x is open, y, opened later, is not open
abbrev pub on_top : Span → Span → ℕ → Bool
on_top x y t = not (open_at t x && (nat_lt x.opens y.opens && open_at t y))

-- the three conditions on the spans xs of one attribute in p
abbrev pub stack_up : Production → List Span → Bool
stack_up p xs =
    every (in_one_section p) xs
    && (every (λ x. every (nested x) xs) xs
    && every (λ x. every (λ y. every (on_top x y) (places (is_visit_of x.child) 0 p.steps)) xs) xs)

abbrev pub stacks_in : Scheme → ℕ → Attribute → Production → Bool
stacks_in s a b p = stack_up p (spans s a b p)

-- the stack conditions hold in every production
abbrev pub stacks : Scheme → ℕ → Attribute → Bool
stacks s a b = every (stacks_in s a b) s.productions
