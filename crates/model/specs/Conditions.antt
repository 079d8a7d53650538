-- What the tests on spans and sections say, in plain words. Assumes nothing.
use Rattle.std.specs.Prelude.{◌≡◌, ℕ, ◌*◌, ◌<◌, ◌≤◌, true, ◌⊎◌, List}
use Rattle.model.specs.Lists.{Has}
use Rattle.model.specs.Scheme.{Attribute, Step, visit, Production, Scheme}
use Rattle.model.specs.Sequences.{section, uses, defines}
use Rattle.model.specs.Spans.{Span, spans, own}

-- x stands at some place of xs
abbrev pub In {ℓ} : {A : Type ℓ} → A → List A → Type ℓ
In x xs = (k : ℕ) × Has xs k x

-- the span is open at moment m
abbrev pub OpenAt : ℕ → Span → Type 0
OpenAt m x = (x.opens ≤ m) × (m < x.closes)

-- The spans of attribute a, which is b, in production p can be pushed and popped on one stack: each opens and closes in one section; of two, the one that opens
-- later does so after the other has closed, or closes no later; and a child that is visited while its span is open has it on top.
pub record StackLike (s : Scheme) (a : ℕ) (b : Attribute) (p : Production) : Type 0 where
  pub one_section : (x : Span) → In x (spans s a b p) → section p x.opens_at ≡ section p x.closes_at
  pub nested : (x y : Span) → In x (spans s a b p) → In y (spans s a b p) → x.opens < y.opens → (x.closes < y.opens) ⊎ (y.closes ≤ x.closes)
  pub on_top : (x y : Span) (t j : ℕ) → In x (spans s a b p) → In y (spans s a b p) → Has p.steps t (visit x.child j) → OpenAt (3 * t) x → x.opens < y.opens → OpenAt (3 * t) y → ⊥

-- l is the greatest of j and of the sections in which a production of symbol x reads attribute a of its left symbol
pub record Last (s : Scheme) (x a j l : ℕ) : Type 0 where
  pub at_least : j ≤ l
  pub covers : (n t : ℕ) (p : Production) (st : Step) → Has s.productions n p → p.left ≡ x → Has p.steps t st → uses p st (own a) ≡ true → section p t ≤ l
  pub reached : (l ≡ j) ⊎ ((n t : ℕ) × (p : Production) × (st : Step) × Has s.productions n p × (p.left ≡ x) × Has p.steps t st × (uses p st (own a) ≡ true) × (section p t ≡ l))

-- l is the least of j and of the sections in which a production of symbol x gives attribute a of its left symbol its value
pub record First (s : Scheme) (x a j l : ℕ) : Type 0 where
  pub at_most : l ≤ j
  pub covers : (n t : ℕ) (p : Production) (st : Step) → Has s.productions n p → p.left ≡ x → Has p.steps t st → defines p st (own a) ≡ true → l ≤ section p t
  pub reached : (l ≡ j) ⊎ ((n t : ℕ) × (p : Production) × (st : Step) × Has s.productions n p × (p.left ≡ x) × Has p.steps t st × (defines p st (own a) ≡ true) × (section p t ≡ l))
