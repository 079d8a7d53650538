-- What a step of a production needs, for each kind of step.
use Rattle.std.specs.Prelude.{ℕ, zero, suc, Bool, ◌&&◌, T, List, take, ◌==◌, nat_le, nat_lt}
use Rattle.std.proofs.Math.ListN.{get_elem?}
use Rattle.model.specs.Lists.{Has, any}
use Rattle.model.specs.Scheme.{Side, inherited, synthesized, Occurrence, Production, Scheme, same_occurrence}
use Rattle.model.specs.Sequences.{section, rule_uses}
use Rattle.grammar.specs.Views.{scheme_in, production_in}
use Rattle.scheme.specs.declared.checks.ordered.moment.Moment.{Moment}
use Rattle.model.specs.Lawful.{Of, Known, Before, is_visit}

-- the scheme and the production of a moment
abbrev pub scheme_at : Moment → Scheme
scheme_at m = scheme_in m.scope

abbrev pub production_at : Moment → Production
production_at m = production_in m.scope

-- at that position a value of that side, for visit j, is known before step t
abbrev pub available : Production → ℕ → ℕ → Side → ℕ → Bool
available p t k inherited j = k == 0 && nat_le j (section p t)
available p t k synthesized j = nat_lt 0 k && any (is_visit k j) (take t p.steps)

-- each of the occurrences is known before step t
abbrev pub AllKnown : Scheme → Production → ℕ → List Occurrence → Type 0
AllKnown s p t os = (o : Occurrence) → T (any (same_occurrence o) os) → Known s p t o

-- an EVAL needs the rule's arguments
abbrev pub ArgumentsKnown : Scheme → Production → ℕ → ℕ → Type 0
ArgumentsKnown s p t r = (o : Occurrence) → T (rule_uses (get_elem? p.rules r) o) → Known s p t o

-- a VISIT needs the child's inherited attributes for that visit
abbrev pub Ready : Scheme → Production → ℕ → ℕ → ℕ → Type 0
Ready s p t zero j = Unit {0}
Ready s p t (suc k) j = (x a : ℕ) → Has p.children k x → Of s a x inherited j → Before p t (record { position = suc k; attribute = a })
