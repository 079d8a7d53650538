-- What a production's steps say of one another: sections, uses, places. Assumes nothing.
use Rattle.std.specs.Prelude.{ℕ, suc, Bool, true, false, cond, not, ◌&&◌, List, [], ◌∷◌, take, drop, ◌==◌}
use Rattle.std.proofs.Math.Option.{Option, none, some}
use Rattle.std.proofs.Math.ListN.{get_elem?}
use Rattle.model.specs.Lists.{any, count}
use Rattle.model.specs.Scheme.{Occurrence, Rule, Step, eval, visit, leave, Production, same_occurrence}

abbrev pub is_leave : Step → Bool
is_leave (eval r) = false
is_leave (visit k j) = false
is_leave (leave i) = true

abbrev pub is_visit_of : ℕ → Step → Bool
is_visit_of c (eval r) = false
is_visit_of c (visit k j) = c == k
is_visit_of c (leave i) = false

-- the section of step t, from 1: one more than the LEAVEs before it
abbrev pub section : Production → ℕ → ℕ
section p t = suc (count is_leave (take t p.steps))

-- the numbers of the VISITs of child c, in the order of the steps
abbrev pub visit_numbers : ℕ → List Step → List ℕ
visit_numbers c [] = []
visit_numbers c (eval r ∷ ts) = visit_numbers c ts
visit_numbers c (visit k j ∷ ts) = cond (c == k) (j ∷ visit_numbers c ts) (visit_numbers c ts)
visit_numbers c (leave i ∷ ts) = visit_numbers c ts

-- the numbers of the LEAVEs, in the order of the steps
abbrev pub leave_numbers : List Step → List ℕ
leave_numbers [] = []
leave_numbers (eval r ∷ ts) = leave_numbers ts
leave_numbers (visit k j ∷ ts) = leave_numbers ts
leave_numbers (leave i ∷ ts) = i ∷ leave_numbers ts

-- the rule that a step evaluates
abbrev pub step_rule : Production → Step → Option Rule
step_rule p (eval r) = get_elem? p.rules r
step_rule p (visit k j) = none
step_rule p (leave i) = none

abbrev pub rule_uses : Option Rule → Occurrence → Bool
rule_uses none o = false
rule_uses (some r) o = any (same_occurrence o) r.arguments

-- the step reads the value of o
abbrev pub uses : Production → Step → Occurrence → Bool
uses p (eval r) o = rule_uses (get_elem? p.rules r) o
uses p (visit k j) o = false
uses p (leave i) o = false

abbrev pub rule_targets : Option Rule → Occurrence → Bool
rule_targets none o = false
rule_targets (some r) o = same_occurrence o r.target

-- the step gives o its value
abbrev pub defines : Production → Step → Occurrence → Bool
defines p (eval r) o = rule_targets (get_elem? p.rules r) o
defines p (visit k j) o = false
defines p (leave i) o = false

-- no step reads o
abbrev pub unused : Production → Occurrence → Bool
unused p o = not (any (λ st. uses p st o) p.steps)

-- step t reads o, and no later step does
abbrev pub last_use : Production → ℕ → Occurrence → Bool
last_use p t o = any (λ st. uses p st o) (take 1 (drop t p.steps)) && not (any (λ st. uses p st o) (drop (suc t) p.steps))
