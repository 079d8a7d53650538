-- What is known of a scheme up to truncation is known: that it is lawful, in form, and within the limits. Assumes nothing.
pub mod General
pub mod Derived
pub mod Occurrences
use Rattle.std.proofs.Common.{◌≡◌, ℕ, zero, suc, ◌≤◌, List, reverse, take, refl, subst, arith}
use mathlib.Core.Option.{some}
use mathlib.Core.Logic.{∥∥₁_map, ∥∥₁_elim}
use mathlib.Core.HLevel.{⊥_prop}
use lib.ListN.{get_elem?}
use Rattle.model.specs.Lists.{Has, any, count, from_on}
use Rattle.model.specs.Scheme.{Production, Scheme, same_occurrence}
use Rattle.model.specs.Sequences.{is_leave, visit_numbers, leave_numbers, defines}
use Rattle.model.specs.Lawful.{Sequenced, Ordered, is_eval_of, Lawful}
use Rattle.model.specs.Formed.{Formed, Limited}
use Rattle.model.proofs.Stands.General.{Stands, through, both_stand, found_stands, place_stands, no_stands, test_stands, le_stands, number_stands, numbers_stand, maybe_stands}
use Rattle.model.proofs.Stands.Derived.{finite_stands, reached_stands}
use Rattle.model.proofs.Stands.Occurrences.{defined_stands, used_stands, known_stands}

sequenced_stands : (s : Scheme) (p : Production) → Stands (Sequenced s p)
sequenced_stands s p t = record {
  children_visited = λ k x v h g. numbers_stand (visit_numbers (suc k) p.steps) (from_on 1 v) (∥∥₁_map t (λ q. q.children_visited k x v h g));
  left_sections = λ v h. numbers_stand (leave_numbers p.steps) (from_on 1 v) (∥∥₁_map t (λ q. q.left_sections v h));
  ends_with_leave = number_stands (count is_leave (take 1 (reverse p.steps))) 1 (∥∥₁_map t (λ q. q.ends_with_leave));
}

ordered_stands : (s : Scheme) (p : Production) (n : ℕ) → Stands (Ordered s p n)
ordered_stands s p n t = record {
  arguments_known = λ st h o u. known_stands s p n o (∥∥₁_map t (λ q. q.arguments_known st h o u));
  ready_to_visit = λ k x j a h g f. test_stands (any (λ st. defines p st (record { position = suc k; attribute = a })) (take n p.steps)) (∥∥₁_map t (λ q. q.ready_to_visit k x j a h g f));
  ready_to_leave = λ i a h f. test_stands (any (λ st. defines p st (record { position = 0; attribute = a })) (take n p.steps)) (∥∥₁_map t (λ q. q.ready_to_leave i a h f));
}

pub lawful_stands : (s : Scheme) → ∥ Lawful s ∥₁ → Lawful s
lawful_stands s t = record {
  root_visits = maybe_stands (get_elem? s.visits 0) (some 1) (∥∥₁_map t (λ q. q.root_visits));
  root_inherits_nothing = λ a j h. no_stands (∥∥₁_map t (λ q. q.root_inherits_nothing a j h));
  root_no_child = λ n k p h g. no_stands (∥∥₁_map t (λ q. q.root_no_child n k p h g));
  finite = λ x v h. finite_stands s x (∥∥₁_map t (λ q. q.finite x v h));
  reached = λ x v h. reached_stands s x (∥∥₁_map t (λ q. q.reached x v h));
  ruled = λ n p h o d. number_stands (count (λ r. same_occurrence o r.target) p.rules) 1 (∥∥₁_map t (λ q. q.ruled n p h o d));
  evaluated = λ n p h r l. number_stands (count (is_eval_of r) p.steps) 1 (∥∥₁_map t (λ q. q.evaluated n p h r l));
  sequenced = λ n p h. sequenced_stands s p (∥∥₁_map t (λ q. q.sequenced n p h));
  ordered = λ n i p h. ordered_stands s p i (∥∥₁_map t (λ q. q.ordered n i p h));
}

-- that k is a child's position
child_stands : (xs : List ℕ) (k : ℕ) → Stands ((c x : ℕ) × (k ≡ suc c) × Has xs c x)
child_stands xs zero t = absurd (∥∥₁_elim t ⊥_prop (λ r. omega (arith, r.2)))
child_stands xs (suc c) t = through into (λ r. (c, r.0, refl, r.1)) (place_stands (get_elem? xs c)) t
  where
    into : (d x : ℕ) × (suc c ≡ suc d) × Has xs d x → (x : ℕ) × Has xs c x
    into r = (r.1, subst (λ (d : ℕ). Has xs d r.1) (omega (arith, r.2)) r.3)

-- that symbol x has a visit i
visit_stands : (xs : List ℕ) (x i : ℕ) → Stands ((v : ℕ) × Has xs x v × (1 ≤ i) × (i ≤ v))
visit_stands xs x i = through (λ r. (r.0, r.1, (r.2, r.3))) (λ r. (r.0, r.1, r.2.0, r.2.1)) (found_stands (λ (v : ℕ). (1 ≤ i) × (i ≤ v)) (λ v. both_stand le_stands le_stands) (get_elem? xs x))

pub formed_stands : (s : Scheme) → ∥ Formed s ∥₁ → Formed s
formed_stands s t = record {
  visit_count = λ x v h. both_stand le_stands le_stands (∥∥₁_map t (λ q. q.visit_count x v h));
  attribute_known = λ a b h. visit_stands s.visits b.symbol b.visit (∥∥₁_map t (λ q. q.attribute_known a b h));
  left_known = λ n p h. place_stands (get_elem? s.visits p.left) (∥∥₁_map t (λ q. q.left_known n p h));
  child_known = λ n k x p h g. place_stands (get_elem? s.visits x) (∥∥₁_map t (λ q. q.child_known n k x p h g));
  target_defined = λ n k p r h g. defined_stands s p r.target (∥∥₁_map t (λ q. q.target_defined n k p r h g));
  argument_used = λ n k l p r o h g e. used_stands s p o (∥∥₁_map t (λ q. q.argument_used n k l p r o h g e));
  evals_rule = λ n b k p h g. place_stands (get_elem? p.rules k) (∥∥₁_map t (λ q. q.evals_rule n b k p h g));
  visits_child = λ n b k j p h g. child_stands p.children k (∥∥₁_map t (λ q. q.visits_child n b k j p h g));
  visit_number = λ n b k x v j p h g e f. both_stand le_stands le_stands (∥∥₁_map t (λ q. q.visit_number n b k x v j p h g e f));
  leave_number = λ n b v i p h g e. both_stand le_stands le_stands (∥∥₁_map t (λ q. q.leave_number n b v i p h g e));
}

pub limited_stands : (s : Scheme) → ∥ Limited s ∥₁ → Limited s
limited_stands s t = record {
  few_symbols = le_stands (∥∥₁_map t (λ q. q.few_symbols));
  few_attributes = le_stands (∥∥₁_map t (λ q. q.few_attributes));
  few_of_symbol = λ x. le_stands (∥∥₁_map t (λ q. q.few_of_symbol x));
  few_productions = le_stands (∥∥₁_map t (λ q. q.few_productions));
  few_children = λ n p h. le_stands (∥∥₁_map t (λ q. q.few_children n p h));
  few_rules = λ n p h. le_stands (∥∥₁_map t (λ q. q.few_rules n p h));
  few_steps = λ n p h. le_stands (∥∥₁_map t (λ q. q.few_steps n p h));
  few_arguments = λ n k p r h g. le_stands (∥∥₁_map t (λ q. q.few_arguments n k p r h g));
  rule_numbered = λ n k p r h g. le_stands (∥∥₁_map t (λ q. q.rule_numbered n k p r h g));
}
