-- What is known of a production that stands in a scheme. Assumes nothing.
use Rattle.std.proofs.Common.{◌≡◌, ℕ, ◌<◌, ◌≤◌, List, map, length, get_or, vec_items, ap, ◌∙◌, sym, arith}
use lib.ListN.{get_elem?}
use Rattle.std.proofs.lemmas.List.{length-map, get_or_default}
use Rattle.model.specs.Formed.{Formed, Limited}
use Rattle.model.specs.Lawful as Lawful
use Rattle.model.specs.Lawful.{Defined, Used}
use Rattle.model.specs.Lists.{Has}
use Rattle.model.specs.Scheme as Model
use Rattle.model.specs.Scheme.{Occurrence, Scheme}
use Rattle.model.proofs.Common.ListFacts.{has-below}
use Rattle.grammar.specs.Views.{production_of, step_of}
use Rattle.grammar.specs.declared.parts.Production.{Production}
use Rattle.plan.specs.Placed.{Placed}
use Rattle.plan.proofs.AtPlaces.{read-has}

defined_low : (s : Scheme) (p : Model.Production) (o : Occurrence) → length p.children ≤ 6 → Defined s p o → o.position ≤ 6
defined_low s p o l (Lawful.Defined.above h) = omega arith
defined_low s p o l (Lawful.Defined.below {k = k} {x = x} h g) = let b = has-below p.children k x h in omega arith

used_low : (s : Scheme) (p : Model.Production) (o : Occurrence) → length p.children ≤ 6 → Used s p o → o.position ≤ 6
used_low s p o l (Lawful.Used.above h) = omega arith
used_low s p o l (Lawful.Used.below {k = k} {x = x} h g) = let b = has-below p.children k x h in omega arith

module _ (s : Scheme) (ps : List Production) (is : map production_of ps ≡ s.productions) (n : ℕ) (p : Production) (l : n < length ps) (e : p ≡ get_or ps n p) where
  there : Has s.productions n (production_of p)
  there = ap (λ (qs : List Model.Production). get_elem? qs n) (sym is) ∙ read-has production_of ps n p l e

  pub few_steps-at : Limited s → length (vec_items p.steps) ≤ 64
  few_steps-at limited = let few = limited.few_steps n (production_of p) there in omega (arith, length-map (vec_items p.steps) step_of)

  pub few_children-at : Limited s → length (vec_items p.children) ≤ 6
  few_children-at limited = limited.few_children n (production_of p) there

  pub placed-at : Formed s → Limited s → Placed (production_of p)
  placed-at formed limited =
      let few = limited.few_children n (production_of p) there in
      record {
        target_placed = λ k r h. defined_low s (production_of p) r.target few (formed.target_defined n k (production_of p) r there h);
        argument_placed = λ k m r o h g. used_low s (production_of p) o few (formed.argument_used n k m (production_of p) r o there h g);
      }

pub few_steps-all : (s : Scheme) (ps : List Production) → map production_of ps ≡ s.productions → Limited s → (k : ℕ) (d : Production) → k < length ps → length (vec_items (get_or ps k d).steps) ≤ 64
few_steps-all s ps is limited k d l = few_steps-at s ps is k (get_or ps k d) l (get_or_default ps k d (get_or ps k d) l) limited
