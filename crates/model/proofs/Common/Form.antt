-- What a scheme's form says in other words. Assumes nothing.
use Rattle.std.proofs.Common.{ℕ, ◌<◌, ◌≤◌, length, arith}
use Rattle.model.specs.Lists.{Has}
use Rattle.model.specs.Scheme.{Side, Occurrence, Rule, leave, Production, Scheme}
use Rattle.model.specs.Lawful.{Of, Defined, Used}
use Rattle.model.specs.Formed.{Formed}
use Rattle.model.proofs.Common.ListFacts.{has-below}

module _ {s : Scheme} (formed : Formed s) where
  -- visits are numbered from 1
  pub from_one : (a x j : ℕ) (d : Side) → Of s a x d j → 1 ≤ j
  from_one a x j d h = (formed.attribute_known a (record { symbol = x; side = d; visit = j }) h).2

  -- the symbols that a production names are below the number of symbols
  pub left-symbol : (n : ℕ) (p : Production) → Has s.productions n p → p.left < length s.visits
  left-symbol n p h = let v = formed.left_known n p h in has-below s.visits p.left v.0 v.1

  pub child_symbol : (n k x : ℕ) (p : Production) → Has s.productions n p → Has p.children k x → x < length s.visits
  child_symbol n k x p h g = let v = formed.child_known n k x p h g in has-below s.visits x v.0 v.1

  -- and the attributes that a rule names below the number of attributes
  pub target_attribute : (n i : ℕ) (p : Production) (r : Rule) → Has s.productions n p → Has p.rules i r → r.target.attribute < length s.attributes
  target_attribute n i p r h g = defined_attribute (formed.target_defined n i p r h g)
    where
      defined_attribute : {o : Occurrence} → Defined s p o → o.attribute < length s.attributes
      defined_attribute (Defined.above {a = a} f) = has-below s.attributes a _ f
      defined_attribute (Defined.below {a = a} e f) = has-below s.attributes a _ f

  pub argument_attribute : (n i k : ℕ) (p : Production) (r : Rule) (o : Occurrence) → Has s.productions n p → Has p.rules i r → Has r.arguments k o → o.attribute < length s.attributes
  argument_attribute n i k p r o h g e = used_attribute (formed.argument_used n i k p r o h g e)
    where
      used_attribute : {o : Occurrence} → Used s p o → o.attribute < length s.attributes
      used_attribute (Used.above {a = a} f) = has-below s.attributes a _ f
      used_attribute (Used.below {a = a} e f) = has-below s.attributes a _ f

  -- a symbol has at most four visits, and so has a LEAVE a number below 5
  pub few_leaves : (n t l : ℕ) (p : Production) → Has s.productions n p → Has p.steps t (leave l) → l < 5
  few_leaves n t l p h g =
      let v = formed.left_known n p h in
      let four = formed.visit_count p.left v.0 v.1 in
      let at_most = formed.leave_number n t v.0 l p h g v.1 in
      omega arith
