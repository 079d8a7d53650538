-- Defined occurrences, found by position and attribute. Assumes nothing.
use Rattle.std.proofs.Common.{◌≡◌, ℕ, zero, suc, ◌<◌, Bool, eqb, length, Decides, sym, refl, ap, ◌∙◌, subst, arith}
use Rattle.std.proofs.lemmas.Bool.{eqb-true, eq-eqb}
use mathlib.Core.Option.{none, some}
use Rattle.std.proofs.lemmas.Bool.Decides.{Decides-like}
use Rattle.model.specs.Lists.{count}
use Rattle.model.specs.Scheme.{synthesized, Attribute, Occurrence, Rule, Production, Scheme, same_occurrence, symbol_at, attribute_at}
use Rattle.model.specs.Lawful.{Of, Defined, Defined.above as defined-above, Defined.below as defined-below, Ruled}
use Rattle.model.proofs.Common.ListFacts.{some_none, some_same, has-below}
use Rattle.scheme.specs.Ruling.{side_defined, RuledOnce}
use Rattle.scheme.proofs.Attributes.{from_parts, parts}
use Rattle.scheme.proofs.Deciding.{Below}

module _ (s : Scheme) (p : Production) where
  found_by : (o : Occurrence) → Defined s p o → (x : ℕ) × (j : ℕ) × (symbol_at p o.position ≡ some x) × Of s o.attribute x (side_defined o.position) j
  found_by o (defined-above {a = a} {j = j} h) = (p.left, j, refl, h)
  found_by o (defined-below {k = k} {x = x} {a = a} {j = j} e h) = (x, j, e, h)

  defined_by : (k a x j : ℕ) → symbol_at p k ≡ some x → Of s a x (side_defined k) j → Defined s p (record { position = k; attribute = a })
  defined_by zero a x j e h = defined-above {j = j} (subst (λ (y : ℕ). Of s a y synthesized j) (sym (some_same p.left x e)) h)
  defined_by (suc k) a x j e h = defined-below e h

  found_at : (o : Occurrence) (h : Defined s p o) → attribute_at s p o ≡ some (record { symbol = (found_by o h).0; side = side_defined o.position; visit = (found_by o h).1 })
  found_at o h = let r = found_by o h in from_parts _ _ r.0 _ r.2 r.3 refl

  -- where the occurrence has no attribute of its symbol, and where it has one
  pub defined_nowhere : (o : Occurrence) → attribute_at s p o ≡ none → Defined s p o → ⊥
  defined_nowhere o e h = some_none _ (sym e ∙ found_at o h)

  pub defined_where : (o : Occurrence) (b : Attribute) (t : Bool) → attribute_at s p o ≡ some b → Decides t (b.side ≡ side_defined o.position) → Decides t (Defined s p o)
  defined_where o b t e d = Decides-like t into (λ h. ap (λ (z : Attribute). z.side) (some_same b _ (sym e ∙ found_at o h))) d
    where
      into : b.side ≡ side_defined o.position → Defined s p o
      into h = let q = parts _ _ b e in defined_by o.position o.attribute b.symbol b.visit q.0 (q.1 ∙ (λ i. some (record { symbol = b.symbol; side = h i; visit = b.visit })))

  pub decides_ruled : (o : Occurrence) (n : ℕ) → Defined s p o → n ≡ count (λ (r : Rule). same_occurrence o r.target) p.rules → Decides (eqb n 1) (RuledOnce s p o)
  decides_ruled o n h e = (λ t _. sym e ∙ eqb-true n 1 t, λ f. eq-eqb n 1 (e ∙ f h))

  -- no occurrence is defined past the children, nor past the attributes
  pub all_attributes : (k : ℕ) → Below (λ a. RuledOnce s p (record { position = k; attribute = a })) (length s.attributes) → (a : ℕ) → RuledOnce s p (record { position = k; attribute = a })
  all_attributes k h a d = let r = found_by (record { position = k; attribute = a }) d in h a (has-below s.attributes a _ r.3) d

  at_position : (k x : ℕ) → symbol_at p k ≡ some x → k < suc (length p.children)
  at_position zero x e = omega arith
  at_position (suc k) x e = let l = has-below p.children k x e in omega arith

  pub all_positions : Below (λ k. (a : ℕ) → RuledOnce s p (record { position = k; attribute = a })) (suc (length p.children)) → Ruled s p
  all_positions h o d = let r = found_by o d in h o.position (at_position o.position r.0 r.2) o.attribute d
