-- That an occurrence is defined, used or known stands: look-ups and tests decide it. Assumes nothing.
use Rattle.std.proofs.Common.{◌≡◌, ℕ, zero, suc, Bool, true, T, leb, take, refl, ◌∙◌, arith, le→leb, leb→le}
use mathlib.Core.Option.{some}
use mathlib.Core.HLevel.{hedberg}
use lib.ListN.{get_elem?}
use Rattle.model.specs.Lists.{Has, any}
use Rattle.model.specs.Scheme.{Side, inherited, synthesized, Attribute, Occurrence, Production, Scheme}
use Rattle.model.specs.Sequences.{section}
use Rattle.model.specs.Lawful.{Of, Defined, Used, Known, given, visited, is_visit, Defined.above as defined-above, Defined.below as defined-below, Used.above as used-above, Used.below as used-below}
use Rattle.model.proofs.Stands.General.{Stands, prop_stands, through, both_stand, found_stands, test_stands, number_stands}

side_discrete : Discrete Side
side_discrete inherited inherited = yes refl
side_discrete inherited synthesized = no (λ e. let z : ◌≡◌ {A = ℕ} 0 1 = cc in omega arith)
side_discrete synthesized inherited = no (λ e. let z : ◌≡◌ {A = ℕ} 0 1 = cc in omega arith)
side_discrete synthesized synthesized = yes refl

side_stands : (d e : Side) → Stands (d ≡ e)
side_stands d e = prop_stands (hedberg side_discrete d e)

-- every visit passes
abbrev free : ℕ → Bool
free j = true

-- b is an attribute of x, on side d, for a visit that passes f
abbrev Fits : ℕ → Side → (ℕ → Bool) → Attribute → Type 0
Fits x d f b = (b.symbol ≡ x) × ((b.side ≡ d) × T (f b.visit))

fits_stands : (x : ℕ) (d : Side) (f : ℕ → Bool) (b : Attribute) → Stands (Fits x d f b)
fits_stands x d f b = both_stand (number_stands b.symbol x) (both_stand (side_stands b.side d) (test_stands (f b.visit)))

module _ (s : Scheme) where
  -- a is an attribute of x, on side d, for a visit that passes f
  abbrev Passes : ℕ → ℕ → Side → (ℕ → Bool) → Type 0
  Passes a x d f = (j : ℕ) × Of s a x d j × T (f j)

  passes_stands : (a x : ℕ) (d : Side) (f : ℕ → Bool) → Stands (Passes a x d f)
  passes_stands a x d f = through into out (found_stands (Fits x d f) (fits_stands x d f) (get_elem? s.attributes a))
    where
      into : Passes a x d f → (b : Attribute) × Has s.attributes a b × Fits x d f b
      into r = (record { symbol = x; side = d; visit = r.0 }, r.1, (refl, (refl, r.2)))

      out : (b : Attribute) × Has s.attributes a b × Fits x d f b → Passes a x d f
      out r = (r.0.visit, r.1 ∙ (λ i. some (record { symbol = r.2.0 i; side = r.2.1.0 i; visit = r.0.visit })), r.2.1.1)

module _ (s : Scheme) (p : Production) where
  -- an attribute at a position: on side d for a visit that passes f at the left symbol, on side e for one that passes g at a child
  abbrev At : Side → (ℕ → Bool) → Side → (ℕ → ℕ → Bool) → ℕ → ℕ → Type 0
  At d f e g zero a = Passes s a p.left d f
  At d f e g (suc k) a = (x : ℕ) × Has p.children k x × Passes s a x e (g k)

  at_stands : (d : Side) (f : ℕ → Bool) (e : Side) (g : ℕ → ℕ → Bool) (i a : ℕ) → Stands (At d f e g i a)
  at_stands d f e g zero a = passes_stands s a p.left d f
  at_stands d f e g (suc k) a = found_stands (λ (x : ℕ). Passes s a x e (g k)) (λ x. passes_stands s a x e (g k)) (get_elem? p.children k)

  pub defined_stands : (o : Occurrence) → Stands (Defined s p o)
  defined_stands o = through into (out o.position o.attribute) (at_stands synthesized free inherited (λ k. free) o.position o.attribute)
    where
      into : {o : Occurrence} → Defined s p o → At synthesized free inherited (λ k. free) o.position o.attribute
      into (defined-above {j = j} h) = (j, h, tt)
      into (defined-below {x = x} {j = j} e h) = (x, e, (j, h, tt))

      out : (i a : ℕ) → At synthesized free inherited (λ k. free) i a → Defined s p (record { position = i; attribute = a })
      out zero a r = defined-above r.1
      out (suc k) a r = defined-below r.1 r.2.1

  pub used_stands : (o : Occurrence) → Stands (Used s p o)
  used_stands o = through into (out o.position o.attribute) (at_stands inherited free synthesized (λ k. free) o.position o.attribute)
    where
      into : {o : Occurrence} → Used s p o → At inherited free synthesized (λ k. free) o.position o.attribute
      into (used-above {j = j} h) = (j, h, tt)
      into (used-below {x = x} {j = j} e h) = (x, e, (j, h, tt))

      out : (i a : ℕ) → At inherited free synthesized (λ k. free) i a → Used s p (record { position = i; attribute = a })
      out zero a r = used-above r.1
      out (suc k) a r = used-below r.1 r.2.1

  pub known_stands : (t : ℕ) (o : Occurrence) → Stands (Known s p t o)
  known_stands t o = through into (out o.position o.attribute) (at_stands inherited begun synthesized come o.position o.attribute)
    where
      -- visit j of the left symbol has begun by step t
      begun : ℕ → Bool
      begun j = leb j (section p t)

      -- visit j of child k comes before step t
      come : ℕ → ℕ → Bool
      come k j = any (is_visit (suc k) j) (take t p.steps)

      into : {o : Occurrence} → Known s p t o → At inherited begun synthesized come o.position o.attribute
      into (given {j = j} h l) = (j, h, le→leb j (section p t) l)
      into (visited {x = x} {j = j} e h v) = (x, e, (j, h, v))

      out : (i a : ℕ) → At inherited begun synthesized come i a → Known s p t (record { position = i; attribute = a })
      out zero a r = given r.1 (leb→le r.0 (section p t) r.2)
      out (suc k) a r = visited r.1 r.2.1 r.2.2
