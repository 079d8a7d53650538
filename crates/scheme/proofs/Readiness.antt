-- When a step of a production has what it needs. Assumes nothing.
use Rattle.std.proofs.Common.{◌≡◌, ℕ, zero, suc, ◌<◌, ◌≤◌, Bool, true, T, eqb, ltb, leb, List, [], ◌∷◌, length, take, Decides, sym, refl, ap, ◌∙◌, subst, arith}
use mathlib.Core.Option.{Option, none, some}
use lib.ListN.{get_elem?}
use Rattle.std.proofs.lemmas.Bool.{eqb-true, eq-eqb, leb-true, le-leb, ltb-true, lt-ltb, and_parts, and_from}
use Rattle.model.specs.Lists.{Has, any}
use Rattle.model.specs.Scheme.{Side, inherited, synthesized, Attribute, Occurrence, Rule, Step, eval, visit, leave, Production, Scheme, same_occurrence, symbol_at, attribute_at}
use Rattle.model.specs.Sequences.{section, uses, rule_uses}
use Rattle.model.specs.Lawful.{Of, Known, given, visited, Before, Ordered, is_visit}
use Rattle.model.proofs.Common.ListFacts.{true_of, of_true, any_find, any_here, some_none, some_same}
use Rattle.scheme.specs.Readiness.{available, AllKnown, ArgumentsKnown, Ready}
use Rattle.scheme.proofs.Attributes.{from_parts, parts}
use Rattle.scheme.proofs.Chains.{Each}
use Rattle.std.proofs.lemmas.Bool.Decides.{Decides-like}

-- one occurrence
same_is : (o q : Occurrence) → T (same_occurrence o q) → q ≡ o
same_is o q h =
    let e = and_parts (eqb o.position q.position) (eqb o.attribute q.attribute) (true_of (same_occurrence o q) h) in
    let u = eqb-true o.position q.position e.0 in
    let v = eqb-true o.attribute q.attribute e.1 in
    λ i. record { position = sym u i; attribute = sym v i }

same_self : (o : Occurrence) → T (same_occurrence o o)
same_self o = of_true (same_occurrence o o) (and_from (eqb o.position o.position) (eqb o.attribute o.attribute) (eq-eqb o.position o.position refl) (eq-eqb o.attribute o.attribute refl))

nothing_past : {X : Type 0} (xs : List X) (i : ℕ) → length xs ≤ i → get_elem? xs i ≡ none
nothing_past [] i l = refl
nothing_past (x ∷ xs) zero l = absurd (omega arith)
nothing_past (x ∷ xs) (suc i) l = nothing_past xs i (omega arith)

module _ (s : Scheme) (p : Production) (t : ℕ) where
  -- what makes an occurrence known: a symbol at its position and an attribute of that symbol, available
  pub record Parts (k a x : ℕ) (b : Attribute) : Type 0 where
    pub symbol_is : symbol_at p k ≡ some x
    pub attribute_is : Has s.attributes a b
    pub of_symbol : b.symbol ≡ x
    pub is_available : available p t k b.side b.visit ≡ true

  parts_of : {o : Occurrence} → Known s p t o → (x : ℕ) × (b : Attribute) × Parts o.position o.attribute x b
  parts_of (given {j = j} h l) = (p.left, record { symbol = p.left; side = inherited; visit = j }, record { symbol_is = refl; attribute_is = h; of_symbol = refl; is_available = and_from (eqb 0 0) (leb j (section p t)) (eq-eqb 0 0 refl) (le-leb j (section p t) l) })
  parts_of (visited {k = k} {x = x} {j = j} e h v) = (x, record { symbol = x; side = synthesized; visit = j }, record { symbol_is = e; attribute_is = h; of_symbol = refl; is_available = and_from (ltb 0 (suc k)) (any (is_visit (suc k) j) (take t p.steps)) (lt-ltb 0 (suc k) (omega arith)) (true_of (any (is_visit (suc k) j) (take t p.steps)) v) })

  -- an attribute of the symbol
  of_it : (a x y j : ℕ) (d : Side) → Has s.attributes a (record { symbol = y; side = d; visit = j }) → y ≡ x → Of s a x d j
  of_it a x y j d h e = h ∙ (λ i. some (record { symbol = e i; side = d; visit = j }))

  known_of : (k a x y j : ℕ) (d : Side) → symbol_at p k ≡ some x → Has s.attributes a (record { symbol = y; side = d; visit = j }) → y ≡ x → available p t k d j ≡ true → Known s p t (record { position = k; attribute = a })
  known_of zero a x y j inherited ex h e v =
      let l : x ≡ p.left = cc in
      given (of_it a p.left y j inherited h (e ∙ l)) (leb-true j (section p t) (and_parts (eqb 0 0) (leb j (section p t)) v).1)
  known_of (suc k) a x y j inherited ex h e v = let z = eqb-true (suc k) 0 (and_parts (eqb (suc k) 0) (leb j (section p t)) v).0 in absurd (omega arith)
  known_of zero a x y j synthesized ex h e v = let z = ltb-true 0 0 (and_parts (ltb 0 0) (any (is_visit 0 j) (take t p.steps)) v).0 in absurd (omega arith)
  known_of (suc k) a x y j synthesized ex h e v =
      visited ex (of_it a x y j synthesized h e) (of_true (any (is_visit (suc k) j) (take t p.steps)) (and_parts (ltb 0 (suc k)) (any (is_visit (suc k) j) (take t p.steps)) v).1)

  known_at : (o : Occurrence) (h : Known s p t o) → attribute_at s p o ≡ some (parts_of h).1
  known_at o h = let q = parts_of h in from_parts _ _ q.0 q.1 q.2.symbol_is q.2.attribute_is q.2.of_symbol

  -- where the occurrence has no attribute of its symbol, and where it has one
  pub known_nowhere : (o : Occurrence) → attribute_at s p o ≡ none → Known s p t o → ⊥
  known_nowhere o e h = some_none _ (sym e ∙ known_at o h)

  pub known_where : (o : Occurrence) (b : Attribute) (r : Bool) → attribute_at s p o ≡ some b → r ≡ available p t o.position b.side b.visit → Decides r (Known s p t o)
  known_where o b r e er = (into, out)
    where
      into : r ≡ true → Known s p t o
      into z = let q = parts _ _ b e in known_of o.position o.attribute b.symbol b.symbol b.visit b.side q.0 q.1 refl (sym er ∙ z)

      out : Known s p t o → r ≡ true
      out h = er ∙ subst (λ (z : Attribute). available p t o.position z.side z.visit ≡ true) (some_same _ b (sym (known_at o h) ∙ e)) (parts_of h).2.is_available

  -- each of the arguments
  pub decides_known : (os : List Occurrence) (r : Bool) → Decides r (Each (λ _. Known s p t) os) → Decides r (AllKnown s p t os)
  decides_known os r d = Decides-like r into (λ h k o e. h o (any_here (same_occurrence o) os k o e (same_self o))) d
    where
      into : Each (λ _. Known s p t) os → AllKnown s p t os
      into h o u = let f = any_find (same_occurrence o) os u in subst (Known s p t) (same_is o f.1 f.3) (h f.0 f.1 f.2)

  -- the arguments of a rule that is there, and of one that is not
  pub arguments_here : (n : ℕ) (q : Rule) (r : Bool) → get_elem? p.rules n ≡ some q → Decides r (AllKnown s p t q.arguments) → Decides r (ArgumentsKnown s p t n)
  arguments_here n q r e h = subst (λ (z : Option Rule). Decides r ((o : Occurrence) → T (rule_uses z o) → Known s p t o)) (sym e) h

  pub arguments_absent : (n : ℕ) → get_elem? p.rules n ≡ none → ArgumentsKnown s p t n
  arguments_absent n e o h = absurd (subst (λ (z : Option Rule). T (rule_uses z o)) e h)

  -- each attribute that is q
  pub decides_defined : (k : ℕ) (q : Attribute) (r : Bool) → Decides r (Each (λ n a. a ≡ q → Before p t (record { position = k; attribute = n })) s.attributes) → Decides r ((a : ℕ) → Has s.attributes a q → Before p t (record { position = k; attribute = a }))
  decides_defined k q r d = Decides-like r (λ h a e. h a q e refl) (λ h a b e f. h a (e ∙ ap (λ (z : Attribute). some z) f)) d

  -- what a visit to child k needs
  pub ready_child : (k x j : ℕ) (r : Bool) → 0 < k → symbol_at p k ≡ some x → Decides r ((a : ℕ) → Of s a x inherited j → Before p t (record { position = k; attribute = a })) → Decides r (Ready s p t k j)
  ready_child zero x j r l e h = absurd (omega arith)
  ready_child (suc k) x j r l e h = (λ u y a hy ha. let f = some_same y x (sym hy ∙ e) in h.0 u a (subst (λ (z : ℕ). Of s a z inherited j) f ha), λ u. h.1 (λ a ha. u x a e ha))

  -- a step is ordered as its kind asks
  pub ordered-eval : (n : ℕ) (r : Bool) → some (eval n) ≡ get_elem? p.steps t → Decides r (ArgumentsKnown s p t n) → Decides r (Ordered s p t)
  ordered-eval n r e h = (λ u. into (h.0 u), λ u. h.1 (u.arguments_known (eval n) (sym e)))
    where
      into : ArgumentsKnown s p t n → Ordered s p t
      into u = record {
        arguments_known = λ st hs o w. let f : st ≡ eval n = cc in u o (subst (λ (z : Step). T (uses p z o)) f w);
        ready_to_visit = λ k x j a hs. let z : ◌≡◌ {A = ℕ} 0 1 = cc in absurd (omega arith);
        ready_to_leave = λ i a hs. let z : ◌≡◌ {A = ℕ} 0 1 = cc in absurd (omega arith);
      }

  pub ordered-visit : (k j : ℕ) (r : Bool) → some (visit k j) ≡ get_elem? p.steps t → Decides r (Ready s p t k j) → Decides r (Ordered s p t)
  ordered-visit k j r e h = (λ u. into (h.0 u), λ u. h.1 (out k e u))
    where
      into : Ready s p t k j → Ordered s p t
      into u = record {
        arguments_known = λ st hs o w. let f : st ≡ visit k j = cc in absurd (subst (λ (z : Step). T (uses p z o)) f w);
        ready_to_visit = λ m x i a hs. let f : k ≡ suc m = cc in let g : j ≡ i = cc in subst (λ (z : ℕ). Ready s p t (suc m) z) g (subst (λ (z : ℕ). Ready s p t z j) f u) x a;
        ready_to_leave = λ i a hs. let z : ◌≡◌ {A = ℕ} 0 1 = cc in absurd (omega arith);
      }

      out : (k : ℕ) → some (visit k j) ≡ get_elem? p.steps t → Ordered s p t → Ready s p t k j
      out zero e u = tt
      out (suc k) e u = λ x a hx ha. u.ready_to_visit k x j a (sym e) hx ha

  pub ordered-leave : (j : ℕ) (r : Bool) → some (leave j) ≡ get_elem? p.steps t → Decides r ((a : ℕ) → Of s a p.left synthesized j → Before p t (record { position = 0; attribute = a })) → Decides r (Ordered s p t)
  ordered-leave j r e h = (λ u. into (h.0 u), λ u. h.1 (λ a ha. u.ready_to_leave j a (sym e) ha))
    where
      into : ((a : ℕ) → Of s a p.left synthesized j → Before p t (record { position = 0; attribute = a })) → Ordered s p t
      into u = record {
        arguments_known = λ st hs o w. let f : st ≡ leave j = cc in absurd (subst (λ (z : Step). T (uses p z o)) f w);
        ready_to_visit = λ k x i a hs. let z : ◌≡◌ {A = ℕ} 0 1 = cc in absurd (omega arith);
        ready_to_leave = λ i a hs ha. let f : i ≡ j = cc in u a (subst (λ (z : ℕ). Of s a p.left synthesized z) f ha);
      }

  pub ordered_past : get_elem? p.steps t ≡ none → Ordered s p t
  ordered_past l = record {
    arguments_known = λ st hs. absurd (some_none st (sym l ∙ hs));
    ready_to_visit = λ k x j a hs. absurd (some_none (visit (suc k) j) (sym l ∙ hs));
    ready_to_leave = λ i a hs. absurd (some_none (leave i) (sym l ∙ hs));
  }

  pub ordered_from : length p.steps ≤ t → Ordered s p t
  ordered_from l = ordered_past (nothing_past p.steps t l)
