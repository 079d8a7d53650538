-- What is read from words has the form of a scheme. Assumes nothing.
use Rattle.std.proofs.Common.{◌≡◌, ℕ, zero, suc, ◌-◌, ◌≤◌, Bool, true, false, cond, not, ◌&&◌, ◌||◌, T, eqb, ltb, leb, ◌⊎◌, List, [], ◌∷◌, ◌++◌, length, sym, refl, ap, ◌∙◌, subst, inl, inr, arith, eqb→eq, ltb→lt, leb→le}
use mathlib.Core.Option.{Option, none, some}
use lib.Dec.{leb-suc-zero, eqb-suc-zero}
use lib.ListN.{get_elem?}
use Rattle.model.specs.Lists.{Has, any}
use Rattle.model.specs.Scheme.{Side, inherited, synthesized, Attribute, Occurrence, Rule, Step, eval, visit, leave, Production, Scheme, symbol_at}
use Rattle.model.specs.Lawful.{Of, Defined, Used, Defined.above as defined-above, Defined.below as defined-below, Used.above as used-above, Used.below as used-below}
use Rattle.model.specs.Formed.{Formed}
use Rattle.model.specs.Words.{Form, kind, fields, Next, kinds, Sofar, at_first, begun, within, visits_at, belongs, is_inherited, defined_here, after_children, after_arguments, one_less, closed, numbered_side, with_argument, taken, objection, Read, scheme, stopped, finished, accepted, read_from, read}
use Rattle.model.proofs.Common.ListFacts.{some_none, some_same, and_l, and_r, has_at, has_one, append_left, append_find}
use Rattle.model.proofs.Words.Accepts.{Accepted, accepted_of}

abbrev bare : List ℕ → List Attribute → Scheme
bare vs bs = record { visits = vs; attributes = bs; productions = [] }

-- the form of one production, over these symbols and attributes
pub record FormedIn (vs : List ℕ) (bs : List Attribute) (p : Production) : Type 0 where
  pub left_is : (v : ℕ) × Has vs p.left v
  pub child_is : (k x : ℕ) → Has p.children k x → (v : ℕ) × Has vs x v
  pub target_is : (k : ℕ) (r : Rule) → Has p.rules k r → Defined (bare vs bs) p r.target
  pub argument_is : (k l : ℕ) (r : Rule) (o : Occurrence) → Has p.rules k r → Has r.arguments l o → Used (bare vs bs) p o
  pub eval_is : (b k : ℕ) → Has p.steps b (eval k) → (r : Rule) × Has p.rules k r
  pub visit_is : (b k j : ℕ) → Has p.steps b (visit k j) → (c x v : ℕ) × (k ≡ suc c) × Has p.children c x × Has vs x v × (1 ≤ j) × (j ≤ v)
  pub leave_is : (b i : ℕ) → Has p.steps b (leave i) → (v : ℕ) × Has vs p.left v × (1 ≤ i) × (i ≤ v)

-- an occurrence stays defined, or used, where attributes and children stay
move_defined : (s s' : Scheme) (p p' : Production) → ((a x j : ℕ) (d : Side) → Of s a x d j → Of s' a x d j) → p.left ≡ p'.left → ((k x : ℕ) → Has p.children k x → Has p'.children k x) → {o : Occurrence} → Defined s p o → Defined s' p' o
move_defined s s' p p' f e g (defined-above {a = a} {j = j} h) = defined-above (subst (λ (x : ℕ). Of s' a x synthesized j) e (f a p.left j synthesized h))
move_defined s s' p p' f e g (defined-below {k = k} {x = x} {a = a} {j = j} c h) = defined-below (g k x c) (f a x j inherited h)

move_used : (s s' : Scheme) (p p' : Production) → ((a x j : ℕ) (d : Side) → Of s a x d j → Of s' a x d j) → p.left ≡ p'.left → ((k x : ℕ) → Has p.children k x → Has p'.children k x) → {o : Occurrence} → Used s p o → Used s' p' o
move_used s s' p p' f e g (used-above {a = a} {j = j} h) = used-above (subst (λ (x : ℕ). Of s' a x inherited j) e (f a p.left j inherited h))
move_used s s' p p' f e g (used-below {k = k} {x = x} {a = a} {j = j} c h) = used-below (g k x c) (f a x j synthesized h)

one_alone {ℓ} : {A : Type ℓ} (x y : A) (j : ℕ) → Has (x ∷ []) j y → x ≡ y
one_alone x y zero h = some_same x y h
one_alone x y (suc j) h = absurd (some_none y h)

-- of a list with one more at its end: an earlier one, or that one
pub last_or {ℓ} : {A : Type ℓ} (xs : List A) (z : A) (i : ℕ) (x : A) → Has (xs ++ (z ∷ [])) i x → Has xs i x ⊎ (z ≡ x)
last_or xs z i x h = go (append_find xs (z ∷ []) i x h)
  where
    go : Has xs i x ⊎ ((j : ℕ) × Has (z ∷ []) j x) → Has xs i x ⊎ (z ≡ x)
    go (inl a) = inl a
    go (inr b) = inr (one_alone z x b.0 b.1)

module _ (vs : List ℕ) (bs : List Attribute) (p : Production) where
  abbrev S : Scheme
  S = bare vs bs

  by_side : (x a j : ℕ) (d : Side) → Has bs a (record { symbol = x; side = d; visit = j }) → p.left ≡ x → T (not (is_inherited (some (record { symbol = x; side = d; visit = j })))) → Defined S p (record { position = 0; attribute = a })
  by_side x a j inherited h e u = absurd u
  by_side x a j synthesized h e u = defined-above (subst (λ (y : ℕ). Of S a y synthesized j) (sym e) h)

  by_side-below : (c y x a j : ℕ) (d : Side) → Has p.children c y → Has bs a (record { symbol = x; side = d; visit = j }) → y ≡ x → T (is_inherited (some (record { symbol = x; side = d; visit = j }))) → Defined S p (record { position = suc c; attribute = a })
  by_side-below c y x a j inherited hc h e u = defined-below hc (subst (λ (z : ℕ). Of S a z inherited j) (sym e) h)
  by_side-below c y x a j synthesized hc h e u = absurd u

  by_side_used : (x a j : ℕ) (d : Side) → Has bs a (record { symbol = x; side = d; visit = j }) → p.left ≡ x → T (not (not (is_inherited (some (record { symbol = x; side = d; visit = j }))))) → Used S p (record { position = 0; attribute = a })
  by_side_used x a j inherited h e u = used-above (subst (λ (y : ℕ). Of S a y inherited j) (sym e) h)
  by_side_used x a j synthesized h e u = absurd u

  by_side_used_below : (c y x a j : ℕ) (d : Side) → Has p.children c y → Has bs a (record { symbol = x; side = d; visit = j }) → y ≡ x → T (not (is_inherited (some (record { symbol = x; side = d; visit = j })))) → Used S p (record { position = suc c; attribute = a })
  by_side_used_below c y x a j inherited hc h e u = absurd u
  by_side_used_below c y x a j synthesized hc h e u = used-below hc (subst (λ (z : ℕ). Of S a z synthesized j) (sym e) h)

  occurrence_defined : (k a : ℕ) → T (belongs (symbol_at p k) (get_elem? bs a)) → T (defined_here k (get_elem? bs a)) → Defined S p (record { position = k; attribute = a })
  occurrence_defined zero a b d = go (get_elem? bs a) refl b d
    where
      go : (o : Option Attribute) → get_elem? bs a ≡ o → T (belongs (some p.left) o) → T (defined_here 0 o) → Defined S p (record { position = 0; attribute = a })
      go none e b d = absurd b
      go (some t) e b d = by_side t.symbol a t.visit t.side e (eqb→eq p.left t.symbol b) d
  occurrence_defined (suc c) a b d = go (get_elem? p.children c) refl (get_elem? bs a) refl b d
    where
      go : (y : Option ℕ) → get_elem? p.children c ≡ y → (o : Option Attribute) → get_elem? bs a ≡ o → T (belongs y o) → T (defined_here (suc c) o) → Defined S p (record { position = suc c; attribute = a })
      go none ey o e b d = absurd b
      go (some y) ey none e b d = absurd b
      go (some y) ey (some t) e b d = by_side-below c y t.symbol a t.visit t.side ey e (eqb→eq y t.symbol b) (subst (λ (z : Bool). T (cond z (not (is_inherited (some t))) (is_inherited (some t)))) (eqb-suc-zero c) d)

  occurrence_used : (k a : ℕ) → T (belongs (symbol_at p k) (get_elem? bs a)) → T (not (defined_here k (get_elem? bs a))) → Used S p (record { position = k; attribute = a })
  occurrence_used zero a b d = go (get_elem? bs a) refl b d
    where
      go : (o : Option Attribute) → get_elem? bs a ≡ o → T (belongs (some p.left) o) → T (not (defined_here 0 o)) → Used S p (record { position = 0; attribute = a })
      go none e b d = absurd b
      go (some t) e b d = by_side_used t.symbol a t.visit t.side e (eqb→eq p.left t.symbol b) d
  occurrence_used (suc c) a b d = go (get_elem? p.children c) refl (get_elem? bs a) refl b d
    where
      go : (y : Option ℕ) → get_elem? p.children c ≡ y → (o : Option Attribute) → get_elem? bs a ≡ o → T (belongs y o) → T (not (defined_here (suc c) o)) → Used S p (record { position = suc c; attribute = a })
      go none ey o e b d = absurd b
      go (some y) ey none e b d = absurd b
      go (some y) ey (some t) e b d = by_side_used_below c y t.symbol a t.visit t.side ey e (eqb→eq y t.symbol b) (subst (λ (z : Bool). T (not (cond z (not (is_inherited (some t))) (is_inherited (some t))))) (eqb-suc-zero c) d)

-- the rules with one more argument of the last: the same rules, with the same targets, and no other argument is new
pub grown_rule : (o : Occurrence) (rs : List Rule) (k : ℕ) (r' : Rule) → Has (with_argument o rs) k r' → (r : Rule) × Has rs k r × (r.target ≡ r'.target) × ((l : ℕ) (q : Occurrence) → Has r'.arguments l q → Has r.arguments l q ⊎ (o ≡ q))
grown_rule o [] k r' h = absurd (some_none r' h)
grown_rule o (r ∷ []) zero r' h =
    let e = some_same _ r' h in
    (r, refl, ap (λ (z : Rule). z.target) e, λ l q g. last_or r.arguments o l q (subst (λ (z : Rule). Has z.arguments l q) (sym e) g))
grown_rule o (r ∷ []) (suc k) r' h = absurd (some_none r' h)
grown_rule o (r ∷ x ∷ rs) zero r' h =
    let e = some_same r r' h in
    (r, refl, ap (λ (z : Rule). z.target) e, λ l q g. inl (subst (λ (z : Rule). Has z.arguments l q) (sym e) g))
grown_rule o (r ∷ x ∷ rs) (suc k) r' h = grown_rule o (x ∷ rs) k r' h

still_rule : (o : Occurrence) (rs : List Rule) (k : ℕ) (r : Rule) → Has rs k r → (r' : Rule) × Has (with_argument o rs) k r'
still_rule o [] k r h = absurd (some_none r h)
still_rule o (y ∷ []) zero r h = (record { number = y.number; target = y.target; arguments = y.arguments ++ (o ∷ []) }, refl)
still_rule o (y ∷ []) (suc k) r h = absurd (some_none r h)
still_rule o (y ∷ x ∷ rs) zero r h = (y, refl)
still_rule o (y ∷ x ∷ rs) (suc k) r h = still_rule o (x ∷ rs) k r h

module _ {vs : List ℕ} {bs : List Attribute} {p : Production} (F : FormedIn vs bs p) where
  with_child : (x : ℕ) → (v : ℕ) × Has vs x v → FormedIn vs bs (record { left = p.left; children = p.children ++ (x ∷ []); rules = p.rules; steps = p.steps })
  with_child x known = record {
    left_is = F.left_is;
    child_is = λ k y h. child k y (last_or p.children x k y h);
    target_is = λ k r h. move_defined (bare vs bs) (bare vs bs) p p' (λ a x j d f. f) refl stays (F.target_is k r h);
    argument_is = λ k l r o h g. move_used (bare vs bs) (bare vs bs) p p' (λ a x j d f. f) refl stays (F.argument_is k l r o h g);
    eval_is = F.eval_is;
    visit_is = λ b k j h. let c = F.visit_is b k j h in (c.0, c.1, c.2, c.3, stays c.0 c.1 c.4, c.5, c.6, c.7);
    leave_is = F.leave_is;
  }
    where
      p' : Production
      p' = record { left = p.left; children = p.children ++ (x ∷ []); rules = p.rules; steps = p.steps }

      stays : (k y : ℕ) → Has p.children k y → Has (p.children ++ (x ∷ [])) k y
      stays k y h = append_left p.children (x ∷ []) k y h

      child : (k y : ℕ) → Has p.children k y ⊎ (x ≡ y) → (v : ℕ) × Has vs y v
      child k y (inl h) = F.child_is k y h
      child k y (inr e) = (known.0, subst (λ (z : ℕ). Has vs z known.0) e known.1)

  with_rule : (r : Rule) → Defined (bare vs bs) p r.target → r.arguments ≡ [] → FormedIn vs bs (record { left = p.left; children = p.children; rules = p.rules ++ (r ∷ []); steps = p.steps })
  with_rule r defined empty = record {
    left_is = F.left_is;
    child_is = F.child_is;
    target_is = λ k x h. move_defined (bare vs bs) (bare vs bs) p p' (λ a x j d f. f) refl (λ k x f. f) (target k x (last_or p.rules r k x h));
    argument_is = λ k l x o h g. move_used (bare vs bs) (bare vs bs) p p' (λ a x j d f. f) refl (λ k x f. f) (argument k l x o g (last_or p.rules r k x h));
    eval_is = λ b k h. let c = F.eval_is b k h in (c.0, append_left p.rules (r ∷ []) k c.0 c.1);
    visit_is = F.visit_is;
    leave_is = F.leave_is;
  }
    where
      p' : Production
      p' = record { left = p.left; children = p.children; rules = p.rules ++ (r ∷ []); steps = p.steps }

      target : (k : ℕ) (x : Rule) → Has p.rules k x ⊎ (r ≡ x) → Defined (bare vs bs) p x.target
      target k x (inl h) = F.target_is k x h
      target k x (inr e) = subst (λ (z : Rule). Defined (bare vs bs) p z.target) e defined

      argument : (k l : ℕ) (x : Rule) (o : Occurrence) → Has x.arguments l o → Has p.rules k x ⊎ (r ≡ x) → Used (bare vs bs) p o
      argument k l x o g (inl h) = F.argument_is k l x o h g
      argument k l x o g (inr e) = absurd (some_none o (subst (λ (z : List Occurrence). Has z l o) (ap (λ (z : Rule). z.arguments) (sym e) ∙ empty) g))

  with_more : (o : Occurrence) → Used (bare vs bs) p o → FormedIn vs bs (record { left = p.left; children = p.children; rules = with_argument o p.rules; steps = p.steps })
  with_more o used = record {
    left_is = F.left_is;
    child_is = F.child_is;
    target_is = λ k x h. let c = grown_rule o p.rules k x h in
        subst (λ (q : Occurrence). Defined (bare vs bs) p' q) c.2 (move_defined (bare vs bs) (bare vs bs) p p' (λ a x j d f. f) refl (λ k x f. f) (F.target_is k c.0 c.1));
    argument_is = λ k l x q h g. let c = grown_rule o p.rules k x h in
        move_used (bare vs bs) (bare vs bs) p p' (λ a x j d f. f) refl (λ k x f. f) (argument k l c.0 q c.1 (c.3 l q g));
    eval_is = λ b k h. let c = F.eval_is b k h in still_rule o p.rules k c.0 c.1;
    visit_is = F.visit_is;
    leave_is = F.leave_is;
  }
    where
      p' : Production
      p' = record { left = p.left; children = p.children; rules = with_argument o p.rules; steps = p.steps }

      argument : (k l : ℕ) (x : Rule) (q : Occurrence) → Has p.rules k x → Has x.arguments l q ⊎ (o ≡ q) → Used (bare vs bs) p q
      argument k l x q h (inl g) = F.argument_is k l x q h g
      argument k l x q h (inr e) = subst (λ (z : Occurrence). Used (bare vs bs) p z) e used

  stepped : (st : Step) →
      ((k : ℕ) → st ≡ eval k → (r : Rule) × Has p.rules k r) →
      ((k j : ℕ) → st ≡ visit k j → (c x v : ℕ) × (k ≡ suc c) × Has p.children c x × Has vs x v × (1 ≤ j) × (j ≤ v)) →
      ((i : ℕ) → st ≡ leave i → (v : ℕ) × Has vs p.left v × (1 ≤ i) × (i ≤ v)) →
      FormedIn vs bs (record { left = p.left; children = p.children; rules = p.rules; steps = p.steps ++ (st ∷ []) })
  stepped st for-eval for-visit for-leave = record {
    left_is = F.left_is;
    child_is = F.child_is;
    target_is = λ k x h. move_defined (bare vs bs) (bare vs bs) p p' (λ a x j d f. f) refl (λ k x f. f) (F.target_is k x h);
    argument_is = λ k l x o h g. move_used (bare vs bs) (bare vs bs) p p' (λ a x j d f. f) refl (λ k x f. f) (F.argument_is k l x o h g);
    eval_is = λ b k h. on_eval b k (last_or p.steps st b (eval k) h);
    visit_is = λ b k j h. on_visit b k j (last_or p.steps st b (visit k j) h);
    leave_is = λ b i h. on_leave b i (last_or p.steps st b (leave i) h);
  }
    where
      p' : Production
      p' = record { left = p.left; children = p.children; rules = p.rules; steps = p.steps ++ (st ∷ []) }

      on_eval : (b k : ℕ) → Has p.steps b (eval k) ⊎ (st ≡ eval k) → (r : Rule) × Has p.rules k r
      on_eval b k (inl h) = F.eval_is b k h
      on_eval b k (inr e) = for-eval k e

      on_visit : (b k j : ℕ) → Has p.steps b (visit k j) ⊎ (st ≡ visit k j) → (c x v : ℕ) × (k ≡ suc c) × Has p.children c x × Has vs x v × (1 ≤ j) × (j ≤ v)
      on_visit b k j (inl h) = F.visit_is b k j h
      on_visit b k j (inr e) = for-visit k j e

      on_leave : (b i : ℕ) → Has p.steps b (leave i) ⊎ (st ≡ leave i) → (v : ℕ) × Has vs p.left v × (1 ≤ i) × (i ≤ v)
      on_leave b i (inl h) = F.leave_is b i h
      on_leave b i (inr e) = for-leave i e

-- a production is being read
abbrev pub active : Next → Bool
active Next.first_symbol = false
active Next.symbols = false
active (Next.children n) = true
active Next.rules = true
active (Next.arguments n) = true
active Next.steps = true
active Next.nothing = false

-- no production has been begun
abbrev pub early : Next → Bool
early Next.first_symbol = true
early Next.symbols = true
early (Next.children n) = false
early Next.rules = false
early (Next.arguments n) = false
early Next.steps = false
early Next.nothing = false

-- what has been read is in form
pub record Good (q : Sofar) : Type 0 where
  pub visit-range : (x v : ℕ) → Has q.visits x v → (1 ≤ v) × (v ≤ 4)
  pub attribute_is : (a : ℕ) (b : Attribute) → Has q.attributes a b → (v : ℕ) × Has q.visits b.symbol v × (1 ≤ b.visit) × (b.visit ≤ v)
  pub none_yet : T (early q.next) → q.whole ≡ []
  pub whole_is : (n : ℕ) (p : Production) → Has q.whole n p → FormedIn q.visits q.attributes p
  pub current_is : T (active q.next) → FormedIn q.visits q.attributes q.current

-- which words come when
symbol_early : (nx : Next) → T (any (eqb 1) (kinds nx)) → T (early nx)
symbol_early Next.first_symbol h = tt
symbol_early Next.symbols h = tt
symbol_early (Next.children n) h = absurd h
symbol_early Next.rules h = absurd h
symbol_early (Next.arguments n) h = absurd h
symbol_early Next.steps h = absurd h
symbol_early Next.nothing h = absurd h

attribute_early : (nx : Next) → T (any (eqb 2) (kinds nx)) → T (early nx)
attribute_early Next.first_symbol h = absurd h
attribute_early Next.symbols h = tt
attribute_early (Next.children n) h = absurd h
attribute_early Next.rules h = absurd h
attribute_early (Next.arguments n) h = absurd h
attribute_early Next.steps h = absurd h
attribute_early Next.nothing h = absurd h

pub after_children_active : (c : ℕ) → T (active (after_children c)) × (T (early (after_children c)) → ⊥)
after_children_active zero = (tt, λ h. h)
after_children_active (suc c) = (tt, λ h. h)

pub after_arguments_active : (c : ℕ) → T (active (after_arguments c)) × (T (early (after_arguments c)) → ⊥)
after_arguments_active zero = (tt, λ h. h)
after_arguments_active (suc c) = (tt, λ h. h)

pub child_active : (nx : Next) → T (any (eqb 4) (kinds nx)) → T (active nx) × (T (early (one_less nx)) → ⊥)
child_active Next.first_symbol h = absurd h
child_active Next.symbols h = absurd h
child_active (Next.children n) h = (tt, (after_children_active (n - 1)).1)
child_active Next.rules h = absurd h
child_active (Next.arguments n) h = absurd h
child_active Next.steps h = absurd h
child_active Next.nothing h = absurd h

pub argument_active : (nx : Next) → T (any (eqb 6) (kinds nx)) → T (active nx) × (T (early (one_less nx)) → ⊥)
argument_active Next.first_symbol h = absurd h
argument_active Next.symbols h = absurd h
argument_active (Next.children n) h = absurd h
argument_active Next.rules h = absurd h
argument_active (Next.arguments n) h = (tt, (after_arguments_active (n - 1)).1)
argument_active Next.steps h = absurd h
argument_active Next.nothing h = absurd h

-- a rule, or a step, comes in a production
pub body_active : (k : ℕ) → eqb k 1 ≡ false → eqb k 2 ≡ false → eqb k 3 ≡ false → (nx : Next) → T (any (eqb k) (kinds nx)) → T (active nx)
body_active k e₁ e₂ e₃ Next.first_symbol h = absurd (subst (λ (z : Bool). T (z || false)) e₁ h)
body_active k e₁ e₂ e₃ Next.symbols h =
    absurd (subst (λ (z : Bool). T (z || false)) e₃ (subst (λ (z : Bool). T (z || (eqb k 3 || false))) e₂ (subst (λ (z : Bool). T (z || (eqb k 2 || (eqb k 3 || false)))) e₁ h)))
body_active k e₁ e₂ e₃ (Next.children n) h = tt
body_active k e₁ e₂ e₃ Next.rules h = tt
body_active k e₁ e₂ e₃ (Next.arguments n) h = tt
body_active k e₁ e₂ e₃ Next.steps h = tt
body_active k e₁ e₂ e₃ Next.nothing h = absurd h

eval-visit : (r k j : ℕ) → eval r ≡ visit k j → ⊥
eval-visit r k j e = let z : ◌≡◌ {A = ℕ} 0 1 = cc in omega arith

eval-leave : (r i : ℕ) → eval r ≡ leave i → ⊥
eval-leave r i e = let z : ◌≡◌ {A = ℕ} 0 1 = cc in omega arith

visit-leave : (k j i : ℕ) → visit k j ≡ leave i → ⊥
visit-leave k j i e = let z : ◌≡◌ {A = ℕ} 0 1 = cc in omega arith

suc-same : (m n : ℕ) → suc m ≡ suc n → m ≡ n
suc-same m n e = omega arith

pub stopped-scheme : (n i : ℕ) (s : Scheme) → stopped n i ≡ scheme s → ⊥
stopped-scheme n i s e = let z : ◌≡◌ {A = ℕ} 0 1 = cc in omega arith

pub scheme-same : (s s' : Scheme) → scheme s ≡ scheme s' → s ≡ s'
scheme-same s s' e = cc

module _ (q : Sofar) (good : Good q) where
  -- the productions that are whole when another thing begins
  closed_is : (m : ℕ) → T (any (eqb m) (kinds q.next)) → (n : ℕ) (p : Production) → Has (closed q) n p → FormedIn q.visits q.attributes p
  closed_is m w n p h = go q.next w good.current_is h
    where
      both : FormedIn q.visits q.attributes q.current → Has (cond (leb (suc (length q.whole)) 0) q.whole (q.whole ++ (q.current ∷ []))) n p → FormedIn q.visits q.attributes p
      both f h = pick (last_or q.whole q.current n p (subst (λ (z : Bool). Has (cond z q.whole (q.whole ++ (q.current ∷ []))) n p) (leb-suc-zero (length q.whole)) h))
        where
          pick : Has q.whole n p ⊎ (q.current ≡ p) → FormedIn q.visits q.attributes p
          pick (inl g) = good.whole_is n p g
          pick (inr e) = subst (λ (z : Production). FormedIn q.visits q.attributes z) e f

      go : (nx : Next) → T (any (eqb m) (kinds nx)) → (T (active nx) → FormedIn q.visits q.attributes q.current) → Has (cond (leb (begun q nx) 0) q.whole (q.whole ++ (q.current ∷ []))) n p → FormedIn q.visits q.attributes p
      go Next.first_symbol w f h = good.whole_is n p h
      go Next.symbols w f h = good.whole_is n p h
      go (Next.children c) w f h = both (f tt) h
      go Next.rules w f h = both (f tt) h
      go (Next.arguments c) w f h = both (f tt) h
      go Next.steps w f h = both (f tt) h
      go Next.nothing w f h = absurd w

  known : (x : ℕ) → T (ltb x (length q.visits)) → (v : ℕ) × Has q.visits x v
  known x h = has_at q.visits x (ltb→lt x (length q.visits) h)

  within_is : (j : ℕ) (o : Option ℕ) → T (within j o) → (v : ℕ) × (o ≡ some v) × (j ≤ v)
  within_is j none h = absurd h
  within_is j (some v) h = (v, refl, leb→le j v h)

  from_first : (j : ℕ) → T (leb 1 j && leb j 4) → 1 ≤ j
  from_first j h = leb→le 1 j (and_l (leb 1 j) (leb j 4) h)

  pub taken_good : (w : ℕ) (f : Form) → Accepted q w f → Good (taken q f)
  taken_good w (Form.symbol v) a = record {
    visit-range = λ x u h. ranges x u (last_or q.visits v x u h);
    attribute_is = λ b c h. let k = good.attribute_is b c h in (k.0, append_left q.visits (v ∷ []) c.symbol k.0 k.1, k.2, k.3);
    none_yet = λ _. nothing_yet;
    whole_is = λ n p h. absurd (some_none p (subst (λ (ps : List Production). Has ps n p) nothing_yet h));
    current_is = λ h. absurd h;
  }
    where
      nothing_yet : q.whole ≡ []
      nothing_yet = good.none_yet (symbol_early q.next a.awaited)

      ranges : (x u : ℕ) → Has q.visits x u ⊎ (v ≡ u) → (1 ≤ u) × (u ≤ 4)
      ranges x u (inl h) = good.visit-range x u h
      ranges x u (inr e) = subst (λ (z : ℕ). (1 ≤ z) × (z ≤ 4)) e (leb→le 1 v (and_l (leb 1 v) (leb v 4) a.ranged), leb→le v 4 (and_r (leb 1 v) (leb v 4) a.ranged))
  taken_good w (Form.attribute d j) a = record {
    visit-range = good.visit-range;
    attribute_is = λ b c h. is b c (last_or q.attributes _ b c h);
    none_yet = λ _. nothing_yet;
    whole_is = λ n p h. absurd (some_none p (subst (λ (ps : List Production). Has ps n p) nothing_yet h));
    current_is = λ h. absurd h;
  }
    where
      nothing_yet : q.whole ≡ []
      nothing_yet = good.none_yet (attribute_early q.next a.awaited)

      is : (b : ℕ) (c : Attribute) → Has q.attributes b c ⊎ (record { symbol = length q.visits - 1; side = numbered_side d; visit = j } ≡ c) → (v : ℕ) × Has q.visits c.symbol v × (1 ≤ c.visit) × (c.visit ≤ v)
      is b c (inl h) = good.attribute_is b c h
      is b c (inr e) =
          let k = within_is j (get_elem? q.visits (length q.visits - 1)) a.there in
          subst (λ (z : Attribute). (v : ℕ) × Has q.visits z.symbol v × (1 ≤ z.visit) × (z.visit ≤ v)) e (k.0, k.1, from_first j (and_r (leb 0 d && leb d 1) (leb 1 j && leb j 4) a.ranged), k.2)
  taken_good w (Form.production x c) a = record {
    visit-range = good.visit-range;
    attribute_is = good.attribute_is;
    none_yet = λ h. absurd ((after_children_active c).1 h);
    whole_is = closed_is 3 a.awaited;
    current_is = λ _. record {
      left_is = known x a.there;
      child_is = λ k y h. absurd (some_none y h);
      target_is = λ k r h. absurd (some_none r h);
      argument_is = λ k l r o h g. absurd (some_none r h);
      eval_is = λ b k h. absurd (some_none (eval k) h);
      visit_is = λ b k j h. absurd (some_none (visit k j) h);
      leave_is = λ b i h. absurd (some_none (leave i) h);
    };
  }
  taken_good w (Form.child x) a = record {
    visit-range = good.visit-range;
    attribute_is = good.attribute_is;
    none_yet = λ h. absurd ((child_active q.next a.awaited).1 h);
    whole_is = good.whole_is;
    current_is = λ _. with_child (good.current_is (child_active q.next a.awaited).0) x (known x a.there);
  }
  taken_good w (Form.rule n k b c) a = record {
    visit-range = good.visit-range;
    attribute_is = good.attribute_is;
    none_yet = λ h. absurd ((after_arguments_active c).1 h);
    whole_is = good.whole_is;
    current_is = λ _. with_rule (good.current_is (body_active 5 refl refl refl q.next a.awaited)) (record { number = n; target = record { position = k; attribute = b }; arguments = [] })
        (occurrence_defined q.visits q.attributes q.current k b a.there a.sorted) refl;
  }
  taken_good w (Form.argument k b) a = record {
    visit-range = good.visit-range;
    attribute_is = good.attribute_is;
    none_yet = λ h. absurd ((argument_active q.next a.awaited).1 h);
    whole_is = good.whole_is;
    current_is = λ _. with_more (good.current_is (argument_active q.next a.awaited).0) (record { position = k; attribute = b })
        (occurrence_used q.visits q.attributes q.current k b a.there a.sorted);
  }
  taken_good w (Form.eval r) a = record {
    visit-range = good.visit-range;
    attribute_is = good.attribute_is;
    none_yet = λ h. absurd h;
    whole_is = good.whole_is;
    current_is = λ _. stepped (good.current_is (body_active 7 refl refl refl q.next a.awaited)) (eval r)
        (λ k e. let same : r ≡ k = cc in subst (λ (z : ℕ). (x : Rule) × Has q.current.rules z x) same (has_at q.current.rules r (ltb→lt r (length q.current.rules) a.there)))
        (λ k j e. absurd (eval-visit r k j e))
        (λ i e. absurd (eval-leave r i e));
  }
  taken_good w (Form.visit k j) a = record {
    visit-range = good.visit-range;
    attribute_is = good.attribute_is;
    none_yet = λ h. absurd h;
    whole_is = good.whole_is;
    current_is = λ _. stepped (good.current_is (body_active 8 refl refl refl q.next a.awaited)) (visit k j)
        (λ m e. absurd (eval-visit m k j (sym e)))
        (λ m i e. let same : k ≡ m = cc in let also : j ≡ i = cc in
        subst (λ (z : ℕ). (c x v : ℕ) × (z ≡ suc c) × Has q.current.children c x × Has q.visits x v × (1 ≤ i) × (i ≤ v)) same
        (subst (λ (z : ℕ). (c x v : ℕ) × (k ≡ suc c) × Has q.current.children c x × Has q.visits x v × (1 ≤ z) × (z ≤ v)) also
        (to_child k j (and_l (leb 1 k && leb k 6) (leb 1 j && leb j 4) a.ranged) (from_first j (and_r (leb 1 k && leb k 6) (leb 1 j && leb j 4) a.ranged)) a.there)))
        (λ i e. absurd (visit-leave k j i e));
  }
    where
      to_child : (k j : ℕ) → T (leb 1 k && leb k 6) → 1 ≤ j → T (within j (visits_at q (symbol_at q.current k))) → (c x v : ℕ) × (k ≡ suc c) × Has q.current.children c x × Has q.visits x v × (1 ≤ j) × (j ≤ v)
      to_child zero j low one h = absurd low
      to_child (suc c) j low one h = go (get_elem? q.current.children c) refl h
        where
          go : (o : Option ℕ) → get_elem? q.current.children c ≡ o → T (within j (visits_at q o)) → (b x v : ℕ) × (suc c ≡ suc b) × Has q.current.children b x × Has q.visits x v × (1 ≤ j) × (j ≤ v)
          go none e h = absurd h
          go (some x) e h = let m = within_is j (get_elem? q.visits x) h in (c, x, m.0, refl, e, m.1, one, m.2)
  taken_good w (Form.leave i) a = record {
    visit-range = good.visit-range;
    attribute_is = good.attribute_is;
    none_yet = λ h. absurd h;
    whole_is = good.whole_is;
    current_is = λ _. stepped (good.current_is (body_active 9 refl refl refl q.next a.awaited)) (leave i)
        (λ m e. absurd (eval-leave m i (sym e)))
        (λ m j e. absurd (visit-leave m j i (sym e)))
        (λ j e. let same : i ≡ j = cc in
        let m = within_is i (get_elem? q.visits q.current.left) a.there in
        subst (λ (z : ℕ). (v : ℕ) × Has q.visits q.current.left v × (1 ≤ z) × (z ≤ v)) same (m.0, m.1, from_first i a.ranged, m.2));
  }
  taken_good w Form.end a = record {
    visit-range = good.visit-range;
    attribute_is = good.attribute_is;
    none_yet = λ h. absurd h;
    whole_is = closed_is 15 a.awaited;
    current_is = λ h. absurd h;
  }

pub first_good : Good at_first
first_good = record {
  visit-range = λ x v h. absurd (some_none v h);
  attribute_is = λ a b h. absurd (some_none b h);
  none_yet = λ _. refl;
  whole_is = λ n p h. absurd (some_none p h);
  current_is = λ h. absurd h;
}

-- what has been read once no word may come any more
pub good_formed : (q : Sofar) → Good q → Formed (record { visits = q.visits; attributes = q.attributes; productions = q.whole })
good_formed q good = record {
  visit_count = good.visit-range;
  attribute_known = good.attribute_is;
  left_known = λ n p h. (good.whole_is n p h).left_is;
  child_known = λ n k x p h g. (good.whole_is n p h).child_is k x g;
  target_defined = λ n k p r h g. move_defined (bare q.visits q.attributes) s p p (λ a x j d f. f) refl (λ k x f. f) ((good.whole_is n p h).target_is k r g);
  argument_used = λ n k l p r o h g e. move_used (bare q.visits q.attributes) s p p (λ a x j d f. f) refl (λ k x f. f) ((good.whole_is n p h).argument_is k l r o g e);
  evals_rule = λ n b k p h g. (good.whole_is n p h).eval_is b k g;
  visits_child = λ n b k j p h g. let c = (good.whole_is n p h).visit_is b k j g in (c.0, c.1, c.3, c.4);
  visit_number = λ n b k x v j p h g e d.
      let c = (good.whole_is n p h).visit_is b (suc k) j g in
      let place : k ≡ c.0 = suc-same k c.0 c.3 in
      let child : c.1 ≡ x = has_one p.children k c.1 x (subst (λ (z : ℕ). Has p.children z c.1) (sym place) c.4) e in
      let visits : c.2 ≡ v = has_one q.visits x c.2 v (subst (λ (z : ℕ). Has q.visits z c.2) child c.5) d in
      (c.6, subst (λ (z : ℕ). j ≤ z) visits c.7);
  leave_number = λ n b v i p h g d.
      let c = (good.whole_is n p h).leave_is b i g in
      let visits : c.0 ≡ v = has_one q.visits p.left c.0 v c.1 d in
      (c.2, subst (λ (z : ℕ). i ≤ z) visits c.3);
}
  where
    s : Scheme
    s = record { visits = q.visits; attributes = q.attributes; productions = q.whole }

pub reads_good : (ws : List ℕ) (i : ℕ) (q : Sofar) (s : Scheme) → Good q → read_from ws i q ≡ scheme s → Formed s
reads_good [] i q s good e = go (finished q.next) e
  where
    go : (b : Bool) → cond b (scheme (record { visits = q.visits; attributes = q.attributes; productions = q.whole })) (stopped 3 i) ≡ scheme s → Formed s
    go true e = subst (λ (z : Scheme). Formed z) (scheme-same _ s e) (good_formed q good)
    go false e = absurd (stopped-scheme 3 i s e)
reads_good (w ∷ ws) i q s good e = go (λ q' good' e'. reads_good ws (suc i) q' s good' e') (objection q w) refl e
  where
    go : ((q' : Sofar) → Good q' → read_from ws (suc i) q' ≡ scheme s → Formed s) → (o : Option ℕ) → objection q w ≡ o → elim o as (λ _. Read) [ none ↦ read_from ws (suc i) (accepted q (fields (kind w) w)) | some n ↦ stopped n i ] ≡ scheme s → Formed s
    go later none h e =
        let f = accepted_of q w h in
        later (taken q f.0) (taken_good q good w f.0 f.1) (subst (λ (o : Option Form). read_from ws (suc i) (accepted q o) ≡ scheme s) f.1.form_is e)
    go later (some n) h e = absurd (stopped-scheme n i s e)

-- a scheme that is read from words is in form
pub read-formed : (ws : List ℕ) (s : Scheme) → read ws ≡ scheme s → Formed s
read-formed ws s e = reads_good ws 0 at_first s first_good e
