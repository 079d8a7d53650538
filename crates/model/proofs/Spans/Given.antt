-- In which sections a production of a lawful scheme may read an attribute of its left symbol, or give it its value.
use Rattle.std.proofs.Common.{◌≡◌, ℕ, suc, ◌≤◌, true, T, eqb, sym, refl, ap, ◌∙◌, subst, arith, eqb→eq}
use mathlib.Core.Option.{Option, none, some}
use lib.Dec.{eqb_refl}
use lib.ListN.{get_elem?}
use Rattle.model.specs.Lists.{Has}
use Rattle.model.specs.Scheme.{inherited, synthesized, Attribute, Occurrence, Rule, Step, eval, visit, leave, Production, Scheme, same_occurrence}
use Rattle.model.specs.Sequences.{is_leave, section, uses, defines, rule_targets}
use Rattle.model.specs.Lawful.{Of, Lawful, Defined, above, below, Known, given, visited, is_eval_of}
use Rattle.model.specs.Formed.{Formed}
use Rattle.model.specs.Spans.{own}
use Rattle.model.proofs.Common.ListFacts.{of_true, has-below, has_one, before-any, count_mono, once_alone}
use Rattle.model.proofs.Common.Basics.{T-both, eq→eqb}
use Rattle.model.proofs.Spans.Steps.{leave-section, leave_place}

-- what an occurrence is, where a step gives it its value

same_is : (o q : Occurrence) → T (same_occurrence o q) → o ≡ q
same_is o q h =
    let r = T-both (eqb o.position q.position) (eqb o.attribute q.attribute) h in
    let d = eqb→eq o.position q.position r.0 in
    let e = eqb→eq o.attribute q.attribute r.1 in
    λ i. record { position = d i; attribute = e i }

defines_by : (p : Production) (st : Step) (o : Occurrence) → T (defines p st o) → (k : ℕ) × (r : Rule) × (st ≡ eval k) × Has p.rules k r × T (same_occurrence o r.target)
defines_by p (eval k) o h = go (get_elem? p.rules k) refl h
  where
    go : (m : Option Rule) → get_elem? p.rules k ≡ m → T (rule_targets m o) → (c : ℕ) × (r : Rule) × (eval k ≡ eval c) × Has p.rules c r × T (same_occurrence o r.target)
    go none e h = absurd h
    go (some r) e h = (k, r, refl, e, h)
defines_by p (visit k j) o h = absurd h
defines_by p (leave i) o h = absurd h

-- what is known, or defined, of an attribute of the left symbol

known_own : (s : Scheme) (p : Production) (t : ℕ) (o : Occurrence) → Known s p t o → (a : ℕ) → o ≡ own a → (j : ℕ) × Of s a p.left inherited j × (j ≤ section p t)
known_own s p t o (given {a = c} {j} h l) a e = let d : c ≡ a = ap (λ (q : Occurrence). q.attribute) e in (j, subst (λ (i : ℕ). Of s i p.left inherited j) d h, l)
known_own s p t o (visited {k} {x} {a = c} {j} h f l) a e = let d : suc k ≡ 0 = ap (λ (q : Occurrence). q.position) e in absurd (omega arith)

defined_own : (s : Scheme) (p : Production) (o : Occurrence) → Defined s p o → (a : ℕ) → o ≡ own a → (j : ℕ) × Of s a p.left synthesized j
defined_own s p o (above {a = c} {j} h) a e = let d : c ≡ a = ap (λ (q : Occurrence). q.attribute) e in (j, subst (λ (i : ℕ). Of s i p.left synthesized j) d h)
defined_own s p o (below {k} {x} {a = c} {j} h f) a e = let d : suc k ≡ 0 = ap (λ (q : Occurrence). q.position) e in absurd (omega arith)

same-visit : (s : Scheme) (a : ℕ) (b c : Attribute) → Has s.attributes a b → Has s.attributes a c → b.visit ≡ c.visit
same-visit s a b c h k = ap (λ (d : Attribute). d.visit) (has_one s.attributes a b c h k)

-- a step that reads an attribute of the left symbol stands in the section of its visit or a later one
pub used_from : (s : Scheme) → Lawful s → (a n t : ℕ) (b : Attribute) (p : Production) (st : Step) → Has s.attributes a b → Has s.productions n p → Has p.steps t st → uses p st (own a) ≡ true → b.visit ≤ section p t
used_from s law a n t b p st at is h u =
    let k = (law.ordered n t p is).arguments_known st h (own a) (of_true (uses p st (own a)) u) in
    let r = known_own s p t (own a) k a refl in
    let e = same-visit s a b (record { symbol = p.left; side = inherited; visit = r.0 }) at r.1 in
    omega (arith, e, r.2)

module _ (s : Scheme) (law : Lawful s) (n : ℕ) (p : Production) (is : Has s.productions n p) where
  -- a defined occurrence is given its value by one step only
  pub defined_once : (o : Occurrence) → Defined s p o → (t u : ℕ) (x y : Step) → Has p.steps t x → T (defines p x o) → Has p.steps u y → T (defines p y o) → t ≡ u
  defined_once o d t u x y h f k g =
      let q = defines_by p x o f in
      let r = defines_by p y o g in
      let e : q.0 ≡ r.0 = once_alone (λ r. same_occurrence o r.target) p.rules (law.ruled n p is o d) q.0 r.0 q.1 r.1 q.3 q.4 r.3 r.4 in
      let l = has-below p.rules q.0 q.1 q.3 in
      once_alone (is_eval_of q.0) p.steps (law.evaluated n p is q.0 l) t u (eval q.0) (eval r.0) (h ∙ ap {B = Option Step} some q.2) (eqb_refl q.0) (k ∙ ap {B = Option Step} some r.2) (eq→eqb q.0 r.0 e)

  -- a step that gives a synthesized attribute of visit j its value comes before LEAVE j
  given-before : Formed s → (a j t : ℕ) (st : Step) → Of s a p.left synthesized j → Has p.steps t st → T (defines p st (own a)) → section p t ≤ j
  given-before formed a j t st of h g =
      let v = formed.attribute_known a (record { symbol = p.left; side = synthesized; visit = j }) of in
      let l = leave_place s law n p is v.0 j v.1 v.2 v.3 in
      let e = leave-section s law n p is v.0 l.0 j v.1 l.1 in
      let q = before-any (λ st. defines p st (own a)) p.steps l.0 ((law.ordered n l.0 p is).ready_to_leave j a l.1 of) in
      let d = defined_once (own a) (above of) q.0 t q.1 st q.3 q.4 h g in
      let m = count_mono is_leave p.steps t l.0 (omega (arith, d, q.2)) in
      omega (arith, e, m)

-- a step that gives an attribute of the left symbol its value stands in the section of its visit or an earlier one
pub evaluated_by : (s : Scheme) → Lawful s → Formed s → (a n t : ℕ) (b : Attribute) (p : Production) (st : Step) → Has s.attributes a b → Has s.productions n p → Has p.steps t st → defines p st (own a) ≡ true → section p t ≤ b.visit
evaluated_by s law formed a n t b p st at is h u =
    let g = of_true (defines p st (own a)) u in
    let q = defines_by p st (own a) g in
    let r = defined_own s p q.1.target (formed.target_defined n q.0 p q.1 is q.3) a (sym (same_is (own a) q.1.target q.4)) in
    let e = same-visit s a b (record { symbol = p.left; side = synthesized; visit = r.0 }) at r.1 in
    let l = given-before s law n p is formed a r.0 t st r.1 h g in
    omega (arith, e, l)
