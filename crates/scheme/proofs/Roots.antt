-- The three tests on symbol 0. Assumes nothing.
use Rattle.std.proofs.Common.{◌≡◌, ℕ, Bool, true, false, not, T, eqb, Some, None, Decides, sym, ap, ◌∙◌}
use mathlib.Core.Option.{Option, some}
use Rattle.std.specs.declared.option.Option as Code
use Rattle.std.specs.Option.{option_eq}
use Rattle.grammar.specs.Views.{option_of, visit_of}
use Rattle.grammar.specs.declared.parts.VisitNumber.{VisitNumber}
use Rattle.std.proofs.lemmas.Bool.{not-true, not_from_false, eqb-true, eq-eqb, both_ways}
use Rattle.model.specs.Lists.{Has, any}
use Rattle.model.specs.Scheme.{Side, inherited, synthesized, Attribute, Scheme}
use Rattle.model.specs.Checking.{Rooted}
use Rattle.model.proofs.Common.ListFacts.{true_of, false_of, of_false, any_find, any_here, some_none, some_same}
use Rattle.scheme.specs.Roots.{is_root, root_on, inherited_of_root, has_root_child}

-- the code's own look at the last visit
pub is_one : (m : Option ℕ) (o : Code.Option VisitNumber) (r : Bool) → option_of visit_of o ≡ m → r ≡ option_eq (λ a b. eqb a.0 b.0) o (Some (record { 0 = 1 })) → Decides r (m ≡ some 1)
is_one m None r e h = (λ t. absurd (both_ways r h t), λ f. absurd (some_none 1 (e ∙ f)))
is_one m (Some v) r e h = ((λ t. sym e ∙ ap some (eqb-true v.0 1 (sym h ∙ t))), λ f. h ∙ eq-eqb v.0 1 (some_same v.0 1 (e ∙ f)))

root-attribute : (b : Attribute) → T (inherited_of_root b) → b ≡ record { symbol = 0; side = inherited; visit = b.visit }
root-attribute b t = go b.side b.symbol t
  where
    go : (d : Side) (x : ℕ) → T (root_on d x) → ◌≡◌ {A = Attribute} (record { symbol = x; side = d; visit = b.visit }) (record { symbol = 0; side = inherited; visit = b.visit })
    go inherited x u = let e = eqb-true x 0 (true_of (eqb x 0) u) in ap (λ (y : ℕ). record { symbol = y; side = inherited; visit = b.visit }) e
    go synthesized x u = absurd u

module _ (s : Scheme) where
  inherits_not : Rooted s → T (any inherited_of_root s.attributes) → ⊥
  inherits_not q t =
      let f = any_find inherited_of_root s.attributes t in
      q.inherits_nothing f.0 f.1.visit (f.2 ∙ ap some (root-attribute f.1 f.3))

  child_not : Rooted s → T (any has_root_child s.productions) → ⊥
  child_not q t =
      let f = any_find has_root_child s.productions t in
      let h = any_find is_root f.1.children f.3 in
      q.no_child f.0 h.0 f.1 f.2 (h.2 ∙ ap some (eqb-true h.1 0 (true_of (eqb h.1 0) h.3)))

  pub inherits_not_any : Rooted s → any inherited_of_root s.attributes ≡ false
  inherits_not_any q = false_of (any inherited_of_root s.attributes) (inherits_not q)

  pub rooted_by : (child : Bool) → Has s.visits 0 1 → any inherited_of_root s.attributes ≡ false → child ≡ any has_root_child s.productions → Decides (not child) (Rooted s)
  rooted_by child one none e = (there, λ q. not_from_false child (e ∙ false_of (any has_root_child s.productions) (child_not q)))
    where
      there : not child ≡ true → Rooted s
      there t =
          let b : any has_root_child s.productions ≡ false = sym e ∙ not-true child t in
          record {
            one_visit = one;
            inherits_nothing = λ n j h. of_false (any inherited_of_root s.attributes) none (any_here inherited_of_root s.attributes n (record { symbol = 0; side = inherited; visit = j }) h tt);
            no_child = λ n k p h m. of_false (any has_root_child s.productions) b (any_here has_root_child s.productions n p h (any_here is_root p.children k 0 m tt));
          }
