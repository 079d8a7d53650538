-- Every attribute has exactly one letter. Assumes nothing.
use Rattle.std.proofs.Common.{◌≡◌, ℕ, Bool, true, false, cond, eqb, sym, refl, ap, ◌∙◌, subst, arith}
use mathlib.Core.Option.{Option, none, some}
use lib.ListN.{get_elem?}
use Rattle.std.proofs.lemmas.Bool.{true≢false, eqb-true, eqb-false}
use Rattle.model.specs.Lists.{Has}
use Rattle.model.specs.Scheme.{Attribute, Scheme}
use Rattle.model.specs.Spans.{stacks}
use Rattle.model.specs.Plan.{Letter, C, S, K, Below, Single, Stacked, Lettered}
use Rattle.model.specs.Formed.{Formed}
use Rattle.model.specs.Outcomes.{decide}
use Rattle.model.proofs.Plan.Rounds.{decide_exactly}
use Rattle.model.proofs.Spans.Conditions.{stacks_told, stacks_tested}

-- the letter of attribute a, which is b, by its tests: not symbol 0's, decided to be single, and kept on a stack
abbrev pub letter_by : Bool → Bool → Bool → Letter
letter_by root single stack = cond root K (cond single C (cond stack S K))

abbrev pub letter_at : Scheme → ℕ → Option Attribute → Letter
letter_at s a none = K
letter_at s a (some b) = letter_by (eqb b.symbol 0) (decide s (eqb a)) (stacks s a b)

abbrev pub letter_for : Scheme → ℕ → Letter
letter_for s a = letter_at s a (get_elem? s.attributes a)

same-attribute : (b c : Attribute) → some b ≡ some c → b ≡ c
same-attribute b c e = cc

module _ (s : Scheme) (formed : Formed s) (a : ℕ) where
  -- no two letters
  pub one_letter : (l k : Letter) → Lettered s a l → Lettered s a k → l ≡ k
  one_letter C C p q = refl
  one_letter C S p q = absurd (q.4 p)
  one_letter C K p q = absurd (q.0 p)
  one_letter S C p q = absurd (p.4 q)
  one_letter S S p q = refl
  one_letter S K p q = absurd (q.1 p)
  one_letter K C p q = absurd (p.0 q)
  one_letter K S p q = absurd (p.1 q)
  one_letter K K p q = refl

  not-below : get_elem? s.attributes a ≡ none → Below s a → ⊥
  not-below e below = let h = below.1 in let z : ◌≡◌ {A = ℕ} 0 1 = cc in omega arith

  same-below : (b : Attribute) → Has s.attributes a b → Below s a → b.symbol ≡ 0 → ⊥
  same-below b h below root = below.2 (ap (λ (c : Attribute). c.symbol) (same-attribute below.0 b (sym below.1 ∙ h)) ∙ root)

  not_stacked : (b : Attribute) → Has s.attributes a b → stacks s a b ≡ false → Stacked s a → ⊥
  not_stacked b h no_Stack st =
      true≢false (sym (subst (λ (c : Attribute). stacks s a c ≡ true) (same-attribute st.0 b (sym st.1 ∙ h)) (stacks_tested s a st.0 st.3)) ∙ no_Stack)

  not_single : decide s (eqb a) ≡ false → Single s a → ⊥
  not_single e single = true≢false (sym ((decide_exactly s (eqb a) formed).1 single.1) ∙ e)

  pub letter_is : (o : Option Attribute) → get_elem? s.attributes a ≡ o → Lettered s a (letter_at s a o)
  letter_is none e = (λ single. not-below e single.0, λ stacked. not-below e (stacked.0, stacked.1, stacked.2))
  letter_is (some b) e = go (eqb b.symbol 0) refl (decide s (eqb a)) refl (stacks s a b) refl
    where
      go : (root : Bool) → eqb b.symbol 0 ≡ root → (single : Bool) → decide s (eqb a) ≡ single → (stack : Bool) → stacks s a b ≡ stack → Lettered s a (letter_by root single stack)
      go true er single es stack et = (λ z. same-below b e z.0 (eqb-true b.symbol 0 er), λ z. same-below b e (z.0, z.1, z.2) (eqb-true b.symbol 0 er))
      go false er true es stack et = ((b, e, eqb-false b.symbol 0 er), (decide_exactly s (eqb a) formed).0 es)
      go false er false es true et = (b, e, eqb-false b.symbol 0 er, stacks_told s a b et, not_single es)
      go false er false es false et = (not_single es, not_stacked b e et)

  pub lettered : Lettered s a (letter_for s a)
  lettered = letter_is (get_elem? s.attributes a) refl

  -- exactly one letter
  pub exactly_one : (l : Letter) × Lettered s a l × ((k : Letter) → Lettered s a k → k ≡ l)
  exactly_one = (letter_for s a, lettered, λ k h. one_letter k (letter_for s a) h lettered)
