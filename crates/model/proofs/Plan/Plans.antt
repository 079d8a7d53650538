-- Every scheme in form has exactly one plan. Assumes nothing.
use Rattle.std.proofs.Common.{◌≡◌, ℕ, zero, suc, ◌+◌, List, [], ◌∷◌, length, sym, refl, ap, ◌∙◌, subst, arith}
use Rattle.model.specs.Lists.{Has}
use Rattle.model.specs.Scheme.{Scheme}
use Rattle.model.specs.Formed.{Formed}
use Rattle.model.specs.Plan.{Letter, Lettered}
use Rattle.model.specs.Plan.{Planned}
use Rattle.model.proofs.Common.ListFacts.{some_none, some_same}
use Rattle.model.proofs.Plan.Letters.{letter_for, one_letter, lettered}

-- the letters of n attributes from number a on
abbrev plan_from : Scheme → ℕ → ℕ → List Letter
plan_from s a zero = []
plan_from s a (suc n) = letter_for s a ∷ plan_from s (suc a) n

-- the scheme's plan
abbrev pub plan_of : Scheme → List Letter
plan_of s = plan_from s 0 (length s.attributes)

plan_length : (s : Scheme) (a n : ℕ) → length (plan_from s a n) ≡ n
plan_length s a zero = refl
plan_length s a (suc n) = ap suc (plan_length s (suc a) n)

plan_has : (s : Scheme) (a n i : ℕ) (l : Letter) → Has (plan_from s a n) i l → letter_for s (a + i) ≡ l
plan_has s a zero i l h = absurd (some_none l h)
plan_has s a (suc n) zero l h = ap (letter_for s) (omega arith) ∙ some_same (letter_for s a) l h
plan_has s a (suc n) (suc i) l h = ap (letter_for s) (omega arith) ∙ plan_has s (suc a) n i l h

lists_same : (xs ys : List Letter) → length xs ≡ length ys → ((i : ℕ) (x y : Letter) → Has xs i x → Has ys i y → x ≡ y) → xs ≡ ys
lists_same [] [] e h = refl
lists_same [] (y ∷ ys) e h = absurd (omega arith)
lists_same (x ∷ xs) [] e h = absurd (omega arith)
lists_same (x ∷ xs) (y ∷ ys) e h =
    let d = h 0 x y refl refl in
    let ds = lists_same xs ys (omega arith) (λ i a b p q. h (suc i) a b p q) in
    λ i. d i ∷ ds i

module _ (s : Scheme) (formed : Formed s) where
  pub plan_fits : Planned s (plan_of s)
  plan_fits = (plan_length s 0 (length s.attributes), λ a l h. subst (λ (z : Letter). Lettered s a z) (ap (letter_for s) (omega arith) ∙ plan_has s 0 (length s.attributes) a l h) (lettered s formed a))

  pub plan_unique : (plan plan' : List Letter) → Planned s plan → Planned s plan' → plan ≡ plan'
  plan_unique plan plan' h h' = lists_same plan plan' (h.0 ∙ sym h'.0) (λ a l k p q. one_letter s formed a l k (h.1 a l p) (h'.1 a k q))
