-- Sets of one attribute, and letters given one after the other. Assumes nothing.
use Rattle.std.proofs.Common.{◌≡◌, ℕ, zero, suc, ◌+◌, ◌<◌, Bool, true, false, eqb, ◌⊎◌, List, [], ◌∷◌, ◌++◌, map, length, get_or, set, Decides, sym, refl, ap, ◌∙◌, subst, inl, inr, arith}
use mathlib.Core.Option.{some}
use lib.ListN.{get_elem?}
use Rattle.std.proofs.lemmas.List.{get_or-set_same, get_or-set_other, map_push, length-append}
use Rattle.std.proofs.lemmas.Bool.{true≢false, cases_eq, eq-eqb, ne_eqb}
use Rattle.model.specs.Lists.{Has}
use Rattle.model.specs.Scheme.{Attribute, Scheme}
use Rattle.model.specs.Loose.{Alternate}
use Rattle.model.specs.Spans.{stacks}
use Rattle.model.specs.Plan.{Letter, S, K, Lettered}
use Rattle.model.proofs.Spans.Conditions.{stacks_told, stacks_tested}
use Rattle.lives.specs.Views.{member}
use Rattle.plan.specs.Flags.{Clear}

-- A SET OF ONE

module _ (ms : List Bool) (clear : Clear ms) (a : ℕ) (l : a < length ms) where
  pub alone : member (set ms a true) ≡ eqb a
  alone = λ i k. at k i
    where
      at : (k : ℕ) → get_or (set ms a true) k false ≡ eqb a k
      at k = go (cases_eq a k)
        where
          go : (a ≡ k) ⊎ (a ≡ k → ⊥) → get_or (set ms a true) k false ≡ eqb a k
          go (inl e) = subst (λ (n : ℕ). get_or (set ms a true) n false ≡ true) e (get_or-set_same ms a true false l) ∙ sym (eq-eqb a k e)
          go (inr off) = get_or-set_other ms a k true false (λ e. off (sym e)) ∙ clear k ∙ sym (ne_eqb a k off)

-- ONE LETTER

module _ (s : Scheme) (a : ℕ) (b : Attribute) (known : get_elem? s.attributes a ≡ some b) where
  same : (c : Attribute) → Has s.attributes a c → c ≡ b
  same c h = cc

  module _ (below : b.symbol ≡ 0 → ⊥) (not_single : Alternate s (eqb a) → ⊥) where
    pub stacked_is : stacks s a b ≡ true → Lettered s a S
    stacked_is e = (b, known, below, stacks_told s a b e, λ single. not_single single.1)

    pub kept_is : stacks s a b ≡ false → Lettered s a K
    kept_is e = (
      λ single. not_single single.1,
      λ stacked. true≢false (sym (subst (λ (c : Attribute). stacks s a c ≡ true) (same stacked.0 stacked.1) (stacks_tested s a stacked.0 stacked.3)) ∙ e),
    )

pub decided_not : {P : Type 0} (r : Bool) → Decides r P → r ≡ false → P → ⊥
decided_not r d e p = true≢false (sym (d.1 p) ∙ e)

-- ALL LETTERS

last_or_before : {X : Type 0} (xs : List X) (x : X) (k : ℕ) (y : X) → Has (xs ++ x ∷ []) k y → Has xs k y ⊎ ((k ≡ length xs) × (x ≡ y))
last_or_before [] x zero y h = inr (refl, cc)
last_or_before [] x (suc k) y h = absurd (let z : ◌≡◌ {A = ℕ} 0 1 = cc in omega arith)
last_or_before (w ∷ xs) x zero y h = inl h
last_or_before (w ∷ xs) x (suc k) y h = go (last_or_before xs x k y h)
  where
    go : Has xs k y ⊎ ((k ≡ length xs) × (x ≡ y)) → Has (w ∷ xs) (suc k) y ⊎ ((suc k ≡ length (w ∷ xs)) × (x ≡ y))
    go (inl e) = inl e
    go (inr e) = inr (ap suc e.0, e.1)

-- the letters of the first n attributes
abbrev pub Lettering : Scheme → ℕ → List Letter → Type 0
Lettering s n ls = (length ls ≡ n) × ((a : ℕ) (l : Letter) → Has ls a l → Lettered s a l)

-- of rows that hold letters, with one row more
module _ {X : Type 0} (f : X → Letter) (s : Scheme) (n : ℕ) (xs ys : List X) (x : X) (e : ys ≡ xs ++ x ∷ []) (here : Lettered s n (f x)) where
  pub lettering_more : Lettering s n (map f xs) → Lettering s (n + 1) (map f ys)
  lettering_more h = subst (λ (ls : List Letter). Lettering s (n + 1) ls) (sym (ap (map f) e ∙ map_push f xs x)) (length-append (map f xs) (f x ∷ []) ∙ ap (λ (m : ℕ). m + 1) h.0, each)
    where
      each : (a : ℕ) (k : Letter) → Has (map f xs ++ f x ∷ []) a k → Lettered s a k
      each a k g = go (last_or_before (map f xs) (f x) a k g)
        where
          go : Has (map f xs) a k ⊎ ((a ≡ length (map f xs)) × (f x ≡ k)) → Lettered s a k
          go (inl i) = h.1 a k i
          go (inr i) = subst (λ (j : Letter). Lettered s a j) i.1 (subst (λ (m : ℕ). Lettered s m (f x)) (sym (i.0 ∙ h.0)) here)
