-- Types whose truncation gives the type itself, and how they are built from one another. Assumes nothing.
use Rattle.std.proofs.Common.{◌≡◌, ℕ, zero, suc, ◌<◌, ◌≤◌, Bool, T, ◌⊎◌, List, sym, refl, subst, inl, inr, arith}
use mathlib.Core.List
use mathlib.Core.Option
use mathlib.Core.Option.{Option, none, some}
use mathlib.Core.Logic.{∥∥₁_elim, ∥∥₁_map}
use mathlib.Core.HLevel.{⊥_prop, Π_prop, ×_prop, Σ_prop_path}
use native.Mathlib.Nat.{ℕ_set}
use native.Mathlib.Bridge.{le_prop}
use lib.Dec.{T_prop}
use Rattle.model.proofs.Common.ListFacts.{some_none, some_same, le_or_lt, either_way, eq_or_not}

-- what is known of A up to truncation is known
abbrev pub Stands {ℓ} : Type ℓ → Type ℓ
Stands A = ∥ A ∥₁ → A

pub prop_stands {ℓ} : {A : Type ℓ} → IsProp A → Stands A
prop_stands h t = ∥∥₁_elim t h (λ a. a)

-- A stands where B does, if each gives the other.
pub through {ℓ κ} : {A : Type ℓ} {B : Type κ} → (A → B) → (B → A) → Stands B → Stands A
through f g h t = g (h (∥∥₁_map t f))

pub both_stand {ℓ κ} : {A : Type ℓ} {B : Type κ} → Stands A → Stands B → Stands (A × B)
both_stand f g t = (f (∥∥₁_map t (λ r. r.0)), g (∥∥₁_map t (λ r. r.1)))

-- What a look-up gives is at hand, so it stands that it gives one of which P holds, where P stands.
pub found_stands {ℓ κ} : {A : Type ℓ} (P : A → Type κ) → ((x : A) → Stands (P x)) → (o : Option A) → Stands ((x : A) × (o ≡ some x) × P x)
found_stands P h none t = absurd (∥∥₁_elim t ⊥_prop (λ r. some_none r.0 r.1))
found_stands P h (some y) t = (y, refl, h y (∥∥₁_map t (λ r. subst P (sym (some_same y r.0 r.1)) r.2)))

pub place_stands {ℓ} : {A : Type ℓ} (o : Option A) → Stands ((x : A) × (o ≡ some x))
place_stands none t = absurd (∥∥₁_elim t ⊥_prop (λ r. some_none r.0 r.1))
place_stands (some y) t = (y, refl)

pub no_stands : Stands ⊥
no_stands = prop_stands ⊥_prop

pub test_stands : (b : Bool) → Stands (T b)
test_stands b = prop_stands (T_prop b)

pub le_stands : {m n : ℕ} → Stands (m ≤ n)
le_stands = prop_stands le_prop

pub number_stands : (m n : ℕ) → Stands (m ≡ n)
number_stands m n = prop_stands (ℕ_set m n)

pub numbers_stand : (xs ys : List ℕ) → Stands (xs ≡ ys)
numbers_stand xs ys = prop_stands (List.is_set ℕ_set xs ys)

pub maybe_stands : (o q : Option ℕ) → Stands (o ≡ q)
maybe_stands o q = prop_stands (Option.is_set ℕ_set o q)

-- Where a test holds at some number, there is one least such number, and it can be found.
module _ (f : ℕ → Bool) where
  abbrev Below : ℕ → Type 0
  Below n = (m : ℕ) → m < n → T (f m) → ⊥

  abbrev Least : ℕ → Type 0
  Least n = T (f n) × Below n

  least_prop : IsProp ((n : ℕ) × Least n)
  least_prop u v = Σ_prop_path (λ n. ×_prop (T_prop (f n)) (Π_prop (λ m. Π_prop (λ l. Π_prop (λ h. ⊥_prop))))) (same (le_or_lt u.0 v.0) (le_or_lt v.0 u.0))
    where
      same : (u.0 ≤ v.0) ⊎ (v.0 < u.0) → (v.0 ≤ u.0) ⊎ (u.0 < v.0) → u.0 ≡ v.0
      same (inl p) (inl q) = omega arith
      same (inl p) (inr q) = absurd (v.1.1 u.0 q u.1.0)
      same (inr p) q = absurd (u.1.1 v.0 p v.1.0)

  -- among the numbers below n there is a least one, or none
  up_to : (n : ℕ) → ((m : ℕ) × Least m) ⊎ Below n
  up_to zero = inr (λ m l h. absurd (omega arith))
  up_to (suc n) = go (up_to n) (either_way (f n))
    where
      go : ((m : ℕ) × Least m) ⊎ Below n → T (f n) ⊎ (T (f n) → ⊥) → ((m : ℕ) × Least m) ⊎ Below (suc n)
      go (inl r) q = inl r
      go (inr b) (inl h) = inl (n, (h, b))
      go (inr b) (inr h) = inr more
        where
          more : Below (suc n)
          more m l t = at (eq_or_not m n)
            where
              at : (m ≡ n) ⊎ (m ≡ n → ⊥) → ⊥
              at (inl e) = h (subst (λ (k : ℕ). T (f k)) e t)
              at (inr d) = b m (omega (arith, d)) t

  least : (n : ℕ) → T (f n) → (m : ℕ) × Least m
  least n h = go (up_to n)
    where
      go : ((m : ℕ) × Least m) ⊎ Below n → (m : ℕ) × Least m
      go (inl r) = r
      go (inr b) = (n, (h, b))

  pub some_number_stands : Stands ((n : ℕ) × T (f n))
  some_number_stands = through (λ r. least r.0 r.1) (λ r. (r.0, r.1.0)) (prop_stands least_prop)
