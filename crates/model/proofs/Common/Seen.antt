-- A list as the code holds it, and the list that it stands for: what std says of the one is what the model says of the other. Assumes nothing.
use Rattle.std.proofs.Common.{◌≡◌, ℕ, suc, ◌+◌, Bool, true, false, cond, ◌&&◌, ◌||◌, List, [], ◌∷◌, map, refl, ap, arith}
use Rattle.std.specs.List.{list_any, list_all, filter, count_by}
use Rattle.std.proofs.lemmas.List.Recursion.{is_count_by}
use Rattle.model.specs.Lists.{any, every, keep, count}

module _ {X Y : Type 0} (g : X → Y) where
  pub any-map : (f : Y → Bool) (xs : List X) → any f (map g xs) ≡ list_any (λ x. f (g x)) xs
  any-map f [] = refl
  any-map f (x ∷ xs) = ap (λ (b : Bool). f (g x) || b) (any-map f xs)

  pub every-map : (f : Y → Bool) (xs : List X) → every f (map g xs) ≡ list_all (λ x. f (g x)) xs
  every-map f [] = refl
  every-map f (x ∷ xs) = ap (λ (b : Bool). f (g x) && b) (every-map f xs)

  pub keep-map : (f : Y → Bool) (xs : List X) → keep f (map g xs) ≡ map g (filter (λ x. f (g x)) xs)
  keep-map f [] = refl
  keep-map f (x ∷ xs) = go (f (g x)) (keep-map f xs)
    where
      go : (b : Bool) → keep f (map g xs) ≡ map g (filter (λ x. f (g x)) xs) → cond b (g x ∷ keep f (map g xs)) (keep f (map g xs)) ≡ map g (cond b (x ∷ filter (λ x. f (g x)) xs) (filter (λ x. f (g x)) xs))
      go true e = ap (λ (ys : List Y). g x ∷ ys) e
      go false e = e

  pub count-map : (f : Y → Bool) (xs : List X) → count f (map g xs) ≡ count_by (λ x. f (g x)) xs
  count-map f xs = is_count_by (λ (ys : List X). count f (map g ys)) (λ x. f (g x)) refl (λ x ys. go (f (g x)) (count f (map g ys))) xs
    where
      go : (b : Bool) (n : ℕ) → cond b (suc n) n ≡ cond b (1 + n) n
      go true n = omega arith
      go false n = refl
