-- What is asked of all the spans of an attribute in a production, span by span. Assumes nothing.
use Rattle.std.proofs.Common.{◌≡◌, ℕ, suc, Bool, true, false, cond, ◌&&◌, List, [], ◌∷◌, map, refl, ap, add-one}
use Rattle.std.specs.List.{list_all, filter, enumerate_from}
use Rattle.model.specs.Lists.{every, places}
use Rattle.model.specs.Scheme.{Production}
use Rattle.model.specs.Spans as Model
use Rattle.plan.specs.Stacks.{stacked_with}
use Rattle.std.proofs.lemmas.List.Folds.{list_all-map}

-- every place that passes the test f is so
pub every_place : {X Y : Type 0} (g : X → Y) (f : Y → Bool) (h : ℕ → Bool) (n : ℕ) (xs : List X) → every h (places f n (map g xs)) ≡ list_all (λ q. h q.0) (filter (λ q. f (g q.1)) (enumerate_from n xs))
every_place g f h n [] = refl
every_place g f h n (x ∷ xs) = rw (add-one n) (go (f (g x)) (every_place g f h (suc n) xs))
  where
    go : (b : Bool) → every h (places f (suc n) (map g xs)) ≡ list_all (λ q. h q.0) (filter (λ q. f (g q.1)) (enumerate_from (suc n) xs)) → every h (cond b (n ∷ places f (suc n) (map g xs)) (places f (suc n) (map g xs))) ≡ list_all (λ q. h q.0) (cond b ((n, x) ∷ filter (λ q. f (g q.1)) (enumerate_from (suc n) xs)) (filter (λ q. f (g q.1)) (enumerate_from (suc n) xs)))
    go true e = ap (λ (b : Bool). h n && b) e
    go false e = e

all_both : {X : Type 0} (f g : X → Bool) (xs : List X) → list_all (λ x. f x && g x) xs ≡ (list_all f xs && list_all g xs)
all_both f g [] = refl
all_both f g (x ∷ xs) = go (f x) (g x) (list_all f xs) (all_both f g xs)
  where
    go : (a b c : Bool) → list_all (λ y. f y && g y) xs ≡ (c && list_all g xs) → ((a && b) && list_all (λ y. f y && g y) xs) ≡ ((a && c) && (b && list_all g xs))
    go true true c e = e
    go true false true e = refl
    go true false false e = refl
    go false b c e = refl

pub stack_up_by : {X : Type 0} (span : X → Model.Span) (p : Production) (xs : List X) → list_all (λ x. Model.in_one_section p (span x) && list_all (λ y. stacked_with p (span x) (span y)) xs) xs ≡ Model.stack_up p (map span xs)
stack_up_by span p xs = simp (all_both, list_all-map)
