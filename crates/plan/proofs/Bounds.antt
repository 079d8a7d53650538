-- The first and the last section of an attribute, as folds of the code find them. Assumes nothing.
use Rattle.std.proofs.Common.{◌≡◌, ℕ, zero, suc, ◌<◌, ◌≤◌, min, max, Bool, true, false, cond, eqb, List, [], ◌∷◌, map, length, get_or, take, vec_items, refl, ap, ◌∙◌, add-one, arith}
use Rattle.std.specs.List.{fold, filter, enumerate_from}
use Rattle.std.proofs.lemmas.List.{length-map}
use Rattle.model.specs.Formed.{Limited}
use Rattle.model.specs.Lists.{count, places}
use Rattle.model.specs.Scheme as Model
use Rattle.model.specs.Sequences.{is_leave, section, uses, defines}
use Rattle.model.specs.Spans.{own, latest, earliest, last_section, first_section}
use Rattle.grammar.specs.Views.{production_of, step_of}
use Rattle.grammar.specs.declared.parts.Production.{Production}
use Rattle.grammar.specs.declared.parts.Step.{Step}
use Rattle.plan.specs.SectionBounds.{bound_in, bound_of}
use Rattle.plan.proofs.Limits.{few_steps-all}

-- a number carried along the places that pass: F makes one step at each
module _ {X Y : Type 0} (g : X → Y) (f : Y → Bool) (F : ℕ → List ℕ → ℕ) (step : ℕ → ℕ → ℕ) (none : (n : ℕ) → F n [] ≡ n) (law : (n t : ℕ) (ts : List ℕ) → F n (t ∷ ts) ≡ F (step n t) ts) where
  carried : (n k : ℕ) (xs : List X) → fold (λ m q. step m q.0) n (filter (λ q. f (g q.1)) (enumerate_from k xs)) ≡ F n (places f k (map g xs))
  carried n k [] = rw none
  carried n k (x ∷ xs) = rw (add-one k) (go (f (g x)) (λ m. carried m (suc k) xs))
    where
      go : (b : Bool) → ((m : ℕ) → fold (λ m q. step m q.0) m (filter (λ q. f (g q.1)) (enumerate_from (suc k) xs)) ≡ F m (places f (suc k) (map g xs))) → fold (λ m q. step m q.0) n (cond b ((k, x) ∷ filter (λ q. f (g q.1)) (enumerate_from (suc k) xs)) (filter (λ q. f (g q.1)) (enumerate_from (suc k) xs))) ≡ F n (cond b (k ∷ places f (suc k) (map g xs)) (places f (suc k) (map g xs)))
      go true e = rw law (e (step n k))
      go false e = e n

-- the same over the productions of symbol x
module _ (x : ℕ) (here : ℕ → Production → ℕ) (there : ℕ → Model.Production → ℕ) (same : (n : ℕ) (p : Production) → here n p ≡ there n (production_of p)) (G : ℕ → List Model.Production → ℕ) (none : (n : ℕ) → G n [] ≡ n) (law : (n : ℕ) (p : Model.Production) (ps : List Model.Production) → G n (p ∷ ps) ≡ G (cond (eqb p.left x) (there n p) n) ps) where
  over : (n : ℕ) (ps : List Production) → fold here n (filter (λ p. eqb p.left x) ps) ≡ G n (map production_of ps)
  over n [] = rw none
  over n (p ∷ ps) = rw law (go (eqb p.left x) (λ m. over m ps))
    where
      go : (b : Bool) → ((m : ℕ) → fold here m (filter (λ p. eqb p.left x) ps) ≡ G m (map production_of ps)) → fold here n (cond b (p ∷ filter (λ p. eqb p.left x) ps) (filter (λ p. eqb p.left x) ps)) ≡ G (cond b (there n (production_of p)) n) (map production_of ps)
      go true e = e (here n p) ∙ ap (λ (m : ℕ). G m (map production_of ps)) (same n p)
      go false e = e n

last_is : (x a n : ℕ) (ps : List Production) → bound_of max (λ p st. uses (production_of p) (step_of st) (own a)) x n ps ≡ last_section x a n (map production_of ps)
last_is x a n ps =
    over x (bound_in max (λ p st. uses (production_of p) (step_of st) (own a))) (λ m p. latest p m (places (λ st. uses p st (own a)) 0 p.steps))
    (λ m p. carried step_of (λ st. uses (production_of p) st (own a)) (latest (production_of p)) (λ k t. max k (section (production_of p) t)) (λ k. refl) (λ k t ts. refl) m 0 (vec_items p.steps))
    (last_section x a) (λ m. refl) (λ m p qs. refl) n ps

first_is : (x a n : ℕ) (ps : List Production) → bound_of min (λ p st. defines (production_of p) (step_of st) (own a)) x n ps ≡ first_section x a n (map production_of ps)
first_is x a n ps =
    over x (bound_in min (λ p st. defines (production_of p) (step_of st) (own a))) (λ m p. earliest p m (places (λ st. defines p st (own a)) 0 p.steps))
    (λ m p. carried step_of (λ st. defines (production_of p) st (own a)) (earliest (production_of p)) (λ k t. min k (section (production_of p) t)) (λ k. refl) (λ k t ts. refl) m 0 (vec_items p.steps))
    (first_section x a) (λ m. refl) (λ m p qs. refl) n ps

-- no more pass the test than there are
count_most : {X : Type 0} (f : X → Bool) (n : ℕ) (xs : List X) → count f (take n xs) ≤ length xs
count_most f zero xs = omega arith
count_most f (suc n) [] = omega arith
count_most f (suc n) (x ∷ xs) = go (f x) (count_most f n xs)
  where
    go : (b : Bool) → count f (take n xs) ≤ length xs → cond b (suc (count f (take n xs))) (count f (take n xs)) ≤ suc (length xs)
    go true l = omega arith
    go false l = omega arith

-- such a number stays within the greatest number of a byte, if it starts there and no production has more steps
module _ (pick : ℕ → ℕ → ℕ) (small : (m n : ℕ) → m ≤ 255 → n ≤ 255 → pick m n ≤ 255) (f : Production → Step → Bool) where
  fold_within : {X : Type 0} (step : ℕ → X → ℕ) (test : X → Bool) (xs : List X) → ((k : ℕ) (d : X) (m : ℕ) → k < length xs → m ≤ 255 → step m (get_or xs k d) ≤ 255) → (n : ℕ) → n ≤ 255 → fold step n (filter test xs) ≤ 255
  fold_within step test [] h n l = l
  fold_within {X} step test (x ∷ xs) h n l = go (test x) (λ m e. fold_within step test xs (λ k d i b. h (suc k) d i (omega arith)) m e)
    where
      go : (b : Bool) → ((m : ℕ) → m ≤ 255 → fold step m (filter test xs) ≤ 255) → fold step n (cond b (x ∷ filter test xs) (filter test xs)) ≤ 255
      go true e = e (step n x) (h 0 x n (omega arith) l)
      go false e = e n l

  within_in : (p : Production) → length (vec_items p.steps) ≤ 64 → (n : ℕ) → n ≤ 255 → bound_in pick f n p ≤ 255
  within_in p few n l =
      fold_within (λ m q. pick m (section (production_of p) q.0)) (λ q. f p q.1) (enumerate_from 0 (vec_items p.steps)) (λ k d m b e. small m _ e (omega (arith, count_most is_leave (get_or (enumerate_from 0 (vec_items p.steps)) k d).0 (map step_of (vec_items p.steps)), length-map (vec_items p.steps) step_of))) n l

  within : (x n : ℕ) (ps : List Production) → ((k : ℕ) (d : Production) → k < length ps → length (vec_items (get_or ps k d).steps) ≤ 64) → n ≤ 255 → bound_of pick f x n ps ≤ 255
  within x n ps few l = fold_within (bound_in pick f) (λ p. eqb p.left x) ps (λ k d m b e. within_in (get_or ps k d) (few k d b) m e) n l

-- what the code finds in a scheme's productions
abbrev pub reads : ℕ → Production → Step → Bool
reads a p st = uses (production_of p) (step_of st) (own a)

abbrev pub gives : ℕ → Production → Step → Bool
gives a p st = defines (production_of p) (step_of st) (own a)

module _ (s : Model.Scheme) (ps : List Production) (is : map production_of ps ≡ s.productions) (limited : Limited s) (x a n m r : ℕ) (e : n ≡ m) (l : n ≤ 255) where
  pub last_found : r ≡ bound_of max (reads a) x n ps → (r ≤ 255) × (r ≡ last_section x a m s.productions)
  last_found h =
      let low = within max (λ j k i d. omega arith) (reads a) x n ps (few_steps-all s ps is limited) l in
      (omega arith, h ∙ last_is x a n ps ∙ ap (λ (k : ℕ). last_section x a k (map production_of ps)) e ∙ ap (last_section x a m) is)

  pub first_found : r ≡ bound_of min (gives a) x n ps → (r ≤ 255) × (r ≡ first_section x a m s.productions)
  first_found h =
      let low = within min (λ j k i d. omega arith) (gives a) x n ps (few_steps-all s ps is limited) l in
      (omega arith, h ∙ first_is x a n ps ∙ ap (λ (k : ℕ). first_section x a k (map production_of ps)) e ∙ ap (first_section x a m) is)
