-- That a symbol derives a finite tree, and that symbol 0 reaches it: both are tests of some depth, and so they stand. Assumes nothing.
use Rattle.std.proofs.Common.{ℕ, zero, suc, ◌+◌, ◌≤◌, Bool, false, ◌&&◌, ◌||◌, T, eqb, ◌⊎◌, List, [], ◌∷◌, sym, refl, subst, inl, inr, arith, eqb→eq}
use lib.Dec.{eqb_refl}
use Rattle.model.specs.Lists.{Has, any, every}
use Rattle.model.specs.Scheme.{Production, Scheme}
use Rattle.model.specs.Lawful.{Finite, by, Reached, root, under}
use Rattle.model.proofs.Common.ListFacts.{some_none, some_same, and_mk, and_l, and_r, or_l, or_split, any_find, any_here}
use Rattle.model.proofs.Stands.General.{Stands, through, some_number_stands}

module _ {A : Type 0} (f : A → Bool) where
  every-has : (xs : List A) (i : ℕ) (x : A) → T (every f xs) → Has xs i x → T (f x)
  every-has [] i x t h = absurd (some_none x h)
  every-has (y ∷ ys) zero x t h = subst (λ (z : A). T (f z)) (some_same y x h) (and_l (f y) (every f ys) t)
  every-has (y ∷ ys) (suc i) x t h = every-has ys i x (and_r (f y) (every f ys) t) h

  every_mk : (xs : List A) → ((i : ℕ) (x : A) → Has xs i x → T (f x)) → T (every f xs)
  every_mk [] h = tt
  every_mk (y ∷ ys) h = and_mk (f y) (every f ys) (h 0 y refl) (every_mk ys (λ i x e. h (suc i) x e))

module _ (s : Scheme) where
  -- x derives a tree at most n productions high
  abbrev low : ℕ → ℕ → Bool
  low zero x = false
  low (suc n) x = any (λ p. eqb p.left x && every (low n) p.children) s.productions

  -- p is one of x, and each of its children derives a tree at most n high
  abbrev top : ℕ → ℕ → Production → Bool
  top n x p = eqb p.left x && every (low n) p.children

  low_sound : (n x : ℕ) → T (low n x) → Finite s x
  low_sound zero x t = absurd t
  low_sound (suc n) x t = at (any_find (top n x) s.productions t) (λ y h. low_sound n y h)
    where
      at : (a : ℕ) × (p : Production) × Has s.productions a p × T (top n x p) → ((y : ℕ) → T (low n y) → Finite s y) → Finite s x
      at r ih =
          let p = r.1 in
          let e = eqb→eq p.left x (and_l (eqb p.left x) _ r.3) in
          let all = and_r (eqb p.left x) (every (low n) p.children) r.3 in
          subst (λ (y : ℕ). Finite s y) e (by r.0 p r.2 (λ k y h. ih y (every-has (low n) p.children k y all h)))

  low_more : (n m x : ℕ) → n ≤ m → T (low n x) → T (low m x)
  low_more zero m x l t = absurd t
  low_more (suc n) zero x l t = absurd (omega arith)
  low_more (suc n) (suc m) x l t = at (any_find (top n x) s.productions t) (λ y h. low_more n m y (omega arith) h)
    where
      at : (a : ℕ) × (p : Production) × Has s.productions a p × T (top n x p) → ((y : ℕ) → T (low n y) → T (low m y)) → T (low (suc m) x)
      at r ih =
          let p = r.1 in
          let here = and_l (eqb p.left x) (every (low n) p.children) r.3 in
          let all = and_r (eqb p.left x) (every (low n) p.children) r.3 in
          let more = every_mk (low m) p.children (λ k y h. ih y (every-has (low n) p.children k y all h)) in
          any_here (top m x) s.productions r.0 p r.2 (and_mk (eqb p.left x) (every (low m) p.children) here more)

  -- one depth for all the symbols of a list
  together : (xs : List ℕ) → ((k x : ℕ) → Has xs k x → (n : ℕ) × T (low n x)) → (n : ℕ) × T (every (low n) xs)
  together [] h = (0, tt)
  together (y ∷ ys) h = at (h 0 y refl) (together ys (λ k x e. h (suc k) x e))
    where
      at : (n : ℕ) × T (low n y) → (n : ℕ) × T (every (low n) ys) → (n : ℕ) × T (every (low n) (y ∷ ys))
      at r q =
          let n = r.0 + q.0 in
          let first-low = low_more r.0 n y (omega arith) r.1 in
          let rest-low = every_mk (low n) ys (λ i x e. low_more q.0 n x (omega arith) (every-has (low q.0) ys i x q.1 e)) in
          (n, and_mk (low n y) (every (low n) ys) first-low rest-low)

  low_complete : {x : ℕ} → Finite s x → (n : ℕ) × T (low n x)
  low_complete (by n p h g) = at (together p.children (λ k x e. low_complete (g k x e)))
    where
      at : (m : ℕ) × T (every (low m) p.children) → (m : ℕ) × T (low m p.left)
      at r = (suc r.0, any_here (top r.0 p.left) s.productions n p h (and_mk (eqb p.left p.left) (every (low r.0) p.children) (eqb_refl p.left) r.1))

  pub finite_stands : (x : ℕ) → Stands (Finite s x)
  finite_stands x = through low_complete (λ r. low_sound r.0 x r.1) (some_number_stands (λ n. low n x))

  -- symbol 0 reaches x in at most n steps
  abbrev near : ℕ → ℕ → Bool
  near zero x = eqb x 0
  near (suc n) x = any (λ p. near n p.left && any (eqb x) p.children) s.productions || near n x

  -- p is reached, and x is one of its children
  abbrev over : ℕ → ℕ → Production → Bool
  over n x p = near n p.left && any (eqb x) p.children

  near_sound : (n x : ℕ) → T (near n x) → Reached s x
  near_sound zero x t = subst (λ (y : ℕ). Reached s y) (sym (eqb→eq x 0 t)) root
  near_sound (suc n) x t = at (or_split (any (over n x) s.productions) (near n x) t) (λ y h. near_sound n y h)
    where
      at : T (any (over n x) s.productions) ⊎ T (near n x) → ((y : ℕ) → T (near n y) → Reached s y) → Reached s x
      at (inl h) ih =
          let r = any_find (over n x) s.productions h in
          let p = r.1 in
          let q = any_find (eqb x) p.children (and_r (near n p.left) (any (eqb x) p.children) r.3) in
          let e = eqb→eq x q.1 q.3 in
          let l = ih p.left (and_l (near n p.left) (any (eqb x) p.children) r.3) in
          subst (λ (y : ℕ). Reached s y) (sym e) (under r.0 q.0 q.1 p r.2 l q.2)
      at (inr h) ih = ih x h

  near_complete : {x : ℕ} → Reached s x → (n : ℕ) × T (near n x)
  near_complete root = (0, tt)
  near_complete (under n k x p h r g) = at (near_complete r)
    where
      at : (m : ℕ) × T (near m p.left) → (m : ℕ) × T (near m x)
      at q =
          let child = any_here (eqb x) p.children k x g (eqb_refl x) in
          let here = and_mk (near q.0 p.left) (any (eqb x) p.children) q.1 child in
          (suc q.0, or_l (any (over q.0 x) s.productions) (near q.0 x) (any_here (over q.0 x) s.productions n p h here))

  pub reached_stands : (x : ℕ) → Stands (Reached s x)
  reached_stands x = through near_complete (λ r. near_sound r.0 x r.1) (some_number_stands (λ n. near n x))
