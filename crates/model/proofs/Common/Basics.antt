-- Facts on lists with the things that stand in them left implicit, most of them from ListFacts. Assumes nothing.
use Rattle.std.proofs.Common.{◌≡◌, ℕ, zero, suc, ◌<◌, ◌≤◌, Bool, true, false, ◌&&◌, T, eqb, ◌⊎◌, List, [], ◌∷◌, reverse, length, take, drop, sym, refl, ap, subst, inl, inr, arith}
use mathlib.Core.List.{reverse_aux}
use mathlib.Core.Option.{Option, none, some}
use lib.Dec.{eqb_refl}
use Rattle.model.specs.Lists.{Has, any, count}
use Rattle.model.proofs.Common.ListFacts.{false_of, either_way, or_split, or_l, or_r, has-below as below, any_here}

pub some≢none {ℓ} : {A : Type ℓ} {x : A} → some x ≡ none → ⊥
some≢none {A = A} e = subst (λ (o : Option A). elim o as (λ _. Type 0) [ none ↦ ⊥ | some y ↦ Unit {0} ]) e tt

pub none≢some {ℓ} : {A : Type ℓ} {x : A} → none ≡ some x → ⊥
none≢some e = some≢none (sym e)

pub some_inj {ℓ} : {A : Type ℓ} {x y : A} → some x ≡ some y → x ≡ y
some_inj e = cc

pub true≢false : true ≡ false → ⊥
true≢false e = subst T e tt

pub T-both : (a b : Bool) → T (a && b) → T a × T b
T-both true b h = (tt, h)
T-both false b h = absurd h

pub eq→eqb : (m n : ℕ) → m ≡ n → T (eqb m n)
eq→eqb m n e = subst (λ (x : ℕ). T (eqb m x)) e (eqb_refl m)

module _ {A : Type 0} where
  pub has_one : (xs : List A) (i : ℕ) {x y : A} → Has xs i x → Has xs i y → x ≡ y
  has_one xs i p q = cc

  pub has-below : (xs : List A) (b : ℕ) {x : A} → Has xs b x → b < length xs
  has-below xs b {x} h = below xs b x h

  pub has-any : (g : A → Bool) (xs : List A) (b : ℕ) {x : A} → Has xs b x → T (g x) → T (any g xs)
  has-any g xs b {x} e h = any_here g xs b x e h

  pub any-take-suc : (g : A → Bool) (b : ℕ) (xs : List A) → T (any g (take (suc b) xs)) → T (any g (take b xs)) ⊎ ((x : A) × Has xs b x × T (g x))
  any-take-suc g zero [] h = elim h [ ]
  any-take-suc g (suc b) [] h = elim h [ ]
  any-take-suc g zero (y ∷ xs) h = go (or_split (g y) false h)
    where
      go : T (g y) ⊎ ⊥ → ⊥ ⊎ ((x : A) × Has (y ∷ xs) 0 x × T (g x))
      go (inl p) = inr (y, refl, p)
      go (inr p) = inl p
  any-take-suc g (suc b) (y ∷ xs) h = go (or_split (g y) _ h) (λ p. any-take-suc g b xs p)
    where
      go : T (g y) ⊎ T (any g (take (suc b) xs)) → (T (any g (take (suc b) xs)) → T (any g (take b xs)) ⊎ ((x : A) × Has xs b x × T (g x))) → T (any g (take (suc b) (y ∷ xs))) ⊎ ((x : A) × Has (y ∷ xs) (suc b) x × T (g x))
      go (inl p) k = inl (or_l (g y) _ p)
      go (inr p) k = go2 (k p)
        where
          go2 : T (any g (take b xs)) ⊎ ((x : A) × Has xs b x × T (g x)) → T (any g (take (suc b) (y ∷ xs))) ⊎ ((x : A) × Has (y ∷ xs) (suc b) x × T (g x))
          go2 (inl q) = inl (or_r (g y) _ q)
          go2 (inr q) = inr q

  pub any-take_mono : (g : A → Bool) (b c : ℕ) (xs : List A) → b ≤ c → T (any g (take b xs)) → T (any g (take c xs))
  any-take_mono g zero c xs l h = elim h [ ]
  any-take_mono g (suc b) c [] l h = elim h [ ]
  any-take_mono g (suc b) zero (y ∷ xs) l h = absurd (omega arith)
  any-take_mono g (suc b) (suc c) (y ∷ xs) l h = go (or_split (g y) _ h) (λ p. any-take_mono g b c xs (omega arith) p)
    where
      go : T (g y) ⊎ T (any g (take b xs)) → (T (any g (take b xs)) → T (any g (take c xs))) → T (any g (take (suc c) (y ∷ xs)))
      go (inl p) k = or_l (g y) _ p
      go (inr p) k = or_r (g y) _ (k p)

  pub any-drop_mono : (g : A → Bool) (b c : ℕ) (xs : List A) → b ≤ c → T (any g (drop c xs)) → T (any g (drop b xs))
  any-drop_mono g zero zero xs l h = h
  any-drop_mono g zero (suc c) [] l h = h
  any-drop_mono g zero (suc c) (y ∷ xs) l h = or_r (g y) _ (any-drop_mono g zero c xs (omega arith) h)
  any-drop_mono g (suc b) zero xs l h = absurd (omega arith)
  any-drop_mono g (suc b) (suc c) [] l h = h
  any-drop_mono g (suc b) (suc c) (y ∷ xs) l h = any-drop_mono g b c xs (omega arith) h

  pub any-take_one : (g : A → Bool) (xs : List A) (b : ℕ) → T (any g (take 1 (drop b xs))) → (x : A) × Has xs b x × T (g x)
  any-take_one g [] zero h = elim h [ ]
  any-take_one g [] (suc b) h = elim h [ ]
  any-take_one g (y ∷ xs) zero h = go (or_split (g y) false h)
    where
      go : T (g y) ⊎ ⊥ → (x : A) × Has (y ∷ xs) 0 x × T (g x)
      go (inl p) = (y, refl, p)
      go (inr p) = absurd p
  any-take_one g (y ∷ xs) (suc b) h = any-take_one g xs b h

  count_cons_miss : (g : A → Bool) (y : A) (xs : List A) → (T (g y) → ⊥) → count g (y ∷ xs) ≡ count g xs
  count_cons_miss g y xs h = rw (false_of (g y) h)

  last_first : (xs ys : List A) (b : ℕ) {x : A} → Has xs b x → suc b ≡ length xs → (zs : List A) × (reverse_aux xs ys ≡ x ∷ zs)
  last_first [] ys b e l = absurd (some≢none (sym e))
  last_first (y ∷ []) ys zero e l = (ys, ap (λ (z : A). z ∷ ys) (some_inj e))
  last_first (y ∷ (w ∷ xs)) ys zero e l = absurd (omega arith)
  last_first (y ∷ xs) ys (suc b) e l = last_first xs (y ∷ ys) b e (omega arith)

  -- the last one has the property
  pub last_has : (g : A → Bool) (xs : List A) (b : ℕ) {x : A} → count g (take 1 (reverse xs)) ≡ 1 → Has xs b x → suc b ≡ length xs → T (g x)
  last_has g xs b {x} c e l = go (either_way (g x))
    where
      r : (zs : List A) × (reverse xs ≡ x ∷ zs)
      r = last_first xs [] b e l

      go : T (g x) ⊎ (T (g x) → ⊥) → T (g x)
      go (inl p) = p
      go (inr p) = absurd (omega (arith, c2, count_cons_miss g x [] p))
        where
          c2 : count g (take 1 (x ∷ r.0)) ≡ 1
          c2 = subst (λ (l : List A). count g (take 1 l) ≡ 1) r.1 c

  pub take_all : (b : ℕ) (xs : List A) → length xs ≤ b → take b xs ≡ xs
  take_all zero [] l = refl
  take_all (suc b) [] l = refl
  take_all zero (y ∷ xs) l = absurd (omega arith)
  take_all (suc b) (y ∷ xs) l = ap (λ (zs : List A). y ∷ zs) (take_all b xs (omega arith))
