-- General facts about tests and lists.
use Rattle.std.proofs.Common.{◌≡◌, ℕ, zero, suc, ◌+◌, ◌<◌, ◌≤◌, Bool, true, false, cond, not, ◌||◌, T, ◌⊎◌, List, [], ◌∷◌, length, take, sym, refl, ap, subst, inl, inr, arith, T_not}
use mathlib.Core.Option.{some}
use Rattle.model.specs.Lists.{Has, any, every, count, keep, places}
use Rattle.model.specs.Spans.{first_of, last_of}
use Rattle.model.proofs.Common.ListFacts.{true_of, of_true, and_mk, any_here, count_mono as count-rises, count_less, count_less_all, has-take as in_take, take-has as from-take}
use Rattle.model.proofs.Common.Basics.{T-both}

pub T_false : (x : Bool) → T (not x) → x ≡ false
T_false true h = absurd h
T_false false h = refl

pub false-T : (x : Bool) → x ≡ false → T (not x)
false-T x e = subst (λ (b : Bool). T (not b)) (sym e) tt

pub T-either : (x : Bool) → T x ⊎ T (not x)
T-either true = inl tt
T-either false = inr tt

-- y is in the list
abbrev pub Mem : {A : Type 0} → A → List A → Type 0
Mem y [] = ⊥
Mem y (x ∷ xs) = (y ≡ x) ⊎ Mem y xs

module _ {A : Type 0} where
  pub has_mem : (xs : List A) (t : ℕ) (x : A) → Has xs t x → Mem x xs
  has_mem [] t x h = let z : ◌≡◌ {A = ℕ} 0 1 = cc in omega arith
  has_mem (y ∷ xs) zero x h = inl (cc)
  has_mem (y ∷ xs) (suc t) x h = inr (has_mem xs t x h)

  pub mem_has : (xs : List A) (x : A) → Mem x xs → (t : ℕ) × Has xs t x
  mem_has [] x m = absurd m
  mem_has (y ∷ xs) x (inl e) = (0, ap some (sym e))
  mem_has (y ∷ xs) x (inr m) = let r = mem_has xs x m in (suc r.0, r.1)

  module _ (f : A → Bool) where
    pub has-any : (xs : List A) (t : ℕ) (x : A) → Has xs t x → T (f x) → T (any f xs)
    has-any xs t x h p = any_here f xs t x h p

    pub every_mem : (xs : List A) (x : A) → T (every f xs) → Mem x xs → T (f x)
    every_mem [] x h m = absurd m
    every_mem (y ∷ xs) x h (inl e) = subst (λ (v : A). T (f v)) (sym e) (T-both (f y) (every f xs) h).0
    every_mem (y ∷ xs) x h (inr m) = every_mem xs x (T-both (f y) (every f xs) h).1 m

    -- every thing passes the test exactly where what stands at each place does
    pub every-has : (xs : List A) (i : ℕ) (x : A) → T (every f xs) → Has xs i x → T (f x)
    every-has xs i x h m = every_mem xs x h (has_mem xs i x m)

    pub has-every : (xs : List A) → ((i : ℕ) (x : A) → Has xs i x → T (f x)) → T (every f xs)
    has-every [] h = tt
    has-every (y ∷ xs) h = and_mk (f y) (every f xs) (h 0 y refl) (has-every xs (λ i x m. h (suc i) x m))

    pub keep_mem : (xs : List A) (y : A) → Mem y (keep f xs) → Mem y xs × T (f y)
    keep_mem [] y m = absurd m
    keep_mem (x ∷ xs) y m = go (f x) refl (keep_mem xs y) m
      where
        go : (b : Bool) → f x ≡ b → (Mem y (keep f xs) → Mem y xs × T (f y)) → Mem y (cond b (x ∷ keep f xs) (keep f xs)) → Mem y (x ∷ xs) × T (f y)
        go true e r (inl q) = (inl q, subst (λ (v : A). T (f v)) (sym q) (of_true (f x) e))
        go true e r (inr m) = let q = r m in (inr q.0, q.1)
        go false e r m = let q = r m in (inr q.0, q.1)

    pub mem_keep : (xs : List A) (y : A) → Mem y xs → T (f y) → Mem y (keep f xs)
    mem_keep [] y m h = m
    mem_keep (x ∷ xs) y m h = go (f x) refl (λ k. mem_keep xs y k h) m
      where
        go : (b : Bool) → f x ≡ b → (Mem y xs → Mem y (keep f xs)) → Mem y (x ∷ xs) → Mem y (cond b (x ∷ keep f xs) (keep f xs))
        go true e r (inl q) = inl q
        go true e r (inr m) = inr (r m)
        go false e r (inl q) = absurd (T_not (f x) (false-T (f x) e) (subst (λ (v : A). T (f v)) q h))
        go false e r (inr m) = r m

    pub length_keep : (xs : List A) → length (keep f xs) ≡ count f xs
    length_keep [] = refl
    length_keep (x ∷ xs) = go (f x) (length_keep xs)
      where
        go : (b : Bool) → length (keep f xs) ≡ count f xs → length (cond b (x ∷ keep f xs) (keep f xs)) ≡ cond b (suc (count f xs)) (count f xs)
        go true r = ap suc r
        go false r = r

    pub count_mono : (xs : List A) (m n : ℕ) → m ≤ n → count f (take m xs) ≤ count f (take n xs)
    count_mono xs m n h = count-rises f xs m n h

    pub count_strict : (xs : List A) (t n : ℕ) (x : A) → Has xs t x → T (f x) → t < n → count f (take t xs) < count f (take n xs)
    count_strict xs t n x h p l = count_less f xs t n x h p l

    pub count_all_strict : (xs : List A) (t : ℕ) (x : A) → Has xs t x → T (f x) → count f (take t xs) < count f xs
    count_all_strict xs t x h p = count_less_all f xs t x h p

    pub count-any : (xs : List A) → 0 < count f xs → T (any f xs)
    count-any [] h = absurd (omega arith)
    count-any (y ∷ xs) h = go (f y) refl (count-any xs) h
      where
        go : (b : Bool) → f y ≡ b → (0 < count f xs → T (any f xs)) → 0 < cond b (suc (count f xs)) (count f xs) → T (b || any f xs)
        go true e r k = tt
        go false e r k = r k

    -- a front and what comes after it
    pub has-take : (xs : List A) (n t : ℕ) (x : A) → Has xs t x → t < n → Has (take n xs) t x
    has-take xs n t x h l = in_take xs t n x h l

    pub take-has : (xs : List A) (n t : ℕ) (x : A) → Has (take n xs) t x → (t < n) × Has xs t x
    take-has xs n t x h = from-take xs t n x h

    -- places
    pub places_mem : (xs : List A) (n t : ℕ) (x : A) → Has xs t x → T (f x) → Mem (n + t) (places f n xs)
    places_mem [] n t x h k = let z : ◌≡◌ {A = ℕ} 0 1 = cc in absurd (omega arith)
    places_mem (y ∷ xs) n zero x h k = let e : f y ≡ true = true_of (f y) (let e : x ≡ y = cc in subst (λ (v : A). T (f v)) e k) in rw e (inl (omega arith))
    places_mem (y ∷ xs) n (suc t) x h k = go (f y) (let e : suc n + t ≡ n + suc t = omega arith in subst (λ (v : ℕ). Mem v (places f (suc n) xs)) e (places_mem xs (suc n) t x h k))
      where
        go : (b : Bool) → Mem (n + suc t) (places f (suc n) xs) → Mem (n + suc t) (cond b (n ∷ places f (suc n) xs) (places f (suc n) xs))
        go true m = inr m
        go false m = m

    -- the places are those at which the property holds
    pub mem_places : (xs : List A) (n i : ℕ) → Mem i (places f n xs) → (t : ℕ) × (x : A) × (i ≡ n + t) × Has xs t x × T (f x)
    mem_places [] n i m = absurd m
    mem_places (y ∷ xs) n i m = go (f y) refl (mem_places xs (suc n) i) m
      where
        go : (b : Bool) → f y ≡ b → (Mem i (places f (suc n) xs) → (t : ℕ) × (x : A) × (i ≡ suc n + t) × Has xs t x × T (f x)) → Mem i (cond b (n ∷ places f (suc n) xs) (places f (suc n) xs))
            → (t : ℕ) × (x : A) × (i ≡ n + t) × Has (y ∷ xs) t x × T (f x)
        go true e r (inl q) = (0, y, omega arith, refl, of_true (f y) e)
        go true e r (inr m) = let q = r m in (suc q.0, q.1, omega arith, q.3, q.4)
        go false e r m = let q = r m in (suc q.0, q.1, omega arith, q.3, q.4)

    pub places_none : (xs : List A) (n : ℕ) → T (not (any f xs)) → places f n xs ≡ []
    places_none [] n h = refl
    places_none (y ∷ xs) n h = go (f y) (places_none xs (suc n)) h
      where
        go : (b : Bool) → (T (not (any f xs)) → places f (suc n) xs ≡ []) → T (not (b || any f xs)) → cond b (n ∷ places f (suc n) xs) (places f (suc n) xs) ≡ []
        go true r k = absurd k
        go false r k = r k

    pub first_place : (xs : List A) (n : ℕ) → T (any f xs) → (t : ℕ) × (x : A) × (first_of (places f n xs) ≡ n + t) × Has xs t x × T (f x) × ((u : ℕ) (y : A) → Has xs u y → T (f y) → t ≤ u)
    first_place [] n h = absurd h
    first_place (y ∷ xs) n h = go (f y) refl (first_place xs (suc n)) h
      where
        go : (b : Bool) → f y ≡ b → (T (any f xs) → (t : ℕ) × (x : A) × (first_of (places f (suc n) xs) ≡ suc n + t) × Has xs t x × T (f x) × ((u : ℕ) (z : A) → Has xs u z → T (f z) → t ≤ u)) → T (b || any f xs)
            → (t : ℕ) × (x : A) × (first_of (cond b (n ∷ places f (suc n) xs) (places f (suc n) xs)) ≡ n + t) × Has (y ∷ xs) t x × T (f x) × ((u : ℕ) (z : A) → Has (y ∷ xs) u z → T (f z) → t ≤ u)
        go true e r k = (0, y, omega arith, refl, of_true (f y) e, λ u z a b. omega arith)
        go false e r k = let q = r k in (suc q.0, q.1, omega arith, q.3, q.4, least q.0 q.5 e)
          where
            least : (t : ℕ) → ((u : ℕ) (z : A) → Has xs u z → T (f z) → t ≤ u) → f y ≡ false → (u : ℕ) (z : A) → Has (y ∷ xs) u z → T (f z) → suc t ≤ u
            least t l e zero z a b = let q : z ≡ y = cc in absurd (T_not (f y) (false-T (f y) e) (subst (λ (v : A). T (f v)) q b))
            least t l e (suc u) z a b = let q = l u z a b in omega arith

    -- the last place, or d where there is none
    pub last_place : (xs : List A) (n d : ℕ) → T (any f xs) → (t : ℕ) × (x : A) × (last_of d (places f n xs) ≡ n + t) × Has xs t x × T (f x) × ((u : ℕ) (y : A) → Has xs u y → T (f y) → u ≤ t)
    last_place [] n d h = absurd h
    last_place (y ∷ xs) n d h = go (f y) refl (T-either (any f xs)) (last_place xs (suc n)) h
      where
        go : (b : Bool) → f y ≡ b → T (any f xs) ⊎ T (not (any f xs)) → ((d : ℕ) → T (any f xs) → (t : ℕ) × (x : A) × (last_of d (places f (suc n) xs) ≡ suc n + t) × Has xs t x × T (f x) × ((u : ℕ) (z : A) → Has xs u z → T (f z) → u ≤ t)) → T (b || any f xs)
            → (t : ℕ) × (x : A) × (last_of d (cond b (n ∷ places f (suc n) xs) (places f (suc n) xs)) ≡ n + t) × Has (y ∷ xs) t x × T (f x) × ((u : ℕ) (z : A) → Has (y ∷ xs) u z → T (f z) → u ≤ t)
        go true e (inl m) r k = let q = r n m in (suc q.0, q.1, omega arith, q.3, q.4, most q.0 q.5)
          where
            most : (t : ℕ) → ((u : ℕ) (z : A) → Has xs u z → T (f z) → u ≤ t) → (u : ℕ) (z : A) → Has (y ∷ xs) u z → T (f z) → u ≤ suc t
            most t l zero z a b = omega arith
            most t l (suc u) z a b = let q = l u z a b in omega arith
        go true e (inr m) r k = (0, y, rw (places_none xs (suc n) m) (omega arith), refl, of_true (f y) e, only)
          where
            only : (u : ℕ) (z : A) → Has (y ∷ xs) u z → T (f z) → u ≤ 0
            only zero z a b = omega arith
            only (suc u) z a b = absurd (T_not (any f xs) m (has-any xs u z a b))
        go false e o r k = let q = r d k in (suc q.0, q.1, omega arith, q.3, q.4, most q.0 q.5)
          where
            most : (t : ℕ) → ((u : ℕ) (z : A) → Has xs u z → T (f z) → u ≤ t) → (u : ℕ) (z : A) → Has (y ∷ xs) u z → T (f z) → u ≤ suc t
            most t l zero z a b = omega arith
            most t l (suc u) z a b = let q = l u z a b in omega arith
