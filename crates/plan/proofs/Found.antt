-- The first and the last of the places at which a test passes, as a search of the code finds them. Assumes nothing.
use Rattle.std.proofs.Common.{◌≡◌, ℕ, zero, suc, ◌+◌, ◌<◌, ◌≤◌, max, Bool, true, false, cond, List, [], ◌∷◌, map, length, get_or, Option, Some, None, sym, refl, ap, ◌∙◌, arith}
use Rattle.std.specs.Option.{unwrap_or, MatchOption}
use Rattle.model.specs.Lists.{places}
use Rattle.model.specs.Spans.{first_of, last_of}

module _ {X Y : Type 0} (g : X → Y) (f : Y → Bool) where
  none_at : (n : ℕ) (xs : List X) → ((k : ℕ) (d : X) → k < length xs → f (g (get_or xs k d)) ≡ false) → places f n (map g xs) ≡ []
  none_at n [] h = refl
  none_at n (x ∷ xs) h = rw (h 0 x (omega arith)) (none_at (suc n) xs (λ k d l. h (suc k) d (omega arith)))

  first_at : (n i : ℕ) (xs : List X) → i < length xs → ((d : X) → f (g (get_or xs i d)) ≡ true) → ((k : ℕ) (d : X) → k < i → f (g (get_or xs k d)) ≡ false) → first_of (places f n (map g xs)) ≡ n + i
  first_at n i [] l here before = absurd (omega arith)
  first_at n zero (x ∷ xs) l here before = rw (here x) (omega arith)
  first_at n (suc i) (x ∷ xs) l here before =
      rw (before 0 x (omega arith)) (first_at (suc n) i xs (omega arith) here (λ k d m. before (suc k) d (omega arith)) ∙ omega arith)

  last_at : (n o i : ℕ) (xs : List X) → i < length xs → ((d : X) → f (g (get_or xs i d)) ≡ true) → ((k : ℕ) (d : X) → i < k → k < length xs → f (g (get_or xs k d)) ≡ false) → last_of o (places f n (map g xs)) ≡ n + i
  last_at n o i [] l here past = absurd (omega arith)
  last_at n o zero (x ∷ xs) l here past = rw (here x, none_at (suc n) xs (λ k d m. past (suc k) d (omega arith) (omega arith))) (omega arith)
  last_at n o (suc i) (x ∷ xs) l here past = go (f (g x)) (λ p. last_at (suc n) p i xs (omega arith) here (λ k d b m. past (suc k) d (omega arith) (omega arith)) ∙ omega arith)
    where
      go : (b : Bool) → ((p : ℕ) → last_of p (places f (suc n) (map g xs)) ≡ n + suc i) → last_of o (cond b (n ∷ places f (suc n) (map g xs)) (places f (suc n) (map g xs))) ≡ n + suc i
      go true on = on n
      go false on = on o

  -- a search from the front that ends at r, and one from the back
  abbrev pub First : List X → Option ℕ → Type 0
  First xs r = MatchOption r ((k : ℕ) (d : X) → k < length xs → f (g (get_or xs k d)) ≡ false) (λ i. (i < length xs) × ((d : X) → f (g (get_or xs i d)) ≡ true) × ((k : ℕ) (d : X) → k < i → f (g (get_or xs k d)) ≡ false))

  abbrev pub Last : List X → Option ℕ → Type 0
  Last xs r = MatchOption r ((k : ℕ) (d : X) → k < length xs → f (g (get_or xs k d)) ≡ false) (λ i. (i < length xs) × ((d : X) → f (g (get_or xs i d)) ≡ true) × ((k : ℕ) (d : X) → i < k → k < length xs → f (g (get_or xs k d)) ≡ false))

  pub first_found : (xs : List X) (r : Option ℕ) → First xs r → (unwrap_or r 0 ≡ first_of (places f 0 (map g xs))) × (unwrap_or r 0 ≤ length xs)
  first_found xs None h = (ap first_of (sym (none_at 0 xs h)), omega arith)
  first_found xs (Some i) h = let e = first_at 0 i xs h.0 h.1 h.2 in let l = h.0 in (omega arith, omega arith)

  pub last_found : (o : ℕ) (xs : List X) (r : Option ℕ) → Last xs r → (unwrap_or r o ≡ last_of o (places f 0 (map g xs))) × (unwrap_or r o ≤ max o (length xs))
  last_found o xs None h = (ap (last_of o) (sym (none_at 0 xs h)), omega arith)
  last_found o xs (Some i) h = let e = last_at 0 o i xs h.0 h.1 h.2 in let l = h.0 in (omega arith, omega arith)
