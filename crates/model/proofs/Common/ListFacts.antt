-- Facts on tests, counts, and what stands at a place of a list. Assumes nothing.
use Rattle.std.proofs.Common.{◌≡◌, ℕ, zero, suc, ◌+◌, ◌-◌, ◌<◌, ◌≤◌, Bool, true, false, cond, ◌&&◌, ◌||◌, T, ◌⊎◌, List, [], ◌∷◌, ◌++◌, reverse, length, take, drop, sym, refl, ◌∙◌, subst, inl, inr, zero-le, le_of_suc-le-suc, not-suc-le-zero, add-zero, add-suc, suc-add, zero-add, arith}
use mathlib.Core.List.{reverse_aux}
use mathlib.Core.Option.{none, some}
use lib.ListN.{get_elem?}
use Rattle.model.specs.Lists.{Has, any, count, places}

-- tests

pub true_of : (b : Bool) → T b → b ≡ true
true_of true t = refl
true_of false t = absurd t

pub of_true : (b : Bool) → b ≡ true → T b
of_true true e = tt
of_true false e = let z : ◌≡◌ {A = ℕ} 0 1 = cc in absurd (omega arith)

pub false_of : (b : Bool) → (T b → ⊥) → b ≡ false
false_of true t = absurd (t tt)
false_of false t = refl

pub of_false : (b : Bool) → b ≡ false → T b → ⊥
of_false true e t = let z : ◌≡◌ {A = ℕ} 0 1 = cc in omega arith
of_false false e t = t

pub either_way : (b : Bool) → T b ⊎ (T b → ⊥)
either_way true = inl tt
either_way false = inr (λ x. x)

pub or_l : (a b : Bool) → T a → T (a || b)
or_l true b t = tt
or_l false b t = absurd t

pub or_r : (a b : Bool) → T b → T (a || b)
or_r true b t = tt
or_r false b t = t

pub or_split : (a b : Bool) → T (a || b) → T a ⊎ T b
or_split true b t = inl tt
or_split false b t = inr t

pub and_mk : (a b : Bool) → T a → T b → T (a && b)
and_mk true b t u = u
and_mk false b t u = absurd t

pub and_l : (a b : Bool) → T (a && b) → T a
and_l true b t = tt
and_l false b t = absurd t

pub and_r : (a b : Bool) → T (a && b) → T b
and_r true b t = t
and_r false b t = absurd t

pub some_none {ℓ} : {A : Type ℓ} (x : A) → none ≡ some x → ⊥
some_none x h = let z : ◌≡◌ {A = ℕ} 0 1 = cc in omega arith

pub some_same {ℓ} : {A : Type ℓ} (x y : A) → some x ≡ some y → x ≡ y
some_same x y h = cc

cond_suc : (b : Bool) (n : ℕ) → cond b (suc (suc n)) (suc n) ≡ suc (cond b (suc n) n)
cond_suc true n = refl
cond_suc false n = refl

cond_le : (b : Bool) (m n : ℕ) → m ≤ n → cond b (suc m) m ≤ cond b (suc n) n
cond_le true m n h = omega arith
cond_le false m n h = h

pub le_or_lt : (m n : ℕ) → (m ≤ n) ⊎ (n < m)
le_or_lt zero n = inl zero-le
le_or_lt (suc m) zero = inr (omega arith)
le_or_lt (suc m) (suc n) = elim (le_or_lt m n) [ inl h ↦ inl (omega arith) | inr h ↦ inr (omega arith) ]

pub eq_or_not : (m n : ℕ) → (m ≡ n) ⊎ (m ≡ n → ⊥)
eq_or_not zero zero = inl refl
eq_or_not zero (suc n) = inr (omega arith)
eq_or_not (suc m) zero = inr (omega arith)
eq_or_not (suc m) (suc n) = elim (eq_or_not m n) [ inl h ↦ inl (omega arith) | inr h ↦ inr (λ e. h (omega arith)) ]

module _ {ℓ} {A : Type ℓ} where
  pub has-below : (xs : List A) (i : ℕ) (x : A) → Has xs i x → i < length xs
  has-below [] i x h = absurd (some_none x h)
  has-below (y ∷ ys) zero x h = omega arith
  has-below (y ∷ ys) (suc i) x h = let r = has-below ys i x h in omega arith

  pub has_at : (xs : List A) (i : ℕ) → i < length xs → (x : A) × Has xs i x
  has_at [] i h = absurd (not-suc-le-zero h)
  has_at (y ∷ ys) zero h = (y, refl)
  has_at (y ∷ ys) (suc i) h = has_at ys i (le_of_suc-le-suc h)

  pub has_one : (xs : List A) (i : ℕ) (x y : A) → Has xs i x → Has xs i y → x ≡ y
  has_one xs i x y h k = cc

  pub count_next : (f : A → Bool) (xs : List A) (b : ℕ) (x : A) → Has xs b x → T (f x) → count f (take (suc b) xs) ≡ suc (count f (take b xs))
  count_next f [] b x h t = absurd (some_none x h)
  count_next f (y ∷ ys) zero x h t = let e : f y ≡ true = subst (λ z. f z ≡ true) (sym (some_same y x h)) (true_of (f x) t) in rw e refl
  count_next f (y ∷ ys) (suc b) x h t = rw (count_next f ys b x h t) (cond_suc (f y) (count f (take b ys)))

  pub count_skip : (f : A → Bool) (xs : List A) (b : ℕ) (x : A) → Has xs b x → (T (f x) → ⊥) → count f (take (suc b) xs) ≡ count f (take b xs)
  count_skip f [] b x h t = absurd (some_none x h)
  count_skip f (y ∷ ys) zero x h t = let e : f y ≡ false = subst (λ z. f z ≡ false) (sym (some_same y x h)) (false_of (f x) t) in rw e refl
  count_skip f (y ∷ ys) (suc b) x h t = rw (count_skip f ys b x h t) refl

  pub count_mono : (f : A → Bool) (xs : List A) (a b : ℕ) → a ≤ b → count f (take a xs) ≤ count f (take b xs)
  count_mono f xs zero b h = zero-le
  count_mono f xs (suc a) zero h = absurd (not-suc-le-zero h)
  count_mono f [] (suc a) (suc b) h = zero-le
  count_mono f (y ∷ ys) (suc a) (suc b) h = cond_le (f y) (count f (take a ys)) (count f (take b ys)) (count_mono f ys a b (le_of_suc-le-suc h))

  pub count_all : (f : A → Bool) (xs : List A) (b : ℕ) → length xs ≤ b → count f (take b xs) ≡ count f xs
  count_all f [] zero h = refl
  count_all f [] (suc b) h = refl
  count_all f (y ∷ ys) zero h = absurd (not-suc-le-zero h)
  count_all f (y ∷ ys) (suc b) h = rw (count_all f ys b (le_of_suc-le-suc h)) refl

  pub count_part : (f : A → Bool) (xs : List A) (b : ℕ) → count f (take b xs) ≤ count f xs
  count_part f xs zero = zero-le
  count_part f [] (suc b) = zero-le
  count_part f (y ∷ ys) (suc b) = cond_le (f y) (count f (take b ys)) (count f ys) (count_part f ys b)

  -- a place where f holds, before b
  pub count_less : (f : A → Bool) (xs : List A) (a b : ℕ) (x : A) → Has xs a x → T (f x) → a < b → count f (take a xs) < count f (take b xs)
  count_less f xs a b x h t l = let e = count_next f xs a x h t in let m = count_mono f xs (suc a) b l in omega arith

  pub count_less_all : (f : A → Bool) (xs : List A) (a : ℕ) (x : A) → Has xs a x → T (f x) → count f (take a xs) < count f xs
  count_less_all f xs a x h t = let e = count_next f xs a x h t in let m = count_part f xs (suc a) in omega arith

  pub count_like : (f g : A → Bool) (xs : List A) → ((x : A) → f x ≡ g x) → count f xs ≡ count g xs
  count_like f g [] e = refl
  count_like f g (y ∷ ys) e = rw (e y, count_like f g ys e) refl

module _ {A : Type 0} where
  -- what a test finds
  pub any_find : (f : A → Bool) (xs : List A) → T (any f xs) → (a : ℕ) × (x : A) × Has xs a x × T (f x)
  any_find f [] t = absurd t
  any_find f (y ∷ ys) t = elim (or_split (f y) (any f ys) t) [ inl h ↦ (0, y, refl, h) | inr h ↦ more (any_find f ys h) ]
    where
      more : (a : ℕ) × (x : A) × Has ys a x × T (f x) → (a : ℕ) × (x : A) × Has (y ∷ ys) a x × T (f x)
      more r = (suc r.0, r.1, r.2, r.3)

  pub any_here : (f : A → Bool) (xs : List A) (a : ℕ) (x : A) → Has xs a x → T (f x) → T (any f xs)
  any_here f [] a x h t = absurd (some_none x h)
  any_here f (y ∷ ys) zero x h t = or_l (f y) (any f ys) (subst (λ z. T (f z)) (sym (some_same y x h)) t)
  any_here f (y ∷ ys) (suc a) x h t = or_r (f y) (any f ys) (any_here f ys a x h t)

module _ {ℓ} {A : Type ℓ} where
  pub has-take : (xs : List A) (a b : ℕ) (x : A) → Has xs a x → a < b → Has (take b xs) a x
  has-take xs a zero x h l = absurd (not-suc-le-zero l)
  has-take [] a (suc b) x h l = h
  has-take (y ∷ ys) zero (suc b) x h l = h
  has-take (y ∷ ys) (suc a) (suc b) x h l = has-take ys a b x h (le_of_suc-le-suc l)

  pub take-has : (xs : List A) (a b : ℕ) (x : A) → Has (take b xs) a x → (a < b) × Has xs a x
  take-has xs a zero x h = absurd (some_none x h)
  take-has [] a (suc b) x h = absurd (some_none x h)
  take-has (y ∷ ys) zero (suc b) x h = (omega arith, h)
  take-has (y ∷ ys) (suc a) (suc b) x h = let r = take-has ys a b x h in (omega arith, r.1)

  pub has-drop : (xs : List A) (a b : ℕ) (x : A) → Has xs (b + a) x → Has (drop b xs) a x
  has-drop xs a zero x h = rw (zero-add a) at h
  has-drop [] a (suc b) x h = h
  has-drop (y ∷ ys) a (suc b) x h = has-drop ys a b x (subst (λ i. Has (y ∷ ys) i x) (suc-add b a) h)

  pub drop-has : (xs : List A) (a b : ℕ) (x : A) → Has (drop b xs) a x → Has xs (b + a) x
  drop-has xs a zero x h = rw (zero-add a) h
  drop-has [] a (suc b) x h = h
  drop-has (y ∷ ys) a (suc b) x h = subst (λ i. Has (y ∷ ys) i x) (sym (suc-add b a)) (drop-has ys a b x h)

module _ {A : Type 0} where
  -- a test over the first b, and over the rest
  pub any-before : (f : A → Bool) (xs : List A) (a b : ℕ) (x : A) → Has xs a x → a < b → T (f x) → T (any f (take b xs))
  any-before f xs a b x h l t = any_here f (take b xs) a x (has-take xs a b x h l) t

  pub before-any : (f : A → Bool) (xs : List A) (b : ℕ) → T (any f (take b xs)) → (a : ℕ) × (x : A) × (a < b) × Has xs a x × T (f x)
  before-any f xs b t =
      let r = any_find f (take b xs) t in
      let q = take-has xs r.0 b r.1 r.2 in
      (r.0, r.1, q.0, q.1, r.3)

  pub any-after : (f : A → Bool) (xs : List A) (a b : ℕ) (x : A) → Has xs a x → b ≤ a → T (f x) → T (any f (drop b xs))
  any-after f xs a b x h l t = go a b l h
    where
      go : (a b : ℕ) → b ≤ a → Has xs a x → T (any f (drop b xs))
      go a b l h = any_here f (drop b xs) (a - b) x (has-drop xs (a - b) b x (subst (λ i. Has xs i x) (omega arith) h)) t

  pub after_any : (f : A → Bool) (xs : List A) (b : ℕ) → T (any f (drop b xs)) → (a : ℕ) × (x : A) × (b ≤ a) × Has xs a x × T (f x)
  after_any f xs b t =
      let r = any_find f (drop b xs) t in
      (b + r.0, r.1, omega arith, drop-has xs r.0 b r.1 r.2, r.3)

module _ {ℓ} {A : Type ℓ} where
  -- f holds once
  pub once_find : (f : A → Bool) (xs : List A) → count f xs ≡ 1 → (a : ℕ) × (x : A) × Has xs a x × T (f x)
  once_find f [] e = absurd (omega arith)
  once_find f (y ∷ ys) e = elim (either_way (f y)) [ inl h ↦ (0, y, refl, h) | inr h ↦ more (once_find f ys (rest (false_of (f y) h))) ]
    where
      rest : (f y ≡ false) → count f ys ≡ 1
      rest d = rw d at e

      more : (a : ℕ) × (x : A) × Has ys a x × T (f x) → (a : ℕ) × (x : A) × Has (y ∷ ys) a x × T (f x)
      more r = (suc r.0, r.1, r.2, r.3)

  pub once_not-before : (f : A → Bool) (xs : List A) → count f xs ≡ 1 → (a b : ℕ) (x y : A) → Has xs a x → T (f x) → Has xs b y → T (f y) → a < b → ⊥
  once_not-before f xs e a b x y h t k u l =
      let p = count_less f xs a b x h t l in
      let q = count_less_all f xs b y k u in
      omega arith

  pub once_alone : (f : A → Bool) (xs : List A) → count f xs ≡ 1 → (a b : ℕ) (x y : A) → Has xs a x → T (f x) → Has xs b y → T (f y) → a ≡ b
  once_alone f xs e a b x y h t k u = go (le_or_lt a b) (le_or_lt b a)
    where
      go : (a ≤ b) ⊎ (b < a) → (b ≤ a) ⊎ (a < b) → a ≡ b
      go (inl p) (inl q) = omega arith
      go (inl p) (inr q) = absurd (once_not-before f xs e a b x y h t k u q)
      go (inr p) (inl q) = absurd (once_not-before f xs e b a y x k u h t p)
      go (inr p) (inr q) = omega arith

  -- the last of a list
  reverse_head : (xs : List A) (y : A) (r : List A) → get_elem? (reverse_aux xs (y ∷ r)) 0 ≡ get_elem? (y ∷ xs) (length xs)
  reverse_head [] y r = refl
  reverse_head (x ∷ xs) y r = reverse_head xs x (y ∷ r)

  pub reverse_last : (y : A) (xs : List A) → get_elem? (reverse (y ∷ xs)) 0 ≡ get_elem? (y ∷ xs) (length xs)
  reverse_last y xs = reverse_head xs y []

  count_first : (f : A → Bool) (xs : List A) → count f (take 1 xs) ≡ 1 → (x : A) × Has xs 0 x × T (f x)
  count_first f [] e = absurd (omega arith)
  count_first f (y ∷ ys) e = (y, refl, go (either_way (f y)))
    where
      none_at : f y ≡ false → ◌≡◌ {A = ℕ} 0 1
      none_at d = rw d at e

      go : T (f y) ⊎ (T (f y) → ⊥) → T (f y)
      go (inl h) = h
      go (inr h) = let z = none_at (false_of (f y) h) in absurd (omega arith)

  pub last_holds : (f : A → Bool) (xs : List A) → count f (take 1 (reverse xs)) ≡ 1 → (b : ℕ) × (x : A) × (length xs ≡ suc b) × Has xs b x × T (f x)
  last_holds f [] e = absurd (omega arith)
  last_holds f (y ∷ ys) e =
      let r = count_first f (reverse (y ∷ ys)) e in
      (length ys, r.0, refl, sym (reverse_last y ys) ∙ r.1, r.2)

  -- the places of a test, from n on
  pub places_find : (f : A → Bool) (n : ℕ) (xs : List A) (i c : ℕ) → Has (places f n xs) i c → (a : ℕ) × (x : A) × (c ≡ n + a) × Has xs a x × T (f x)
  places_find f n [] i c h = absurd (some_none c h)
  places_find f n (y ∷ ys) i c h = go (f y) refl i h (λ i h. more (places_find f (suc n) ys i c h))
    where
      more : (a : ℕ) × (x : A) × (c ≡ suc n + a) × Has ys a x × T (f x) → (a : ℕ) × (x : A) × (c ≡ n + a) × Has (y ∷ ys) a x × T (f x)
      more r = let e : c ≡ n + suc r.0 = omega (arith, r.2) in (suc r.0, r.1, e, r.3, r.4)

      go : (b : Bool) → f y ≡ b → (i : ℕ) → Has (cond b (n ∷ places f (suc n) ys) (places f (suc n) ys)) i c → ((i : ℕ) → Has (places f (suc n) ys) i c → (a : ℕ) × (x : A) × (c ≡ n + a) × Has (y ∷ ys) a x × T (f x)) → (a : ℕ) × (x : A) × (c ≡ n + a) × Has (y ∷ ys) a x × T (f x)
      go true e zero h ih = let d : n ≡ c = cc in (0, y, omega arith, refl, of_true (f y) e)
      go true e (suc i) h ih = ih i h
      go false e i h ih = ih i h

  pub places_has : (f : A → Bool) (n : ℕ) (xs : List A) (a : ℕ) (x : A) → Has xs a x → T (f x) → (i : ℕ) × Has (places f n xs) i (n + a)
  places_has f n [] a x h t = absurd (some_none x h)
  places_has f n (y ∷ ys) zero x h t =
      let e : f y ≡ true = subst (λ z. f z ≡ true) (sym (some_same y x h)) (true_of (f x) t) in
      (0, rw (e, add-zero n) refl)
  places_has f n (y ∷ ys) (suc a) x h t = go (f y) (places_has f (suc n) ys a x h t)
    where
      go : (b : Bool) → (i : ℕ) × Has (places f (suc n) ys) i (suc n + a) → (i : ℕ) × Has (cond b (n ∷ places f (suc n) ys) (places f (suc n) ys)) i (n + suc a)
      go true r = (suc r.0, rw (add-suc n a, ← suc-add n a) r.1)
      go false r = (r.0, rw (add-suc n a, ← suc-add n a) r.1)

  pub append_left : (xs ys : List A) (i : ℕ) (x : A) → Has xs i x → Has (xs ++ ys) i x
  append_left [] ys i x h = absurd (some_none x h)
  append_left (z ∷ zs) ys zero x h = h
  append_left (z ∷ zs) ys (suc i) x h = append_left zs ys i x h

  pub append_right : (xs ys : List A) (i : ℕ) (x : A) → Has ys i x → Has (xs ++ ys) (length xs + i) x
  append_right [] ys i x h = rw (zero-add i) h
  append_right (z ∷ zs) ys i x h = rw (suc-add (length zs) i) (append_right zs ys i x h)

  pub append_find : (xs ys : List A) (i : ℕ) (x : A) → Has (xs ++ ys) i x → Has xs i x ⊎ ((j : ℕ) × Has ys j x)
  append_find [] ys i x h = inr (i, h)
  append_find (z ∷ zs) ys zero x h = inl h
  append_find (z ∷ zs) ys (suc i) x h = append_find zs ys i x h
