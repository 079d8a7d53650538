-- Counting along a list. Assumes nothing.
use Rattle.std.proofs.Common.{◌≡◌, ℕ, zero, suc, ◌+◌, ◌<◌, ◌≤◌, min, Bool, true, false, cond, eqb, ◌⊎◌, List, [], ◌∷◌, map, length, get_or, take, sym, refl, ap, ◌∙◌, inl, inr, suc-add, add-one, arith}
use lib.Dec.{eqb-suc-zero, eqb-suc-suc}
use Rattle.std.proofs.lemmas.List.{take_all}
use Rattle.std.proofs.lemmas.Bool.{cases_lt}
use mir.Val.{bool_byte}
use Rattle.model.specs.Lists.{count}
use Rattle.model.specs.Scheme.{Attribute}

module _ {X Y : Type 0} (g : X → Y) (f : Y → Bool) where
  -- one thing more
  more : (xs : List X) (i : ℕ) (d : X) → i < length xs → count f (map g (take (suc i) xs)) ≡ count f (map g (take i xs)) + cond (f (g (get_or xs i d))) 1 0
  more [] i d l = absurd (omega arith)
  more (x ∷ xs) zero d l = go (f (g x))
    where
      go : (b : Bool) → cond b 1 0 ≡ 0 + cond b 1 0
      go true = refl
      go false = refl
  more (x ∷ xs) (suc i) d l = go (f (g x)) (more xs i d (omega arith))
    where
      go : (b : Bool) → count f (map g (take (suc i) xs)) ≡ count f (map g (take i xs)) + cond (f (g (get_or xs i d))) 1 0 → cond b (suc (count f (map g (take (suc i) xs)))) (count f (map g (take (suc i) xs))) ≡ cond b (suc (count f (map g (take i xs)))) (count f (map g (take i xs))) + cond (f (g (get_or xs i d))) 1 0
      go true e = ap suc e ∙ sym (suc-add (count f (map g (take i xs))) (cond (f (g (get_or xs i d))) 1 0))
      go false e = e

  pub count_more : (xs : List X) (i : ℕ) (d : X) → i < length xs → count f (map g (take (i + 1) xs)) ≡ count f (map g (take i xs)) + cond (f (g (get_or xs i d))) 1 0
  count_more xs i d l = ap (λ (n : ℕ). count f (map g (take n xs))) (add-one i) ∙ more xs i d l

  -- a count that has come to place i
  abbrev pub Counted : List X → ℕ → ℕ → Type 0
  Counted xs i n = (n ≤ i) × (n ≡ count f (map g (take i xs)))

  pub counted_more : (xs : List X) (i : ℕ) (d : X) (n r : ℕ) → i < length xs → r ≡ bool_byte (f (g (get_or xs i d))) → Counted xs i n → Counted xs (i + 1) (n + r)
  counted_more xs i d n r l e h = (bounded (f (g (get_or xs i d))) e, ap (λ (m : ℕ). m + r) h.1 ∙ ap (λ (m : ℕ). count f (map g (take i xs)) + m) (e ∙ byte (f (g (get_or xs i d)))) ∙ sym (count_more xs i d l))
    where
      byte : (b : Bool) → bool_byte b ≡ cond b 1 0
      byte true = refl
      byte false = refl

      bounded : (b : Bool) → r ≡ bool_byte b → n + r ≤ i + 1
      bounded true u = omega (arith, h.0)
      bounded false u = omega (arith, h.0)

  pub counted_all : (xs : List X) (i n : ℕ) → length xs ≤ i → Counted xs i n → n ≡ count f (map g xs)
  counted_all xs i n l h = h.1 ∙ ap (λ (ys : List X). count f (map g ys)) (take_all i xs l)

-- as many as there are
pub take_within : {X : Type 0} (xs : List X) (t n i : ℕ) → n ≡ length xs → i ≡ min t n → take i xs ≡ take t xs
take_within {X} xs t n i e h = go (cases_lt t n)
  where
    go : (t < n) ⊎ (n ≤ t) → take i xs ≡ take t xs
    go (inl l) = let same : i ≡ t = omega arith in ap (λ (m : ℕ). take m xs) same
    go (inr l) = take_all i xs (omega arith) ∙ sym (take_all t xs (omega arith))

-- counting by the number before, or by the number itself
pub count_none : (bs : List Attribute) → count (λ b. eqb (suc b.symbol) 0) bs ≡ 0
count_none [] = refl
count_none (b ∷ bs) = rw (eqb-suc-zero b.symbol) (count_none bs)

pub count-before : (bs : List Attribute) (x : ℕ) → count (λ b. eqb (suc b.symbol) (suc x)) bs ≡ count (λ b. eqb b.symbol x) bs
count-before [] x = refl
count-before (b ∷ bs) x = rw (eqb-suc-suc b.symbol x, count-before bs x)
