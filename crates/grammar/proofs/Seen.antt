-- What the code reads of a list, as the model says it. Assumes nothing.
use Rattle.std.proofs.Common.{◌<◌, ◌≤◌, length, MatchOption, sym}
use Rattle.std.specs.Borrow.{Bor}
use Rattle.std.proofs.lemmas.Option.{slice_get_read, slice_get_past}
use Rattle.std.proofs.Common.{◌≡◌, ℕ, zero, suc, Bool, ◌&&◌, List, [], ◌∷◌, map, Option, Some, None, refl, ap, ◌∙◌, eqb, arith}
use Rattle.std.proofs.lemmas.Bool.Decides.{nat_tests}
use Rattle.std.specs.Option.{option_map}
use Rattle.std.specs.List.{slice_get, HoldsAt, list_any}
use Rattle.std.proofs.Math.ListN.{get_elem?}
use Rattle.model.specs.Scheme.{same_occurrence}
use Rattle.grammar.specs.Views.{option_of}
use Rattle.grammar.specs.Views.{occurrence_of}
use Rattle.grammar.specs.declared.parts.Occurrence.{Occurrence}

-- what a look-up ensures of the place
abbrev pub Reads : {X : Type 0} → List X → ℕ → Option (Bor X) → Type 0
Reads xs i r = MatchOption r (length xs ≤ i) (λ x. (i < length xs) × HoldsAt (λ y. x.now ≡ y) xs i)

pub read : {X : Type 0} (xs : List X) (i : ℕ) (r : Option (Bor X)) → Reads xs i r → option_map (λ x. x.now) r ≡ slice_get xs i
read xs i None l = sym (slice_get_past xs i l)
read xs i (Some x) h = sym (slice_get_read xs (length xs) i x.now refl h.0 (h.1 x.now))

module _ {X Y : Type 0} (f : X → Y) where
  pub option_of-slice_get : (xs : List X) (i : ℕ) → option_of f (slice_get xs i) ≡ get_elem? (map f xs) i
  option_of-slice_get [] i = refl
  option_of-slice_get (x ∷ xs) zero = refl
  option_of-slice_get (x ∷ xs) (suc i) = option_of-slice_get xs i

  -- what `get` has read at a place, from a list that is ys
  pub get_ref : (xs ys : List X) (i : ℕ) (r : Option (Bor X)) → Reads xs i r → xs ≡ ys → option_of (λ q. f q.now) r ≡ get_elem? (map f ys) i
  get_ref xs ys i r h e = seen r ∙ ap (option_of f) (read xs i r h) ∙ option_of-slice_get xs i ∙ ap (λ (zs : List X). get_elem? (map f zs) i) e
    where
      seen : (o : Option (Bor X)) → option_of (λ q. f q.now) o ≡ option_of f (option_map (λ x. x.now) o)
      seen None = refl
      seen (Some x) = refl

  -- the same of what was read
  pub option_of_read : (xs : List X) (i : ℕ) (r : Option X) → r ≡ slice_get xs i → option_of f r ≡ get_elem? (map f xs) i
  option_of_read xs i r e = rw e (option_of-slice_get xs i)

  -- the same of a reference to it
  pub option_of_ref : (xs : List X) (i : ℕ) (r : Option (Bor X)) → option_map (λ x. x.now) r ≡ slice_get xs i → option_of (λ q. f q.now) r ≡ get_elem? (map f xs) i
  option_of_ref xs i r e = seen r ∙ option_of_read xs i (option_map (λ x. x.now) r) e
    where
      seen : (o : Option (Bor X)) → option_of (λ q. f q.now) o ≡ option_of f (option_map (λ x. x.now) o)
      seen None = refl
      seen (Some x) = refl

-- a test that is the same at each thing
pub list_any_same : {X : Type 0} (f g : X → Bool) → ((x : X) → f x ≡ g x) → (xs : List X) → list_any f xs ≡ list_any g xs
list_any_same f g h [] = refl
list_any_same f g h (x ∷ xs) = rw (h x, list_any_same f g h xs) refl

eqb-swap : (m n : ℕ) → eqb m n ≡ eqb n m
eqb-swap m n = grind (arith, nat_tests)

pub same_swapped : (o q : Occurrence) → (eqb q.position o.position && eqb q.attribute o.attribute) ≡ same_occurrence (occurrence_of o) (occurrence_of q)
same_swapped o q = rw (eqb-swap q.position o.position, eqb-swap q.attribute o.attribute) refl
