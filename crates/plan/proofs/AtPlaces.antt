-- What stands at a place of a list, as the code reads it. Assumes nothing.
use Rattle.std.proofs.Common.{◌≡◌, ℕ, zero, suc, ◌<◌, List, [], ◌∷◌, map, length, get_or, refl, sym, ap, arith}
use mathlib.Core.Option.{some}
use Rattle.model.specs.Lists.{Has}

module _ {X Y : Type 0} (f : X → Y) where
  pub read-has : (xs : List X) (i : ℕ) (x : X) → i < length xs → x ≡ get_or xs i x → Has (map f xs) i (f x)
  read-has [] i x l e = absurd (omega arith)
  read-has (y ∷ ys) zero x l e = ap (λ (z : X). some (f z)) (sym e)
  read-has (y ∷ ys) (suc i) x l e = read-has ys i x (omega arith) e

  pub at-has : (xs : List X) (i : ℕ) (d : X) → i < length xs → Has (map f xs) i (f (get_or xs i d))
  at-has [] i d l = absurd (omega arith)
  at-has (y ∷ ys) zero d l = refl
  at-has (y ∷ ys) (suc i) d l = at-has ys i d (omega arith)
