-- A loop over two rows at once, by number. Assumes nothing.
use Rattle.std.proofs.Common.{◌≡◌, ℕ, zero, suc, ◌+◌, ◌<◌, ◌≤◌, min, List, [], ◌∷◌, map, length, get_or, Option, Some, None, Bor, Iter, ap, ◌∙◌, sym, arith}
use mathlib.Core.Option.{some}
use Rattle.std.specs.Iterator.{Yields}
use Rattle.std.specs.Iterator.Adapters.{enumerate_source, enumerate_count, enumerate_steps, zip_first, zip_second}
use Rattle.std.specs.List.{enumerate_from, zip}
use Rattle.std.specs.Slice.Iter.{iter_rest}
use Rattle.std.specs.declared.iter.Enumerate.{Enumerate}
use Rattle.std.specs.declared.iter.Zip.{Zip}
use Rattle.std.proofs.iter.Yields.{fronts}
use Rattle.std.proofs.lemmas.Iterator.{YieldsList, YieldsList-from_slice, YieldsList-from_zip, zips}
use Rattle.std.proofs.lemmas.Iterator.Consumers.{YieldsList-from_enumerate, YieldsList-turn, YieldsList-end}
use Rattle.std.proofs.lemmas.List.FromFn.{length-enumerate_from}
use Rattle.std.proofs.lemmas.Slice.Zip.{length-zip}
use Rattle.model.specs.Lists.{Has}

-- what turn i of the loop has, seen through f and g
pub record Turn {A B C D : Type 0} (f : A → C) (g : B → D) (xs : List A) (ys : List B) (i : ℕ) (x : ℕ × (A × B)) : Type 0 where
  pub number : x.0 ≡ i
  pub first : Has (map f xs) i (f x.1.0)
  pub second : Has (map g ys) i (g x.1.1)

module _ {A B C D : Type 0} (f : A → C) (g : B → D) where
  turn_from : (xs : List A) (ys : List B) (n i k : ℕ) (x : ℕ × (A × B)) → n + i ≡ k → i < length (enumerate_from n (zip xs ys)) → x ≡ get_or (enumerate_from n (zip xs ys)) i x → (x.0 ≡ k) × Has (map f xs) i (f x.1.0) × Has (map g ys) i (g x.1.1)
  turn_from [] ys n i k x at l e = absurd (omega arith)
  turn_from (a ∷ xs) [] n i k x at l e = absurd (omega arith)
  turn_from (a ∷ xs) (b ∷ ys) n zero k x at l e = (ap (λ (y : ℕ × (A × B)). y.0) e ∙ omega arith, ap (λ (y : ℕ × (A × B)). some (f y.1.0)) (sym e), ap (λ (y : ℕ × (A × B)). some (g y.1.1)) (sym e))
  turn_from (a ∷ xs) (b ∷ ys) n (suc i) k x at l e = turn_from xs ys (n + 1) i k x (omega arith) (omega arith) e

  module _ (xs : List A) (ys : List B) (s t u : Enumerate (Zip (Iter A) (Iter B))) (first : iter_rest (zip_first (enumerate_source s)) ≡ xs) (second : iter_rest (zip_second (enumerate_source s)) ≡ ys) (count : enumerate_count s ≡ 0) (seen : List (ℕ × (Bor A × Bor B))) (so_far : Yields (enumerate_steps (zips fronts fronts)) s seen t) (r : Option (ℕ × (Bor A × Bor B))) (step : enumerate_steps (zips fronts fronts) t r u) where
    road : YieldsList {B = ℕ × (A × B)} (enumerate_steps (zips fronts fronts)) (λ p. (p.0, (p.1.0.now, p.1.1.now))) s (enumerate_from 0 (zip xs ys))
    road = YieldsList-from_enumerate (YieldsList-from_zip (YieldsList-from_slice xs first) (YieldsList-from_slice ys second)) count

    pub turn_at : (x : ℕ × (Bor A × Bor B)) → r ≡ Some x → Turn f g xs ys (length seen) (x.0, (x.1.0.now, x.1.1.now))
    turn_at x is =
        let h = YieldsList-turn road seen t so_far r u x is step in
        let k = turn_from xs ys 0 (length seen) (length seen) (x.0, (x.1.0.now, x.1.1.now)) (omega arith) h.0 h.1 in
        record { number = k.0; first = k.1; second = k.2 }

    pub all_turned : r ≡ None → min (length xs) (length ys) ≤ length seen
    all_turned is = let h = YieldsList-end road seen t so_far r u is step in omega (arith, h.1, length-enumerate_from 0 (zip xs ys), length-zip xs ys)
