-- Going along a list of which each thing so far has passed a test. Assumes nothing.
use Rattle.std.proofs.Common.{◌≡◌, ℕ, ◌+◌, ◌<◌, ◌≤◌, Bool, true, false, ◌&&◌, List, length, get_or, drop, sym, ap, ◌∙◌}
use Rattle.std.specs.List.{list_all}
use Rattle.std.proofs.lemmas.List.{drop_more, drop_all}

module _ {X : Type 0} (f : X → Bool) (xs : List X) where
  -- each one before place i passes
  abbrev pub Passed : ℕ → Type 0
  Passed i = list_all f (drop i xs) ≡ list_all f xs

  here : (i : ℕ) (x : X) → i < length xs → x ≡ get_or xs i x → Passed i → (f x && list_all f (drop (i + 1) xs)) ≡ list_all f xs
  here i x l e h = ap (λ (y : X). f y && list_all f (drop (i + 1) xs)) e ∙ ap (list_all f) (sym (drop_more xs i x l)) ∙ h

  pub passed_on : (i : ℕ) (x : X) → i < length xs → x ≡ get_or xs i x → f x ≡ true → Passed i → Passed (i + 1)
  passed_on i x l e t h = ap (λ (b : Bool). b && list_all f (drop (i + 1) xs)) (sym t) ∙ here i x l e h

  pub passed_not : (i : ℕ) (x : X) → i < length xs → x ≡ get_or xs i x → f x ≡ false → Passed i → false ≡ list_all f xs
  passed_not i x l e t h = ap (λ (b : Bool). b && list_all f (drop (i + 1) xs)) (sym t) ∙ here i x l e h

  pub passed_all : (i : ℕ) → length xs ≤ i → Passed i → true ≡ list_all f xs
  passed_all i l h = ap (list_all f) (sym (drop_all i xs l)) ∙ h
