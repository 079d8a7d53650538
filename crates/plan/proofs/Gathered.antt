-- What `try_collect` makes of the items that a closure gives, where the closure's clause speaks of what an `Ok` holds. Assumes nothing.
use Rattle.std.proofs.Common.{◌≡◌, ◌+◌, ◌≤◌, vec_capacity, List, [], ◌∷◌, ◌++◌, map, length, vec_len, Option, None, Result, Ok, IfOk, Vec, vec_items, sym, subst, ap, ◌∙◌}
use Rattle.std.specs.Fn.{Called, Mut}
use Rattle.std.specs.Iterator.{AlwaysYields, TryCollects, Yields}
use Rattle.std.specs.Iterator.Adapters.{map_source, map_callee}
use Rattle.std.specs.List.{FoldsTo}
use Rattle.std.specs.declared.iter.Map.{Map}
use Rattle.std.proofs.lemmas.Iterator.{YieldsList, maps}
use Rattle.std.proofs.lemmas.Iterator.Consumers.{Pushes}
use Rattle.std.proofs.lemmas.List.{append-nil, append_assoc, map_push}
use Rattle.std.proofs.lemmas.Result.{IfOk-weaker}

module _ {S A B C F X E Z : Type 0} (steps : S → Option A → S → Type 0) (v : A → B) (g : Mut F (A × Unit {0}) (Result X E)) (w : X → C) (h : B → C) (f : F)
    (known : (x : A) (r : Result X E) (q : F) → Called g f (x, tt) r q → (q ≡ f) × IfOk r (λ y. w y ≡ h (v x))) where
  -- one more is pushed
  abbrev Pushed : Vec X Z → Result X E → Vec X Z → Type 0
  Pushed a r b = (y : X) × (Ok y ≡ r) × Pushes a y b

  gathered : (ys : List B) (xs : List (Result X E)) (s t u : Map S F) (a b : Vec X Z) → map_callee s ≡ f → AlwaysYields steps v (map_source s) ys → Yields (maps steps g) s xs t → maps steps g t None u → FoldsTo Pushed a xs b
      → map w (vec_items b) ≡ map w (vec_items a) ++ map h ys
  gathered [] [] s t u a b e all yields end folds = ap (λ (c : Vec X Z). map w (vec_items c)) (sym folds) ∙ sym (append-nil (map w (vec_items a)))
  gathered [] (r ∷ xs) s t u a b e all yields end folds = absurd (all yields.1.0 (map_source yields.0) yields.1.1)
  gathered (z ∷ ys) [] s t u a b e all yields end folds = absurd (all.0 (map_source u) (subst (λ (i : Map S F). steps (map_source i) None (map_source u)) (sym yields) end.0))
  gathered (z ∷ ys) (r ∷ xs) s t u a b e all yields end folds =
      let j = yields.0 in
      let c = folds.0 in
      let y = folds.1.0 in
      let here = all.1 yields.1.0 (map_source j) yields.1.1 in
      let called = known yields.1.0 r (map_callee j) (subst (λ (p : F). Called g p (yields.1.0, tt) r (map_callee j)) e yields.1.2) in
      let one : w y ≡ h z = subst (λ (q : Result X E). IfOk q (λ y. w y ≡ h (v yields.1.0))) (sym folds.1.1) called.1 ∙ ap h here.0 in
      gathered ys xs j t u c b called.0 here.1 yields.2 end folds.2
      ∙ ap (λ (cs : List C). cs ++ map h ys) (ap (map w) folds.1.2.0 ∙ map_push w (vec_items a) y)
      ∙ append_assoc (map w (vec_items a)) (w y ∷ []) (map h ys)
      ∙ ap (λ (q : C). map w (vec_items a) ++ q ∷ map h ys) one

pub map_from_try_collect : {S A B C F X E Z D : Type 0} {steps : S → Option A → S → Type 0} {v : A → B} {f : F} {ys : List B} {s : Map S F} (g : Mut F (A × Unit {0}) (Result X E)) (w : X → C) (h : B → C) (r : Result (Vec X Z) D)
    → IfOk r (TryCollects (maps steps g) (λ x q. q ≡ x) (λ xs c. (vec_items c ≡ xs) × (vec_len c ≡ length xs)) (λ p xs q. (vec_items q ≡ vec_items p ++ xs) × (vec_len q ≡ vec_len p + length xs) × (vec_capacity p ≤ vec_capacity q)) s)
    → YieldsList steps v (map_source s) ys → map_callee s ≡ f → ((x : A) (r : Result X E) (q : F) → Called g f (x, tt) r q → (q ≡ f) × IfOk r (λ y. w y ≡ h (v x))) → IfOk r (λ c. map w (vec_items c) ≡ map h ys)
map_from_try_collect {X = X} {steps = steps} {v = v} {f = f} {ys = ys} {s = s} g w h r ran road e known =
    IfOk-weaker r _ _ (λ c d. gathered steps v g w h f known ys d.0 s d.2.1.0 d.2.0 d.1 c e road.runs d.2.1.1 d.2.1.2 d.4 ∙ ap (λ (xs : List X). map w xs ++ map h ys) d.3.0) ran
