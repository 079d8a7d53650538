-- Rows by the places of a list. Assumes nothing.
use Rattle.std.proofs.Common.{◌≡◌, ℕ, zero, suc, ◌+◌, ◌<◌, List, [], ◌∷◌, ◌++◌, map, length, get_or, take, sym, refl, ap, ◌∙◌, add-one, arith}
use mathlib.Core.Option.{some}
use Rattle.std.specs.List.{enumerate_from}
use Rattle.std.proofs.lemmas.List.{map_push}
use Rattle.model.specs.Lists.{Has, numbered}

-- a row by its places
pub numbered_length : {X Y : Type 0} (f : ℕ → X → Y) (n : ℕ) (xs : List X) → length (numbered f n xs) ≡ length xs
numbered_length f n [] = refl
numbered_length f n (x ∷ xs) = ap suc (numbered_length f (suc n) xs)

pub numbered_has : {X Y : Type 0} (f : ℕ → X → Y) (n i : ℕ) (xs : List X) (x : X) → Has xs i x → Has (numbered f n xs) i (f (n + i) x)
numbered_has f n i [] x h = absurd (let z : ◌≡◌ {A = ℕ} 0 1 = cc in omega arith)
numbered_has f n zero (y ∷ xs) x h = let e : y ≡ x = cc in let on : n ≡ n + 0 = omega arith in λ k. some (f (on k) (e k))
numbered_has f n (suc i) (y ∷ xs) x h = let on : suc n + i ≡ n + suc i = omega arith in numbered_has f (suc n) i xs x h ∙ ap (λ (m : ℕ). some (f m x)) on

-- a row by its places, as the code makes it
pub numbered_by : {X Y Z : Type 0} (f : ℕ → Y → Z) (g : X → Y) (n : ℕ) (xs : List X) → map (λ q. f q.0 (g q.1)) (enumerate_from n xs) ≡ numbered f n (map g xs)
numbered_by f g n [] = refl
numbered_by {Z = Z} f g n (x ∷ xs) = ap (λ (zs : List Z). f n (g x) ∷ zs) (rw (add-one n) (numbered_by f g (suc n) xs))

-- one more of the first things of a list, each by its number
numbered_from : {X Y Z : Type 0} (f : ℕ → Y → Z) (g : X → Y) (n i j m : ℕ) (d : X) (xs : List X) → j ≡ suc i → m ≡ n + i → i < length xs → numbered f n (map g (take j xs)) ≡ numbered f n (map g (take i xs)) ++ f m (g (get_or xs i d)) ∷ []
numbered_from f g n i zero m d xs ej em l = absurd (omega arith)
numbered_from f g n i (suc j) m d [] ej em l = absurd (omega arith)
numbered_from {Y = Y} {Z = Z} f g n zero (suc j) m d (x ∷ xs) ej em l = let end : j ≡ 0 = omega arith in let here : n ≡ m = omega arith in (λ k. f (here k) (g x) ∷ numbered f (suc n) (map g (take (end k) xs)))
numbered_from {Z = Z} f g n (suc i) (suc j) m d (x ∷ xs) ej em l = ap (λ (zs : List Z). f n (g x) ∷ zs) (numbered_from f g (suc n) i j m d xs (omega arith) (omega arith) (omega arith))

-- a row that has what stands at place i too
pub row_more : {X Y Z W : Type 0} (u : W → Z) (g : X → Y) (f : ℕ → Y → Z) (xs : List X) (i : ℕ) (d : X) (ws vs : List W) (w : W) → i < length xs → vs ≡ ws ++ w ∷ [] → u w ≡ f i (g (get_or xs i d)) → map u ws ≡ numbered f 0 (map g (take i xs)) → map u vs ≡ numbered f 0 (map g (take (i + 1) xs))
row_more u g f xs i d ws vs w l e is h = ap (map u) e ∙ map_push u ws w ∙ (λ k. h k ++ is k ∷ []) ∙ sym (numbered_from f g 0 i (i + 1) i d xs (omega arith) (omega arith) l)
