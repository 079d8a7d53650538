-- Words on lists that the other pages use. Assumes nothing.
use Rattle.std.specs.Prelude.{◌≡◌, ℕ, zero, suc, max, Bool, cond, List, [], ◌∷◌}
use Rattle.std.specs.List.{list_any, list_all, filter}
use Rattle.std.proofs.Math.Option.{some}
use Rattle.std.proofs.Math.ListN.{get_elem?}

-- xs has x at place i, counted from 0
abbrev pub Has {ℓ} : {A : Type ℓ} → List A → ℕ → A → Type ℓ
Has xs i x = get_elem? xs i ≡ some x

-- some thing passes the test, and every one does
abbrev pub any : {A : Type 0} → (A → Bool) → List A → Bool
any = list_any

abbrev pub every : {A : Type 0} → (A → Bool) → List A → Bool
every = list_all

-- the things that pass the test, and how many they are
abbrev pub keep : {A : Type 0} → (A → Bool) → List A → List A
keep = filter

abbrev pub count {ℓ} : {A : Type ℓ} → (A → Bool) → List A → ℕ
count f [] = 0
count f (x ∷ xs) = cond (f x) (suc (count f xs)) (count f xs)

-- the numbers from n on, as many as k
abbrev pub from_on : ℕ → ℕ → List ℕ
from_on n zero = []
from_on n (suc k) = n ∷ from_on (suc n) k

-- the places of xs, rising, at which f holds; the first place is n
abbrev pub places {ℓ} : {A : Type ℓ} → (A → Bool) → ℕ → List A → List ℕ
places f n [] = []
places f n (x ∷ xs) = cond (f x) (n ∷ places f (suc n) xs) (places f (suc n) xs)

-- the greatest of the numbers and n
abbrev pub greatest : ℕ → List ℕ → ℕ
greatest n [] = n
greatest n (x ∷ xs) = greatest (max n x) xs

-- f of each place and what stands there; the first place is n
abbrev pub numbered {ℓ} : {A B : Type ℓ} → (ℕ → A → B) → ℕ → List A → List B
numbered f n [] = []
numbered f n (x ∷ xs) = f n x ∷ numbered f (suc n) xs
