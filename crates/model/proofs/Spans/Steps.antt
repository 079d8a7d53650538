-- What the rules on visit-sequences say of the places of steps.
use Rattle.std.proofs.Common.{◌≡◌, ℕ, zero, suc, ◌+◌, ◌<◌, ◌≤◌, Bool, true, false, cond, T, eqb, ◌⊎◌, List, [], ◌∷◌, reverse, length, take, sym, refl, ap, ◌∙◌, subst, inl, inr, arith, eqb→eq}
use mathlib.Core.List.{reverse_aux}
use mathlib.Core.Option.{some}
use lib.Dec.{eqb_refl}
use Rattle.std.proofs.lemmas.Bool.{cases_lt}
use Rattle.model.specs.Lists.{Has, count, from_on}
use Rattle.model.specs.Scheme.{Step, eval, visit, leave, Production, Scheme}
use Rattle.model.specs.Sequences.{is_leave, is_visit_of, section, visit_numbers, leave_numbers}
use Rattle.model.specs.Lawful.{Lawful, is_visit}
use Rattle.model.proofs.Spans.Lists.{count_mono, count_strict, count_all_strict}
use Rattle.model.proofs.Common.ListFacts.{and_mk, true_of, of_true}
use Rattle.model.proofs.Common.Basics.{eq→eqb}

-- numbers in a row
pub has-from_on : (v n m i : ℕ) → Has (from_on n v) m i → (i ≡ n + m) × (m < v)
has-from_on zero n m i h = let z : ◌≡◌ {A = ℕ} 0 1 = cc in absurd (omega arith)
has-from_on (suc v) n zero i h = let e : n ≡ i = cc in (omega arith, omega arith)
has-from_on (suc v) n (suc m) i h = let r = has-from_on v (suc n) m i h in (omega arith, omega arith)

pub from_on-has : (v n m : ℕ) → m < v → Has (from_on n v) m (n + m)
from_on-has zero n m h = absurd (omega arith)
from_on-has (suc v) n zero h = ap some (omega arith)
from_on-has (suc v) n (suc m) h = let e : suc n + m ≡ n + suc m = omega arith in from_on-has v (suc n) m (omega arith) ∙ ap some e

pub length-from_on : (v n : ℕ) → length (from_on n v) ≡ v
length-from_on zero n = refl
length-from_on (suc v) n = ap suc (length-from_on v (suc n))

-- the visits of a child among the steps
pub at_visit : (c i : ℕ) (xs : List Step) (t : ℕ) → Has xs t (visit c i) → Has (visit_numbers c xs) (count (is_visit_of c) (take t xs)) i
at_visit c i [] t h = let z : ◌≡◌ {A = ℕ} 0 1 = cc in absurd (omega arith)
at_visit c i (eval r ∷ xs) zero h = let z : ◌≡◌ {A = ℕ} 0 1 = cc in absurd (omega arith)
at_visit c i (eval r ∷ xs) (suc t) h = at_visit c i xs t h
at_visit c i (visit k j ∷ xs) zero h = let e : k ≡ c = cc in let f : j ≡ i = cc in rw (true_of (eqb c k) (eq→eqb c k (sym e))) (ap some f)
at_visit c i (visit k j ∷ xs) (suc t) h = go (eqb c k) (at_visit c i xs t h)
  where
    go : (b : Bool) → Has (visit_numbers c xs) (count (is_visit_of c) (take t xs)) i
        → Has (cond b (j ∷ visit_numbers c xs) (visit_numbers c xs)) (cond b (suc (count (is_visit_of c) (take t xs))) (count (is_visit_of c) (take t xs))) i
    go true r = r
    go false r = r
at_visit c i (leave n ∷ xs) zero h = let z : ◌≡◌ {A = ℕ} 0 1 = cc in absurd (omega arith)
at_visit c i (leave n ∷ xs) (suc t) h = at_visit c i xs t h

pub visit_at : (c i : ℕ) (xs : List Step) (m : ℕ) → Has (visit_numbers c xs) m i → (t : ℕ) × Has xs t (visit c i)
visit_at c i [] m h = let z : ◌≡◌ {A = ℕ} 0 1 = cc in absurd (omega arith)
visit_at c i (eval r ∷ xs) m h = let q = visit_at c i xs m h in (suc q.0, q.1)
visit_at c i (visit k j ∷ xs) m h = go (eqb c k) refl m (visit_at c i xs) h
  where
    go : (b : Bool) → eqb c k ≡ b → (m : ℕ) → ((n : ℕ) → Has (visit_numbers c xs) n i → (t : ℕ) × Has xs t (visit c i)) → Has (cond b (j ∷ visit_numbers c xs) (visit_numbers c xs)) m i → (t : ℕ) × Has (visit k j ∷ xs) t (visit c i)
    go true e zero r h = let f : j ≡ i = cc in let g : c ≡ k = eqb→eq c k (of_true (eqb c k) e) in (0, cc)
    go true e (suc m) r h = let q = r m h in (suc q.0, q.1)
    go false e m r h = let q = r m h in (suc q.0, q.1)
visit_at c i (leave n ∷ xs) m h = let q = visit_at c i xs m h in (suc q.0, q.1)

-- the leaves among the steps
pub at_leave : (i : ℕ) (xs : List Step) (t : ℕ) → Has xs t (leave i) → Has (leave_numbers xs) (count is_leave (take t xs)) i
at_leave i [] t h = let z : ◌≡◌ {A = ℕ} 0 1 = cc in absurd (omega arith)
at_leave i (eval r ∷ xs) zero h = let z : ◌≡◌ {A = ℕ} 0 1 = cc in absurd (omega arith)
at_leave i (eval r ∷ xs) (suc t) h = at_leave i xs t h
at_leave i (visit k j ∷ xs) zero h = let z : ◌≡◌ {A = ℕ} 0 1 = cc in absurd (omega arith)
at_leave i (visit k j ∷ xs) (suc t) h = at_leave i xs t h
at_leave i (leave n ∷ xs) zero h = let e : n ≡ i = cc in ap some e
at_leave i (leave n ∷ xs) (suc t) h = at_leave i xs t h

pub leave_at : (i : ℕ) (xs : List Step) (m : ℕ) → Has (leave_numbers xs) m i → (t : ℕ) × Has xs t (leave i)
leave_at i [] m h = let z : ◌≡◌ {A = ℕ} 0 1 = cc in absurd (omega arith)
leave_at i (eval r ∷ xs) m h = let q = leave_at i xs m h in (suc q.0, q.1)
leave_at i (visit k j ∷ xs) m h = let q = leave_at i xs m h in (suc q.0, q.1)
leave_at i (leave n ∷ xs) zero h = let e : n ≡ i = cc in (0, ap (λ (v : ℕ). some (leave v)) e)
leave_at i (leave n ∷ xs) (suc m) h = let q = leave_at i xs m h in (suc q.0, q.1)

pub length-leaves : (xs : List Step) → length (leave_numbers xs) ≡ count is_leave xs
length-leaves [] = refl
length-leaves (eval r ∷ xs) = length-leaves xs
length-leaves (visit k j ∷ xs) = length-leaves xs
length-leaves (leave i ∷ xs) = ap suc (length-leaves xs)

-- the last of a list
pub last_reversed : {A : Type 0} (x : A) (xs ys : List A) → (z : A) × Has (x ∷ xs) (length xs) z × (take 1 (reverse_aux (x ∷ xs) ys) ≡ z ∷ [])
last_reversed x [] ys = (x, refl, refl)
last_reversed x (y ∷ xs) ys = last_reversed y xs (x ∷ ys)

-- where the last step is a LEAVE, every place has a LEAVE at it or after it
pub leaves_after : (xs : List Step) → count is_leave (take 1 (reverse xs)) ≡ 1 → (t : ℕ) → t < length xs → count is_leave (take t xs) < count is_leave xs
leaves_after [] e t h = absurd (omega arith)
leaves_after (x ∷ xs) e t h =
    let r = last_reversed x xs [] in
    let f : count is_leave (r.0 ∷ []) ≡ 1 = rw r.2 at e in
    let k : T (is_leave r.0) = go r.0 f in
    let a = count_mono is_leave (x ∷ xs) t (length xs) (omega arith) in
    let b = count_all_strict is_leave (x ∷ xs) (length xs) r.0 r.1 k in
    omega arith
  where
    go : (z : Step) → count is_leave (z ∷ []) ≡ 1 → T (is_leave z)
    go (eval r) f = absurd (omega arith)
    go (visit k j) f = absurd (omega arith)
    go (leave i) f = tt

pub is_visit-T : (k i : ℕ) → T (is_visit k i (visit k i))
is_visit-T k i = and_mk (eqb k k) (eqb i i) (eqb_refl k) (eqb_refl i)

module _ (s : Scheme) (law : Lawful s) (n : ℕ) (p : Production) (is : Has s.productions n p) where
  -- a production's sections are those of its symbol's visits
  pub section-within : (v t : ℕ) → Has s.visits p.left v → t < length p.steps → section p t ≤ v
  section-within v t h l =
      let q = law.sequenced n p is in
      let a = leaves_after p.steps q.ends_with_leave t l in
      let b : count is_leave p.steps ≡ v = sym (length-leaves p.steps) ∙ (ap length (q.left_sections v h) ∙ length-from_on v 1) in
      omega arith

  -- section i ends with LEAVE i
  pub leave-section : (v t i : ℕ) → Has s.visits p.left v → Has p.steps t (leave i) → section p t ≡ i
  leave-section v t i h g =
      let q = (law.sequenced n p is).left_sections v h in
      let a : Has (from_on 1 v) (count is_leave (take t p.steps)) i = subst (λ (l : List ℕ). Has l (count is_leave (take t p.steps)) i) q (at_leave i p.steps t g) in
      let b = has-from_on v 1 (count is_leave (take t p.steps)) i a in
      omega arith

  pub leave_place : (v i : ℕ) → Has s.visits p.left v → 1 ≤ i → i ≤ v → (t : ℕ) × Has p.steps t (leave i)
  leave_place v zero h a b = absurd (omega arith)
  leave_place v (suc i) h a b =
      let q = (law.sequenced n p is).left_sections v h in
      let e : 1 + i ≡ suc i = omega arith in
      let f : Has (from_on 1 v) i (suc i) = from_on-has v 1 i (omega arith) ∙ ap some e in
      leave_at (suc i) p.steps i (subst (λ (l : List ℕ). Has l i (suc i)) (sym q) f)

  -- child suc k, which is of symbol x with v visits
  module _ (k x v : ℕ) (child : Has p.children k x) (vs : Has s.visits x v) where
    numbers : visit_numbers (suc k) p.steps ≡ from_on 1 v
    numbers = (law.sequenced n p is).children_visited k x v child vs

    -- a VISIT's number is one more than the VISITs before it
    pub visit_number : (t i : ℕ) → Has p.steps t (visit (suc k) i) → (i ≡ suc (count (is_visit_of (suc k)) (take t p.steps))) × (i ≤ v)
    visit_number t i h =
        let a = at_visit (suc k) i p.steps t h in
        let b : Has (from_on 1 v) (count (is_visit_of (suc k)) (take t p.steps)) i = subst (λ (l : List ℕ). Has l (count (is_visit_of (suc k)) (take t p.steps)) i) numbers a in
        let c = has-from_on v 1 (count (is_visit_of (suc k)) (take t p.steps)) i b in
        (omega arith, omega arith)

    -- each visit has its place
    pub visit_place : (i : ℕ) → 1 ≤ i → i ≤ v → (t : ℕ) × Has p.steps t (visit (suc k) i)
    visit_place zero a b = absurd (omega arith)
    visit_place (suc i) a b =
        let e : 1 + i ≡ suc i = omega arith in
        let f : Has (from_on 1 v) i (suc i) = from_on-has v 1 i (omega arith) ∙ ap some e in
        visit_at (suc k) (suc i) p.steps i (subst (λ (l : List ℕ). Has l i (suc i)) (sym numbers) f)

    -- a visit has been begun exactly when as many have been
    pub begun_count : (t u i : ℕ) → Has p.steps t (visit (suc k) i) → t < u → i ≤ count (is_visit_of (suc k)) (take u p.steps)
    begun_count t u i h l =
        let a = visit_number t i h in
        let b = count_strict (is_visit_of (suc k)) p.steps t u (visit (suc k) i) h (eqb_refl (suc k)) l in
        omega arith

    pub count_begun : (t u i : ℕ) → Has p.steps t (visit (suc k) i) → i ≤ count (is_visit_of (suc k)) (take u p.steps) → t < u
    count_begun t u i h l = go (cases_lt t u)
      where
        go : (t < u) ⊎ (u ≤ t) → t < u
        go (inl q) = q
        go (inr q) = let a = visit_number t i h in let b = count_mono (is_visit_of (suc k)) p.steps u t q in absurd (omega arith)

    -- VISITs of one child stand in the order of their numbers
    pub visits_rise : (t u i j : ℕ) → Has p.steps t (visit (suc k) i) → Has p.steps u (visit (suc k) j) → i ≤ j → t ≤ u
    visits_rise t u i j h g l = let a = begun_count u (suc u) j g (omega arith) in let b = count_begun t (suc u) i h (omega arith) in omega arith
