-- In a lawful scheme every section of every symbol has a loose walk. Assumes nothing.
use Rattle.std.proofs.Common.{◌≡◌, ℕ, zero, suc, ◌+◌, ◌<◌, ◌≤◌, Bool, true, false, cond, eqb, ◌⊎◌, List, [], ◌∷◌, ◌++◌, drop, sym, refl, subst, inl, inr, arith}
use mathlib.Core.Option.{some}
use Rattle.std.proofs.lemmas.Bool.{true≢false, cases_eq, eq-eqb}
use Rattle.model.specs.Lists.{Has, any, from_on}
use Rattle.model.specs.Scheme.{Step, eval, visit, leave, Production, Scheme, symbol_at}
use Rattle.model.specs.Sequences.{is_leave, visit_numbers, leave_numbers}
use Rattle.model.specs.Lawful.{Finite, by, Lawful}
use Rattle.model.specs.Loose.{Mark, at_start, at_eval, after_visit, Starts, first, after, Loose, pick, Along, leaves, evals, visits}
use Rattle.model.specs.Formed.{Formed}
use Rattle.model.proofs.Plan.Flags.{has-drop, drop-next}
use Rattle.model.proofs.Plan.Played.{Grounded}
use Rattle.model.proofs.Common.Basics.{none≢some}
use Rattle.model.proofs.Plan.Rounds.{same-leave}

same_head : (x y : ℕ) (xs ys : List ℕ) → x ∷ xs ≡ y ∷ ys → x ≡ y
same_head x y xs ys e = cc

same_tail : (x y : ℕ) (xs ys : List ℕ) → x ∷ xs ≡ y ∷ ys → xs ≡ ys
same_tail x y xs ys e = cc

pub from_on-has : (n v k l : ℕ) → Has (from_on n v) k l → (n ≤ l) × (l < n + v)
from_on-has n zero k l h = absurd (none≢some h)
from_on-has n (suc v) zero l h = let e : n ≡ l = cc in omega arith
from_on-has n (suc v) (suc k) l h = let r = from_on-has (suc n) v k l h in omega arith

pub leave_in : (ts : List Step) (t l : ℕ) → Has ts t (leave l) → (k : ℕ) × Has (leave_numbers ts) k l
leave_in [] t l h = absurd (none≢some h)
leave_in (eval m ∷ ts) zero l h = absurd (let z : ◌≡◌ {A = ℕ} 0 1 = cc in omega arith)
leave_in (visit m j ∷ ts) zero l h = absurd (let z : ◌≡◌ {A = ℕ} 0 1 = cc in omega arith)
leave_in (leave m ∷ ts) zero l h = (0, cc)
leave_in (eval m ∷ ts) (suc t) l h = leave_in ts t l h
leave_in (visit m j ∷ ts) (suc t) l h = leave_in ts t l h
leave_in (leave m ∷ ts) (suc t) l h = let r = leave_in ts t l h in (suc r.0, r.1)

pub visit_in : (c : ℕ) (ts : List Step) (t j : ℕ) → Has ts t (visit c j) → (k : ℕ) × Has (visit_numbers c ts) k j
visit_in c [] t j h = absurd (none≢some h)
visit_in c (eval m ∷ ts) zero j h = absurd (let z : ◌≡◌ {A = ℕ} 0 1 = cc in omega arith)
visit_in c (visit k i ∷ ts) zero j h = let same : c ≡ k = cc in let e : i ≡ j = cc in (0, rw (eq-eqb c k same, e) refl)
visit_in c (leave m ∷ ts) zero j h = absurd (let z : ◌≡◌ {A = ℕ} 0 1 = cc in omega arith)
visit_in c (eval m ∷ ts) (suc t) j h = visit_in c ts t j h
visit_in c (visit k i ∷ ts) (suc t) j h = go (eqb c k) (visit_in c ts t j h)
  where
    go : (b : Bool) → (k : ℕ) × Has (visit_numbers c ts) k j → (k : ℕ) × Has (cond b (i ∷ visit_numbers c ts) (visit_numbers c ts)) k j
    go true r = (suc r.0, r.1)
    go false r = r
visit_in c (leave m ∷ ts) (suc t) j h = visit_in c ts t j h

-- where the leaves rise from n, v of them, each number has its place
pub leave_at : (ts : List Step) (n v l : ℕ) → leave_numbers ts ≡ from_on n v → n ≤ l → l < n + v → (t : ℕ) × Has ts t (leave l)
leave_at [] n zero l e a b = absurd (omega arith)
leave_at [] n (suc v) l e a b = absurd (let z : ◌≡◌ {A = ℕ} 0 1 = cc in omega arith)
leave_at (eval m ∷ ts) n v l e a b = let r = leave_at ts n v l e a b in (suc r.0, r.1)
leave_at (visit k j ∷ ts) n v l e a b = let r = leave_at ts n v l e a b in (suc r.0, r.1)
leave_at (leave m ∷ ts) n zero l e a b = absurd (omega arith)
leave_at (leave m ∷ ts) n (suc v) l e a b = go (cases_eq n l) (λ apart. leave_at ts (suc n) v l (same_tail m n (leave_numbers ts) (from_on (suc n) v) e) (omega arith) (omega arith))
  where
    go : (n ≡ l) ⊎ (n ≡ l → ⊥) → ((n ≡ l → ⊥) → (t : ℕ) × Has ts t (leave l)) → (t : ℕ) × Has (leave m ∷ ts) t (leave l)
    go (inl same) later = (0, cc)
    go (inr apart) later = let r = later apart in (suc r.0, r.1)

-- a leave is still to come
pub leave_comes : (ts : List Step) (n v : ℕ) → leave_numbers ts ≡ from_on n (suc v) → any is_leave ts ≡ true
leave_comes [] n v e = absurd (let z : ◌≡◌ {A = ℕ} 0 1 = cc in omega arith)
leave_comes (eval m ∷ ts) n v e = leave_comes ts n v e
leave_comes (visit k j ∷ ts) n v e = leave_comes ts n v e
leave_comes (leave m ∷ ts) n v e = refl

pub leave-follows : (ts : List Step) (n v t l : ℕ) → leave_numbers ts ≡ from_on n v → Has ts t (leave l) → suc l < n + v → any is_leave (drop (suc t) ts) ≡ true
leave-follows [] n v t l e h b = absurd (none≢some h)
leave-follows (eval m ∷ ts) n v zero l e h b = absurd (let z : ◌≡◌ {A = ℕ} 0 1 = cc in omega arith)
leave-follows (visit k j ∷ ts) n v zero l e h b = absurd (let z : ◌≡◌ {A = ℕ} 0 1 = cc in omega arith)
leave-follows (eval m ∷ ts) n v (suc t) l e h b = leave-follows ts n v t l e h b
leave-follows (visit k j ∷ ts) n v (suc t) l e h b = leave-follows ts n v t l e h b
leave-follows (leave m ∷ ts) n zero t l e h b = absurd (let z : ◌≡◌ {A = ℕ} 0 1 = cc in omega arith)
leave-follows (leave m ∷ ts) n (suc zero) zero l e h b = let x = same_head m n (leave_numbers ts) [] e in let y = same-leave m l h in absurd (omega arith)
leave-follows (leave m ∷ ts) n (suc (suc v)) zero l e h b = leave_comes ts (suc n) v (same_tail m n (leave_numbers ts) (from_on (suc n) (suc v)) e)
leave-follows (leave m ∷ ts) n (suc v) (suc t) l e h b = leave-follows ts (suc n) v t l (same_tail m n (leave_numbers ts) (from_on (suc n) v) e) h (omega arith)

-- each EVAL has its rule and each VISIT its symbol
pub grounded : (s : Scheme) → Formed s → (n : ℕ) (p : Production) → Has s.productions n p → Grounded p p.steps
grounded s formed n p hp = record { step_rule = λ k m h. formed.evals_rule n k m p hp h; symbol_of = of_child }
  where
    of_child : (k m j : ℕ) → Has p.steps k (visit m j) → (x : ℕ) × (symbol_at p m ≡ some x)
    of_child k m j h =
        let c = formed.visits_child n k m j p hp h in
        (c.1, subst (λ (q : ℕ). symbol_at p q ≡ some c.1) (sym c.2) c.3)

module _ (s : Scheme) (lawful : Lawful s) (formed : Formed s) where
  module _ (members : ℕ → Bool) where
    abbrev Walks : ℕ → Type 0
    Walks x = (v i : ℕ) → Has s.visits x v → 1 ≤ i → i ≤ v → (ms : List Mark) × Loose s members x i ms

    -- on from place t to the next leave
    go_on : (n : ℕ) (p : Production) → Has s.productions n p → ((k x : ℕ) → Has p.children k x → Walks x) → (ts : List Step) (t : ℕ) → drop t p.steps ≡ ts → any is_leave ts ≡ true → (ms : List Mark) × Along s members p t ms
    go_on n p hp below [] t here e = absurd (true≢false (sym e))
    go_on n p hp below (eval m ∷ ts) t here e =
        let h = has-drop p.steps t (eval m) ts here in
        let r = formed.evals_rule n t m p hp h in
        let rest = go_on n p hp below ts (suc t) (drop-next p.steps t (eval m) ts here) e in
        (at_eval s members p t r.0 ++ rest.0, evals p t m r.0 h r.1 rest.1)
    go_on n p hp below (visit k j ∷ ts) t here e =
        let h = has-drop p.steps t (visit k j) ts here in
        let c = formed.visits_child n t k j p hp h in
        let v = formed.child_known n c.0 c.1 p hp c.3 in
        let h' = subst (λ (q : ℕ). Has p.steps t (visit q j)) c.2 h in
        let u = visit_in (suc c.0) p.steps t j h' in
        let in_range = from_on-has 1 v.0 u.0 j (subst (λ (ls : List ℕ). Has ls u.0 j) ((lawful.sequenced n p hp).children_visited c.0 c.1 v.0 c.3 v.1) u.1) in
        let inside = below c.0 c.1 c.3 v.0 j v.1 (omega arith) (omega arith) in
        let rest = go_on n p hp below ts (suc t) (drop-next p.steps t (visit k j) ts here) e in
        (inside.0 ++ (after_visit s members p k c.1 j ++ rest.0), visits p t k j c.1 {ls = inside.0} {ms = rest.0} h (subst (λ (q : ℕ). symbol_at p q ≡ some c.1) (sym c.2) c.3) inside.1 rest.1)
    go_on n p hp below (leave l ∷ ts) t here e = ([], leaves p t l (has-drop p.steps t (leave l) ts here))

    section_walk : (n : ℕ) (p : Production) → Has s.productions n p → ((k x : ℕ) → Has p.children k x → Walks x) → Walks p.left
    section_walk n p hp below v i hv a b = go i a b
      where
        rising : leave_numbers p.steps ≡ from_on 1 v
        rising = (lawful.sequenced n p hp).left_sections v hv

        starting : (i t : ℕ) → Starts p i t → any is_leave (drop t p.steps) ≡ true → (ms : List Mark) × Loose s members p.left i ms
        starting i t st e = let w = go_on n p hp below (drop t p.steps) t refl e in (at_start s members p i ++ w.0, pick n i t p hp st w.1)

        some_leave : (v : ℕ) → leave_numbers p.steps ≡ from_on 1 v → 1 ≤ v → any is_leave p.steps ≡ true
        some_leave zero e h = absurd (omega arith)
        some_leave (suc v) e h = leave_comes p.steps 1 v e

        go : (i : ℕ) → 1 ≤ i → i ≤ v → (ms : List Mark) × Loose s members p.left i ms
        go zero a b = absurd (omega arith)
        go (suc zero) a b = starting 1 0 first (some_leave v rising (omega arith))
        go (suc (suc i)) a b =
            let t = leave_at p.steps 1 v (suc i) rising (omega arith) (omega arith) in
            starting (suc (suc i)) (suc t.0) (after (suc i) t.0 t.1) (leave-follows p.steps 1 v t.0 (suc i) rising t.1 (omega arith))

    finite_walks : {x : ℕ} → Finite s x → Walks x
    finite_walks (by n p hp below) = section_walk n p hp (λ k x h. finite_walks (below k x h))

    -- every section of every symbol has a walk
    pub has_walk : (x v i : ℕ) → Has s.visits x v → 1 ≤ i → i ≤ v → (ms : List Mark) × Loose s members x i ms
    has_walk x v i hv a b = finite_walks (lawful.finite x v hv) v i hv a b
