-- Every event of a scheme's tape is in range; and the tape as the loops that write it go through it. Assumes nothing.
use Rattle.std.proofs.Common.{◌≡◌, ℕ, zero, suc, ◌+◌, ◌<◌, ◌≤◌, Bool, true, false, cond, not, ◌&&◌, List, [], ◌∷◌, ◌++◌, length, get_or, refl, subst, arith}
use mathlib.Core.Option.{Option, none, some}
use lib.ListN.{get_elem?}
use Rattle.model.specs.Lists.{Has, any, keep, places}
use Rattle.model.specs.Scheme.{Side, inherited, synthesized, Attribute, Occurrence, Rule, Step, eval, visit, leave, Production, Scheme, same_occurrence, symbol_at}
use Rattle.model.specs.Sequences.{unused, last_use}
use Rattle.model.specs.Loose.{of_visit, distinct}
use Rattle.model.specs.Formed.{Formed}
use Rattle.model.proofs.Plan.Mirror.{fits}
use Rattle.model.specs.Tape.{Event, opens, ends, begins, visits, leaves, unused_events, section_events, end_events, rule_events, visit_events, step_events, steps_events, production_tape, tapes, tape}
use Rattle.model.proofs.Common.Form.{left-symbol, child_symbol, target_attribute, argument_attribute, few_leaves}

-- the event's symbols are below n, its sections below 6 and its attributes below m
abbrev pub Fitting : ℕ → ℕ → Event → Type 0
Fitting n m (opens x) = x < n
Fitting n m (ends a) = a < m
Fitting n m (begins a) = a < m
Fitting n m (visits x j) = (x < n) × (j < 6)
Fitting n m (leaves l) = l < 5

abbrev pub All {ℓ} : {A : Type ℓ} → (A → Type 0) → List A → Type 0
All P [] = Unit {0}
All P (x ∷ xs) = P x × All P xs

pub all-++ {ℓ} : {A : Type ℓ} (P : A → Type 0) (xs ys : List A) → All P xs → All P ys → All P (xs ++ ys)
all-++ P [] ys a b = b
all-++ P (x ∷ xs) ys a b = (a.0, all-++ P xs ys a.1 b)

pub all_at {ℓ} : {A : Type ℓ} (P : A → Type 0) (xs : List A) (k : ℕ) (d : A) → All P xs → k < length xs → P (get_or xs k d)
all_at P [] k d a h = absurd (omega arith)
all_at P (x ∷ xs) zero d a h = a.0
all_at P (x ∷ xs) (suc k) d a h = all_at P xs k d a.1 (omega arith)

pub all_has {ℓ} : {A : Type ℓ} (P : A → Type 0) (xs : List A) → ((k : ℕ) (x : A) → Has xs k x → P x) → All P xs
all_has P [] h = tt
all_has P (x ∷ xs) h = (h 0 x refl, all_has P xs (λ k y e. h (suc k) y e))

pub all_keep : {A : Type 0} (P : A → Type 0) (f : A → Bool) (xs : List A) → All P xs → All P (keep f xs)
all_keep P f [] a = tt
all_keep P f (x ∷ xs) a = go (f x) (all_keep P f xs a.1)
  where
    go : (b : Bool) → All P (keep f xs) → All P (cond b (x ∷ keep f xs) (keep f xs))
    go true r = (a.0, r)
    go false r = r

pub all_distinct : (P : Occurrence → Type 0) (os : List Occurrence) → All P os → All P (distinct os)
all_distinct P [] a = tt
all_distinct P (o ∷ os) a = go (any (same_occurrence o) os) (all_distinct P os a.1)
  where
    go : (b : Bool) → All P (distinct os) → All P (cond b (distinct os) (o ∷ distinct os))
    go true r = r
    go false r = (a.0, r)

pub places_below {ℓ} : {A : Type ℓ} (f : A → Bool) (n m : ℕ) (xs : List A) → n + length xs ≤ m → All (λ (a : ℕ). a < m) (places f n xs)
places_below f n m [] h = tt
places_below f n m (x ∷ xs) h = go (f x) (places_below f (suc n) m xs (omega arith))
  where
    go : (b : Bool) → All (λ (a : ℕ). a < m) (places f (suc n) xs) → All (λ (a : ℕ). a < m) (cond b (n ∷ places f (suc n) xs) (places f (suc n) xs))
    go true r = (omega arith, r)
    go false r = r

module _ (s : Scheme) (formed : Formed s) where
  Fit : Event → Type 0
  Fit = Fitting (length s.visits) (length s.attributes)

  unused_fit : (p : Production) (k : ℕ) (ns : List ℕ) → All (λ (a : ℕ). a < length s.attributes) ns → All Fit (unused_events p k ns)
  unfolding Fit
  unused_fit p k [] h = tt
  unused_fit p k (a ∷ ns) h = go (unused p (record { position = k; attribute = a })) (unused_fit p k ns h.1)
    where
      go : (b : Bool) → All Fit (unused_events p k ns) → All Fit (cond b (ends a ∷ unused_events p k ns) (unused_events p k ns))
      go true r = (h.0, r)
      go false r = r

  visit_fit : (p : Production) (k x : ℕ) (d : Side) (j : ℕ) → All Fit (unused_events p k (of_visit s x d j))
  visit_fit p k x d j = unused_fit p k (of_visit s x d j) (places_below (fits x d j) 0 (length s.attributes) s.attributes (omega arith))

  ends_fit : (os : List Occurrence) → All (λ (o : Occurrence). o.attribute < length s.attributes) os → All Fit (end_events os)
  unfolding Fit
  ends_fit [] h = tt
  ends_fit (o ∷ os) h = (h.0, ends_fit os h.1)

  module _ (n : ℕ) (p : Production) (hp : Has s.productions n p) where
    rule_fit : (t m : ℕ) (o : Option Rule) → get_elem? p.rules m ≡ o → All Fit (rule_events p t o)
    unfolding Fit
    rule_fit t m none e = tt
    rule_fit t m (some r) e =
        all-++ Fit (end_events (keep (last_use p t) (distinct r.arguments))) (begins r.target.attribute ∷ [])
        (ends_fit (keep (last_use p t) (distinct r.arguments)) (all_keep (λ (o : Occurrence). o.attribute < length s.attributes) (last_use p t) (distinct r.arguments)
        (all_distinct (λ (o : Occurrence). o.attribute < length s.attributes) r.arguments
        (all_has (λ (o : Occurrence). o.attribute < length s.attributes) r.arguments (λ k o h. argument_attribute formed n m k p r o hp e h)))))
        (target_attribute formed n m p r hp e, tt)

    seen_fit : (t k j : ℕ) → Has p.steps t (visit k j) → (o : Option ℕ) → symbol_at p k ≡ o → All Fit (visit_events s p k j o)
    unfolding Fit
    seen_fit t k j h none e = tt
    seen_fit t k j h (some x) e =
        let c = formed.visits_child n t k j p hp h in
        let hx : Has p.children c.0 x = subst (λ (q : ℕ). symbol_at p q ≡ some x) c.2 e in
        let small = child_symbol formed n c.0 x p hp hx in
        let v = formed.child_known n c.0 x p hp hx in
        let in_range = formed.visit_number n t c.0 x v.0 j p hp (subst (λ (q : ℕ). Has p.steps t (visit q j)) c.2 h) hx v.1 in
        let four = formed.visit_count x v.0 v.1 in
        ((small, omega arith), visit_fit p k x synthesized j)

    step_fit : (t : ℕ) (st : Step) → Has p.steps t st → All Fit (step_events s p t st)
    unfolding Fit
    step_fit t (eval m) h = rule_fit t m (get_elem? p.rules m) refl
    step_fit t (visit k j) h = seen_fit t k j h (symbol_at p k) refl
    step_fit t (leave l) h = (few_leaves formed n t l p hp h, visit_fit p 0 p.left inherited (suc l))

    steps_fit : (ts : List Step) (t : ℕ) → ((k : ℕ) (st : Step) → Has ts k st → Has p.steps (t + k) st) → All Fit (steps_events s p t ts)
    steps_fit [] t h = tt
    steps_fit (st ∷ ts) t h = all-++ Fit (step_events s p t st) (steps_events s p (suc t) ts)
        (step_fit t st (subst (λ (q : ℕ). Has p.steps q st) (omega arith) (h 0 st refl)))
        (steps_fit ts (suc t) (λ k u e. subst (λ (q : ℕ). Has p.steps q u) (omega arith) (h (suc k) u e)))

    production_fit : All Fit (production_tape s p)
    unfolding Fit
    production_fit = (left-symbol formed n p hp, all-++ Fit (section_events s p 1) (steps_events s p 0 p.steps) (visit_fit p 0 p.left inherited 1) (steps_fit p.steps 0 (λ k u e. subst (λ (q : ℕ). Has p.steps q u) (omega arith) e)))

  tapes_fit : (ps : List Production) → ((k : ℕ) (p : Production) → Has ps k p → (n : ℕ) × Has s.productions n p) → All Fit (tapes s ps)
  tapes_fit [] among = tt
  tapes_fit (p ∷ ps) among = all-++ Fit (production_tape s p) (tapes s ps) (let n = among 0 p refl in production_fit n.0 p n.1) (tapes_fit ps (λ k q h. among (suc k) q h))

  pub tape_fits : (k : ℕ) (d : Event) → k < length (tape s) → Fitting (length s.visits) (length s.attributes) (get_or (tape s) k d)
  unfolding Fit
  tape_fits k d h = all_at Fit (tape s) k d (tapes_fit s.productions (λ k p e. (k, e))) h

-- The loops that write the tape: of what is left to write, the first part is written each turn.
pub unused-next : (p : Production) (k x : ℕ) (d : Side) (j n : ℕ) (b : Attribute) (bs : List Attribute) → unused_events p k (places (fits x d j) n (b ∷ bs)) ≡ cond (fits x d j b && unused p (record { position = k; attribute = n })) (ends n ∷ []) [] ++ unused_events p k (places (fits x d j) (suc n) bs)
unused-next p k x d j n b bs = go (fits x d j b) (unused p (record { position = k; attribute = n })) refl
  where
    go : (fit u : Bool) → unused p (record { position = k; attribute = n }) ≡ u → unused_events p k (cond fit (n ∷ places (fits x d j) (suc n) bs) (places (fits x d j) (suc n) bs)) ≡ cond (fit && unused p (record { position = k; attribute = n })) (ends n ∷ []) [] ++ unused_events p k (places (fits x d j) (suc n) bs)
    go true u e = by (unused p (record { position = k; attribute = n })) (unused_events p k (places (fits x d j) (suc n) bs))
      where
        by : (u : Bool) (es : List Event) → cond u (ends n ∷ es) es ≡ cond u (ends n ∷ []) [] ++ es
        by true es = refl
        by false es = refl
    go false u e = refl

pub rule-next : (p : Production) (t : ℕ) (o : Occurrence) (os : List Occurrence) → end_events (keep (last_use p t) (distinct (o ∷ os))) ≡ cond (not (any (same_occurrence o) os) && last_use p t o) (ends o.attribute ∷ []) [] ++ end_events (keep (last_use p t) (distinct os))
rule-next p t o os = go (any (same_occurrence o) os)
  where
    by : (u : Bool) (ks : List Occurrence) → end_events (cond u (o ∷ ks) ks) ≡ cond u (ends o.attribute ∷ []) [] ++ end_events ks
    by true ks = refl
    by false ks = refl

    go : (again : Bool) → end_events (keep (last_use p t) (cond again (distinct os) (o ∷ distinct os))) ≡ cond (not again && last_use p t o) (ends o.attribute ∷ []) [] ++ end_events (keep (last_use p t) (distinct os))
    go true = refl
    go false = by (last_use p t o) (keep (last_use p t) (distinct os))
