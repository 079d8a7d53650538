-- A scheme is lawful exactly where it keeps every rule, and at most one rule is the first that it breaks. Assumes nothing.
use Rattle.std.proofs.Common.{◌≡◌, ℕ, zero, suc, ◌<◌, ◌≤◌, sym, refl, ◌∙◌, subst, inl, inr, arith}
use Rattle.std.proofs.lemmas.Bool.{cases_lt}
use Rattle.model.specs.Scheme.{Scheme}
use Rattle.model.specs.Lawful.{Lawful}
use Rattle.model.specs.Checking.{Rooted, Check, root, finite, reached, ruled, evaluated, sequenced, ordered, Keeps, BeforeProduction, KeptBefore, FirstBroken}

pub lawful_keeps : (s : Scheme) → Lawful s → (c : Check) → Keeps s c
lawful_keeps s l root = record { one_visit = l.root_visits; inherits_nothing = l.root_inherits_nothing; no_child = l.root_no_child }
lawful_keeps s l (finite x) = l.finite x
lawful_keeps s l (reached x) = l.reached x
lawful_keeps s l (ruled n) = l.ruled n
lawful_keeps s l (evaluated n) = l.evaluated n
lawful_keeps s l (sequenced n) = l.sequenced n
lawful_keeps s l (ordered n t) = l.ordered n t

pub keeps_lawful : (s : Scheme) → ((c : Check) → Keeps s c) → Lawful s
keeps_lawful s k = record {
  root_visits = (k root).one_visit;
  root_inherits_nothing = (k root).inherits_nothing;
  root_no_child = (k root).no_child;
  finite = λ x. k (finite x);
  reached = λ x. k (reached x);
  ruled = λ n. k (ruled n);
  evaluated = λ n. k (evaluated n);
  sequenced = λ n. k (sequenced n);
  ordered = λ n t. k (ordered n t);
}

pub lawful_unbroken : (s : Scheme) (c : Check) → Lawful s → FirstBroken s c → ⊥
lawful_unbroken s c l b = b.broken (lawful_keeps s l c)

-- What is asked, in rows one after the other: the root and whether each symbol derives a finite tree; whether each is reached; then a row for each production.
abbrev asked : ℕ → ℕ → Check
asked zero zero = root
asked zero (suc x) = finite x
asked (suc zero) x = reached x
asked (suc (suc n)) zero = ruled n
asked (suc (suc n)) (suc zero) = evaluated n
asked (suc (suc n)) (suc (suc zero)) = sequenced n
asked (suc (suc n)) (suc (suc (suc t))) = ordered n t

-- the row and the place at which it is asked
abbrev row : Check → ℕ
row root = 0
row (finite x) = 0
row (reached x) = 1
row (ruled n) = suc (suc n)
row (evaluated n) = suc (suc n)
row (sequenced n) = suc (suc n)
row (ordered n t) = suc (suc n)

abbrev place : Check → ℕ
place root = 0
place (finite x) = suc x
place (reached x) = x
place (ruled n) = 0
place (evaluated n) = 1
place (sequenced n) = 2
place (ordered n t) = suc (suc (suc t))

asked_there : (c : Check) → asked (row c) (place c) ≡ c
asked_there root = refl
asked_there (finite x) = refl
asked_there (reached x) = refl
asked_there (ruled n) = refl
asked_there (evaluated n) = refl
asked_there (sequenced n) = refl
asked_there (ordered n t) = refl

-- all that is asked in the rows before g, and in row g before place x, holds
record KeptTo (s : Scheme) (g x : ℕ) : Type 0 where
  rows : (j y : ℕ) → j < g → Keeps s (asked j y)
  places : (y : ℕ) → y < x → Keeps s (asked g y)

first_row : (s : Scheme) (x : ℕ) → Rooted s → ((y : ℕ) → y < x → Keeps s (finite y)) → (y : ℕ) → y < suc x → Keeps s (asked 0 y)
first_row s x r f zero l = r
first_row s x r f (suc y) l = f y (omega arith)

production_row : (s : Scheme) (n x : ℕ) → (0 < x → Keeps s (ruled n)) → (1 < x → Keeps s (evaluated n)) → (2 < x → Keeps s (sequenced n)) → ((t : ℕ) → suc (suc (suc t)) < x → Keeps s (ordered n t)) → (y : ℕ) → y < x → Keeps s (asked (suc (suc n)) y)
production_row s n x r e q o zero l = r l
production_row s n x r e q o (suc zero) l = e l
production_row s n x r e q o (suc (suc zero)) l = q l
production_row s n x r e q o (suc (suc (suc t))) l = o t l

rows_before : (s : Scheme) (n : ℕ) → BeforeProduction s n → (j y : ℕ) → j < suc (suc n) → Keeps s (asked j y)
rows_before s n b zero y l = first_row s y b.0.is_rooted (λ z m. b.0.all_finite z) y (omega arith)
rows_before s n b (suc zero) y l = b.0.all_reached y
rows_before s n b (suc (suc m)) y l =
    let k = b.1 m (omega arith)
    in production_row s m (suc y) (λ h. k.is_ruled) (λ h. k.is_evaluated) (λ h. k.is_sequenced) (λ t h. k.is_ordered t) y (omega arith)

kept_to : (s : Scheme) (c : Check) → KeptBefore s c → KeptTo s (row c) (place c)
kept_to s root b = record { rows = λ j y l. absurd (omega arith); places = λ y l. absurd (omega arith) }
kept_to s (finite x) b = record { rows = λ j y l. absurd (omega arith); places = first_row s x b.0 b.1 }
kept_to s (reached x) b = record { rows = above; places = b.2 }
  where
    above : (j y : ℕ) → j < 1 → Keeps s (asked j y)
    above zero y l = first_row s y b.0 (λ z m. b.1 z) y (omega arith)
    above (suc j) y l = absurd (omega arith)
kept_to s (ruled n) b = record { rows = rows_before s n b; places = λ y l. absurd (omega arith) }
kept_to s (evaluated n) b = record {
  rows = rows_before s n b.0;
  places = production_row s n 1 (λ l. b.1) (λ l. absurd (omega arith)) (λ l. absurd (omega arith)) (λ t l. absurd (omega arith));
}
kept_to s (sequenced n) b = record {
  rows = rows_before s n b.0;
  places = production_row s n 2 (λ l. b.1) (λ l. b.2) (λ l. absurd (omega arith)) (λ t l. absurd (omega arith));
}
kept_to s (ordered n t) b = record {
  rows = rows_before s n b.0;
  places = production_row s n (suc (suc (suc t))) (λ l. b.1) (λ l. b.2) (λ l. b.3) (λ u l. b.4 u (omega arith));
}

unless_below : (m n : ℕ) → (n < m → ⊥) → m ≤ n
unless_below m n h = elim (cases_lt n m) [ inl l ↦ absurd (h l) | inr l ↦ l ]

-- one that is the first broken does not stand after another that is
not-before : (s : Scheme) (c d : Check) → FirstBroken s c → FirstBroken s d → (row c ≤ row d) × (row c ≡ row d → place c ≤ place d)
not-before s c d h k = (
  unless_below (row c) (row d) (λ l. bad (up_to.rows (row d) (place d) l)),
  λ e. unless_below (place c) (place d) (λ l. bad (subst (λ (g : ℕ). Keeps s (asked g (place d))) e (up_to.places (place d) l))),
)
  where
    up_to : KeptTo s (row c) (place c)
    up_to = kept_to s c h.before

    bad : Keeps s (asked (row d) (place d)) → ⊥
    bad q = k.broken (subst (λ (a : Check). Keeps s a) (asked_there d) q)

pub first_broken_once : (s : Scheme) (c d : Check) → FirstBroken s c → FirstBroken s d → c ≡ d
first_broken_once s c d h k =
    let p = not-before s c d h k in
    let q = not-before s d c k h in
    let e : row c ≡ row d = omega (arith, p.0, q.0) in
    let f : place c ≡ place d = omega (arith, p.1 e, q.1 (sym e)) in
    let between : asked (row c) (place c) ≡ asked (row d) (place d) = λ i. asked (e i) (f i) in
    sym (asked_there c) ∙ between ∙ asked_there d
