-- From the single checks to the first rule that is broken. Assumes nothing.
use Rattle.std.proofs.Common.{◌≡◌, ℕ, ◌+◌, ◌<◌, ◌≤◌, ◌⊎◌, List, length, subst, inl, inr, arith}
use Rattle.std.proofs.lemmas.Bool.{cases_lt}
use Rattle.model.specs.Lists.{Has}
use Rattle.model.specs.Scheme.{Production, Scheme}
use Rattle.model.specs.Lawful.{Lawful, Ruled, Evaluated, Sequenced, Ordered}
use Rattle.model.specs.Checking.{ruled, evaluated, sequenced, ordered, Keeps, ProductionKept, SymbolsKept, BeforeProduction, FirstBroken}
use Rattle.model.proofs.Common.Basics.{has_one}
use Rattle.model.proofs.Common.ListFacts.{has-below}

-- what holds of the production that stands at a place holds of any that stands there
at_place : (ps : List Production) (n : ℕ) (p : Production) (P : Production → Type 0) → Has ps n p → P p → (p' : Production) → Has ps n p' → P p'
at_place ps n p P h x p' h' = subst P (has_one ps n h h') x

module _ (s : Scheme) (n : ℕ) (p : Production) (there : Has s.productions n p) where
  pub keeps_ruled : Ruled s p → Keeps s (ruled n)
  keeps_ruled h = at_place s.productions n p (Ruled s) there h

  pub keeps_evaluated : Evaluated p → Keeps s (evaluated n)
  keeps_evaluated h = at_place s.productions n p Evaluated there h

  pub keeps_sequenced : Sequenced s p → Keeps s (sequenced n)
  keeps_sequenced h = at_place s.productions n p (Sequenced s) there h

  pub keeps_ordered : (t : ℕ) → Ordered s p t → Keeps s (ordered n t)
  keeps_ordered t h = at_place s.productions n p (λ q. Ordered s q t) there h

  pub not-ruled : (Ruled s p → ⊥) → BeforeProduction s n → FirstBroken s (ruled n)
  not-ruled h b = record { before = b; broken = λ k. h (k p there) }

  pub not-evaluated : Ruled s p → (Evaluated p → ⊥) → BeforeProduction s n → FirstBroken s (evaluated n)
  not-evaluated r h b = record { before = (b, keeps_ruled r); broken = λ k. h (k p there) }

  pub not-sequenced : Ruled s p → Evaluated p → (Sequenced s p → ⊥) → BeforeProduction s n → FirstBroken s (sequenced n)
  not-sequenced r e h b = record { before = (b, keeps_ruled r, keeps_evaluated e); broken = λ k. h (k p there) }

  pub not-ordered : Ruled s p → Evaluated p → Sequenced s p → (t : ℕ) → (Ordered s p t → ⊥) × ((u : ℕ) → u < t → Ordered s p u) → BeforeProduction s n → FirstBroken s (ordered n t)
  not-ordered r e q t h b = record { before = (b, keeps_ruled r, keeps_evaluated e, keeps_sequenced q, (λ u l. keeps_ordered u (h.1 u l))); broken = λ k. h.0 (k p there) }

  pub production_kept : Ruled s p → Evaluated p → Sequenced s p → ((t : ℕ) → Ordered s p t) → ProductionKept s n
  production_kept r e q o = record { is_ruled = keeps_ruled r; is_evaluated = keeps_evaluated e; is_sequenced = keeps_sequenced q; is_ordered = λ t. keeps_ordered t (o t) }

pub one_more_kept : (s : Scheme) (n : ℕ) → ((m : ℕ) → m < n → ProductionKept s m) → ProductionKept s n → (m : ℕ) → m < n + 1 → ProductionKept s m
one_more_kept s n below here m l = go (cases_lt m n)
  where
    go : (m < n) ⊎ (n ≤ m) → ProductionKept s m
    go (inl k) = below m k
    go (inr k) = let e : n ≡ m = omega arith in subst (λ (i : ℕ). ProductionKept s i) e here

-- every rule is kept
pub all_kept : (s : Scheme) (n : ℕ) → length s.productions ≤ n → SymbolsKept s → ((m : ℕ) → m < n → ProductionKept s m) → Lawful s
all_kept s n l symbols below = record {
  root_visits = symbols.is_rooted.one_visit;
  root_inherits_nothing = symbols.is_rooted.inherits_nothing;
  root_no_child = symbols.is_rooted.no_child;
  finite = symbols.all_finite;
  reached = symbols.all_reached;
  ruled = λ m p h. (below m (inside m p h)).is_ruled p h;
  evaluated = λ m p h. (below m (inside m p h)).is_evaluated p h;
  sequenced = λ m p h. (below m (inside m p h)).is_sequenced p h;
  ordered = λ m t p h. (below m (inside m p h)).is_ordered t p h;
}
  where
    inside : (m : ℕ) (p : Production) → Has s.productions m p → m < n
    inside m p h = let b = has-below s.productions m p h in omega arith
