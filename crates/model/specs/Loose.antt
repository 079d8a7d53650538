-- Lives, and the loose walks in which a set of attributes may share one cell. Assumes nothing.
use Rattle.std.specs.Prelude.{◌≡◌, ℕ, suc, Bool, true, false, cond, ◌&&◌, List, [], ◌∷◌, ◌++◌, ◌==◌}
use Rattle.std.proofs.Math.Option.{some}
use Rattle.model.specs.Lists.{Has, any, keep, places}
use Rattle.model.specs.Scheme.{Side, inherited, synthesized, Occurrence, Rule, eval, visit, leave, Production, Scheme, same_occurrence, symbol_at}
use Rattle.model.specs.Sequences.{unused, last_use}

-- a life begins or ends
pub data Mark : Type 0 where
  begin end : Mark

pub data Cell : Type 0 where
  empty held broken : Cell

-- a begin when held and an end when empty break the walk
abbrev pub meet : Cell → Mark → Cell
meet empty begin = held
meet empty end = broken
meet held begin = broken
meet held end = empty
meet broken m = broken

abbrev pub meets : Cell → List Mark → Cell
meets c [] = c
meets c (m ∷ ms) = meets (meet c m) ms

abbrev pub is_side : Side → Side → Bool
is_side inherited inherited = true
is_side inherited synthesized = false
is_side synthesized inherited = false
is_side synthesized synthesized = true

-- the attributes of symbol x on that side for visit j, rising
abbrev pub of_visit : Scheme → ℕ → Side → ℕ → List ℕ
of_visit s x d j = places (λ a. (a.symbol == x) && (is_side a.side d && a.visit == j)) 0 s.attributes

-- each occurrence once
abbrev pub distinct : List Occurrence → List Occurrence
distinct [] = []
distinct (o ∷ os) = cond (any (same_occurrence o) os) (distinct os) (o ∷ distinct os)

abbrev pub ends : List Occurrence → List Mark
ends [] = []
ends (o ∷ os) = end ∷ ends os

module _ (s : Scheme) (members : ℕ → Bool) where
  -- lives that no step uses end at the earliest point: inherited where their section starts, synthesized right after the visit that brings them
  abbrev pub unused_ends : Production → ℕ → List ℕ → List Mark
  unused_ends p k [] = []
  unused_ends p k (a ∷ more) = cond (members a && unused p (record { position = k; attribute = a })) (end ∷ unused_ends p k more) (unused_ends p k more)

  abbrev pub at_start : Production → ℕ → List Mark
  at_start p i = unused_ends p 0 (of_visit s p.left inherited i)

  abbrev pub after_visit : Production → ℕ → ℕ → ℕ → List Mark
  after_visit p k x j = unused_ends p k (of_visit s x synthesized j)

  -- EVAL ends once the life of each argument that no later step uses, and then begins its target's
  abbrev pub at_eval : Production → ℕ → Rule → List Mark
  at_eval p t r = ends (keep (λ o. members o.attribute && last_use p t o) (distinct r.arguments)) ++ cond (members r.target.attribute) (begin ∷ []) []

-- the place at which section i starts
pub data Starts (p : Production) : ℕ → ℕ → Type 0 where
  first : Starts p 1 0
  after : (i t : ℕ) → Has p.steps t (leave i) → Starts p (suc i) (suc t)

-- a loose walk of section i of symbol x picks any production of x, and picks anew at every visit
mutual
  pub data Loose (s : Scheme) (members : ℕ → Bool) : ℕ → ℕ → List Mark → Type 0 where
    pick : (n i t : ℕ) (p : Production) {ms : List Mark} → Has s.productions n p → Starts p i t → Along s members p t ms → Loose s members p.left i (at_start s members p i ++ ms)

  pub data Along (s : Scheme) (members : ℕ → Bool) : Production → ℕ → List Mark → Type 0 where
    leaves : (p : Production) (t i : ℕ) → Has p.steps t (leave i) → Along s members p t []
    evals : (p : Production) (t n : ℕ) (r : Rule) {ms : List Mark} → Has p.steps t (eval n) → Has p.rules n r → Along s members p (suc t) ms → Along s members p t (at_eval s members p t r ++ ms)
    visits : (p : Production) (t k j x : ℕ) {ls ms : List Mark} → Has p.steps t (visit k j) → symbol_at p k ≡ some x → Loose s members x j ls → Along s members p (suc t) ms → Along s members p t (ls ++ (after_visit s members p k x j ++ ms))

-- the lives of all members together alternate
abbrev pub Alternate : Scheme → (ℕ → Bool) → Type 0
Alternate s members = (ms : List Mark) → Loose s members 0 1 ms → meets empty ms ≡ empty
