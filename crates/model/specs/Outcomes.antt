-- Outcomes of loose walks: which cells a walk of a section can leave from which, as a table of flags, and the rounds that fill it. Assumes nothing.
use Rattle.std.specs.Prelude.{◌≡◌, ℕ, zero, suc, ◌+◌, ◌*◌, Bool, true, false, cond, not, ◌&&◌, ◌||◌, List, [], ◌∷◌, length, drop, replicate, nat_lt, slice_index_or, slice_set}
use Rattle.std.proofs.Math.Option.{Option, none, some}
use Rattle.std.proofs.Math.ListN.{get_elem?}
use Rattle.model.specs.Lists.{Has}
use Rattle.model.specs.Scheme.{Rule, Step, eval, visit, leave, Production, Scheme, symbol_at}
use Rattle.model.specs.Loose.{Mark, begin, end, Cell, empty, held, broken, meets, at_start, after_visit, at_eval, Starts, Loose}

-- a set of cells
pub record Cells : Type 0 where
  pub e : Bool
  pub h : Bool
  pub b : Bool

abbrev pub has : Cells → Cell → Bool
has f empty = f.e
has f held = f.h
has f broken = f.b

abbrev pub only : Cell → Cells
only empty = record { e = true; h = false; b = false }
only held = record { e = false; h = true; b = false }
only broken = record { e = false; h = false; b = true }

abbrev pub nowhere : Cells
nowhere = record { e = false; h = false; b = false }

abbrev pub mark : Cells → Mark → Cells
mark f begin = record { e = false; h = f.e; b = f.h || f.b }
mark f end = record { e = f.h; h = false; b = f.e || f.b }

abbrev pub marks : Cells → List Mark → Cells
marks f [] = f
marks f (m ∷ ms) = marks (mark f m) ms

-- symbol, section, from, to
abbrev pub Outcomes : Type 0
Outcomes = ℕ → ℕ → Cell → Cell → Bool

abbrev pub reach : Outcomes → ℕ → ℕ → Cells → Cell → Bool
reach out x i f d = (f.e && out x i empty d) || ((f.h && out x i held d) || (f.b && out x i broken d))

-- where a walk of section i of symbol x can end from the cells of f
abbrev pub over : Outcomes → ℕ → ℕ → Cells → Cells
over out x i f = record { e = reach out x i f empty; h = reach out x i f held; b = reach out x i f broken }

-- the cells of f are ends that the table has
abbrev pub Within : Outcomes → ℕ → ℕ → Cell → Cells → Type 0
Within out x i c f = (d : Cell) → has f d ≡ true → out x i c d ≡ true

module _ (s : Scheme) (members : ℕ → Bool) where
  abbrev pub by_eval : Production → ℕ → Option Rule → Cells → Cells
  by_eval p t none f = nowhere
  by_eval p t (some r) f = marks f (at_eval s members p t r)

  abbrev pub by_visit : Outcomes → Production → ℕ → ℕ → Option ℕ → Cells → Cells
  by_visit out p k j none f = nowhere
  by_visit out p k j (some x) f = marks (over out x j f) (after_visit s members p k x j)

  abbrev pub opening : Production → ℕ → Cell → Cells
  opening p i c = marks (only c) (at_start s members p i)

  -- where steps ts, which begin at place t, lead up to their first LEAVE from the cells of f
  abbrev pub run : Outcomes → Production → ℕ → List Step → Cells → Cells
  run out p t [] f = nowhere
  run out p t (eval n ∷ ts) f = run out p (suc t) ts (by_eval p t (get_elem? p.rules n) f)
  run out p t (visit k j ∷ ts) f = run out p (suc t) ts (by_visit out p k j (symbol_at p k) f)
  run out p t (leave i ∷ ts) f = f

  -- each entry is some walk's
  abbrev pub Sound : Outcomes → Type 0
  Sound out = (x i : ℕ) (c d : Cell) → out x i c d ≡ true → (ms : List Mark) × Loose s members x i ms × (meets c ms ≡ d)

  -- no section leads further than its entries say
  abbrev pub Closed : Outcomes → Type 0
  Closed out = (n i t : ℕ) (p : Production) (c : Cell) → Has s.productions n p → Starts p i t → Within out p.left i c (run out p t (drop t p.steps) (opening p i c))

-- The table of flags: 6 sections a symbol, of which section 0 stays empty and section 5 is where the steps end; 3 cells each way.
abbrev pub code : Cell → ℕ
code empty = 0
code held = 1
code broken = 2

abbrev pub place : ℕ → ℕ → Cell → Cell → ℕ
place x i c d = ((x * 6 + i) * 3 + code c) * 3 + code d

abbrev pub at : List Bool → Outcomes
at t x i c d = nat_lt i 6 && slice_index_or t (place x i c d) false

pub record Filling : Type 0 where
  pub table : List Bool
  pub changed : Bool

abbrev pub enter : ℕ → Filling → Filling
enter k w = record { table = slice_set w.table k true; changed = true }

abbrev pub put : ℕ → ℕ → Cell → Cell → Bool → Filling → Filling
put x i c d flag w = cond (flag && not (at w.table x i c d)) (enter (place x i c d) w) w

abbrev pub put_all : ℕ → ℕ → Cell → Cells → Filling → Filling
put_all x i c f w = put x i c broken f.b (put x i c held f.h (put x i c empty f.e w))

module _ (s : Scheme) (members : ℕ → Bool) where
  -- through the steps ts of p, which begin at place t in section i, where the section's start from c has led to f
  abbrev pub through : Production → Cell → ℕ → ℕ → List Step → Cells → Filling → Filling
  through p c i t [] f w = w
  through p c i t (eval n ∷ ts) f w = through p c i (suc t) ts (by_eval s members p t (get_elem? p.rules n) f) w
  through p c i t (visit k j ∷ ts) f w = through p c i (suc t) ts (by_visit s members (at w.table) p k j (symbol_at p k) f) w
  through p c i t (leave l ∷ ts) f w = through p c (suc l) (suc t) ts (opening s members p (suc l) c) (put_all p.left i c f w)

  abbrev pub pass : Production → Cell → Filling → Filling
  pass p c w = through p c 1 0 p.steps (opening s members p 1 c) w

  -- every production from one start
  abbrev pub passes : Cell → List Production → Filling → Filling
  passes c [] w = w
  passes c (p ∷ ps) w = passes c ps (pass p c w)

  abbrev pub three : Filling → Filling
  three w = passes broken s.productions (passes held s.productions (passes empty s.productions w))

  abbrev pub round : List Bool → Filling
  round t = three (record { table = t; changed = false })

  abbrev pub rounds : ℕ → List Bool → List Bool
  rounds zero t = t
  rounds (suc n) t = let r = round t in let more = rounds n r.table in cond r.changed more r.table

  abbrev pub blank : List Bool
  blank = replicate (54 * length s.visits) false

  abbrev pub outcomes : List Bool
  outcomes = rounds (suc (54 * length s.visits)) blank

  abbrev pub decide : Bool
  decide = not (at outcomes 0 1 empty held) && not (at outcomes 0 1 empty broken)
