-- A scheme's productions as one tape of events, which a loop can play once for each start. Assumes nothing.
use Rattle.std.specs.Prelude.{ℕ, suc, Bool, cond, List, [], ◌∷◌, ◌++◌}
use Rattle.std.proofs.Math.Option.{Option, none, some}
use Rattle.std.proofs.Math.ListN.{get_elem?}
use Rattle.model.specs.Lists.{keep}
use Rattle.model.specs.Scheme.{inherited, synthesized, Occurrence, Rule, Step, eval, visit, leave, Production, Scheme, symbol_at}
use Rattle.model.specs.Sequences.{unused, last_use}
use Rattle.model.specs.Loose.{begin, end, Cell, empty, held, broken, of_visit, distinct}
use Rattle.model.specs.Outcomes.{Cells, only, mark, over, at, Filling, put_all}

-- a production of a symbol begins; the life of an attribute ends or begins; a section of a symbol is visited; a section ends with its LEAVE
pub data Event : Type 0 where
  opens : ℕ → Event
  ends : ℕ → Event
  begins : ℕ → Event
  visits : ℕ → ℕ → Event
  leaves : ℕ → Event

abbrev pub unused_events : Production → ℕ → List ℕ → List Event
unused_events p k [] = []
unused_events p k (a ∷ more) = cond (unused p (record { position = k; attribute = a })) (ends a ∷ unused_events p k more) (unused_events p k more)

abbrev pub section_events : Scheme → Production → ℕ → List Event
section_events s p i = unused_events p 0 (of_visit s p.left inherited i)

abbrev pub end_events : List Occurrence → List Event
end_events [] = []
end_events (o ∷ os) = ends o.attribute ∷ end_events os

abbrev pub rule_events : Production → ℕ → Option Rule → List Event
rule_events p t none = []
rule_events p t (some r) = end_events (keep (last_use p t) (distinct r.arguments)) ++ (begins r.target.attribute ∷ [])

abbrev pub visit_events : Scheme → Production → ℕ → ℕ → Option ℕ → List Event
visit_events s p k j none = []
visit_events s p k j (some x) = visits x j ∷ unused_events p k (of_visit s x synthesized j)

abbrev pub step_events : Scheme → Production → ℕ → Step → List Event
step_events s p t (eval n) = rule_events p t (get_elem? p.rules n)
step_events s p t (visit k j) = visit_events s p k j (symbol_at p k)
step_events s p t (leave l) = leaves l ∷ section_events s p (suc l)

-- the events of steps ts, which begin at place t
abbrev pub steps_events : Scheme → Production → ℕ → List Step → List Event
steps_events s p t [] = []
steps_events s p t (st ∷ ts) = step_events s p t st ++ steps_events s p (suc t) ts

abbrev pub production_tape : Scheme → Production → List Event
production_tape s p = opens p.left ∷ (section_events s p 1 ++ steps_events s p 0 p.steps)

abbrev pub tapes : Scheme → List Production → List Event
tapes s [] = []
tapes s (p ∷ ps) = production_tape s p ++ tapes s ps

abbrev pub tape : Scheme → List Event
tape s = tapes s s.productions

-- where the tape has come to: the left symbol and the section it is in, the cells it can have come to there, and the table
pub record Machine : Type 0 where
  pub left : ℕ
  pub section : ℕ
  pub cells : Cells
  pub filling : Filling

abbrev pub with_cells : Machine → Cells → Machine
with_cells st f = record { left = st.left; section = st.section; cells = f; filling = st.filling }

module _ (members : ℕ → Bool) (c : Cell) where
  abbrev pub act : Machine → Event → Machine
  act st (opens x) = record { left = x; section = 1; cells = only c; filling = st.filling }
  act st (ends a) = with_cells st (cond (members a) (mark st.cells end) st.cells)
  act st (begins a) = with_cells st (cond (members a) (mark st.cells begin) st.cells)
  act st (visits x j) = with_cells st (over (at st.filling.table) x j st.cells)
  act st (leaves l) = record { left = st.left; section = suc l; cells = only c; filling = put_all st.left st.section c st.cells st.filling }

  abbrev pub play : Machine → List Event → Machine
  play st [] = st
  play st (e ∷ es) = play (act st e) es

abbrev pub ready : Filling → Machine
ready w = record { left = 0; section = 0; cells = only empty; filling = w }

abbrev pub play_three : (ℕ → Bool) → List Event → Filling → Filling
play_three members es w =
    (play members broken (ready (play members held (ready (play members empty (ready w) es).filling) es).filling) es).filling
