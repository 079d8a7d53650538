-- Playing a scheme's tape is passing through its productions. Assumes nothing.
use Rattle.std.proofs.Common.{◌≡◌, ℕ, suc, ◌+◌, ◌<◌, Bool, true, false, cond, ◌&&◌, List, [], ◌∷◌, ◌++◌, length, get_or, take, sym, refl, ap, ◌∙◌, subst}
use mathlib.Core.Option.{Option, some}
use Rattle.std.proofs.lemmas.List.{take_more}
use Rattle.model.specs.Lists.{Has, keep}
use Rattle.model.specs.Scheme.{inherited, synthesized, Occurrence, Rule, Step, eval, visit, leave, Production, Scheme, symbol_at}
use Rattle.model.specs.Sequences.{unused, last_use}
use Rattle.model.specs.Loose.{Mark, begin, end, Cell, empty, held, broken, of_visit, distinct, unused_ends, after_visit, at_eval, ends as endings}
use Rattle.model.specs.Outcomes.{Cells, only, marks, over, opening, by_eval, by_visit, at, Filling, put_all, through, pass, passes, three, round}
use Rattle.model.proofs.Plan.Mirror.{marks-++, end_if, marks_begin}
use Rattle.model.specs.Tape.{Event, ends, begins, unused_events, section_events, end_events, rule_events, visit_events, steps_events, production_tape, tapes, tape, Machine, with_cells, act, play, ready, play_three}

-- each EVAL has its rule and each VISIT its symbol
pub record Grounded (p : Production) (ts : List Step) : Type 0 where
  pub step_rule : (k n : ℕ) → Has ts k (eval n) → (r : Rule) × Has p.rules n r
  pub symbol_of : (k m j : ℕ) → Has ts k (visit m j) → (x : ℕ) × (symbol_at p m ≡ some x)

grounded_next : (p : Production) (st : Step) (ts : List Step) → Grounded p (st ∷ ts) → Grounded p ts
grounded_next p st ts g = record { step_rule = λ k n h. g.step_rule (suc k) n h; symbol_of = λ k m j h. g.symbol_of (suc k) m j h }

end_and : (b : Bool) (f : Cells) (ms : List Mark) → marks (end_if b f) ms ≡ marks f (cond (b && true) (end ∷ ms) ms)
end_and true f ms = refl
end_and false f ms = refl

end-not : (b : Bool) (f : Cells) (ms : List Mark) → marks f ms ≡ marks f (cond (b && false) (end ∷ ms) ms)
end-not true f ms = refl
end-not false f ms = refl

endings_cond : (b : Bool) (o : Occurrence) (os : List Occurrence) → cond b (end ∷ endings os) (endings os) ≡ endings (cond b (o ∷ os) os)
endings_cond true o os = refl
endings_cond false o os = refl

module _ (members : ℕ → Bool) (c : Cell) where
  pub play-++ : (st : Machine) (es fs : List Event) → play members c st (es ++ fs) ≡ play members c (play members c st es) fs
  play-++ st [] fs = refl
  play-++ st (e ∷ es) fs = play-++ (act members c st e) es fs

  -- a loop's turn
  pub play_more : (st : Machine) (es : List Event) (k : ℕ) (d : Event) → k < length es → play members c st (take (k + 1) es) ≡ act members c (play members c st (take k es)) (get_or es k d)
  play_more st es k d h = ap (play members c st) (take_more es k d h) ∙ play-++ st (take k es) (get_or es k d ∷ [])

  pub play_turn : (st now next : Machine) (es : List Event) (k : ℕ) (d : Event) → k < length es → now ≡ play members c st (take k es) → next ≡ act members c now (get_or es k d) → next ≡ play members c st (take (k + 1) es)
  play_turn st now next es k d h before turn = turn ∙ ap (λ (u : Machine). act members c u (get_or es k d)) before ∙ sym (play_more st es k d h)

module _ (s : Scheme) (members : ℕ → Bool) (c : Cell) where
  pub play-unused : (p : Production) (k : ℕ) (ns : List ℕ) (st : Machine) → play members c st (unused_events p k ns) ≡ with_cells st (marks st.cells (unused_ends s members p k ns))
  play-unused p k [] st = refl
  play-unused p k (a ∷ more) st = go (unused p (record { position = k; attribute = a })) (λ v. play-unused p k more v)
    where
      es : List Event
      es = unused_events p k more

      ms : List Mark
      ms = unused_ends s members p k more

      go : (u : Bool) → ((v : Machine) → play members c v es ≡ with_cells v (marks v.cells ms)) → play members c st (cond u (ends a ∷ es) es) ≡ with_cells st (marks st.cells (cond (members a && u) (end ∷ ms) ms))
      go true later = later (act members c st (ends a)) ∙ ap (with_cells st) (end_and (members a) st.cells ms)
      go false later = later st ∙ ap (with_cells st) (end-not (members a) st.cells ms)

  pub play-ends : (p : Production) (t : ℕ) (os : List Occurrence) (st : Machine) → play members c st (end_events (keep (last_use p t) os)) ≡ with_cells st (marks st.cells (endings (keep (λ o. members o.attribute && last_use p t o) os)))
  play-ends p t [] st = refl
  play-ends p t (o ∷ os) st = go (last_use p t o) (λ v. play-ends p t os v)
    where
      ks : List Occurrence
      ks = keep (last_use p t) os

      js : List Occurrence
      js = keep (λ o. members o.attribute && last_use p t o) os

      go : (u : Bool) → ((v : Machine) → play members c v (end_events ks) ≡ with_cells v (marks v.cells (endings js))) → play members c st (end_events (cond u (o ∷ ks) ks)) ≡ with_cells st (marks st.cells (endings (cond (members o.attribute && u) (o ∷ js) js)))
      go true later = later (act members c st (ends o.attribute)) ∙ ap (with_cells st) (end_and (members o.attribute) st.cells (endings js)) ∙ ap (λ (ms : List Mark). with_cells st (marks st.cells ms)) (endings_cond (members o.attribute && true) o js)
      go false later = later st ∙ ap (with_cells st) (end-not (members o.attribute) st.cells (endings js)) ∙ ap (λ (ms : List Mark). with_cells st (marks st.cells ms)) (endings_cond (members o.attribute && false) o js)

  pub play-rule : (p : Production) (t : ℕ) (r : Rule) (st : Machine) → play members c st (rule_events p t (some r)) ≡ with_cells st (marks st.cells (at_eval s members p t r))
  play-rule p t r st =
      let done = endings (keep (λ o. members o.attribute && last_use p t o) (distinct r.arguments)) in
      let last = cond (members r.target.attribute) (begin ∷ []) [] in
      play-++ members c st (end_events (keep (last_use p t) (distinct r.arguments))) (begins r.target.attribute ∷ [])
      ∙ ap (λ (v : Machine). play members c v (begins r.target.attribute ∷ [])) (play-ends p t (distinct r.arguments) st)
      ∙ ap (with_cells st) (sym (marks_begin (members r.target.attribute) (marks st.cells done)) ∙ sym (marks-++ st.cells done last))

  pub play-steps : (p : Production) (ts : List Step) (t i : ℕ) (f : Cells) (w : Filling) → Grounded p ts → (play members c (record { left = p.left; section = i; cells = f; filling = w }) (steps_events s p t ts)).filling ≡ through s members p c i t ts f w
  play-steps p [] t i f w g = refl
  play-steps p (eval n ∷ ts) t i f w g =
      let r = g.step_rule 0 n refl in
      let st : Machine = record { left = p.left; section = i; cells = f; filling = w } in
      let here = ap (λ (u : Machine). u.filling) (play-++ members c st (rule_events p t (some r.0)) (steps_events s p (suc t) ts)
      ∙ ap (λ (u : Machine). play members c u (steps_events s p (suc t) ts)) (play-rule p t r.0 st)) in
      subst (λ (o : Option Rule). (play members c st (rule_events p t o ++ steps_events s p (suc t) ts)).filling ≡ through s members p c i (suc t) ts (by_eval s members p t o f) w) (sym r.1)
      (here ∙ play-steps p ts (suc t) i (marks f (at_eval s members p t r.0)) w (grounded_next p (eval n) ts g))
  play-steps p (visit k j ∷ ts) t i f w g =
      let x = g.symbol_of 0 k j refl in
      let st : Machine = record { left = p.left; section = i; cells = f; filling = w } in
      let u : Machine = record { left = p.left; section = i; cells = over (at w.table) x.0 j f; filling = w } in
      let here = ap (λ (u : Machine). u.filling) (play-++ members c u (unused_events p k (of_visit s x.0 synthesized j)) (steps_events s p (suc t) ts)
      ∙ ap (λ (v : Machine). play members c v (steps_events s p (suc t) ts)) (play-unused p k (of_visit s x.0 synthesized j) u)) in
      subst (λ (o : Option ℕ). (play members c st (visit_events s p k j o ++ steps_events s p (suc t) ts)).filling ≡ through s members p c i (suc t) ts (by_visit s members (at w.table) p k j o f) w) (sym x.1)
      (here ∙ play-steps p ts (suc t) i (marks (over (at w.table) x.0 j f) (after_visit s members p k x.0 j)) w (grounded_next p (visit k j) ts g))
  play-steps p (leave l ∷ ts) t i f w g =
      let v = put_all p.left i c f w in
      let st : Machine = record { left = p.left; section = suc l; cells = only c; filling = v } in
      ap (λ (u : Machine). u.filling) (play-++ members c st (section_events s p (suc l)) (steps_events s p (suc t) ts)
      ∙ ap (λ (u : Machine). play members c u (steps_events s p (suc t) ts)) (play-unused p 0 (of_visit s p.left inherited (suc l)) st))
      ∙ play-steps p ts (suc t) (suc l) (opening s members p (suc l) c) v (grounded_next p (leave l) ts g)

  pub play-production : (p : Production) (st : Machine) → Grounded p p.steps → (play members c st (production_tape s p)).filling ≡ pass s members p c st.filling
  play-production p st g =
      let u : Machine = record { left = p.left; section = 1; cells = only c; filling = st.filling } in
      ap (λ (u : Machine). u.filling) (play-++ members c u (section_events s p 1) (steps_events s p 0 p.steps)
      ∙ ap (λ (v : Machine). play members c v (steps_events s p 0 p.steps)) (play-unused p 0 (of_visit s p.left inherited 1) u))
      ∙ play-steps p p.steps 0 1 (opening s members p 1 c) st.filling g

  pub play-tapes : (ps : List Production) (st : Machine) → ((n : ℕ) (p : Production) → Has ps n p → Grounded p p.steps) → (play members c st (tapes s ps)).filling ≡ passes s members c ps st.filling
  play-tapes [] st g = refl
  play-tapes (p ∷ ps) st g =
      ap (λ (u : Machine). u.filling) (play-++ members c st (production_tape s p) (tapes s ps))
      ∙ play-tapes ps (play members c st (production_tape s p)) (λ n q h. g (suc n) q h)
      ∙ ap (passes s members c ps) (play-production p st (g 0 p refl))

-- one round is the tape played from each of the three starts
pub play_three_is : (s : Scheme) (members : ℕ → Bool) (w : Filling) → ((n : ℕ) (p : Production) → Has s.productions n p → Grounded p p.steps) → play_three members (tape s) w ≡ three s members w
play_three_is s members w g =
    let w₁ = (play members empty (ready w) (tape s)).filling in
    let w₂ = (play members held (ready w₁) (tape s)).filling in
    play-tapes s members broken s.productions (ready w₂) g
    ∙ ap (passes s members broken s.productions) (play-tapes s members held s.productions (ready w₁) g
    ∙ ap (passes s members held s.productions) (play-tapes s members empty s.productions (ready w) g))

-- three plays, one after another, are a round
pub three_plays : (s : Scheme) (members : ℕ → Bool) (t t₁ t₂ t₃ : List Bool) (b₁ b₂ b₃ : Bool) → ((n : ℕ) (p : Production) → Has s.productions n p → Grounded p p.steps)
    → record { table = t₁; changed = b₁ } ≡ (play members empty (ready (record { table = t; changed = false })) (tape s)).filling
    → record { table = t₂; changed = b₂ } ≡ (play members held (ready (record { table = t₁; changed = b₁ })) (tape s)).filling
    → record { table = t₃; changed = b₃ } ≡ (play members broken (ready (record { table = t₂; changed = b₂ })) (tape s)).filling
    → record { table = t₃; changed = b₃ } ≡ round s members t
three_plays s members t t₁ t₂ t₃ b₁ b₂ b₃ g e₁ e₂ e₃ =
    e₃ ∙ ap (λ (w : Filling). (play members broken (ready w) (tape s)).filling) (e₂ ∙ ap (λ (w : Filling). (play members held (ready w) (tape s)).filling) e₁)
    ∙ play_three_is s members (record { table = t; changed = false }) g
