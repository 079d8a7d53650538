-- What a sound table leads to is the end of some loose walk; and what a sound and closed table says of the lives. Assumes nothing.
use Rattle.std.proofs.Common.{◌≡◌, ℕ, suc, Bool, true, false, ◌↔◌, List, [], ◌∷◌, ◌++◌, drop, sym, refl, ap, ◌∙◌, arith}
use mathlib.Core.Option.{Option, none, some}
use lib.ListN.{get_elem?}
use Rattle.model.specs.Lists.{Has}
use Rattle.model.specs.Scheme.{Rule, Step, eval, visit, leave, Production, Scheme, symbol_at}
use Rattle.model.specs.Loose.{Mark, Cell, empty, held, broken, meets, at_start, after_visit, at_eval, Starts, Loose, pick, Along, leaves, evals, visits, Alternate}
use Rattle.model.specs.Outcomes.{Cells, has, only, Outcomes, over, by_eval, by_visit, opening, run, Sound, Closed}
use Rattle.model.proofs.Plan.Flags.{meets-++, only_has, marks-has, over_has, has-drop, drop-next, nowhere-has}
use Rattle.model.proofs.Plan.Complete.{ended}

-- a loose walk of the rest of a section, from place t, that leads from a cell of f to d
pub record Found (s : Scheme) (members : ℕ → Bool) (p : Production) (t : ℕ) (f : Cells) (d : Cell) : Type 0 where
  pub from : Cell
  pub path : List Mark
  pub was : has f from ≡ true
  pub walk : Along s members p t path
  pub leads : meets from path ≡ d

module _ (s : Scheme) (members : ℕ → Bool) (p : Production) where
  pub found_leave : (t i : ℕ) (f : Cells) (d : Cell) → Has p.steps t (leave i) → has f d ≡ true → Found s members p t f d
  found_leave t i f d h e = record { from = d; path = []; was = e; walk = leaves p t i h; leads = refl }

  pub found_eval : (t n : ℕ) (f : Cells) (d : Cell) (o : Option Rule) → Has p.steps t (eval n) → get_elem? p.rules n ≡ o → Found s members p (suc t) (by_eval s members p t o f) d → Found s members p t f d
  found_eval t n f d none h hr w = absurd (nowhere-has w.from w.was)
  found_eval t n f d (some r) h hr w =
      let before = marks-has f (at_eval s members p t r) w.from w.was in
      record { from = before.0; path = at_eval s members p t r ++ w.path; was = before.1; walk = evals p t n r h hr w.walk; leads = meets-++ before.0 (at_eval s members p t r) w.path ∙ ap (λ (c : Cell). meets c w.path) before.2 ∙ w.leads }

  pub found_visit : (out : Outcomes) → Sound s members out → (t k j : ℕ) (f : Cells) (d : Cell) (o : Option ℕ) → Has p.steps t (visit k j) → symbol_at p k ≡ o → Found s members p (suc t) (by_visit s members out p k j o f) d → Found s members p t f d
  found_visit out sound t k j f d none h hx w = absurd (nowhere-has w.from w.was)
  found_visit out sound t k j f d (some x) h hx w =
      let brought = after_visit s members p k x j in
      let after-it = marks-has (over out x j f) brought w.from w.was in
      let before = over_has out x j f after-it.0 after-it.1 in
      let inside = sound x j before.0 after-it.0 before.2 in
      record {
        from = before.0;
        path = inside.0 ++ (brought ++ w.path);
        was = before.1;
        walk = visits p t k j x h hx inside.1 w.walk;
        leads =
            meets-++ before.0 inside.0 (brought ++ w.path)
            ∙ ap (λ (c : Cell). meets c (brought ++ w.path)) inside.2
            ∙ meets-++ after-it.0 brought w.path
            ∙ ap (λ (c : Cell). meets c w.path) after-it.2
            ∙ w.leads;
      }

  pub found : (out : Outcomes) → Sound s members out → (ts : List Step) (t : ℕ) (f : Cells) (d : Cell) → drop t p.steps ≡ ts → has (run s members out p t ts f) d ≡ true → Found s members p t f d
  found out sound [] t f d here e = absurd (nowhere-has d e)
  found out sound (eval n ∷ ts) t f d here e =
      found_eval t n f d (get_elem? p.rules n) (has-drop p.steps t (eval n) ts here) refl
      (found out sound ts (suc t) (by_eval s members p t (get_elem? p.rules n) f) d (drop-next p.steps t (eval n) ts here) e)
  found out sound (visit k j ∷ ts) t f d here e =
      found_visit out sound t k j f d (symbol_at p k) (has-drop p.steps t (visit k j) ts here) refl
      (found out sound ts (suc t) (by_visit s members out p k j (symbol_at p k) f) d (drop-next p.steps t (visit k j) ts here) e)
  found out sound (leave i ∷ ts) t f d here e = found_leave t i f d (has-drop p.steps t (leave i) ts here) e

abbrev pub Ends : (s : Scheme) (members : ℕ → Bool) (x i : ℕ) (c d : Cell) → Type 0
Ends s members x i c d = (ms : List Mark) × Loose s members x i ms × (meets c ms ≡ d)

pub picked : (s : Scheme) (members : ℕ → Bool) (n i t : ℕ) (p : Production) (c d : Cell) → Has s.productions n p → Starts p i t → Found s members p t (opening s members p i c) d → Ends s members p.left i c d
picked s members n i t p c d hp st w =
    let before = marks-has (only c) (at_start s members p i) w.from w.was in
    let same = only_has c before.0 before.1 in (
      at_start s members p i ++ w.path,
      pick n i t p hp st w.walk,
      meets-++ c (at_start s members p i) w.path ∙ ap (λ (q : Cell). meets (meets q (at_start s members p i)) w.path) same ∙ ap (λ (q : Cell). meets q w.path) before.2 ∙ w.leads,
    )

-- the lives alternate exactly when the table has no end but empty
abbrev pub Clear : Outcomes → Type 0
Clear out = (out 0 1 empty held ≡ false) × (out 0 1 empty broken ≡ false)

pub alternate_clear : (s : Scheme) (members : ℕ → Bool) (out : Outcomes) → Sound s members out → Alternate s members → Clear out
alternate_clear s members out sound alternate = (never held (λ e. let z : ◌≡◌ {A = ℕ} 0 1 = cc in omega arith) (out 0 1 empty held) refl, never broken (λ e. let z : ◌≡◌ {A = ℕ} 0 1 = cc in omega arith) (out 0 1 empty broken) refl)
  where
    never : (d : Cell) → (empty ≡ d → ⊥) → (b : Bool) → out 0 1 empty d ≡ b → out 0 1 empty d ≡ false
    never d apart true e = let w = sound 0 1 empty d e in absurd (apart (sym (alternate w.0 w.1) ∙ w.2))
    never d apart false e = e

pub clear_alternate : (s : Scheme) (members : ℕ → Bool) (out : Outcomes) → Closed s members out → Clear out → Alternate s members
clear_alternate s members out closed clear ms walk = must (meets empty ms) (ended s members out closed walk empty)
  where
    must : (d : Cell) → out 0 1 empty d ≡ true → d ≡ empty
    must empty e = refl
    must held e = let no_such = clear.0 in cc
    must broken e = let no_such = clear.1 in cc

pub alternate_exactly : (s : Scheme) (members : ℕ → Bool) (out : Outcomes) → Sound s members out → Closed s members out → Alternate s members ↔ Clear out
alternate_exactly s members out sound closed = (alternate_clear s members out sound, clear_alternate s members out closed)
