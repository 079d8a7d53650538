-- A closed table has the end of every loose walk. Assumes nothing.
use Rattle.std.proofs.Common.{◌≡◌, ℕ, suc, Bool, true, List, ◌++◌, drop, ap, ◌∙◌}
use mathlib.Core.Option.{Option, some}
use Rattle.model.specs.Lists.{Has}
use Rattle.model.specs.Scheme.{Rule, Step, eval, visit, leave, Production, Scheme, symbol_at}
use Rattle.model.specs.Loose.{Mark, Cell, meets, at_start, after_visit, at_eval, Loose, pick, Along, leaves, evals, visits}
use Rattle.model.specs.Outcomes.{Cells, has, only, marks, Outcomes, over, by_eval, by_visit, opening, run, Closed}
use Rattle.model.proofs.Plan.Flags.{meets-++, has_only, has-marks, has_over, drop-has}

module _ (s : Scheme) (members : ℕ → Bool) (out : Outcomes) (p : Production) where
  pub run-leave : (t i : ℕ) (f : Cells) → Has p.steps t (leave i) → run s members out p t (drop t p.steps) f ≡ f
  run-leave t i f h = rw (drop-has p.steps t (leave i) h)

  pub run-eval : (t n : ℕ) (r : Rule) (f : Cells) → Has p.steps t (eval n) → Has p.rules n r → run s members out p t (drop t p.steps) f ≡ run s members out p (suc t) (drop (suc t) p.steps) (marks f (at_eval s members p t r))
  run-eval t n r f h hr = ap (λ (ts : List Step). run s members out p t ts f) (drop-has p.steps t (eval n) h)
      ∙ ap (λ (o : Option Rule). run s members out p (suc t) (drop (suc t) p.steps) (by_eval s members p t o f)) hr

  pub run-visit : (t k j x : ℕ) (f : Cells) → Has p.steps t (visit k j) → symbol_at p k ≡ some x → run s members out p t (drop t p.steps) f ≡ run s members out p (suc t) (drop (suc t) p.steps) (marks (over out x j f) (after_visit s members p k x j))
  run-visit t k j x f h hx = ap (λ (ts : List Step). run s members out p t ts f) (drop-has p.steps t (visit k j) h)
      ∙ ap (λ (o : Option ℕ). run s members out p (suc t) (drop (suc t) p.steps) (by_visit s members out p k j o f)) hx

mutual
  pub ended : (s : Scheme) (members : ℕ → Bool) (out : Outcomes) → Closed s members out → {x i : ℕ} {ms : List Mark} → Loose s members x i ms → (c : Cell) → out x i c (meets c ms) ≡ true
  ended s members out closed (pick n i t p {ms = ms} hp st al) c =
      let went = along s members out closed al (opening s members p i c) (meets c (at_start s members p i)) (has-marks (only c) c (at_start s members p i) (has_only c)) in
      closed n i t p c hp st (meets c (at_start s members p i ++ ms)) (rw (meets-++ c (at_start s members p i) ms) went)

  pub along : (s : Scheme) (members : ℕ → Bool) (out : Outcomes) → Closed s members out → {p : Production} {t : ℕ} {ms : List Mark} → Along s members p t ms → (f : Cells) (c : Cell) → has f c ≡ true → has (run s members out p t (drop t p.steps) f) (meets c ms) ≡ true
  along s members out closed (leaves p t i h) f c e = rw (run-leave s members out p t i f h) e
  along s members out closed (evals p t n r {ms = ms} h hr al) f c e =
      let went = along s members out closed al (marks f (at_eval s members p t r)) (meets c (at_eval s members p t r)) (has-marks f c (at_eval s members p t r) e) in
      rw (run-eval s members out p t n r f h hr, meets-++ c (at_eval s members p t r) ms) went
  along s members out closed (visits p t k j x {ls = ls} {ms = ms} h hx lo al) f c e =
      let over-it = has_over out x j f c (meets c ls) e (ended s members out closed lo c) in
      let brought = after_visit s members p k x j in
      let went = along s members out closed al (marks (over out x j f) brought) (meets (meets c ls) brought) (has-marks (over out x j f) (meets c ls) brought over-it) in
      rw (run-visit s members out p t k j x f h hx, meets-++ c ls (brought ++ ms), meets-++ (meets c ls) brought ms) went
