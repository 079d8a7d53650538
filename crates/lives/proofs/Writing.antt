-- The last use of an occurrence, as a slice of the steps shows it.
use Rattle.std.proofs.Common.{◌≡◌, ℕ, suc, ◌-◌, ◌≤◌, not, ◌&&◌, List, [], ◌∷◌, map, length, get_or, take, drop, vec_items, sym, refl, ap, ◌∙◌, add-one, arith}
use Rattle.std.proofs.lemmas.List.{drop-map, drop-drop, take_rest}
use Rattle.std.proofs.Math.Bool.{or-false}
use Rattle.model.specs.Lists.{any}
use Rattle.model.specs.Sequences.{uses, last_use}
use Rattle.grammar.specs.declared.parts.Occurrence.{Occurrence}
use Rattle.grammar.specs.declared.parts.Production.{Production}
use Rattle.grammar.specs.declared.parts.Step.{Step}
use Rattle.grammar.specs.declared.parts.Step.TheVariants.{Eval}
use Rattle.grammar.specs.Views.{step_of, occurrence_of, production_of}

-- of the steps that are left from step t on, the first reads the occurrence, and no later one does
pub last_use_is : (p : Production) (t : ℕ) (o : Occurrence) (steps rest : List Step) → steps ≡ vec_items p.steps → rest ≡ take (length steps - t) (drop t steps) → 1 ≤ length rest
    → last_use (production_of p) t (occurrence_of o) ≡ (uses (production_of p) (step_of (get_or rest 0 (Eval 0))) (occurrence_of o) && not (any (λ st. uses (production_of p) st (occurrence_of o)) (map step_of (take (length rest - 1) (drop 1 rest)))))
last_use_is p t o steps [] es er l = absurd (omega arith)
last_use_is p t o steps (x ∷ later) es er l =
    let left : x ∷ later ≡ drop t (vec_items p.steps) = er ∙ take_rest steps t ∙ ap (drop t) es in
    let here : drop t (map step_of (vec_items p.steps)) ≡ step_of x ∷ map step_of later = drop-map step_of t (vec_items p.steps) ∙ ap (map step_of) (sym left) in
    let next : drop (suc t) (map step_of (vec_items p.steps)) ≡ map step_of later = ap (λ n. drop n (map step_of (vec_items p.steps))) (sym (add-one t)) ∙ sym (drop-drop 1 t (map step_of (vec_items p.steps))) ∙ ap (drop 1) here in
    rw (here, next, or-false, take_rest) refl
