-- The attributes on whose stacks the spans that pass a test lie. Assumes nothing.
use Rattle.std.proofs.Common.{◌≡◌, ℕ, Bool, true, false, cond, List, [], ◌∷◌, map, refl, ap}
use Rattle.std.specs.List.{filter}
use Rattle.model.specs.Lists.{keep}
use Rattle.model.specs.Tables as Tables
use Rattle.model.specs.Tables.{names}
use Rattle.plan.specs.Views.{stack_span_of}
use Rattle.plan.specs.declared.tables.StackSpan.{StackSpan}

pub names-keep : (f : Tables.StackSpan → Bool) (hs : List StackSpan) → names (keep f (map stack_span_of hs)) ≡ map (λ h. h.attribute) (filter (λ h. f (stack_span_of h)) hs)
names-keep f [] = refl
names-keep f (h ∷ hs) = go (f (stack_span_of h)) (names-keep f hs)
  where
    go : (b : Bool) → names (keep f (map stack_span_of hs)) ≡ map (λ h. h.attribute) (filter (λ h. f (stack_span_of h)) hs) → names (cond b (stack_span_of h ∷ keep f (map stack_span_of hs)) (keep f (map stack_span_of hs))) ≡ map (λ h. h.attribute) (cond b (h ∷ filter (λ h. f (stack_span_of h)) hs) (filter (λ h. f (stack_span_of h)) hs))
    go true e = ap (λ (ns : List ℕ). h.attribute ∷ ns) e
    go false e = e
