-- The sections of an attribute among those of all. Assumes nothing.
use Rattle.std.proofs.Common.{◌≡◌, ℕ, ◌<◌, List, map, length, get_or, ap, ◌∙◌, arith}
use mathlib.Core.Option.{some}
use lib.ListN.{get_elem?}
use Rattle.std.proofs.lemmas.List.{get_or_default, length-map}
use Rattle.model.specs.Lists.{Has}
use Rattle.model.specs.Scheme.{Attribute, Scheme}
use Rattle.model.specs.Spans.{Sections, attribute_sections}
use Rattle.model.specs.Tables.{all_sections}
use Rattle.model.proofs.Common.ListFacts.{has-below, has_one}
use Rattle.plan.proofs.AtPlaces.{read-has}
use Rattle.plan.proofs.Rows.{numbered_length, numbered_has}

module _ {X : Type 0} (f : X → Sections) (s : Scheme) (xs : List X) (i : ℕ) (b : Attribute) (e : map f xs ≡ all_sections s) (known : Has s.attributes i b) where
  pub sections-below : i < length xs
  sections-below = let l = has-below s.attributes i b known in omega (arith, length-map xs f, ap (λ (ws : List Sections). length ws) e, numbered_length (attribute_sections s) 0 s.attributes)

  pub sections-known : (d : X) → f (get_or xs i d) ≡ attribute_sections s i b
  sections-known d =
      has_one (map f xs) i (f (get_or xs i d)) (attribute_sections s i b) (read-has f xs i (get_or xs i d) sections-below (get_or_default xs i d (get_or xs i d) sections-below))
      (ap (λ (ws : List Sections). get_elem? ws i) e ∙ numbered_has (attribute_sections s) 0 i s.attributes b known ∙ ap (λ (m : ℕ). some (attribute_sections s m b)) (omega arith))
