-- How deep a value lies on its attribute's stack.
use Rattle.std.specs.Prelude.{◌≡◌, ℕ, Bool, true, nat_lt, Some, None, Option}
use Rattle.std.proofs.Math.ListN.{get_elem?}
use Rattle.model.specs.Scheme.{Occurrence, Production, Scheme}
use Rattle.model.specs.Spans.{Span}
use Rattle.model.specs.Tables.{above}

-- a span that opens at moment m opens after the floor, if there is one
abbrev pub after : Option ℕ → ℕ → Bool
after None m = true
after (Some n) m = nat_lt n m

-- the spans of its attribute that lie above occurrence o are those that open after the floor
abbrev pub Floor : Scheme → Production → Occurrence → Option ℕ → Type 0
Floor s p o n = (x : Span) → after n x.opens ≡ above s p o.attribute (get_elem? s.attributes o.attribute) o.position x
