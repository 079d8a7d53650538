-- What concerns symbol 0, the root.
use Rattle.std.specs.Prelude.{ℕ, Bool, false, ◌==◌}
use Rattle.model.specs.Lists.{any}
use Rattle.model.specs.Scheme.{Side, inherited, synthesized, Attribute, Production}

abbrev pub is_root : ℕ → Bool
is_root x = x == 0

-- whether a symbol with an attribute on that side is the root, with an inherited one
abbrev pub root_on : Side → ℕ → Bool
root_on inherited x = is_root x
root_on synthesized x = false

abbrev pub inherited_of_root : Attribute → Bool
inherited_of_root a = root_on a.side a.symbol

abbrev pub has_root_child : Production → Bool
has_root_child p = any is_root p.children
