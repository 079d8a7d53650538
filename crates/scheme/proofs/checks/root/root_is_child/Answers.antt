use Rattle.std.proofs.Common.{rules}
use Rattle.std.proofs.lemmas.Iterator.{YieldsList-from_slice}
use Rattle.std.proofs.lemmas.Iterator.Search.{any_from_yields_List}
use Rattle.model.proofs.Common.Seen.{any-map}
use Rattle.scheme.specs.Roots.{has_root_child}
use Rattle.grammar.specs.Views.{production_of}
use Rattle.scheme.proofs.checks.root.root_is_child.Goals as goal

pub returns : goal.returns
returns c = rw any-map (any_from_yields_List (λ p. has_root_child (production_of p)) _ _ _ c.any.ensures.ran (YieldsList-from_slice c.args.productions.now cc) (λ x b q k. search rules))
