use Rattle.std.proofs.Common.{rules}
use Rattle.std.proofs.lemmas.Iterator.{YieldsList-from_slice}
use Rattle.std.proofs.lemmas.Iterator.Search.{any_from_yields_List}
use Rattle.model.proofs.Common.Seen.{any-map}
use Rattle.scheme.specs.Roots.{inherited_of_root}
use Rattle.grammar.specs.Views.{attribute_of}
use Rattle.scheme.proofs.checks.root.root_inherits.Goals as goal

pub returns : goal.returns
returns c = rw any-map (any_from_yields_List (λ a. inherited_of_root (attribute_of a)) _ _ _ c.any.ensures.ran (YieldsList-from_slice c.args.attributes.now cc) (λ x b q k. search rules))
