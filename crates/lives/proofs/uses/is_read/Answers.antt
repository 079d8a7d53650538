use Rattle.std.proofs.Common.{rules}
use Rattle.std.proofs.lemmas.Iterator.{YieldsList-from_slice}
use Rattle.std.proofs.lemmas.Iterator.Search.{any_from_yields_List}
use Rattle.model.specs.Sequences.{uses}
use Rattle.model.proofs.Common.Seen.{any-map}
use Rattle.grammar.specs.Views.{step_of, occurrence_of, production_of}
use Rattle.lives.proofs.uses.is_read.Goals as goal

pub returns : goal.returns
returns c = rw any-map (any_from_yields_List (λ s. uses (production_of c.args.p.now) (step_of s) (occurrence_of c.args.o)) _ _ _ c.any.ensures.ran (YieldsList-from_slice c.args.steps.now cc) (λ x b q k. search rules))
