use Rattle.std.proofs.Common.{eqb}
use Rattle.grammar.specs.Views.{attribute_of}
use Rattle.grammar.proofs.Counts.{Counted}
use Rattle.reader.proofs.draft.Draft.attributes_of_last_symbol.Given as goal

abbrev pub invariant-loop-attribute : goal.invariant-loop-attribute
invariant-loop-attribute l = Counted attribute_of (λ b. eqb b.symbol l.last) l.attribute-items l.attribute-index l.count
