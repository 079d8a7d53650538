use Rattle.std.proofs.Common.{rules}
use Rattle.grammar.proofs.Seen.{read, option_of_read}
use Rattle.grammar.specs.Views.{attribute_of}
use Rattle.grammar.proofs.parts.Grammar.attribute.Goals as goal

pub returns : goal.returns
returns c = option_of_read attribute_of c.args.self.now.attributes.items c.args.number c.copied.result (grind (rules, read))
