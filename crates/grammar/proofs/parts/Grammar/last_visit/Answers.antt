use Rattle.std.proofs.Common.{rules}
use Rattle.grammar.proofs.Seen.{read, option_of_read}
use Rattle.grammar.specs.Views.{visit_of}
use Rattle.grammar.proofs.parts.Grammar.last_visit.Goals as goal

pub returns : goal.returns
returns c = option_of_read visit_of c.args.self.now.visits.items c.args.symbol c.copied.result (grind (rules, read))
