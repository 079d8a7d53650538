use Rattle.grammar.specs.Views.{rule_of}
use Rattle.grammar.proofs.Seen.{get_ref}
use Rattle.grammar.proofs.parts.Production.evaluated.Goals as goal

pub returns-in-Eval : goal.returns-in-Eval
returns-in-Eval c = rw c.in-Eval.is (get_ref rule_of c.deref.result.now c.args.self.now.rules.items c.in-Eval.rule c.get.result c.get.ensures.lookup.3 c.deref.ensures.value)
