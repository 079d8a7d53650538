use Rattle.std.proofs.Common.{rules, append_assoc, arith}
use Rattle.std.proofs.lemmas.Grind.{common_steps}
use Rattle.std.proofs.lemmas.List.{map-append}
use Rattle.grammar.specs.Views.{rule_of}
use Rattle.grammar.proofs.Seen.{get_ref}
use Rattle.lives.proofs.tape.Tape.write_eval.Goals as goal

pub returns-in_default : goal.returns-in_default
returns-in_default c = rw (← get_ref rule_of c.deref.result.now c.args.p.now.rules.items c.args.rule c.get.result c.get.ensures.lookup.3 c.deref.ensures.value, c.in_default.is) (search rules)

pub returns : goal.returns
returns c = rw (← get_ref rule_of c.deref.result.now c.args.p.now.rules.items c.args.rule c.get.result c.get.ensures.lookup.3 c.deref.ensures.value, c.in-Some.is, ← c.deref-2.ensures.value) (grind (arith, common_steps, append_assoc, map-append))
