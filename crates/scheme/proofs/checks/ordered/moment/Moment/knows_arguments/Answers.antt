use Rattle.std.proofs.Common.{rules, arith, sym, ap, ◌∙◌}
use Rattle.std.proofs.lemmas.Grind.{common_steps}
use Rattle.std.proofs.lemmas.Option.{gets}
use Rattle.grammar.specs.Views.{rule_of, option_of}
use Rattle.grammar.proofs.Seen.{option_of_ref}
use Rattle.scheme.specs.Readiness.{scheme_at, production_at}
use Rattle.scheme.proofs.Deciding.{holds}
use Rattle.scheme.proofs.Readiness.{arguments_here, arguments_absent}
use Rattle.scheme.proofs.checks.ordered.moment.Moment.knows_arguments.Goals as goal

pub returns-in_default : goal.returns-in_default
returns-in_default c =
    let m = c.args.self.now in
    let e = option_of_ref rule_of m.scope.production.now.rules.items c.args.rule c.get.result (grind (arith, common_steps, gets)) in
    holds (arguments_absent (scheme_at m) (production_at m) m.step c.args.rule (sym e ∙ ap (option_of (λ q. rule_of q.now)) c.in_default.is))

pub returns : goal.returns
returns c =
    let m = c.args.self.now in
    let e = option_of_ref rule_of m.scope.production.now.rules.items c.args.rule c.get.result (grind (arith, common_steps, gets)) in
    arguments_here (scheme_at m) (production_at m) m.step c.args.rule (rule_of c.in-Some.rule.now) c.knows_each.result (sym e ∙ ap (option_of (λ q. rule_of q.now)) c.in-Some.is) (search rules)
