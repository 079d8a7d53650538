use Rattle.std.proofs.Common.{rules, map}
use Rattle.std.proofs.lemmas.Iterator.{YieldsList-from_slice}
use Rattle.model.specs.Lawful.{Known}
use Rattle.grammar.specs.Views.{occurrence_of}
use Rattle.scheme.specs.Readiness.{scheme_at, production_at}
use Rattle.scheme.proofs.Chains.{decides_each, decides_mapped}
use Rattle.scheme.proofs.Readiness.{decides_known}
use Rattle.scheme.proofs.checks.ordered.moment.Moment.knows_each.Goals as goal

pub returns : goal.returns
returns c =
    let m = c.args.self.now in
    let s = scheme_at m in
    let p = production_at m in
    let os = c.args.arguments.now in
    decides_known s p m.step (map occurrence_of os) c.all.result (decides_mapped occurrence_of (λ _. Known s p m.step) os c.all.result (decides_each (λ o. Known s p m.step (occurrence_of o)) _ _ _ c.all.ensures.ran (YieldsList-from_slice os cc) (λ x b q k. search rules)))
