use Rattle.std.proofs.Common.{rules, length}
use Rattle.std.proofs.lemmas.Bool.{both_ways}
use Rattle.scheme.specs.Numbers.{InSequence}
use Rattle.grammar.specs.Views.{scheme_in, production_in}
use Rattle.scheme.proofs.Chains.{decides_through}
use Rattle.scheme.proofs.Numbering.{sequenced_by}
use Rattle.scheme.proofs.checks.sequenced.is_sequenced.Goals as goal

pub returns-then-ends_with_leave : goal.returns-then-ends_with_leave
returns-then-ends_with_leave c =
    let s = scheme_in c.args.scope.now in
    let p = production_in c.args.scope.now in
    sequenced_by s p c.all.result (rw (← c.deref.ensures.value) (c.ends_with_leave.ensures.0 c.if-ends_with_leave.true)) (decides_through (InSequence s p) (length p.children) _ _ _ _ c.all.ensures.ran c.new.ensures.start (search rules) c.new.ensures.exhausted (λ x b q k. search rules))

pub returns-else-ends_with_leave : goal.returns-else-ends_with_leave
returns-else-ends_with_leave c = (λ t. absurd (both_ways c.ends_with_leave.result c.if-ends_with_leave.false t), λ q. c.ends_with_leave.ensures.1 (rw c.deref.ensures.value q.ends_with_leave))
