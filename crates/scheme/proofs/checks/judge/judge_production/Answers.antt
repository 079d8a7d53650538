use Rattle.std.proofs.lemmas.Bool.Decides.{not_from_Decides}
use Rattle.grammar.specs.Views.{scheme_in, production_in}
use Rattle.scheme.proofs.Judgements.{not-ruled, not-evaluated, not-sequenced, not-ordered, production_kept}
use Rattle.scheme.proofs.checks.judge.judge_production.Goals as goal

pub returns-then-not-is_ruled : goal.returns-then-not-is_ruled
returns-then-not-is_ruled c =
    let s = scheme_in c.args.scope.now in
    let p = production_in c.args.scope.now in
    not-ruled s c.args.production p c.requires (not_from_Decides c.is_ruled.result c.is_ruled.ensures c.if-not-is_ruled.true)

pub returns-then-not-is_evaluated : goal.returns-then-not-is_evaluated
returns-then-not-is_evaluated c =
    let s = scheme_in c.args.scope.now in
    let p = production_in c.args.scope.now in
    not-evaluated s c.args.production p c.requires (c.is_ruled.ensures.0 c.if-not-is_ruled.false) (not_from_Decides c.is_evaluated.result c.is_evaluated.ensures c.if-not-is_evaluated.true)

pub returns-then-not-is_sequenced : goal.returns-then-not-is_sequenced
returns-then-not-is_sequenced c =
    let s = scheme_in c.args.scope.now in
    let p = production_in c.args.scope.now in
    not-sequenced s c.args.production p c.requires (c.is_ruled.ensures.0 c.if-not-is_ruled.false) (c.is_evaluated.ensures.0 c.if-not-is_evaluated.false) (not_from_Decides c.is_sequenced.result c.is_sequenced.ensures c.if-not-is_sequenced.true)

pub returns-in-Some : goal.returns-in-Some
returns-in-Some c =
    let s = scheme_in c.args.scope.now in
    let p = production_in c.args.scope.now in
    not-ordered s c.args.production p c.requires (c.is_ruled.ensures.0 c.if-not-is_ruled.false) (c.is_evaluated.ensures.0 c.if-not-is_evaluated.false) (c.is_sequenced.ensures.0 c.if-not-is_sequenced.false) c.in-Some.step c.in-Some.ensures

pub returns : goal.returns
returns c =
    let s = scheme_in c.args.scope.now in
    let p = production_in c.args.scope.now in
    production_kept s c.args.production p c.requires (c.is_ruled.ensures.0 c.if-not-is_ruled.false) (c.is_evaluated.ensures.0 c.if-not-is_evaluated.false) (c.is_sequenced.ensures.0 c.if-not-is_sequenced.false) c.in_default.ensures
