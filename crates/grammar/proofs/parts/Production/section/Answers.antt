use Rattle.std.proofs.Common.{◌≡◌, List, map, take, vec_items, sym, ap, ◌∙◌, arith, rules}
use mir.Val.{bool_byte}
use Rattle.std.proofs.lemmas.List.{take-map}
use Rattle.model.specs.Lists.{count}
use Rattle.model.specs.Sequences.{is_leave}
use Rattle.grammar.specs.Views.{step_of}
use Rattle.grammar.specs.declared.parts.Step.{Step}
use Rattle.grammar.proofs.Counts.{counted_more, counted_all, take_within}
use Rattle.grammar.proofs.parts.Production.section.Goals as goal

pub loop-step-preserved : goal.loop-step-preserved
loop-step-preserved c = counted_more step_of is_leave (take c.min.result c.deref.result.now) c.loop-step.step-index _ c.loop-step.leaves c.from-leaves.result c.loop-step-test.true (c.from-leaves.ensures ∙ ap bool_byte c.is_leave.ensures) c.loop-step.invariant

pub returns : goal.returns
returns c =
    let xs = vec_items c.args.self.now.steps in
    let all = counted_all step_of is_leave (take c.min.result c.deref.result.now) c.loop-step.step-index c.loop-step.leaves c.loop-step-test.false c.loop-step.invariant in
    let same = ap (take c.min.result) c.deref.ensures.value ∙ take_within xs c.args.t c.len.result c.min.result (search rules) c.min.ensures in
    let n : c.loop-step.leaves ≡ count is_leave (take c.args.t (map step_of xs)) = all ∙ ap (λ (ys : List Step). count is_leave (map step_of ys)) same ∙ ap (count is_leave) (sym (take-map step_of c.args.t xs)) in
    grind (arith, rules)
