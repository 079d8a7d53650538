use Rattle.std.proofs.Common.{map, ap, sym}
use Rattle.grammar.specs.Views.{occurrence_of, rule_of, step_of}
use Rattle.plan.specs.Layouts.{production_in}
use Rattle.plan.proofs.Placing.{arguments_low}
use Rattle.plan.proofs.tables.layout.Layout.step_table.Goals as goal

pub depths_of-requires : goal.depths_of-requires
depths_of-requires c =
    let l = c.args.self.now in
    record { placed = arguments_low (production_in l) l.bounded.placed occurrence_of (step_of c.args.step) (rule_of c.in-Some.rule.now) c.in-Some.ensures c.deref.result.now (ap (map occurrence_of) (sym c.deref.ensures.value)) }
