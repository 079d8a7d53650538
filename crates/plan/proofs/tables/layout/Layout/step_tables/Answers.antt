use Rattle.std.proofs.Common.{vec_items, rules}
use Rattle.std.proofs.lemmas.Iterator.{YieldsList-from_slice}
use Rattle.std.proofs.lemmas.Iterator.Consumers.{YieldsList-from_enumerate}
use Rattle.model.specs.Tables as Tables
use Rattle.grammar.specs.Views.{step_of}
use Rattle.plan.specs.Layouts.{scheme_in, production_in, held_in}
use Rattle.plan.specs.Views.{step_table_of}
use Rattle.plan.proofs.Gathered.{map_from_try_collect}
use Rattle.plan.proofs.Rows.{numbered_by}
use Rattle.plan.proofs.tables.layout.Layout.step_tables.Goals as goal

pub returns : goal.returns
returns c =
    let l = c.args.self.now in
    let steps = vec_items l.bounded.production.now.steps in
    let table = Tables.step_table (scheme_in l) (production_in l) (held_in l) in
    rw (← numbered_by table step_of 0 steps)
    (map_from_try_collect _ step_table_of (λ q. table q.0 (step_of q.1)) c.try_collect.result c.try_collect.ensures.ran (YieldsList-from_enumerate (YieldsList-from_slice steps (search rules)) (search rules)) c.map.ensures.closure (λ x r q k. search rules))
