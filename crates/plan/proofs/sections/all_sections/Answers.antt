use Rattle.std.proofs.Common.{◌≡◌, map, vec_items, ap, ◌∙◌, rules}
use Rattle.std.specs.List.{enumerate_from}
use Rattle.std.proofs.lemmas.Iterator.{YieldsList-from_slice, YieldsList-from_map_by}
use Rattle.std.proofs.lemmas.Iterator.Consumers.{YieldsList-from_enumerate, map_from_collect}
use Rattle.std.proofs.lemmas.Result.{IfOk-weaker}
use Rattle.model.specs.Lists.{numbered}
use Rattle.model.specs.Scheme as Model
use Rattle.model.specs.Spans.{attribute_sections}
use Rattle.model.specs.Tables.{all_sections}
use Rattle.grammar.specs.Views.{attribute_of}
use Rattle.scheme.specs.Whole.{scheme_of}
use Rattle.plan.specs.Views.{sections_of}
use Rattle.plan.proofs.Rows.{numbered_by}
use Rattle.plan.proofs.sections.all_sections.Goals as goal

pub returns : goal.returns
returns c =
    let s = scheme_of c.args.scheme.now in
    let bs = vec_items c.grammar.result.now.attributes in
    IfOk-weaker c.collect.result (λ v. map sections_of (vec_items v) ≡ map (λ q. attribute_sections s q.0 (attribute_of q.1)) (enumerate_from 0 bs)) (λ v. map sections_of (vec_items v) ≡ all_sections s)
    (λ v h. h ∙ numbered_by (attribute_sections s) attribute_of 0 bs ∙ ap (λ (t : Model.Scheme). numbered (attribute_sections s) 0 t.attributes) c.grammar.ensures.value)
    (map_from_collect _ c.collect.ensures.ran
    (YieldsList-from_map_by _ sections_of (λ q. attribute_sections s q.0 (attribute_of q.1)) (YieldsList-from_enumerate (YieldsList-from_slice bs cc) cc) c.map.ensures.closure (λ x r q k. search rules)))
