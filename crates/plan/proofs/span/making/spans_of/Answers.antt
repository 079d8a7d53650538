use Rattle.std.proofs.Common.{◌≡◌, ℕ, ◌+◌, ap, eqb, map, vec_items, ◌∙◌, rules}
use Rattle.std.specs.List.{filter, enumerate_from}
use Rattle.std.proofs.lemmas.Iterator.{YieldsList-from_slice, YieldsList-from_map_by}
use Rattle.std.proofs.lemmas.Iterator.Consumers.{YieldsList-from_enumerate, YieldsList-from_filter, map_from_collect}
use Rattle.std.proofs.lemmas.Result.{IfOk-weaker}
use Rattle.model.specs.Spans.{span_on, spans, children_of}
use Rattle.grammar.specs.Views.{attribute_of}
use Rattle.scheme.specs.Whole.{scheme_of}
use Rattle.plan.specs.Views.{bounded_of, sections_of, span_of}
use Rattle.plan.proofs.Spanning.{at_children, spans_are}
use Rattle.plan.proofs.span.making.spans_of.Goals as goal

pub returns : goal.returns
returns c =
    let p = bounded_of c.args.p.now in
    let f = c.args.figure.now in
    let s = scheme_of f.scheme.now in
    let b = attribute_of f.attribute in
    let cs = c.args.p.now.production.now.children.items in
    let at : ℕ → _ = span_on p f.number b.side (sections_of f.sections) in
    IfOk-weaker c.collect.result (λ v. map span_of (vec_items v) ≡ map (λ q. at (q.0 + 1)) (filter (λ q. eqb q.1 b.symbol) (enumerate_from 0 cs))) (λ v. map span_of (vec_items v) ≡ spans s f.number b p)
    (λ v h. h ∙ at_children at b.symbol 0 cs ∙ spans_are s f.number b p (sections_of f.sections) (children_of b.symbol 1 cs) f.sectioned)
    (map_from_collect _ c.collect.ensures.ran
    (YieldsList-from_map_by _ span_of (λ q. at (q.0 + 1)) (YieldsList-from_filter _ (λ q. eqb q.1 b.symbol) (YieldsList-from_enumerate (YieldsList-from_slice cs cc) cc) (ap (λ (m : _). m.p) c.map.ensures.source ∙ c.filter.ensures.closure) (λ x b q k. search rules)) c.map.ensures.closure (λ x r q k. search rules)))
