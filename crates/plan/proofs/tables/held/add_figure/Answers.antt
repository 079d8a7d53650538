use Rattle.std.proofs.Common.{◌≡◌, ℕ, true, List, ◌++◌, map, vec_items, ap, ◌∙◌, rules}
use mathlib.Core.List.{map-map}
use Rattle.std.proofs.lemmas.Iterator.{YieldsList-from_slice, YieldsList-from_map}
use Rattle.std.proofs.lemmas.Iterator.Adapters.{items_from_extend}
use Rattle.std.proofs.lemmas.List.{map-append}
use Rattle.std.proofs.lemmas.Result.{on_ok_weaker}
use Rattle.model.specs.Plan.{is_stacked}
use Rattle.model.specs.Tables as Tables
use Rattle.model.specs.Tables.{on_stack}
use Rattle.plan.specs.Views.{letter_of, span_of, stack_span_of}
use Rattle.plan.specs.declared.span.Span.{Span}
use Rattle.plan.specs.declared.tables.StackSpan.{StackSpan}
use Rattle.plan.proofs.tables.held.add_figure.Goals as goal

abbrev on_own : ℕ → List Span → List StackSpan
on_own a xs = map (λ (x : Span). record { attribute = a; span = x }) xs

on_stack-map : (a : ℕ) (xs : List Span) → map stack_span_of (on_own a xs) ≡ on_stack a (map span_of xs)
on_stack-map a xs = simp map-map

pub returns : goal.returns
returns c =
    let a = c.args.figure.now.number in
    let spans = vec_items c.in_ok-spans.spans in
    let held = vec_items c.args.held.now in
    let stacked : is_stacked (letter_of c.args.letter) ≡ true = search rules in
    on_ok_weaker c.extend.result
    (λ e. rw stacked (ap (map stack_span_of) e.0 ∙ map-append stack_span_of held (on_own a spans) ∙ ap (λ (hs : List Tables.StackSpan). map stack_span_of held ++ hs) (on_stack-map a spans ∙ ap (on_stack a) c.in_ok-spans.ensures)))
    (items_from_extend c.extend.result c.extend.ensures.ran (YieldsList-from_map _ (λ x. record { attribute = a; span = x }) (YieldsList-from_slice spans (search rules)) c.map.ensures.closure (λ x r q k. search rules)))
