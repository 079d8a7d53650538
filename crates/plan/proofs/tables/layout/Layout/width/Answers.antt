use Rattle.std.proofs.Common.{◌≡◌, ℕ, ◌*◌, List, length, vec_items, sym, ap, ◌∙◌, arith, rules, tests}
use Rattle.std.specs.List.{range_with_len}
use Rattle.std.specs.Option.{unwrap_or}
use Rattle.std.specs.Ordering.{nat_cmp, max_by_ordering}
use Rattle.std.proofs.lemmas.Iterator.{YieldsList-from_range, YieldsList-from_map}
use Rattle.std.proofs.lemmas.Iterator.Consumers.{reduce_from_yields_List}
use Rattle.std.proofs.lemmas.List.{length-map}
use Rattle.std.proofs.lemmas.List.Folds.{max_of_map}
use Rattle.model.specs.Lists.{count}
use Rattle.model.specs.Spans.{open_during}
use Rattle.model.specs.Tables.{StackSpan, most_open}
use Rattle.plan.specs.Layouts.{held_in, production_in}
use Rattle.plan.specs.Views.{stack_span_of}
use Rattle.plan.proofs.Widths.{most-fold, none_open}
use Rattle.plan.proofs.tables.layout.Layout.width.Goals as goal

abbrev open_in : List StackSpan → ℕ → ℕ
open_in hs m = count (λ (h : StackSpan). open_during m h.span) hs

pub returns-then-is_empty : goal.returns-then-is_empty
returns-then-is_empty c =
    let l = c.args.self.now in
    sym (none_open stack_span_of (vec_items l.held) (3 * length (production_in l).steps) (search (rules, tests, arith)))

pub returns : goal.returns
returns c =
    let l = c.args.self.now in
    let hs = held_in l in
    let n = 3 * length (vec_items l.bounded.production.now.steps) in
    let long : n ≡ 3 * length (production_in l).steps = rw length-map in
    c.unwrap_or.ensures
    ∙ ap (λ r. unwrap_or r 0) (reduce_from_yields_List (λ p z. max_by_ordering (nat_cmp p z) p z) c.map.result c.max.result c.max.ensures.ran (YieldsList-from_map _ (open_in hs) (YieldsList-from_range 0 n n (search rules) (omega arith)) c.map.ensures.closure (λ x r q k. search rules)))
    ∙ max_of_map (open_in hs) (range_with_len 0 n)
    ∙ most-fold hs n
    ∙ ap (most_open hs) long
