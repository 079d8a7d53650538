use Rattle.std.proofs.Common.{◌≡◌, ℕ, map, length, vec_items, sym, ap, ◌∙◌, arith, rules}
use lib.ListN.{get_elem?}
use Rattle.std.proofs.lemmas.List.{length-append, length-map}
use Rattle.model.specs.Lists.{Has}
use Rattle.model.specs.Scheme.{Attribute, Scheme}
use Rattle.grammar.specs.Views.{attribute_of, grammar_of}
use Rattle.grammar.specs.declared.parts.Grammar.{Grammar}
use Rattle.scheme.specs.Whole.{scheme_of}
use Rattle.plan.specs.Views.{bounded_of, letter_of}
use Rattle.plan.proofs.Held.{holding_more, holding_all}
use Rattle.plan.proofs.Zipped.{turn_at, all_turned}
use Rattle.plan.proofs.tables.held.held_by.Goals as goal

-- the attribute of a grammar is that of its scheme
known : (g : Grammar) (s : Scheme) (i : ℕ) (b : Attribute) → grammar_of g ≡ s → Has (map attribute_of (vec_items g.attributes)) i b → Has s.attributes i b
known g s i b e h = ap (λ (z : Scheme). get_elem? z.attributes i) (sym e) ∙ h

many : (g : Grammar) (s : Scheme) → grammar_of g ≡ s → length s.attributes ≡ length (vec_items g.attributes)
many g s e = ap (λ (z : Scheme). length z.attributes) (sym e) ∙ length-map (vec_items g.attributes) attribute_of

pub figure-figure-requires : goal.figure-figure-requires
figure-figure-requires c =
    let g = c.grammar.result.now in
    let s = scheme_of c.args.figures.now.scheme.now in
    let h = turn_at attribute_of (λ a. letter_of a.letter) (vec_items g.attributes) c.args.plans.now c.into_iter-number-iterator.result c.loop-number.number-iterator c.next.new.self (search rules) (search rules) (search rules) c.loop-number.yielded c.loop-number.yielded_by c.next.result c.next.ensures.steps _ c.in-Some.is in
    ap (λ (i : ℕ). get_elem? s.attributes i) h.number ∙ known g s _ _ c.grammar.ensures.value h.first

pub loop-number-preserved : goal.loop-number-preserved
loop-number-preserved c =
    let g = c.grammar.result.now in
    let s = scheme_of c.args.figures.now.scheme.now in
    let h = turn_at attribute_of (λ a. letter_of a.letter) (vec_items g.attributes) c.args.plans.now c.into_iter-number-iterator.result c.loop-number.number-iterator c.next.new.self (search rules) (search rules) (search rules) c.loop-number.yielded c.loop-number.yielded_by c.next.result c.next.ensures.steps _ c.in-Some.is in
    rw length-append
    (holding_more s (bounded_of c.args.bounded.now) (map (λ a. letter_of a.letter) c.args.plans.now) (length c.loop-number.yielded) c.figure-figure.result.number (attribute_of c.in-Some.attribute.now) (attribute_of c.figure-figure.result.attribute) (letter_of c.in-Some.plan.now.letter) _ _
    (known g s _ _ c.grammar.ensures.value h.first) h.second (c.figure-figure.ensures.numbered ∙ h.number) (ap attribute_of c.figure-figure.ensures.attributed) (rw (← c.figure-figure.ensures.same) c.in_ok-add_figure.ensures) c.loop-number.invariant)

pub returns : goal.returns
returns c =
    let g = c.grammar.result.now in
    let s = scheme_of c.args.figures.now.scheme.now in
    let plans = c.args.plans.now in
    let all = all_turned attribute_of (λ a. letter_of a.letter) (vec_items g.attributes) plans c.into_iter-number-iterator.result c.loop-number.number-iterator c.next.new.self (search rules) (search rules) (search rules) c.loop-number.yielded c.loop-number.yielded_by c.next.result c.next.ensures.steps c.in-None.is in
    let attributes = many g s c.grammar.ensures.value in
    let lettered = length-map plans (λ a. letter_of a.letter) in
    holding_all s (bounded_of c.args.bounded.now) (map (λ a. letter_of a.letter) plans) (length c.loop-number.yielded) _ (omega arith) c.loop-number.invariant
