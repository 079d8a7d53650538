use Rattle.std.proofs.Common.{◌≡◌, List, map, take, length, vec_items, sym, ap, ◌∙◌, arith}
use lib.ListN.{get_elem?}
use Rattle.std.proofs.lemmas.List.{length-map, take_all}
use Rattle.model.specs.Lists.{numbered}
use Rattle.model.specs.Plan.{Lettered}
use Rattle.model.specs.Scheme as Model
use Rattle.grammar.specs.Views.{attribute_of}
use Rattle.grammar.specs.declared.parts.Attribute.{Attribute}
use Rattle.scheme.specs.Whole.{scheme_of}
use Rattle.plan.specs.Views.{letter_of, sections_of}
use Rattle.plan.specs.declared.plan.AttributePlan.{AttributePlan}
use Rattle.model.specs.Spans.{attribute_sections}
use Rattle.plan.proofs.Rows.{row_more}
use Rattle.plan.proofs.AtPlaces.{at-has}
use Rattle.plan.proofs.Lettering.{lettering_more}
use Rattle.plan.proofs.letters.attribute_plans.Goals as goal

pub figure-figure-requires : goal.figure-figure-requires
figure-figure-requires c =
    let s = scheme_of c.args.figures.now.scheme.now in
    let n = c.loop-number.number in
    let bs = c.deref-attribute-items.result.now in
    let is : map attribute_of bs ≡ s.attributes = ap (map attribute_of) c.deref-attribute-items.ensures.value ∙ ap (λ (t : Model.Scheme). t.attributes) c.grammar.ensures.value in
    ap (λ (qs : List Model.Attribute). get_elem? qs n) (sym is) ∙ at-has attribute_of bs n _ c.loop-number-test.true

pub loop-number-preserved : goal.loop-number-preserved
loop-number-preserved c =
    let s = scheme_of c.args.figures.now.scheme.now in
    let n = c.loop-number.number in
    let bs = c.deref-attribute-items.result.now in
    let old = vec_items c.loop-number.plans in
    let new = vec_items c.push.new.self in
    let f = c.figure-figure.result in
    let row : AttributePlan = record { letter = c.in_ok-letter_of.field-0; sections = f.sections } in
    let here : Lettered s n (letter_of row.letter) = rw (← c.figure-figure.ensures.same, ← c.figure-figure.ensures.numbered) c.in_ok-letter_of.ensures.lettered in
    let sectioned : sections_of row.sections ≡ attribute_sections s n (attribute_of f.attribute) = rw (← c.figure-figure.ensures.same, ← c.figure-figure.ensures.numbered) f.sectioned in (
      c.letter_of.ensures.same ∙ c.loop-number.invariant.0,
      lettering_more (λ a. letter_of a.letter) s n old new row c.in_ok-push.ensures.items here c.loop-number.invariant.1,
      row_more (λ a. sections_of a.sections) attribute_of (attribute_sections s) bs n _ old new row c.loop-number-test.true c.in_ok-push.ensures.items (sectioned ∙ ap (λ (b : Attribute). attribute_sections s n (attribute_of b)) c.figure-figure.ensures.attributed) c.loop-number.invariant.2,
    )

pub returns-clause-planned : goal.returns-clause-planned
returns-clause-planned c =
    let s = scheme_of c.args.figures.now.scheme.now in
    let bs = c.deref-attribute-items.result.now in
    let is : map attribute_of bs ≡ s.attributes = ap (map attribute_of) c.deref-attribute-items.ensures.value ∙ ap (λ (t : Model.Scheme). t.attributes) c.grammar.ensures.value in
    let all : c.loop-number.number ≡ length s.attributes = omega (arith, length-map bs attribute_of, ap (λ (qs : List Model.Attribute). length qs) is) in
    (c.loop-number.invariant.1.0 ∙ all, c.loop-number.invariant.1.1)

pub returns-clause-sectioned : goal.returns-clause-sectioned
returns-clause-sectioned c =
    let s = scheme_of c.args.figures.now.scheme.now in
    let bs = c.deref-attribute-items.result.now in
    let is : map attribute_of bs ≡ s.attributes = ap (map attribute_of) c.deref-attribute-items.ensures.value ∙ ap (λ (t : Model.Scheme). t.attributes) c.grammar.ensures.value in
    let end : take c.loop-number.number bs ≡ bs = take_all c.loop-number.number bs (omega arith) in
    c.loop-number.invariant.2 ∙ ap (λ (cs : List Attribute). numbered (attribute_sections s) 0 (map attribute_of cs)) end ∙ ap (numbered (attribute_sections s) 0) is
